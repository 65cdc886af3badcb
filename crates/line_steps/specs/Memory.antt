-- The shared words, by name, what each holds, and one access of one word.
use Rattle.std.specs.Prelude.{ℕ, ◌-◌, Bool, ◌&&◌, List, nat_eq, slice_index_or, slice_set, if◌then◌else◌}
use Rattle.counted_ref.specs.Ref.{Ref, null, same_ref}
use Rattle.history.specs.declared.operations.Taken.{Taken}
use Rattle.line_steps.specs.Actors.{Node}

-- the value of nobody, which a node holds before it is used
abbrev pub nobody : Taken
nobody = record { from = 0; body = 0 }

-- a node that was never used
abbrev pub blank : Node
blank = record { next = null; value = nobody }

-- the shared words; `nodes` are the nodes from 1 on, and a lock is 0 or the number of the actor that holds it
pub record Shared : Type 0 where
  pub fresh : ℕ
  pub free : Ref
  pub head : Ref
  pub tail : Ref
  pub tail_lock : ℕ
  pub head_lock : ℕ
  pub nodes : List Node

-- the names of the shared words
pub data Word : Type 0 where
  Fresh Free Head Tail Tail_lock Head_lock : Word
  Next Value_of : (node : ℕ) → Word

-- what a word holds
abbrev pub Content : Word → Type 0
Content Fresh = ℕ
Content Free = Ref
Content Head = Ref
Content Tail = Ref
Content Tail_lock = ℕ
Content Head_lock = ℕ
Content (Next n) = Ref
Content (Value_of n) = Taken

-- the node of a number, which is blank where there is none
abbrev pub node_at : Shared → ℕ → Node
node_at s n = slice_index_or s.nodes (n - 1) blank

-- what a word holds in these shared words
abbrev pub content : (x : Word) → Shared → Content x
content Fresh s = s.fresh
content Free s = s.free
content Head s = s.head
content Tail s = s.tail
content Tail_lock s = s.tail_lock
content Head_lock s = s.head_lock
content (Next n) s = (node_at s n).next
content (Value_of n) s = (node_at s n).value

-- the shared words after one word was written
abbrev pub put : (x : Word) → Content x → Shared → Shared
put Fresh c s = record s { fresh = c }
put Free c s = record s { free = c }
put Head c s = record s { head = c }
put Tail c s = record s { tail = c }
put Tail_lock c s = record s { tail_lock = c }
put Head_lock c s = record s { head_lock = c }
put (Next n) c s = record s { nodes = slice_set s.nodes (n - 1) (record (node_at s n) { next = c }) }
put (Value_of n) c s = record s { nodes = slice_set s.nodes (n - 1) (record (node_at s n) { value = c }) }

-- whether two contents of a word are the same
abbrev pub same : (x : Word) → Content x → Content x → Bool
same Fresh a b = nat_eq a b
same Free a b = same_ref a b
same Head a b = same_ref a b
same Tail a b = same_ref a b
same Tail_lock a b = nat_eq a b
same Head_lock a b = nat_eq a b
same (Next n) a b = same_ref a b
same (Value_of n) a b = nat_eq a.from b.from && nat_eq a.body b.body

-- one access of one word: a load, a store, a fetch_and that clears the node bits of a `next`, or a compare-exchange
pub data Action : Type 0 where
  load : Word → Action
  store : (x : Word) → Content x → Action
  clear : (node : ℕ) → Action
  exchange : (x : Word) → (old new : Content x) → Action

-- the word that an access names
abbrev pub word : Action → Word
word (load x) = x
word (store x c) = x
word (clear n) = Next n
word (exchange x old new) = x

-- what an access finds is what its word held before
abbrev pub Found : Action → Type 0
Found a = Content (word a)

-- what an access finds in these shared words
abbrev pub found : (a : Action) → Shared → Found a
found a s = content (word a) s

-- the shared words after an access; an exchange writes the new content where the word holds the old one
abbrev pub performed : Action → Shared → Shared
performed (load x) s = s
performed (store x c) s = put x c s
performed (clear n) s = put (Next n) (record (node_at s n).next { node = 0 }) s
performed (exchange x old new) s = if same x (content x s) old then put x new s else s
