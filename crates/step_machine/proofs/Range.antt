-- Each step keeps the numbers of the shared words and of its actor in range.
use Rattle.std.proofs.Common.{◌≡◌, ℕ, zero, suc, ◌+◌, ◌-◌, ◌<◌, ◌≤◌, Bool, true, false, ◌⊎◌, inl, inr, nat_eq, if◌then◌else◌, Option, Some, None, IfSome, List, [], ◌∷◌, get_or, set, refl, ◌∙◌, arith}
use Rattle.std.proofs.Math.ListN.{length-set}
use Rattle.std.proofs.lemmas.Bool.{eqb-false, eqb-true}
use Rattle.std.proofs.lemmas.List.Elements.{All-set}
use Rattle.std.specs.List.{All}
use Rattle.step_machine.specs.Below.{reserved_node, Ref, ref, shut_ref, Line, N4, N5, F2, F3, E2, E9, E13, E17, D10, D13, A1, A3, A5, A6, A7, B1, B5}
use Rattle.step_machine.specs.Below.{B6, S4, S5, S6, S8, S9, Setup, Node, Held, Actor, blank, Shared, Word, Content, Action, performed, content, same}
use Rattle.step_machine.specs.Below.{load, store, clear, exchange, Fresh, Free, Head, Tail, Tail_lock, Head_lock, Next, Value_of, put, raised}
use Rattle.step_machine.specs.Below.{raised_end, action}
use Rattle.step_machine.specs.Range.{RefInRange, NextInRange, ValueInRange, NodeInRange, SharedInRange, HeldInRange, RegistersInRange, LineInRange, ActorInRange}
use Rattle.step_machine.proofs.Choices.{either}

-- what is in range stays so where more nodes are used
ref_weakens : (limit n m : ℕ) (r : Ref) → n ≤ m → RefInRange limit n r → RefInRange limit m r
ref_weakens limit n m r h g = let b : r.node ≤ n = g.node in record { node = omega arith; count = g.count }

next_weakens : (bits limit n m : ℕ) (r : Ref) → n ≤ m → NextInRange bits limit n r → NextInRange bits limit m r
next_weakens bits limit n m r h g = record { node = go g.node; count = g.count }
  where
    go : (r.node ≤ n) ⊎ (r.node ≡ reserved_node bits) → (r.node ≤ m) ⊎ (r.node ≡ reserved_node bits)
    go (inl b) = inl (omega arith)
    go (inr e) = inr e

-- a reference in range is one that may follow a node
pub as_next : (bits limit n : ℕ) (r : Ref) → RefInRange limit n r → NextInRange bits limit n r
as_next bits limit n r h = record { node = inl h.node; count = h.count }

node_weakens : (bits limit n m k : ℕ) (x : Node) → n ≤ m → NodeInRange bits limit n k x → NodeInRange bits limit m k x
node_weakens bits limit n m k x h g = record { next = next_weakens bits limit n m x.next h g.next; value = g.value }

pub pocket_weakens : (limit n m : ℕ) (p : Option Held) → n ≤ m → IfSome p (HeldInRange limit n) → IfSome p (HeldInRange limit m)
pocket_weakens limit n m None h g = tt
pocket_weakens limit n m (Some held) h g =
    let b : held.node ≤ n = g.node in record { node = omega arith; mark = g.mark }

pub registers_weaken : (s : Setup) (n m k : ℕ) (a : Actor) → n ≤ m → RegistersInRange s n k a → RegistersInRange s m k a
registers_weaken s n m k a h g =
    let f : a.f ≤ n = g.f in
    let node : a.node ≤ n = g.node in
    record {
      op = g.op;
      f = omega arith;
      top = ref_weakens s.limit n m a.top h g.top;
      node = omega arith;
      mark = g.mark;
      tail = ref_weakens s.limit n m a.tail h g.tail;
      head = ref_weakens s.limit n m a.head h g.head;
      next = next_weakens s.bits s.limit n m a.next h g.next;
      val = g.val;
    }

pub actor_weakens : (s : Setup) (n m k : ℕ) (a : Actor) → n ≤ m → ActorInRange s n k a → ActorInRange s m k a
actor_weakens s n m k a h g =
    record {
      registers = registers_weaken s n m k a h g.registers;
      pocket = pocket_weakens s.limit n m a.pocket h g.pocket;
      line = g.line;
    }

-- what a word may hold
abbrev pub ContentInRange : (s : Setup) (n k : ℕ) (x : Word) → Content x → Type 0
ContentInRange s n k Fresh c = c ≤ n
ContentInRange s n k Free r = RefInRange s.limit n r
ContentInRange s n k Head r = RefInRange s.limit n r
ContentInRange s n k Tail r = RefInRange s.limit n r
ContentInRange s n k Tail_lock c = c ≤ k
ContentInRange s n k Head_lock c = c ≤ k
ContentInRange s n k (Next i) r = NextInRange s.bits s.limit n r
ContentInRange s n k (Value_of i) v = ValueInRange k v

pub content_weakens : (s : Setup) (n m k : ℕ) (x : Word) (c : Content x) → n ≤ m → ContentInRange s n k x c → ContentInRange s m k x c
content_weakens s n m k Fresh c h g = omega arith
content_weakens s n m k Free r h g = ref_weakens s.limit n m r h g
content_weakens s n m k Head r h g = ref_weakens s.limit n m r h g
content_weakens s n m k Tail r h g = ref_weakens s.limit n m r h g
content_weakens s n m k Tail_lock c h g = g
content_weakens s n m k Head_lock c h g = g
content_weakens s n m k (Next i) r h g = next_weakens s.bits s.limit n m r h g
content_weakens s n m k (Value_of i) v h g = g

-- what may be written into a word: Fresh only rises
abbrev pub MayWrite : (s : Setup) (n k : ℕ) (x : Word) → Content x → Type 0
MayWrite s n k Fresh c = (n ≤ c) × (c ≤ s.size)
MayWrite s n k x c = ContentInRange s n k x c

-- what an access writes where it writes
abbrev pub WritesInRange : (s : Setup) (k : ℕ) → Shared → Action → Type 0
WritesInRange s k m (load x) = Unit {0}
WritesInRange s k m (store x c) = MayWrite s m.fresh k x c
WritesInRange s k m (clear n) = Unit {0}
WritesInRange s k m (exchange x old new) = same x (content x m) old ≡ true → MayWrite s m.fresh k x new

pub raised_in_range : (s : Setup) (n : ℕ) (r : Ref) (to : ℕ) → RefInRange s.limit n r → (to ≤ n) ⊎ (to ≡ reserved_node s.bits) → RefInRange s.limit n (raised s r to)
raised_in_range s n r to h t = closed (nat_eq to (reserved_node s.bits)) refl t
  where
    go : (b : Bool) → nat_eq r.count s.limit ≡ b → to ≤ n → RefInRange s.limit n (if b then r else ref to (r.count + 1))
    go true e low = h
    go false e low =
        let ne : ¬ (r.count ≡ s.limit) = eqb-false r.count s.limit e in
        let le : r.count ≤ s.limit = h.count in
        record { node = low; count = omega arith }

    closed : (b : Bool) → nat_eq to (reserved_node s.bits) ≡ b → (to ≤ n) ⊎ (to ≡ reserved_node s.bits)
        → RefInRange s.limit n (if b then r else if nat_eq r.count s.limit then r else ref to (r.count + 1))
    closed true e t = h
    closed false e (inl low) = go (nat_eq r.count s.limit) refl low
    closed false e (inr is) = absurd (eqb-false to (reserved_node s.bits) e is)

-- the same of a `next`
pub raised_next_in_range : (s : Setup) (n : ℕ) (r : Ref) (to : ℕ) → NextInRange s.bits s.limit n r → to ≤ n → NextInRange s.bits s.limit n (raised s r to)
raised_next_in_range s n r to h low = closed (nat_eq to (reserved_node s.bits))
  where
    go : (b : Bool) → nat_eq r.count s.limit ≡ b → NextInRange s.bits s.limit n (if b then r else ref to (r.count + 1))
    go true e = h
    go false e =
        let ne : ¬ (r.count ≡ s.limit) = eqb-false r.count s.limit e in
        let le : r.count ≤ s.limit = h.count in
        record { node = inl low; count = omega arith }

    closed : (b : Bool) → NextInRange s.bits s.limit n (if b then r else if nat_eq r.count s.limit then r else ref to (r.count + 1))
    closed true = h
    closed false = go (nat_eq r.count s.limit) refl

pub raised_end_in_range : (s : Setup) (n : ℕ) (r : Ref) → NextInRange s.bits s.limit n r → NextInRange s.bits s.limit n (raised_end s r)
raised_end_in_range s n r h = go (nat_eq r.count s.limit) refl
  where
    go : (b : Bool) → nat_eq r.count s.limit ≡ b → NextInRange s.bits s.limit n (if b then r else shut_ref s.bits (r.count + 1))
    go true e = h
    go false e =
        let ne : ¬ (r.count ≡ s.limit) = eqb-false r.count s.limit e in
        let le : r.count ≤ s.limit = h.count in
        record { node = inr refl; count = omega arith }

fresh_raised : (size fresh f : ℕ) → f < size → nat_eq fresh f ≡ true → (fresh ≤ f + 1) × (f + 1 ≤ size)
fresh_raised size fresh f h e = let same : fresh ≡ f = eqb-true fresh f e in (omega arith, omega arith)

pub writes : (s : Setup) (k me : ℕ) (m : Shared) (a : Actor) (l : Line) → me ≤ k → RegistersInRange s m.fresh k a → LineInRange s.size a.f (Some l) → WritesInRange s k m (action s me a l)
writes s k me m a N4 i h n = λ e. raised_in_range s m.fresh a.top a.next.node h.top h.next.node
writes s k me m a N5 i h n = fresh_raised s.size m.fresh a.f n
writes s k me m a F2 i h n = record { node = inl h.top.node; count = h.mark }
writes s k me m a F3 i h n = λ e. raised_in_range s m.fresh a.top a.node h.top (inl h.node)
writes s k me m a E2 i h n = h.val
writes s k me m a E9 i h n = λ e. raised_next_in_range s m.fresh a.next a.node h.next h.node
writes s k me m a E13 i h n = λ e. raised_in_range s m.fresh a.tail a.next.node h.tail h.next.node
writes s k me m a E17 i h n = λ e. raised_in_range s m.fresh a.tail a.node h.tail (inl h.node)
writes s k me m a D10 i h n = λ e. raised_in_range s m.fresh a.tail a.next.node h.tail h.next.node
writes s k me m a D13 i h n = λ e. raised_in_range s m.fresh a.head a.next.node h.head h.next.node
writes s k me m a A1 i h n = h.val
writes s k me m a A3 i h n = λ e. i
writes s k me m a A5 i h n = λ e. record { node = inl h.node; count = omega arith }
writes s k me m a A6 i h n = record { node = h.node; count = omega arith }
writes s k me m a A7 i h n = omega arith
writes s k me m a B1 i h n = λ e. i
writes s k me m a B5 i h n = raised_in_range s m.fresh a.head a.next.node h.head h.next.node
writes s k me m a B6 i h n = omega arith
writes s k me m a S4 i h n = λ e. raised_end_in_range s m.fresh a.next h.next
writes s k me m a S5 i h n = λ e. raised_in_range s m.fresh a.tail a.next.node h.tail h.next.node
writes s k me m a S6 i h n = λ e. i
writes s k me m a S8 i h n = λ e. record { node = inr refl; count = omega arith }
writes s k me m a S9 i h n = omega arith
writes s k me m a _ i h n = tt

-- the node of a number, also where there is none
node_in_range : (bits limit n k : ℕ) (ns : List Node) (i : ℕ) → All (NodeInRange bits limit n k) ns → NodeInRange bits limit n k (get_or ns i blank)
node_in_range bits limit n k [] i h =
    record {
      next = record { node = inl (omega arith); count = omega arith };
      value = record { from = omega arith; body = omega arith };
    }
node_in_range bits limit n k (x ∷ xs) zero h = h 0 blank (omega arith)
node_in_range bits limit n k (x ∷ xs) (suc i) h = node_in_range bits limit n k xs i (λ j d g. h (suc j) d (omega arith))

pub found_in_range : (s : Setup) (k : ℕ) (m : Shared) (x : Word) → SharedInRange s k m → ContentInRange s m.fresh k x (content x m)
found_in_range s k m Fresh h = omega arith
found_in_range s k m Free h = h.free
found_in_range s k m Head h = h.head
found_in_range s k m Tail h = h.tail
found_in_range s k m Tail_lock h = h.tail_lock
found_in_range s k m Head_lock h = h.head_lock
found_in_range s k m (Next i) h = (node_in_range s.bits s.limit m.fresh k m.nodes (i - 1) h.nodes).next
found_in_range s k m (Value_of i) h = (node_in_range s.bits s.limit m.fresh k m.nodes (i - 1) h.nodes).value

-- the shared words with other words before the nodes
shared_with : (s : Setup) (k : ℕ) (m : Shared) (free head tail : Ref) (t h : ℕ) → SharedInRange s k m → RefInRange s.limit m.fresh free
    → RefInRange s.limit m.fresh head → RefInRange s.limit m.fresh tail → t ≤ k → h ≤ k
    → SharedInRange s k (record m { free = free; head = head; tail = tail; tail_lock = t; head_lock = h })
shared_with s k m free head tail t h g f hd tl lt lh =
    record {
      some_fresh = g.some_fresh;
      fresh = g.fresh;
      free = f;
      head = hd;
      tail = tl;
      tail_lock = lt;
      head_lock = lh;
      nodes = g.nodes;
      all_nodes = g.all_nodes;
    }

-- the shared words with another node
shared_node : (s : Setup) (k : ℕ) (m : Shared) (i : ℕ) (x : Node) → SharedInRange s k m → NodeInRange s.bits s.limit m.fresh k x → SharedInRange s k (record m { nodes = set m.nodes i x })
shared_node s k m i x g h =
    record {
      some_fresh = g.some_fresh;
      fresh = g.fresh;
      free = g.free;
      head = g.head;
      tail = g.tail;
      tail_lock = g.tail_lock;
      head_lock = g.head_lock;
      nodes = All-set (NodeInRange s.bits s.limit m.fresh k) m.nodes i x h g.nodes;
      all_nodes = length-set m.nodes i x ∙ g.all_nodes;
    }

-- the shared words where more nodes are used
shared_fresh : (s : Setup) (k : ℕ) (m : Shared) (c : ℕ) → SharedInRange s k m → m.fresh ≤ c → c ≤ s.size → SharedInRange s k (record m { fresh = c })
shared_fresh s k m c g h i =
    let some : 1 ≤ m.fresh = g.some_fresh in
    record {
      some_fresh = omega arith;
      fresh = i;
      free = ref_weakens s.limit m.fresh c m.free h g.free;
      head = ref_weakens s.limit m.fresh c m.head h g.head;
      tail = ref_weakens s.limit m.fresh c m.tail h g.tail;
      tail_lock = g.tail_lock;
      head_lock = g.head_lock;
      nodes = λ j d b. node_weakens s.bits s.limit m.fresh c k _ h (g.nodes j d b);
      all_nodes = g.all_nodes;
    }

pub put_in_range : (s : Setup) (k : ℕ) (m : Shared) (x : Word) (c : Content x) → SharedInRange s k m → MayWrite s m.fresh k x c → SharedInRange s k (put x c m)
put_in_range s k m Fresh c h g = shared_fresh s k m c h g.0 g.1
put_in_range s k m Free c h g = shared_with s k m c m.head m.tail m.tail_lock m.head_lock h g h.head h.tail h.tail_lock h.head_lock
put_in_range s k m Head c h g = shared_with s k m m.free c m.tail m.tail_lock m.head_lock h h.free g h.tail h.tail_lock h.head_lock
put_in_range s k m Tail c h g = shared_with s k m m.free m.head c m.tail_lock m.head_lock h h.free h.head g h.tail_lock h.head_lock
put_in_range s k m Tail_lock c h g = shared_with s k m m.free m.head m.tail c m.head_lock h h.free h.head h.tail g h.head_lock
put_in_range s k m Head_lock c h g = shared_with s k m m.free m.head m.tail m.tail_lock c h h.free h.head h.tail h.tail_lock g
put_in_range s k m (Next i) c h g =
    let old : NodeInRange s.bits s.limit m.fresh k (get_or m.nodes (i - 1) blank) = node_in_range s.bits s.limit m.fresh k m.nodes (i - 1) h.nodes in
    shared_node s k m (i - 1) _ h (record { next = g; value = old.value })
put_in_range s k m (Value_of i) c h g =
    let old : NodeInRange s.bits s.limit m.fresh k (get_or m.nodes (i - 1) blank) = node_in_range s.bits s.limit m.fresh k m.nodes (i - 1) h.nodes in
    shared_node s k m (i - 1) _ h (record { next = old.next; value = g })

put_rises : (s : Setup) (k : ℕ) (m : Shared) (x : Word) (c : Content x) → MayWrite s m.fresh k x c → m.fresh ≤ (put x c m).fresh
put_rises s k m Fresh c g = g.0
put_rises s k m _ c g = omega arith

-- an access keeps the shared words in range, and Fresh only rises
pub record Accessed (s : Setup) (k : ℕ) (m m' : Shared) : Type 0 where
  pub range : SharedInRange s k m'
  pub rises : m.fresh ≤ m'.fresh

put_access : (s : Setup) (k : ℕ) (m : Shared) (x : Word) (c : Content x) → SharedInRange s k m → MayWrite s m.fresh k x c → Accessed s k m (put x c m)
put_access s k m x c h g = record { range = put_in_range s k m x c h g; rises = put_rises s k m x c g }

pub performed_in_range : (s : Setup) (k : ℕ) (m : Shared) (a : Action) → SharedInRange s k m → WritesInRange s k m a → Accessed s k m (performed a m)
performed_in_range s k m (load x) h g = record { range = h; rises = omega arith }
performed_in_range s k m (store x c) h g = put_access s k m x c h g
performed_in_range s k m (clear i) h g =
    let old : NodeInRange s.bits s.limit m.fresh k (get_or m.nodes (i - 1) blank) = node_in_range s.bits s.limit m.fresh k m.nodes (i - 1) h.nodes in
    put_access s k m (Next i) _ h (record { node = inl (omega arith); count = old.next.count })
performed_in_range s k m (exchange x old new) h g =
    either (Accessed s k m) (same x (content x m) old) (λ e. put_access s k m x new h (g e)) (λ e. record { range = h; rises = omega arith })
