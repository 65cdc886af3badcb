-- The shared words by their names, what each holds as a query tells it, which one a step touches, and what it expects there.
use Rattle.std.specs.Prelude.{ℕ, Option, Some, None, if◌then◌else◌}
use Rattle.step_machine.specs.Below.{Ref, is_shut, Line, Actor, Shared, node_at, Word, Fresh, Free, Head, Tail, Tail_lock, Head_lock, Next, Value_of, Content, Action, exchange, word, action}
use Rattle.step_machine.specs.declared.accesses.WordName.{WordName}
use Rattle.step_machine.specs.declared.accesses.WordName.TheVariants.{Fresh as NamesFresh, Free as NamesFree, Head as NamesHead, Tail as NamesTail, TailLock}
use Rattle.step_machine.specs.declared.accesses.WordName.TheVariants.{HeadLock, Next as NamesNext, Value as NamesValue}
use Rattle.step_machine.specs.declared.accesses.Contents.{Contents}
use Rattle.step_machine.specs.declared.accesses.Contents.TheVariants.{Number, Reference, Closed, Value}
use Rattle.step_machine.specs.Machine.{World}

-- the word of a name
abbrev pub word_named : WordName → Word
word_named NamesFresh = Fresh
word_named NamesFree = Free
word_named NamesHead = Head
word_named NamesTail = Tail
word_named TailLock = Tail_lock
word_named HeadLock = Head_lock
word_named (NamesNext n) = Next n
word_named (NamesValue n) = Value_of n

-- a reference as it is told: a closed end by its count, any other one by its node and its count
abbrev pub reference_told : (bits : ℕ) → Ref → Contents
reference_told bits r = if is_shut bits r then Closed r.count else Reference r.node r.count

-- what a word holds in these shared words, as it is told where so many bits hold a node
abbrev pub contents_in : (bits : ℕ) → Word → Shared → Contents
contents_in bits Fresh s = Number s.fresh
contents_in bits Free s = reference_told bits s.free
contents_in bits Head s = reference_told bits s.head
contents_in bits Tail s = reference_told bits s.tail
contents_in bits Tail_lock s = Number s.tail_lock
contents_in bits Head_lock s = Number s.head_lock
contents_in bits (Next n) s = reference_told bits (node_at s n).next
contents_in bits (Value_of n) s = Value (node_at s n).value

-- the word that a step of an actor before a line touches; none where it has no call
abbrev pub touched_at : World → (me : ℕ) → Actor → Option Line → Option Word
touched_at w me a None = None
touched_at w me a (Some l) = Some (word (action w.setup me a l))

-- the word that an actor's next step touches; none where it has no call or isn't there
abbrev pub touched_by : World → (me : ℕ) → Option Actor → Option Word
touched_by w me None = None
touched_by w me (Some a) = touched_at w me a a.line

-- a content of a word, as it is told where so many bits hold a node
abbrev pub content_told : (bits : ℕ) → (x : Word) → Content x → Contents
content_told bits Fresh n = Number n
content_told bits Free r = reference_told bits r
content_told bits Head r = reference_told bits r
content_told bits Tail r = reference_told bits r
content_told bits Tail_lock n = Number n
content_told bits Head_lock n = Number n
content_told bits (Next n) r = reference_told bits r
content_told bits (Value_of n) v = Value v

-- what an access expects to find, as it is told: the old content of a compare-exchange; none where it is another access
abbrev pub expected_of : (bits : ℕ) → Action → Option Contents
expected_of bits (exchange x old new) = Some (content_told bits x old)
expected_of bits _ = None

-- what a step of an actor before a line expects to find; none where it has no call
abbrev pub expected_at : (bits : ℕ) → World → (me : ℕ) → Actor → Option Line → Option Contents
expected_at bits w me a None = None
expected_at bits w me a (Some l) = expected_of bits (action w.setup me a l)

-- what an actor's next step expects to find; none where it has no call or isn't there
abbrev pub expected_by : (bits : ℕ) → World → (me : ℕ) → Option Actor → Option Contents
expected_by bits w me None = None
expected_by bits w me (Some a) = expected_at bits w me a a.line
