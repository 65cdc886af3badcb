-- What is said of the locks of the two-lock queue, and of the refusals and the values taken there; and of the marks of
-- pockets in both queues.
use Rattle.std.specs.Prelude.{◌≡◌, ◌≢◌, ◌↔◌, ℕ, ◌+◌, Bool, true, false, List, Option, Some, IfSome, IsSome, IsTrue}
use Rattle.std.specs.List.{All}
use Rattle.line_table.specs.declared.lines.Line.{Line}
use Rattle.line_table.specs.declared.lines.Line.TheVariants.{A4, A5, A6, A7, B2, B3, B4, B5, B6, S7, S8, S9}
use Rattle.history.specs.declared.refusals.WornWord.TheVariants.{Next as OfNext, Tail as OfTail}
use Rattle.history.specs.declared.refusals.Refusal.TheVariants.{WornOut}
use Rattle.history.specs.declared.operations.Reply.{Reply}
use Rattle.history.specs.declared.operations.Reply.TheVariants.{Refused}
use Rattle.line_steps.specs.Actors.{Actor}
use Rattle.line_steps.specs.Memory.{Tail, word, node_at, found}
use Rattle.line_steps.specs.Lines.{action, outcome}
use Rattle.step_machine.specs.Machine.{World, actor_of}
use Rattle.step_machine.specs.Places.{IsQueueChain}
use Rattle.step_machine.specs.NonBlocking.{HasTheFront}

-- whether an actor has the tail lock before its line: from A4 or S7, which follow its taking, to A7 or S9, which let it go
abbrev pub has_tail_lock : Option Line → Bool
has_tail_lock (Some A4) = true
has_tail_lock (Some A5) = true
has_tail_lock (Some A6) = true
has_tail_lock (Some A7) = true
has_tail_lock (Some S7) = true
has_tail_lock (Some S8) = true
has_tail_lock (Some S9) = true
has_tail_lock _ = false

-- whether an actor has the head lock before its line: from B2, which follows its taking, to B6, which lets it go
abbrev pub has_head_lock : Option Line → Bool
has_head_lock (Some B2) = true
has_head_lock (Some B3) = true
has_head_lock (Some B4) = true
has_head_lock (Some B5) = true
has_head_lock (Some B6) = true
has_head_lock _ = false

-- a lock's word is the number of an actor exactly where that actor has the lock before its line
abbrev pub LocksNameTheirHolders : World → Type 0
LocksNameTheirHolders w =
    (me : ℕ) (a : Actor) → actor_of w me ≡ Some a →
    ((w.shared.tail_lock ≡ me) ↔ IsTrue (has_tail_lock a.line)) × ((w.shared.head_lock ≡ me) ↔ IsTrue (has_head_lock a.line))

-- a lock's word is 0 or the number of an actor
abbrev pub LocksAreOfActors : World → Type 0
LocksAreOfActors w =
    (w.shared.tail_lock ≢ 0 → IsSome (actor_of w w.shared.tail_lock)) × (w.shared.head_lock ≢ 0 → IsSome (actor_of w w.shared.head_lock))

-- while an actor has linked its node and not yet moved Tail, no other actor's next access is of Tail, and none is that of
-- A5 or S8, which go by what their actor read in Tail
abbrev pub LeavesTailToItsMover : World → Type 0
LeavesTailToItsMover w =
    (me you : ℕ) (a b : Actor) (l : Line) → actor_of w me ≡ Some a → a.line ≡ Some A6 → you ≢ me → actor_of w you ≡ Some b → b.line ≡ Some l →
    (word (action w.setup you b l) ≢ Tail) × (l ≢ A5) × (l ≢ S8)

-- a reply says of no word but Free and Head that it is worn out
abbrev pub IsOfFreeOrHead : Option Reply → Type 0
IsOfFreeOrHead (Some (Refused (WornOut OfNext))) = ⊥
IsOfFreeOrHead (Some (Refused (WornOut OfTail))) = ⊥
IsOfFreeOrHead _ = Unit {0}

-- each actor's next step finds no word but Free and Head worn out
abbrev pub FindsFreeOrHeadWornOut : World → Type 0
FindsFreeOrHeadWornOut w =
    (me : ℕ) (a : Actor) (l : Line) → actor_of w me ≡ Some a → a.line ≡ Some l →
    IsOfFreeOrHead (outcome w.setup (w.steps + 1) me a l (found (action w.setup me a l) w.shared)).reply

-- no operation was refused since a word but Free and Head is worn out
abbrev pub RefusedForFreeOrHead : World → Type 0
RefusedForFreeOrHead w = All (λ o. IsOfFreeOrHead o.reply) w.operations

-- an actor at B5 has the queue's first value, which it then answers
abbrev pub TakesTheFrontAtB5 : World → Type 0
TakesTheFrontAtB5 w =
    (me : ℕ) (a : Actor) (queue : List ℕ) → actor_of w me ≡ Some a → a.line ≡ Some B5 →
    IsQueueChain w.setup.bits w.shared.nodes w.shared.head.node queue → HasTheFront w.shared queue a

-- the mark of a node in a pocket is the count of the node's `next`
abbrev pub MarksAreCounts : World → Type 0
MarksAreCounts w =
    (me : ℕ) (a : Actor) → actor_of w me ≡ Some a → IfSome a.pocket (λ h. h.mark ≡ (node_at w.shared h.node).next.count)
