-- A running pop: what it remembers before each line, and what its turns come to.
use mathlib.Core.List.{IsPrefix}
use Rattle.std.specs.Prelude.{◌≡◌, ℕ, zero, suc, ◌≤◌, Bool, true, false, if◌then◌else◌, nat_eq, List, ◌++◌, Option, Some, None}
use Rattle.counted_ref.specs.Ref.{Ref, ref_of, is_null, is_shut}
use Rattle.line_table.specs.declared.lines.Line.{Line}
use Rattle.line_table.specs.declared.lines.Line.TheVariants.{B1, B2, B3, B4, B5, B6, F1}
use Rattle.history.specs.declared.operations.Entry.TheVariants.{Pop}
use Rattle.history.specs.declared.operations.Op.TheVariants.{Deq}
use Rattle.history.specs.declared.operations.Reply as replies
use Rattle.history.specs.declared.operations.Reply.TheVariants as reply
use Rattle.history.specs.declared.refusals.Refusal.{Refusal}
use Rattle.history.specs.declared.refusals.Refusal.TheVariants.{WornOut, Closed}
use Rattle.history.specs.declared.refusals.WornWord.TheVariants.{Head as OfHead}
use Rattle.history.specs.Answers.{FoundEmpty}
use Rattle.node_arena.specs.Machine.{Setup, Actor}
use Rattle.node_arena.specs.Traces.{Event}
use Rattle.node_arena.specs.Prologues.{Prologue, begins, continues, after_prologue}
use Rattle.node_arena.specs.Arenas.{Arena}
use Rattle.node_arena.specs.declared.seats.Seat.{Seat}
use Rattle.node_arena.specs.Knowledge.{known_by}
use Rattle.node_arena.specs.Seats.{IsSeat, IsBefore, KeepsStored, KeepsSlots, DidStep, view}
use Rattle.node_arena.specs.Loads.{TakesSlot}
use Rattle.node_arena.specs.Turns.{failed_turns}
use Rattle.node_arena.specs.Paths.{ExtendsPath, FindsShutEmpty, Acts, FailedAt, EndedAt, IsRefusedAt}
use Rattle.node_arena.specs.Machine.{value_of}
use Rattle.free_list.specs.declared.outcomes.RowOutcome.{RowOutcome}
use Rattle.free_list.specs.declared.outcomes.RowOutcome.TheVariants.{Goes, Ends}
use Rattle.free_list.specs.declared.outcomes.Reply.{Reply}
use Rattle.free_list.specs.declared.outcomes.Reply.TheVariants.{Done as IsDone, Value as IsValue, Empty as IsEmpty, Refused as IsRefused}

-- what a running pop remembers
pub record Running : Type 0 where
  pub head : Ref
  pub next : Ref
  pub val : ℕ
  pub node : ℕ
  pub mark : ℕ
  pub due : Option Reply

-- how a pop sets out: its first turn begins a dequeue, and a later one goes on
abbrev pub popping : ℕ → Prologue
popping zero = begins Deq
popping (suc n) = continues

-- where a pop goes once the lock was let go: a value's node is freed, and else the call ends
abbrev pub unlocked_as : Option Reply → Running → RowOutcome Running
unlocked_as None a = Goes F1 a
unlocked_as (Some (IsValue word)) a = Goes F1 a
unlocked_as (Some reply) a = Ends reply

-- what a running pop makes of the number found at a line
abbrev pub follow : Setup → Running → Line → ℕ → RowOutcome Running
follow z a B1 n = if nat_eq n 0 then Goes B2 a else Goes B1 a
follow z a B2 n = Goes B3 (record a { head = ref_of z.bits n })
follow z a B3 n =
    let b = record a { next = ref_of z.bits n } in
    if is_null (ref_of z.bits n) then Goes B6 (record b { due = Some IsEmpty })
    else if is_shut z.bits (ref_of z.bits n) then Goes B6 (record b { due = Some (IsRefused Closed) })
    else Goes B4 b
follow z a B4 n =
    let b = record a { val = n } in
    if nat_eq a.head.count z.limit then Goes B6 (record b { due = Some (IsRefused (WornOut OfHead)) }) else Goes B5 b
follow z a B5 n = Goes B6 (record a { node = a.head.node; mark = a.next.count; due = Some (IsValue a.val) })
follow z a B6 n = unlocked_as a.due a
follow z a l n = Goes l a

-- whether a try of the lock got it
abbrev pub has_lock : RowOutcome Running → Bool
has_lock (Goes B2 a) = true
has_lock outcome = false

-- the reply that is due, in the words of the machine
abbrev pub told_by : Option Reply → Option replies.Reply
told_by None = None
told_by (Some IsDone) = Some reply.Done
told_by (Some (IsValue word)) = Some (reply.Value (value_of word))
told_by (Some IsEmpty) = Some reply.Empty
told_by (Some (IsRefused refusal)) = Some (reply.Refused refusal)

-- what is due, and with a value the node that comes free
pub record KnowsDue (b : Actor) (a : Running) (due : Option Reply) : Type 0 where
  pub told : b.due ≡ told_by due
  pub node : (word : ℕ) → due ≡ Some (IsValue word) → b.node ≡ a.node
  pub mark : (word : ℕ) → due ≡ Some (IsValue word) → b.mark ≡ a.mark

-- which of its actor's registers a running pop has before a line
abbrev pub AgreesAt : Line → Actor → Running → Type 0
AgreesAt B3 b a = b.head ≡ a.head
AgreesAt B4 b a = (b.head ≡ a.head) × (b.next ≡ a.next)
AgreesAt B5 b a = (b.head ≡ a.head) × (b.next ≡ a.next) × (b.val ≡ value_of a.val)
AgreesAt B6 b a = KnowsDue b a a.due
AgreesAt l b a = Unit {0}

-- a seat's actor, led there, stands before a line of a pop, and the call has its registers
pub record CallIsAt {T : Type 0} (r : Arena) (s : Seat T) (prologue : Prologue) (l : Line) (a : Running) : Type 0 where
  pub before : IsBefore r s prologue l
  pub knows : AgreesAt l (after_prologue r.plan.setup (view s).number prologue (view s).actor) a

-- the seat made its step at a line, and the call made of the number found what the line says
pub record Follows {T : Type 0} (r : Arena) (s t : Seat T) (prologue : Prologue) (l : Line) (a : Running) (out : RowOutcome Running) : Type 0 where
  pub found : ℕ
  pub did : DidStep r s t prologue l found
  pub leads_to : out ≡ follow r.plan.setup a l found

-- a value was taken, and the node that comes free is in the hand
pub record Took {T : Type 0} (r : Arena) (s t : Seat T) (es : List Event) (a : Running) : Type 0 where
  pub over : (view t).actor.line ≡ Some F1
  pub due : (view t).actor.due ≡ Some (reply.Value (value_of a.val))
  pub node : (view t).actor.node ≡ a.node
  pub mark : (view t).actor.mark ≡ a.mark
  pub acts : Acts (view s) (view t) (Pop (view s).number (value_of a.val)) es

-- the queue was found empty
pub record SawEmpty {T : Type 0} (s t : Seat T) (es : List Event) : Type 0 where
  pub over : (view t).actor.line ≡ None
  pub path : (view t).path ≡ (view s).path ++ es
  pub run : IsPrefix (view s).ran (view t).ran
  pub found : FoundEmpty (known_by (view s)) (known_by (view t))

-- the queue was found shut and empty
pub record SawShut {T : Type 0} (r : Arena) (s t : Seat T) (es : List Event) : Type 0 where
  pub over : (view t).actor.line ≡ None
  pub finds : FindsShutEmpty (view s) (view t) es
  pub cause : EndedAt r s (view t).ran es (IsRefusedAt r.plan.setup (view s).number Closed)

-- Head was found worn out
pub record SawWorn {T : Type 0} (r : Arena) (s t : Seat T) (es : List Event) (refusal : Refusal) : Type 0 where
  pub over : (view t).actor.line ≡ None
  pub walks : ExtendsPath (view s) (view t) es
  pub is : refusal ≡ WornOut OfHead
  pub cause : EndedAt r s (view t).ran es (IsRefusedAt r.plan.setup (view s).number (WornOut OfHead))

-- why a pop ends under the lock: the queue was found shut and empty, or Head worn out
abbrev pub Stops : {T : Type 0} → Arena → Seat T → Seat T → List Event → Refusal → Type 0
Stops r s t es Closed = SawShut r s t es
Stops r s t es refusal = SawWorn r s t es refusal

-- what the lines under the lock come to
abbrev pub PoppedUnderLock : {T : Type 0} → Arena → Seat T → Seat T → List Event → RowOutcome Running → Type 0
PoppedUnderLock r s t es (Goes l a) = Took r s t es a
PoppedUnderLock r s t es (Ends IsEmpty) = SawEmpty s t es
PoppedUnderLock r s t es (Ends (IsRefused refusal)) = Stops r s t es refusal
PoppedUnderLock r s t es (Ends reply) = ⊥

-- the slot of the value that was taken came out with the seat, and else the slots that are out with it are those that were
abbrev pub SlotsUnderLock : {T : Type 0} → Arena → Seat T → Seat T → RowOutcome Running → Type 0
SlotsUnderLock r s t (Goes l a) = TakesSlot r (value_of a.val) s t
SlotsUnderLock r s t (Ends reply) = KeepsSlots s t

-- the lines under the lock, from B2 to B6
pub record PopsUnderLock {T : Type 0} (r : Arena) (s t : Seat T) (out : RowOutcome Running) : Type 0 where
  pub seat : IsSeat r t
  pub empty : (view t).actor.pocket ≡ None
  pub stored : KeepsStored s t
  pub slots : SlotsUnderLock r s t out
  pub lines : List Event
  pub never : failed_turns lines ≡ 0
  pub fronted : PoppedUnderLock r s t lines out

-- a pop after so many failed turns since it began
pub record Trying {T : Type 0} (r : Arena) (s t : Seat T) (n : ℕ) : Type 0 where
  pub before : IsBefore r t (popping n) B1
  pub stored : KeepsStored s t
  pub slots : KeepsSlots s t
  pub lines : List Event
  pub walks : ExtendsPath (view s) (view t) lines
  pub failed : failed_turns lines ≡ n
  pub last : 1 ≤ n → FailedAt lines
