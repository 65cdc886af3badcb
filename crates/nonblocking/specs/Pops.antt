-- A running pop: what it remembers before each line, and what its turns come to.
use mathlib.Core.List.{IsPrefix}
use Rattle.std.specs.Prelude.{◌≡◌, ℕ, zero, suc, ◌≤◌, if◌then◌else◌, nat_eq, List, ◌++◌, Option, Some, None, Result}
use Rattle.counted_ref.specs.Ref.{Ref, ref_of, is_null, is_shut, same_ref}
use Rattle.line_table.specs.declared.lines.Line.{Line}
use Rattle.line_table.specs.declared.lines.Line.TheVariants.{D2, D3, D4, D5, D10, D12, D13, F1}
use Rattle.history.specs.declared.operations.Entry.TheVariants.{Pop}
use Rattle.history.specs.declared.operations.Op.TheVariants.{Deq}
use Rattle.history.specs.declared.operations.Reply.TheVariants as reply
use Rattle.history.specs.declared.operations.Taken.{Taken}
use Rattle.history.specs.declared.refusals.Refusal.{Refusal}
use Rattle.history.specs.declared.refusals.Refusal.TheVariants.{WornOut, Closed}
use Rattle.history.specs.declared.refusals.WornWord.TheVariants.{Head as OfHead, Tail as OfTail}
use Rattle.history.specs.Answers.{FoundEmpty}
use Rattle.node_arena.specs.Machine.{Setup, Held, Actor}
use Rattle.node_arena.specs.Traces.{Event}
use Rattle.node_arena.specs.Prologues.{Prologue, begins, continues, after_prologue}
use Rattle.node_arena.specs.Arenas.{Arena}
use Rattle.node_arena.specs.declared.seats.Seat.{Seat}
use Rattle.node_arena.specs.Knowledge.{known_by}
use Rattle.node_arena.specs.Seats.{IsSeat, IsBefore, KeepsStored, KeepsSlots, DidStep, view}
use Rattle.node_arena.specs.Loads.{TakesSlot}
use Rattle.node_arena.specs.Turns.{failed_turns}
use Rattle.node_arena.specs.Paths.{ExtendsPath, FindsShutEmpty, Acts, FailedAt, EndedAt, IsRefusedAt}
use Rattle.node_arena.specs.Machine.{value_of}
use Rattle.arena_queue.specs.Answers.{PopsWithoutNode}
use Rattle.nonblocking.specs.Worn.{pop_worn}
use Rattle.free_list.specs.declared.outcomes.RowOutcome.{RowOutcome}
use Rattle.free_list.specs.declared.outcomes.RowOutcome.TheVariants.{Goes, Ends}
use Rattle.free_list.specs.declared.outcomes.Reply.{Reply}
use Rattle.free_list.specs.declared.outcomes.Reply.TheVariants.{Value as IsValue, Empty as IsEmpty, Refused as IsRefused}
use Rattle.nonblocking.specs.declared.pop_outcomes.Turn.{Turn}
use Rattle.nonblocking.specs.declared.pop_outcomes.Turn.TheVariants as turn

-- what a running pop remembers
pub record Running : Type 0 where
  pub head : Ref
  pub tail : Ref
  pub next : Ref
  pub val : ℕ
  pub node : ℕ
  pub mark : ℕ
  pub due : Option Reply

-- how a pop sets out: its first turn begins a dequeue, and a later one goes on
abbrev pub popping : ℕ → Prologue
popping zero = begins Deq
popping (suc n) = continues

-- what a running pop makes of the number found at a line
abbrev pub follow : Setup → Running → Line → ℕ → RowOutcome Running
follow z a D2 n = Goes D3 (record a { head = ref_of z.bits n })
follow z a D3 n = Goes D4 (record a { tail = ref_of z.bits n })
follow z a D4 n = Goes D5 (record a { next = ref_of z.bits n })
follow z a D5 n =
    if same_ref (ref_of z.bits n) a.head
    then if nat_eq a.head.node a.tail.node
    then if is_null a.next then Ends IsEmpty
    else if is_shut z.bits a.next then Ends (IsRefused Closed)
    else if nat_eq a.tail.count z.limit then Ends (IsRefused (WornOut OfTail))
    else Goes D10 a
    else Goes D12 a
    else Goes D2 a
follow z a D10 n = Goes D2 a
follow z a D12 n =
    if nat_eq a.head.count z.limit then Ends (IsRefused (WornOut OfHead)) else Goes D13 (record a { val = n })
follow z a D13 n =
    if same_ref (ref_of z.bits n) a.head
    then Goes F1 (record a { node = a.head.node; mark = a.next.count; due = Some (IsValue a.val) })
    else Goes D2 a
follow z a l n = Goes l a

-- the node in the hand of a running pop, with its mark
abbrev pub in_hand : Running → Held
in_hand a = record { node = a.node; mark = a.mark }

-- the turn that ends so: a value was taken where its node is to be freed, and the turn failed where it goes on elsewhere
abbrev pub turn_of : RowOutcome Running → Turn
turn_of (Goes F1 a) = turn.Took a.val (in_hand a)
turn_of (Goes l a) = turn.Failed
turn_of (Ends IsEmpty) = turn.Empty
turn_of (Ends (IsRefused refusal)) = turn.Refused refusal
turn_of (Ends reply) = turn.Failed

-- which of its actor's registers a running pop has before a line
abbrev pub AgreesAt : Line → Actor → Running → Type 0
AgreesAt D3 b a = b.head ≡ a.head
AgreesAt D4 b a = (b.head ≡ a.head) × (b.tail ≡ a.tail)
AgreesAt D5 b a = (b.head ≡ a.head) × (b.tail ≡ a.tail) × (b.next ≡ a.next)
AgreesAt D10 b a = (b.tail ≡ a.tail) × (b.next ≡ a.next)
AgreesAt D12 b a = (b.head ≡ a.head) × (b.next ≡ a.next)
AgreesAt D13 b a = (b.head ≡ a.head) × (b.next ≡ a.next) × (b.val ≡ value_of a.val)
AgreesAt l b a = Unit {0}

-- a seat's actor, led there, stands before a line of a pop, and the call has its registers
pub record CallIsAt {T : Type 0} (r : Arena) (s : Seat T) (prologue : Prologue) (l : Line) (a : Running) : Type 0 where
  pub before : IsBefore r s prologue l
  pub knows : AgreesAt l (after_prologue r.plan.setup (view s).number prologue (view s).actor) a

-- the seat made its step at a line, and the call made of the number found what the line says
pub record Follows {T : Type 0} (r : Arena) (s t : Seat T) (prologue : Prologue) (l : Line) (a : Running) (out : RowOutcome Running) : Type 0 where
  pub found : ℕ
  pub did : DidStep r s t prologue l found
  pub leads_to : out ≡ follow r.plan.setup a l found

-- a value was taken, and the node that comes free is in the hand
pub record Took {T : Type 0} (r : Arena) (s t : Seat T) (es : List Event) (word : ℕ) (h : Held) : Type 0 where
  pub over : (view t).actor.line ≡ Some F1
  pub due : (view t).actor.due ≡ Some (reply.Value (value_of word))
  pub node : (view t).actor.node ≡ h.node
  pub mark : (view t).actor.mark ≡ h.mark
  pub acts : Acts (view s) (view t) (Pop (view s).number (value_of word)) es
  pub never : failed_turns es ≡ 0

-- a turn that failed
pub record TurnFailed {T : Type 0} (r : Arena) (s t : Seat T) (es : List Event) : Type 0 where
  pub before : IsBefore r t continues D2
  pub walks : ExtendsPath (view s) (view t) es
  pub once : failed_turns es ≡ 1
  pub last : FailedAt es

-- the queue was found empty
pub record SawEmpty {T : Type 0} (s t : Seat T) (es : List Event) : Type 0 where
  pub over : (view t).actor.line ≡ None
  pub path : (view t).path ≡ (view s).path ++ es
  pub run : IsPrefix (view s).ran (view t).ran
  pub never : failed_turns es ≡ 0
  pub found : FoundEmpty (known_by (view s)) (known_by (view t))

-- the queue was found shut and empty
pub record SawShut {T : Type 0} (r : Arena) (s t : Seat T) (es : List Event) : Type 0 where
  pub over : (view t).actor.line ≡ None
  pub never : failed_turns es ≡ 0
  pub finds : FindsShutEmpty (view s) (view t) es
  pub cause : EndedAt r s (view t).ran es (IsRefusedAt r.plan.setup (view s).number Closed)

-- Tail was found worn out
pub record SawWorn {T : Type 0} (r : Arena) (s t : Seat T) (es : List Event) (refusal : Refusal) : Type 0 where
  pub over : (view t).actor.line ≡ None
  pub walks : ExtendsPath (view s) (view t) es
  pub never : failed_turns es ≡ 0
  pub is : refusal ≡ WornOut OfTail
  pub cause : EndedAt r s (view t).ran es (IsRefusedAt r.plan.setup (view s).number (WornOut OfTail))

-- why a turn ends its call: the queue was found shut and empty, or Tail worn out
abbrev pub Stops : {T : Type 0} → Arena → Seat T → Seat T → List Event → Refusal → Type 0
Stops r s t es Closed = SawShut r s t es
Stops r s t es refusal = SawWorn r s t es refusal

-- the turn goes on at a line
pub record GoesOn {T : Type 0} (r : Arena) (s t : Seat T) (es : List Event) (l : Line) (a : Running) : Type 0 where
  pub stands : CallIsAt r t continues l a
  pub walks : ExtendsPath (view s) (view t) es
  pub never : failed_turns es ≡ 0

-- what the lines D2 to D5 come to
abbrev pub FrontRead : {T : Type 0} → Arena → Seat T → Seat T → List Event → RowOutcome Running → Type 0
FrontRead r s t es (Goes D2 a) = TurnFailed r s t es
FrontRead r s t es (Goes D10 a) = GoesOn r s t es D10 a
FrontRead r s t es (Goes D12 a) = GoesOn r s t es D12 a
FrontRead r s t es (Goes l a) = ⊥
FrontRead r s t es (Ends IsEmpty) = SawEmpty s t es
FrontRead r s t es (Ends (IsRefused refusal)) = Stops r s t es refusal
FrontRead r s t es (Ends reply) = ⊥

-- the lines D2 to D5
pub record ReadsFront {T : Type 0} (r : Arena) (s t : Seat T) (out : RowOutcome Running) : Type 0 where
  pub seat : IsSeat r t
  pub empty : (view t).actor.pocket ≡ None
  pub stored : KeepsStored s t
  pub slots : KeepsSlots s t
  pub lines : List Event
  pub looked : FrontRead r s t lines out

-- what the lines of a turn come to
abbrev pub Turned : {T : Type 0} → Arena → Seat T → Seat T → List Event → Turn → Type 0
Turned r s t es (turn.Took word h) = Took r s t es word h
Turned r s t es turn.Failed = TurnFailed r s t es
Turned r s t es turn.Empty = SawEmpty s t es
Turned r s t es (turn.Refused refusal) = Stops r s t es refusal

-- the slot of the value that a turn took came out with the seat, and else the slots that are out with it are those that were
abbrev pub TurnMoves : {T : Type 0} → Arena → Seat T → Seat T → Turn → Type 0
TurnMoves r s t (turn.Took word h) = TakesSlot r (value_of word) s t
TurnMoves r s t out = KeepsSlots s t

-- lines of a turn, to its end
pub record Turns {T : Type 0} (r : Arena) (s t : Seat T) (out : Turn) : Type 0 where
  pub seat : IsSeat r t
  pub empty : (view t).actor.pocket ≡ None
  pub stored : KeepsStored s t
  pub slots : TurnMoves r s t out
  pub lines : List Event
  pub turned : Turned r s t lines out

-- a pop after so many failed turns since it began
pub record Trying {T : Type 0} (r : Arena) (s t : Seat T) (n : ℕ) : Type 0 where
  pub before : IsBefore r t (popping n) D2
  pub stored : KeepsStored s t
  pub slots : KeepsSlots s t
  pub lines : List Event
  pub walks : ExtendsPath (view s) (view t) lines
  pub failed : failed_turns lines ≡ n
  pub last : 1 ≤ n → FailedAt lines

-- what one turn of a pop comes to: it failed, or the pop answers
abbrev pub Tries : {T : Type 0} → Arena → Seat T → Seat T → (spent turns : ℕ) → Option (Result (Option Taken) Refusal) → Type 0
Tries r s t spent turns None = Turns r s t turn.Failed
Tries r s t spent turns (Some out) = PopsWithoutNode pop_worn r s t spent turns out
