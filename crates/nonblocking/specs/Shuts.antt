-- A running shut: what it remembers before each line, and what its turns come to.
use Rattle.std.specs.Prelude.{◌≡◌, ℕ, zero, suc, ◌≤◌, if◌then◌else◌, nat_eq, List, None}
use Rattle.counted_ref.specs.Ref.{Ref, ref_of, is_null, is_shut, same_ref}
use Rattle.line_table.specs.declared.lines.Line.{Line}
use Rattle.line_table.specs.declared.lines.Line.TheVariants.{S1, S2, S3, S4, S5}
use Rattle.history.specs.declared.operations.Entry.TheVariants as entry
use Rattle.history.specs.declared.operations.Op.TheVariants as op
use Rattle.history.specs.declared.refusals.Refusal.{Refusal}
use Rattle.history.specs.declared.refusals.Refusal.TheVariants.{WornOut, Closed}
use Rattle.history.specs.declared.refusals.WornWord.TheVariants.{Tail as OfTail}
use Rattle.node_arena.specs.Machine.{Setup, Actor}
use Rattle.node_arena.specs.Traces.{Event}
use Rattle.node_arena.specs.Prologues.{Prologue, begins, continues, after_prologue}
use Rattle.node_arena.specs.Arenas.{Arena}
use Rattle.node_arena.specs.declared.seats.Seat.{Seat}
use Rattle.node_arena.specs.Seats.{IsSeat, IsBefore, KeepsStored, KeepsSlots, DidStep, view, pocket_of}
use Rattle.node_arena.specs.Turns.{failed_turns}
use Rattle.node_arena.specs.Paths.{ExtendsPath, FindsShut, Acts, FailedAt, EndedAt, IsRefusedAt}
use Rattle.free_list.specs.declared.outcomes.RowOutcome.{RowOutcome}
use Rattle.free_list.specs.declared.outcomes.RowOutcome.TheVariants.{Goes, Ends}
use Rattle.free_list.specs.declared.outcomes.Reply.TheVariants.{Done as IsDone, Refused as IsRefused}
use Rattle.nonblocking.specs.declared.shut_outcomes.Turn.{Turn}
use Rattle.nonblocking.specs.declared.shut_outcomes.Turn.TheVariants as turn

-- what a running shut remembers
pub record Running : Type 0 where
  pub tail : Ref
  pub next : Ref

-- how a shut sets out: its first turn begins it, and a later one goes on
abbrev pub shutting : ℕ → Prologue
shutting zero = begins op.Shut
shutting (suc n) = continues

-- what a running shut makes of the number found at a line
abbrev pub follow : Setup → Running → Line → ℕ → RowOutcome Running
follow z a S1 n = Goes S2 (record a { tail = ref_of z.bits n })
follow z a S2 n = Goes S3 (record a { next = ref_of z.bits n })
follow z a S3 n =
    if same_ref (ref_of z.bits n) a.tail
    then if is_null a.next then Goes S4 a
    else if is_shut z.bits a.next then Ends (IsRefused Closed)
    else if nat_eq a.tail.count z.limit then Ends (IsRefused (WornOut OfTail))
    else Goes S5 a
    else Goes S1 a
follow z a S4 n = if same_ref (ref_of z.bits n) a.next then Ends IsDone else Goes S1 a
follow z a S5 n = Goes S1 a
follow z a l n = Goes l a

-- the turn that ends so: the queue is shut where the call is done, and the turn failed where it goes on
abbrev pub turn_of : RowOutcome Running → Turn
turn_of (Goes l a) = turn.Failed
turn_of (Ends IsDone) = turn.Shut
turn_of (Ends (IsRefused refusal)) = turn.Refused refusal
turn_of (Ends reply) = turn.Failed

-- which of its actor's registers a running shut has before a line
abbrev pub AgreesAt : Line → Actor → Running → Type 0
AgreesAt S2 b a = b.tail ≡ a.tail
AgreesAt S3 b a = (b.tail ≡ a.tail) × (b.next ≡ a.next)
AgreesAt S4 b a = (b.tail ≡ a.tail) × (b.next ≡ a.next)
AgreesAt S5 b a = (b.tail ≡ a.tail) × (b.next ≡ a.next)
AgreesAt l b a = Unit {0}

-- the pocket of a seat's actor, led there, is the one that the seat stores
abbrev pub HasPocket : {T : Type 0} → Arena → Seat T → Prologue → Type 0
HasPocket r s prologue = (after_prologue r.plan.setup (view s).number prologue (view s).actor).pocket ≡ pocket_of s

-- a seat's actor, led there, stands before a line of a shut, with the seat's pocket, and the call has its registers
pub record CallIsAt {T : Type 0} (r : Arena) (s : Seat T) (prologue : Prologue) (l : Line) (a : Running) : Type 0 where
  pub before : IsBefore r s prologue l
  pub pocket : HasPocket r s prologue
  pub knows : AgreesAt l (after_prologue r.plan.setup (view s).number prologue (view s).actor) a

-- the seat made its step at a line, and the call made of the number found what the line says
pub record Follows {T : Type 0} (r : Arena) (s t : Seat T) (prologue : Prologue) (l : Line) (a : Running) (out : RowOutcome Running) : Type 0 where
  pub found : ℕ
  pub did : DidStep r s t prologue l found
  pub leads_to : out ≡ follow r.plan.setup a l found

-- the queue was shut, and the call is over
pub record HasShut {T : Type 0} (s t : Seat T) (es : List Event) : Type 0 where
  pub over : (view t).actor.line ≡ None
  pub acts : Acts (view s) (view t) (entry.Shut (view s).number) es
  pub never : failed_turns es ≡ 0

-- a turn that failed
pub record TurnFailed {T : Type 0} (r : Arena) (s t : Seat T) (es : List Event) : Type 0 where
  pub before : IsBefore r t continues S1
  pub walks : ExtendsPath (view s) (view t) es
  pub once : failed_turns es ≡ 1
  pub last : FailedAt es

-- the queue was found shut
pub record SawShut {T : Type 0} (r : Arena) (s t : Seat T) (es : List Event) : Type 0 where
  pub over : (view t).actor.line ≡ None
  pub never : failed_turns es ≡ 0
  pub finds : FindsShut (view s) (view t) es
  pub cause : EndedAt r s (view t).ran es (IsRefusedAt r.plan.setup (view s).number Closed)

-- Tail was found worn out
pub record SawWorn {T : Type 0} (r : Arena) (s t : Seat T) (es : List Event) (refusal : Refusal) : Type 0 where
  pub over : (view t).actor.line ≡ None
  pub walks : ExtendsPath (view s) (view t) es
  pub never : failed_turns es ≡ 0
  pub is : refusal ≡ WornOut OfTail
  pub cause : EndedAt r s (view t).ran es (IsRefusedAt r.plan.setup (view s).number (WornOut OfTail))

-- why a turn ends its call: the queue was found shut, or Tail worn out
abbrev pub Stops : {T : Type 0} → Arena → Seat T → Seat T → List Event → Refusal → Type 0
Stops r s t es Closed = SawShut r s t es
Stops r s t es refusal = SawWorn r s t es refusal

-- the turn goes on at a line
pub record GoesOn {T : Type 0} (r : Arena) (s t : Seat T) (es : List Event) (l : Line) (a : Running) : Type 0 where
  pub stands : CallIsAt r t continues l a
  pub walks : ExtendsPath (view s) (view t) es
  pub never : failed_turns es ≡ 0

-- what the lines S1 to S3 come to
abbrev pub EndRead : {T : Type 0} → Arena → Seat T → Seat T → List Event → RowOutcome Running → Type 0
EndRead r s t es (Goes S1 a) = TurnFailed r s t es
EndRead r s t es (Goes S4 a) = GoesOn r s t es S4 a
EndRead r s t es (Goes S5 a) = GoesOn r s t es S5 a
EndRead r s t es (Goes l a) = ⊥
EndRead r s t es (Ends (IsRefused refusal)) = Stops r s t es refusal
EndRead r s t es (Ends reply) = ⊥

-- the lines S1 to S3
pub record ReadsEnd {T : Type 0} (r : Arena) (s t : Seat T) (out : RowOutcome Running) : Type 0 where
  pub seat : IsSeat r t
  pub pocket : HasPocket r t continues
  pub stored : KeepsStored s t
  pub slots : KeepsSlots s t
  pub lines : List Event
  pub looked : EndRead r s t lines out

-- what the lines of a turn come to
abbrev pub Turned : {T : Type 0} → Arena → Seat T → Seat T → List Event → Turn → Type 0
Turned r s t es turn.Shut = HasShut s t es
Turned r s t es turn.Failed = TurnFailed r s t es
Turned r s t es (turn.Refused refusal) = Stops r s t es refusal

-- lines of a turn, to its end
pub record Turns {T : Type 0} (r : Arena) (s t : Seat T) (out : Turn) : Type 0 where
  pub seat : IsSeat r t
  pub pocket : HasPocket r t continues
  pub stored : KeepsStored s t
  pub slots : KeepsSlots s t
  pub lines : List Event
  pub turned : Turned r s t lines out

-- a shut after so many failed turns since it began
pub record Trying {T : Type 0} (r : Arena) (s t : Seat T) (n : ℕ) : Type 0 where
  pub before : IsBefore r t (shutting n) S1
  pub pocket : HasPocket r t (shutting n)
  pub stored : KeepsStored s t
  pub slots : KeepsSlots s t
  pub lines : List Event
  pub walks : ExtendsPath (view s) (view t) lines
  pub failed : failed_turns lines ≡ n
  pub last : 1 ≤ n → FailedAt lines
