-- A running shut: what it remembers before each line, and what its turns come to.
use Rattle.std.specs.Prelude.{◌≡◌, ℕ, zero, suc, ◌≤◌, Bool, true, false, if◌then◌else◌, nat_eq, List, Option, Some, None, Result, Ok, Err}
use Rattle.counted_ref.specs.Ref.{Ref, ref_of, null, same_ref}
use Rattle.line_table.specs.declared.lines.Line.{Line}
use Rattle.line_table.specs.declared.lines.Line.TheVariants.{S6, S7, S8, S9}
use Rattle.history.specs.declared.operations.Entry.TheVariants.{Shut}
use Rattle.history.specs.declared.operations.Op.TheVariants.{Shut as Shutting}
use Rattle.history.specs.declared.refusals.Refusal.{Refusal}
use Rattle.history.specs.declared.refusals.Refusal.TheVariants.{Closed}
use Rattle.node_arena.specs.Machine.{Setup, Actor}
use Rattle.node_arena.specs.Traces.{Event}
use Rattle.node_arena.specs.Prologues.{Prologue, begins, continues, after_prologue}
use Rattle.node_arena.specs.Arenas.{Arena}
use Rattle.node_arena.specs.declared.seats.Seat.{Seat}
use Rattle.node_arena.specs.Seats.{IsSeat, IsBefore, KeepsStored, KeepsSlots, DidStep, view, pocket_of}
use Rattle.node_arena.specs.Turns.{failed_turns}
use Rattle.node_arena.specs.Paths.{ExtendsPath, FindsShut, Acts, FailedAt, EndedAt, IsRefusedAt}
use Rattle.free_list.specs.declared.outcomes.RowOutcome.{RowOutcome}
use Rattle.free_list.specs.declared.outcomes.RowOutcome.TheVariants.{Goes}
use Rattle.free_list.specs.declared.outcomes.Reply.{Reply}
use Rattle.free_list.specs.declared.outcomes.Reply.TheVariants.{Done, Refused as IsRefused}
use Rattle.two_lock.specs.Pushes.{told_by}

-- what a running shut remembers
pub record Running : Type 0 where
  pub tail : Ref
  pub due : Option Reply

-- how a shut sets out: its first turn begins the call, and a later one goes on
abbrev pub shutting : ℕ → Prologue
shutting zero = begins Shutting
shutting (suc n) = continues

-- what a shut answers once the lock was let go: refused where that is due, else done
abbrev pub answer_of : Option Reply → Result (Unit {0}) Refusal
answer_of (Some (IsRefused refusal)) = Err refusal
answer_of _ = Ok tt

-- what a running shut makes of the number found at a line that it goes on from
abbrev pub follow : Setup → Running → Line → ℕ → RowOutcome Running
follow z a S6 n = if nat_eq n 0 then Goes S7 a else Goes S6 a
follow z a S7 n = Goes S8 (record a { tail = ref_of z.bits n })
follow z a S8 n =
    if same_ref (ref_of z.bits n) null then Goes S9 (record a { due = Some Done }) else Goes S9 (record a { due = Some (IsRefused Closed) })
follow z a l n = Goes l a

-- whether a try of the lock got it
abbrev pub has_lock : RowOutcome Running → Bool
has_lock (Goes S7 a) = true
has_lock outcome = false

-- which of its actor's registers a running shut has before a line
abbrev pub AgreesAt : Line → Actor → Running → Type 0
AgreesAt S8 b a = b.tail ≡ a.tail
AgreesAt S9 b a = b.due ≡ told_by a.due
AgreesAt l b a = Unit {0}

-- what is in an actor's pocket is what its seat stores
abbrev pub KeepsPocket : {T : Type 0} → Seat T → Actor → Type 0
KeepsPocket s b = b.pocket ≡ pocket_of s

-- a seat's actor, led there, stands before a line of a shut with the seat's pocket, and the call has its registers
pub record CallIsAt {T : Type 0} (r : Arena) (s : Seat T) (prologue : Prologue) (l : Line) (a : Running) : Type 0 where
  pub before : IsBefore r s prologue l
  pub pocket : KeepsPocket s (after_prologue r.plan.setup (view s).number prologue (view s).actor)
  pub knows : AgreesAt l (after_prologue r.plan.setup (view s).number prologue (view s).actor) a

-- the seat made its step at a line, and the call made of the number found what the line says
pub record Follows {T : Type 0} (r : Arena) (s t : Seat T) (prologue : Prologue) (l : Line) (a : Running) (out : RowOutcome Running) : Type 0 where
  pub found : ℕ
  pub did : DidStep r s t prologue l found
  pub leads_to : out ≡ follow r.plan.setup a l found

-- the seat let the lock go, and the call answers what is due
pub record LetsGo {T : Type 0} (r : Arena) (s t : Seat T) (a : Running) (out : Result (Unit {0}) Refusal) : Type 0 where
  pub found : ℕ
  pub did : DidStep r s t continues S9 found
  pub answers : out ≡ answer_of a.due

-- the queue was found shut
pub record SawShut {T : Type 0} (r : Arena) (s t : Seat T) (es : List Event) (refusal : Refusal) : Type 0 where
  pub is : refusal ≡ Closed
  pub finds : FindsShut (view s) (view t) es
  pub cause : EndedAt r s (view t).ran es (IsRefusedAt r.plan.setup (view s).number Closed)

-- what the lines under the lock come to
abbrev pub ShutUnderLock : {T : Type 0} → Arena → Seat T → Seat T → List Event → Result (Unit {0}) Refusal → Type 0
ShutUnderLock r s t es (Ok x) = Acts (view s) (view t) (Shut (view s).number) es
ShutUnderLock r s t es (Err refusal) = SawShut r s t es refusal

-- the call is over: a closed end was put behind the last node, or the queue was found shut; what was in the pocket is there
pub record ShutsUnderLock {T : Type 0} (r : Arena) (s t : Seat T) (out : Result (Unit {0}) Refusal) : Type 0 where
  pub seat : IsSeat r t
  pub over : (view t).actor.line ≡ None
  pub pocket : KeepsPocket t (view t).actor
  pub stored : KeepsStored s t
  pub slots : KeepsSlots s t
  pub lines : List Event
  pub never : failed_turns lines ≡ 0
  pub shuts : ShutUnderLock r s t lines out

-- a shut after so many failed turns since it began
pub record Trying {T : Type 0} (r : Arena) (s t : Seat T) (n : ℕ) : Type 0 where
  pub before : IsBefore r t (shutting n) S6
  pub pocket : KeepsPocket t (after_prologue r.plan.setup (view t).number (shutting n) (view t).actor)
  pub stored : KeepsStored s t
  pub slots : KeepsSlots s t
  pub lines : List Event
  pub walks : ExtendsPath (view s) (view t) lines
  pub failed : failed_turns lines ≡ n
  pub last : 1 ≤ n → FailedAt lines
