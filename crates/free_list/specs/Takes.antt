-- What a turn of a take leads to, and what a take answers.
use Rattle.std.specs.Prelude.{◌≡◌, ℕ, ◌+◌, ◌<◌, ◌≤◌, ◌⊎◌, List, Some, None, Result, Err, MatchResult, IfOk, IfErr}
use Rattle.line_table.specs.declared.lines.Line.TheVariants.{N1, N3, N5}
use Rattle.history.specs.declared.refusals.WornWord.TheVariants.{Free as OfFree}
use Rattle.history.specs.declared.refusals.Refusal.{Refusal}
use Rattle.history.specs.declared.refusals.Refusal.TheVariants.{NoNode, WornOut, Busy}
use Rattle.node_arena.specs.Machine.{Held, World, IsFree, IsUntouched, with_node}
use Rattle.node_arena.specs.Traces.{Event}
use Rattle.node_arena.specs.Prologues.{continues}
use Rattle.node_arena.specs.Arenas.{Arena}
use Rattle.node_arena.specs.declared.seats.Seat.{Seat}
use Rattle.node_arena.specs.Seats.{IsSeat, IsBefore, view, pocket_of, failed_of}
use Rattle.node_arena.specs.Turns.{failed_turns}
use Rattle.node_arena.specs.Paths.{added, EndedAt, FailedAt, LastHeld, NowHolds, IsRefusedAt, MetCause, EndsFailed, IsSole}
use Rattle.free_list.specs.declared.outcomes.RowOutcome.{RowOutcome}
use Rattle.free_list.specs.declared.outcomes.RowOutcome.TheVariants.{Goes, Ends}
use Rattle.free_list.specs.Registers.{Running}
use Rattle.free_list.specs.declared.turns.Turn.{Turn}
use Rattle.free_list.specs.declared.turns.Turn.TheVariants.{Took, Failed, Refused}
use Rattle.free_list.specs.Runs.{taking, turn_of, Way, GoesTo, Leaves}

-- a node was free or was never used
abbrev pub WasThere : ℕ → World → Type 0
WasThere node w = IsFree w node ⊎ IsUntouched w node

-- at its last step a take took a node that was free or never used, and now the node is this seat's alone, and in no
-- chain
pub record IsTaken {T : Type 0} (r : Arena) (s t : Seat T) (node : ℕ) : Type 0 where
  pub there : LastHeld r s t (λ was a l. WasThere node was.world)
  pub sole : NowHolds r t (λ w. IsSole w (view t).number node)

-- the cause of each refusal: all nodes used and none free, or Free's count at the limit, at the last step of the call,
-- which was refused so; or so many turns failed, the last one at the last step
abbrev pub TakeRefused : {T : Type 0} → Arena → Seat T → Seat T → (turns : ℕ) → Refusal → Type 0
TakeRefused r s t turns NoNode = MetCause r s t NoNode
TakeRefused r s t turns (WornOut OfFree) = MetCause r s t (WornOut OfFree)
TakeRefused r s t turns Busy = (failed_turns (added s t) ≡ turns) × EndsFailed s t
TakeRefused r s t turns _ = ⊥

-- fewer turns failed than were allowed, unless the answer is Busy
abbrev pub FailsFewer : (turns : ℕ) → {X : Type 0} → Result X Refusal → ℕ → Type 0
FailsFewer turns out n = (out ≡ Err Busy → ⊥) → n < turns

-- a turn of a take is refused by these alone
abbrev pub IsRefusedBy : Refusal → Type 0
IsRefusedBy refusal = (refusal ≡ NoNode) ⊎ (refusal ≡ WornOut OfFree)

-- a node came into the hand
pub record Got {T : Type 0} (r : Arena) (s t : Seat T) (es : List Event) (h : Held) : Type 0 where
  pub seat : IsSeat r t
  pub over : (view t).actor.line ≡ Some (with_node r.plan.setup.kind)
  pub node : (view t).actor.node ≡ h.node
  pub mark : (view t).actor.mark ≡ h.mark
  pub there : EndedAt r s (view t).ran es (λ was a l. WasThere h.node was.world)
  pub sole : NowHolds r t (λ w. IsSole w (view t).number h.node)

-- a turn that failed
pub record TurnFailed {T : Type 0} (r : Arena) (t : Seat T) (es : List Event) : Type 0 where
  pub before : IsBefore r t continues N1
  pub last : FailedAt es

-- a turn that was refused
pub record Refuses {T : Type 0} (r : Arena) (s t : Seat T) (es : List Event) (refusal : Refusal) : Type 0 where
  pub seat : IsSeat r t
  pub over : (view t).actor.line ≡ None
  pub empty : (view t).actor.pocket ≡ None
  pub cause : EndedAt r s (view t).ran es (IsRefusedAt r.plan.setup (view s).number refusal)
  pub possible : IsRefusedBy refusal

-- what a turn leads to
abbrev pub Turned : {T : Type 0} → Arena → Seat T → Seat T → List Event → Turn → Type 0
Turned r s t es (Took h) = Got r s t es h
Turned r s t es Failed = TurnFailed r t es
Turned r s t es (Refused refusal) = Refuses r s t es refusal

-- whether a turn failed, as a number
abbrev pub fails : Turn → ℕ
fails Failed = 1
fails out = 0

-- lines of a take, on which so many turns failed, and then the end of a turn
pub record Turns {T : Type 0} (r : Arena) (s t : Seat T) (n : ℕ) (out : Turn) : Type 0 where
  pub way : Way s t
  pub failed : failed_turns way.lines ≡ n + fails out
  pub turned : Turned r s t way.lines out

-- after N2 the call stands before N3 or N5, or its turn ends
abbrev pub StandsAfterN2 : {T : Type 0} → Arena → Seat T → Seat T → RowOutcome Running → Type 0
StandsAfterN2 r s t (Goes N3 a) = GoesTo r s t N3 a
StandsAfterN2 r s t (Goes N5 a) = GoesTo r s t N5 a
StandsAfterN2 r s t (Goes l a) = ⊥
StandsAfterN2 r s t (Ends reply) = Turns r s t 0 (turn_of (Ends reply))

-- a take after so many failed turns
pub record Trying {T : Type 0} (r : Arena) (s t : Seat T) (n : ℕ) : Type 0 where
  pub before : IsBefore r t (taking n) N1
  pub way : Way s t
  pub failed : failed_turns way.lines ≡ n
  pub last : 1 ≤ n → FailedAt way.lines

-- what a take answers
pub record AnswersTake {T : Type 0} (r : Arena) (s t : Seat T) (turns : ℕ) (out : Result Held Refusal) : Type 0 where
  pub leaves : Leaves r s t
  pub pocket : MatchResult out (λ held. pocket_of t ≡ Some held) (λ _. pocket_of t ≡ None)
  pub taken : IfOk out (λ held. IsTaken r s t held.node)
  pub refused : IfErr out (TakeRefused r s t turns)
  pub fewer : FailsFewer turns out (failed_of t)
