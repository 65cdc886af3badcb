-- What a turn of a give back leads to, and what a give back answers.
use Rattle.std.specs.Prelude.{◌≡◌, ℕ, ◌+◌, ◌<◌, ◌≤◌, ◌⊎◌, List, Some, None, Result, MatchResult, IfSome, IfErr, OnOk}
use Rattle.line_table.specs.declared.lines.Line.TheVariants.{F2}
use Rattle.history.specs.declared.refusals.Refusal.{Refusal}
use Rattle.history.specs.declared.refusals.Refusal.TheVariants.{Busy}
use Rattle.node_arena.specs.Machine.{Held, World, IsFree, IsSetAside, dequeues}
use Rattle.node_arena.specs.Traces.{Event}
use Rattle.node_arena.specs.Prologues.{continues}
use Rattle.node_arena.specs.Arenas.{Arena}
use Rattle.node_arena.specs.declared.seats.Seat.{Seat}
use Rattle.node_arena.specs.Seats.{IsSeat, IsReady, KeepsName, KeepsSlots, view, pocket_of, failed_of}
use Rattle.node_arena.specs.Turns.{failed_turns}
use Rattle.node_arena.specs.Paths.{HadNoEffect, SeesNoMore, added, FailedAt, NowHolds, EndsFailed}
use Rattle.free_list.specs.declared.outcomes.RowOutcome.{RowOutcome}
use Rattle.free_list.specs.declared.outcomes.RowOutcome.TheVariants.{Goes, Ends}
use Rattle.free_list.specs.Registers.{Running}
use Rattle.free_list.specs.declared.turns.Gave.{Gave}
use Rattle.free_list.specs.declared.turns.Gave.TheVariants.{Back, Again}
use Rattle.free_list.specs.Runs.{in_hand, StartsGive, giving, Way, GoesTo}

-- a node is free, or set aside where Free's count is at the limit
abbrev pub IsBack : ℕ → World → Type 0
IsBack node w = IsFree w node ⊎ (IsSetAside w node × (w.shared.free.count ≡ w.setup.limit))

-- the node left the hand
pub record LetGo {T : Type 0} (r : Arena) (t : Seat T) (node : ℕ) : Type 0 where
  pub seat : IsSeat r t
  pub over : (view t).actor.line ≡ Some (dequeues r.plan.setup.kind)
  pub back : NowHolds r t (IsBack node)

-- a turn that failed
pub record GiveFailed {T : Type 0} (r : Arena) (t : Seat T) (es : List Event) (h : Held) : Type 0 where
  pub stands : StartsGive r t continues h
  pub last : FailedAt es

-- what a turn leads to
abbrev pub GiveTurned : {T : Type 0} → Arena → Seat T → List Event → Held → Gave → Type 0
GiveTurned r t es h Back = LetGo r t h.node
GiveTurned r t es h Again = GiveFailed r t es h

-- whether a turn failed, as a number
abbrev pub gave_fails : Gave → ℕ
gave_fails Back = 0
gave_fails Again = 1

-- lines of a give back, on which so many turns failed, and then the end of a turn
pub record GiveTurns {T : Type 0} (r : Arena) (s t : Seat T) (n : ℕ) (h : Held) (out : Gave) : Type 0 where
  pub way : Way s t
  pub failed : failed_turns way.lines ≡ n + gave_fails out
  pub turned : GiveTurned r t way.lines h out

-- after F1 the call stands before F2, with its node, or the node left the hand
abbrev pub StandsAfterF1 : {T : Type 0} → Arena → Seat T → Seat T → Held → RowOutcome Running → Type 0
StandsAfterF1 r s t h (Goes F2 a) = GoesTo r s t F2 a × (in_hand a ≡ h)
StandsAfterF1 r s t h (Goes l a) = ⊥
StandsAfterF1 r s t h (Ends reply) = GiveTurns r s t 0 h Back

-- a give back after so many failed turns
pub record Giving {T : Type 0} (r : Arena) (s t : Seat T) (h : Held) (n : ℕ) : Type 0 where
  pub stands : StartsGive r t (giving n) h
  pub way : Way s t
  pub failed : failed_turns way.lines ≡ n
  pub last : 1 ≤ n → FailedAt way.lines

-- the node that was in the pocket is back
abbrev pub IsGivenBack : {T : Type 0} → Arena → Seat T → Seat T → Type 0
IsGivenBack r s t = IfSome (pocket_of s) (λ held. NowHolds r t (IsBack held.node))

-- a give back is refused Busy alone, after so many failed turns, the last one at the last step
abbrev pub GiveBackRefused : {T : Type 0} → Seat T → Seat T → (turns : ℕ) → Refusal → Type 0
GiveBackRefused s t turns refusal = (refusal ≡ Busy) × (failed_turns (added s t) ≡ turns) × EndsFailed s t

-- what a give back answers
pub record GiveAnswers {T : Type 0} (r : Arena) (s t : Seat T) (turns : ℕ) (out : Result (Unit {0}) Refusal) : Type 0 where
  pub ready : IsReady r t
  pub same : KeepsName s t
  pub slots : KeepsSlots s t
  pub pocket : MatchResult out (λ _. pocket_of t ≡ None) (λ _. pocket_of t ≡ pocket_of s)
  pub lines : HadNoEffect s t
  pub seen : SeesNoMore s t
  pub back : OnOk out (IsGivenBack r s t)
  pub refused : IfErr out (GiveBackRefused s t turns)
  pub failed : failed_of t ≡ failed_turns (added s t)
  pub fewer : OnOk out (failed_of t < turns)
