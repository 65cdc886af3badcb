-- What the moves carry along of a world and its queue's chain, in both queues: a fact of the chain, and one of the
-- numbers noted where the queue was empty.
use Rattle.std.proofs.Common.{◌≡◌, ℕ, ◌+◌, true, List, [], ◌∷◌, Some, None}
use Rattle.step_machine.specs.Below.{Line, Op, empty, Setup, Actor, Outcome, Shared, begun}
use Rattle.step_machine.specs.Machine.{World, opening, actor_of, rested, may_rest, with_actor, after_outcome, IsSized, IsReached}
use Rattle.step_machine.specs.Chains.{queue_in}
use Rattle.step_machine.proofs.StampsInvariants.{Does}
use Rattle.step_machine.proofs.Counting.{elsewhere}
use Rattle.step_machine.proofs.Effects.{Shape, WritesOneNode}
use Rattle.step_machine.proofs.Fixed.{FixedAt}
use Rattle.step_machine.proofs.LinearizationSteps.{LinearizationStep}

-- a step or a giving up of an actor, whichever queue it is of: `front ∷ rest` is the chain from Head before it, and
-- `queue'` the one after it
pub record NumberedMove (Z : ℕ → Type 0) (w : World) (me : ℕ) (a : Actor) (m' : Shared) (o : Outcome) (front : ℕ) (rest queue' : List ℕ) : Type 1 where
  pub line : Line
  pub free : List ℕ
  pub reached : IsReached w
  pub here : actor_of w me ≡ Some a
  pub at : a.line ≡ Some line
  pub shape : Shape w.setup.bits w.shared (elsewhere w) (front ∷ rest) free
  pub fixed : FixedAt w.setup.limit me a (Some line)
  pub writes : WritesOneNode w.shared m' (front ∷ rest) a
  pub linearizes : LinearizationStep w.setup.bits Z me (w.steps + 1) w.shared m' (front ∷ rest) queue' a o
  pub stamps : Does (w.steps + 1) line a.due a.empty_at o
  pub same_call : o.actor.op ≡ a.op

-- what such a move leaves of the two facts
pub record Carried (L : World → List ℕ → Type 0) (Z : World → ℕ → Type 0) (w v : World) (queue queue' : List ℕ) : Type 0 where
  pub fact : L v queue'
  pub keeps : (k : ℕ) → Z w k → Z v k
  pub finds : queue_in w.setup.bits w.shared queue ≡ empty → Z v (w.steps + 1)

-- the moves carry both facts along
pub record Carries (L : World → List ℕ → Type 0) (Z : World → ℕ → Type 0) : Type 1 where
  pub told : (w : World) (me : ℕ) (a : Actor) (m' : Shared) (o : Outcome) (front : ℕ) (rest queue' : List ℕ) → NumberedMove (Z w) w me a m' o front rest queue'
      → L w (front ∷ rest) → Carried L Z w (after_outcome w me a m' o) (front ∷ rest) queue'
  pub began : (w : World) (me : ℕ) (op : Op) (a : Actor) (queue : List ℕ) → IsReached w → actor_of w me ≡ Some a → a.line ≡ None → L w queue
      → L (with_actor w me (begun w.setup.kind me op a)) queue × ((k : ℕ) → Z w k → Z (with_actor w me (begun w.setup.kind me op a)) k)
  pub at_rest : (w : World) (me : ℕ) (a : Actor) (l : Line) (queue : List ℕ) → IsReached w → actor_of w me ≡ Some a → a.line ≡ Some l → may_rest l ≡ true
      → L w queue → L (with_actor w me (rested a)) queue × ((k : ℕ) → Z w k → Z (with_actor w me (rested a)) k)
  pub starts : (s : Setup) (actors : ℕ) → IsSized s actors → L (opening s actors) (1 ∷ [])

-- such a move in a world whose chain has the fact
pub record Moving (L : World → List ℕ → Type 0) (Z : World → ℕ → Type 0) (w : World) (me : ℕ) (a : Actor) (m' : Shared) (o : Outcome) : Type 1 where
  pub front : ℕ
  pub rest : List ℕ
  pub queue' : List ℕ
  pub move : NumberedMove (Z w) w me a m' o front rest queue'
  pub fact : L w (front ∷ rest)

-- nothing more is carried along
pub nothing : Carries (λ w q. Unit {0}) (λ w k. Unit {0})
nothing =
    record {
      told = λ w me a m' o front rest queue' move f. record { fact = tt; keeps = λ k z. tt; finds = λ e. tt };
      began = λ w me op a q r is at f. (tt, λ k z. tt);
      at_rest = λ w me a l q r is at may f. (tt, λ k z. tt);
      starts = λ s actors h. tt;
    }
