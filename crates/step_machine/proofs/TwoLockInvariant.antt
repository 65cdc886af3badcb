-- What holds of each world of the two-lock queue that is reached.
use Rattle.std.proofs.Common.{◌≡◌, ℕ, List, Some, subst}
use Rattle.step_machine.specs.Below.{TwoLock, Line, section_of, Actor}
use Rattle.step_machine.specs.Machine.{World, actor_of, IsReached}
use Rattle.step_machine.specs.ProgramCounters.{IsRunBy, NonNullAt}
use Rattle.step_machine.proofs.Carrying.{nothing}
use Rattle.step_machine.proofs.Invariant.{ReachedInvariant as HasInvariant, reached_with}
use Rattle.step_machine.proofs.TwoLockAtLines.{two_lock}
use Rattle.step_machine.proofs.TwoLockLines.{two_lock_steps}
use Rattle.step_machine.proofs.EitherQueue.{stands_at}

-- a world's chains, with what holds of them
abbrev pub ReachedInvariant : (World → List ℕ → Type 0) → (World → ℕ → Type 0) → World → Type 0
ReachedInvariant L Z w = HasInvariant two_lock L Z w

-- each world that is reached has its chains
pub reached_invariant : (w : World) → IsReached w → w.setup.kind ≡ TwoLock → ReachedInvariant (λ w q. Unit {0}) (λ w k. Unit {0}) w
reached_invariant = reached_with two_lock two_lock_steps (λ w q. Unit {0}) (λ w k. Unit {0}) nothing

-- each actor's registers hold nodes where its line uses them so
pub nodes_at : (w : World) → IsReached w → w.setup.kind ≡ TwoLock → (me : ℕ) (a : Actor) (l : Line) → actor_of w me ≡ Some a → a.line ≡ Some l
    → IsRunBy (section_of l) TwoLock × NonNullAt w.setup.bits l a
nodes_at w r e me a l is at =
    let q : IsRunBy (section_of l) w.setup.kind × NonNullAt w.setup.bits l a = stands_at w r me a l is at in (subst (IsRunBy (section_of l)) e q.0, q.1)
