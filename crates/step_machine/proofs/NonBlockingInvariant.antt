-- What holds of each world of the non-blocking queue that is reached.
use Rattle.std.proofs.Common.{◌≡◌, ℕ, List}
use Rattle.step_machine.specs.Below.{NonBlocking}
use Rattle.step_machine.specs.Machine.{World, IsReached}
use Rattle.step_machine.proofs.Carrying.{nothing}
use Rattle.step_machine.proofs.Invariant.{ReachedInvariant as HasInvariant, reached_with}
use Rattle.step_machine.proofs.NonBlockingAtLines.{non_blocking}
use Rattle.step_machine.proofs.NonBlockingSteps.{non_blocking_steps}

-- a world's chains, with what holds of them
abbrev pub ReachedInvariant : (World → List ℕ → Type 0) → (World → ℕ → Type 0) → World → Type 0
ReachedInvariant L Z w = HasInvariant non_blocking L Z w

-- each world that is reached has its chains
pub reached_invariant : (w : World) → IsReached w → w.setup.kind ≡ NonBlocking → ReachedInvariant (λ w q. Unit {0}) (λ w k. Unit {0}) w
reached_invariant = reached_with non_blocking non_blocking_steps (λ w q. Unit {0}) (λ w k. Unit {0}) nothing
