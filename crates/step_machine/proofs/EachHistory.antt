-- What is proved of each queue by itself, said of both at once.
use Rattle.std.proofs.Common.{◌≡◌, ℕ, List, [], ◌∷◌, Option, Some, None, IfSome, refl, sym, subst, ◌∙◌}
use Rattle.std.proofs.lemmas.Option.{IfSome_then}
use Rattle.history.specs.Linearizability.{IsLinearizable}
use Rattle.history.proofs.Linearizing.{placed_linearizes}
use Rattle.step_machine.specs.Below.{Placement, IsLegal, Setup}
use Rattle.step_machine.specs.Machine.{World, opening, AnyMove, next_any, run, run_on, IsSized, IsReached, IsMade}
use Rattle.step_machine.specs.Histories.{OfEachWorld, OfEachHistory}
use Rattle.step_machine.proofs.Reached.{if_some, some_of, setup-next_any, made_reached}
use Rattle.step_machine.proofs.StampsLaws.{histories_are_placed}
pub use Rattle.step_machine.proofs.EachLegal.{histories_are_legal, replay_to_the_values}

-- no list of moves changes the setup
run_setup : (ms : List AnyMove) (w : World) → IfSome (run ms w) (λ v. v.setup ≡ w.setup)
run_setup [] w = refl
run_setup (m ∷ ms) w = on (next_any w m) refl (run_setup ms)
  where
    on : (o : Option World) → next_any w m ≡ o → ((u : World) → IfSome (run ms u) (λ v. v.setup ≡ u.setup)) → IfSome (run_on (run ms) o) (λ v. v.setup ≡ w.setup)
    on None e more = tt
    on (Some u) e more = IfSome_then (run ms u) (more u) (λ v same. same ∙ setup-next_any w u m e)

setup-run : (ms : List AnyMove) (w v : World) → run ms w ≡ Some v → v.setup ≡ w.setup
setup-run ms w v e = some_of (λ u. u.setup ≡ w.setup) (run ms w) v e (run_setup ms w)

-- a world that a list of moves leads to is reached
reached_by : (s : Setup) (actors : ℕ) (moves : List AnyMove) (w : World) → IsSized s actors → run moves (opening s actors) ≡ Some w → IsReached w
reached_by s actors moves w sized led =
    let same : w.setup ≡ s = setup-run moves (opening s actors) w led in
    record {
      actors = actors;
      moves = moves;
      sized = subst (λ t. IsSized t actors) (sym same) sized;
      led = subst (λ t. run moves (opening t actors) ≡ Some w) (sym same) led;
    }

-- the history of each world that is reached is placed
pub reached_placed : OfEachWorld (λ w. Placement w.operations)
reached_placed w r =
    some_of (λ v. Placement v.operations) (run r.moves (opening w.setup r.actors)) w r.led (histories_are_placed w.setup r.actors r.moves)

-- and legal, so it is linearizable
pub reached_linearizable : OfEachWorld (λ w. IsLinearizable w.operations)
reached_linearizable w r = placed_linearizes w.operations (reached_placed w r) (histories_are_legal w r)

-- so each history is
pub each_placed : OfEachHistory Placement
each_placed s actors moves sized = histories_are_placed s actors moves

pub each_legal : OfEachHistory IsLegal
each_legal s actors moves sized =
    if_some (λ w. IsLegal w.operations) (run moves (opening s actors)) (λ w led. histories_are_legal w (reached_by s actors moves w sized led))

pub each_linearizable : OfEachHistory IsLinearizable
each_linearizable s actors moves sized =
    if_some (λ w. IsLinearizable w.operations) (run moves (opening s actors)) (λ w led. reached_linearizable w (reached_by s actors moves w sized led))

-- the history of each world that calls lead to
pub made_placed : (w : World) → IsMade w → Placement w.operations
made_placed w m = reached_placed w (made_reached w m)

pub made_legal : (w : World) → IsMade w → IsLegal w.operations
made_legal w m = histories_are_legal w (made_reached w m)

pub made_linearizable : (w : World) → IsMade w → IsLinearizable w.operations
made_linearizable w m = reached_linearizable w (made_reached w m)
