-- A world that is reached is in range, and what is in range fits.
use Rattle.step_machine.proofs.Fits.{shared_fits, access_fits}
use Rattle.step_machine.proofs.Reached.{reached_in_range}
use Rattle.step_machine.proofs.laws.contents_fit_their_words.Goals as goal

pub returns : goal.returns
returns c =
    record {
      held = λ w r. shared_fits w (reached_in_range w r);
      accessed = λ w r me a l. access_fits w me a l (reached_in_range w r);
    }
