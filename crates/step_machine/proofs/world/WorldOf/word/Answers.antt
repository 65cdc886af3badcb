-- The words of a world are its memory's.
use Rattle.std.proofs.Common.{ap, ◌∙◌}
use Rattle.std.specs.List.{slice_get}
use Rattle.step_machine.specs.Words.{memory_words}
use Rattle.step_machine.proofs.world.WorldOf.word.Goals as goal

pub returns : goal.returns
returns g c = c.word.ensures ∙ ap (λ w. slice_get (memory_words g.row.B w.shared) c.args.index) c.self.view_is
