use Rattle.schedule_text.specs.ShortLines.{nothing}
use Rattle.schedule_text.proofs.held.HeldLine.new.Goals as goal

pub returns : goal.returns
returns c = nothing
