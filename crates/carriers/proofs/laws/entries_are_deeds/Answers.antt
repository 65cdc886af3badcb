-- The lemmas are the law.
use Rattle.carriers.specs.Sound.{RunsTo-deeds}
use Rattle.carriers.proofs.ByDeeds.{Matches-deeds}
use Rattle.carriers.proofs.laws.entries_are_deeds.Goals as goal

pub returns-clause-matches : goal.returns-clause-matches
returns-clause-matches c = Matches-deeds

pub returns-clause-leads : goal.returns-clause-leads
returns-clause-leads c = RunsTo-deeds
