use Rattle.free_list.specs.Runs.{taking}
use Rattle.free_list.proofs.takes.n1.Given as goal

abbrev pub ghost-load : goal.ghost-load
ghost-load g a = taking a.failed
