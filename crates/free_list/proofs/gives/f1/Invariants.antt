use Rattle.free_list.specs.Runs.{giving}
use Rattle.free_list.proofs.gives.f1.Given as goal

abbrev pub ghost-load : goal.ghost-load
ghost-load g a = giving a.failed
