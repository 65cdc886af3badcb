use Rattle.nonblocking.specs.Shuts.{shutting}
use Rattle.nonblocking.proofs.shut_lines.s1.Given as goal

abbrev pub ghost-load : goal.ghost-load
ghost-load g a = shutting a.failed
