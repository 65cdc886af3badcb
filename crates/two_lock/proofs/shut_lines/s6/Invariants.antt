use Rattle.two_lock.specs.Shuts.{shutting}
use Rattle.two_lock.proofs.shut_lines.s6.Given as goal

abbrev pub ghost-exchange : goal.ghost-exchange
ghost-exchange g a = shutting a.failed
