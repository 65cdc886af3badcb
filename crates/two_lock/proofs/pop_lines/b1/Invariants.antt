use Rattle.two_lock.specs.Pops.{popping}
use Rattle.two_lock.proofs.pop_lines.b1.Given as goal

abbrev pub ghost-exchange : goal.ghost-exchange
ghost-exchange g a = popping a.failed
