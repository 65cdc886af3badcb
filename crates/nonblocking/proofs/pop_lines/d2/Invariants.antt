use Rattle.nonblocking.specs.Pops.{popping}
use Rattle.nonblocking.proofs.pop_lines.d2.Given as goal

abbrev pub ghost-load : goal.ghost-load
ghost-load g a = popping a.failed
