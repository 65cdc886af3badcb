use Rattle.nonblocking.specs.Pushes.{pushing}
use Rattle.nonblocking.proofs.push_lines.e2.Given as goal

abbrev pub ghost-store : goal.ghost-store
ghost-store g a = pushing a.value
