use Rattle.two_lock.specs.Pushes.{pushing}
use Rattle.two_lock.proofs.push_lines.a1.Given as goal

abbrev pub ghost-store : goal.ghost-store
ghost-store g a = pushing a.value
