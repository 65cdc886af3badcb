use Rattle.node_arena.specs.Prologues.{continues}
use Rattle.free_list.proofs.word_steps.stored.Given as goal

abbrev pub ghost-store : goal.ghost-store
ghost-store g a = continues
