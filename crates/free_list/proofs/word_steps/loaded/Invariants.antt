use Rattle.node_arena.specs.Prologues.{continues}
use Rattle.free_list.proofs.word_steps.loaded.Given as goal

abbrev pub ghost-load : goal.ghost-load
ghost-load g a = continues
