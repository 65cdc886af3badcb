use Rattle.node_arena.specs.Prologues.{continues}
use Rattle.free_list.proofs.word_steps.exchanged.Given as goal

abbrev pub ghost-exchange : goal.ghost-exchange
ghost-exchange g a = continues
