use Rattle.node_arena.specs.Prologues.{continues}
use Rattle.free_list.proofs.word_steps.cleared.Given as goal

abbrev pub ghost-fetch_and : goal.ghost-fetch_and
ghost-fetch_and g a = continues
