use Rattle.free_list.proofs.word_steps.load.Given as goal

abbrev pub ghost-load : goal.ghost-load
ghost-load g a = g.prologue
