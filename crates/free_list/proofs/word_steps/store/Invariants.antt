use Rattle.free_list.proofs.word_steps.store.Given as goal

abbrev pub ghost-store : goal.ghost-store
ghost-store g a = g.prologue
