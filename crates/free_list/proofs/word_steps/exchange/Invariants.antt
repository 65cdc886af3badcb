use Rattle.free_list.proofs.word_steps.exchange.Given as goal

abbrev pub ghost-exchange : goal.ghost-exchange
ghost-exchange g a = g.prologue
