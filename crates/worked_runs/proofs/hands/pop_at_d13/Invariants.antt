use Rattle.worked_runs.proofs.hands.pop_at_d13.Given as goal

abbrev pub ghost-exchange : goal.ghost-exchange
ghost-exchange g a = g.prologue
