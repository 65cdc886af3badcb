use Rattle.worked_runs.proofs.hands.push_at_e9.Given as goal

abbrev pub ghost-exchange : goal.ghost-exchange
ghost-exchange g a = g.prologue
