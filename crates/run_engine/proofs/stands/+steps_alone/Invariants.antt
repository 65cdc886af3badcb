use Rattle.run_engine.proofs.stands.+steps_alone.Given as goal

abbrev pub decreases-steps_alone : goal.decreases-steps_alone
decreases-steps_alone g l = l.most
