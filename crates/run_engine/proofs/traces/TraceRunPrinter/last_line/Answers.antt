use Rattle.run_engine.proofs.traces.TraceRunPrinter.last_line.Goals as goal

pub returns : goal.returns
returns g c = rw c.actor_in.ensures at c.alone_line.ensures
