-- Each lemma is a clause of the law.
use Rattle.history.proofs.Values.{popped-alone, pushed-alone}
use Rattle.history.proofs.laws.who_alone_may_did_all.Goals as goal

pub returns : goal.returns
returns c = record { pops = popped-alone; pushes = pushed-alone }
