use Rattle.expand_engine.proofs.OneExpansion.{one_expansion}
use Rattle.expand_engine.proofs.laws.acts_stand_for_one_list_of_events.Goals as goal

pub returns : goal.returns
returns c = λ w u v acts first second led other. one_expansion acts w u v first second led other
