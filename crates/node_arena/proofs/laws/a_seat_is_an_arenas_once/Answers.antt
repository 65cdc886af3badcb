-- Each lemma is a clause of the law.
use Rattle.node_arena.proofs.OneProof.{IsSeat-prop, IsReady-prop}
use Rattle.node_arena.proofs.laws.a_seat_is_an_arenas_once.Goals as goal

pub returns : goal.returns
returns g c = record { seat = IsSeat-prop; ready = IsReady-prop }
