-- The lemma is the law.
use Rattle.node_arena.specs.Seats.{view}
use Rattle.node_arena.proofs.Seens.{sound_of}
use Rattle.node_arena.proofs.laws.what_a_seat_knows_is_sound.Goals as goal

pub returns : goal.returns
returns g c = λ r s h. sound_of r.plan (view s) h.sits.fitted
