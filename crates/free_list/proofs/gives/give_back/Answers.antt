use Rattle.node_arena.specs.Seats.{view}
use Rattle.node_arena.proofs.Seens.{sound_of}
use Rattle.free_list.proofs.gives.give_back.Goals as goal

pub returns-clause-sound : goal.returns-clause-sound
returns-clause-sound g c = sound_of c.args.arena.now.plan (view c.give_within.new.seat) c.give_within.ensures.ready.seat.sits.fitted
