use Rattle.node_arena.specs.Seats.{view}
use Rattle.node_arena.proofs.Seens.{sound_of}
use Rattle.free_list.proofs.takes.take.Goals as goal

pub returns-clause-sound : goal.returns-clause-sound
returns-clause-sound g c = sound_of c.args.arena.now.plan (view c.take_within.new.seat) c.take_within.ensures.leaves.ready.seat.sits.fitted
