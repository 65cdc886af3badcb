use Rattle.node_arena.specs.Prologues.{continues}
use Rattle.free_list.proofs.Spots.{has_place}
use Rattle.free_list.proofs.word_steps.cleared.Goals as goal

pub place-requires : goal.place-requires
place-requires g c = has_place c.args.arena.now c.args.seat.now continues c.args.line c.args.word _ c.requires.may c.requires.names
