use Rattle.free_list.proofs.Spots.{has_place}
use Rattle.free_list.proofs.word_steps.exchange.Goals as goal

pub place-requires : goal.place-requires
place-requires g c = has_place c.args.arena.now c.args.seat.now g.prologue c.args.line c.args.word _ c.requires.1.1.1.0 c.requires.1.1.1.1
