use Rattle.node_arena.proofs.Gathers.{enters_beside}
use Rattle.node_arena.proofs.ended.Ended.emptied.Goals as goal

pub load_new_seat-token-requires : goal.load_new_seat-token-requires
load_new_seat-token-requires g c = (c.requires.words, enters_beside _ _)
