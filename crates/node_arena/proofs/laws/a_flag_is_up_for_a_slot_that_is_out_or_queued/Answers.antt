use Rattle.node_arena.proofs.Flags.{each_flag}
use Rattle.node_arena.proofs.laws.a_flag_is_up_for_a_slot_that_is_out_or_queued.Goals as goal

pub returns : goal.returns
returns g c = each_flag
