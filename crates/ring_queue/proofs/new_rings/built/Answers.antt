use Rattle.std.proofs.Common.{◌+◌, ap}
use Rattle.ring_queue.specs.Plans.{Layout}
use Rattle.ring_queue.proofs.Vacant.{opens_first}
use Rattle.ring_queue.proofs.new_rings.built.Goals as goal

pub vacant-requires : goal.vacant-requires
vacant-requires g c = opens_first _ c.args.plan _ _ _ _ _ c.requires.planned (ap (λ (z : Layout). z.slots) c.plan.view_is) c.slot_count-flags.ensures (ap (λ k. k + c.slot_count-flags.result) c.further_count.ensures)
    c.as_slice.ensures.value c.in_ok-words.ensures
