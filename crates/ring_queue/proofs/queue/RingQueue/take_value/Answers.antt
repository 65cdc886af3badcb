use Rattle.std.proofs.Common.{rules, ap, sym, ◌∙◌, Some, ◌∷◌}
use Rattle.atomic_table.specs.Table.{rest}
use Rattle.ring_queue.proofs.queue.RingQueue.take_value.Goals as goal

pub exchange-requires : goal.exchange-requires
exchange-requires g c =
    let is = c.requires.has.1.out in
    (search rules, (Some c.requires.has.0, is ∙ ap (λ r. (c.args.slot, Some c.requires.has.0) ∷ r) (sym (ap rest is))))
