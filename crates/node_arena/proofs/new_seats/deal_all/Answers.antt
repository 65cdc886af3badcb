use Rattle.std.proofs.Common.{rules, arith}
use Rattle.std.proofs.lemmas.Grind.{common_steps}
use Rattle.node_arena.proofs.Deals.{one_more}
use Rattle.node_arena.proofs.new_seats.deal_all.Goals as goal

pub loop-i-preserved : goal.loop-i-preserved
loop-i-preserved g c =
    let pushed = rw c.unwrap.ensures at c.push.ensures.items in (
      search rules,
      rw pushed (let e = c.loop-i.invariant.1 in grind (arith, common_steps, e)),
      rw pushed (one_more _ _ _ c.loop-i.i _ c.loop-i.invariant.1 c.loop-i.invariant.2 c.deal-seat.ensures.seat),
      omega (arith, c.loop-i.invariant.3, c.push.ensures.capacity),
    )
