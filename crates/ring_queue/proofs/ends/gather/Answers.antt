use Rattle.std.proofs.Common.{All, subst}
use Rattle.std.proofs.lemmas.List.Elements.{All-head, All-rest, All-same}
use Rattle.ring_queue.specs.Ends.{HasToken}
use Rattle.node_arena.proofs.Lifts.{none_held}
use Rattle.ring_queue.proofs.Tokens.{gathers_token, took_in}
use Rattle.ring_queue.proofs.ends.gather.Goals as goal

pub join_seat-requires : goal.join_seat-requires
join_seat-requires g c =
    let k = c.loop-seat.invariant.0 in
    let one = All-head (HasToken _) _ _ (subst (All (HasToken _)) c.in-Some.ensures.steps.0 c.loop-seat.invariant.1) in (
      k.table,
      one.table,
      none_held _ one.none_out.0,
      c.requires.words,
      gathers_token _ _ _ _ _ k one,
    )

pub loop-seat-preserved : goal.loop-seat-preserved
loop-seat-preserved g c =
    let one = All-head (HasToken _) _ _ (subst (All (HasToken _)) c.in-Some.ensures.steps.0 c.loop-seat.invariant.1) in
    (took_in _ _ _ _ _ c.loop-seat.invariant.0 one c.join_seat.ensures.0 c.join_seat.ensures.2, All-rest (HasToken _) _ _ _ c.in-Some.ensures.steps.0 c.loop-seat.invariant.1)

pub loop-seat-init : goal.loop-seat-init
loop-seat-init g c = (c.requires.gatherer, All-same (HasToken _) _ _ c.into_iter-seat-iterator.ensures.into_iter_gives.0 c.requires.seats)
