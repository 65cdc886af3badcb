-- Each state is behind the one that is found at its parent's place, and what went between them is what goes first.
use Rattle.std.proofs.Common.{◌≡◌, Some, length, reverse, slice_get, take, refl, sym, ◌∙◌, subst}
use Rattle.std.proofs.lemmas.Option.{same_Some, slice_get_read}
use Rattle.waiting_orders.specs.Nodes.{state_of, view}
use Rattle.waiting_orders.specs.Orders.{AreWent, LeadsTo}
use Rattle.waiting_orders.specs.Walked.{IsFrom}
use Rattle.waiting_orders.proofs.Reading.{from_all, from_before, parent_of, walk_more}
use Rattle.waiting_orders.proofs.walks.walk_to.Goals as goal

pub loop-below-init : goal.loop-below-init
loop-below-init c =
    let board = c.args.board.now in
    let s = state_of board (view c.args.end.now) in (
      from_all board c.args.done.now c.args.end.now c.requires.end,
      λ calls. subst (λ l. AreWent (reverse l) s s) (sym c.new-walk.ensures.items) refl,
    )

pub loop-below-preserved : goal.loop-below-preserved
loop-below-preserved c =
    let board = c.args.board.now in
    let done = c.args.done.now in
    let to = c.loop-below.to.now in
    let from = c.in-Some.from.now in
    let p = parent_of board done c.loop-below.below to c.loop-below.invariant.0 (c.is_start.ensures.no c.loop-below-test.true) in
    let found : slice_get done to.parent ≡ Some from = (let h = c.in-Some.ensures.lookup in slice_get_read done (length done) to.parent from refl h.3.0 h.1) in
    let same : p.node ≡ from = same_Some p.node from (sym p.there ∙ found) in (
      subst (IsFrom board (take to.parent done)) same (from_before board done to.parent p.node c.requires.done p.there),
      λ calls.
          let leads = subst (λ n. LeadsTo board (view n) (view to)) same (p.leads calls) in
          let w = c.in_ok-push_went.ensures leads in
          walk_more board (view from) (view to) c.args.end.now c.loop-below.walk.items c.push_went.new.walk.items w.0 w.1 w.2 (c.loop-below.invariant.1 calls),
    )
