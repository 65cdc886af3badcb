use Rattle.std.proofs.Common.{◌∙◌, sym, inl, inr}
use Rattle.node_arena.proofs.Lefts.{has_one, walks-more, walks-all}
use Rattle.node_arena.proofs.remains.values_from.Goals as goal
use Rattle.node_arena.proofs.remains.values_from.Goals.{then-loop-node-test+else-node-end, else-loop-node-test}

pub value_at-requires-clause-there : goal.value_at-requires-clause-there
value_at-requires-clause-there g c = (has_one g.row.B _ _ _ _ c.loop-node-test.true (λ e. c.if-node-end.true (e ∙ sym c.shut_node-end.ensures)) c.loop-node.invariant.chain).there

pub next_of-node-requires-clause-there : goal.next_of-node-requires-clause-there
next_of-node-requires-clause-there g c = (has_one g.row.B _ _ _ _ c.loop-node-test.true (λ e. c.if-node-end.true (e ∙ sym c.shut_node-end.ensures)) c.loop-node.invariant.chain).there

pub loop-node-preserved : goal.loop-node-preserved
loop-node-preserved g c =
    let pushed = rw c.unwrap.ensures at c.push.ensures.items in
    let longer = rw c.unwrap.ensures at c.push.ensures.len in
    rw pushed (walks-more g.row.B _ _ _ _ _ _ _ _ _ _ c.loop-node.invariant c.loop-node-test.true
    (λ e. c.if-node-end.true (e ∙ sym c.shut_node-end.ensures)) c.value_at.ensures c.next_of-node.ensures longer c.push.ensures.capacity)

pub returns : goal.returns
returns g c = walks-all g.row.B c.requires.split _ _ _ _ _ _ _ c.shut_node-end.ensures c.loop-node.invariant (elim c.loop-node-test.branch [
  | then-loop-node-test+else-node-end w ↦ inr w.if-node-end.false
  | else-loop-node-test w ↦ inl w.loop-node-test.false
])
