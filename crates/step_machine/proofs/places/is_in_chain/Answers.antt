-- The walk ends at an end of the chain or at the node, and else goes on.
use Rattle.std.proofs.Common.{rules, arith, inl, inr, ◌∙◌, sym}
use Rattle.step_machine.specs.Places.{IsEnd}
use Rattle.step_machine.proofs.Chains.{no_end}
use Rattle.step_machine.proofs.PlaceOf.{walked_to_end, walked_to_node, walked_on}
use Rattle.step_machine.proofs.places.is_in_chain.Goals as goal
use Rattle.step_machine.proofs.places.is_in_chain.Goals.{then-at-eq0-via-then-at-eq0, then-at-eq0-via-else-at-eq0+then-at-shut_node}

pub returns-then-at-eq0 : goal.returns-then-at-eq0
returns-then-at-eq0 g c =
    let end : IsEnd g.row.B c.loop.at =
    elim c.then-at-eq0.branch [ then-at-eq0-via-then-at-eq0 w ↦ inl w.if-at-eq0.true | then-at-eq0-via-else-at-eq0+then-at-shut_node w ↦ inr (w.if-at-shut_node.true ∙ w.shut_node.ensures) ] in
    walked_to_end g.row.B _ _ c.loop.at _ _ c.loop.counter c.requires.few end c.loop.invariant

pub returns-then-at-node : goal.returns-then-at-node
returns-then-at-node g c =
    walked_to_node g.row.B _ _ c.loop.at _ _ c.loop.counter (no_end g.row.B c.loop.at (omega (arith, c.if-at-eq0.false)) (λ e. c.if-at-shut_node.false (e ∙ sym c.shut_node.ensures))) c.if-at-node.true
    c.loop.invariant

pub loop-preserved : goal.loop-preserved
loop-preserved g c =
    walked_on g.row.B _ _ c.loop.at _ _ _ c.loop.counter (no_end g.row.B c.loop.at (omega (arith, c.if-at-eq0.false)) (λ e. c.if-at-shut_node.false (e ∙ sym c.shut_node.ensures))) c.if-at-node.false
    (search rules) c.loop.invariant
