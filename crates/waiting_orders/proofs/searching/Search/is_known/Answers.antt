-- Each of the two sets has its states, compared exactly.
use Rattle.std.proofs.Common.{sym, ◌∙◌}
use Rattle.waiting_orders.specs.Nodes.{view, views}
use Rattle.waiting_orders.proofs.Counting.{any_in, none_in, in_front, in_behind, in_neither}
use Rattle.waiting_orders.proofs.searching.Search.is_known.Goals as goal

pub returns-then-contains-clause-known : goal.returns-then-contains-clause-known
returns-then-contains-clause-known c = λ h.
    in_front (views c.args.self.now.done.keys) (views c.args.self.now.ahead.keys) (view c.args.node.now)
    (any_in c.args.node.now c.args.self.now.done.keys (sym c.contains.ensures ∙ c.if-contains.true))

pub returns-else-contains-clause-known : goal.returns-else-contains-clause-known
returns-else-contains-clause-known c = λ h.
    in_behind (views c.args.self.now.done.keys) (views c.args.self.now.ahead.keys) (view c.args.node.now)
    (any_in c.args.node.now c.args.self.now.ahead.keys (sym c.contains-else-contains.ensures ∙ h))

pub returns-else-contains-clause-new : goal.returns-else-contains-clause-new
returns-else-contains-clause-new c = λ h.
    in_neither (views c.args.self.now.done.keys) (views c.args.self.now.ahead.keys) (view c.args.node.now)
    (none_in c.args.node.now c.args.self.now.done.keys (sym c.contains.ensures ∙ c.if-contains.false))
    (none_in c.args.node.now c.args.self.now.ahead.keys (sym c.contains-else-contains.ensures ∙ h))
