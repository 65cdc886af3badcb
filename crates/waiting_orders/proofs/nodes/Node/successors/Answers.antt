-- The operations are those of the board.
use Rattle.std.proofs.Common.{subst}
use Rattle.std.specs.List.{AllByRecursion}
use Rattle.waiting_orders.specs.Nodes.{view, views}
use Rattle.waiting_orders.specs.Reached.{Leads}
use Rattle.waiting_orders.proofs.nodes.Node.successors.Goals as goal

pub returns-clause-all : goal.returns-clause-all
returns-clause-all c = c.in_ok-new.ensures.all c.args.board.now c.deref.ensures.value c.deref-2.ensures.value

pub returns-clause-each : goal.returns-clause-each
returns-clause-each c =
    subst (λ ops. AllByRecursion (Leads ops c.args.board.now.pushes.items (view c.args.self.now)) (views c.in_ok-new.new.items)) c.deref.ensures.value
    (subst (λ ops. AllByRecursion (Leads c.deref.result.now ops (view c.args.self.now)) (views c.in_ok-new.new.items)) c.deref-2.ensures.value c.in_ok-new.ensures.each)

pub returns-clause-behind : goal.returns-clause-behind
returns-clause-behind c = c.in_ok-new.ensures.behind c.args.board.now c.deref.ensures.value c.deref-2.ensures.value
