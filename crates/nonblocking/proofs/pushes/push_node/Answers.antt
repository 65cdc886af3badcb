use Rattle.std.proofs.Common.{◌∙◌, ap, Some, None, Ok, Err}
use Rattle.history.specs.declared.operations.Taken.{Taken}
use Rattle.node_arena.specs.Machine.{value_of}
use Rattle.node_arena.specs.Seats.{keeping}
use Rattle.nonblocking.specs.Pushes.{Running}
use Rattle.node_arena.proofs.Values.{value_of-word}
use Rattle.nonblocking.proofs.PushTries.{fill_node, next_try, puts_it, refused_put, puts_as}
use Rattle.nonblocking.proofs.pushes.push_node.Goals as goal

pub returns-in-Pushed : goal.returns-in-Pushed
returns-in-Pushed g c =
    let node = ap (λ (x : Running). x.node) c.a.view_is ∙ fill_node c.args.arena.now c.args.seat.now c.fill.new.seat c.registers.result c.fill.result
    c.in-Goes.field-0 c.in-Goes.a c.in-Goes.is c.fill.ensures c.args.held.node (ap (λ (x : Running). x.node) c.registers.ensures) in
    let body = ap (λ (v : Taken). v.body) (value_of-word c.word_of-val.result c.number.result c.number-2.result c.number-2.ensures.range c.word_of-val.ensures) ∙ c.number-2.ensures.value in
    rw c.keep-in-Pushed.ensures
    (puts_as c.args.arena.now c.args.seat.now (keeping c.push_turn.new.seat None c.loop-index.index) c.a.inside.node c.args.held.node
    (value_of c.word_of-val.result).body c.args.body c.args.spent c.args.turns (Ok tt) node body
    (puts_it c.args.arena.now c.args.seat.now c.loop-index.seat c.push_turn.new.seat (record { node = c.a.inside.node; mark = c.a.inside.mark })
    c.word_of-val.result c.args.spent c.loop-index.index c.args.turns c.registers-in-loop-index.result c.push_turn.result
    c.registers-in-loop-index.ensures c.loop-index.invariant c.push_turn.ensures c.loop-index-test.true c.in-Pushed.is))

pub returns-in-Refused-push_turn : goal.returns-in-Refused-push_turn
returns-in-Refused-push_turn g c =
    let node = ap (λ (x : Running). x.node) c.a.view_is ∙ fill_node c.args.arena.now c.args.seat.now c.fill.new.seat c.registers.result c.fill.result
    c.in-Goes.field-0 c.in-Goes.a c.in-Goes.is c.fill.ensures c.args.held.node (ap (λ (x : Running). x.node) c.registers.ensures) in
    let body = ap (λ (v : Taken). v.body) (value_of-word c.word_of-val.result c.number.result c.number-2.result c.number-2.ensures.range c.word_of-val.ensures) ∙ c.number-2.ensures.value in
    rw c.keep-in-Refused-push_turn.ensures
    (puts_as c.args.arena.now c.args.seat.now (keeping c.push_turn.new.seat (Some (record { node = c.a.inside.node; mark = c.a.inside.mark }))
    c.loop-index.index) c.a.inside.node c.args.held.node (value_of c.word_of-val.result).body c.args.body c.args.spent c.args.turns
    (Err c.in-Refused-push_turn.refusal) node body
    (refused_put c.args.arena.now c.args.seat.now c.loop-index.seat c.push_turn.new.seat (record { node = c.a.inside.node; mark = c.a.inside.mark })
    c.word_of-val.result c.args.spent c.loop-index.index c.args.turns c.registers-in-loop-index.result c.push_turn.result
    c.registers-in-loop-index.ensures c.loop-index.invariant c.push_turn.ensures c.in-Refused-push_turn.refusal c.in-Refused-push_turn.is))

pub loop-index-preserved : goal.loop-index-preserved
loop-index-preserved g c = next_try c.args.arena.now c.args.seat.now c.loop-index.seat c.push_turn.new.seat
    (record { node = c.a.inside.node; mark = c.a.inside.mark }) c.word_of-val.result c.args.spent c.loop-index.index c.args.turns
    c.registers-in-loop-index.result c.push_turn.result c.registers-in-loop-index.ensures c.loop-index.invariant c.push_turn.ensures c.in-Failed.is
