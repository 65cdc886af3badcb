use Rattle.std.proofs.Common.{subst, ap, ◌∙◌}
use Rattle.line_table.specs.declared.lines.Line.TheVariants.{S1}
use Rattle.free_list.specs.declared.outcomes.RowOutcome.TheVariants.{Goes}
use Rattle.nonblocking.specs.declared.shut_outcomes.Turn.TheVariants as turn
use Rattle.nonblocking.specs.Shuts.{turn_of, ReadsEnd}
use Rattle.nonblocking.proofs.ShutTurns.{puts_end, swings, turn_behind}
use Rattle.nonblocking.proofs.shuts.shut_turn.Goals as goal

pub returns-in-S4 : goal.returns-in-S4
returns-in-S4 g c =
    let k = subst (ReadsEnd c.args.arena.now c.args.seat.now c.read_end.new.seat) (c.in-Goes.is ∙ ap (λ l. Goes l c.in-Goes.a) c.in-S4.is) c.read_end.ensures in
    rw c.turned.ensures
    (turn_behind c.args.arena.now c.args.seat.now c.read_end.new.seat c.s4.new.seat k.lines k.stored k.slots k.looked.walks k.looked.never (turn_of c.s4.result)
    (puts_end c.args.arena.now c.read_end.new.seat c.s4.new.seat c.in-Goes.a c.s4.result k.looked.stands c.s4.ensures))

pub returns-in-S5 : goal.returns-in-S5
returns-in-S5 g c =
    let k = subst (ReadsEnd c.args.arena.now c.args.seat.now c.read_end.new.seat) (c.in-Goes.is ∙ ap (λ l. Goes l c.in-Goes.a) c.in-S5.is) c.read_end.ensures in
    turn_behind c.args.arena.now c.args.seat.now c.read_end.new.seat c.s5.new.seat k.lines k.stored k.slots k.looked.walks k.looked.never turn.Failed
    (swings c.args.arena.now c.read_end.new.seat c.s5.new.seat c.in-Goes.a (Goes S1 c.s5.result) k.looked.stands c.s5.ensures)
