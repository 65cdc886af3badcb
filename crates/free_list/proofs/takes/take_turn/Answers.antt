use Rattle.std.proofs.Common.{subst}
use Rattle.line_table.specs.declared.lines.Line.TheVariants.{N5}
use Rattle.node_arena.specs.Prologues.{continues}
use Rattle.free_list.specs.declared.outcomes.RowOutcome.TheVariants.{Goes, Ends}
use Rattle.free_list.specs.Runs.{turn_of, GoesTo}
use Rattle.free_list.specs.Takes.{Turns, StandsAfterN2}
use Rattle.free_list.proofs.Ways.{on_turn}
use Rattle.free_list.proofs.Standing.{at_n3, after_n4, after_n5}
use Rattle.free_list.proofs.takes.take_turn.Goals as goal

pub returns-in-N5 : goal.returns-in-N5
returns-in-N5 g c =
    let two : GoesTo c.args.arena.now c.n1-a.new.seat c.n2.new.seat N5 c.in-Goes.a =
    subst (λ l. StandsAfterN2 c.args.arena.now c.n1-a.new.seat c.n2.new.seat (Goes l c.in-Goes.a)) c.in-N5.is c.in-Goes.ensures in
    rw c.turned.ensures (on_turn c.n1-a.ensures (on_turn two (after_n5 c.args.arena.now c.n2.new.seat c.n5.new.seat continues c.in-Goes.a c.n5.result two.stands c.n5.ensures)))

pub returns-in_default : goal.returns-in_default
returns-in_default g c =
    let two = at_n3 c.args.arena.now c.n1-a.new.seat c.n2.new.seat c.in-Goes.next c.in-Goes.a c.in_default.not-N5 c.in-Goes.ensures in
    let last = after_n4 c.args.arena.now c.n3-a.new.seat c.n4.new.seat continues c.n3-a.result c.n4.result c.n3-a.ensures.stands c.n4.ensures in
    rw c.turned-in_default.ensures (on_turn c.n1-a.ensures (on_turn two (on_turn c.n3-a.ensures last)))

pub returns-in-Ends : goal.returns-in-Ends
returns-in-Ends g c =
    let two : Turns c.args.arena.now c.n1-a.new.seat c.n2.new.seat 0 (turn_of (Ends c.in-Ends.reply)) = c.in-Ends.ensures in
    rw c.turned-in-Ends.ensures (on_turn c.n1-a.ensures two)
