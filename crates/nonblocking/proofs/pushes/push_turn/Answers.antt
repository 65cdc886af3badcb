use Rattle.std.proofs.Common.{lit≤}
use Rattle.line_table.specs.declared.lines.Line.TheVariants.{E5}
use Rattle.free_list.specs.declared.outcomes.RowOutcome.TheVariants.{Goes}
use Rattle.nonblocking.specs.declared.push_outcomes.Turn.TheVariants.{Pushed, Failed}
use Rattle.nonblocking.proofs.PushTurns.{turn_at_e9, turn_swings, turn_links, to_e17, links, links_not, links_ended}
use Rattle.nonblocking.proofs.pushes.push_turn.Goals as goal

pub e17-requires : goal.e17-requires
e17-requires g c = (
  lit≤ tt,
  (
    lit≤ tt,
    let at = turn_at_e9 c.args.arena.now c.args.seat.now c.read_tail.new.seat c.args.a c.read_tail.result c.read_tail.ensures
        c.in-Goes-E9-default.field-0 c.in-Goes-E9-default.a c.in-Goes-E9-default.is c.in-Goes-E9-default.field-0-is in
        to_e17 c.args.arena.now c.read_tail.new.seat c.e9.new.seat c.in-Goes-E9-default.a c.e9.result at c.e9.ensures c.in-Goes-e9.next c.in-Goes-e9.a c.in-Goes-e9.is c.in-E17.is,
  ),
)

pub returns-in-E17 : goal.returns-in-E17
returns-in-E17 g c =
    let at = turn_at_e9 c.args.arena.now c.args.seat.now c.read_tail.new.seat c.args.a c.read_tail.result c.read_tail.ensures
    c.in-Goes-E9-default.field-0 c.in-Goes-E9-default.a c.in-Goes-E9-default.is c.in-Goes-E9-default.field-0-is in
    turn_links c.args.arena.now c.args.seat.now c.read_tail.new.seat c.args.a c.read_tail.result c.read_tail.ensures c.e17.new.seat
    c.in-Goes-E9-default.field-0 c.in-Goes-E9-default.a Pushed c.in-Goes-E9-default.is c.in-Goes-E9-default.field-0-is
    (links c.args.arena.now c.read_tail.new.seat c.e9.new.seat c.in-Goes-E9-default.a c.e9.result at c.e9.ensures c.e17.new.seat c.in-Goes-e9.next
    c.in-Goes-e9.a c.e17.result c.in-Goes-e9.is c.in-E17.is c.e17.ensures)

pub returns-in_default : goal.returns-in_default
returns-in_default g c =
    let at = turn_at_e9 c.args.arena.now c.args.seat.now c.read_tail.new.seat c.args.a c.read_tail.result c.read_tail.ensures
    c.in-Goes-E9-default.field-0 c.in-Goes-E9-default.a c.in-Goes-E9-default.is c.in-Goes-E9-default.field-0-is in
    turn_links c.args.arena.now c.args.seat.now c.read_tail.new.seat c.args.a c.read_tail.result c.read_tail.ensures c.e9.new.seat
    c.in-Goes-E9-default.field-0 c.in-Goes-E9-default.a Failed c.in-Goes-E9-default.is c.in-Goes-E9-default.field-0-is
    (links_not c.args.arena.now c.read_tail.new.seat c.e9.new.seat c.in-Goes-E9-default.a c.e9.result at c.e9.ensures c.in-Goes-e9.next c.in-Goes-e9.a c.in-Goes-e9.is c.in_default.not-E17)

pub returns-in-Ends : goal.returns-in-Ends
returns-in-Ends g c =
    let at = turn_at_e9 c.args.arena.now c.args.seat.now c.read_tail.new.seat c.args.a c.read_tail.result c.read_tail.ensures
    c.in-Goes-E9-default.field-0 c.in-Goes-E9-default.a c.in-Goes-E9-default.is c.in-Goes-E9-default.field-0-is in
    turn_links c.args.arena.now c.args.seat.now c.read_tail.new.seat c.args.a c.read_tail.result c.read_tail.ensures c.e9.new.seat
    c.in-Goes-E9-default.field-0 c.in-Goes-E9-default.a Pushed c.in-Goes-E9-default.is c.in-Goes-E9-default.field-0-is
    (links_ended c.args.arena.now c.read_tail.new.seat c.e9.new.seat c.in-Goes-E9-default.a c.e9.result at c.e9.ensures c.in-Ends.field-0 c.in-Ends.is)

pub returns-in-Goes-E13-default : goal.returns-in-Goes-E13-default
returns-in-Goes-E13-default g c = turn_swings c.args.arena.now c.args.seat.now c.read_tail.new.seat c.args.a c.read_tail.result c.read_tail.ensures
    c.e13.new.seat c.in-Goes-E13-default.field-0 c.in-Goes-E13-default.a (Goes E5 c.e13.result) c.in-Goes-E13-default.is
    c.in-Goes-E13-default.field-0-is c.e13.ensures
