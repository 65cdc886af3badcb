use Rattle.std.proofs.Common.{lit≤, IsTrue, subst, sym, ap, ◌∙◌}
use Rattle.line_table.specs.declared.lines.Line.TheVariants.{D2}
use Rattle.free_list.specs.declared.outcomes.RowOutcome.TheVariants.{Goes}
use Rattle.nonblocking.specs.declared.pop_outcomes.Turn.TheVariants as turn
use Rattle.node_arena.specs.Plans.{may_pop}
use Rattle.node_arena.proofs.Loads.{still_bare}
use Rattle.nonblocking.specs.Pops.{ReadsFront}
use Rattle.nonblocking.proofs.PopTurns.{moves_tail, turn_behind}
use Rattle.nonblocking.proofs.pops.pop_turn.Goals as goal

pub returns-in-D10 : goal.returns-in-D10
returns-in-D10 g c =
    let k = subst (ReadsFront c.args.arena.now c.args.seat.now c.read_front.new.seat) (c.in-Goes.is ∙ ap (λ l. Goes l c.in-Goes.a) c.in-D10.is) c.read_front.ensures in
    turn_behind c.args.arena.now c.args.seat.now c.read_front.new.seat c.d10.new.seat k.lines k.stored k.slots k.looked.walks k.looked.never turn.Failed
    (moves_tail c.args.arena.now c.read_front.new.seat c.d10.new.seat c.in-Goes.a (Goes D2 c.d10.result) k.looked.stands c.d10.ensures)

pub move_head-requires : goal.move_head-requires
move_head-requires g c =
    let k = subst (ReadsFront c.args.arena.now c.args.seat.now c.read_front.new.seat) (c.in-Goes.is ∙ ap (λ l. Goes l c.in-Goes.a) c.in-D12.is) c.read_front.ensures in
    let bare = still_bare c.args.arena.now c.args.seat.now c.read_front.new.seat k.slots c.requires.bare in
    (lit≤ tt, (lit≤ tt, (k.looked.stands, (c.requires.non_blocking, (bare, subst (λ x. IsTrue (may_pop x)) (sym k.stored.role) c.requires.role)))))

pub returns-in-D12 : goal.returns-in-D12
returns-in-D12 g c =
    let k = subst (ReadsFront c.args.arena.now c.args.seat.now c.read_front.new.seat) (c.in-Goes.is ∙ ap (λ l. Goes l c.in-Goes.a) c.in-D12.is) c.read_front.ensures in
    turn_behind c.args.arena.now c.args.seat.now c.read_front.new.seat c.move_head.new.seat k.lines k.stored k.slots k.looked.walks k.looked.never c.move_head.result c.move_head.ensures
