use Rattle.std.proofs.Common.{ap, subst, ◌∙◌}
use Rattle.node_arena.specs.Prologues.{continues}
use Rattle.free_list.specs.Runs.{in_hand, gave_of}
use Rattle.free_list.specs.Gives.{GiveTurns}
use Rattle.free_list.proofs.Ways.{on_give}
use Rattle.free_list.proofs.GiveBack.{at_f2, after_f3}
use Rattle.free_list.proofs.gives.give_turn.Goals as goal

pub returns-in-Goes : goal.returns-in-Goes
returns-in-Goes g c =
    let one = at_f2 c.args.arena.now c.args.seat.now c.f1.new.seat c.args.held c.in-Goes.field-0 c.in-Goes.a c.in-Goes.ensures in
    let two = c.f2-a.ensures in
    let last = after_f3 c.args.arena.now c.f2-a.new.seat c.f3.new.seat continues c.f2-a.result c.f3.result two.goes.stands c.f3.ensures in
    let held = ap in_hand two.same ∙ one.1 in
    rw c.given.ensures (on_give one.0 (on_give two.goes (subst (λ h. GiveTurns c.args.arena.now c.f2-a.new.seat c.f3.new.seat 0 h (gave_of c.f3.result)) held last)))
