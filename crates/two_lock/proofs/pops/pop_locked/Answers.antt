use Rattle.std.proofs.Common.{◌≡◌, ◌-◌, Some, Ok, sym, ap, subst, ◌∙◌}
use Rattle.free_list.specs.declared.outcomes.RowOutcome.TheVariants.{Ends}
use Rattle.arena_queue.specs.Answers.{PopsWithoutNode}
use Rattle.node_arena.specs.Machine.{value_of}
use Rattle.node_arena.specs.Seats.{keeps_of}
use Rattle.two_lock.specs.Worn.{pop_worn}
use Rattle.two_lock.specs.Pops.{Running, PopsUnderLock}
use Rattle.free_list.specs.Gives.{GiveAnswers}
use Rattle.two_lock.proofs.PopCalls.{pop_took, pop_kept, pop_ended, pop_worn_out}
use Rattle.two_lock.proofs.pops.pop_locked.Goals.{then-not-keeps_nodes, else-not-keeps_nodes}
use Rattle.two_lock.proofs.pops.pop_locked.Goals as goal

pub returns-after-not-keeps_nodes : goal.returns-after-not-keeps_nodes
returns-after-not-keeps_nodes g c =
    let keeps : keeps_of c.read_front.new.seat ≡ c.keeps_nodes.result = sym (c.keeps_nodes.ensures ∙ ap keeps_of c.keep.ensures) in
    rw c.value_of-taken.ensures
    (subst (λ (x : Running). PopsWithoutNode pop_worn c.args.arena.now c.args.seat.now c.if-not-keeps_nodes.seat c.args.failed c.args.turns (Ok (Some (value_of x.val)))) (sym c.a.view_is)
    (elim c.if-not-keeps_nodes.branch [
      | then-not-keeps_nodes w ↦
          let b = w.give_back.ensures in
          let gave : GiveAnswers c.args.arena.now c.keep.new.self w.give_back.new.seat (c.args.turns - c.args.failed) w.give_back.result =
          record {
            ready = b.ready;
            same = b.same;
            slots = b.slots;
            pocket = b.pocket;
            lines = b.lines;
            seen = b.seen;
            back = b.back;
            refused =
                b.refused;
            failed = b.failed;
            fewer = b.fewer;
          } in
          rw w.seat-is
          (pop_took c.args.arena.now c.args.seat.now c.read_front.new.seat c.args.failed c.args.turns w.give_back.new.seat c.in-Goes.field-0
          c.in-Goes.a _ w.give_back.result (keeps ∙ w.if-not-keeps_nodes.true) c.requires.turns c.in-Goes.ensures
          (subst (λ y. GiveAnswers c.args.arena.now y w.give_back.new.seat (c.args.turns - c.args.failed) w.give_back.result) c.keep.ensures gave))
      | else-not-keeps_nodes w ↦
          rw (w.seat-is ∙ c.keep.ensures)
          (pop_kept c.args.arena.now c.args.seat.now c.read_front.new.seat c.args.failed c.args.turns c.in-Goes.field-0 c.in-Goes.a _
          (λ i. record { node = (c.a.view_is i).node; mark = (c.a.view_is i).mark }) (keeps ∙ w.if-not-keeps_nodes.false) c.requires.turns
          c.in-Goes.ensures)
    ]))

pub returns-in-Refused : goal.returns-in-Refused
returns-in-Refused g c = rw c.keep-in-Ends.ensures (pop_worn_out c.args.arena.now c.args.seat.now c.read_front.new.seat c.args.failed c.args.turns
    c.in-Refused.refusal (subst (λ o. PopsUnderLock c.args.arena.now c.args.seat.now c.read_front.new.seat (Ends o)) c.in-Refused.is c.in-Ends.ensures))

pub returns-in_default : goal.returns-in_default
returns-in_default g c = rw c.keep-in-Ends.ensures (pop_ended c.args.arena.now c.args.seat.now c.read_front.new.seat c.args.failed c.args.turns
    c.in-Ends.reply c.in_default.not-Refused c.requires.turns c.in-Ends.ensures)
