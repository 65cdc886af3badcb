use Rattle.std.proofs.Common.{◌≡◌, ◌-◌, sym, ap, subst, ◌∙◌}
use Rattle.node_arena.specs.Seats.{keeps_of}
use Rattle.free_list.specs.Gives.{GiveAnswers}
use Rattle.nonblocking.proofs.PopCalls.{pop_took, pop_kept, pop_empty, pop_worn_out}
use Rattle.nonblocking.proofs.pops.pop_by_turn.Goals.{then-not-keeps_nodes, else-not-keeps_nodes}
use Rattle.nonblocking.proofs.pops.pop_by_turn.Goals as goal

pub returns-after-not-keeps_nodes : goal.returns-after-not-keeps_nodes
returns-after-not-keeps_nodes g c =
    let keeps : keeps_of c.pop_turn.new.seat ≡ c.keeps_nodes.result = sym (c.keeps_nodes.ensures ∙ ap keeps_of c.keep.ensures) in
    rw c.value_of-taken.ensures
    (elim c.if-not-keeps_nodes.branch [
      | then-not-keeps_nodes w ↦
          let b = w.give_back.ensures in
          let gave : GiveAnswers c.args.arena.now c.keep.new.self w.give_back.new.seat (c.args.turns - c.args.failed) w.give_back.result =
          record {
            ready = b.ready;
            same = b.same;
            slots = b.slots;
            pocket = b.pocket;
            lines = b.lines;
            seen = b.seen;
            back = b.back;
            refused =
                b.refused;
            failed = b.failed;
            fewer = b.fewer;
          } in
          rw w.seat-is
          (pop_took c.args.arena.now c.args.seat.now c.pop_turn.new.seat c.args.failed c.args.turns w.give_back.new.seat c.in-Took.word c.in-Took.held
          w.give_back.result (keeps ∙ w.if-not-keeps_nodes.true) c.requires.turns c.in-Took.ensures
          (subst (λ y. GiveAnswers c.args.arena.now y w.give_back.new.seat (c.args.turns - c.args.failed) w.give_back.result) c.keep.ensures gave))
      | else-not-keeps_nodes w ↦
          rw (w.seat-is ∙ c.keep.ensures)
          (pop_kept c.args.arena.now c.args.seat.now c.pop_turn.new.seat c.args.failed c.args.turns c.in-Took.word c.in-Took.held
          (keeps ∙ w.if-not-keeps_nodes.false) c.requires.turns c.in-Took.ensures)
    ])

pub returns-in-Empty : goal.returns-in-Empty
returns-in-Empty g c = rw c.keep-in-Empty.ensures (pop_empty c.args.arena.now c.args.seat.now c.pop_turn.new.seat c.args.failed c.args.turns c.requires.turns c.in-Empty.ensures)

pub returns-in-Refused : goal.returns-in-Refused
returns-in-Refused g c = rw c.keep-in-Refused.ensures (pop_worn_out c.args.arena.now c.args.seat.now c.pop_turn.new.seat c.args.failed c.args.turns c.in-Refused.refusal c.in-Refused.ensures)
