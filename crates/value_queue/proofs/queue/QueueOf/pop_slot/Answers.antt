use Rattle.std.proofs.Common.{rules, lit≤, sym, subst, ◌∙◌}
use Rattle.node_arena.specs.Seats.{HasNoSlot}
use Rattle.node_arena.specs.Loads.{IsBare}
use Rattle.node_arena.proofs.Loads.{still_bare}
use Rattle.value_queue.specs.Queues.{arena_of}
use Rattle.value_queue.proofs.Popped.{draw_at_once, draw_after_give}
use Rattle.value_queue.proofs.queue.QueueOf.pop_slot.Goals.{in-None, in-Some+in_ok-give_back-in-Some}
use Rattle.value_queue.proofs.queue.QueueOf.pop_slot.Goals as goal

-- a give back moves no slot
pub pop_without_node-requires : goal.pop_without_node-requires
pop_without_node-requires g c =
    let bare : IsBare (arena_of c.args.self.now) c.match-pocket.seat = λ carried. elim c.match-pocket.branch [
      | in-None w ↦ subst HasNoSlot (sym w.seat-is) c.requires.none
      | in-Some+in_ok-give_back-in-Some w ↦ subst HasNoSlot (sym w.seat-is)
          (still_bare (arena_of c.args.self.now) c.args.seat.now w.give_back.new.seat w.give_back.ensures.slots (λ _. c.requires.none) carried)
    ] in
    (lit≤ tt, (search rules, (search rules, (bare, (search rules, (search rules, search rules))))))

pub returns : goal.returns
returns g c =
    elim c.match-pocket.branch [
      | in-None w ↦ draw_at_once g.A.Algorithm.pop_worn (arena_of c.args.self.now) c.args.seat.now _ c.pop_without_node.new.seat _
          c.args.turns c.pop_without_node.result w.seat-is w.spent-is c.pop_without_node.ensures
      | in-Some+in_ok-give_back-in-Some w ↦
          draw_after_give g.A.Algorithm.pop_worn (arena_of c.args.self.now) c.args.seat.now w.give_back.new.seat _ c.pop_without_node.new.seat
          w.failed-spent.result _ c.args.turns c.pop_without_node.result w.seat-is w.spent-is w.give_back.ensures.same w.give_back.ensures.slots
          w.give_back.ensures.lines (w.failed-spent.ensures ∙ w.give_back.ensures.failed) c.pop_without_node.ensures
    ]
