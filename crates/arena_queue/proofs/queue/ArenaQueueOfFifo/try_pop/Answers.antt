use Rattle.std.proofs.Common.{rules, lit≤, ◌∙◌}
use Rattle.node_arena.proofs.Numbers.{asks_nothing}
use Rattle.arena_queue.specs.Answers.{AnswersPop}
use Rattle.arena_queue.specs.Queues.{arena_of}
use Rattle.arena_queue.proofs.Pops.{drawn_at_once, drawn_after_give}
use Rattle.arena_queue.proofs.Queues.{still_pops}
use Rattle.arena_queue.proofs.queue.ArenaQueueOfFifo.try_pop.Given.{Over}
use Rattle.arena_queue.proofs.queue.ArenaQueueOfFifo.try_pop.Goals.{in-None, in-Some+in_ok-give_back-in-Some}
use Rattle.arena_queue.proofs.queue.ArenaQueueOfFifo.try_pop.Goals as goal

answers : (g : Over) (c : goal.After-pop_without_node g) → AnswersPop g.A.Algorithm.pop_worn c.args.self.now.arena c.args.seat.now c.pop_without_node.new.seat c.args.turns c.pop_without_node.result
answers g c =
    elim c.match-pocket.branch [
      | in-None w ↦ drawn_at_once g.A.Algorithm.pop_worn c.args.self.now.arena c.args.seat.now _ c.pop_without_node.new.seat _
          c.args.turns c.pop_without_node.result c.requires.seat w.seat-is w.spent-is c.pop_without_node.ensures
      | in-Some+in_ok-give_back-in-Some w ↦
          drawn_after_give g.A.Algorithm.pop_worn c.args.self.now.arena c.args.seat.now w.give_back.new.seat _ c.pop_without_node.new.seat w.failed-spent.result _
          c.args.turns c.pop_without_node.result c.requires.seat w.seat-is w.spent-is w.give_back.ensures.same w.give_back.ensures.slots
          w.give_back.ensures.lines (w.failed-spent.ensures ∙ w.give_back.ensures.failed) c.pop_without_node.ensures
    ]

pub pop_without_node-requires : goal.pop_without_node-requires
pop_without_node-requires g c = (lit≤ tt, (search rules, (search rules, (asks_nothing (arena_of c.args.self.now) c.args.self.now.numbers, (search (still_pops, rules), (search rules, search rules))))))

pub returns-clause-answer : goal.returns-clause-answer
returns-clause-answer g c = (answers g c).answer

pub returns-clause-few : goal.returns-clause-few
returns-clause-few g c = (answers g c).few

pub returns-clause-freed : goal.returns-clause-freed
returns-clause-freed g c = (answers g c).freed

pub returns-clause-refused : goal.returns-clause-refused
returns-clause-refused g c = (answers g c).refused

pub returns-clause-caused : goal.returns-clause-caused
returns-clause-caused g c = (answers g c).caused
