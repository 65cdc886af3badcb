use Rattle.std.proofs.Common.{rules, lit≤, ap, ◌∙◌}
use Rattle.node_arena.proofs.Numbers.{asks_nothing}
use Rattle.arena_queue.specs.Answers.{AnswersPush}
use Rattle.arena_queue.specs.Queues.{arena_of}
use Rattle.arena_queue.proofs.Pushes.{put_at_once, put_after_take}
use Rattle.arena_queue.proofs.Queues.{still_pushes}
use Rattle.arena_queue.proofs.queue.ArenaQueueOfFifo.try_push.Given.{Over}
use Rattle.arena_queue.proofs.queue.ArenaQueueOfFifo.try_push.Goals.{in-Some, in-None+in_ok-take-in-None}
use Rattle.arena_queue.proofs.queue.ArenaQueueOfFifo.try_push.Goals as goal

answers : (g : Over) (c : goal.After-push_with_node g)
    → AnswersPush g.A.Algorithm.push_worn c.args.self.now.arena c.args.seat.now c.push_with_node.new.seat c.args.body c.args.turns c.push_with_node.result
answers g c =
    elim c.match-pocket.branch [
      | in-Some w ↦ put_at_once g.A.Algorithm.push_worn c.args.self.now.arena c.args.seat.now _ c.push_with_node.new.seat _ c.args.body _ c.args.turns
          c.push_with_node.result c.requires.seat w.seat-is (ap (λ p. p.1) w.spent-is) c.push_with_node.ensures
      | in-None+in_ok-take-in-None w ↦
          put_after_take g.A.Algorithm.push_worn c.args.self.now.arena c.args.seat.now w.take.new.seat _ c.push_with_node.new.seat _ c.args.body w.failed.result
          _ c.args.turns c.push_with_node.result c.requires.seat w.seat-is (ap (λ p. p.1) w.spent-is) w.take.ensures.same w.take.ensures.lines
          (w.failed.ensures ∙ w.take.ensures.failed) c.push_with_node.ensures
    ]

pub push_with_node-requires : goal.push_with_node-requires
push_with_node-requires g c = (lit≤ tt, (search rules, (search rules, (asks_nothing (arena_of c.args.self.now) c.args.self.now.numbers, (search (still_pushes, rules), (search rules, search rules))))))

pub returns-clause-few : goal.returns-clause-few
returns-clause-few g c = (answers g c).few

pub returns-clause-refused : goal.returns-clause-refused
returns-clause-refused g c = (answers g c).refused

pub returns-clause-caused : goal.returns-clause-caused
returns-clause-caused g c = (answers g c).caused
