use Rattle.std.proofs.Common.{ℕ, Bool, List, map, sym, subst, ap, ◌∙◌, arith}
use Rattle.history.specs.Rests.{left_of}
use Rattle.carriers.specs.declared.items.ItemOf.{ItemOf}
use Rattle.carriers.specs.Ends.{ClosesWith}
use Rattle.node_arena.specs.Ended.{last_words}
use Rattle.node_arena.specs.Leftovers.{rest_in, values_in}
use Rattle.node_arena.specs.Remains.{AreLeft}
use Rattle.value_queue.specs.ValuesSeen.{known_by}
use Rattle.value_queue.specs.Queues.{arena_of, permits_of}
use Rattle.value_queue.proofs.Closings.{pushers-items}
use Rattle.value_queue.proofs.ends.QueueOfCloseCarrier.close_with.Goals as goal

pub rest_of-requires-clause-room : goal.rest_of-requires-clause-room
rest_of-requires-clause-room g c = omega (arith, c.close_values-left.ensures.few, c.requires.room.values.enough)

pub returns-clause-rest : goal.returns-clause-rest
returns-clause-rest g c =
    let told = c.rest_of.ensures in
    subst (λ (y : List (ItemOf _) × ℕ × Bool × Bool). ClosesWith (permits_of c.args.self) (map known_by c.args.seats.items) y.0 y.1 y.2 y.3)
    (λ i. (sym told.left i, sym told.taken i, sym told.whole i, sym told.shut i)) c.close_values-left.ensures.rest

pub returns-clause-ends : goal.returns-clause-ends
returns-clause-ends g c =
    let told = c.rest_of.ensures in
    let ends = c.close_values-left.ensures.ends in
    record {
      table = ends.table;
      numbers = left_of (rest_in c.close_values-left.result.0);
      left = subst (λ (b : Bool). AreLeft (arena_of c.args.self).plan.setup.bits (last_words c.close_values-left.result.1) b
          (left_of (rest_in c.close_values-left.result.0))) (sym told.shut) ends.left;
      as_many = c.close_values-left.ensures.alike ∙ pushers-items (values_in c.close_values-left.result.0) ∙ ap (map (λ (x : ItemOf _). x.from)) (sym told.left);
      taken = told.taken ∙ ends.taken;
    }
