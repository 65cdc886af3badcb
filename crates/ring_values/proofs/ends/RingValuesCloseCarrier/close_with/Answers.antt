use Rattle.std.proofs.Common.{ℕ, Bool, List, map, sym, subst, ◌∙◌, arith}
use Rattle.std.proofs.lemmas.List.{length-map}
use Rattle.carriers.specs.declared.items.ItemOf.{ItemOf}
use Rattle.carriers.specs.Ends.{ClosesWith}
use Rattle.ring_values.specs.ValuesSeen.{known_by}
use Rattle.ring_values.specs.Queues.{permits_of}
use Rattle.ring_values.proofs.ends.RingValuesCloseCarrier.close_with.Goals as goal

pub close_values-left-requires-clause-all : goal.close_values-left-requires-clause-all
close_values-left-requires-clause-all g c = sym (length-map c.args.seats.items known_by) ∙ c.requires.asked

pub rest_of-requires-clause-room : goal.rest_of-requires-clause-room
rest_of-requires-clause-room g c = omega (arith, c.close_values-left.ensures.few, c.requires.room.values.enough)

pub returns : goal.returns
returns g c =
    let told = c.rest_of.ensures in
    record {
      rest = subst (λ (y : List (ItemOf _) × ℕ × Bool × Bool). ClosesWith (permits_of c.args.self) (map known_by c.args.seats.items) y.0 y.1
          y.2 y.3) (λ i. (sym told.left i, sym told.taken i, sym told.whole i, sym told.shut i)) c.close_values-left.ensures.rest;
    }
