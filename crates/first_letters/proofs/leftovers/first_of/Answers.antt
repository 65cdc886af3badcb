-- An order of another seat may be left out.
use Rattle.std.proofs.Common.{◌∙◌, refl, ap, sym}
use Rattle.std.specs.Prelude.{slice_get}
use Rattle.carriers.specs.Rests.{left_in}
use Rattle.carriers.specs.Deliveries.{values_of}
use Rattle.first_letters.proofs.Left.{left_one, left_other}
use Rattle.first_letters.proofs.leftovers.first_of.Goals as goal

pub loop-item-init : goal.loop-item-init
loop-item-init c = ap (λ r. values_of c.args.seat (left_in r)) c.into_iter-item-iterator.ensures.into_iter_gives

pub loop-item-preserved : goal.loop-item-preserved
loop-item-preserved c =
    sym (left_other c.args.seat c.in-Some.item (left_in c.next.new.self) _ refl c.if-item-seat.false)
    ∙ ap (values_of c.args.seat) (sym c.in-Some.ensures.steps.0) ∙ c.loop-item.invariant

pub returns-then-item-seat : goal.returns-then-item-seat
returns-then-item-seat c =
    sym (left_one c.args.seat c.in-Some.item (left_in c.next.new.self) c.if-item-seat.true)
    ∙ ap (λ l. slice_get (values_of c.args.seat l) 0) (sym c.in-Some.ensures.steps.0) ∙ ap (λ l. slice_get l 0) c.loop-item.invariant

pub returns : goal.returns
returns c =
    ap (λ l. slice_get (values_of c.args.seat l) 0) (sym c.in-None.ensures.steps.0.0) ∙ ap (λ l. slice_get l 0) c.loop-item.invariant
