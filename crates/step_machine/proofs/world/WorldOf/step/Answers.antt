-- A step leads from a made world to a made world, and keeps its room.
use Rattle.std.proofs.Common.{◌≡◌, ◌+◌, ◌-◌, Some, rules, lit≤, slice_get, arith, refl, sym, ap, ◌∙◌}
use Rattle.std.specs.Vec.{with_item}
use Rattle.step_machine.specs.Below.{Actor}
use Rattle.step_machine.specs.declared.actors.Move.TheVariants.{Step}
use Rattle.step_machine.specs.declared.world.WorldOf.TheInside.{Inside}
use Rattle.step_machine.specs.Machine.{World, next}
use Rattle.step_machine.specs.Views.{reply_in, TookStep}
use Rattle.step_machine.specs.Stored.{world}
use Rattle.step_machine.proofs.Making.{can_step, kept_by}
use Rattle.step_machine.proofs.Reached.{same_actor}
use Rattle.step_machine.proofs.Stepping.{looked_up, took_rooms, took_move}
use Rattle.step_machine.proofs.world.WorldOf.step.Goals as goal
use Rattle.step_machine.proofs.world.WorldOf.step.Given as given

pub take_step-place-requires : goal.take_step-place-requires
take_step-place-requires g c =
    let here = sym (ap (λ (x : Actor). x.line) c.a.view_is) ∙ c.in-Some-line.is in
    let can = can_step g.row.B c.self.inside c.self.invariant c.args.actor _ _ _ c.in-Some-line.line c.in-Some.ensures.there here
    c.in-Some-get_mut.ensures.value c.self.inside.operations.ok.0 in
    (lit≤ tt, (lit≤ tt, (c.self.invariant.split, can)))

module _ (g : given.Over) (c : goal.After-answer_at g) where
  -- the world before the step, and its fields after it
  abbrev was : World
  was = world g.row.B c.self.inside

  abbrev left : Inside g.row.B
  left =
      let i = c.self.inside in
      let n = c.take_step-place.new in
      record { setup = i.setup; steps = i.steps + 1; memory = n.memory; actors = with_item i.actors (c.args.actor - 1) n.a; operations = n.operations }

  here : c.in-Some.a.now.line ≡ Some c.in-Some-line.line
  here = sym (ap (λ (x : Actor). x.line) c.a.view_is) ∙ c.in-Some-line.is

  took : TookStep was.setup (was.steps + 1) c.args.actor c.in-Some-line.line c.self.inside.memory was.operations c.in-Some.a.now
      c.take_step-place.new.memory c.take_step-place.new.operations.items c.take_step-place.new.a
      (reply_in (slice_get c.take_step-place.new.operations.items c.take_step-place.result))
  took = rw (same_actor was c.args.actor _ _ c.in-Some.ensures.there c.in-Some-get_mut.ensures.value) at c.take_step-place.ensures.took

  moves : next was (Step c.args.actor) ≡ Some (world g.row.B left)
  moves = took_move g.row.B c.self.inside c.args.actor _ _ _ _ _ _ c.in-Some.ensures.there here took

pub invariant_of-self : goal.invariant_of-self
invariant_of-self g c =
    kept_by g.row.B c.self.inside (left g c) (Step c.args.actor) c.self.invariant (moves g c) refl
    (omega (arith, c.if-self.false, c.self.invariant.numbers)) (omega (arith, ap (λ m. m.room) (took g c).memory, c.self.invariant.within))
    (took_rooms g.row.B c.self.inside _ c.args.actor _ _ _ _ _ _ c.in-Some.ensures.there (here g c) (took g c)
    c.self.invariant.nodes c.self.invariant.entries c.take_step-place.ensures.room)

pub returns-clause-ok : goal.returns-clause-ok
returns-clause-ok g c = ap (λ v. next v (Step c.args.actor)) (sym c.self.view_is) ∙ moves g c

pub returns-clause-told : goal.returns-clause-told
returns-clause-told g c =
    let told = looked_up _ c.deref.result.now c.take_step-place.result c.in-Some-get.operation.now c.deref.ensures.value
    c.in-Some-get.ensures.lookup.3.0 c.in-Some-get.ensures.lookup.1 in
    let r = sym told ∙ (took g c).reply in search rules
