-- A begin leads from a made world to a made world, and makes room for its call.
use Rattle.std.proofs.Common.{◌≡◌, ◌-◌, Some, None, set, vec_capacity, rules, arith, refl, sym, ap, ◌∙◌}
use Rattle.std.specs.Option.{is_some}
use Rattle.step_machine.specs.Below.{Actor, begun}
use Rattle.step_machine.specs.declared.actors.Move.TheVariants.{Begin}
use Rattle.step_machine.specs.declared.world.WorldOf.TheInside.{Inside}
use Rattle.step_machine.specs.Machine.{World, next}
use Rattle.step_machine.specs.Stored.{world}
use Rattle.step_machine.proofs.Giving.{begin_leads, none_of}
use Rattle.step_machine.proofs.Making.{begun_serves, kept_by}
use Rattle.step_machine.proofs.Reached.{made_next, made_reached}
use Rattle.step_machine.proofs.Alone.{ends_alone}
use Rattle.step_machine.proofs.world.WorldOf.begin.Goals as goal
use Rattle.step_machine.proofs.world.WorldOf.begin.Given as given

module _ (g : given.Over) (c : goal.After-put_actor g) where
  -- the world before the call, its fields after it, and the actor that calls
  abbrev was : World
  was = world g.row.B c.self.inside

  abbrev left : Inside g.row.B
  left =
      let i = c.self.inside in
      record { setup = i.setup; steps = i.steps; memory = c.grow.new.self; actors = c.put_actor.new.actors; operations = c.reserve.new.self }

  abbrev caller : Actor
  caller = c.in-Some.a.now

  begins_so : c.begin.new.actor ≡ begun was.setup.kind c.args.actor c.args.op caller
  begins_so = c.begin.ensures.actor ∙ ap (λ (x : Actor). begun was.setup.kind c.args.actor c.args.op x) c.a.view_is

  items_are : c.put_actor.new.actors.items ≡ set c.self.inside.actors.items (c.args.actor - 1) c.begin.new.actor
  items_are = search rules

  no_call : caller.line ≡ None
  no_call = none_of caller.line (ap (λ (x : Actor). is_some x.line) (sym c.a.view_is) ∙ sym c.is_some.ensures ∙ c.if-is_some.false)

  moves : next was (Begin c.args.actor c.args.op) ≡ Some (world g.row.B left)
  moves =
      begin_leads was _ c.args.actor c.args.op caller c.in-Some.ensures.there no_call c.begin.ensures.call refl refl
      (ap (λ m. m.words) c.in-Ok-grow.ensures.ok) (items_are ∙ ap (set was.actors (c.args.actor - 1)) begins_so)
      (ap (λ m. m.aside) c.in-Ok-grow.ensures.ok) c.reserve.ensures.items

pub invariant_of-self-2 : goal.invariant_of-self-2
invariant_of-self-2 g c =
    let serves = begun_serves g.row.B c.self.inside c.self.invariant c.args.actor c.args.op (caller g c) c.begin.new.actor c.nodes_wanted-enough.result
    c.fresh.result c.len-actors.result (vec_capacity c.reserve.new.self) c.grow.new.self c.put_actor.new.actors.items c.reserve.new.self.items
    c.in-Some.ensures.there (no_call g c) (begins_so g c) c.fresh.ensures (omega (arith, c.len-actors.ensures, c.self.inside.actors.ok.0))
    (λ e. c.nodes_wanted-enough.ensures.looks (ap (λ (x : Actor). x.line) c.begun.view_is ∙ e)) c.in-Ok-grow.ensures.ok (items_are g c)
    (omega (arith, c.in-Ok.ensures.ok, c.reserve.new.self.ok.0, c.len-actors.ensures, c.self.inside.actors.ok.0)) in
    kept_by g.row.B c.self.inside (left g c) (Begin c.args.actor c.args.op) c.self.invariant (moves g c) refl c.self.invariant.numbers serves.0 serves.1

pub returns-clause-ok : goal.returns-clause-ok
returns-clause-ok g c = ap (λ w. next w (Begin c.args.actor c.args.op)) (sym c.self.view_is) ∙ moves g c

pub returns-clause-alone : goal.returns-clause-alone
returns-clause-alone g c =
    ends_alone _ _ c.args.actor c.args.op (moves g c) (made_reached _ (made_next _ _ (Begin c.args.actor c.args.op) c.self.invariant.made (moves g c)))
