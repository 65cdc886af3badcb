-- Giving up leads from a made world to a made world, and keeps its room.
use Rattle.std.proofs.Common.{◌≡◌, ◌+◌, Some, lit≤, rules, arith, refl, sym, ap, ◌∙◌}
use Rattle.step_machine.specs.Below.{Actor, Outcome, settled}
use Rattle.step_machine.specs.declared.actors.Move.TheVariants.{Give}
use Rattle.step_machine.specs.declared.world.WorldOf.TheInside.{Inside}
use Rattle.step_machine.specs.Machine.{World, next}
use Rattle.step_machine.specs.Stored.{world}
use Rattle.step_machine.proofs.Giving.{GaveUp, gave_up, give_leads}
use Rattle.step_machine.proofs.Making.{entry_room_as, given_rooms, kept_by}
use Rattle.step_machine.proofs.world.WorldOf.give.Goals as goal
use Rattle.step_machine.proofs.world.WorldOf.give.Given as given

pub commit-requires : goal.commit-requires
commit-requires g c =
    let here = sym (ap (λ (x : Actor). x.line) c.a.view_is) ∙ c.in-Some-line.is in
    let room = entry_room_as g.row.B c.self.inside c.self.invariant c.args.actor _ _ _ c.in-Some-line.line c.in-Some.ensures.there here c.a.view_is
    c.self.inside.operations.ok.0 in
    (lit≤ tt, (lit≤ tt, (room, search rules)))

module _ (g : given.Over) (c : goal.After-self-1 g) where
  -- the world before the call, its fields after it, and what the actor's call came to
  abbrev was : World
  was = world g.row.B c.self.inside

  abbrev left : Inside g.row.B
  left =
      let n = c.commit.new in
      record { setup = c.self.inside.setup; steps = c.saturating_add-now.result; memory = n.memory; actors = n.actors; operations = n.operations }

  abbrev told : Outcome
  told = settled c.give_up.new.actor c.in-Some-give_up.told

  here : c.in-Some.a.now.line ≡ Some c.in-Some-line.line
  here = sym (ap (λ (x : Actor). x.line) c.a.view_is) ∙ c.in-Some-line.is

  now_is : c.saturating_add-now.result ≡ was.steps + 1
  now_is = omega (arith, c.saturating_add-now.ensures, c.if-self.false, c.self.invariant.numbers)

  gave : GaveUp was c.args.actor (was.steps + 1) c.in-Some.a.now c.in-Some-line.line told c.commit.new.actors.items c.commit.new.operations.items
  gave =
      gave_up was c.args.actor c.saturating_add-now.result c.in-Some.a.now _ c.in-Some-line.line told _ _ c.a.view_is now_is
      (record { up = c.in-Some-give_up.ensures.some; actors_are = c.commit.ensures.actors; operations_are = c.commit.ensures.operations })

  moves : next was (Give c.args.actor) ≡ Some (world g.row.B left)
  moves =
      give_leads was (world g.row.B left) c.args.actor c.in-Some.a.now c.in-Some-line.line told c.in-Some.ensures.there here gave refl now_is
      (ap (λ m. m.words) c.commit.ensures.memory) (ap (λ m. m.aside) c.commit.ensures.memory)

pub invariant_of-self : goal.invariant_of-self
invariant_of-self g c =
    kept_by g.row.B c.self.inside (left g c) (Give c.args.actor) c.self.invariant (moves g c) refl
    (omega (arith, now_is g c, c.if-self.false, c.self.invariant.numbers)) (omega (arith, ap (λ m. m.room) c.commit.ensures.memory, c.self.invariant.within))
    (given_rooms g.row.B c.self.inside c.self.invariant _ c.args.actor c.in-Some.a.now c.in-Some-line.line (told g c) c.commit.new.memory _ _
    c.in-Some.ensures.there (here g c) (gave g c) c.commit.ensures.memory c.commit.ensures.room)

pub returns-clause-ok : goal.returns-clause-ok
returns-clause-ok g c = ap (λ w. next w (Give c.args.actor)) (sym c.self.view_is) ∙ moves g c
