use Rattle.std.proofs.Common.{◌≤◌, List, All, arith, ap, length, sym, subst}
use Rattle.std.proofs.lemmas.List.{length-take-le}
use Rattle.std.proofs.lemmas.List.Elements.{All-take}
use Rattle.schedule_text.specs.declared.schedules.Event.{Event}
use Rattle.schedule_text.specs.Texts.{IsEventInRange}
use Rattle.step_machine.specs.Machine.{World}
use Rattle.show_engine.proofs.counts.made_again.Goals as goal

pub make_all-requires : goal.make_all-requires
make_all-requires g c =
    let s = c.args.schedule.now in
    let made = c.args.made in
    let items = c.first_events.ensures in (
      omega arith,
      (
        subst (λ (events : List Event). All IsEventInRange events) (sym items) (All-take IsEventInRange made s.events (λ k d within. (c.requires.range.each k d within).1)),
        (
          subst (λ (events : List Event). length events ≤ 1000000) (sym items) (omega (arith, length-take-le made s.events c.requires.within, c.requires.within, c.requires.range.events)),
          ap (λ (w : World). w.steps) c.in_ok-world.ensures.ok,
        ),
      ),
    )

pub returns-in-None-clause-ok : goal.returns-in-None-clause-ok
returns-in-None-clause-ok g c = rw (c.first_events.ensures, c.in_ok-world.ensures.ok) at (c.in_ok-again.ensures.whole c.in-None.is)
