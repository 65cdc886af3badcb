use Rattle.std.proofs.Common.{◌≡◌, ◌≤◌, ◌∙◌, List, Some, None, ap, arith, length, refl, subst}
use Rattle.std.specs.List.{slice_get}
use Rattle.std.proofs.lemmas.List.{append-nil}
use Rattle.std.proofs.lemmas.Option.{slice_get_past, slice_get_read}
use Rattle.schedule_text.specs.declared.schedules.Event.{Event}
use Rattle.schedule_text.specs.Schedules.{Schedule}
use Rattle.text_io.proofs.Sends.{Sends-none}
use Rattle.run_engine.proofs.printing.put_rest.Goals as goal

pub returns-in-Some : goal.returns-in-Some
returns-in-Some g c =
    let items : c.deref.result.now ≡ c.args.schedule.now.events = c.deref.ensures.value ∙ ap (λ (s : Schedule). s.events) c.schedule.view_is in
    let got : slice_get c.deref.result.now c.args.made ≡ Some c.in-Some.event.now =
    slice_get_read c.deref.result.now (length c.deref.result.now) _ _ refl c.in-Some.ensures.lookup.3.0 c.in-Some.ensures.lookup.1 in
    let here : slice_get c.args.schedule.now.events c.args.made ≡ Some c.in-Some.event.now = subst (λ (l : List Event). slice_get l c.args.made ≡ Some c.in-Some.event.now) items got in
    let puts = rw (ap (λ (s : Schedule). s.actors) c.schedule.view_is) at c.put_stop.ensures in
    rw here puts

pub returns-in-None : goal.returns-in-None
returns-in-None g c =
    let items : c.deref.result.now ≡ c.args.schedule.now.events = c.deref.ensures.value ∙ ap (λ (s : Schedule). s.events) c.schedule.view_is in
    let missing = c.in-None.ensures.lookup in
    let past : length c.deref.result.now ≤ c.args.made = omega arith in
    let none : slice_get c.args.schedule.now.events c.args.made ≡ None = subst (λ (l : List Event). slice_get l c.args.made ≡ None) items (slice_get_past c.deref.result.now c.args.made past) in
    rw (none, append-nil c.args.block.now) (record { ok = Sends-none _ _; quiet = refl; only_write = tt; prefix = tt; cause = tt })
