-- What recipes stand for.
use Rattle.std.proofs.Common.{◌≡◌, ℕ, ◌≤◌, List, All, true, Option, Some, None, Err, length, refl, sym, ap, subst, ◌∙◌}
use Rattle.std.specs.Prelude.{IfSome, option_map}
use Rattle.engine_faults.specs.Faults.{IsEventRefusal}
use Rattle.engine_faults.specs.declared.faults.Fault.{Fault}
use Rattle.history.specs.declared.refusals.Refusal.{Refusal}
use Rattle.history.specs.declared.refusals.Refusal.TheVariants.{IdleActor, ActorBusy, NotHere, NoSuchActor}
use Rattle.text_io.specs.Devices.{SourceState}
use Rattle.text_io.specs.Readings.{ReachesEnd}
use Rattle.schedule_text.specs.declared.schedules.Event.{Event}
use Rattle.schedule_text.specs.declared.schedules.Version.{Version}
use Rattle.step_machine.specs.Machine.{World}
use Rattle.expand_engine.specs.declared.acts.Done.{Done}
use Rattle.expand_engine.specs.declared.acts.Stop.{Stop}
use Rattle.expand_engine.specs.declared.expansions.Expansion.{Expansion}
use Rattle.expand_engine.specs.declared.recipes.Act.{Act}
use Rattle.expand_engine.specs.declared.recipes.Said.{Said}
use Rattle.expand_engine.specs.declared.recipes.Sizes.{Sizes}
use Rattle.expand_engine.specs.Recipes.{IsRecipe, is_act}
use Rattle.expand_engine.specs.UnrolledActs.{unrolled}
use Rattle.expand_engine.specs.Expansions.{ActsLead, ActsRefused, EndsAs, ExpansionRefused, GoesAsFar, IsActFault, IsActOf, IsDone, IsExpansionOf, IsReadAs, IsVersionOf, StandsFor, StopsAt, StopsExpansion, opening_with, with_refused}
use Rattle.expand_engine.proofs.Expanded.{counted_by}
use Rattle.expand_engine.proofs.Ranges.{acts_few, acts_in_range, events_in_range, schedule_in_range, sizes_in_range, stop_is_act}

-- acts that stop are refused
pub stops_refused : (w v : World) (acts : List Act) (events : List Event) (stop : Stop) → StopsAt w acts events v stop → ActsRefused w acts stop.act.line stop.refusal
stops_refused w v acts events stop went = record {
  before = went.before;
  act = stop.act;
  later = went.later;
  split = went.split;
  counted = refl;
  events = events;
  world = v;
  led = went.led;
  refused = went.refused;
}

-- the act at which acts stop
fault_of : (w v : World) (acts : List Act) (events : List Event) (stop : Option Stop) → All IsActOf acts → GoesAsFar w acts events v stop
    → IfSome stop (λ stop. IsActFault stop.refusal stop.act.line)
fault_of w v acts events None all went = tt
fault_of w v acts events (Some stop) all went = (went.kind, (stop_is_act w v acts events stop all went).behind)

is_act_of : (w v : World) (acts : List Act) (events : List Event) (stop : Option Stop) → All IsActOf acts → GoesAsFar w acts events v stop
    → IfSome stop (λ stop. is_act stop.act.said ≡ true)
is_act_of w v acts events None all went = tt
is_act_of w v acts events (Some stop) all went = (stop_is_act w v acts events stop all went).is

module _ (text : List ℕ) (sizes : Sizes) (saids : List Said) (acts : List Act) (done : Done) (recipe : IsRecipe text sizes saids) (same : unrolled 1 None saids ≡ acts)
    (is : IsDone (opening_with sizes) acts done) where
  all_are : All IsActOf acts
  all_are = subst (All IsActOf) same (acts_in_range text sizes saids recipe)

  pub stop_acts : IfSome done.stop (λ stop. is_act stop.act.said ≡ true)
  stop_acts = is_act_of (opening_with sizes) is.world acts done.events.items done.stop all_are is.went

  -- it stands for what was done
  pub stands_for : (all : List Event) (version : Version) (made : ℕ) (refusal : Option Refusal) → all ≡ with_refused done.events.items done.stop → IsVersionOf sizes.bits all version
      → made ≡ length done.events.items → refusal ≡ option_map (λ (stop : Stop). stop.refusal) done.stop
      → StandsFor sizes saids (record {
        schedule = record { version = version; kind = sizes.kind; bits = sizes.bits; nodes = sizes.nodes; limit = sizes.limit; actors = sizes.actors; events = all };
        extent = record { made = made; steps = done.steps; refusal = refusal };
        stop = done.stop;
      })
  stands_for all version made refusal all_is version_is made_is refusal_is =
      let sized = sizes_in_range text sizes saids recipe in
      let few = subst (λ (acts : List Act). length acts ≤ 1000000) same (acts_few text sizes saids recipe) in
      let ranges = events_in_range (opening_with sizes) is.world acts done.events.items done.stop all_are is.went in
      record {
        events = done.events.items;
        world = is.world;
        went = subst (λ (acts : List Act). GoesAsFar (opening_with sizes) acts done.events.items is.world done.stop) (sym same) is.went;
        has = all_is;
        version = version_is;
        kind = refl;
        bits = refl;
        nodes = refl;
        limit = refl;
        actors = refl;
        made = record {
          range = rw all_is (schedule_in_range version sizes acts done.events.items is.world done.stop sized all_are few is.went
              (subst (λ (events : List Event). IsVersionOf sizes.bits events version) all_is version_is));
          extent = rw (all_is, made_is, refusal_is) (counted_by (opening_with sizes) acts done.events.items is.world done.steps refl is.steps ranges done.stop is.went);
          refusal = refusal_is;
          fault = fault_of (opening_with sizes) is.world acts done.events.items done.stop all_are is.went;
        };
      }

module _ (given : Option (List ℕ)) (e : Expansion) (r : IsReadAs given e) where
  -- no act is refused
  pub whole_read : e.stop ≡ None → IsExpansionOf given e.schedule
  whole_read none =
      let s = r.stands in
      let went : ActsLead (opening_with r.sizes) (unrolled 1 None r.saids) s.events s.world =
      subst (λ (stop : Option Stop). GoesAsFar (opening_with r.sizes) (unrolled 1 None r.saids) s.events s.world stop) none s.went in
      let has : e.schedule.events ≡ s.events = s.has ∙ ap (with_refused s.events) none in
      record {
        text = r.text;
        read = r.read;
        sizes = r.sizes;
        saids = r.saids;
        recipe = r.recipe;
        expands = record {
          events = record { world = s.world; led = subst (λ (events : List Event). ActsLead (opening_with r.sizes) (unrolled 1 None r.saids) events s.world) (sym has) went };
          version = s.version;
          kind = s.kind;
          bits = s.bits;
          nodes = s.nodes;
          limit = s.limit;
          actors = s.actors;
        };
        range = s.made.range;
      }

  -- one is
  pub refused_read : (stop : Stop) → e.stop ≡ Some stop → ExpansionRefused given stop.act.line stop.refusal
  refused_read stop some =
      let s = r.stands in
      let went : StopsAt (opening_with r.sizes) (unrolled 1 None r.saids) s.events s.world stop =
      subst (λ (stop : Option Stop). GoesAsFar (opening_with r.sizes) (unrolled 1 None r.saids) s.events s.world stop) some s.went in
      record {
        text = r.text;
        read = r.read;
        sizes = r.sizes;
        saids = r.saids;
        recipe = r.recipe;
        refused = stops_refused (opening_with r.sizes) s.world (unrolled 1 None r.saids) s.events stop went;
      }

-- what is refused of a recipe that was read
pub stops_read : (old new : SourceState) (e : Expansion) (fault : Fault) → IsReadAs old.left e → ReachesEnd old new → EndsAs e.stop (Err fault) → StopsExpansion old new fault.refusal fault.line
stops_read old new e fault r reached ends =
    let stop = ends.0 in
    let kind : IsActFault stop.refusal stop.act.line = subst (λ (o : Option Stop). IfSome o (λ stop. IsActFault stop.refusal stop.act.line)) ends.1 r.stands.made.fault in
    let refused = refused_read old.left e r stop ends.1 in
    subst (λ (f : Fault). StopsExpansion old new f.refusal f.line) (sym ends.2) (by stop.refusal kind.0 kind refused reached)
  where
    by : (refusal : Refusal) → IsEventRefusal refusal → IsActFault refusal ends.0.act.line → ExpansionRefused old.left ends.0.act.line refusal → ReachesEnd old new
        → StopsExpansion old new refusal (Some ends.0.act.line)
    by IdleActor event kind refused reached = record { fault = kind; text = tt; refused = refused; unwritten = λ write. absurd cc; reader = reached }
    by ActorBusy event kind refused reached = record { fault = kind; text = tt; refused = refused; unwritten = λ write. absurd cc; reader = reached }
    by NotHere event kind refused reached = record { fault = kind; text = tt; refused = refused; unwritten = λ write. absurd cc; reader = reached }
    by NoSuchActor event kind refused reached = record { fault = kind; text = tt; refused = refused; unwritten = λ write. absurd cc; reader = reached }
    by _ event kind refused reached = absurd event

-- what is refused of acts that stop
module _ (w : World) (acts : List Act) (done : Done) (stop : Stop) (all : All IsActOf acts) (is : IsDone w acts done) (some : done.stop ≡ Some stop) where
  stopped : StopsAt w acts done.events.items is.world stop
  stopped = subst (λ (o : Option Stop). GoesAsFar w acts done.events.items is.world o) some is.went

  pub fault_at : IsActFault stop.refusal stop.act.line
  fault_at = (stopped.kind, (stop_is_act w is.world acts done.events.items stop all stopped).behind)

  pub refused_at : ActsRefused w acts stop.act.line stop.refusal
  refused_at = stops_refused w is.world acts done.events.items stop stopped
