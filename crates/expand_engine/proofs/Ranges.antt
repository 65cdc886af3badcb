-- What a recipe says, and the schedule that it stands for, are in range.
use Rattle.std.proofs.Common.{◌≡◌, ℕ, IsTrue, zero, suc, ◌+◌, ◌<◌, ◌≤◌, List, [], ◌∷◌, ◌++◌, length, All, Option, None, Some, refl, sym, ap, subst, arith}
use Rattle.std.proofs.lemmas.List.{length-append}
use Rattle.std.proofs.lemmas.List.Elements.{All-nil, All-cons, All-append, All-head, All-push, All-tail, All-weaker}
use Rattle.line_table.specs.declared.lines.Section.{Section}
use Rattle.line_table.specs.declared.lines.Section.TheVariants.{Shut, LockedShut}
use Rattle.line_table.specs.Sections.{section_of}
use Rattle.history.specs.declared.operations.Op.TheVariants.{Shut as Shuts}
use Rattle.schedule_text.specs.Texts.{IsActor, IsEventInRange, IsEventOf, IsInRange, IsTold, is_named}
use Rattle.schedule_text.specs.declared.schedules.Event.{Event}
use Rattle.schedule_text.specs.declared.schedules.Event.TheVariants.{Begin, Step, Steps, Give}
use Rattle.schedule_text.specs.declared.schedules.Version.{Version}
use Rattle.schedule_text.specs.declared.schedules.Version.TheVariants.{One, Two}
use Rattle.step_machine.specs.Machine.{World}
use Rattle.expand_engine.specs.declared.acts.Stop.{Stop}
use Rattle.expand_engine.specs.declared.recipes.Act.{Act}
use Rattle.expand_engine.specs.declared.recipes.Said.{Said}
use Rattle.expand_engine.specs.declared.recipes.Said.TheVariants.{Happens, Until, Finish}
use Rattle.expand_engine.specs.declared.recipes.Sizes.{Sizes}
use Rattle.expand_engine.specs.Recipes.{IsActInRange, IsRecipe, no_sizes, sizes_from}
use Rattle.expand_engine.specs.UnrolledActs.{unrolled}
use Rattle.expand_engine.specs.Expansions.{ActLeads, ActsLead, AreSizesInRange, GoesAsFar, IsActOf, IsVersionOf, StopsAt, opening_with, refused_event, with_refused}
use Rattle.expand_engine.specs.Walks.{steps_told}
use Rattle.expand_engine.proofs.Bounds.{Bounded, of_recipe}
use Rattle.expand_engine.proofs.ExpansionSizes.{of_lines}
use Rattle.expand_engine.proofs.Expanded.{refused_in_range}

-- the front and the back of a list
all_front : {A : Type 0} (P : A → Type 0) (xs ys : List A) → All P (xs ++ ys) → All P xs
all_front P [] ys all = All-nil P
all_front P (x ∷ xs) ys all = All-cons P x xs (All-head P x (xs ++ ys) all) (all_front P xs ys (All-tail P x (xs ++ ys) all))

all_back : {A : Type 0} (P : A → Type 0) (xs ys : List A) → All P (xs ++ ys) → All P ys
all_back P [] ys all = all
all_back P (x ∷ xs) ys all = all_back P xs ys (All-tail P x (xs ++ ys) all)

-- each event is in range, and there are at most so many
record AreFew (events : List Event) (count : ℕ) : Type 0 where
  few : length events ≤ count
  each : All IsEventInRange events

none_are : AreFew [] 1
none_are = record { few = omega arith; each = All-nil IsEventInRange }

one_is : (event : Event) → IsEventInRange event → AreFew (event ∷ []) 1
one_is event range = record { few = omega arith; each = All-cons IsEventInRange event [] range (All-nil IsEventInRange) }

-- steps
steps_are : (me count : ℕ) → IsActor me → count ≤ 64 → AreFew (steps_told me count) 1
steps_are me zero is few = none_are
steps_are me (suc count) is few = one_is (Steps me (suc count)) (is, (omega arith, omega (arith, few)))

-- the events of an act
act_is : (said : Said) (w v : World) (events : List Event) → IsActInRange said → ActLeads w said events v → AreFew events 1
act_is (Happens event) w v events range leads = subst (λ (events : List Event). AreFew events 1) (sym leads.0) (one_is event range)
act_is (Until me line) w v events range leads = subst (λ (events : List Event). AreFew events 1) (sym leads.1) (steps_are me leads.0 range leads.2.few)
act_is (Finish me) w v events range leads = subst (λ (events : List Event). AreFew events 1) (sym leads.1) (steps_are me leads.0 range leads.2.few)
act_is _ w v events range leads = absurd leads

-- those of an act, and of others
more_events : (first later : List Event) (count : ℕ) → length first ≤ 1 → length later ≤ count → length (first ++ later) ≤ suc count
more_events first later count one more = let long = length-append first later in omega (arith, long, one, more)

-- those of acts
acts_are : (acts : List Act) (w v : World) (events : List Event) → All IsActOf acts → ActsLead w acts events v → AreFew events (length acts)
acts_are [] w v events all led = subst (λ (events : List Event). AreFew events 0) (sym led.0) (record { few = omega arith; each = All-nil IsEventInRange })
acts_are (act ∷ acts) w v events all led =
    let here = act_is act.said w led.0 led.1 (All-head IsActOf act acts all).range led.4 in
    let later = acts_are acts led.0 v led.2 (All-tail IsActOf act acts all) led.5 in
    subst (λ (events : List Event). AreFew events (length (act ∷ acts))) (sym led.3) (record {
      few = more_events led.1 led.2 (length acts) here.few later.few;
      each = All-append IsEventInRange led.1 led.2 here.each later.each;
    })

-- version 2 can tell each event
named_in_two : (section : Section) → IsTrue (is_named Two section)
named_in_two Shut = refl
named_in_two LockedShut = refl
named_in_two _ = refl

told_in_two : (event : Event) → IsTold Two event
told_in_two (Begin actor Shuts) = refl
told_in_two (Begin actor _) = tt
told_in_two (Step actor line) = named_in_two (section_of line)
told_in_two (Steps actor count) = tt
told_in_two (Give actor) = tt

-- each event of a version
each_of : (version : Version) (events : List Event) → ((event : Event) → IsTold version event) → All IsEventInRange events → All (IsEventOf version) events
each_of version events told all = All-weaker IsEventInRange (IsEventOf version) (λ event range. (told event, range)) events all

both : (version : Version) (events : List Event) → All (IsTold version) events → All IsEventInRange events → All (IsEventOf version) events
both version [] told all = All-nil (IsEventOf version)
both version (event ∷ events) told all =
    All-cons (IsEventOf version) event events (All-head (IsTold version) event events told, All-head IsEventInRange event events all)
    (both version events (All-tail (IsTold version) event events told) (All-tail IsEventInRange event events all))

-- so is the schedule
in_range_by : (version : Version) (sizes : Sizes) (events : List Event) → AreSizesInRange sizes → AreFew events 1000000 → IsVersionOf sizes.bits events version
    → IsInRange (record { version = version; kind = sizes.kind; bits = sizes.bits; nodes = sizes.nodes; limit = sizes.limit; actors = sizes.actors; events = events })
in_range_by One sizes events ranges are is = record {
  split = ranges.split;
  first = λ one. is.usual;
  nodes = ranges.nodes;
  limit = ranges.limit;
  actors = ranges.actors;
  events = are.few;
  each = both One events is.told are.each;
}
in_range_by Two sizes events ranges are is = record {
  split = ranges.split;
  first = λ one. absurd cc;
  nodes = ranges.nodes;
  limit = ranges.limit;
  actors = ranges.actors;
  events = are.few;
  each = each_of Two events told_in_two are.each;
}

fewer : (events : List Event) (m n : ℕ) → AreFew events m → m ≤ n → AreFew events n
fewer events m n are less = let few = are.few in record { few = omega (arith, few, less); each = are.each }

-- the events of acts, as far as these can be done
front_few : (acts before later : List Act) (act : Act) → acts ≡ before ++ act ∷ later → length acts ≡ suc (length before + length later)
front_few acts before later act split = let long = length-append before (act ∷ later) in let same = ap length split in omega (arith, long, same)

behind_few : (events : List Event) (event : Event) (few count : ℕ) → length events ≤ few → few < count → length (events ++ event ∷ []) ≤ count
behind_few events event few count short less = let long = length-append events (event ∷ []) in omega (arith, long, short, less)

with_refused_few : (w v : World) (acts : List Act) (events : List Event) (stop : Option Stop) → All IsActOf acts → GoesAsFar w acts events v stop → AreFew (with_refused events stop) (length acts)
with_refused_few w v acts events None all went = acts_are acts w v events all went
with_refused_few w v acts events (Some stop) all went =
    let split : All IsActOf (went.before ++ stop.act ∷ went.later) = subst (All IsActOf) went.split all in
    let front = all_front IsActOf went.before (stop.act ∷ went.later) split in
    let here = All-head IsActOf stop.act went.later (all_back IsActOf went.before (stop.act ∷ went.later) split) in
    let are = acts_are went.before w v events front went.led in
    let long = front_few acts went.before went.later stop.act went.split in
    record {
      few = behind_few events (refused_event stop.act.said stop.refusal) (length went.before) (length acts) are.few (omega (arith, long));
      each = All-push IsEventInRange events (refused_event stop.act.said stop.refusal) are.each (refused_in_range stop.act.said stop.refusal here.is here.range);
    }

-- the events before the refused act
pub events_in_range : (w v : World) (acts : List Act) (events : List Event) (stop : Option Stop) → All IsActOf acts → GoesAsFar w acts events v stop → All IsEventInRange events
events_in_range w v acts events None all went = (acts_are acts w v events all went).each
events_in_range w v acts events (Some stop) all went =
    (acts_are went.before w v events (all_front IsActOf went.before (stop.act ∷ went.later) (subst (All IsActOf) went.split all)) went.led).each

-- the act that is refused is one
pub stop_is_act : (w v : World) (acts : List Act) (events : List Event) (stop : Stop) → All IsActOf acts → StopsAt w acts events v stop → IsActOf stop.act
stop_is_act w v acts events stop all went =
    All-head IsActOf stop.act went.later (all_back IsActOf went.before (stop.act ∷ went.later) (subst (All IsActOf) went.split all))

pub schedule_in_range : (version : Version) (sizes : Sizes) (acts : List Act) (events : List Event) (v : World) (stop : Option Stop) → AreSizesInRange sizes → All IsActOf acts → length acts ≤ 1000000
    → GoesAsFar (opening_with sizes) acts events v stop → IsVersionOf sizes.bits (with_refused events stop) version
    → IsInRange (record { version = version; kind = sizes.kind; bits = sizes.bits; nodes = sizes.nodes; limit = sizes.limit; actors = sizes.actors; events = with_refused events stop })
schedule_in_range version sizes acts events v stop ranges all short went is =
    in_range_by version sizes (with_refused events stop) ranges
    (fewer (with_refused events stop) (length acts) 1000000 (with_refused_few (opening_with sizes) v acts events stop all went) short) is

-- the sizes of a recipe
pub sizes_in_range : (text : List ℕ) (sizes : Sizes) (saids : List Said) → IsRecipe text sizes saids → AreSizesInRange sizes
sizes_in_range text sizes saids is =
    subst AreSizesInRange (sym is.sized) (subst (λ (saids : List Said). AreSizesInRange (sizes_from no_sizes saids)) is.said (of_lines is.lines is.read.lines.due is.read.done))

-- the acts of a recipe
of_said : (text : List ℕ) (sizes : Sizes) (saids : List Said) → IsRecipe text sizes saids → Bounded 1 None saids 0
of_said text sizes saids is = subst (λ (saids : List Said). Bounded 1 None saids 0) is.said (of_recipe is.lines is.read.lines.due is.read.done)

pub acts_in_range : (text : List ℕ) (sizes : Sizes) (saids : List Said) → IsRecipe text sizes saids → All IsActOf (unrolled 1 None saids)
acts_in_range text sizes saids is = (of_said text sizes saids is).acts

pub acts_few : (text : List ℕ) (sizes : Sizes) (saids : List Said) → IsRecipe text sizes saids → length (unrolled 1 None saids) ≤ 1000000
acts_few text sizes saids is = let few = (of_said text sizes saids is).few in omega (arith, few)
