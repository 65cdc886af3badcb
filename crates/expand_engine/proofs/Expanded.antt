-- The events that the acts of a recipe stand for, as far as these can be done.
use Rattle.std.proofs.Common.{◌≡◌, ℕ, suc, ◌+◌, ◌*◌, ◌≤◌, Bool, true, false, if◌then◌else◌, List, [], ◌∷◌, ◌++◌, length, take, All, Option, Some, None, refl, sym, ap, subst, ◌∙◌, arith}
use Rattle.std.specs.List.{slice_get}
use Rattle.std.specs.Prelude.{option_map}
use Rattle.std.proofs.lemmas.List.{length-append, length-replicate, take_all}
use Rattle.std.proofs.lemmas.List.Elements.{All-head, All-tail}
use Rattle.engine_faults.specs.Faults.{IsEventRefusal, IsMoveRefusal}
use Rattle.history.specs.declared.operations.Op.{Op}
use Rattle.history.specs.declared.refusals.Refusal.{Refusal}
use Rattle.history.specs.declared.refusals.Refusal.TheVariants.{IdleActor, ActorBusy, NotHere, NoSuchActor}
use Rattle.line_steps.specs.Actors.{Actor}
use Rattle.line_steps.specs.Outcomes.{Outcome}
use Rattle.line_table.specs.declared.lines.Line.{Line}
use Rattle.run_engine.specs.Extents.{IsCount}
use Rattle.run_engine.specs.Runs.{EventRefused, EventsLead, world_after}
use Rattle.schedule_text.specs.Schedules.{moves_of_event}
use Rattle.schedule_text.specs.Texts.{IsEventInRange}
use Rattle.schedule_text.specs.declared.schedules.Event.{Event}
use Rattle.schedule_text.specs.declared.schedules.Event.TheVariants.{Begin, Step, Steps, Give}
use Rattle.step_machine.specs.Below.{begun, gives_up, is_call}
use Rattle.step_machine.specs.Machine.{World, actor_of, after_outcome, begins, given, gives, moved, next, run_on, stepped, steps, with_actor}
use Rattle.step_machine.specs.declared.actors.Move.{Move}
use Rattle.step_machine.specs.declared.actors.Move.TheVariants.{Begin as BeginsCall, Step as TakesStep, Give as GivesUp}
use Rattle.expand_engine.specs.declared.acts.Stop.{Stop}
use Rattle.expand_engine.specs.declared.recipes.Act.{Act}
use Rattle.expand_engine.specs.declared.recipes.Said.{Said}
use Rattle.expand_engine.specs.declared.recipes.Said.TheVariants.{Happens, Until, Finish}
use Rattle.expand_engine.specs.Recipes.{IsActInRange, is_act}
use Rattle.expand_engine.specs.Expansions.{ActRefused, GoesAsFar, refused_event, with_refused}
use Rattle.expand_engine.proofs.Leading.{acts_lead}
use Rattle.expand_engine.proofs.Walked.{Walks-none}

module _ (w v : World) where
  -- a move that leads to a world with one number more, or with as many
  one_more : (u : World) → u.steps ≡ w.steps + 1 → Some u ≡ Some v → v.steps ≤ w.steps + 1
  one_more u more is =
      let same : u ≡ v = cc in
      let at : v.steps ≡ w.steps + 1 = ap (λ (x : World). x.steps) (sym same) ∙ more in
      omega (arith, at)

  no_more : (u : World) → u.steps ≡ w.steps → Some u ≡ Some v → v.steps ≤ w.steps + 1
  no_more u as_many is =
      let same : u ≡ v = cc in
      let at : v.steps ≡ w.steps = ap (λ (x : World). x.steps) (sym same) ∙ as_many in
      omega (arith, at)

  after : (me : ℕ) (op : Op) (a : Actor) (b : Bool) → (if b then Some (with_actor w me (begun w.setup.kind me op a)) else None) ≡ Some v → v.steps ≤ w.steps + 1
  after me op a true is = no_more (with_actor w me (begun w.setup.kind me op a)) refl is
  after me op a false is = absurd cc

  after_begin : (me : ℕ) (op : Op) (a : Actor) (l : Option Line) → begins w me op a l ≡ Some v → v.steps ≤ w.steps + 1
  after_begin me op a None is = after me op a (is_call op) is
  after_begin me op a (Some l) is = absurd cc

  after_step : (me : ℕ) (a : Actor) (l : Option Line) → steps w me a l ≡ Some v → v.steps ≤ w.steps + 1
  after_step me a None is = absurd cc
  after_step me a (Some l) is = one_more (stepped w me a l) refl is

  after_outcome_of : (me : ℕ) (a : Actor) (o : Option Outcome) → given w me a o ≡ Some v → v.steps ≤ w.steps + 1
  after_outcome_of me a None is = absurd cc
  after_outcome_of me a (Some o) is = one_more (after_outcome w me a w.shared o) refl is

  after_give : (me : ℕ) (a : Actor) (l : Option Line) → gives w me a l ≡ Some v → v.steps ≤ w.steps + 1
  after_give me a None is = absurd cc
  after_give me a (Some l) is = after_outcome_of me a (gives_up (w.steps + 1) a l) is

  after_move : (m : Move) (a : Option Actor) → moved w m a ≡ Some v → v.steps ≤ w.steps + 1
  after_move (BeginsCall me op) None is = absurd cc
  after_move (TakesStep me) None is = absurd cc
  after_move (GivesUp me) None is = absurd cc
  after_move (BeginsCall me op) (Some a) is = after_begin me op a a.line is
  after_move (TakesStep me) (Some a) is = after_step me a a.line is
  after_move (GivesUp me) (Some a) is = after_give me a a.line is

-- a move takes one number at most
next_steps : (w v : World) (m : Move) → next w m ≡ Some v → v.steps ≤ w.steps + 1
next_steps w v (BeginsCall me op) is = after_move w v (BeginsCall me op) (actor_of w me) is
next_steps w v (TakesStep me) is = after_move w v (TakesStep me) (actor_of w me) is
next_steps w v (GivesUp me) is = after_move w v (GivesUp me) (actor_of w me) is

-- no move takes none
no_steps : (w v : World) → Some w ≡ Some v → v.steps ≤ w.steps + 0
no_steps w v is =
    let same : w ≡ v = cc in
    let at : v.steps ≡ w.steps = ap (λ (x : World). x.steps) (sym same) in
    omega (arith, at)

-- and moves as many as they are
after_steps : (ms : List Move) (w v : World) → world_after ms w ≡ Some v → v.steps ≤ w.steps + length ms
after_steps [] w v is = no_steps w v is
after_steps (m ∷ ms) w v is = by (λ u led. after_steps ms u v led) (next w m) refl is
  where
    by : ((u : World) → world_after ms u ≡ Some v → v.steps ≤ u.steps + length ms) → (o : Option World) → next w m ≡ o → run_on (world_after ms) o ≡ Some v → v.steps ≤ w.steps + suc (length ms)
    by later None at is = absurd cc
    by later (Some u) at is = let one = next_steps w u m at in let more = later u is in omega (arith, one, more)

-- those of an event are few
moves_few : (event : Event) → IsEventInRange event → length (moves_of_event event) ≤ 1000000
moves_few (Begin me op) range = omega arith
moves_few (Step me line) range = omega arith
moves_few (Steps me count) range = let long = length-replicate count (TakesStep me) in let most = range.1.1 in omega (arith, long, most)
moves_few (Give me) range = omega arith

-- and so those of events
events_few : (events : List Event) (w v : World) → All IsEventInRange events → EventsLead w events v → v.steps ≤ w.steps + length events * 1000000
events_few [] w v range led = let at : v.steps ≡ w.steps = ap (λ (x : World). x.steps) (sym led) in omega (arith, at)
events_few (event ∷ events) w v range led =
    let here = after_steps (moves_of_event event) w led.0 led.1.made in
    let few = moves_few event (All-head IsEventInRange event events range) in
    let later = events_few events led.0 v (All-tail IsEventInRange event events range) led.2 in
    omega (arith, here, few, later)

-- the front of a list
take_front : {A : Type 0} (xs ys : List A) → take (length xs) (xs ++ ys) ≡ xs
take_front [] ys = refl
take_front (x ∷ xs) ys = ap (λ (l : List _). x ∷ l) (take_front xs ys)

get_behind : {A : Type 0} (xs : List A) (y : A) (ys : List A) → slice_get (xs ++ y ∷ ys) (length xs) ≡ Some y
get_behind [] y ys = refl
get_behind (x ∷ xs) y ys = get_behind xs y ys

-- an event is refused as the act is
pub refused_as : (said : Said) (w : World) (refusal : Refusal) → IsEventRefusal refusal → ActRefused w said refusal → EventRefused w (refused_event said refusal) refusal
refused_as (Happens event) w refusal kind refused = refused
refused_as (Until me line) w NoSuchActor kind refused = refused
refused_as (Until me line) w IdleActor kind refused = refused
refused_as (Until me line) w NotHere kind refused = (refused.busy, λ here. refused.elsewhere 0 w (omega arith) (Walks-none w me) here)
refused_as (Until me line) w _ kind refused = absurd refused
refused_as (Finish me) w NoSuchActor kind refused = record { taken = 0; few = omega arith; world = w; led = refl; refused = refused }
refused_as (Finish me) w IdleActor kind refused = record { taken = 0; few = omega arith; world = w; led = refl; refused = refused }
refused_as (Finish me) w ActorBusy kind refused = refused.start
refused_as (Finish me) w _ kind refused = absurd refused
refused_as _ w refusal kind refused = absurd refused

-- it is in range where the act is
pub refused_in_range : (said : Said) (refusal : Refusal) → is_act said ≡ true → IsActInRange said → IsEventInRange (refused_event said refusal)
refused_in_range (Happens event) refusal is range = range
refused_in_range (Until me line) refusal is range = range
refused_in_range (Finish me) ActorBusy is range = (range, tt)
refused_in_range (Finish me) _ is range = (range, (omega arith, omega arith))
refused_in_range _ refusal is range = absurd cc

-- what an event is refused, its moves are
move_refusal : (refusal : Refusal) → IsEventRefusal refusal → IsMoveRefusal refusal
move_refusal IdleActor kind = kind
move_refusal ActorBusy kind = kind
move_refusal NotHere kind = kind
move_refusal NoSuchActor kind = kind
move_refusal _ kind = absurd kind

-- what a stop is refused
pub refusal_at : Stop → Refusal
refusal_at stop = stop.refusal

module _ (w : World) (acts : List Act) (events : List Event) (v : World) (steps : ℕ) (none : w.steps ≡ 0) (same : steps ≡ v.steps) (range : All IsEventInRange events) where
  -- how far the events can be made
  pub counted_by : (stop : Option Stop) → GoesAsFar w acts events v stop
      → IsCount w (with_refused events stop) (record { made = length events; steps = steps; refusal = option_map (λ (stop : Stop). stop.refusal) stop })
  counted_by None went =
      let led = acts_lead acts w v events went in
      let few = events_few events w v range led in
      record {
        within = omega arith;
        world = v;
        led = subst (λ (l : List Event). EventsLead w l v) (sym (take_all (length events) events (omega arith))) led;
        steps = same;
        few = omega (arith, few, none);
        stops = omega arith;
      }
  counted_by (Some stop) went =
      let led = acts_lead went.before w v events went.led in
      let few = events_few events w v range led in
      let event = refused_event stop.act.said stop.refusal in
      let long = length-append events (event ∷ []) in
      record {
        within = omega (arith, long);
        world = v;
        led = subst (λ (l : List Event). EventsLead w l v) (sym (take_front events (event ∷ []))) led;
        steps = same;
        few = omega (arith, few, none);
        stops = (event, get_behind events event [], move_refusal stop.refusal went.kind, refused_as stop.act.said v stop.refusal went.kind went.refused);
      }
