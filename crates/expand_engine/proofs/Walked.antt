-- An actor that takes steps.
use Rattle.std.proofs.Common.{◌≡◌, ◌≢◌, ℕ, ◌+◌, ◌<◌, ◌≤◌, inl, inr, Bool, true, false, if◌then◌else◌, ◌==◌, ◌-◌, get_or, slice_get, Option, Some}
use Rattle.std.proofs.Common.{None, IfSome, length, refl, sym, ap, subst, ◌∙◌, arith}
use Rattle.std.specs.Prelude.{IsSome, IsSomeAnd, is_some}
use Rattle.std.proofs.lemmas.Bool.{eqb-true, eqb-false}
use Rattle.line_table.specs.declared.lines.Line.{Line}
use Rattle.line_steps.specs.Actors.{Actor}
use Rattle.line_steps.specs.Memory.{found}
use Rattle.step_machine.specs.declared.actors.Move.TheVariants.{Step}
use Rattle.step_machine.specs.Below.{action, outcome}
use Rattle.step_machine.specs.Calls.{line_of, IsBusy, IsIdle}
use Rattle.step_machine.specs.Machine.{World, actor_of, entry_or, moved, next, stepped, steps}
use Rattle.step_machine.proofs.CompletionSteps.{actor_same}
use Rattle.run_engine.proofs.Moves.{world_after-replicate_next}
use Rattle.std.proofs.lemmas.Bool.{ne_eqb}
use Rattle.std.proofs.lemmas.Option.{slice_get-get_or}
use Rattle.step_machine.specs.Machine.{idle}
use Rattle.expand_engine.specs.Walks.{ComesNowhere, ComesTo, EndsCall, IsStanding, StaysInCall, StandsBefore, StandsElsewhere, Walks}

-- the line of an actor that is there
pub line_told : (o : Option Actor) (line : Option Line) → IfSome o (λ a. line ≡ a.line) → IsSome o → line ≡ line_of o
line_told None line told there = absurd cc
line_told (Some a) line told there = told

-- an actor with a call has a line
pub busy_of : (o : Option Actor) (line : Line) → Some line ≡ line_of o → IsSomeAnd o (λ a. IsSome a.line)
busy_of None line is = absurd cc
busy_of (Some a) line is = subst (λ (l : Option Line). IsSome l) is refl

-- an actor that is there and has no line has no call
pub idle_of : (o : Option Actor) → IsSome o → None ≡ line_of o → IsSomeAnd o (λ a. a.line ≡ None)
idle_of None there is = absurd cc
idle_of (Some a) there is = sym is

-- an actor with a call has one
not_idle : (l : Option Line) → IsSome l → l ≢ None
not_idle None some none = absurd cc
not_idle (Some line) some none = absurd cc

pub busy_not_idle : (o : Option Actor) → IsSomeAnd o (λ a. IsSome a.line) → IsSomeAnd o (λ a. a.line ≡ None) → ⊥
busy_not_idle None busy none = busy
busy_not_idle (Some a) busy none = not_idle a.line busy none

-- an actor is there after its step
pub still_there : (w v : World) (me : ℕ) → next w (Step me) ≡ Some v → IsSome (actor_of v me)
still_there w v me made = by (actor_of w me) refl made
  where
    at : (a : Actor) (l : Option Line) → actor_of w me ≡ Some a → steps w me a l ≡ Some v → IsSome (actor_of v me)
    at a None is made = absurd cc
    at a (Some l) is made =
        let b : Actor = record (outcome w.setup (w.steps + 1) me a l (found (action w.setup me a l) w.shared)).actor { entry = Some (entry_or a.entry (length w.operations)) } in
        let here : actor_of (stepped w me a l) me ≡ Some b = actor_same w me a b is in
        let same : stepped w me a l ≡ v = cc in
        subst (λ (v : World). IsSome (actor_of v me)) same (subst (λ (o : Option Actor). IsSome o) (sym here) refl)

    by : (o : Option Actor) → actor_of w me ≡ o → moved w (Step me) o ≡ Some v → IsSome (actor_of v me)
    by None is made = absurd cc
    by (Some a) is made = at a a.line is made

-- so it isn't told that it isn't
pub not_gone : (w v : World) (me : ℕ) → next w (Step me) ≡ Some v → actor_of v me ≢ None
not_gone w v me made none = let there = subst (λ (o : Option Actor). IsSome o) none (still_there w v me made) in absurd cc

-- no step leads nowhere else
pub Walks-none : (w : World) (me : ℕ) → Walks w me 0 w
Walks-none w me = refl

-- one step more
pub Walks-more : (w u v : World) (me count : ℕ) → Walks w me count u → next u (Step me) ≡ Some v → Walks w me (count + 1) v
Walks-more w u v me count walked made = world_after-replicate_next count (Step me) w u v walked made

-- so many steps lead to one world
pub Walks-one : (w u v : World) (me count : ℕ) → Walks w me count u → Walks w me count v → u ≡ v
Walks-one w u v me count first second = let same : Some u ≡ Some v = sym first ∙ second in cc

-- what holds after each number of steps below this one, and after this one, holds below the next one
pub each_more : (w : World) (me count : ℕ) (P : World → Type 0) → ((fewer : ℕ) (u : World) → fewer < count → Walks w me fewer u → P u)
    → (v : World) → Walks w me count v → P v → (fewer : ℕ) (u : World) → fewer < count + 1 → Walks w me fewer u → P u
each_more w me count P each v walked holds fewer u less there = by (fewer == count) refl
  where
    by : (b : Bool) → (fewer == count) ≡ b → P u
    by true is =
        let same : fewer ≡ count = eqb-true fewer count is in
        subst P (Walks-one w v u me count walked (subst (λ (n : ℕ). Walks w me n u) same there)) holds
    by false is =
        let other : ¬ (fewer ≡ count) = eqb-false fewer count is in
        each fewer u (omega (arith, less, other)) there

-- an actor is on its way to a line, after so many steps, and stands before this one
pub record IsOnWay (w : World) (me : ℕ) (line : Line) (count : ℕ) (u : World) (at : Line) : Type 0 where
  pub walked : Walks w me count u
  pub here : StandsBefore u me at
  pub elsewhere : StandsElsewhere w me count line
  pub steps : u.steps ≤ w.steps + count

pub IsOnWay-none : (w : World) (me : ℕ) (line at : Line) → IsStanding w me (Some at) → IsOnWay w me line 0 w at
IsOnWay-none w me line at standing = record {
  walked = Walks-none w me;
  here = sym standing.1;
  elsewhere = λ fewer u less walked stands. omega (arith, less);
  steps = omega arith;
}

-- it doesn't stand before that line
elsewhere_now : (u : World) (me : ℕ) (line at : Line) → StandsBefore u me at → at ≢ line → ¬ StandsBefore u me line
elsewhere_now u me line at here other stands = let same : Some at ≡ Some line = sym here ∙ stands in let is : at ≡ line = cc in other is

pub elsewhere_more : (w u : World) (me : ℕ) (line at : Line) (count : ℕ) → IsOnWay w me line count u at → at ≢ line → StandsElsewhere w me (count + 1) line
elsewhere_more w u me line at count way other =
    each_more w me count (λ u. ¬ StandsBefore u me line) way.elsewhere u way.walked (elsewhere_now u me line at way.here other)

pub IsOnWay-more : (w u v : World) (me : ℕ) (line at there : Line) (count : ℕ) → IsOnWay w me line count u at → at ≢ line → next u (Step me) ≡ Some v → v.steps ≡ u.steps + 1
    → IsStanding v me (Some there) → IsOnWay w me line (count + 1) v there
IsOnWay-more w u v me line at there count way other made counted standing = record {
  walked = Walks-more w u v me count way.walked made;
  here = sym standing.1;
  elsewhere = elsewhere_more w u me line at count way other;
  steps = let steps = way.steps in omega (arith, steps, counted);
}

-- an actor takes steps of its call, so many so far
pub record IsWalking (w : World) (me count : ℕ) (u : World) : Type 0 where
  pub walked : Walks w me count u
  pub busy : IsBusy u me
  pub start : IsBusy w me
  pub least : (fewer : ℕ) (x : World) → fewer < count → Walks w me fewer x → IsBusy x me
  pub steps : u.steps ≤ w.steps + count

pub IsWalking-none : (w : World) (me : ℕ) → IsBusy w me → IsWalking w me 0 w
IsWalking-none w me busy = record {
  walked = Walks-none w me;
  busy = busy;
  start = busy;
  least = λ fewer x less walked. absurd (omega (arith, less));
  steps = omega arith;
}

pub least_more : (w u : World) (me count : ℕ) → IsWalking w me count u → (fewer : ℕ) (x : World) → fewer < count + 1 → Walks w me fewer x → IsBusy x me
least_more w u me count walking = each_more w me count (λ x. IsBusy x me) walking.least u walking.walked walking.busy

pub IsWalking-more : (w u v : World) (me count : ℕ) → IsWalking w me count u → next u (Step me) ≡ Some v → v.steps ≡ u.steps + 1 → IsBusy v me → IsWalking w me (count + 1) v
IsWalking-more w u v me count walking made counted busy = record {
  walked = Walks-more w u v me count walking.walked made;
  busy = busy;
  start = walking.start;
  least = least_more w u me count walking;
  steps = let steps = walking.steps in omega (arith, steps, counted);
}

pub EndsCall-here : (w u v : World) (me count : ℕ) → IsWalking w me count u → count < 64 → next u (Step me) ≡ Some v → IsIdle v me → EndsCall w me (count + 1) v
EndsCall-here w u v me count walking few made idle = record {
  busy = walking.start;
  few = omega (arith, few);
  walked = Walks-more w u v me count walking.walked made;
  ended = idle;
  least = least_more w u me count walking;
}

-- an actor has come to its line
pub ComesTo-now : (w u : World) (me : ℕ) (line at : Line) (count : ℕ) → IsOnWay w me line count u at → at ≡ line → count ≤ 64 → ComesTo w me line count u
ComesTo-now w u me line at count way same few = record {
  few = few;
  walked = way.walked;
  stands = way.here ∙ ap (λ (l : Line). Some l) same;
  least = way.elsewhere;
}

-- an actor with no call stands nowhere
idle_nowhere : (o : Option Actor) (line : Line) → IsSomeAnd o (λ a. a.line ≡ None) → line_of o ≡ Some line → ⊥
idle_nowhere None line idle is = idle
idle_nowhere (Some a) line idle is = let same : None ≡ Some line = sym idle ∙ is in absurd cc

-- an actor whose call ended on its way
pub nowhere_idle : (w u v : World) (me : ℕ) (line at : Line) (count : ℕ) → IsBusy w me → IsOnWay w me line count u at → at ≢ line → count < 64 → next u (Step me) ≡ Some v → IsIdle v me
    → ComesNowhere w me line
nowhere_idle w u v me line at count busy way other few made idle =
    let walked = Walks-more w u v me count way.walked made in
    record {
      busy = busy;
      count = count + 1;
      few = omega (arith, few);
      world = v;
      walked = walked;
      elsewhere =
          each_more w me (count + 1) (λ u. ¬ StandsBefore u me line) (elsewhere_more w u me line at count way other) v walked
          (λ stands. idle_nowhere (actor_of v me) line idle stands);
      over = inl idle;
    }

-- what is told of where an actor stands
pub idle_told : (w : World) (me : ℕ) (line : Option Line) → IsStanding w me line → is_some line ≡ false → IsIdle w me
idle_told w me None standing none = idle_of (actor_of w me) standing.0 standing.1
idle_told w me (Some line) standing none = absurd cc

pub busy_told : (w : World) (me : ℕ) (line : Option Line) → IsStanding w me line → is_some line ≡ true → IsBusy w me
busy_told w me None standing some = absurd cc
busy_told w me (Some line) standing some = busy_of (actor_of w me) line standing.1

pub busy_at : (w : World) (me : ℕ) (line : Option Line) (at : Line) → IsStanding w me line → line ≡ Some at → IsBusy w me
busy_at w me line at standing is = busy_of (actor_of w me) at (sym is ∙ standing.1)

pub idle_at : (w : World) (me : ℕ) (line : Option Line) → IsStanding w me line → line ≡ None → IsIdle w me
idle_at w me line standing is = idle_of (actor_of w me) standing.0 (sym is ∙ standing.1)

-- an actor that has its call still
pub stays : (w u : World) (me count : ℕ) → IsWalking w me count u → count ≡ 64 → StaysInCall w me
stays w u me count walking all = record { count = count; all = all; world = u; walked = walking.walked; start = walking.start; busy = walking.busy }

-- an actor that took all its steps
pub nowhere_all : (w u : World) (me : ℕ) (line at : Line) (count : ℕ) → IsBusy w me → IsOnWay w me line count u at → at ≢ line → count ≡ 64 → ComesNowhere w me line
nowhere_all w u me line at count busy way other all = record {
  busy = busy;
  count = count;
  few = omega (arith, all);
  world = u;
  walked = way.walked;
  elsewhere = elsewhere_more w u me line at count way other;
  over = inr all;
}

-- a number from 1 up to the number of actors is an actor's
pub there : (w : World) (n : ℕ) → n ≢ 0 → n ≤ length w.actors → IsSome (actor_of w n)
there w n some low =
    let at : slice_get w.actors (n - 1) ≡ Some (get_or w.actors (n - 1) idle) = slice_get-get_or w.actors (n - 1) idle (omega arith) in
    let is : actor_of w n ≡ Some (get_or w.actors (n - 1) idle) = ap (λ b. if b then None else slice_get w.actors (n - 1)) (ne_eqb n 0 some) ∙ at in
    subst (λ o. IsSome o) (sym is) refl
