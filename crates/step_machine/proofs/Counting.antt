-- How often actors hold a node, and how often it was set aside, after one actor's state or one flag changed.
-- `elsewhere w n` counts a node outside the two chains. A step of an actor changes it by what that actor held and
-- holds and by what is set aside: `elsewhere_settled`. Two actors hold different nodes: `held_both`.
use Rattle.std.proofs.Common.{◌≡◌, ◌≢◌, ℕ, zero, suc, ◌+◌, ◌-◌, ◌≤◌, ◌<◌, Bool, true, false, nat_eq, nat_le, if◌then◌else◌, List, [], ◌∷◌, length}
use Rattle.std.proofs.Common.{set, Option, Some, None, refl, ap, ◌∙◌, arith, get_or-set_other, get_or-set_same, ◌⊎◌, inl, inr}
use Rattle.std.specs.Prelude.{slice_get}
use Rattle.std.proofs.lemmas.Option.{none-some, same_Some}
use Rattle.std.proofs.lemmas.Bool.{leb-true, leb-false, le-leb, lt-leb}
use Rattle.step_machine.specs.Below.{Actor, Outcome, Shared, aside_after}
use Rattle.step_machine.specs.Machine.{World, actor_of, after_outcome, entry_or, with_actor}
use Rattle.step_machine.specs.Places.{one_if, in_hand, in_pocket, held, set_aside}
use Rattle.step_machine.proofs.Reached.{actor_stands}
use Rattle.step_machine.proofs.Chains.{one_if_tells, one_if_same, one_if_other}

-- how often one actor holds a node
abbrev pub holds : ℕ → Actor → ℕ
holds n a = in_hand n a + in_pocket n a.pocket

pub held_set : (n : ℕ) (actors : List Actor) (k : ℕ) (a b : Actor) → slice_get actors k ≡ Some a → held n (set actors k b) + holds n a ≡ held n actors + holds n b
held_set n [] k a b e = absurd (none-some a e)
held_set n (c ∷ cs) zero a b e =
    let i : holds n c ≡ holds n a = ap (holds n) (same_Some c a e) in
    omega (arith, i)
held_set n (c ∷ cs) (suc k) a b e = omega (arith, held_set n cs k a b e)

-- an actor's nodes are among those held
pub held_one : (n : ℕ) (actors : List Actor) (k : ℕ) (a : Actor) → slice_get actors k ≡ Some a → holds n a ≤ held n actors
held_one n [] k a e = absurd (none-some a e)
held_one n (c ∷ cs) zero a e = let i : holds n c ≡ holds n a = ap (holds n) (same_Some c a e) in omega (arith, i)
held_one n (c ∷ cs) (suc k) a e = omega (arith, held_one n cs k a e)

-- those of two actors are counted both
pub held_two : (n : ℕ) (actors : List Actor) (j k : ℕ) (a b : Actor) → j ≢ k → slice_get actors j ≡ Some a → slice_get actors k ≡ Some b → holds n a + holds n b ≤ held n actors
held_two n [] j k a b d e f = absurd (none-some a e)
held_two n (c ∷ cs) zero zero a b d e f = absurd (d refl)
held_two n (c ∷ cs) zero (suc k) a b d e f =
    let i : holds n c ≡ holds n a = ap (holds n) (same_Some c a e) in omega (arith, i, held_one n cs k b f)
held_two n (c ∷ cs) (suc j) zero a b d e f =
    let i : holds n c ≡ holds n b = ap (holds n) (same_Some c b f) in omega (arith, i, held_one n cs j a e)
held_two n (c ∷ cs) (suc j) (suc k) a b d e f = omega (arith, held_two n cs j k a b (λ q. d (ap suc q)) e f)

-- how often a step sets a node aside
abbrev pub asides : ℕ → Option ℕ → ℕ
asides n None = 0
asides n (Some k) = one_if (nat_eq n k)

-- a node that was set aside was not before
abbrev pub IsNew : List Bool → Option ℕ → Type 0
IsNew flags None = Unit {0}
IsNew flags (Some k) = (1 ≤ k) × (k ≤ length flags) × (set_aside k flags ≡ 0)

pub aside_set : (n : ℕ) (flags : List Bool) (aside : Option ℕ) → 1 ≤ n → IsNew flags aside → set_aside n (aside_after flags aside) ≡ set_aside n flags + asides n aside
aside_set n flags None some new = omega arith
aside_set n flags (Some k) some new = go (one_if_tells n k)
  where
    go : ((n ≡ k) × (one_if (nat_eq n k) ≡ 1)) ⊎ ((n ≢ k) × (one_if (nat_eq n k) ≡ 0)) → set_aside n (set flags (k - 1) true) ≡ set_aside n flags + one_if (nat_eq n k)
    go (inl t) =
        let low : k - 1 < length flags = let a : 1 ≤ k = new.0 in let b : k ≤ length flags = new.1 in omega arith in
        let after : set_aside n (set flags (k - 1) true) ≡ 1 =
        ap (λ j. set_aside j (set flags (k - 1) true)) t.0 ∙ ap one_if (get_or-set_same flags (k - 1) true false low) in
        let before : set_aside n flags ≡ 0 = ap (λ j. set_aside j flags) t.0 ∙ new.2 in
        omega (arith, after, before, t.1)
    go (inr f) =
        let one : 1 ≤ k = new.0 in
        let ne : n ≢ k = f.0 in
        let other : n - 1 ≢ k - 1 = omega arith in
        let after : set_aside n (set flags (k - 1) true) ≡ set_aside n flags = ap one_if (get_or-set_other flags (k - 1) (n - 1) true false other) in
        omega (arith, after, f.1)

-- how often a node stands outside the chains
abbrev pub elsewhere : World → ℕ → ℕ
elsewhere w n = held n w.actors + set_aside n w.aside

-- after an actor was told an outcome
pub elsewhere_settled : (w : World) (me : ℕ) (a : Actor) (m : Shared) (o : Outcome) (n : ℕ) → actor_of w me ≡ Some a → 1 ≤ n → IsNew w.aside o.aside
    → elsewhere (after_outcome w me a m o) n + holds n a ≡ elsewhere w n + holds n o.actor + asides n o.aside
elsewhere_settled w me a m o n is some new =
    omega (arith, held_set n w.actors (me - 1) a (record o.actor { entry = Some (entry_or a.entry (length w.operations)) }) (actor_stands w me a is).1, aside_set n w.aside o.aside some new)

-- after an actor has another state
pub elsewhere_with : (w : World) (me : ℕ) (a b : Actor) (n : ℕ) → actor_of w me ≡ Some a → elsewhere (with_actor w me b) n + holds n a ≡ elsewhere w n + holds n b
elsewhere_with w me a b n is = omega (arith, held_set n w.actors (me - 1) a b (actor_stands w me a is).1)

-- a node that an actor holds stands there
pub elsewhere_one : (w : World) (me : ℕ) (a : Actor) (n : ℕ) → actor_of w me ≡ Some a → holds n a ≤ elsewhere w n
elsewhere_one w me a n is = omega (arith, held_one n w.actors (me - 1) a (actor_stands w me a is).1)

-- those of two actors stand there both
pub elsewhere_two : (w : World) (me you : ℕ) (a b : Actor) (n : ℕ) → me ≢ you → actor_of w me ≡ Some a → actor_of w you ≡ Some b → holds n a + holds n b ≤ elsewhere w n
elsewhere_two w me you a b n d is there =
    let p : 1 ≤ me = (actor_stands w me a is).0 in
    let q : 1 ≤ you = (actor_stands w you b there).0 in
    let other : me - 1 ≢ you - 1 = omega arith in
    omega (arith, held_two n w.actors (me - 1) (you - 1) a b other (actor_stands w me a is).1 (actor_stands w you b there).1)

-- what an actor holds, by its registers
pub holds_hand : (n : ℕ) (a : Actor) → a.holds ≡ true → a.pocket ≡ None → holds n a ≡ one_if (nat_eq n a.node)
holds_hand n a h p =
    let i : in_hand n a ≡ one_if (nat_eq n a.node) = ap (λ b. if b then one_if (nat_eq n a.node) else 0) h in
    let j : in_pocket n a.pocket ≡ 0 = ap (in_pocket n) p in
    omega (arith, i, j)

pub holds_none : (n : ℕ) (a : Actor) → a.holds ≡ false → a.pocket ≡ None → holds n a ≡ 0
holds_none n a h p =
    let i : in_hand n a ≡ 0 = ap (λ b. if b then one_if (nat_eq n a.node) else 0) h in
    let j : in_pocket n a.pocket ≡ 0 = ap (in_pocket n) p in
    omega (arith, i, j)

-- an actor with a node in its hand holds it
pub holds_own : (a : Actor) → a.holds ≡ true → a.pocket ≡ None → holds a.node a ≡ 1
holds_own a h p = holds_hand a.node a h p ∙ one_if_same a.node a.node refl

-- 1 for a node that was used, 0 for one above
abbrev pub used : ℕ → ℕ → ℕ
used n fresh = one_if (nat_le n fresh)

pub used_within : (n fresh : ℕ) → n ≤ fresh → used n fresh ≡ 1
used_within n fresh h = ap one_if (le-leb n fresh h)

pub used_above : (n fresh : ℕ) → fresh < n → used n fresh ≡ 0
used_above n fresh h = ap one_if (lt-leb n fresh h)

pub used_most : (n fresh : ℕ) → used n fresh ≤ 1
used_most n fresh = go (nat_le n fresh)
  where
    go : (b : Bool) → one_if b ≤ 1
    go true = omega arith
    go false = omega arith

-- one more node is used
pub used_more : (n fresh : ℕ) → used n (fresh + 1) ≡ used n fresh + one_if (nat_eq n (fresh + 1))
used_more n fresh = go (nat_le n fresh) refl
  where
    go : (b : Bool) → nat_le n fresh ≡ b → used n (fresh + 1) ≡ used n fresh + one_if (nat_eq n (fresh + 1))
    go true e =
        let low : n ≤ fresh = leb-true n fresh e in
        omega (arith, used_within n (fresh + 1) (omega arith), used_within n fresh low, one_if_other n (fresh + 1) (omega arith))
    go false e = pick (one_if_tells n (fresh + 1))
      where
        above : fresh < n
        above = leb-false n fresh e

        pick : ((n ≡ fresh + 1) × (one_if (nat_eq n (fresh + 1)) ≡ 1)) ⊎ ((n ≢ fresh + 1) × (one_if (nat_eq n (fresh + 1)) ≡ 0)) → used n (fresh + 1) ≡ used n fresh + one_if (nat_eq n (fresh + 1))
        pick (inl t) =
            let e : n ≡ fresh + 1 = t.0 in omega (arith, used_within n (fresh + 1) (omega arith), used_above n fresh above, t.1)
        pick (inr f) =
            let ne : n ≢ fresh + 1 = f.0 in
            let low : fresh < n = above in
            omega (arith, used_above n (fresh + 1) (omega arith), used_above n fresh low, f.1)
