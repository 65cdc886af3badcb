-- The worked histories: what those that are runs lead to, and why the others aren't.
use Rattle.std.proofs.Common.{arith, ◌≡◌, ◌∙◌, refl, ap, ℕ, Bool, true, false, List, [], ◌∷◌}
use Rattle.carriers.specs.declared.items.ItemOf.{ItemOf}
use Rattle.carriers.specs.Deeds.{item, RunsTo, IsRun}
use Rattle.carriers.specs.SmallRuns.{handed_over, told_apart, popped_from_nothing, popped_from_behind, popped_another, popped_as_anothers, popped_twice, pushed_behind_a_shut, shut_twice}

-- whether there are values, and who pushed the front one, and what it is
abbrev is_some_list : List (ItemOf ℕ) → Bool
is_some_list [] = false
is_some_list (x ∷ xs) = true

abbrev rest_of : List (ItemOf ℕ) → List (ItemOf ℕ)
rest_of [] = []
rest_of (x ∷ xs) = xs

abbrev front_from : List (ItemOf ℕ) → ℕ
front_from [] = 0
front_from (x ∷ xs) = x.from

abbrev front_value : List (ItemOf ℕ) → ℕ
front_value [] = 0
front_value (x ∷ xs) = x.value

pub handed_over-runs : RunsTo handed_over true []
handed_over-runs = (refl, (refl, (item 2 7 ∷ [], refl, (refl, ([], refl, (refl, refl))))))

pub told_apart-runs : RunsTo told_apart false (item 1 5 ∷ [])
told_apart-runs = (refl, (refl, (item 1 5 ∷ [], refl, (refl, refl))))

-- nothing stands at the front of an empty queue
pub popped_from_nothing-fails : ¬ IsRun popped_from_nothing
popped_from_nothing-fails run = absurd (let e : false ≡ true = ap is_some_list run.2.1 in cc)

pub popped_from_behind-fails : ¬ IsRun popped_from_behind
popped_from_behind-fails run = absurd (let e : 5 ≡ 7 = ap front_value run.2.1.1.1 in omega (arith, e))

pub popped_another-fails : ¬ IsRun popped_another
popped_another-fails run = absurd (let e : 5 ≡ 6 = ap front_value run.2.1.1 in omega (arith, e))

pub popped_as_anothers-fails : ¬ IsRun popped_as_anothers
popped_as_anothers-fails run = absurd (let e : 1 ≡ 2 = ap front_from run.2.1.1 in omega (arith, e))

-- nor of one that was emptied
pub popped_twice-fails : ¬ IsRun popped_twice
popped_twice-fails run =
    let first = run.2.1 in
    let left : [] ≡ first.0 = ap rest_of first.1 in
    let none : first.0 ≡ item 1 5 ∷ first.2.0 = first.2.1 in
    absurd (let e : false ≡ true = ap is_some_list left ∙ ap is_some_list none in cc)

-- a queue that is shut isn't open
pub pushed_behind_a_shut-fails : ¬ IsRun pushed_behind_a_shut
pushed_behind_a_shut-fails run = absurd (let e : true ≡ false = run.2.1.1.0 in cc)

pub shut_twice-fails : ¬ IsRun shut_twice
shut_twice-fails run = absurd (let e : true ≡ false = run.2.1.0 in cc)
