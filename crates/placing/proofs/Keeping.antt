-- What a reason names stays in the queue: the value of one push and its later take, or values that no pop was told.
use Rattle.std.proofs.Common.{◌≡◌, inl, inr, ℕ, zero, suc, ◌+◌, ◌-◌, ◌*◌, ◌≤◌, ◌<◌, Bool, true, false, ◌&&◌, nat_eq, nat_le, nat_lt, Option, None}
use Rattle.std.proofs.Common.{Some, List, [], ◌∷◌, length, slice_get, get_or, refl, sym, ap, ◌∙◌, subst, arith}
use Rattle.std.specs.List.{sum_by, AllByRecursion, Contains}
use Rattle.std.proofs.lemmas.Bool.{eqb-true, lt-ltb}
use Rattle.std.proofs.lemmas.Option.{slice_get_within, get_or_from_slice_get}
use Rattle.std.proofs.lemmas.List.Sums.{sum_by-cons, get_or-le-sum_by, sum_by-le}
use Rattle.std.proofs.lemmas.List.Elements.{recursion_from_All}
use Rattle.history.specs.declared.operations.Taken.{Taken}
use Rattle.history.specs.declared.operations.Reply.{Reply}
use Rattle.history.specs.declared.operations.Reply.TheVariants.{Done, Value, Empty, Refused}
use Rattle.history.specs.declared.operations.Stamped.{Stamped}
use Rattle.placing.specs.declared.answers.Held.{Held}
use Rattle.placing.specs.declared.answers.Held.TheVariants.{Value as OneValue, Left}
use Rattle.placing.specs.Kinds.{Kind, same_value, is_told_in, pushes_in, ended_before, pushes_ended_before, takes_begun_by, takes_of, left_in}
use Rattle.placing.specs.Reasons.{StandsAt, IsTakenLater, RisesFrom, IsLeft, AreLeft, IsHeld}
use Rattle.placing.proofs.Runs.{one_if, same_itself}
use Rattle.placing.proofs.Staying.{Stays, push_ended_before, take_begun_by, take_begun_after}

-- ---- an operation at a place

-- what an operation of a list counts, all do at least
pub counts_at : (f : Stamped → ℕ) (ops : List Stamped) (place : ℕ) (o : Stamped) → StandsAt ops place o → f o ≤ sum_by f ops
counts_at f ops place o h =
    let e : get_or ops (place - 1) o ≡ o = get_or_from_slice_get ops (place - 1) o o h.there in
    subst (λ x. f x ≤ sum_by f ops) e (get_or-le-sum_by f ops (place - 1) o (slice_get_within ops (place - 1) o h.there))

-- an operation at a place is one of the list
pub contained : (ops : List Stamped) (place : ℕ) (o : Stamped) → StandsAt ops place o → Contains ops o
contained ops place o h = (place - 1, slice_get_within ops (place - 1) o h.there, get_or_from_slice_get ops (place - 1) o o h.there)

-- what is so twice counts one
pub both : (a b : Bool) → a ≡ true → b ≡ true → one_if (a && b) ≡ 1
both true true e d = refl
both false b e d = absurd (let x : false ≡ true = e in cc)
both true false e d = absurd (let x : false ≡ true = d in cc)

-- ---- one value

-- a value whose one push ended before a time, and that is taken by a pop that began after another, stays
taken_later_stays : (ops : List Stamped) (from until push take : ℕ) (h : IsTakenLater ops from until push take) → Stays ops from until (same_value h.value)
taken_later_stays ops from until push take h =
    let kind : Kind = same_value h.value in
    let pushed = counts_at (push_ended_before from kind) ops push h.pushing h.push_stands in
    let one : push_ended_before from kind h.pushing ≡ 1 = both (pushes_in kind h.pushing) (ended_before from h.pushing.last) h.pushes h.ended in
    let taken = counts_at (take_begun_after until kind) ops take h.taking h.take_stands in
    let another : take_begun_after until kind h.taking ≡ 1 = both (is_told_in kind h.taking.reply) (nat_lt until h.taking.first) h.takes (lt-ltb _ _ h.after) in
    let only = h.only in
    inr (omega (arith, pushed, one, taken, another, only))

-- ---- values that no pop was told

-- what a pop was told isn't left
told_not_left : (ops : List Stamped) (k : ℕ) (d : Stamped) → k < length ops → is_told_in (left_in ops) (get_or ops k d).reply ≡ false
told_not_left ops k d lt = go (get_or ops k d).reply refl
  where
    told : (v : Taken) → (get_or ops k d).reply ≡ Some (Value v) → 1 ≤ takes_of (same_value v) ops
    told v r =
        let f : Stamped → ℕ = λ p. one_if (is_told_in (same_value v) p.reply) in
        let one : f (get_or ops k d) ≡ 1 = ap (λ x. one_if (is_told_in (same_value v) x)) r ∙ ap one_if (same_itself v) in
        let most : f (get_or ops k d) ≤ sum_by f ops = get_or-le-sum_by f ops k d lt in
        omega (arith, one, most)

    positive : (n : ℕ) → 1 ≤ n → (b : Bool) → nat_eq n 0 ≡ b → b ≡ false
    positive n h false e = refl
    positive n h true e = let z : n ≡ 0 = eqb-true n 0 e in absurd (omega arith)

    go : (reply : Option Reply) → (get_or ops k d).reply ≡ reply → is_told_in (left_in ops) reply ≡ false
    go None r = refl
    go (Some Done) r = refl
    go (Some (Value v)) r = positive (takes_of (same_value v) ops) (told v r) (nat_eq (takes_of (same_value v) ops) 0) refl
    go (Some Empty) r = refl
    go (Some (Refused refusal)) r = refl

no_first : (a b : Bool) → a ≡ false → one_if (a && b) ≤ 0
no_first false b e = omega arith
no_first true b e = absurd (let x : true ≡ false = e in cc)

none_taken : (time : ℕ) (ops : List Stamped) → takes_begun_by time (left_in ops) ops ≤ 0
none_taken time ops =
    let k : sum_by (take_begun_by time (left_in ops)) ops ≤ length ops * 0 = sum_by-le (take_begun_by time (left_in ops)) 0 ops
    (λ k d lt. no_first (is_told_in (left_in ops) (get_or ops k d).reply) (nat_le (get_or ops k d).first time) (told_not_left ops k d lt)) in
    omega (arith, k)

-- an operation of the rest of a list, whose places are counted on from a number, counts
abbrev pub CountsOn : (Stamped → ℕ) → List Stamped → ℕ → ℕ → Type 0
CountsOn f os past place = (o : Stamped) × (n : ℕ) × (place ≡ past + 1 + n) × (slice_get os n ≡ Some o) × (1 ≤ f o)

rises_from_less : (less more : ℕ) → less ≤ more → (places : List ℕ) → RisesFrom more places → RisesFrom less places
rises_from_less less more h [] r = tt
rises_from_less less more h (p ∷ ps) r = let k = r.0 in (omega (arith, k), r.1)

counts_later : (f : Stamped → ℕ) (o : Stamped) (os : List Stamped) (past place : ℕ) → past + 1 < place → CountsOn f (o ∷ os) past place → CountsOn f os (past + 1) place
counts_later f o os past place more (p, zero, e, g, c) = absurd (let d : place ≡ past + 1 + 0 = e in omega (arith, d))
counts_later f o os past place more (p, suc n, e, g, c) = (p, n, (let d : place ≡ past + 1 + suc n = e in omega (arith, d)), g, c)

all_count_later : (f : Stamped → ℕ) (o : Stamped) (os : List Stamped) (past : ℕ) (places : List ℕ) → RisesFrom (past + 1) places
    → AllByRecursion (CountsOn f (o ∷ os) past) places → AllByRecursion (CountsOn f os (past + 1)) places
all_count_later f o os past [] r h = tt
all_count_later f o os past (p ∷ ps) r h =
    let k = r.0 in
    (counts_later f o os past p k h.0, all_count_later f o os past ps (rises_from_less (past + 1) p (omega (arith, k)) ps r.1) h.1)

one_more : (length_of one all rest : ℕ) → all ≡ one + rest → 1 ≤ one → length_of ≤ rest → length_of + 1 ≤ all
one_more length_of one all rest e h k = omega arith

-- places that rise, of operations that each count, are no more than all count
pub rising_count : (f : Stamped → ℕ) (os : List Stamped) (past : ℕ) (places : List ℕ) → RisesFrom past places → AllByRecursion (CountsOn f os past) places → length places ≤ sum_by f os
rising_count f os past [] r h = omega arith
rising_count f [] past (p ∷ ps) r h = absurd (let e : None ≡ Some h.0.0 = h.0.3 in cc)
rising_count f (o ∷ os) past (p ∷ ps) r h =
    go h.0.1 refl (λ here. rising_count f os (past + 1) ps (later here) (all_count_later f o os past ps (later here) h.1))
    (λ n next. let k = r.0 in rising_count f os (past + 1) (p ∷ ps) (behind n next, r.1) (all_count_later f o os past (p ∷ ps) (behind n next, r.1) h))
  where
    later : h.0.1 ≡ 0 → RisesFrom (past + 1) ps
    later here = let e = h.0.2 in rises_from_less (past + 1) p (omega (arith, e, here)) ps r.1

    behind : (n : ℕ) → h.0.1 ≡ suc n → past + 1 < p
    behind n next = let e = h.0.2 in omega (arith, e, next)

    go : (n : ℕ) → h.0.1 ≡ n → (h.0.1 ≡ 0 → length ps ≤ sum_by f os) → ((m : ℕ) → h.0.1 ≡ suc m → length (p ∷ ps) ≤ sum_by f os) → length (p ∷ ps) ≤ sum_by f (o ∷ os)
    go zero e first rest =
        let same : o ≡ h.0.0 = (let g : Some o ≡ Some h.0.0 = subst (λ n. slice_get (o ∷ os) n ≡ Some h.0.0) e h.0.3 in cc) in
        let one : 1 ≤ f o = subst (λ x. 1 ≤ f x) (sym same) h.0.4 in
        let k = first e in
        let d = sum_by-cons f o os in
        omega (arith, one, k, d)
    go (suc m) e first rest =
        let k = rest m e in
        let d = sum_by-cons f o os in
        omega (arith, k, d)

all_left_count : (ops : List Stamped) (time : ℕ) (places : List ℕ) → AllByRecursion (IsLeft ops time) places → AllByRecursion (CountsOn (push_ended_before time (left_in ops)) ops 0) places
all_left_count ops time [] h = tt
all_left_count ops time (p ∷ ps) h =
    let o = h.0.operation in
    let from_one = h.0.stands.from_one in
    let one : push_ended_before time (left_in ops) o ≡ 1 = both (pushes_in (left_in ops) o) (ended_before time o.last) h.0.pushes h.0.ended in
    ((o, p - 1, omega (arith, from_one), h.0.stands.there, omega (arith, one)), all_left_count ops time ps h.1)

-- values that no pop was told stay, where they are more than the pending pops
pub left_stays : (ops : List Stamped) (from until : ℕ) (places : List ℕ) → AreLeft ops from until places → Stays ops from until (left_in ops)
left_stays ops from until places h =
    let none = none_taken until ops in
    let pushed : length places ≤ pushes_ended_before from (left_in ops) ops =
    rising_count (push_ended_before from (left_in ops)) ops 0 places h.rise (all_left_count ops from places (recursion_from_All (IsLeft ops from) places h.each)) in
    let more = h.more in
    inl (omega (arith, none, pushed, more))

-- what a reason names is of a kind that stays
pub held_stays : (ops : List Stamped) (from until : ℕ) (held : Held) → IsHeld ops from until held → (kind : Kind) × Stays ops from until kind
held_stays ops from until (OneValue push take) h = (same_value h.value, taken_later_stays ops from until push take h)
held_stays ops from until (Left places) h = (left_in ops, left_stays ops from until places.items h)
