-- Where no actor's operations overlap, an order that keeps time has each actor's operations as the actor made them.
use Rattle.std.proofs.Common.{◌≡◌, ◌≢◌, ℕ, ◌<◌, ◌≤◌, ◌⊎◌, inl, inr, Option, None, Some, IfSome, List, [], ◌∷◌, ◌++◌, length, get_or, refl, sym, ap, subst, ◌∙◌, arith}
use Rattle.std.specs.Prelude.{IsSomeAnd, AllPairs}
use Rattle.std.specs.List.{AllByRecursion, swap}
use Rattle.std.specs.List.Sorted.{IsPermutation}
use Rattle.std.proofs.lemmas.Bool.{cases_lt, cases_eq}
use Rattle.std.proofs.lemmas.List.Edits.{Swapped, swapped_from_swap, length-swap}
use Rattle.std.proofs.lemmas.List.Elements.{All-from_recursion}
use Rattle.std.proofs.lemmas.List.Kept.{AllPairs-cons}
use Rattle.std.proofs.lemmas.List.Sorted.{IsPermutation-keeps}
use Rattle.history.specs.declared.operations.Stamped.{Stamped}
use Rattle.history.specs.Linearizability.{operations_of, IsPending, MayComeBefore, KeepsTime, IsLinearizable, EndsBefore, IsOneAtATime, KeepsOwnOrders}

-- ---- any two elements of a list, in any order of the list

module _ {X : Type 0} (R : X → X → Type 0) where
  -- a fact holds of any two elements at different places
  abbrev OfAnyTwo : List X → Type 0
  OfAnyTwo xs = (i j : ℕ) (d : X) → i ≢ j → i < length xs → j < length xs → R (get_or xs i d) (get_or xs j d)

  -- where the element at a place stood before those at a and b changed places
  abbrev Stood : (a b : ℕ) (before after : ℕ → X) → (place : ℕ) → Type 0
  Stood a b before after place =
      (s : ℕ) × (after place ≡ before s) × (((place ≡ a) × (s ≡ b)) ⊎ ((place ≡ b) × (s ≡ a)) ⊎ ((place ≢ a) × (place ≢ b) × (s ≡ place)))

  stood : (a b : ℕ) (before after : ℕ → X) → Swapped before after a b → (place : ℕ) → Stood a b before after place
  stood a b before after sw place = at_a (cases_eq place a)
    where
      at_b : place ≢ a → (place ≡ b) ⊎ (place ≢ b) → Stood a b before after place
      at_b other_a (inl e) = (a, ap after e ∙ sw.1, inr (inl (e, refl)))
      at_b other_a (inr other_b) = (place, sw.2 place other_a other_b, inr (inr (other_a, other_b, refl)))

      at_a : (place ≡ a) ⊎ (place ≢ a) → Stood a b before after place
      at_a (inl e) = (b, ap after e ∙ sw.0, inl (e, refl))
      at_a (inr other) = at_b other (cases_eq place b)

  -- two places had two places
  stood_apart : (a b i j s t : ℕ) → ((i ≡ a) × (s ≡ b)) ⊎ ((i ≡ b) × (s ≡ a)) ⊎ ((i ≢ a) × (i ≢ b) × (s ≡ i)) → ((j ≡ a) × (t ≡ b))
      ⊎ ((j ≡ b) × (t ≡ a)) ⊎ ((j ≢ a) × (j ≢ b) × (t ≡ j)) → i ≢ j → s ≢ t
  stood_apart a b i j s t p q apart same = grind (arith, p, q)

  stood_within : (a b n i s : ℕ) → ((i ≡ a) × (s ≡ b)) ⊎ ((i ≡ b) × (s ≡ a)) ⊎ ((i ≢ a) × (i ≢ b) × (s ≡ i)) → a < n → b < n → i < n → s < n
  stood_within a b n i s p in_a in_b in_i = grind (arith, p)

  any_two_swapped : (xs : List X) (a b : ℕ) → a < length xs → b < length xs → OfAnyTwo xs → OfAnyTwo (swap xs a b)
  any_two_swapped xs a b in_a in_b h i j d apart in_i in_j =
      let sw : Swapped (λ k. get_or xs k d) (λ k. get_or (swap xs a b) k d) a b = swapped_from_swap xs (swap xs a b) a b d in_a in_b refl in
      let p = stood a b (λ k. get_or xs k d) (λ k. get_or (swap xs a b) k d) sw i in
      let q = stood a b (λ k. get_or xs k d) (λ k. get_or (swap xs a b) k d) sw j in
      let long : length (swap xs a b) ≡ length xs = length-swap xs a b in
      subst (λ x. R x (get_or (swap xs a b) j d)) (sym p.1)
      (subst (R (get_or xs p.0 d)) (sym q.1)
      (h p.0 q.0 d (stood_apart a b i j p.0 q.0 p.2 q.2 apart) (stood_within a b (length xs) i p.0 p.2 in_a in_b (subst (λ n. i < n) long in_i))
      (stood_within a b (length xs) j q.0 q.2 in_a in_b (subst (λ n. j < n) long in_j))))

  -- so it holds of any two of a list with the same elements
  any_two_moved : (xs ys : List X) → OfAnyTwo xs → IsPermutation xs ys → OfAnyTwo ys
  any_two_moved xs ys h same = IsPermutation-keeps xs OfAnyTwo h any_two_swapped ys same

  -- what holds of two both ways holds of any two
  any_two : ((x y : X) → R x y → R y x) → (xs : List X) → AllPairs R xs → OfAnyTwo xs
  any_two back xs h i j d apart in_i in_j = go (cases_lt i j)
    where
      go : (i < j) ⊎ (j ≤ i) → R (get_or xs i d) (get_or xs j d)
      go (inl lt) = h i j d lt in_j
      go (inr le) = back _ _ (h j i d (omega arith) in_i)

-- ---- operations

-- of two operations, if of one actor, one ended before the other began
abbrev AreApart : Stamped → Stamped → Type 0
AreApart o p = o.actor ≡ p.actor → EndsBefore o p ⊎ EndsBefore p o

apart_back : (o p : Stamped) → AreApart o p → AreApart p o
apart_back o p h same = go (h (sym same))
  where
    go : EndsBefore o p ⊎ EndsBefore p o → EndsBefore p o ⊎ EndsBefore o p
    go (inl e) = inr e
    go (inr e) = inl e

-- a pending operation may come after any other one
all_before_pending : (o : Stamped) (os left : List Stamped) → AllByRecursion (MayComeBefore o) os → AllByRecursion IsPending left → AllByRecursion (MayComeBefore o) (os ++ left)
all_before_pending o [] [] h l = tt
all_before_pending o [] (p ∷ ps) h l =
    (subst (λ last. IfSome last (λ last. o.first ≤ last)) (sym l.0.not_ended) tt, all_before_pending o [] ps h l.1)
all_before_pending o (p ∷ ps) left h l = (h.0, all_before_pending o ps left h.1 l)

-- so those that were left out may come last
timely_to_the_end : (os left : List Stamped) → KeepsTime os → AllByRecursion IsPending left → KeepsTime (os ++ left)
timely_to_the_end [] [] h l = tt
timely_to_the_end [] (p ∷ ps) h l = (all_before_pending p [] ps tt l.1, timely_to_the_end [] ps tt l.1)
timely_to_the_end (o ∷ os) left h l = (all_before_pending o os left h.0 l, timely_to_the_end os left h.1 l)

in_time : (os : List Stamped) → KeepsTime os → AllPairs MayComeBefore os
in_time [] h = λ i j d lt within. absurd (omega arith)
in_time (o ∷ os) h =
    AllPairs-cons MayComeBefore o os (All-from_recursion (MayComeBefore o) os h.0) (in_time os h.1)

-- of two that don't overlap, the one that may come before the other ended before it
ends_first : (o p : Stamped) → MayComeBefore o p → EndsBefore o p ⊎ EndsBefore p o → EndsBefore o p
ends_first o p may (inl e) = e
ends_first o p may (inr e) = absurd (never p.last may e)
  where
    never : (last : Option ℕ) → IfSome last (λ last. o.first ≤ last) → IsSomeAnd last (λ last. last < o.first) → ⊥
    never None may e = e
    never (Some last) may e = omega arith

-- an order of what is linearizable, and behind it those left out, has each actor's operations as the actor made them
pub order_keeps_own : (ops : List Stamped) (shown : IsLinearizable ops) → IsOneAtATime ops → KeepsOwnOrders (operations_of shown.order ++ shown.left_out)
order_keeps_own ops shown apart i j d lt within same =
    let all : List Stamped = operations_of shown.order ++ shown.left_out in
    ends_first (get_or all i d) (get_or all j d)
    (in_time all (timely_to_the_end (operations_of shown.order) shown.left_out shown.timely shown.only_pending_left_out) i j d lt within)
    (any_two_moved AreApart ops all (any_two AreApart apart_back ops apart) shown.each_once i j d (λ e. omega arith) (omega arith) within same)
