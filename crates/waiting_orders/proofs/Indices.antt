-- An order of a history whose operations have their places as their points is an order of these places.
use Rattle.std.proofs.Common.{◌≡◌, ◌⊎◌, inl, inr, ℕ, zero, suc, ◌+◌, ◌<◌, Bool, true, false, nat_eq, Some, List, [], ◌∷◌, ◌++◌, length, map, slice_get, refl, sym, ap, ◌∙◌, subst, arith}
use Rattle.std.specs.Prelude.{All}
use Rattle.std.specs.List.{AllByRecursion, Contains, IsDistinct}
use Rattle.std.specs.List.Sorted.{IsPermutation}
use Rattle.std.proofs.lemmas.List.{map-append}
use Rattle.std.proofs.lemmas.List.Elements.{All-from_recursion, recursion_from_All}
use Rattle.std.proofs.lemmas.List.Sorted.{IsPermutation-map, IsPermutation-sym}
use Rattle.std.proofs.lemmas.Bool.{eq-eqb, eqb-true, eqb-false, ne_eqb}
use Rattle.std.proofs.lemmas.Bool.Decides.{Decides-eqb}
use Rattle.std.proofs.lemmas.Option.{same_Some}
use Rattle.std.proofs.lemmas.Map.Keys.{IsDistinct-IsPermutation}
use Rattle.std.proofs.lemmas.Map.Made.{AllPairs-from_IsDistinct}
use Rattle.history.specs.declared.operations.Stamped.{Stamped}
use Rattle.history.specs.History.{point_or_zero}
use Rattle.history.specs.Linearizability.{IsPending, KeepsTime}
use Rattle.history.specs.Queue.{empty}
use Rattle.waiting_orders.specs.declared.boards.Board.{Board}
use Rattle.waiting_orders.specs.declared.searching.Found.{Found}
use Rattle.waiting_orders.specs.declared.searching.Found.TheVariants.{Order, Nothing, Room}
use Rattle.waiting_orders.specs.Indexed.{indexed, picked, places_of, with_found, IsOrder}
use Rattle.waiting_orders.specs.Listed.{IsOrderOf}
use Rattle.waiting_orders.specs.Nodes.{IsBoard}
use Rattle.waiting_orders.specs.Search.{IsOrderOn, WhereOrder}
use Rattle.waiting_orders.specs.Waiting.{IsCall, IsOfQueue}
use Rattle.waiting_orders.proofs.Futures.{all_moved}
use Rattle.waiting_orders.proofs.Inserting.{all_front}
use Rattle.waiting_orders.proofs.Limits.{all_first, all_second}
use Rattle.waiting_orders.proofs.Lists.{all_joined}
use Rattle.waiting_orders.proofs.Relabelled.{bare, calls_indexed, keeps_alike, run_alike, without_indices}

-- an operation stands at its point in a history
record StandsThere (ops : List Stamped) (o : Stamped) : Type 0 where
  operation : Stamped
  there : slice_get ops (point_or_zero o.at) ≡ Some operation
  same : bare o ≡ bare operation

all_stand : (ops : List Stamped) (k : ℕ) (os : List Stamped) → ((j : ℕ) → slice_get os j ≡ slice_get ops (k + j)) → AllByRecursion (StandsThere ops) (indexed k os)
all_stand ops k [] h = tt
all_stand ops k (o ∷ os) h = (
  (let z : k + 0 ≡ k = omega arith in record { operation = o; there = subst (λ n. slice_get ops n ≡ Some o) z (sym (h 0)); same = refl }),
  all_stand ops (suc k) os (λ j. let n : k + suc j ≡ suc k + j = omega arith in h (suc j) ∙ ap (slice_get ops) n),
)

-- ---- the places of an order

within : {X : Type 0} (xs : List X) (k : ℕ) (x : X) → slice_get xs k ≡ Some x → k < length xs
within [] k x e = absurd cc
within (y ∷ xs) zero x e = omega arith
within (y ∷ xs) (suc k) x e = let h = within xs k x e in omega (arith, h)

all_there : (ops list : List Stamped) → AllByRecursion (StandsThere ops) list → AllByRecursion (λ index. index < length ops) (places_of list)
all_there ops [] h = tt
all_there ops (o ∷ list) h = (within ops (point_or_zero o.at) h.0.operation h.0.there, all_there ops list h.1)

picked_are : (ops list : List Stamped) → AllByRecursion (StandsThere ops) list → map bare list ≡ map bare (picked ops (places_of list))
picked_are ops [] h = refl
picked_are ops (o ∷ list) h =
    ap (λ l. bare o ∷ l) (picked_are ops list h.1)
    ∙ ap (λ x. x ∷ map bare (picked ops (places_of list))) h.0.same
    ∙ ap (λ x. map bare (with_found x (picked ops (places_of list)))) (sym h.0.there)

-- ---- each place once

nat_eq_flips : (x y : ℕ) → nat_eq x y ≡ nat_eq y x
nat_eq_flips x y = go (nat_eq x y) refl
  where
    go : (b : Bool) → nat_eq x y ≡ b → nat_eq x y ≡ nat_eq y x
    go true e = e ∙ sym (eq-eqb y x (sym (eqb-true x y e)))
    go false e = e ∙ sym (ne_eqb y x (λ f. eqb-false x y e (sym f)))

below_differ : (k n : ℕ) → k < n → nat_eq k n ≡ false
below_differ k n h = ne_eqb k n (λ e. omega (arith, h, e))

later_places : (k n : ℕ) → k < n → (os : List Stamped) → AllByRecursion (λ y. nat_eq k y ≡ false) (places_of (indexed n os))
later_places k n h [] = tt
later_places k n h (o ∷ os) = (below_differ k n h, later_places k (suc n) (omega (arith, h)) os)

places_apart : (k : ℕ) (os : List Stamped) → IsDistinct nat_eq (places_of (indexed k os))
unfolding IsDistinct
places_apart k [] = tt
places_apart k (o ∷ os) = (later_places k (suc k) (omega arith) os, places_apart (suc k) os)

front_apart : (xs ys : List ℕ) → IsDistinct nat_eq (xs ++ ys) → IsDistinct nat_eq xs
unfolding IsDistinct
front_apart [] ys h = tt
front_apart (x ∷ xs) ys h = (front xs h.0, front_apart xs ys h.1)
  where
    front : (zs : List ℕ) → AllByRecursion (λ y. nat_eq x y ≡ false) (zs ++ ys) → AllByRecursion (λ y. nat_eq x y ≡ false) zs
    front [] h = tt
    front (z ∷ zs) h = (h.0, front zs h.1)

-- ---- what isn't in the order

contains_there : (n m : ℕ) (ns : List ℕ) → Contains ns n → Contains (m ∷ ns) n
contains_there n m ns h = (suc h.0, (let l = h.1 in omega (arith, l)), h.2)

either : (list out : List Stamped) → AllByRecursion IsPending out → (x : Stamped) → AllByRecursion (λ y. y ≡ x → Contains (places_of list) (point_or_zero x.at) ⊎ IsPending x) (list ++ out)
either list out h x = all_joined (λ y. y ≡ x → Contains (places_of list) (point_or_zero x.at) ⊎ IsPending x) list out (inside list (λ n i. i)) (outside out h)
  where
    inside : (ys : List Stamped) → ((n : ℕ) → Contains (places_of ys) n → Contains (places_of list) n) → AllByRecursion (λ y. y ≡ x → Contains (places_of list) (point_or_zero x.at) ⊎ IsPending x) ys
    inside [] f = tt
    inside (y ∷ ys) f = (
      (λ e. inl (subst (λ y. Contains (places_of list) (point_or_zero y.at)) e (f (point_or_zero y.at) (0, omega arith, refl)))),
      inside ys (λ n i. f n (contains_there n (point_or_zero y.at) (places_of ys) i)),
    )

    outside : (ys : List Stamped) → AllByRecursion IsPending ys → AllByRecursion (λ y. y ≡ x → Contains (places_of list) (point_or_zero x.at) ⊎ IsPending x) ys
    outside [] h = tt
    outside (y ∷ ys) h = ((λ e. inr (subst IsPending e h.0)), outside ys h.1)

one_at : (P : Stamped → Type 0) (k : ℕ) (os : List Stamped) → AllByRecursion P (indexed k os) → (j : ℕ) (o : Stamped) → slice_get os j ≡ Some o → P (record o { at = Some (k + j) })
one_at P k [] h j o e = absurd cc
one_at P k (p ∷ os) h zero o e =
    let z : k ≡ k + 0 = omega arith in
    subst (λ n. P (record o { at = Some n })) z (subst (λ o. P (record o { at = Some k })) (same_Some p o e) h.0)
one_at P k (p ∷ os) h (suc j) o e = let n : suc k + j ≡ k + suc j = omega arith in subst (λ n. P (record o { at = Some n })) n (one_at P (suc k) os h.1 j o e)

-- ---- the order

order_of_places : (ops list : List Stamped) → IsOrderOf (indexed 0 ops) list → IsOrder ops (places_of list)
order_of_places ops list is =
    let l = is.linearizable in
    let all : IsPermutation (indexed 0 ops) (list ++ l.left_out) = subst (λ l. IsPermutation (indexed 0 ops) (l ++ is.linearizable.left_out)) is.is l.each_once in
    let stand = all_front (StandsThere ops) list l.left_out (all_moved (StandsThere ops) (indexed 0 ops) (list ++ l.left_out) all (all_stand ops 0 ops (λ j. let z : j ≡ 0 + j = omega arith in ap (slice_get ops) z))) in
    let same = picked_are ops list stand in
    let apart = IsDistinct-IsPermutation nat_eq nat_eq_flips (places_of (indexed 0 ops)) (places_of (list ++ l.left_out)) (IsPermutation-map (λ o. point_or_zero o.at) (indexed 0 ops) (list ++ l.left_out) all) (places_apart 0 ops) in
    record {
      there = All-from_recursion (λ index. index < length ops) (places_of list) (all_there ops list stand);
      once = AllPairs-from_IsDistinct Decides-eqb (places_of list)
          (front_apart (places_of list) (places_of l.left_out) (subst (IsDistinct nat_eq) (map-append (λ o. point_or_zero o.at) list l.left_out) apart));
      only_pending_left_out = λ index o e. pending index o (one_at (λ y. y ≡ record o { at = Some index } → Contains (places_of list) index ⊎ IsPending (record o { at = Some index })) 0 ops
          (all_moved (λ y. y ≡ record o { at = Some index } → Contains (places_of list) index ⊎ IsPending (record o { at = Some index })) (list ++ l.left_out) (indexed 0 ops) (IsPermutation-sym _ _ all)
          (either list l.left_out l.only_pending_left_out (record o { at = Some index }))) index o e (let z : 0 + index ≡ index = omega arith in ap (λ n. let p : Stamped = record o { at = Some n } in p) z));
      timely = keeps_alike list (picked ops (places_of list)) same (subst KeepsTime is.is l.timely);
      runs = run_alike empty list (picked ops (places_of list)) same is.runs;
    }
  where
    pending : (index : ℕ) (o : Stamped) → Contains (places_of list) index ⊎ IsPending (record o { at = Some index }) → Contains (places_of list) index ⊎ IsPending o
    pending index o (inl h) = inl h
    pending index o (inr h) = inr (record { not_ended = h.not_ended; not_told = h.not_told })

-- so an order that a search found is one of the history
pub is_order : (ops : List Stamped) (board : Board) → IsBoard (indexed 0 ops) board → (order : List ℕ) → IsOrderOn board order → All IsCall ops → IsOfQueue ops × IsOrder ops order
is_order ops board is order on calls =
    let all = board.others.items ++ board.pushes.items in
    let cs = calls_indexed 0 ops calls in
    let each = all_moved IsCall (indexed 0 ops) all is.all (recursion_from_All IsCall (indexed 0 ops) cs) in
    let o = on (record {
      others = is.others;
      pushes = is.pushes;
      other_calls = all_first IsCall board.others.items board.pushes.items each;
      push_calls = all_second IsCall board.others.items board.pushes.items each;
    }) (indexed 0 ops) is in
    (without_indices ops (record { calls = cs; linearizable = o.1.linearizable }), subst (IsOrder ops) (sym o.2) (order_of_places ops o.0 o.1))

pub where_order : (found : Found) (P Q : List ℕ → Type 0) → ((order : List ℕ) → P order → Q order) → WhereOrder found P → WhereOrder found Q
where_order (Order order) P Q f h = f order.items h
where_order Nothing P Q f h = tt
where_order Room P Q f h = tt
