-- What is left of a queue of which nothing was received.
use Rattle.std.proofs.Common.{◌≡◌, ◌∙◌, sym, refl, ap, subst, ℕ, ◌+◌, ◌<◌, ◌≤◌, Bool, true, false, cond, nat_eq, List, [], ◌∷◌, ◌++◌, length, map, get_or, Some, arith}
use Rattle.std.specs.Prelude.{slice_get}
use Rattle.std.specs.List.{All}
use Rattle.std.proofs.lemmas.Bool.{eq-eqb, eqb-true}
use Rattle.std.proofs.lemmas.List.{nil_from_length, length-append, length-map, map-append}
use Rattle.std.proofs.lemmas.List.Elements.{All-head, All-tail, All-pop, All-append, All-cons, All-nil}
use mathlib.Core.List.{map-map}
use Rattle.history.specs.Seats.{Permit, MayPop}
use Rattle.history.specs.Values.{OnlyPops}
use Rattle.carriers.specs.declared.items.ItemOf.{ItemOf}
use Rattle.carriers.specs.declared.rests.RestOf.{RestOf}
use Rattle.carriers.specs.Deeds.{Deed, did_push, did_pop, did_shut, own_deeds}
use Rattle.carriers.specs.Knowledge.{KnownOf, IsPermittedDeed}
use Rattle.carriers.specs.Answers.{PushedOf}
use Rattle.carriers.specs.Rests.{left_in}
use Rattle.carriers.specs.Ends.{ClosesOf}
use Rattle.carriers.specs.Deliveries.{sent, taken_of, values_of}
use Rattle.carriers.proofs.Delivering.{sent-RunsTo}

module _ {A : Type 0} where
  -- if none of these deeds, the first of which may be left out, is there, none of the others is
  none_behind : (b : Bool) (d : Deed A) (ds : List (Deed A)) → cond b (d ∷ ds) ds ≡ [] → ds ≡ []
  none_behind true d ds none = absurd (let e : d ∷ ds ≡ [] = none in cc)
  none_behind false d ds none = none

  -- where one seat alone may pop, and did nothing, nothing was taken
  nothing_taken : (giver : ℕ) (permits : List Permit) (me : ℕ) → OnlyPops permits me → (ds : List (Deed A)) → All (IsPermittedDeed permits) ds → own_deeds me ds ≡ [] → taken_of giver ds ≡ []
  nothing_taken giver permits me only [] may none = refl
  nothing_taken giver permits me only (did_push n x ∷ ds) may none =
      nothing_taken giver permits me only ds (All-tail (IsPermittedDeed permits) (did_push n x) ds may) (none_behind (nat_eq n me) (did_push n x) (own_deeds me ds) none)
  nothing_taken giver permits me only (did_shut n ∷ ds) may none =
      nothing_taken giver permits me only ds (All-tail (IsPermittedDeed permits) (did_shut n) ds may) (none_behind (nat_eq n me) (did_shut n) (own_deeds me ds) none)
  nothing_taken giver permits me only (did_pop n t ∷ ds) may none =
      let mine : nat_eq n me ≡ true = eq-eqb n me (only n (All-head (IsPermittedDeed permits) (did_pop n t) ds may)) in
      let e : did_pop n t ∷ own_deeds me ds ≡ [] = sym (ap (λ b. cond b (did_pop n t ∷ own_deeds me ds) (own_deeds me ds)) mine) ∙ none in
      absurd cc

  -- so what a seat pushed is left of it
  all_left : (permits : List Permit) (giver taker : KnownOf A) (others : List (KnownOf A)) (rest : RestOf A) → OnlyPops permits taker.number
      → ClosesOf permits (giver ∷ taker ∷ others) rest → taker.mine ≡ []
      → values_of giver.number (left_in rest) ≡ sent giver.mine
  all_left permits giver taker others rest only closed none =
      let Own = λ (k : KnownOf A). own_deeds k.number closed.history ≡ k.mine in
      let gave = All-head Own giver (taker ∷ others) closed.own in
      let took = All-head Own taker others (All-tail Own giver (taker ∷ others) closed.own) in
      let nothing = nothing_taken giver.number permits taker.number only closed.history closed.permitted (took ∙ none) in
      sym (ap (λ l. l ++ values_of giver.number (left_in rest)) nothing) ∙ sym (sent-RunsTo closed.history _ (left_in rest) closed.runs giver.number) ∙ ap sent gave

  -- of a seat of number 1 that pushed one value, of which seat 2, which alone may pop, popped nothing, that value is left
  pub first_left : (permits : List Permit) (before giver taker : KnownOf A) (others : List (KnownOf A)) (rest : RestOf A) (value : A)
      → before.number ≡ 1 → before.mine ≡ [] → PushedOf before value giver
      → taker.number ≡ 2 → taker.mine ≡ [] → ((n : ℕ) → MayPop permits n → (1 < n) × (n ≤ 1 + 1)) → ClosesOf permits (giver ∷ taker ∷ others) rest
      → slice_get (values_of 1 (left_in rest)) 0 ≡ Some value
  first_left permits before giver taker others rest value one new pushed two none only closed =
      let alone : OnlyPops permits taker.number = λ n may. let o = only n may in let low = o.0 in let high = o.1 in omega (arith, low, high, two) in
      let all = all_left permits giver taker others rest alone closed none in
      let number : giver.number ≡ 1 = pushed.number ∙ one in
      let mine : sent giver.mine ≡ value ∷ [] = ap sent (pushed.mine ∙ ap (λ l. l ++ did_push before.number value ∷ []) new) in
      ap (λ l. slice_get l 0) (ap (λ n. values_of n (left_in rest)) (sym number) ∙ all ∙ mine)

-- the first of a seat's values is that of the first element, where that is its own
pub left_one : {A : Type 0} (seat : ℕ) (item : ItemOf A) (items : List (ItemOf A)) → item.from ≡ seat → slice_get (values_of seat (item ∷ items)) 0 ≡ Some item.value
left_one seat item items its = ap (λ b. slice_get (cond b (item.value ∷ []) [] ++ values_of seat items) 0) (eq-eqb item.from seat its)

-- else they are those of the others
pub left_other : {A : Type 0} (seat : ℕ) (item : ItemOf A) (items : List (ItemOf A)) (b : Bool) → nat_eq item.from seat ≡ b → (item.from ≡ seat → ⊥)
    → values_of seat (item ∷ items) ≡ values_of seat items
left_other seat item items true e other = absurd (other (eqb-true item.from seat e))
left_other seat item items false e other = ap (λ b. cond b (item.value ∷ []) [] ++ values_of seat items) e

-- of a list that gives one value by a function, that ends with this element, this one is all, and gives that value
pub alone : {X Y : Type 0} (f : X → Y) (all rest : List X) (x : X) (y : Y) → all ≡ rest ++ x ∷ [] → map f all ≡ y ∷ [] → (rest ≡ []) × (f x ≡ y)
alone f all rest x y split same =
    let long = ap length split ∙ length-append rest (x ∷ []) in
    let mapped = length-map all f in
    let one = ap length same in
    let none = nil_from_length rest (omega (arith, long, mapped, one)) in
    let only : f x ∷ [] ≡ y ∷ [] = ap (λ r. map f (r ++ x ∷ [])) (sym none) ∙ ap (map f) (sym split) ∙ same in
    (none, ap (λ l. get_or l 0 y) only)

-- what is of one queue, and goes back to the list that it was taken from, of whose elements each is, leaves each of that queue
pub put_back : {W Q : Type 0} (of : W → Q) (q : Q) (all rest new : List W) (one more : W) → all ≡ rest ++ one ∷ [] → All (λ h. of h ≡ q) all
    → of more ≡ of one → new ≡ rest ++ more ∷ [] → All (λ h. of h ≡ q) new
put_back {W} {Q} of q all rest new one more split was same put =
    let P = λ (h : W). of h ≡ q in
    let both = All-pop P all rest (Some one) split was in
    subst (All P) (sym put) (All-append P rest (more ∷ []) both.0 (All-cons P more [] (same ∙ both.1) (All-nil P)))

-- what the seats of a waiter, of a cook and a further one know
pub known_three : {S K W R : Type 0} (known : S → K) (sits : W → S) (sat : R → S) (waiters : List W) (cooks : List R) (o : S) (w : W) (k : K)
    → waiters ≡ w ∷ [] → map (λ h. known (sat h)) cooks ≡ k ∷ []
    → map known ((map sits waiters ++ map sat cooks) ++ o ∷ []) ≡ known (sits w) ∷ k ∷ known o ∷ []
known_three known sits sat waiters cooks o w k one cook =
    ap (λ l. map known ((map sits l ++ map sat cooks) ++ o ∷ [])) one
    ∙ ap (λ l. known (sits w) ∷ l) (map-append known (map sat cooks) (o ∷ []) ∙ ap (λ l. l ++ known o ∷ []) (map-map known sat cooks ∙ cook))
