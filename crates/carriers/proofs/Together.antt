-- What all seats did, together.
use Rattle.std.proofs.Common.{◌≡◌, ◌∙◌, inl, inr, sym, refl, ap, subst, ℕ, zero, suc, Bool, true, false, cond, nat_eq, List, [], ◌∷◌, ◌++◌, map, append_assoc, true≢false, IsTrue, IsSomeAnd, slice_get}
use Rattle.std.specs.List.{All, AllByRecursion, IsDistinct, flat_map}
use Rattle.std.specs.List.Sorted.{IsPermutation}
use Rattle.std.proofs.lemmas.Bool.{eq-eqb}
use Rattle.std.proofs.lemmas.Bool.Decides.{eqb_tells}
use Rattle.std.proofs.lemmas.List.Elements.{All-head, All-tail, All-weaker}
use Rattle.std.proofs.lemmas.List.Sorted.{IsPermutation-refl, IsPermutation-sym, IsPermutation-trans, IsPermutation-append_comm, IsPermutation-append_left, IsPermutation-append_right}
use Rattle.std.proofs.lemmas.Map.Keys.{IsDistinct-head, IsDistinct-tail}
use Rattle.history.specs.Seats.{Permit}
use Rattle.carriers.specs.declared.rests.RestOf.{RestOf}
use Rattle.carriers.specs.Deeds.{Deed, doer_of, own_deeds}
use Rattle.carriers.specs.Values.{value_pushed, value_popped, values_pushed, values_popped}
use Rattle.carriers.specs.Knowledge.{KnownOf}
use Rattle.carriers.specs.Rests.{left_in, whole_in, was_shut_in}
use Rattle.carriers.specs.Ends.{IsOfOneOf, ClosesOf}
use Rattle.carriers.proofs.Running.{pushed-RunsTo}
use Rattle.carriers.specs.Together.{pushed_by, popped_by}

-- lists are the same in any order
same_order : {X : Type 0} (xs ys : List X) → xs ≡ ys → IsPermutation xs ys
same_order xs ys h = subst (IsPermutation xs) h (IsPermutation-refl xs)

-- what stands behind a list may stand before it
pub to_front : {X : Type 0} (xs ys zs : List X) → IsPermutation (xs ++ (ys ++ zs)) (ys ++ (xs ++ zs))
to_front xs ys zs =
    subst (λ l. IsPermutation l (ys ++ (xs ++ zs))) (append_assoc xs ys zs)
    (subst (IsPermutation ((xs ++ ys) ++ zs)) (append_assoc ys xs zs) (IsPermutation-append_left zs (xs ++ ys) (ys ++ xs) (IsPermutation-append_comm xs ys)))

module _ {A Y : Type 0} (f : Deed A → List Y) where
  -- what the deeds of seats with these numbers give, seat by seat
  abbrev parts : List ℕ → List (Deed A) → List Y
  parts ns ds = flat_map (λ n. flat_map f (own_deeds n ds)) ns

  no_parts : (ns : List ℕ) → parts ns [] ≡ []
  no_parts [] = refl
  no_parts (n ∷ ns) = no_parts ns

  -- a deed of another seat gives nothing to these
  others_part : (d : Deed A) (ds : List (Deed A)) (ns : List ℕ) → AllByRecursion (λ n. nat_eq (doer_of d) n ≡ false) ns → parts ns (d ∷ ds) ≡ parts ns ds
  others_part d ds [] h = refl
  others_part d ds (n ∷ ns) h =
      ap (λ (b : Bool). flat_map f (cond b (d ∷ own_deeds n ds) (own_deeds n ds)) ++ parts ns (d ∷ ds)) h.0
      ∙ ap (λ l. flat_map f (own_deeds n ds) ++ l) (others_part d ds ns h.1)

  -- a deed gives once what it gives to the seat that did it
  one_part : (d : Deed A) (ds : List (Deed A)) (ns : List ℕ) → IsDistinct nat_eq ns → (i : ℕ) → IsSomeAnd (slice_get ns i) (λ n. doer_of d ≡ n) → IsPermutation (f d ++ parts ns ds) (parts ns (d ∷ ds))
  one_part d ds [] apart i h = absurd h
  one_part d ds (n ∷ ns) apart zero h =
      let mine : nat_eq (doer_of d) n ≡ true = subst (λ m. nat_eq (doer_of d) m ≡ true) h (eq-eqb (doer_of d) (doer_of d) refl) in
      let others = subst (λ m. AllByRecursion (λ k. nat_eq m k ≡ false) ns) (sym h) (IsDistinct-head nat_eq n ns apart) in
      same_order (f d ++ parts (n ∷ ns) ds) (parts (n ∷ ns) (d ∷ ds))
      (sym (append_assoc (f d) (flat_map f (own_deeds n ds)) (parts ns ds))
      ∙ ap (λ l. flat_map f (d ∷ own_deeds n ds) ++ l) (sym (others_part d ds ns others))
      ∙ ap (λ (b : Bool). flat_map f (cond b (d ∷ own_deeds n ds) (own_deeds n ds)) ++ parts ns (d ∷ ds)) (sym mine))
  one_part d ds (n ∷ ns) apart (suc i) h =
      let rest = IsPermutation-append_right (flat_map f (own_deeds n ds)) (f d ++ parts ns ds) (parts ns (d ∷ ds)) (one_part d ds ns (IsDistinct-tail nat_eq n ns apart) i h) in
      let less = not_mine d ns n i h (IsDistinct-head nat_eq n ns apart) in
      IsPermutation-trans (f d ++ parts (n ∷ ns) ds) (flat_map f (own_deeds n ds) ++ (f d ++ parts ns ds)) (parts (n ∷ ns) (d ∷ ds))
      (to_front (f d) (flat_map f (own_deeds n ds)) (parts ns ds))
      (subst (λ (b : Bool). IsPermutation (flat_map f (own_deeds n ds) ++ (f d ++ parts ns ds)) (flat_map f (cond b (d ∷ own_deeds n ds) (own_deeds n ds)) ++ parts ns (d ∷ ds))) (sym less) rest)
    where
      not_mine : (d : Deed A) (ns : List ℕ) (n i : ℕ) → IsSomeAnd (slice_get ns i) (λ m. doer_of d ≡ m) → AllByRecursion (λ k. nat_eq n k ≡ false) ns → nat_eq (doer_of d) n ≡ false
      not_mine d [] n i h apart = absurd h
      not_mine d (m ∷ ms) n zero h apart =
          elim (eqb_tells (doer_of d) n) [
            | inl e ↦ absurd (true≢false (sym (eq-eqb n m (sym e.1 ∙ h)) ∙ apart.0))
            | inr e ↦ e.0
          ]
      not_mine d (m ∷ ms) n (suc i) h apart = not_mine d ms n i h apart.1

  -- what all deeds give is what the deeds of each seat give, together
  pub all_parts : (ns : List ℕ) → IsDistinct nat_eq ns → (ds : List (Deed A)) → All (λ d. (i : ℕ) × IsSomeAnd (slice_get ns i) (λ n. doer_of d ≡ n)) ds → IsPermutation (flat_map f ds) (parts ns ds)
  all_parts ns apart [] h = same_order [] (parts ns []) (sym (no_parts ns))
  all_parts ns apart (d ∷ ds) h =
      let P = λ (d : Deed A). (i : ℕ) × IsSomeAnd (slice_get ns i) (λ n. doer_of d ≡ n) in
      let one = All-head P d ds h in
      IsPermutation-trans (f d ++ flat_map f ds) (f d ++ parts ns ds) (parts ns (d ∷ ds))
      (IsPermutation-append_right (f d) (flat_map f ds) (parts ns ds) (all_parts ns apart ds (All-tail P d ds h)))
      (one_part d ds ns apart one.0 one.1)

  -- the same by what each seat did
  seats_parts : (ds : List (Deed A)) (ks : List (KnownOf A)) → All (λ k. own_deeds k.number ds ≡ k.mine) ks
      → parts (map (λ (k : KnownOf A). k.number) ks) ds ≡ flat_map (λ (k : KnownOf A). flat_map f k.mine) ks
  seats_parts ds [] h = refl
  seats_parts ds (k ∷ ks) h =
      ap (λ l. flat_map f l ++ parts (map (λ (k : KnownOf A). k.number) ks) ds) (All-head (λ (k : KnownOf A). own_deeds k.number ds ≡ k.mine) k ks h)
      ∙ ap (λ l. flat_map f k.mine ++ l) (seats_parts ds ks (All-tail (λ (k : KnownOf A). own_deeds k.number ds ≡ k.mine) k ks h))

  number_at : (d : Deed A) (ks : List (KnownOf A)) → IsOfOneOf ks d → (i : ℕ) × IsSomeAnd (slice_get (map (λ (k : KnownOf A). k.number) ks) i) (λ n. doer_of d ≡ n)
  number_at d ks h = (h.0, there ks h.0 h.1)
    where
      there : (ks : List (KnownOf A)) (i : ℕ) → IsSomeAnd (slice_get ks i) (λ k. doer_of d ≡ k.number) → IsSomeAnd (slice_get (map (λ (k : KnownOf A). k.number) ks) i) (λ n. doer_of d ≡ n)
      there [] i h = absurd h
      there (k ∷ ks) zero h = h
      there (k ∷ ks) (suc i) h = there ks i h

  pub by_seats : (ds : List (Deed A)) (ks : List (KnownOf A)) → IsDistinct nat_eq (map (λ (k : KnownOf A). k.number) ks) → All (λ k. own_deeds k.number ds ≡ k.mine) ks → All (IsOfOneOf ks) ds
      → IsPermutation (flat_map f ds) (flat_map (λ (k : KnownOf A). flat_map f k.mine) ks)
  by_seats ds ks apart own theirs =
      subst (IsPermutation (flat_map f ds)) (seats_parts ds ks own)
      (all_parts (map (λ (k : KnownOf A). k.number) ks) apart ds (All-weaker (IsOfOneOf ks)
      (λ d. (i : ℕ) × IsSomeAnd (slice_get (map (λ (k : KnownOf A). k.number) ks) i) (λ n. doer_of d ≡ n)) (λ d. number_at d ks) ds theirs))

module _ {A : Type 0} where
  -- each value that these seats pushed was popped by one of them, or is left, once
  pub handed_over_once : (permits : List Permit) (ks : List (KnownOf A)) (rest : RestOf A) → ClosesOf permits ks rest → IsTrue (whole_in rest)
      → IsDistinct nat_eq (map (λ (k : KnownOf A). k.number) ks)
      → IsPermutation (pushed_by ks) (popped_by ks ++ left_in rest)
  handed_over_once permits ks rest closed whole apart =
      let h = closed.history in
      let theirs = closed.theirs whole in
      let pushed = by_seats value_pushed h ks apart closed.own theirs in
      let popped = by_seats value_popped h ks apart closed.own theirs in
      IsPermutation-trans (pushed_by ks) (values_pushed h) (popped_by ks ++ left_in rest)
      (IsPermutation-sym (values_pushed h) (pushed_by ks) pushed)
      (subst (λ l. IsPermutation l (popped_by ks ++ left_in rest)) (sym (pushed-RunsTo h (was_shut_in rest) (left_in rest) closed.runs))
      (IsPermutation-append_left (left_in rest) (values_popped h) (popped_by ks) popped))
