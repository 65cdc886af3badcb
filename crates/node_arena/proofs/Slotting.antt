-- What each step does to the slots.
use Rattle.std.proofs.Common.{◌≡◌, ℕ, zero, suc, ◌+◌, ◌<◌, ◌⊎◌, List, [], ◌∷◌, ◌++◌, length, Some, None, sym, refl, ap, ◌∙◌, subst, inl, inr, ⊎_elim, arith}
use mathlib.Core.Option.{some, none, some-injective, some-ne-none}
use mathlib.Core.Option as maybe
use mathlib.Core.Logic.{dite}
use native.Mathlib.Decide.{ℕ_discrete}
use lib.ListN.{get_elem?}
use Rattle.node_arena.specs.Slots.{Lying, Place, free, queued, held, Home, Stands, Slotted, IsNamed, Changes}

-- by cases on whether two numbers are one
split : {P : Type 0} (i k : ℕ) → (i ≡ k → P) → (¬ (i ≡ k) → P) → P
split i k hit miss = dite (ℕ_discrete i k) hit miss

abbrev is_num : Place → ℕ
is_num free = 0
is_num (queued p) = suc (suc p)
is_num (held j) = 1

abbrev unheld : Place → ℕ
unheld free = 0
unheld (queued p) = 0
unheld (held j) = suc j

-- one slot goes to another place
pub record Moves (f : ℕ → Place) (k : ℕ) (p : Place) : Type 0 where
  pub to : ℕ → Place
  pub here : to k ≡ p
  pub aside : (i : ℕ) → ¬ (i ≡ k) → to i ≡ f i

moves : (f : ℕ → Place) (k : ℕ) (p : Place) → Moves f k p
moves f k p =
    record {
      to = λ i. dite (ℕ_discrete i k) (λ e. p) (λ e. f i);
      here = dite_here (ℕ_discrete k k);
      aside = λ i ne. dite_else (f i) (λ e. ne e) (ℕ_discrete i k);
    }
  where
    dite_here : (d : Dec (k ≡ k)) → dite d (λ e. p) (λ e. f k) ≡ p
    dite_here (yes e) = refl
    dite_here (no ne) = absurd (ne refl)

    dite_else : {i : ℕ} (q : Place) → ¬ (i ≡ k) → (d : Dec (i ≡ k)) → dite d (λ e. p) (λ e. q) ≡ q
    dite_else q ne (yes e) = absurd (ne e)
    dite_else q ne (no e) = refl

free_by : {T : Type 0} (flag : ℕ) (home : Home T) (p : Place) → Stands flag home p → flag ≡ 0 → (p ≡ free) × (home ≡ some (some None))
free_by flag home free s z = (refl, s.1)
free_by flag home (queued p) s z = absurd (omega (arith, s, z))
free_by flag home (held j) s z = absurd (omega (arith, s, z))

-- a slot that isn't free is busy
busy_by : {T : Type 0} (flag : ℕ) (home : Home T) (p : Place) → Stands flag home p → ¬ (p ≡ free) → flag ≡ 1
busy_by flag home free s ne = absurd (ne refl)
busy_by flag home (queued p) s ne = s
busy_by flag home (held j) s ne = s

queued_free : (p : ℕ) → ¬ (queued p ≡ free)
queued_free p e = let n : suc (suc p) ≡ 0 = ap is_num e in absurd (omega (arith, n))

held_free : (j : ℕ) → ¬ (held j ≡ free)
held_free j e = let n : 1 ≡ 0 = ap is_num e in absurd (omega (arith, n))

queued_held : (p j : ℕ) → ¬ (queued p ≡ held j)
queued_held p j e = let n : suc (suc p) ≡ 1 = ap is_num e in absurd (omega (arith, n))

held_same : (i j : ℕ) → held i ≡ held j → i ≡ j
held_same i j e = let n : suc i ≡ suc j = ap unheld e in omega (arith, n)

queued_same : (i j : ℕ) → queued i ≡ queued j → i ≡ j
queued_same i j e = let n : suc (suc i) ≡ suc (suc j) = ap is_num e in omega (arith, n)

-- at the back
pub at_back : {A : Type 0} (l : List A) (a b : A) (m : ℕ) → get_elem? (l ++ a ∷ []) m ≡ some b → (get_elem? l m ≡ some b) ⊎ ((m ≡ length l) × (a ≡ b))
at_back [] a b zero e = inr (refl, some-injective a b e)
at_back [] a b (suc m) e = absurd (some-ne-none b (sym e))
at_back (x ∷ xs) a b zero e = inl e
at_back (x ∷ xs) a b (suc m) e = ⊎_elim (λ h. inl h) (λ h. inr (ap suc h.0, h.1)) (at_back xs a b m e)

-- an element stays where others follow
pub at_first : {A : Type 0} (l : List A) (a b : A) (m : ℕ) → get_elem? l m ≡ some b → get_elem? (l ++ a ∷ []) m ≡ some b
at_first [] a b m e = absurd (some-ne-none b (sym e))
at_first (x ∷ xs) a b zero e = e
at_first (x ∷ xs) a b (suc m) e = at_first xs a b m e

pub at_last : {A : Type 0} (l : List A) (a : A) → get_elem? (l ++ a ∷ []) (length l) ≡ some a
at_last [] a = refl
at_last (x ∷ xs) a = at_last xs a

module _ {T : Type 0} (n : ℕ) (flag flag' : ℕ → ℕ) (home home' : ℕ → Home T) (hand hand' : ℕ → maybe.Option ℕ) (pops id k : ℕ) where
  -- all slots but one stand as before
  stand : (q : List (Lying T)) (s : Slotted n flag home hand pops q) (p : Place) (to : Moves s.place k p) → ((i : ℕ) → ¬ (i ≡ k) → flag' i ≡ flag i) → ((i : ℕ) → ¬ (i ≡ k) → home' i ≡ home i)
      → Stands (flag' k) (home' k) p → (i : ℕ) → i < n → Stands (flag' i) (home' i) (to.to i)
  stand q s p to flags homes here i lt =
      split i k
      (λ e. subst (λ (j : ℕ). Stands (flag' j) (home' j) (to.to j)) (sym e) (subst (λ r. Stands (flag' k) (home' k) r) (sym to.here) here))
      (λ ne. let P : ℕ × Home T × Place → Type 0 = λ y. Stands y.0 y.1 y.2 in subst P (λ d. (sym (flags i ne) d, sym (homes i ne) d, sym (to.aside i ne) d)) (s.stands i lt))

  -- who has another slot than this seat has it still
  still_out : (i : ℕ) → ¬ (hand id ≡ some i) → ((j : ℕ) → ¬ (j ≡ id) → hand' j ≡ hand j) → (j : ℕ) × (hand j ≡ some i) → (j : ℕ) × (hand' j ≡ some i)
  still_out i apart hands has = (has.0, hands has.0 (λ e. apart (sym (ap hand e) ∙ has.1)) ∙ has.1)

  -- a slot that is free goes to a seat
  pub acquires : (q : List (Lying T)) → Slotted n flag home hand pops q → k < n → flag k ≡ 0 → hand id ≡ none
      → Changes flag flag' k 1 → Changes home home' k (some none) → Changes hand hand' id (some k)
      → (home k ≡ some (some None)) × Slotted n flag' home' hand' pops q
  acquires q s lt down empty flags homes hands =
      let was = free_by (flag k) (home k) (s.place k) (s.stands k lt) down in
      let to = moves s.place k (held id) in
      let apart : (l : Lying T) (p : ℕ) → s.place l.slot ≡ queued p → ¬ (l.slot ≡ k) = λ l p at e. queued_free p (sym at ∙ (ap s.place e ∙ was.0)) in (
        was.1,
        record {
          place = to.to;
          stands = stand q s (held id) to flags.1 homes.1 flags.0;
          lies = λ m l at. let t = s.lies m l at in let ne = apart l (pops + m) t.1 in (t.0, to.aside l.slot ne ∙ t.1, homes.1 l.slot ne ∙ t.2);
          out = λ j i e. split j id
              (λ same. let it : k ≡ i = some-injective k i (sym hands.0 ∙ (sym (ap hand' same) ∙ e)) in (subst (λ (x : ℕ). x < n) it lt, ap to.to (sym it) ∙ (to.here ∙ ap held (sym same))))
              (λ ne. let t = s.out j i (sym (hands.1 j ne) ∙ e) in (t.0, to.aside i (λ same. held_free j (sym t.1 ∙ (ap s.place same ∙ was.0))) ∙ t.1));
          why = λ i there up. split i k
              (λ e. inl (id, hands.0 ∙ ap some (sym e)))
              (λ ne. ⊎_elim (λ (h : (j : ℕ) × (hand j ≡ some i)). inl (still_out i (λ e. some-ne-none i (sym e ∙ empty)) hands.1 h)) (λ h. inr h) (s.why i there (λ e. up (flags.1 i ne ∙ e))));
        },
      )

  -- a seat's slot, which is empty, comes home and is free
  pub releases : (q : List (Lying T)) → Slotted n flag home hand pops q → hand id ≡ some k → Changes flag flag' k 0 → Changes home home' k (some (some None)) → Changes hand hand' id none
      → Slotted n flag' home' hand' pops q
  releases q s mine flags homes hands =
      let was = s.out id k mine in
      let to = moves s.place k free in
      record {
        place = to.to;
        stands = stand q s free to flags.1 homes.1 (flags.0, homes.0);
        lies = λ m l at. let t = s.lies m l at in let ne : ¬ (l.slot ≡ k) = λ e. queued_held (pops + m) id (sym t.1 ∙ (ap s.place e ∙ was.1)) in
            (t.0, to.aside l.slot ne ∙ t.1, homes.1 l.slot ne ∙ t.2);
        out = λ j i e. split j id
            (λ same. absurd (some-ne-none i (sym e ∙ (ap hand' same ∙ hands.0))))
            (λ ne. let t = s.out j i (sym (hands.1 j ne) ∙ e) in (t.0, to.aside i (λ same. ne (held_same j id (sym t.1 ∙ (ap s.place same ∙ was.1)))) ∙ t.1));
        why = λ i there up. split i k
            (λ e. absurd (up (ap flag' e ∙ flags.0)))
            (λ ne. ⊎_elim (λ (h : (j : ℕ) × (hand j ≡ some i)). inl (still_out i (λ e. ne (some-injective i k (sym e ∙ mine))) hands.1 h)) (λ h. inr h) (s.why i there (λ e. up (flags.1 i ne ∙ e))));
      }

  -- a push: the seat's slot, with the value, comes home and lies at the back
  pub pushes : (q : List (Lying T)) → (from : ℕ) (x : T) → Slotted n flag home hand pops q → hand id ≡ some k → ((i : ℕ) → flag' i ≡ flag i)
      → Changes home home' k (some (some (Some x))) → Changes hand hand' id none
      → Slotted n flag' home' hand' pops (q ++ record { from = from; slot = k; value = x } ∷ [])
  pushes q from x s mine flags homes hands =
      let was = s.out id k mine in
      let back = pops + length q in
      let to = moves s.place k (queued back) in
      let new : Lying T = record { from = from; slot = k; value = x } in
      let up : flag' k ≡ 1 = flags k ∙ busy_by (flag k) (home k) (s.place k) (s.stands k was.0) (λ e. held_free id (sym was.1 ∙ e)) in
      let R : ℕ → Lying T → Type 0 = λ m l. (l.slot < n) × (to.to l.slot ≡ queued (pops + m)) × (home' l.slot ≡ some (some (Some l.value))) in
      record {
        place = to.to;
        stands = stand q s (queued back) to (λ i ne. flags i) homes.1 up;
        lies = λ m l at. ⊎_elim
            (λ here. let t = s.lies m l here in let ne : ¬ (l.slot ≡ k) = λ e. queued_held (pops + m) id (sym t.1 ∙ (ap s.place e ∙ was.1)) in let r :
            R m l = (t.0, to.aside l.slot ne ∙ t.1, homes.1 l.slot ne ∙ t.2) in r)
            (λ (e : (m ≡ length q) × (new ≡ l)). let r : R (length q) new = (was.0, to.here, homes.0) in subst (λ (y : ℕ × Lying T). R y.0 y.1) (λ d. (sym e.0 d, e.1 d)) r)
            (at_back q new l m at);
        out = λ j i e. split j id
            (λ same. absurd (some-ne-none i (sym e ∙ (ap hand' same ∙ hands.0))))
            (λ ne. let t = s.out j i (sym (hands.1 j ne) ∙ e) in (t.0, to.aside i (λ same. ne (held_same j id (sym t.1 ∙ (ap s.place same ∙ was.1)))) ∙ t.1));
        why = λ i there raised. split i k
            (λ e. inr (length q, new, at_last q new, sym e))
            (λ ne. ⊎_elim (λ (h : (j : ℕ) × (hand j ≡ some i)). inl (still_out i (λ e. ne (some-injective i k (sym e ∙ mine))) hands.1 h))
            (λ (h : (m : ℕ) × (l : Lying T) × (get_elem? q m ≡ some l) × (l.slot ≡ i)). inr (h.0, h.1, at_first q new h.1 h.0 h.2, h.3))
            (s.why i there (λ e. raised (flags i ∙ e))));
      }

  -- a pop: the slot at the front goes to the seat, with the value that was pushed
  pub pops_front : (q : List (Lying T)) (from : ℕ) (x : T) → Slotted n flag home hand pops (record { from = from; slot = k; value = x } ∷ q)
      → hand id ≡ none → ((i : ℕ) → flag' i ≡ flag i) → Changes home home' k (some none) → Changes hand hand' id (some k)
      → (k < n) × (home k ≡ some (some (Some x))) × Slotted n flag' home' hand' (suc pops) q
  pops_front q from x s empty flags homes hands =
      let front : Lying T = record { from = from; slot = k; value = x } in
      let was = s.lies 0 front refl in
      let to = moves s.place k (held id) in
      let up : flag' k ≡ 1 = flags k ∙ busy_by (flag k) (home k) (s.place k) (s.stands k was.0) (λ e. queued_free (pops + 0) (sym was.1 ∙ e)) in (
        was.0,
        was.2,
        record {
          place = to.to;
          stands = stand (front ∷ q) s (held id) to (λ i ne. flags i) homes.1 up;
          lies = λ m l at. let t = s.lies (suc m) l at in let ne : ¬ (l.slot ≡ k) =
              λ e. (let same = queued_same (pops + suc m) (pops + 0) (sym t.1 ∙ (ap s.place e ∙ was.1)) in absurd (omega (arith, same))) in
              (t.0, to.aside l.slot ne ∙ (t.1 ∙ ap queued (let e : pops + suc m ≡ suc pops + m = omega arith in e)), homes.1 l.slot ne ∙ t.2);
          out = λ j i e. split j id
              (λ same. let it : k ≡ i = some-injective k i (sym hands.0 ∙ (sym (ap hand' same) ∙ e)) in (subst (λ (y : ℕ). y < n) it was.0, ap to.to (sym it) ∙ (to.here ∙ ap held (sym same))))
              (λ ne. let t = s.out j i (sym (hands.1 j ne) ∙ e) in (t.0, to.aside i (λ same. queued_held (pops + 0) j (sym was.1 ∙ (ap s.place (sym same) ∙ t.1))) ∙ t.1));
          why = λ i there raised. split i k
              (λ e. inl (id, hands.0 ∙ ap some (sym e)))
              (λ ne. ⊎_elim (λ (h : (j : ℕ) × (hand j ≡ some i)). inl (still_out i (λ e. some-ne-none i (sym e ∙ empty)) hands.1 h))
              (λ (h : (m : ℕ) × (l : Lying T) × (get_elem? (front ∷ q) m ≡ some l) × (l.slot ≡ i)). later i ne h.0 h.1 h.2 h.3)
              (s.why i there (λ e. raised (flags i ∙ e))));
        },
      )
    where
      later : (i : ℕ) → ¬ (i ≡ k) → (m : ℕ) (l : Lying T) → get_elem? (record { from = from; slot = k; value = x } ∷ q) m ≡ some l → l.slot ≡ i → IsNamed hand' q i
      later i ne zero l got is = absurd (ne (sym is ∙ ap (λ (y : Lying T). y.slot) (sym (some-injective (record { from = from; slot = k; value = x }) l got))))
      later i ne (suc m) l got is = inr (m, l, got, is)
