-- The two seats of a new queue.
use Rattle.std.proofs.Common.{◌≡◌, ℕ, zero, suc, ◌-◌, IsTrue, List, [], ◌∷◌, ◌++◌, length, IsSomeAnd, slice_get, sym, ap, refl, ◌∙◌, subst, arith}
use Rattle.std.proofs.lemmas.Bool.{false≢true}
use Rattle.std.proofs.lemmas.List.{length-append, length-map}
use Rattle.history.specs.Seats.{Permit, Known, MayPush, MayPop}
use Rattle.history.specs.Openings.{newcomer}
use Rattle.two_threads.specs.Duos.{giver_and_taker, AreDuo, IsDuo}

-- two that are left of a list, the last one first, are the list
two_of : {S : Type 0} (xs ys zs : List S) (a b : S) → xs ≡ ys ++ b ∷ [] → ys ≡ zs ++ a ∷ [] → length xs ≡ 2 → xs ≡ a ∷ b ∷ []
two_of xs ys [] a b e f l = e ∙ ap (λ t. t ++ b ∷ []) f
two_of xs ys (z ∷ zs) a b e f l =
    let le = ap length e in
    let lf = ap length f in
    let pe = length-append ys (b ∷ []) in
    let pf = length-append (z ∷ zs) (a ∷ []) in
    absurd (omega (arith, le, lf, pe, pf, l))

-- the first seat alone pushes
first_alone : (k : ℕ) → IsSomeAnd (slice_get giver_and_taker k) (λ p. IsTrue p.pushes) → k ≡ 0
first_alone zero h = refl
first_alone (suc zero) h = absurd (false≢true h)
first_alone (suc (suc k)) h = absurd h

-- the second one alone pops
second_alone : (k : ℕ) → IsSomeAnd (slice_get giver_and_taker k) (λ p. IsTrue p.pops) → k ≡ 1
second_alone zero h = absurd (false≢true h)
second_alone (suc zero) h = refl
second_alone (suc (suc k)) h = absurd h

pushes_alone : (n : ℕ) → MayPush giver_and_taker n → n ≡ 1
pushes_alone n h =
    let z = first_alone (n - 1) h.1 in
    let o = h.0 in
    omega (arith, z, o)

pops_alone : (n : ℕ) → MayPop giver_and_taker n → n ≡ 2
pops_alone n h =
    let z = second_alone (n - 1) h.1 in
    let o = h.0 in
    omega (arith, z, o)

module _ {Q S : Type 0} (is_seat : Q → S → Type 0) (permits : Q → List Permit) (known : S → Known) (q : Q) where
  -- there are two
  pub length-duo : (seats : List S) → AreDuo is_seat permits known q seats → length seats ≡ 2
  length-duo seats duo = sym (length-map seats known) ∙ duo.new.count ∙ ap length duo.permitted

  -- the one gives, the other takes
  pub duo_of : (a b : S) → AreDuo is_seat permits known q (a ∷ b ∷ []) → ((known a).number ≡ 1) × IsDuo is_seat permits known q a b
  duo_of a b duo =
      let one : known a ≡ newcomer 1 = duo.new.each 0 (known a) refl in
      let two : known b ≡ newcomer 2 = duo.new.each 1 (known b) refl in
      let na = ap (λ (k : Known). k.number) one in
      let nb = ap (λ (k : Known). k.number) two in (
        na,
        record {
          gives = record {
            seat = duo.each 0 a (omega arith);
            may = subst (λ n. MayPush (permits q) n) (sym na) (subst (λ ps. MayPush ps 1) (sym duo.permitted) (omega arith, refl));
            alone = λ n h. pushes_alone n (subst (λ ps. MayPush ps n) duo.permitted h) ∙ sym na;
            unused = ap (λ (k : Known). k.mine) one;
          };
          takes = record {
            seat = duo.each 1 b (omega arith);
            may = subst (λ n. MayPop (permits q) n) (sym nb) (subst (λ ps. MayPop ps 2) (sym duo.permitted) (omega arith, refl));
            unused = ap (λ (k : Known). k.mine) two;
          };
          pops = λ n h. pops_alone n (subst (λ ps. MayPop ps n) duo.permitted h) ∙ sym nb;
        },
      )

  -- the same of two seats that are the last one and the one before it
  pub duo_in : (xs ys zs : List S) (a b : S) → xs ≡ ys ++ b ∷ [] → ys ≡ zs ++ a ∷ [] → AreDuo is_seat permits known q xs → ((known a).number ≡ 1) × IsDuo is_seat permits known q a b
  duo_in xs ys zs a b e f duo = duo_of a b (subst (AreDuo is_seat permits known q) (two_of xs ys zs a b e f (length-duo xs duo)) duo)
