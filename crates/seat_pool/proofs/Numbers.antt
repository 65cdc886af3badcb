-- Parts and their numbers, and the words of places.
use Rattle.std.proofs.Common.{◌≡◌, ℕ, zero, suc, ◌+◌, ◌<◌, List, [], ◌∷◌, ◌++◌, ◌↔◌, Bool, IsTrue, map, take, length, get_or, refl, sym, ap, ◌∙◌, subst, suc-ne-zero, arith, length-append}
use Rattle.std.proofs.Math.ListN.{get_or-append}
use Rattle.std.proofs.Math.Seq.{get_or-append_seam, take-suc}
use Rattle.std.proofs.lemmas.List.{map-append}
use native.Mathlib.Decide.{ℕ_discrete}
use mathlib.Core.Logic.{dite}
use Rattle.history.specs.Seats.{Permit, MayPush, MayPop}
use Rattle.seat_pool.specs.declared.parts.Part.{Part}
use Rattle.seat_pool.specs.declared.parts.Part.TheVariants.{Giver, Taker, Both, Neither}
use Rattle.seat_pool.specs.Parts.{number_of, pushes, pops, HasPart}
use Rattle.seat_pool.specs.Words.{AreWords}

abbrev back : ℕ → Part
back (suc zero) = Giver
back (suc (suc zero)) = Taker
back (suc (suc (suc zero))) = Both
back n = Neither

there : (p : Part) → back (number_of p) ≡ p
there Giver = refl
there Taker = refl
there Both = refl
there Neither = refl

-- a number is that of one part
pub one_part : (p q : Part) → number_of p ≡ number_of q → p ≡ q
one_part p q e = sym (there p) ∙ ap back e ∙ there q

-- 0 is the number of none
pub no_part : (p : Part) → 0 ≡ number_of p → ⊥
no_part Giver e = suc-ne-zero 0 (sym e)
no_part Taker e = suc-ne-zero 1 (sym e)
no_part Both e = suc-ne-zero 2 (sym e)
no_part Neither e = suc-ne-zero 3 (sym e)

-- one more seat
pub words-push : (permits : List Permit) (numbers words : List ℕ) (n : ℕ) (p : Part)
    → AreWords permits numbers words → HasPart permits n p → AreWords permits (numbers ++ n ∷ []) (words ++ number_of p ∷ [])
words-push permits numbers words n p a has = record {
  sized = omega (arith, length-append words (number_of p ∷ []), length-append numbers (n ∷ []), a.sized);
  parts = λ i l. dite (ℕ_discrete i (length words))
      (λ e. (
        p,
        subst (λ k. get_or (words ++ number_of p ∷ []) k 0 ≡ number_of p) (sym e) (get_or-append_seam words (number_of p) [] 0),
        subst (λ k. HasPart permits k p) (sym (ap (λ k. get_or (numbers ++ n ∷ []) k 0) (e ∙ a.sized) ∙ get_or-append_seam numbers n [] 0)) has,
      ))
      (λ other. let near : i < length words = omega (arith, l, length-append words (number_of p ∷ []), other) in let near' : i < length numbers =
      omega (arith, near, a.sized) in let old = a.parts i near in (
        old.0,
        get_or-append words (number_of p ∷ []) 0 i near ∙ old.1,
        subst (λ k. HasPart permits k old.0) (sym (get_or-append numbers (n ∷ []) 0 i near')) old.2,
      ));
}

-- the part of a seat that may push and pop as was told
pub has_part : (permits : List Permit) (n : ℕ) (p : Part) (b c : Bool) → pushes p ≡ b → pops p ≡ c → IsTrue b ↔ MayPush permits n → IsTrue c ↔ MayPop permits n → HasPart permits n p
has_part permits n p b c e f g h = ((λ m. e ∙ g.1 m, λ t. g.0 (sym e ∙ t)), (λ m. f ∙ h.1 m, λ t. h.0 (sym f ∙ t)))

-- one more seat of a list
pub words-next : {S : Type 0} (permits : List Permit) (number : S → ℕ) (seats : List S) (i j : ℕ) (seat : S) (words words' : List ℕ) (p : Part) (word : ℕ)
    → j ≡ i + 1 → i < length seats → seat ≡ get_or seats i seat → word ≡ number_of p → words' ≡ words ++ word ∷ [] → HasPart permits (number seat) p
    → AreWords permits (map number (take i seats)) words → AreWords permits (map number (take j seats)) words'
words-next permits number seats i j seat words words' p word next near is w ws has old =
    let next' : j ≡ suc i = omega (arith, next) in
    let more : map number (take j seats) ≡ map number (take i seats) ++ number seat ∷ [] =
    ap (λ k. map number (take k seats)) next' ∙ ap (map number) (take-suc seats i seat near ∙ ap (λ x. take i seats ++ x ∷ []) (sym is)) ∙ map-append number (take i seats) (seat ∷ []) in
    subst (λ ns. AreWords permits ns words') (sym more)
    (subst (AreWords permits (map number (take i seats) ++ number seat ∷ [])) (sym (ws ∙ ap (λ n. words ++ n ∷ []) w))
    (words-push permits (map number (take i seats)) words (number seat) p old has))

-- one more lease, where none lacked so far
pub numbers-next : {L : Type 0} (number : L → ℕ) (numbers : List ℕ) (i j : ℕ) (l : L) (leases leases' : List L)
    → j ≡ i + 1 → i < length numbers → number l ≡ get_or numbers i 0 → leases' ≡ leases ++ l ∷ [] → map number leases ≡ take i numbers → map number leases' ≡ take j numbers
numbers-next number numbers i j l leases leases' next near is more old =
    let next' : j ≡ suc i = omega (arith, next) in
    ap (map number) more ∙ map-append number leases (l ∷ []) ∙ ap (λ ns. ns ++ number l ∷ []) old ∙ ap (λ n. take i numbers ++ n ∷ []) is
    ∙ sym (take-suc numbers i 0 near) ∙ ap (λ k. take k numbers) (sym next')
