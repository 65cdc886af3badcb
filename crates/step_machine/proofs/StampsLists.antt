-- Lists in which one place changed, and the numbers that a list of makers gives.
use Rattle.std.proofs.Common.{◌≡◌, ◌≢◌, ℕ, zero, suc, ◌+◌, ◌-◌, ◌<◌, ◌≤◌, ◌⊎◌, inl, inr, List, [], ◌∷◌, ◌++◌, length, Some, set, refl, sym, ap, ◌∙◌, arith}
use Rattle.std.proofs.lemmas.Option.{none-some, same_Some, slice_get_within}
use Rattle.std.specs.Prelude.{slice_get}
use Rattle.std.specs.List.{AllByRecursion}
use Rattle.step_machine.specs.Stamps.{IsBy}

-- in the second list the place `e` holds x, and each other place holds what it held in the first
pub record PutAt {X : Type 0} (xs ys : List X) (e : ℕ) (x : X) : Type 0 where
  pub here : slice_get ys e ≡ Some x
  pub others : (i : ℕ) → i ≢ e → slice_get ys i ≡ slice_get xs i

-- a place that holds an element holds another one once that is set there
pub slice_get-set_same : {X : Type 0} (xs : List X) (e : ℕ) (y x : X) → slice_get xs e ≡ Some y → slice_get (set xs e x) e ≡ Some x
slice_get-set_same [] e y x h = absurd (none-some y h)
slice_get-set_same (z ∷ zs) zero y x h = refl
slice_get-set_same (z ∷ zs) (suc e) y x h = slice_get-set_same zs e y x h

-- a place holds what it held where another one is set
pub slice_get-set_other : {X : Type 0} (xs : List X) (e i : ℕ) (x : X) → i ≢ e → slice_get (set xs e x) i ≡ slice_get xs i
slice_get-set_other [] e i x h = refl
slice_get-set_other (z ∷ zs) zero zero x h = absurd (h refl)
slice_get-set_other (z ∷ zs) zero (suc i) x h = refl
slice_get-set_other (z ∷ zs) (suc e) zero x h = refl
slice_get-set_other (z ∷ zs) (suc e) (suc i) x h = slice_get-set_other zs e i x (λ q. h (ap suc q))

-- the place after a list holds what is put at its end
pub slice_get-append_end : {X : Type 0} (xs : List X) (x : X) → slice_get (xs ++ x ∷ []) (length xs) ≡ Some x
slice_get-append_end [] x = refl
slice_get-append_end (z ∷ zs) x = slice_get-append_end zs x

-- any other place holds what it held
pub slice_get-append_other : {X : Type 0} (xs : List X) (i : ℕ) (x : X) → i ≢ length xs → slice_get (xs ++ x ∷ []) i ≡ slice_get xs i
slice_get-append_other [] zero x h = absurd (h refl)
slice_get-append_other [] (suc i) x h = refl
slice_get-append_other (z ∷ zs) zero x h = refl
slice_get-append_other (z ∷ zs) (suc i) x h = slice_get-append_other zs i x (λ q. h (ap suc q))

-- what a list holds it holds with more at its end
pub slice_get-append_kept : {X : Type 0} (xs ys : List X) (i : ℕ) (x : X) → slice_get xs i ≡ Some x → slice_get (xs ++ ys) i ≡ Some x
slice_get-append_kept [] ys i x h = absurd (none-some x h)
slice_get-append_kept (z ∷ zs) ys zero x h = h
slice_get-append_kept (z ∷ zs) ys (suc i) x h = slice_get-append_kept zs ys i x h

-- an element set at a place of the list
pub put_set : {X : Type 0} (xs : List X) (e : ℕ) (y x : X) → slice_get xs e ≡ Some y → PutAt xs (set xs e x) e x
put_set xs e y x h = record { here = slice_get-set_same xs e y x h; others = λ i n. slice_get-set_other xs e i x n }

-- an element put at the end of the list
pub put_end : {X : Type 0} (xs : List X) (x : X) → PutAt xs (xs ++ x ∷ []) (length xs) x
put_end xs x = record { here = slice_get-append_end xs x; others = λ i n. slice_get-append_other xs i x n }

-- two numbers are the same, or they are not
pub same_or_not : (i e : ℕ) → (i ≡ e) ⊎ (i ≢ e)
same_or_not zero zero = inl refl
same_or_not zero (suc e) = inr (omega arith)
same_or_not (suc i) zero = inr (omega arith)
same_or_not (suc i) (suc e) = next (same_or_not i e)
  where
    next : (i ≡ e) ⊎ (i ≢ e) → (suc i ≡ suc e) ⊎ (suc i ≢ suc e)
    next (inl q) = inl (ap suc q)
    next (inr n) = inr (omega arith)

-- what a place holds is what was put there, or what the first list held at another place
pub put_cases : {X : Type 0} {xs ys : List X} {e : ℕ} {x : X} → PutAt xs ys e x → (i : ℕ) (o : X) → slice_get ys i ≡ Some o → ((i ≡ e) × (x ≡ o)) ⊎ ((i ≢ e) × (slice_get xs i ≡ Some o))
put_cases {xs = xs} {ys = ys} {e = e} {x = x} put i o got = go (same_or_not i e)
  where
    go : (i ≡ e) ⊎ (i ≢ e) → ((i ≡ e) × (x ≡ o)) ⊎ ((i ≢ e) × (slice_get xs i ≡ Some o))
    go (inl q) = inl (q, same_Some x o (sym put.here ∙ ap (λ k. slice_get ys k) (sym q) ∙ got))
    go (inr n) = inr (n, sym (put.others i n) ∙ got)

-- a number of an actor stays its own when more numbers are taken
pub by_more : (K L : List ℕ) (n me : ℕ) → IsBy K n me → IsBy (K ++ L) n me
by_more K L n me h = record { from_one = h.from_one; own = slice_get-append_kept K L (n - 1) me h.own }

-- the next number is its taker's own
pub by_next : (K : List ℕ) (me now : ℕ) → now ≡ length K + 1 → IsBy (K ++ me ∷ []) now me
by_next K me now e =
    record {
      from_one = omega arith;
      own = let at : now - 1 ≡ length K = omega arith in ap (λ k. slice_get (K ++ me ∷ []) k) at ∙ slice_get-append_end K me;
    }

-- a number that was taken is among those taken
pub by_within : (K : List ℕ) (n me : ℕ) → IsBy K n me → n ≤ length K
by_within K n me h = let within : n - 1 < length K = slice_get_within K (n - 1) me h.own in let one : 1 ≤ n = h.from_one in omega arith

-- a number was taken by one actor
pub by_one : (K : List ℕ) (n a b : ℕ) → IsBy K n a → IsBy K n b → a ≡ b
by_one K n a b h g = same_Some a b (sym h.own ∙ g.own)

-- a fact of the element at each place is one of all elements
pub all_of : {X : Type 0} (P : X → Type 0) (xs : List X) → ((i : ℕ) (o : X) → slice_get xs i ≡ Some o → P o) → AllByRecursion P xs
all_of P [] h = tt
all_of P (x ∷ xs) h = (h 0 x refl, all_of P xs (λ i o got. h (suc i) o got))
