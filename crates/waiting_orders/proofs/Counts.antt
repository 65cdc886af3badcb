-- Where all that is left can be placed to the end, a value wasn't told to more operations than pushes of it wait.
use Rattle.std.proofs.Common.{◌≡◌, ℕ, zero, suc, ◌+◌, ◌≤◌, Bool, true, false, not, cond, inl, inr, List, [], ◌∷◌, ◌++◌, Option, None, Some, length, refl, sym, ap, ◌∙◌, subst, arith}
use Rattle.std.specs.List.{AllByRecursion, filter}
use Rattle.std.specs.List.Sorted.{IsPermutation}
use Rattle.std.proofs.lemmas.List.{append-nil, length-append}
use Rattle.std.proofs.lemmas.List.Elements.{filter-append}
use Rattle.std.proofs.lemmas.List.Sorted.{IsPermutation-sym, IsPermutation-trans, IsPermutation-cons, length_permutation}
use Rattle.history.specs.declared.refusals.Refusal.{Refusal}
use Rattle.history.specs.declared.operations.Op.{Op}
use Rattle.history.specs.declared.operations.Op.TheVariants.{Enq, Deq, Shut}
use Rattle.history.specs.declared.operations.Taken.{Taken}
use Rattle.history.specs.declared.operations.Reply.{Reply}
use Rattle.history.specs.declared.operations.Reply.TheVariants.{Done, Value, Empty, Refused}
use Rattle.history.specs.declared.operations.Stamped.{Stamped}
use Rattle.waiting_orders.specs.Waiting.{State, HasEffect, GetsRefused, Takes, IsEnd, CanEnd, Where, IsUntold, OtherIsUntold, waits, is_push, pushes_value}
use Rattle.waiting_orders.specs.Pending.{is_value, waits_with, told_count, push_count}
use Rattle.waiting_orders.proofs.Lists.{all_weaker, both_true}
use Rattle.waiting_orders.proofs.Picking.{filter_moved}
use Rattle.waiting_orders.proofs.Spare.{last_first, late_waits}
use Rattle.waiting_orders.proofs.Stepping.{filter_none}

module _ (v : Taken) where
  abbrev told : Stamped → Bool
  told o = is_value v o.reply

  push_untold : (op : Op) (reply : Option Reply) → is_push op reply ≡ true → is_value v reply ≡ false
  push_untold (Enq body) None e = refl
  push_untold (Enq body) (Some Done) e = refl
  push_untold (Enq body) (Some (Value w)) e = absurd cc
  push_untold (Enq body) (Some Empty) e = refl
  push_untold (Enq body) (Some (Refused refusal)) e = refl
  push_untold Deq reply e = absurd cc
  push_untold Shut reply e = absurd cc

  count_cons : (test : Stamped → Bool) (x : Stamped) (xs : List Stamped) → length (filter test (x ∷ xs)) ≡ cond (test x) 1 0 + length (filter test xs)
  count_cons test x xs = go (test x)
    where
      go : (b : Bool) → length (cond b (x ∷ filter test xs) (filter test xs)) ≡ cond b 1 0 + length (filter test xs)
      go true = omega arith
      go false = omega arith

  count_both : (test : Stamped → Bool) (xs ys : List Stamped) → length (filter test (xs ++ ys)) ≡ length (filter test xs) + length (filter test ys)
  count_both test xs ys = ap length (filter-append test xs ys) ∙ length-append (filter test xs) (filter test ys)

  count_moved : (test : Stamped → Bool) (xs ys : List Stamped) → IsPermutation xs ys → length (filter test ys) ≡ length (filter test xs)
  count_moved test xs ys h = length_permutation (filter test xs) (filter test ys) (filter_moved test xs ys h)

  -- an operation goes, and pushes with it, among which one is of the value if the operation was told that
  enough_before : (o : Stamped) (s t : State) (out : List Stamped) → IsPermutation s.left (o ∷ t.left ++ out) → AllByRecursion (λ x. waits x ≡ true) out
      → (told o ≡ true → 1 ≤ push_count v out) → told_count v t.left ≤ push_count v t.left → told_count v s.left ≤ push_count v s.left
  enough_before o s t out is w one h = go (told o) refl
    where
      none : told_count v out ≡ 0
      none = ap length (filter_none told out (all_weaker (λ x. waits x ≡ true) (λ x. told x ≡ false) (λ x e. push_untold x.op x.reply e) out w))

      tolds : told_count v s.left ≡ cond (told o) 1 0 + (told_count v t.left + told_count v out)
      tolds = sym (count_moved told s.left (o ∷ t.left ++ out) is) ∙ count_cons told o (t.left ++ out) ∙ ap (λ n. cond (told o) 1 0 + n) (count_both told t.left out)

      pushes : push_count v s.left ≡ cond (waits_with v o) 1 0 + (push_count v t.left + push_count v out)
      pushes = sym (count_moved (waits_with v) s.left (o ∷ t.left ++ out) is) ∙ count_cons (waits_with v) o (t.left ++ out) ∙ ap (λ n. cond (waits_with v o) 1 0 + n) (count_both (waits_with v) t.left out)

      go : (b : Bool) → told o ≡ b → told_count v s.left ≤ push_count v s.left
      go true e =
          let k : 1 ≤ push_count v out = one e in
          let a : told_count v s.left ≡ 1 + (told_count v t.left + told_count v out) = tolds ∙ ap (λ b. cond b 1 0 + (told_count v t.left + told_count v out)) e in
          let p = pushes in
          let z = none in
          omega (arith, h, k, a, p, z)
      go false e =
          let a : told_count v s.left ≡ 0 + (told_count v t.left + told_count v out) = tolds ∙ ap (λ b. cond b 1 0 + (told_count v t.left + told_count v out)) e in
          let p = pushes in
          let z = none in
          omega (arith, h, a, p, z)

  module _ (o : Stamped) (s t : State) (h : told_count v t.left ≤ push_count v t.left) where
    abbrev Enough : Type 0
    Enough = told_count v s.left ≤ push_count v s.left

    takes : (w : Taken) → (told o ≡ true → pushes_value v w.from (Enq w.body) ≡ true) → Takes w o s t → Enough
    takes w same k =
        enough_before o s t (k.push ∷ [])
        (IsPermutation-trans _ _ _ k.is (IsPermutation-cons o _ _ (IsPermutation-sym (t.left ++ k.push ∷ []) (k.push ∷ t.left) (last_first t.left k.push)))) (k.pushes.waits, tt)
        (λ e. let c = count_cons (waits_with v) k.push [] in let d = ap (λ b. cond b 1 0 + 0) (fitting e) in let f : push_count v (k.push ∷ []) ≡ 1 + 0 = c ∙ d in omega (arith, f)) h
      where
        fitting : told o ≡ true → waits_with v k.push ≡ true
        fitting e =
            both_true (waits k.push) _ k.pushes.waits
            (subst (λ n. pushes_value v n k.push.op ≡ true) (sym k.pushes.actor) (subst (λ op. pushes_value v w.from op ≡ true) (sym k.pushes.op) (same e)))

    alone : told o ≡ false → IsPermutation s.left (o ∷ t.left) → Enough
    alone e is = enough_before o s t [] (subst (λ l. IsPermutation s.left (o ∷ l)) (sym (append-nil t.left)) is) tt (λ f. absurd (cc (sym f ∙ e))) h

    gets_refused : (refusal : Refusal) (op : Op) → told o ≡ false → GetsRefused refusal op o s t → Enough
    gets_refused refusal (Enq body) e (inl k) = alone e k.is
    gets_refused refusal (Enq body) e (inr k) = alone e k.1.is
    gets_refused refusal Shut e (inl k) = alone e k.is
    gets_refused refusal Shut e (inr k) = alone e k.1.is
    gets_refused refusal Deq e (inl k) = alone e k.is
    gets_refused refusal Deq e (inr k) = enough_before o s t k.1.dropped k.1.is k.1.pushes (λ f. absurd (cc (sym f ∙ e))) h

    shuts : told o ≡ false → (dropped : List Stamped) → IsPermutation s.left (o ∷ t.left ++ dropped) → AllByRecursion (λ x. waits x ≡ true) dropped → Enough
    shuts e dropped is w = enough_before o s t dropped is w (λ f. absurd (cc (sym f ∙ e))) h

    effects : (op : Op) (reply : Option Reply) → o.reply ≡ reply → HasEffect op reply o s t → Enough
    effects (Enq body) None f k = absurd k
    effects Deq None f k = takes k.0 (λ e. absurd (cc (sym e ∙ ap (is_value v) f))) k.1
    effects Shut None f k = shuts (ap (is_value v) f) k.dropped k.is (all_weaker _ _ (late_waits s) k.dropped k.late)
    effects (Enq body) (Some Done) f k = absurd k
    effects Deq (Some Done) f k = absurd k
    effects Shut (Some Done) f k = shuts (ap (is_value v) f) k.dropped k.is (all_weaker _ _ (late_waits s) k.dropped k.late)
    effects (Enq body) (Some (Value w)) f k = absurd k
    effects Deq (Some (Value w)) f k = takes w (λ e. sym (ap (is_value v) f) ∙ e) k
    effects Shut (Some (Value w)) f k = absurd k
    effects (Enq body) (Some Empty) f k = absurd k
    effects Deq (Some Empty) f k = alone (ap (is_value v) f) k.is
    effects Shut (Some Empty) f k = absurd k
    effects (Enq body) (Some (Refused refusal)) f k = gets_refused refusal (Enq body) (ap (is_value v) f) k
    effects Deq (Some (Refused refusal)) f k = gets_refused refusal Deq (ap (is_value v) f) k
    effects Shut (Some (Refused refusal)) f k = gets_refused refusal Shut (ap (is_value v) f) k

  end_untold : (s : State) → IsEnd s → told_count v s.left ≡ 0
  end_untold s h = ap length (filter_none told s.left (all_weaker OtherIsUntold (λ x. told x ≡ false) one s.left h))
    where
      one : (x : Stamped) → OtherIsUntold x → told x ≡ false
      one x k = go (waits x) refl k
        where
          go : (b : Bool) → waits x ≡ b → Where (not b) (IsUntold x) → told x ≡ false
          go true e k = push_untold x.op x.reply e
          go false e k = ap (is_value v) k

  enough_at_end : (s : State) → IsEnd s → told_count v s.left ≤ push_count v s.left
  enough_at_end s h = let e = end_untold s h in omega (arith, e)

  pub enough_pushes : (n : ℕ) (s : State) → CanEnd n s → told_count v s.left ≤ push_count v s.left
  enough_pushes zero s h = enough_at_end s h
  enough_pushes (suc n) s (inl h) = enough_at_end s h
  enough_pushes (suc n) s (inr h) = effects h.1.operation s h.0 (enough_pushes n h.0 h.2) h.1.operation.op h.1.operation.reply refl h.1.effect
