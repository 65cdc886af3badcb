-- How an order is put together: pushes that are due, one after another.
use Rattle.std.proofs.Common.{◌≡◌, ℕ, zero, suc, ◌+◌, ◌-◌, ◌≤◌, ◌<◌, Bool, true, false, not, ◌&&◌, cond, nat_le, Option, None, Some, is_some, List, [], ◌∷◌, ◌++◌, length, drop, map, reverse, slice_get, take, refl, sym, ap, ◌∙◌, subst, arith, add-one}
use Rattle.std.specs.List.{AllByRecursion, filter}
use Rattle.std.specs.List.Sorted.{IsPermutation}
use Rattle.std.proofs.lemmas.Bool.{leb-true, leb-false, le-leb}
use Rattle.std.proofs.lemmas.Option.{same_Some}
use Rattle.std.proofs.lemmas.List.{append-nil, append_assoc, length-append, reverse-append}
use Rattle.std.proofs.lemmas.List.Sorted.{IsPermutation-append_left, IsPermutation-append_right, IsPermutation-filter_both, IsPermutation-sym, IsPermutation-trans}
use Rattle.history.specs.declared.operations.Stamped.{Stamped}
use Rattle.history.specs.Linearizability.{IsPending}
use Rattle.waiting_orders.specs.declared.boards.Board.{Board}
use Rattle.waiting_orders.specs.declared.orders.Listing.{Listing}
use Rattle.waiting_orders.specs.declared.walks.Went.{Went}
use Rattle.waiting_orders.specs.Waiting.{IsCall, IsUntold, waits, is_open_at, sooner}
use Rattle.waiting_orders.specs.Lines.{IsRising, cat, left_of, lowered, picked}
use Rattle.waiting_orders.specs.Listed.{all_open, asides_of, back_of, due_front, due_later, ended, ended_at, front_of, is_aside, merged, order_of, put_by, put_take, shuts, taken_of, with_one, IsOrderOf}
use Rattle.waiting_orders.specs.Listing.{Puts, TakesOne, least, leasts}
use Rattle.waiting_orders.specs.Nodes.{Spot, AreCalls, IsBoard, start, state_of}
use Rattle.waiting_orders.specs.Orders.{AreWent}
use Rattle.waiting_orders.proofs.Covering.{pending_is}
use Rattle.waiting_orders.proofs.EndingWalks.{lists_order, Stays}
use Rattle.waiting_orders.proofs.Futures.{all_moved}
use Rattle.waiting_orders.proofs.Lists.{all_filtered, all_joined}
use Rattle.waiting_orders.proofs.Merging.{first_keeps, rises_of, rotated}
use Rattle.waiting_orders.proofs.Stepping.{all_left}
use Rattle.waiting_orders.proofs.Trades.{unended_untold}

-- ---- places

pub drop_some : {X : Type 0} (xs : List X) (k : ℕ) (x : X) → slice_get xs k ≡ Some x → drop k xs ≡ x ∷ drop (k + 1) xs
drop_some [] k x e = absurd cc
drop_some (y ∷ xs) zero x e = ap (λ o. o ∷ xs) (same_Some y x e)
drop_some (y ∷ xs) (suc k) x e = drop_some xs k x e ∙ ap (λ n. x ∷ drop n xs) (add-one k) ∙ ap (λ n. x ∷ drop n (y ∷ xs)) (sym (add-one (suc k)))

drop_nothing : {X : Type 0} (k : ℕ) → drop {A = X} k [] ≡ []
drop_nothing zero = refl
drop_nothing (suc k) = refl

pub take_some : {X : Type 0} (xs : List X) (k : ℕ) (x : X) → slice_get xs k ≡ Some x → take (k + 1) xs ≡ take k xs ++ x ∷ []
take_some [] k x e = absurd cc
take_some (y ∷ xs) zero x e = ap (λ o. o ∷ []) (same_Some y x e)
take_some (y ∷ xs) (suc k) x e = ap (λ n. take n (y ∷ xs)) (add-one (suc k)) ∙ ap (λ n. y ∷ take n xs) (sym (add-one k)) ∙ ap (λ l. y ∷ l) (take_some xs k x e)

take_nothing : {X : Type 0} (k : ℕ) → take {A = X} k [] ≡ []
take_nothing zero = refl
take_nothing (suc k) = refl

take_none : {X : Type 0} (xs : List X) (k : ℕ) → slice_get xs k ≡ None → take (k + 1) xs ≡ take k xs
take_none [] k e = take_nothing (k + 1) ∙ sym (take_nothing k)
take_none (y ∷ xs) zero e = absurd cc
take_none (y ∷ xs) (suc k) e = ap (λ n. take n (y ∷ xs)) (add-one (suc k)) ∙ ap (λ n. y ∷ take n xs) (sym (add-one k)) ∙ ap (λ l. y ∷ l) (take_none xs k e)

pub drop_none : {X : Type 0} (xs : List X) (k : ℕ) → slice_get xs k ≡ None → drop k xs ≡ []
drop_none [] zero e = refl
drop_none [] (suc k) e = refl
drop_none (y ∷ xs) zero e = absurd cc
drop_none (y ∷ xs) (suc k) e = drop_none xs k e

pub drop_past : {X : Type 0} (xs : List X) (k : ℕ) → length xs ≤ k → drop k xs ≡ []
drop_past [] zero h = refl
drop_past [] (suc k) h = refl
drop_past (y ∷ xs) zero h = absurd (omega (arith, h))
drop_past (y ∷ xs) (suc k) h = drop_past xs k (omega (arith, h))

-- ---- the least last numbers

open_sooner : (time : ℕ) (a b : Option ℕ) → is_open_at time (sooner a b) ≡ (is_open_at time a && is_open_at time b)
open_sooner time None b = refl
open_sooner time (Some a) None = go (is_open_at time (Some a))
  where
    go : (b : Bool) → b ≡ (b && true)
    go true = refl
    go false = refl
open_sooner time (Some a) (Some b) = go (nat_le a b) refl
  where
    both : (x y : Bool) → (x ≡ true → y ≡ true) → x ≡ (x && y)
    both true y h = sym (h refl)
    both false y h = refl

    other : (x y : Bool) → (y ≡ true → x ≡ true) → y ≡ (x && y)
    other true y h = refl
    other false true h = sym (h refl)
    other false false h = refl

    go : (c : Bool) → nat_le a b ≡ c → is_open_at time (cond c (Some a) (Some b)) ≡ (nat_le time a && nat_le time b)
    go true e = both (nat_le time a) (nat_le time b) (λ h. let k = leb-true a b e in let l = leb-true time a h in le-leb time b (omega (arith, k, l)))
    go false e = other (nat_le time a) (nat_le time b) (λ h. let k : b < a = leb-false a b e in let l = leb-true time b h in le-leb time a (omega (arith, k, l)))

turned : (a b : Bool) → (a && b) ≡ (b && a)
turned true true = refl
turned true false = refl
turned false true = refl
turned false false = refl

pub open_least : (time : ℕ) (ps : List Stamped) → is_open_at time (least ps) ≡ all_open time ps
open_least time [] = refl
open_least time (p ∷ ps) =
    open_sooner time (least ps) p.last ∙ turned (is_open_at time (least ps)) (is_open_at time p.last) ∙ ap (λ b. is_open_at time p.last && b) (open_least time ps)

pub least_at : (ps : List Stamped) (k : ℕ) (limit : Option ℕ) → slice_get (leasts ps) k ≡ Some limit → limit ≡ least (drop k ps)
least_at [] k limit e = absurd cc
least_at (p ∷ ps) zero limit e = sym (same_Some (least (p ∷ ps)) limit e)
least_at (p ∷ ps) (suc k) limit e = least_at ps k limit e

pub none_at : (ps : List Stamped) (k : ℕ) → slice_get (leasts ps) k ≡ None → drop k ps ≡ []
none_at [] zero e = refl
none_at [] (suc k) e = refl
none_at (p ∷ ps) zero e = absurd cc
none_at (p ∷ ps) (suc k) e = none_at ps k e

-- ---- pushes that are due

-- nothing is due where all had not ended
pub due_none : (time : ℕ) (ps : List Stamped) → not (all_open time ps) ≡ false → (due_front time ps ≡ []) × (due_later time ps ≡ ps)
due_none time [] h = (refl, refl)
due_none time (p ∷ ps) h = go (all_open time (p ∷ ps)) h
  where
    go : (b : Bool) → not b ≡ false → (cond b [] (p ∷ due_front time ps) ≡ []) × (cond b (p ∷ ps) (due_later time ps) ≡ p ∷ ps)
    go true h = (refl, refl)
    go false h = absurd cc

-- else the first one is, and the rest of them
pub record DueFirst (time : ℕ) (ps : List Stamped) : Type 0 where
  pub first : Stamped
  pub rest : List Stamped
  pub is : ps ≡ first ∷ rest
  pub front : due_front time ps ≡ first ∷ due_front time rest
  pub later : due_later time ps ≡ due_later time rest

pub due_first : (time : ℕ) (ps : List Stamped) → not (all_open time ps) ≡ true → DueFirst time ps
due_first time [] h = absurd cc
due_first time (p ∷ ps) h = record { first = p; rest = ps; is = refl; front = (go (all_open time (p ∷ ps)) h).0; later = (go (all_open time (p ∷ ps)) h).1 }
  where
    go : (b : Bool) → not b ≡ true → (cond b [] (p ∷ due_front time ps) ≡ p ∷ due_front time ps) × (cond b (p ∷ ps) (due_later time ps) ≡ due_later time ps)
    go true h = absurd cc
    go false h = (refl, refl)

-- ---- one step of a loop

-- what was put in since the beginning, with what is to be, is all that is to be put in
pub record Putting (front later : List Stamped) (old : Listing) (nextfront nextlater : List Stamped) (now : Listing) : Type 0 where
  pub operations : now.operations.items ++ nextfront ≡ old.operations.items ++ front
  pub rest : nextlater ≡ later
  pub next : now.next + length nextfront ≡ old.next + length front
  pub taken : now.taken ≡ old.taken

pub put_due_next : (time : ℕ) (pushes front later : List Stamped) (old now new : Listing) → Putting front later old (due_front time (drop now.next pushes)) (due_later time (drop now.next pushes)) now
    → not (all_open time (drop now.next pushes)) ≡ true → Puts pushes (front_of (drop now.next pushes)) (back_of (drop now.next pushes)) now new
    → Putting front later old (due_front time (drop new.next pushes)) (due_later time (drop new.next pushes)) new
put_due_next time pushes front later old now new p due puts =
    let d = due_first time (drop now.next pushes) due in
    let coming : drop new.next pushes ≡ d.rest = puts.coming ∙ ap back_of d.is in
    let one : new.operations.items ≡ now.operations.items ++ d.first ∷ [] = puts.operations ∙ ap (λ l. now.operations.items ++ front_of l) d.is in
    let next : new.next ≡ now.next + 1 = puts.next ∙ ap (λ l. now.next + length (front_of l)) d.is in
    let long : length (due_front time (drop now.next pushes)) ≡ length (due_front time d.rest) + 1 = ap length d.front ∙ (let z : suc (length (due_front time d.rest)) ≡ length (due_front time d.rest) + 1 = omega arith in z) in
    let before = p.next in
    record {
      operations = ap (λ l. l ++ due_front time (drop new.next pushes)) one ∙ ap (λ l. (now.operations.items ++ d.first ∷ []) ++ due_front time l) coming
          ∙ append_assoc now.operations.items (d.first ∷ []) (due_front time d.rest) ∙ ap (λ l. now.operations.items ++ l) (sym d.front) ∙ p.operations;
      rest = ap (due_later time) coming ∙ sym d.later ∙ p.rest;
      next = ap (λ l. new.next + length (due_front time l)) coming ∙ omega (arith, next, long, before);
      taken = puts.taken ∙ p.taken;
    }

pub put_due_end : (time : ℕ) (pushes front later : List Stamped) (old now : Listing) → Putting front later old (due_front time (drop now.next pushes)) (due_later time (drop now.next pushes)) now
    → not (all_open time (drop now.next pushes)) ≡ false → Puts pushes front later old now
put_due_end time pushes front later old now p none =
    let d = due_none time (drop now.next pushes) none in
    let long : length (due_front time (drop now.next pushes)) ≡ 0 = ap length d.0 in
    let before = p.next in
    record {
      operations = sym (append-nil now.operations.items) ∙ ap (λ l. now.operations.items ++ l) (sym d.0) ∙ p.operations;
      coming = sym d.1 ∙ p.rest;
      next = omega (arith, long, before);
      taken = p.taken;
    }

pub put_all_next : (pushes front : List Stamped) (old now new : Listing) → Putting front [] old (drop now.next pushes) [] now → now.next < length pushes
    → Puts pushes (front_of (drop now.next pushes)) (back_of (drop now.next pushes)) now new → Putting front [] old (drop new.next pushes) [] new
put_all_next pushes front old now new p l puts = go (drop now.next pushes) refl (dropped now.next pushes l)
  where
    dropped : (k : ℕ) (xs : List Stamped) → k < length xs → drop k xs ≡ [] → ⊥
    dropped k [] l e = omega (arith, l)
    dropped zero (x ∷ xs) l e = cc e
    dropped (suc k) (x ∷ xs) l e = dropped k xs (omega (arith, l)) e

    go : (coming : List Stamped) → drop now.next pushes ≡ coming → (drop now.next pushes ≡ [] → ⊥) → Putting front [] old (drop new.next pushes) [] new
    go [] e some = absurd (some e)
    go (x ∷ xs) e some =
        let coming : drop new.next pushes ≡ xs = puts.coming ∙ ap back_of e in
        let one : new.operations.items ≡ now.operations.items ++ x ∷ [] = puts.operations ∙ ap (λ l. now.operations.items ++ front_of l) e in
        let next : new.next ≡ now.next + 1 = puts.next ∙ ap (λ l. now.next + length (front_of l)) e in
        let long : length (drop now.next pushes) ≡ length xs + 1 = ap length e ∙ (let z : suc (length xs) ≡ length xs + 1 = omega arith in z) in
        let before = p.next in
        record {
          operations = ap (λ l. l ++ drop new.next pushes) one ∙ ap (λ l. (now.operations.items ++ x ∷ []) ++ l) coming ∙ append_assoc now.operations.items (x ∷ []) xs
              ∙ ap (λ l. now.operations.items ++ l) (sym e) ∙ p.operations;
          rest = refl;
          next = ap (λ l. new.next + length l) coming ∙ omega (arith, next, long, before);
          taken = puts.taken ∙ p.taken;
        }

pub put_all_end : (pushes front : List Stamped) (old now : Listing) → Putting front [] old (drop now.next pushes) [] now → length pushes ≤ now.next → Puts pushes front [] old now
put_all_end pushes front old now p l =
    let d = drop_past pushes now.next l in
    let long : length (drop now.next pushes) ≡ 0 = ap length d in
    let before = p.next in
    record {
      operations = sym (append-nil now.operations.items) ∙ ap (λ l. now.operations.items ++ l) (sym d) ∙ p.operations;
      coming = d;
      next = omega (arith, long, before);
      taken = p.taken;
    }

pub puts_one : (pushes : List Stamped) (old new : Listing) (push : Stamped) → slice_get pushes old.next ≡ Some push → new.operations.items ≡ old.operations.items ++ push ∷ [] → new.next ≡ old.next + 1
    → new.taken ≡ old.taken → Puts pushes (front_of (drop old.next pushes)) (back_of (drop old.next pushes)) old new
puts_one pushes old new push there items next taken =
    subst (λ l. Puts pushes (front_of l) (back_of l) old new) (sym (drop_some pushes old.next push there))
    (record { operations = items; coming = ap (λ n. drop n pushes) next; next = next; taken = taken })

pub puts_none : (pushes : List Stamped) (old : Listing) → slice_get pushes old.next ≡ None → Puts pushes (front_of (drop old.next pushes)) (back_of (drop old.next pushes)) old old
puts_none pushes old none =
    let e = drop_none pushes old.next none in
    subst (λ l. Puts pushes (front_of l) (back_of l) old old) (sym e) (record { operations = sym (append-nil old.operations.items); coming = e; next = omega arith; taken = refl })

-- ---- what goes

puts_both : (pushes front later next last : List Stamped) (a b c : Listing) → Puts pushes front later a b → Puts pushes next last b c → Puts pushes (front ++ next) last a c
puts_both pushes front later next last a b c p q =
    let l = length-append front next in
    let m = p.next in
    let n = q.next in
    record {
      operations = q.operations ∙ ap (λ os. os ++ next) p.operations ∙ append_assoc a.operations.items front next;
      coming = q.coming;
      next = omega (arith, l, m, n);
      taken = q.taken ∙ p.taken;
    }

-- an operation is put in behind pushes
put_behind_these : (pushes front later : List Stamped) (old now : Listing) → Puts pushes front later old now → (o : Stamped) (items : List Stamped) → items ≡ now.operations.items ++ o ∷ []
    → (more : ℕ → List Stamped → List Stamped) (count held : ℕ) → count ≡ held → items ++ more count (drop now.next pushes) ≡ old.operations.items ++ (front ++ o ∷ more held later)
put_behind_these pushes front later old now p o items e more count held same =
    ap (λ os. os ++ more count (drop now.next pushes)) (e ∙ ap (λ os. os ++ o ∷ []) p.operations)
    ∙ append_assoc (old.operations.items ++ front) (o ∷ []) (more count (drop now.next pushes))
    ∙ append_assoc old.operations.items front (o ∷ more count (drop now.next pushes))
    ∙ ap (λ n. old.operations.items ++ (front ++ o ∷ more n (drop now.next pushes))) same
    ∙ ap (λ l. old.operations.items ++ (front ++ o ∷ more held l)) p.coming

module _ (o : Stamped) (time : ℕ) (pushes : List Stamped) (old now : Listing) (items : List Stamped) (is : items ≡ now.operations.items ++ o ∷ []) (after : ℕ) (takes : TakesOne now.next now.taken after)
    (more : ℕ → List Stamped → List Stamped) where
  abbrev coming : List Stamped
  coming = drop old.next pushes

  abbrev PutSo : ℕ → List Stamped → Type 0
  PutSo held coming = items ++ more (now.next - after) (drop now.next pushes) ≡ old.operations.items ++ put_take o time held coming more

  -- a value is in the queue
  pub took_held : old.taken < old.next → Puts pushes (due_front time coming) (due_later time coming) old now → PutSo (old.next - old.taken) coming
  took_held l p =
      let n = p.next in
      let t = p.taken in
      let a : after ≡ now.taken + 1 = takes.more (omega (arith, l, n, t)) in
      let held : old.next - old.taken ≡ suc (old.next - old.taken - 1) = omega (arith, l) in
      let count : now.next - after ≡ (old.next - old.taken - 1) + length (due_front time coming) = omega (arith, l, n, t, a) in
      subst (λ held. PutSo held coming) (sym held)
      (put_behind_these pushes (due_front time coming) (due_later time coming) old now p o items is more (now.next - after) ((old.next - old.taken - 1) + length (due_front time coming)) count)

  -- none is
  pub took_none : (between : Listing) → old.taken ≡ old.next → Puts pushes (front_of coming) (back_of coming) old between
      → Puts pushes (due_front time (drop between.next pushes)) (due_later time (drop between.next pushes)) between now → PutSo (old.next - old.taken) coming
  took_none between e p q = go coming refl
    where
      go : (ps : List Stamped) → coming ≡ ps → PutSo (old.next - old.taken) coming
      go [] f =
          let none : drop between.next pushes ≡ [] = p.coming ∙ ap back_of f in
          let both = subst (λ l. Puts pushes (front_of l ++ []) [] old now) f
          (puts_both pushes (front_of coming) (back_of coming) [] [] old between now p (subst (λ l. Puts pushes (due_front time l) (due_later time l) between now) none q)) in
          let n = both.next in
          let t = both.taken in
          let a : after ≡ now.taken = takes.same (omega (arith, e, n, t)) in
          let zero_is : old.next - old.taken ≡ 0 = omega (arith, e) in
          let count : now.next - after ≡ 0 = omega (arith, e, n, t, a) in
          subst (λ l. PutSo (old.next - old.taken) l) (sym f) (subst (λ held. PutSo held []) (sym zero_is) (put_behind_these pushes [] [] old now both o items is more (now.next - after) 0 count))
      go (x ∷ ps) f =
          let rest : drop between.next pushes ≡ ps = p.coming ∙ ap back_of f in
          let both = subst (λ l. Puts pushes (front_of l ++ due_front time ps) (due_later time ps) old now) f
          (puts_both pushes (front_of coming) (back_of coming) (due_front time ps) (due_later time ps) old between now p (subst (λ l. Puts pushes (due_front time l) (due_later time l) between now) rest q)) in
          let n = both.next in
          let t = both.taken in
          let a : after ≡ now.taken + 1 = takes.more (omega (arith, e, n, t)) in
          let zero_is : old.next - old.taken ≡ 0 = omega (arith, e) in
          let count : now.next - after ≡ length (due_front time ps) = omega (arith, e, n, t, a) in
          subst (λ l. PutSo (old.next - old.taken) l) (sym f) (subst (λ held. PutSo held (x ∷ ps)) (sym zero_is)
          (put_behind_these pushes (x ∷ due_front time ps) (due_later time ps) old now both o items is more (now.next - after) (length (due_front time ps)) count))

-- both, by how many values are in the queue
pub took_so : (o : Stamped) (time : ℕ) (pushes : List Stamped) (old between now final : Listing) → old.taken ≤ old.next
    → (old.taken ≡ old.next → Puts pushes (front_of (drop old.next pushes)) (back_of (drop old.next pushes)) old between) → (old.taken < old.next → between ≡ old)
    → Puts pushes (due_front time (drop between.next pushes)) (due_later time (drop between.next pushes)) between now
    → final.operations.items ≡ now.operations.items ++ o ∷ [] → final.next ≡ now.next → TakesOne now.next now.taken final.taken → (more : ℕ → List Stamped → List Stamped)
    → final.operations.items ++ more (final.next - final.taken) (drop final.next pushes) ≡ old.operations.items ++ put_take o time (old.next - old.taken) (drop old.next pushes) more
took_so o time pushes old between now final l none held due is next takes more =
    subst (λ n. final.operations.items ++ more (n - final.taken) (drop n pushes) ≡ old.operations.items ++ put_take o time (old.next - old.taken) (drop old.next pushes) more) (sym next) (go (nat_le old.next old.taken) refl)
  where
    go : (b : Bool) → nat_le old.next old.taken ≡ b → final.operations.items ++ more (now.next - final.taken) (drop now.next pushes) ≡ old.operations.items ++ put_take o time (old.next - old.taken) (drop old.next pushes) more
    go true e =
        let k = leb-true old.next old.taken e in
        let same : old.taken ≡ old.next = omega (arith, k, l) in
        took_none o time pushes old now final.operations.items is final.taken takes more between same (none same) due
    go false e =
        let k : old.taken < old.next = leb-false old.next old.taken e in
        took_held o time pushes old now final.operations.items is final.taken takes more k
        (subst (λ x. Puts pushes (due_front time (drop x.next pushes)) (due_later time (drop x.next pushes)) x now) (held k) due)

pub fewer_put : (old between now : Listing) (pushes : List Stamped) (time : ℕ) → old.taken ≤ old.next
    → (old.taken ≡ old.next → Puts pushes (front_of (drop old.next pushes)) (back_of (drop old.next pushes)) old between) → (old.taken < old.next → between ≡ old)
    → Puts pushes (due_front time (drop between.next pushes)) (due_later time (drop between.next pushes)) between now → now.taken ≤ now.next
fewer_put old between now pushes time l none held due = go (nat_le old.next old.taken) refl
  where
    go : (b : Bool) → nat_le old.next old.taken ≡ b → now.taken ≤ now.next
    go true e =
        let k = leb-true old.next old.taken e in
        let p = none (omega (arith, k, l)) in
        let n = p.next in let t = p.taken in let m = due.next in let u = due.taken in omega (arith, l, n, t, m, u)
    go false e =
        let k : old.taken < old.next = leb-false old.next old.taken e in
        let same = held k in
        let n : between.next ≡ old.next = ap (λ x. x.next) same in
        let t : between.taken ≡ old.taken = ap (λ x. x.taken) same in
        let m = due.next in let u = due.taken in omega (arith, l, n, t, m, u)

pub fewer_then : (next old new : ℕ) → old ≤ next → TakesOne next old new → new ≤ next
fewer_then next old new l t = go (nat_le next old) refl
  where
    go : (b : Bool) → nat_le next old ≡ b → new ≤ next
    go true e = let k = leb-true next old e in let s = t.same k in omega (arith, l, s)
    go false e = let k : old < next = leb-false next old e in let s = t.more k in omega (arith, k, s)

-- a shut behind all pushes, or what isn't
pub put_shut : (o : Stamped) (pushes : List Stamped) (old now : Listing) (items : List Stamped) → items ≡ now.operations.items ++ o ∷ [] → old.taken ≤ old.next
    → Puts pushes (drop old.next pushes) [] old now → (more : ℕ → List Stamped → List Stamped)
    → items ++ more (now.next - now.taken) (drop now.next pushes) ≡ old.operations.items ++ (drop old.next pushes ++ o ∷ more (old.next - old.taken + length (drop old.next pushes)) [])
put_shut o pushes old now items is l p more =
    let n = p.next in
    let t = p.taken in
    let count : now.next - now.taken ≡ old.next - old.taken + length (drop old.next pushes) = omega (arith, l, n, t) in
    put_behind_these pushes (drop old.next pushes) [] old now p o items is more (now.next - now.taken) (old.next - old.taken + length (drop old.next pushes)) count

pub put_plain : (o : Stamped) (olds items rest : List Stamped) → items ≡ olds ++ o ∷ [] → items ++ rest ≡ olds ++ (o ∷ rest)
put_plain o olds items rest e = ap (λ os. os ++ rest) e ∙ append_assoc olds (o ∷ []) rest

-- ---- lists that are gathered

abbrev pub has_ended : Stamped → Bool
has_ended p = is_some p.last

ended_one : (o : Option Stamped) (rest : List Stamped) → filter has_ended (cat (o ∷ []) ++ rest) ≡ ended o ++ filter has_ended rest
ended_one None rest = refl
ended_one (Some o) rest = go (is_some o.last)
  where
    go : (b : Bool) → cond b (o ∷ filter has_ended rest) (filter has_ended rest) ≡ cond b (o ∷ []) [] ++ filter has_ended rest
    go true = refl
    go false = refl

cat_first : (o : Option Stamped) (os : List (Option Stamped)) → cat (o ∷ os) ≡ cat (o ∷ []) ++ cat os
cat_first None os = refl
cat_first (Some o) os = refl

pub ended_next : (ops : List Stamped) (places : List ℕ) (place : ℕ) → filter has_ended (picked ops (places ++ place ∷ [])) ≡ filter has_ended (picked ops places) ++ ended (slice_get ops place)
ended_next ops [] place =
    ap (λ l. filter has_ended l) (sym (append-nil (cat (slice_get ops place ∷ [])))) ∙ ended_one (slice_get ops place) [] ∙ append-nil (ended (slice_get ops place))
ended_next ops (p ∷ places) place =
    ap (filter has_ended) (cat_first (slice_get ops p) (map (slice_get ops) (places ++ place ∷ []))) ∙ ended_one (slice_get ops p) (picked ops (places ++ place ∷ []))
    ∙ ap (λ l. ended (slice_get ops p) ++ l) (ended_next ops places place) ∙ sym (append_assoc (ended (slice_get ops p)) (filter has_ended (picked ops places)) (ended (slice_get ops place)))
    ∙ ap (λ l. l ++ ended (slice_get ops place)) (sym (ended_one (slice_get ops p) (picked ops places)) ∙ ap (filter has_ended) (sym (cat_first (slice_get ops p) (map (slice_get ops) places))))

-- ---- what stays

stays_of : (others pushes staying : List Stamped) → AllByRecursion IsCall others → AllByRecursion IsUntold others → AllByRecursion IsCall pushes → AllByRecursion (λ p. waits p ≡ true) pushes
    → IsPermutation (filter has_ended pushes) staying → IsRising staying → Stays (others ++ pushes) staying
stays_of others pushes staying other_calls untold push_calls wait is rising =
    let unended = filter (λ p. not (has_ended p)) pushes in
    let calls = all_moved IsCall (filter has_ended pushes) staying is (all_filtered IsCall has_ended pushes push_calls) in
    record {
      out = others ++ unended;
      is = IsPermutation-trans _ _ _ (IsPermutation-append_right others pushes (filter has_ended pushes ++ unended) (IsPermutation-filter_both has_ended (λ p. not (has_ended p)) (λ p. refl) pushes))
          (IsPermutation-trans _ _ _ (rotated others (filter has_ended pushes) unended) (IsPermutation-append_left (others ++ unended) (filter has_ended pushes) staying is));
      each_waits = all_moved (λ p. waits p ≡ true) (filter has_ended pushes) staying is (all_filtered (λ p. waits p ≡ true) has_ended pushes wait);
      timely = first_keeps staying calls (rises_of (λ o. o.first) staying rising);
      pending = all_joined IsPending others unended (all_pend others other_calls untold) (none_ended pushes push_calls);
    }
  where
    all_pend : (os : List Stamped) → AllByRecursion IsCall os → AllByRecursion IsUntold os → AllByRecursion IsPending os
    all_pend [] c h = tt
    all_pend (o ∷ os) c h = (pending_is o c.0 h.0, all_pend os c.1 h.1)

    no_last : (last : Option ℕ) → is_some last ≡ false → last ≡ None
    no_last None e = refl
    no_last (Some last) e = absurd cc

    none_ended : (ps : List Stamped) → AllByRecursion IsCall ps → AllByRecursion IsPending (filter (λ p. not (has_ended p)) ps)
    none_ended [] c = tt
    none_ended (p ∷ ps) c = go (has_ended p) refl (none_ended ps c.1)
      where
        go : (b : Bool) → has_ended p ≡ b → AllByRecursion IsPending (filter (λ p. not (has_ended p)) ps)
            → AllByRecursion IsPending (cond (not b) (p ∷ filter (λ p. not (has_ended p)) ps) (filter (λ p. not (has_ended p)) ps))
        go true e more = more
        go false e more = (pending_is p c.0 (unended_untold p c.0 (no_last p.last e)), more)

-- ---- the order

pub order_is : (board : Board) (end : Spot) (ws : List Went) (staying asides : List Stamped) → IsPermutation (filter has_ended (left_of board.pushes.items end.pushes)) staying → IsRising staying
    → IsPermutation (asides_of ws) asides → IsRising asides → (AreCalls board → AreWent ws (state_of board start) (state_of board end))
    → AreCalls board → AllByRecursion IsUntold (left_of board.others.items end.others) → (ops : List Stamped) → IsBoard ops board → IsOrderOf ops (merged asides (order_of ws 0 (taken_of ws ++ staying)))
order_is board end ws staying asides stays rising set_aside asides_rise went calls untold ops is =
    let all = board.others.items ++ board.pushes.items in
    let each = all_moved IsCall all ops (IsPermutation-sym ops all is.all) (all_joined IsCall board.others.items board.pushes.items calls.other_calls calls.push_calls) in
    lists_order ops (state_of board start) (state_of board end) ws staying asides (record { all = is.all; unshut = refl; time = refl }) each (went calls)
    (stays_of (left_of board.others.items end.others) (left_of board.pushes.items end.pushes) staying (all_left IsCall board.others.items end.others calls.other_calls) untold
    (all_left IsCall board.pushes.items end.pushes calls.push_calls) (all_left (λ p. waits p ≡ true) board.pushes.items end.pushes calls.pushes) stays rising)
    set_aside (rises_of (λ o. o.first) asides asides_rise)

pub put_by_is : (aside a : Bool) (taken t : Option Stamped) → aside ≡ a → taken ≡ t → (shut : Bool) (o : Stamped) (time held : ℕ) (coming : List Stamped) (more : ℕ → List Stamped → List Stamped)
    → put_by a t shut o time held coming more ≡ put_by aside taken shut o time held coming more
put_by_is aside a taken t e f shut o time held coming more =
    sym (ap (λ aside. put_by aside taken shut o time held coming more) e ∙ ap (λ taken. put_by a taken shut o time held coming more) f)

-- at no number of its own
pub no_time : (shut : Bool) (o : Stamped) (time held : ℕ) (coming : List Stamped) (more : ℕ → List Stamped → List Stamped)
    → put_by false None shut o 0 held coming more ≡ put_by false None shut o time held coming more
no_time true o time held rest more = refl
no_time false o time held rest more = refl

-- ---- by the places of what goes

pub put_at_place : (walk : List Went) (at : ℕ) (w : Went) → slice_get walk at ≡ Some w → (held : ℕ) (coming : List Stamped)
    → put_by (is_aside w.other.reply) w.push (shuts w.other.op w.other.reply) w.other w.time held coming (λ held coming. order_of (drop (at + 1) walk) held coming) ≡ order_of (drop at walk) held coming
put_at_place walk at w e held coming = ap (λ ws. order_of ws held coming) (sym (drop_some walk at w e))

pub none_at_place : {X : Type 0} (walk : List X) (at : ℕ) → slice_get walk at ≡ None → drop (at + 1) walk ≡ drop at walk
none_at_place [] at e = drop_nothing (at + 1) ∙ sym (drop_nothing at)
none_at_place (w ∷ walk) zero e = absurd cc
none_at_place (w ∷ walk) (suc at) e = ap (λ n. drop n (w ∷ walk)) (add-one (suc at)) ∙ ap (λ n. drop n walk) (sym (add-one at)) ∙ none_at_place walk at e

pub merged_next : (asides list : List Stamped) (at : ℕ) (o : Stamped) → slice_get list at ≡ Some o → (old now : Listing) → Puts asides (due_front o.first (drop old.next asides)) (due_later o.first (drop old.next asides)) old now
    → (items : List Stamped) → items ≡ now.operations.items ++ o ∷ []
    → items ++ merged (drop now.next asides) (drop (at + 1) list) ≡ old.operations.items ++ merged (drop old.next asides) (drop at list)
merged_next asides list at o e old now p items is =
    ap (λ l. l ++ merged (drop now.next asides) (drop (at + 1) list)) (is ∙ ap (λ l. l ++ o ∷ []) p.operations)
    ∙ append_assoc (old.operations.items ++ due_front o.first (drop old.next asides)) (o ∷ []) (merged (drop now.next asides) (drop (at + 1) list))
    ∙ append_assoc old.operations.items (due_front o.first (drop old.next asides)) (o ∷ merged (drop now.next asides) (drop (at + 1) list))
    ∙ ap (λ l. old.operations.items ++ (due_front o.first (drop old.next asides) ++ o ∷ merged l (drop (at + 1) list))) p.coming
    ∙ ap (λ l. old.operations.items ++ merged (drop old.next asides) l) (sym (drop_some list at o e))

-- at the beginning
pub listed_first : (walk : List Went) (pushes : List Stamped) (order : Listing) → order.operations.items ≡ [] → order.next ≡ 0 → order.taken ≡ 0
    → order.operations.items ++ order_of (drop 0 walk) (order.next - order.taken) (drop order.next pushes) ≡ order_of walk 0 pushes
listed_first walk pushes order e n t =
    ap (λ l. l ++ order_of walk (order.next - order.taken) (drop order.next pushes)) e
    ∙ ap (λ k. order_of walk k (drop order.next pushes)) (let k : order.next - order.taken ≡ 0 = omega (arith, n, t) in k)
    ∙ ap (λ k. order_of walk 0 (drop k pushes)) n

pub merged_first : (asides list : List Stamped) (order : Listing) → order.operations.items ≡ [] → order.next ≡ 0 → order.operations.items ++ merged (drop order.next asides) (drop 0 list) ≡ merged asides list
merged_first asides list order e n = ap (λ l. l ++ merged (drop order.next asides) list) e ∙ ap (λ k. merged (drop k asides) list) n

-- at the end
pub listed_end : (walk : List Went) (pushes : List Stamped) (old now : Listing) (at : ℕ) → length walk ≤ at
    → old.operations.items ++ order_of (drop at walk) (old.next - old.taken) (drop old.next pushes) ≡ order_of walk 0 pushes → Puts pushes (drop old.next pushes) [] old now
    → now.operations.items ≡ order_of walk 0 pushes
listed_end walk pushes old now at l e p = p.operations ∙ ap (λ ws. old.operations.items ++ order_of ws (old.next - old.taken) (drop old.next pushes)) (sym (drop_past walk at l)) ∙ e

pub merged_end : (asides list : List Stamped) (old now : Listing) (at : ℕ) → length list ≤ at → old.operations.items ++ merged (drop old.next asides) (drop at list) ≡ merged asides list
    → Puts asides (drop old.next asides) [] old now → now.operations.items ≡ merged asides list
merged_end asides list old now at l e p = p.operations ∙ ap (λ os. old.operations.items ++ merged (drop old.next asides) os) (sym (drop_past list at l)) ∙ e

-- ---- limits, from behind

none_inside : (xs : List Stamped) (k : ℕ) → k < length xs → slice_get xs k ≡ None → ⊥
none_inside [] k l e = omega (arith, l)
none_inside (x ∷ xs) zero l e = cc e
none_inside (x ∷ xs) (suc k) l e = none_inside xs k (omega (arith, l)) e

pub limits_next : (operations : List Stamped) (limits after : List (Option ℕ)) (limit now : Option ℕ) (place before : ℕ) → place ≡ before + 1 → place ≤ length operations
    → reverse limits ≡ leasts (drop place operations) → limit ≡ least (drop place operations) → now ≡ lowered limit (slice_get operations before) → after ≡ limits ++ now ∷ []
    → (reverse after ≡ leasts (drop before operations)) × (now ≡ least (drop before operations))
limits_next operations limits after limit now place before p l all one lower put = go (slice_get operations before) refl
  where
    inside : before < length operations
    inside = omega (arith, p, l)

    go : (x : Option Stamped) → slice_get operations before ≡ x → (reverse after ≡ leasts (drop before operations)) × (now ≡ least (drop before operations))
    go None e = absurd (none_inside operations before inside e)
    go (Some o) e =
        let d : drop before operations ≡ o ∷ drop place operations = drop_some operations before o e ∙ ap (λ n. o ∷ drop n operations) (sym p) in
        let is : now ≡ least (o ∷ drop place operations) = lower ∙ ap (lowered limit) e ∙ ap (λ l. sooner l o.last) one in
        (ap reverse put ∙ reverse-append limits (now ∷ []) ∙ ap (λ l. now ∷ l) all ∙ ap (λ l. l ∷ leasts (drop place operations)) is ∙ ap leasts (sym d), is ∙ ap least (sym d))

pub limits_none : (operations : List Stamped) (place : ℕ) → place ≡ length operations → ([] ≡ leasts (drop place operations)) × (None ≡ least (drop place operations)) × (place ≤ length operations)
limits_none operations place e = let d = sym (drop_past operations place (omega (arith, e))) in (ap leasts d, ap least d, omega (arith, e))

-- ---- lists that are gathered, by places

pub taken_then : (ws : List Went) (k : ℕ) (w : Went) → slice_get ws k ≡ Some w → taken_of (take (k + 1) ws) ≡ taken_of (take k ws) ++ with_one w.push []
taken_then [] k w e = absurd cc
taken_then (v ∷ ws) zero w e = ap (λ v. with_one v.push []) (same_went v w e)
  where
    same_went : (v w : Went) → Some v ≡ Some w → v ≡ w
    same_went v w e = same_Some v w e
taken_then (v ∷ ws) (suc k) w e = ap (λ n. taken_of (take n (v ∷ ws))) (add-one (suc k)) ∙ ap (λ n. taken_of (v ∷ take n ws)) (sym (add-one k)) ∙ go v.push (taken_then ws k w e)
  where
    go : (p : Option Stamped) → taken_of (take (k + 1) ws) ≡ taken_of (take k ws) ++ with_one w.push [] → with_one p (taken_of (take (k + 1) ws)) ≡ with_one p (taken_of (take k ws)) ++ with_one w.push []
    go None h = h
    go (Some p) h = ap (λ l. p ∷ l) h

pub asides_then : (ws : List Went) (k : ℕ) (w : Went) → slice_get ws k ≡ Some w → asides_of (take (k + 1) ws) ≡ asides_of (take k ws) ++ cond (is_aside w.other.reply) (w.other ∷ []) []
asides_then [] k w e = absurd cc
asides_then (v ∷ ws) zero w e = ap (λ v. cond (is_aside v.other.reply) (v.other ∷ []) []) (same_Some v w e)
asides_then (v ∷ ws) (suc k) w e =
    ap (λ n. asides_of (take n (v ∷ ws))) (add-one (suc k)) ∙ ap (λ n. asides_of (v ∷ take n ws)) (sym (add-one k)) ∙ go (is_aside v.other.reply) (asides_then ws k w e)
  where
    go : (b : Bool) → asides_of (take (k + 1) ws) ≡ asides_of (take k ws) ++ cond (is_aside w.other.reply) (w.other ∷ []) []
        → cond b (v.other ∷ asides_of (take (k + 1) ws)) (asides_of (take (k + 1) ws)) ≡ cond b (v.other ∷ asides_of (take k ws)) (asides_of (take k ws)) ++ cond (is_aside w.other.reply) (w.other ∷ []) []
    go true h = ap (λ l. v.other ∷ l) h
    go false h = h

pub staying_next : (ops : List Stamped) (places : List ℕ) (at : ℕ) → filter has_ended (picked ops (take (at + 1) places)) ≡ filter has_ended (picked ops (take at places)) ++ ended_at ops (slice_get places at)
staying_next ops places at = go (slice_get places at) refl
  where
    go : (place : Option ℕ) → slice_get places at ≡ place → filter has_ended (picked ops (take (at + 1) places)) ≡ filter has_ended (picked ops (take at places)) ++ ended_at ops place
    go None e = ap (λ l. filter has_ended (picked ops l)) (take_none places at e) ∙ sym (append-nil (filter has_ended (picked ops (take at places))))
    go (Some place) e = ap (λ l. filter has_ended (picked ops l)) (take_some places at place e) ∙ ended_next ops (take at places) place
