-- Points put in one after another along an order.
use Rattle.std.proofs.Common.{◌≡◌, ℕ, zero, suc, ◌+◌, ◌≤◌, ◌<◌, max, true, ◌⊎◌, inl, inr, Option, None, Some, IfSome, option_map, List, [], ◌∷◌, ◌++◌}
use Rattle.std.proofs.Common.{map, take, drop, get_or, length, replicate, slice_get, slice_set, refl, sym, ◌∙◌, ap, subst, arith, add-one, All}
use Rattle.std.proofs.Common.{Ordering}
use Rattle.std.specs.Option.{option_flatten}
use Rattle.std.specs.List.{Contains, ItemBy}
use Rattle.std.specs.Ordering.{nat_cmp}
use Rattle.std.specs.declared.cmp.Ordering.TheVariants.{Less, Equal, Greater}
use Rattle.std.proofs.Math.Nat.{max-zero, max-eq_left, max-eq_right}
use Rattle.std.proofs.Math.Seq.{take-suc, drop-cons, take-append_seam}
use Rattle.std.proofs.lemmas.Bool.{ltb-true}
use Rattle.std.proofs.lemmas.Cmp.{ranked}
use Rattle.std.proofs.lemmas.List.Elements.{All-contains}
use Rattle.std.proofs.lemmas.Option.{slice_get_past, slice_get_read}
use Rattle.history.specs.declared.operations.Stamped.{Stamped}
use Rattle.placing.specs.Kinds.{ended_before}
use Rattle.placing.specs.SpreadStamps.{IsOfNumbers}
use Rattle.placing.specs.Orders.{NoneEndsTooSoon, IsBehindFirst, PutsPoints, ArePoints}
use Rattle.placing.proofs.Indices.{one_value, at_has, has_contains, no_points}

pub length_slice_set : {X : Type 0} (xs : List X) (i : ℕ) (x : X) → length (slice_set xs i x) ≡ length xs
length_slice_set [] i x = refl
length_slice_set (y ∷ ys) zero x = refl
length_slice_set (y ∷ ys) (suc i) x = ap suc (length_slice_set ys i x)

-- points are put in for the first operations of an order, up to one
pub record IsPut (ops : List Stamped) (numbers : List ℕ) (width : ℕ) (order : List ℕ) (before begun : ℕ) (points : List (Option ℕ)) : Type 0 where
  pub goes : (new : List (Option ℕ)) → PutsPoints ops numbers width begun before (drop before order) points new → ArePoints ops numbers width order new
  pub time : NoneEndsTooSoon ops 0 order → NoneEndsTooSoon ops begun (drop before order)
  pub used : (begun ≡ 0) ⊎ Contains numbers begun
  pub long : length points ≡ length ops

as_long : (n : ℕ) → length (no_points n) ≡ n
as_long zero = refl
as_long (suc n) = ap suc (as_long n)

pub none_put : (ops : List Stamped) (numbers : List ℕ) (width : ℕ) (order : List ℕ) (points : List (Option ℕ)) → points ≡ replicate (length ops) None
    → IsPut ops numbers width order 0 0 points
none_put ops numbers width order points e = record {
  goes = λ new h. subst (λ p. PutsPoints ops numbers width 0 0 order p new) e h;
  time = λ h. h;
  used = inl refl;
  long = ap length e ∙ as_long (length ops);
}

none_is_some : (o : Stamped) → None ≡ Some o → ⊥
none_is_some o e = cc e

not_before : (time : ℕ) (last : Option ℕ) → IfSome last (λ l. time ≤ l) → ended_before time last ≡ true → ⊥
not_before time None h e = cc e
not_before time (Some l) h e = let k : l < time = ltb-true _ _ e in omega (arith, h, k)

one_of : (numbers : List ℕ) (a b : ℕ) → Contains numbers a → (b ≡ 0) ⊎ Contains numbers b → Contains numbers (max a b)
one_of numbers a b ca (inl z) = subst (Contains numbers) (sym (max-zero a) ∙ ap (max a) (sym z)) ca
one_of numbers a b ca (inr cb) = go (nat_cmp a b) refl
  where
    go : (r : Ordering) → nat_cmp a b ≡ r → Contains numbers (max a b)
    go Less e = let l : a < b = ranked a b Less (sym e) in subst (Contains numbers) (sym (max-eq_right (omega (arith, l)))) cb
    go Equal e = let l : a ≡ b = ranked a b Equal (sym e) in subst (Contains numbers) (sym (max-eq_right (omega (arith, l)))) cb
    go Greater e = let l : b < a = ranked a b Greater (sym e) in subst (Contains numbers) (sym (max-eq_left (omega (arith, l)))) ca

module _ (ops : List Stamped) (numbers : List ℕ) (width : ℕ) (order : List ℕ) (before begun : ℕ) (points : List (Option ℕ))
    (put : IsPut ops numbers width order before begun points) (within : before < length order) where
  abbrev index : ℕ
  index = get_or order before 0

  rest_is : drop before order ≡ index ∷ drop (before + 1) order
  rest_is = rw (add-one, drop-cons order before 0 within) refl

  -- the next operation of an order in which none ends too soon
  next_in_time : NoneEndsTooSoon ops 0 order → (o : Stamped) × (slice_get ops index ≡ Some o) × IfSome o.last (λ last. max o.first begun ≤ last)
  next_in_time h =
      let u : NoneEndsTooSoon ops begun (index ∷ drop (before + 1) order) = subst (NoneEndsTooSoon ops begun) rest_is (put.time h) in
      (u.0, u.1, u.2)

  pub is_there : slice_get ops index ≡ None → NoneEndsTooSoon ops 0 order → ⊥
  is_there e h = let n = next_in_time h in none_is_some n.0 (sym e ∙ n.1)

  pub is_in_time : (o : Stamped) (later : ℕ) → slice_get ops index ≡ Some o → later ≡ max o.first begun → ended_before later o.last ≡ true
      → NoneEndsTooSoon ops 0 order → ⊥
  is_in_time o later e l soon h =
      let n = next_in_time h in
      let same : n.0 ≡ o = one_value n.0 o (sym n.1 ∙ e) in
      not_before later o.last (subst (λ b. IfSome o.last (λ last. b ≤ last)) (sym l) (subst (λ q. IfSome q.last (λ last. max q.first begun ≤ last)) same n.2)) soon

  -- the greatest first step up to the next operation is used
  pub next_used : (o : Stamped) → All (IsOfNumbers numbers) ops → slice_get ops index ≡ Some o → Contains numbers (max o.first begun)
  next_used o all e = one_of numbers o.first begun (All-contains (IsOfNumbers numbers) ops o all (has_contains ops o (at_has ops index o e))).first put.used

  -- the point of the next one is put in
  pub one_put : (o : Stamped) (at later : ℕ) (new : List (Option ℕ)) → All (IsOfNumbers numbers) ops → slice_get ops index ≡ Some o → later ≡ max o.first begun
      → IsBehindFirst numbers width later before at → new ≡ slice_set points index (Some at) → IsPut ops numbers width order (before + 1) later new
  one_put o at later new all e l behind n = record {
    goes = goes;
    time = time;
    used = inr (subst (Contains numbers) (sym l) (next_used o all e));
    long = ap length n ∙ length_slice_set points index (Some at) ∙ put.long;
  }
    where
      goes : (end : List (Option ℕ)) → PutsPoints ops numbers width later (before + 1) (drop (before + 1) order) new end → ArePoints ops numbers width order end
      goes end h =
          let here : PutsPoints ops numbers width (max o.first begun) (before + 1) (drop (before + 1) order) (slice_set points index (Some at)) end =
          subst (λ b. PutsPoints ops numbers width b (before + 1) (drop (before + 1) order) (slice_set points index (Some at)) end) l
          (subst (λ p. PutsPoints ops numbers width later (before + 1) (drop (before + 1) order) p end) n h) in
          put.goes end (subst (λ r. PutsPoints ops numbers width begun before r points end) (sym rest_is)
          (o, e, at, subst (λ b. IsBehindFirst numbers width b before at) l behind, here))

      time : NoneEndsTooSoon ops 0 order → NoneEndsTooSoon ops later (drop (before + 1) order)
      time h =
          let u : NoneEndsTooSoon ops begun (index ∷ drop (before + 1) order) = subst (NoneEndsTooSoon ops begun) rest_is (put.time h) in
          let same : u.0 ≡ o = one_value u.0 o (sym u.1 ∙ e) in
          subst (λ b. NoneEndsTooSoon ops b (drop (before + 1) order)) (ap (λ q. max q.first begun) same ∙ sym l) u.3

drop_all : (order : List ℕ) (n : ℕ) → length order ≤ n → drop n order ≡ []
drop_all [] zero l = refl
drop_all [] (suc n) l = refl
drop_all (i ∷ order) zero l = absurd (omega (arith, l))
drop_all (i ∷ order) (suc n) l = drop_all order n (omega (arith, l))

-- all are put in
pub all_put : (ops : List Stamped) (numbers : List ℕ) (width : ℕ) (order : List ℕ) (before begun : ℕ) (points : List (Option ℕ))
    → IsPut ops numbers width order before begun points → length order ≤ before → ArePoints ops numbers width order points
all_put ops numbers width order before begun points put all =
    put.goes points (subst (λ r. PutsPoints ops numbers width begun before r points points) (sym (drop_all order before all)) refl)

-- what is written back to a vector
pub written : (n : ℕ) (items new : List (Option ℕ)) → n ≡ length items → length new ≡ length items → take n (new ++ drop (length new) items) ≡ new
written n items new e l = ap (λ k. take k (new ++ drop (length new) items)) (e ∙ sym l) ∙ take-append_seam new (drop (length new) items)

-- what is lent at an index of a list is what is there
pub lent_at : {R X : Type 0} (now : R → X) (xs : List X) (i : ℕ) (r : Option R) → ItemBy now xs i i r → option_map now r ≡ slice_get xs i
lent_at now xs i None h = sym (slice_get_past xs i h.3)
lent_at now xs i (Some x) h = sym (slice_get_read xs (length xs) i (now x) refl h.3.0 h.1)

-- the points of a history so far, with those of one more
pub points_more : (points : List (Option ℕ)) (old new : List Stamped) (o : Stamped) (i : ℕ) → i < length points → o.at ≡ option_flatten (slice_get points i)
    → map (λ p. p.at) old ≡ take i points → new ≡ old ++ o ∷ [] → map (λ p. p.at) new ≡ take (i + 1) points
points_more points old new o i within at so n =
    ap (map (λ p. p.at)) n ∙ mapped_push old ∙ ap (λ l. l ++ o.at ∷ []) so ∙ ap (λ a. take i points ++ a ∷ []) (at ∙ there points i within None) ∙ sym more
  where
    mapped_push : (ps : List Stamped) → map (λ p. p.at) (ps ++ o ∷ []) ≡ map (λ p. p.at) ps ++ o.at ∷ []
    mapped_push [] = refl
    mapped_push (p ∷ ps) = ap (λ l. p.at ∷ l) (mapped_push ps)

    there : (ps : List (Option ℕ)) (k : ℕ) → k < length ps → (d : Option ℕ) → option_flatten (slice_get ps k) ≡ get_or ps k d
    there [] k l d = absurd (omega (arith, l))
    there (p ∷ ps) zero l d = refl
    there (p ∷ ps) (suc k) l d = there ps k (omega (arith, l)) d

    more : take (i + 1) points ≡ take i points ++ get_or points i None ∷ []
    more = rw (add-one, take-suc points i None within) refl
