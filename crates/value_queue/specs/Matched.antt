-- Entries and deeds that go one by one.
use Rattle.std.proofs.Common.{◌≡◌, ℕ, zero, suc, ◌-◌, ◌≤◌, Bool, true, false, cond, nat_eq, List, [], ◌∷◌, ◌++◌, length, take, IsSomeAnd, IsTrue}
use Rattle.std.proofs.Common.{slice_get, sym, refl, ap, subst, ◌∙◌, arith, length-append}
use Rattle.std.specs.Coded.{×_prop}
use Rattle.std.proofs.Math.Nat.{ℕ_set}
use Rattle.std.specs.List.{All}
use Rattle.std.proofs.lemmas.List.Elements.{All-nil, All-cons, All-head, All-tail}
use Rattle.history.specs.declared.operations.Entry.{Entry}
use Rattle.history.specs.declared.operations.Entry.TheVariants.{Push, Pop, Shut}
use Rattle.history.specs.declared.operations.Taken.{Taken}
use Rattle.history.specs.declared.operations.Reply.TheVariants.{Done, Value, Empty, Refused}
use Rattle.history.specs.declared.refusals.Refusal.TheVariants.{Closed}
use Rattle.history.specs.Queue.{Queue}
use Rattle.history.specs.Entries.{Plays, own_entries}
use Rattle.history.specs.Seats.{Permit, IsPermitted}
use Rattle.carriers.specs.declared.items.ItemOf.{ItemOf}
use Rattle.carriers.specs.Deeds.{Deed, did_push, did_pop, did_shut, own_deeds, Runs}
use Rattle.carriers.specs.Knowledge.{IsPermittedDeed}
use Rattle.carriers.specs.DeedsOfNumbers.{Matches}

-- lists of one more element or none
length-cond : {X Y : Type 0} (b c : Bool) (x : X) (y : Y) (xs : List X) (ys : List Y) → b ≡ c → length xs ≡ length ys → length (cond b (x ∷ xs) xs) ≡ length (cond c (y ∷ ys) ys)
length-cond true true x y xs ys e l = ap suc l
length-cond false false x y xs ys e l = l
length-cond true false x y xs ys e l = absurd (let bad : true ≡ false = e in cc)
length-cond false true x y xs ys e l = absurd (let bad : false ≡ true = e in cc)

module _ {A : Type 0} where
  -- that entries and deeds go one by one has at most one proof
  pub Matches-prop : (es : List Entry) (ds : List (Deed A)) → IsProp (Matches es ds)
  Matches-prop [] [] = λ a b. refl
  Matches-prop (Push n b ∷ es) (did_push m x ∷ ds) = ×_prop (ℕ_set m n) (Matches-prop es ds)
  Matches-prop (Pop n t ∷ es) (did_pop m u ∷ ds) = three_prop (ℕ_set m n) (ℕ_set u.from t.from) (Matches-prop es ds)
    where
      three_prop : {X Y Z : Type 0} → IsProp X → IsProp Y → IsProp Z → IsProp (X × Y × Z)
      three_prop x y z a b = λ i. (x a.0 b.0 i, y a.1 b.1 i, z a.2 b.2 i)
  Matches-prop (Shut n ∷ es) (did_shut m ∷ ds) = ×_prop (ℕ_set m n) (Matches-prop es ds)
  Matches-prop es ds = λ a b. absurd a

  -- there are as many of them
  pub length-Matches : (es : List Entry) (ds : List (Deed A)) → Matches es ds → length ds ≡ length es
  length-Matches [] [] h = refl
  length-Matches (Push n b ∷ es) (did_push m x ∷ ds) h = ap suc (length-Matches es ds h.1)
  length-Matches (Pop n t ∷ es) (did_pop m u ∷ ds) h = ap suc (length-Matches es ds h.2)
  length-Matches (Shut n ∷ es) (did_shut m ∷ ds) h = ap suc (length-Matches es ds h.1)
  length-Matches es ds h = absurd h

  -- the first ones of each go one by one too
  pub Matches-take : (n : ℕ) (es : List Entry) (ds : List (Deed A)) → Matches es ds → Matches (take n es) (take n ds)
  Matches-take zero es ds h = tt
  Matches-take (suc k) [] [] h = tt
  Matches-take (suc k) (Push n b ∷ es) (did_push m x ∷ ds) h = (h.0, Matches-take k es ds h.1)
  Matches-take (suc k) (Pop n t ∷ es) (did_pop m u ∷ ds) h = (h.0, h.1, Matches-take k es ds h.2)
  Matches-take (suc k) (Shut n ∷ es) (did_shut m ∷ ds) h = (h.0, Matches-take k es ds h.1)
  Matches-take (suc k) es ds h = absurd h

  -- a seat has as many deeds as entries
  pub length-own : (me : ℕ) (es : List Entry) (ds : List (Deed A)) → Matches es ds → length (own_deeds me ds) ≡ length (own_entries me es)
  length-own me [] [] h = refl
  length-own me (Push n b ∷ es) (did_push m x ∷ ds) h = length-cond (nat_eq m me) (nat_eq n me) (did_push m x) (Push n b) (own_deeds me ds)
      (own_entries me es) (ap (λ k. nat_eq k me) h.0) (length-own me es ds h.1)
  length-own me (Pop n t ∷ es) (did_pop m u ∷ ds) h = length-cond (nat_eq m me) (nat_eq n me) (did_pop m u) (Pop n t) (own_deeds me ds)
      (own_entries me es) (ap (λ k. nat_eq k me) h.0) (length-own me es ds h.2)
  length-own me (Shut n ∷ es) (did_shut m ∷ ds) h = length-cond (nat_eq m me) (nat_eq n me) (did_shut m) (Shut n) (own_deeds me ds)
      (own_entries me es) (ap (λ k. nat_eq k me) h.0) (length-own me es ds h.1)
  length-own me es ds h = absurd h

  -- each deed is permitted where its entry is
  pub permitted-Matches : (permits : List Permit) (es : List Entry) (ds : List (Deed A)) → Matches es ds → All (IsPermitted permits) es → All (IsPermittedDeed permits) ds
  permitted-Matches permits [] [] h may = All-nil (IsPermittedDeed permits)
  permitted-Matches permits (Push n b ∷ es) (did_push m x ∷ ds) h may =
      All-cons (IsPermittedDeed permits) (did_push m x) ds (subst (λ k. (1 ≤ k) × IsSomeAnd (slice_get permits (k - 1)) (λ p. IsTrue p.pushes))
      (sym h.0) (All-head (IsPermitted permits) (Push n b) es may)) (permitted-Matches permits es ds h.1
      (All-tail (IsPermitted permits) (Push n b) es may))
  permitted-Matches permits (Pop n t ∷ es) (did_pop m u ∷ ds) h may =
      All-cons (IsPermittedDeed permits) (did_pop m u) ds (subst (λ k. (1 ≤ k) × IsSomeAnd (slice_get permits (k - 1)) (λ p. IsTrue p.pops)) (sym h.0)
      (All-head (IsPermitted permits) (Pop n t) es may)) (permitted-Matches permits es ds h.2 (All-tail (IsPermitted permits) (Pop n t) es may))
  permitted-Matches permits (Shut n ∷ es) (did_shut m ∷ ds) h may =
      All-cons (IsPermittedDeed permits) (did_shut m) ds (subst (λ k. (1 ≤ k) × IsSomeAnd (slice_get permits (k - 1)) (λ p. IsTrue p.pushes))
      (sym h.0) (All-head (IsPermitted permits) (Shut n) es may)) (permitted-Matches permits es ds h.1
      (All-tail (IsPermitted permits) (Shut n) es may))
  permitted-Matches permits es ds h may = absurd h

  -- entries and deeds that go one by one leave as many values, and shut both queues or neither
  pub left-Matches : (es : List Entry) (ds : List (Deed A)) (shut : Bool) (vs : List Taken) (q : List (ItemOf A)) (after : Queue)
      (q' : List (ItemOf A)) (shut' : Bool) → length vs ≡ length q → Plays (record { values = vs; shut = shut }) es after → Runs q shut ds q' shut'
      → Matches es ds → (length after.values ≡ length q') × (after.shut ≡ shut')
  left-Matches [] [] shut vs q after q' shut' long h k m = (sym (ap (λ (x : Queue). length x.values) h) ∙ (long ∙ ap length k.0), sym (ap (λ (x : Queue). x.shut) h) ∙ k.1)
  left-Matches (Push n b ∷ es) (did_push m x ∷ ds) false vs q after q' shut' long h k e =
      left-Matches es ds false (vs ++ record { from = n; body = b } ∷ []) (q ++ record { from = m; value = x } ∷ []) after q' shut'
      (let l : length vs ≡ length q = long in omega (
        arith,
        l,
        length-append vs (record { from = n; body = b } ∷ []),
        length-append q (record { from = m; value = x } ∷ []),
      )) h.1 k.1 e.1
  left-Matches (Push n b ∷ es) (did_push m x ∷ ds) true vs q after q' shut' long h k e = absurd (let bad : Refused Closed ≡ Done = h.0 in cc)
  left-Matches (Pop n t ∷ es) (did_pop m u ∷ ds) shut (v ∷ vs) q after q' shut' long h k e =
      left-Matches es ds shut vs k.0 after q' shut' (let l : length (v ∷ vs) ≡ length (u ∷ k.0) = long ∙ ap length k.1 in omega (arith, l)) h.1 k.2 e.2
  left-Matches (Pop n t ∷ es) (did_pop m u ∷ ds) false [] q after q' shut' long h k e = absurd (let bad : Empty ≡ Value t = h.0 in cc)
  left-Matches (Pop n t ∷ es) (did_pop m u ∷ ds) true [] q after q' shut' long h k e = absurd (let bad : Refused Closed ≡ Value t = h.0 in cc)
  left-Matches (Shut n ∷ es) (did_shut m ∷ ds) false vs q after q' shut' long h k e = left-Matches es ds true vs q after q' shut' long h.1 k.1 e.1
  left-Matches (Shut n ∷ es) (did_shut m ∷ ds) true vs q after q' shut' long h k e = absurd (let bad : Refused Closed ≡ Done = h.0 in cc)
  left-Matches es ds shut vs q after q' shut' long h k e = absurd e

  -- behind entries and deeds that go one by one others do
  pub Matches-rest : (es fs : List Entry) (ds gs : List (Deed A)) → Matches es ds → Matches (es ++ fs) (ds ++ gs) → Matches fs gs
  Matches-rest [] fs [] gs h k = k
  Matches-rest (Push n b ∷ es) fs (did_push m x ∷ ds) gs h k = Matches-rest es fs ds gs h.1 k.1
  Matches-rest (Pop n t ∷ es) fs (did_pop m u ∷ ds) gs h k = Matches-rest es fs ds gs h.2 k.2
  Matches-rest (Shut n ∷ es) fs (did_shut m ∷ ds) gs h k = Matches-rest es fs ds gs h.1 k.1
  Matches-rest es fs ds gs h k = absurd h

  -- and where entries end with a shut, deeds do
  pub ends_shut : (es : List Entry) (n : ℕ) (ds : List (Deed A)) → Matches (es ++ Shut n ∷ []) ds → (before : List (Deed A)) × (ds ≡ before ++ did_shut n ∷ [])
  ends_shut [] n (did_shut m ∷ []) h = ([], ap (λ k. did_shut k ∷ []) h.0)
  ends_shut [] n (did_shut m ∷ d ∷ ds) h = absurd h.1
  ends_shut (Push a b ∷ es) n (did_push m x ∷ ds) h = let e = ends_shut es n ds h.1 in (did_push m x ∷ e.0, ap (λ y. did_push m x ∷ y) e.1)
  ends_shut (Pop a t ∷ es) n (did_pop m u ∷ ds) h = let e = ends_shut es n ds h.2 in (did_pop m u ∷ e.0, ap (λ y. did_pop m u ∷ y) e.1)
  ends_shut (Shut a ∷ es) n (did_shut m ∷ ds) h = let e = ends_shut es n ds h.1 in (did_shut m ∷ e.0, ap (λ y. did_shut m ∷ y) e.1)
  ends_shut es n ds h = absurd h
