-- Spread stamps are in the order of those that they were made of.
use Rattle.std.proofs.Common.{◌≡◌, inl, inr, ℕ, ◌+◌, ◌*◌, ◌≤◌, ◌<◌, Bool, true, false, nat_lt, Option, None, Some, IfSome, List, slice_get, get_or, refl, sym, ap, ◌∙◌, subst, arith}
use Rattle.std.specs.Prelude.{◌↔◌}
use Rattle.std.specs.List.{AllZip}
use Rattle.std.specs.List.Sorted.{IsStrictlyIncreasing}
use Rattle.std.proofs.Math.Nat.{mul-le-mul_right}
use Rattle.std.proofs.lemmas.Bool.{ltb-true, ltb-false}
use Rattle.std.proofs.lemmas.List.Kept.{AllPairs-from_increasing}
use Rattle.std.proofs.lemmas.List.Elements.{AllZip-get_or}
use Rattle.std.proofs.lemmas.Option.{slice_get_within, get_or_from_slice_get}
use Rattle.history.specs.declared.operations.Stamped.{Stamped}
use Rattle.placing.specs.SpreadStamps.{EndsSo, IsStampedSo, IsKept, IsFirstOf, IsLastOf, IsSpread, AreInOrder, KeepsEachOrder}

-- the items of two lists at one place are related where the lists are, item by item
zip_at : {X : Type 0} (R : X → X → Type 0) (xs ys : List X) (i : ℕ) (x y : X) → AllZip R xs ys → slice_get xs i ≡ Some x → slice_get ys i ≡ Some y → R x y
zip_at R xs ys i x y each there here =
    subst (λ a. R a y) (get_or_from_slice_get xs i x x there)
    (subst (R (get_or xs i x)) (get_or_from_slice_get ys i y y here) (AllZip-get_or R xs ys i x y each (slice_get_within xs i x there)))

-- how the stamps of two operations are made lets them keep their order
pub record Orders (First Last : ℕ → ℕ → Type 0) : Type 0 where
  pub firsts : (n m x y : ℕ) → First n x → First m y → AreInOrder n m x y
  pub lasts : (n m x y : ℕ) → Last n x → Last m y → AreInOrder n m x y
  pub before : (n m x y : ℕ) → Last n x → First m y → n < m ↔ x < y

pub kept_orders : Orders IsKept IsKept
kept_orders = record {
  firsts = λ n m x y a b. ((λ h. omega (arith, a, b, h), λ h. omega (arith, a, b, h)), (λ h. omega (arith, a, b, h), λ h. omega (arith, a, b, h)));
  lasts = λ n m x y a b. ((λ h. omega (arith, a, b, h), λ h. omega (arith, a, b, h)), (λ h. omega (arith, a, b, h), λ h. omega (arith, a, b, h)));
  before = λ n m x y a b. (λ h. omega (arith, a, b, h), λ h. omega (arith, a, b, h));
}

-- ---- numbers by their ranks

module _ (numbers : List ℕ) (width : ℕ) (rises : IsStrictlyIncreasing numbers) (wide : 1 ≤ width) where
  -- what is at a later rank is greater
  higher : (i j n m : ℕ) → slice_get numbers i ≡ Some n → slice_get numbers j ≡ Some m → i < j → n < m
  higher i j n m a b less =
      let k = AllPairs-from_increasing numbers rises i j 0 less (slice_get_within numbers j m b) in
      let x : get_or numbers i 0 ≡ n = get_or_from_slice_get numbers i n 0 a in
      let y : get_or numbers j 0 ≡ m = get_or_from_slice_get numbers j m 0 b in
      omega (arith, k, x, y)

  same : (i j n m : ℕ) → slice_get numbers i ≡ Some n → slice_get numbers j ≡ Some m → i ≡ j → n ≡ m
  same i j n m a b e =
      let x : get_or numbers i 0 ≡ n = get_or_from_slice_get numbers i n 0 a in
      let y : get_or numbers j 0 ≡ m = get_or_from_slice_get numbers j m 0 b in
      sym x ∙ ap (λ k. get_or numbers k 0) e ∙ y

  -- ranks are in the order of what is there
  rank_lower : (i j n m : ℕ) → slice_get numbers i ≡ Some n → slice_get numbers j ≡ Some m → n < m → i < j
  rank_lower i j n m a b less = go (nat_lt i j) refl
    where
      go : (w : Bool) → nat_lt i j ≡ w → i < j
      go true e = ltb-true _ _ e
      go false e = more (nat_lt j i) refl
        where
          more : (w : Bool) → nat_lt j i ≡ w → i < j
          more true d = let k = higher j i m n b a (ltb-true _ _ d) in absurd (omega (arith, k, less))
          more false d =
              let p = ltb-false _ _ e in
              let q = ltb-false _ _ d in
              let k = same i j n m a b (omega (arith, p, q)) in
              absurd (omega (arith, k, less))

  rank_same : (i j n m : ℕ) → slice_get numbers i ≡ Some n → slice_get numbers j ≡ Some m → n ≡ m → i ≡ j
  rank_same i j n m a b e = go (nat_lt i j) refl
    where
      go : (w : Bool) → nat_lt i j ≡ w → i ≡ j
      go true d = let k = higher i j n m a b (ltb-true _ _ d) in absurd (omega (arith, k, e))
      go false d = more (nat_lt j i) refl
        where
          more : (w : Bool) → nat_lt j i ≡ w → i ≡ j
          more true c = let k = higher j i m n b a (ltb-true _ _ c) in absurd (omega (arith, k, e))
          more false c =
              let p = ltb-false _ _ d in
              let q = ltb-false _ _ c in
              omega (arith, p, q)

  -- the numbers that one becomes end before those begin that the next one becomes
  apart : (i j : ℕ) → i < j → i * width + width ≤ j * width
  apart i j less = let most : (i + 1) * width ≤ j * width = mul-le-mul_right {m = i + 1} {n = j} width (omega (arith, less)) in omega (arith, most)

  not_after : (i j : ℕ) → i ≤ j → i * width ≤ j * width
  not_after i j le = mul-le-mul_right {m = i} {n = j} width le

  -- numbers at one distance from the first of those that two become are in their order
  alike : (behind i j n m x y : ℕ) → slice_get numbers i ≡ Some n → slice_get numbers j ≡ Some m → x ≡ i * width + behind → y ≡ j * width + behind → AreInOrder n m x y
  alike behind i j n m x y a b c d = ((less, less_back), (equal, equal_back))
    where
      less : n < m → x < y
      less h = let k = apart i j (rank_lower i j n m a b h) in omega (arith, k, c, d, wide)

      less_back : x < y → n < m
      less_back h = go (nat_lt i j) refl
        where
          go : (w : Bool) → nat_lt i j ≡ w → n < m
          go true e = higher i j n m a b (ltb-true _ _ e)
          go false e = let k = not_after j i (ltb-false _ _ e) in absurd (omega (arith, k, c, d, h))

      equal : n ≡ m → x ≡ y
      equal h = c ∙ ap (λ k. k * width + behind) (rank_same i j n m a b h) ∙ sym d

      equal_back : x ≡ y → n ≡ m
      equal_back h = go (nat_lt i j) refl
        where
          go : (w : Bool) → nat_lt i j ≡ w → n ≡ m
          go true e = let k = apart i j (ltb-true _ _ e) in absurd (omega (arith, k, c, d, wide, h))
          go false e = more (nat_lt j i) refl
            where
              more : (w : Bool) → nat_lt j i ≡ w → n ≡ m
              more true f = let k = apart j i (ltb-true _ _ f) in absurd (omega (arith, k, c, d, wide, h))
              more false f =
                  let p = ltb-false _ _ e in
                  let q = ltb-false _ _ f in
                  same i j n m a b (omega (arith, p, q))

  last_before : (n m x y : ℕ) → IsLastOf numbers width n x → IsFirstOf numbers width m y → n < m ↔ x < y
  last_before n m x y a b = (less, less_back)
    where
      c : x ≡ a.rank * width + width
      c = a.is

      d : y ≡ b.rank * width + 1
      d = b.is

      less : n < m → x < y
      less h = let k = apart a.rank b.rank (rank_lower a.rank b.rank n m a.there b.there h) in omega (arith, k, c, d)

      less_back : x < y → n < m
      less_back h = go (nat_lt a.rank b.rank) refl
        where
          go : (w : Bool) → nat_lt a.rank b.rank ≡ w → n < m
          go true e = higher a.rank b.rank n m a.there b.there (ltb-true _ _ e)
          go false e = let k = not_after b.rank a.rank (ltb-false _ _ e) in absurd (omega (arith, k, c, d, h, wide))

  pub spread_orders : Orders (IsFirstOf numbers width) (IsLastOf numbers width)
  spread_orders = record {
    firsts = λ n m x y a b. alike 1 a.rank b.rank n m x y a.there b.there a.is b.is;
    lasts = λ n m x y a b. alike width a.rank b.rank n m x y a.there b.there a.is b.is;
    before = last_before;
  }

-- ---- operations

module _ (First Last : ℕ → ℕ → Type 0) (orders : Orders First Last) where
  last_orders : (o p a b : Option ℕ) → EndsSo Last o a → EndsSo Last p b → IfSome o (λ n. IfSome p (λ m. IfSome a (λ x. IfSome b (AreInOrder n m x))))
  last_orders None p a b h k = tt
  last_orders (Some n) None a b h k = tt
  last_orders (Some n) (Some m) None b h k = tt
  last_orders (Some n) (Some m) (Some x) None h k = tt
  last_orders (Some n) (Some m) (Some x) (Some y) h k = orders.lasts n m x y h k

  ends_before : (o a : Option ℕ) (m y : ℕ) → EndsSo Last o a → First m y → IfSome o (λ n. IfSome a (λ x. n < m ↔ x < y))
  ends_before None a m y h k = tt
  ends_before (Some n) None m y h k = tt
  ends_before (Some n) (Some x) m y h k = orders.before n m x y h k

  stamps_keep : (ops new : List Stamped) → AllZip (IsStampedSo First Last) ops new → KeepsEachOrder ops new
  stamps_keep ops new each i j o p a b io jp ia jb =
      let h = zip_at (IsStampedSo First Last) ops new i o a each io ia in
      let k = zip_at (IsStampedSo First Last) ops new j p b each jp jb in
      record {
        firsts = orders.firsts o.first p.first a.first b.first h.first k.first;
        lasts = last_orders o.last p.last a.last b.last h.last k.last;
        before = ends_before o.last a.last p.first b.first h.last k.first;
      }

pub keeps_each_order : (ops new : List Stamped) → IsSpread ops new → KeepsEachOrder ops new
keeps_each_order ops new (inl kept) = stamps_keep IsKept IsKept kept_orders ops new kept
keeps_each_order ops new (inr s) = stamps_keep (IsFirstOf s.numbers s.width) (IsLastOf s.numbers s.width) (spread_orders s.numbers s.width s.rises s.wide) ops new s.each
