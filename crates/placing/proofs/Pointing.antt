-- An order by which a history is one of a queue gets points, all stamps spread, that are judged Yes.
use Rattle.std.proofs.Common.{◌≡◌, ℕ, zero, suc, ◌+◌, ◌*◌, ◌≤◌, ◌<◌, max, inl, inr, Option, None, Some, Result, Ok, Err, IfOk, IfSome, IsSome}
use Rattle.std.proofs.Common.{IsSomeAnd, is_some, option_map, List, [], ◌∷◌, map, length, replicate, slice_get, slice_set, All, refl, sym, ◌∙◌, ap}
use Rattle.std.proofs.Common.{subst, arith}
use Rattle.std.specs.Prelude.{◌↔◌}
use Rattle.std.specs.List.{AllByRecursion, AllZip}
use Rattle.std.specs.List.Sorted.{IsStrictlyIncreasing}
use Rattle.std.proofs.Math.Nat.{le-max_left, le-max_right}
use Rattle.std.proofs.lemmas.Bool.Decides.{eqb_tells}
use Rattle.std.proofs.lemmas.List.Elements.{All-contains}
use Rattle.std.proofs.lemmas.Option.{slice_get-map, slice_get_within}
use Rattle.history.specs.declared.operations.Stamped.{Stamped}
use Rattle.history.specs.declared.operations.Verdict.TheVariants.{Yes}
use Rattle.history.specs.Queue.{empty}
use Rattle.history.specs.History.{IsPlaced, AreApart, IsSequentialRun, by_point, verdict}
use Rattle.history.specs.Linearizability.{IsPending}
use Rattle.history.proofs.Judged.{right_is_yes}
use Rattle.placing.specs.Faults.{IsFaultless}
use Rattle.placing.specs.SpreadStamps.{EndsSo, IsFirstOf, IsLastOf, IsSpreadFrom, SpreadsAll}
use Rattle.placing.specs.Orders.{with_found, picked, IsOrder, NoneEndsTooSoon, IsBehindFirst, PutsPoints, ArePoints}
use Rattle.placing.proofs.InOrder.{Orders, spread_orders}
use Rattle.placing.proofs.Risen.{Has, RiseFrom, risen, by_point_has, has_by_point, by_point_rises, one_rising}
use Rattle.placing.proofs.Indices.{one_value, not_none, set_other, set_there, at_has, has_at, has_or_not, contains_has, has_contains, AreOnce}
use Rattle.placing.proofs.Indices.{are_once, few, replicated, mapped, IsSame, zip_get, zip_back, picked_has, has_picked, same_runs, ends_told}
use Rattle.placing.proofs.Indices.{not_less, none_ends_too_soon, zero_is_least, apart_by_index, no_points, replicate_some}

-- ---- points

-- the points in a list of the operations of an order rise, each from a number on
abbrev RiseAlong : List (Option ℕ) → (low : ℕ) → List ℕ → Type 0
RiseAlong points low [] = Unit {0}
RiseAlong points low (i ∷ order) = (at : ℕ) × (slice_get points i ≡ Some (Some at)) × (low ≤ at) × RiseAlong points (suc at) order

along : (points : List (Option ℕ)) (low : ℕ) (order : List ℕ) (i : ℕ) → RiseAlong points low order → Has order i
    → (at : ℕ) × (slice_get points i ≡ Some (Some at)) × (low ≤ at)
along points low [] i h m = absurd m
along points low (k ∷ order) i h (inl e) = (h.0, ap (slice_get points) (sym e) ∙ h.1, h.2)
along points low (k ∷ order) i h (inr m) =
    let r = along points (suc h.0) order i h.3 m in
    let above : suc h.0 ≤ r.0 = r.2 in
    let from : low ≤ h.0 = h.2 in
    (r.0, r.1, omega (arith, above, from))

-- two of an order that have one point are one
behind_itself : (points : List (Option ℕ)) (a at : ℕ) (order : List ℕ) (i k : ℕ) → RiseAlong points (suc a) order → slice_get points k ≡ Some (Some a)
    → slice_get points i ≡ Some (Some at) → slice_get points k ≡ Some (Some at) → Has order i → ⊥
behind_itself points a at order i k h e f g m =
    let r = along points (suc a) order i h m in
    let above : suc a ≤ r.0 = r.2 in
    let same : r.0 ≡ at = one_value r.0 at (one_value (Some r.0) (Some at) (sym r.1 ∙ f)) in
    let own : a ≡ at = one_value a at (one_value (Some a) (Some at) (sym e ∙ g)) in
    omega (arith, above, same, own)

one_index : (points : List (Option ℕ)) (low at : ℕ) (order : List ℕ) (i j : ℕ) → RiseAlong points low order
    → slice_get points i ≡ Some (Some at) → slice_get points j ≡ Some (Some at) → Has order i → Has order j → i ≡ j
one_index points low at [] i j h e f m n = absurd m
one_index points low at (k ∷ order) i j h e f (inl a) (inl b) = sym a ∙ b
one_index points low at (k ∷ order) i j h e f (inl a) (inr n) =
    absurd (behind_itself points h.0 at order j k h.3 h.1 f (ap (slice_get points) a ∙ e) n)
one_index points low at (k ∷ order) i j h e f (inr m) (inl b) =
    absurd (behind_itself points h.0 at order i k h.3 h.1 e (ap (slice_get points) b ∙ f) m)
one_index points low at (k ∷ order) i j h e f (inr m) (inr n) = one_index points (suc h.0) at order i j h.3 e f m n

-- an operation that is put in has its point, as it was put in
put_apart : (ops : List Stamped) (numbers : List ℕ) (width begun before : ℕ) (order : List ℕ) (old new : List (Option ℕ)) (j : ℕ)
    → PutsPoints ops numbers width begun before order old new → (Has order j → ⊥) → slice_get new j ≡ slice_get old j
put_apart ops numbers width begun before [] old new j h out = ap (λ l. slice_get l j) h
put_apart ops numbers width begun before (i ∷ order) old new j h out =
    put_apart ops numbers width (max (h.0).first begun) (before + 1) order (slice_set old i (Some h.2)) new j h.4 (λ m. out (inr m))
    ∙ set_other old i j (Some h.2) (λ e. out (inl e))

-- where an operation's point is
record HasPoint (ops : List Stamped) (numbers : List ℕ) (width : ℕ) (points : List (Option ℕ)) (i : ℕ) : Type 0 where
  o : Stamped
  there : slice_get ops i ≡ Some o
  begun : ℕ
  behind : ℕ
  at : ℕ
  is : IsBehindFirst numbers width begun behind at
  not_before : o.first ≤ begun
  not_after : IfSome o.last (λ last. begun ≤ last)
  within : behind < width
  got : slice_get points i ≡ Some (Some at)

module _ (ops : List Stamped) (numbers : List ℕ) (width : ℕ) (rises : IsStrictlyIncreasing numbers) (wide : 1 ≤ width) where
  orders : Orders (IsFirstOf numbers width) (IsLastOf numbers width)
  orders = spread_orders numbers width rises wide

  firsts_rise : (n m x y : ℕ) → IsFirstOf numbers width n x → IsFirstOf numbers width m y → n ≤ m → x ≤ y
  firsts_rise n m x y a b le = not_less y x (λ less. let k = (orders.firsts m n y x b a).0.1 less in omega (arith, k, le))

  lasts_rise : (n m x y : ℕ) → IsLastOf numbers width n x → IsLastOf numbers width m y → n ≤ m → x ≤ y
  lasts_rise n m x y a b le = not_less y x (λ less. let k = (orders.lasts m n y x b a).0.1 less in omega (arith, k, le))

  long_set : (old : List (Option ℕ)) (i j : ℕ) (x : Option ℕ) → ((o : Stamped) → slice_get ops j ≡ Some o → IsSome (slice_get old j))
      → (o : Stamped) → slice_get ops j ≡ Some o → IsSome (slice_get (slice_set old i x) j)
  long_set old i j x all o e = elim (eqb_tells i j) [
    | inl p ↦ go (slice_get old j) refl (all o e) p.1
    | inr p ↦ subst IsSome (sym (set_other old i j x p.1)) (all o e)
  ]
    where
      go : (a : Option (Option ℕ)) → slice_get old j ≡ a → IsSome a → i ≡ j → IsSome (slice_get (slice_set old i x) j)
      go None f s same = absurd (cc s)
      go (Some y) f s same = ap is_some (ap (λ k. slice_get (slice_set old k x) j) same ∙ set_there old j x y f)

  -- each operation of the order has the point that was put in
  put_point : (begun before : ℕ) (order : List ℕ) (old new : List (Option ℕ)) (i : ℕ) → PutsPoints ops numbers width begun before order old new
      → NoneEndsTooSoon ops begun order → AreOnce order → ((j : ℕ) (o : Stamped) → slice_get ops j ≡ Some o → IsSome (slice_get old j))
      → before + length order ≤ width → Has order i → HasPoint ops numbers width new i
  put_point begun before [] old new i h time once long room m = absurd m
  put_point begun before (k ∷ order) old new i h time once long room (inr m) =
      let e : (time.0).first ≡ (h.0).first = ap (λ o. o.first) (one_value time.0 h.0 (sym time.1 ∙ h.1)) in
      put_point (max (h.0).first begun) (before + 1) order (slice_set old k (Some h.2)) new i h.4
      (subst (λ n. NoneEndsTooSoon ops (max n begun) order) e time.3) once.1 (λ j. long_set old k j (Some h.2) (long j)) (omega (arith, room)) m
  put_point begun before (k ∷ order) old new i h time once long room (inl same) =
      let o = h.0 in
      let e : time.0 ≡ o = one_value time.0 o (sym time.1 ∙ h.1) in
      let got : slice_get new k ≡ Some (Some h.2) =
      put_apart ops numbers width (max o.first begun) (before + 1) order (slice_set old k (Some h.2)) new k h.4 once.0
      ∙ put_there (slice_get old k) refl (long k o h.1) in
      record {
        o = o;
        there = ap (slice_get ops) (sym same) ∙ h.1;
        begun = max o.first begun;
        behind = before;
        at = h.2;
        is = h.3;
        not_before = le-max_left o.first begun;
        not_after = subst (λ p. IfSome p.last (λ last. max p.first begun ≤ last)) e time.2;
        within = omega (arith, room);
        got = ap (slice_get new) (sym same) ∙ got;
      }
    where
      put_there : (a : Option (Option ℕ)) → slice_get old k ≡ a → IsSome a → slice_get (slice_set old k (Some h.2)) k ≡ Some (Some h.2)
      put_there None f s = absurd (cc s)
      put_there (Some y) f s = set_there old k (Some h.2) y f

  -- points that were put in rise along the order
  put_rise : (begun before low : ℕ) (order : List ℕ) (old new : List (Option ℕ)) → PutsPoints ops numbers width begun before order old new → AreOnce order
      → ((j : ℕ) (o : Stamped) → slice_get ops j ≡ Some o → IsSome (slice_get old j))
      → ((n first : ℕ) → begun ≤ n → IsFirstOf numbers width n first → low ≤ first + before) → RiseAlong new low order
  put_rise begun before low [] old new h once long above = tt
  put_rise begun before low (k ∷ order) old new h once long above = (
    h.2,
    got,
    from,
    put_rise later (before + 1) (suc h.2) order (slice_set old k (Some h.2)) new h.4 once.1 (λ j. long_set old k j (Some h.2) (long j)) next,
  )
    where
      later : ℕ
      later = max (h.0).first begun

      put_there : (a : Option (Option ℕ)) → slice_get old k ≡ a → IsSome a → slice_get (slice_set old k (Some h.2)) k ≡ Some (Some h.2)
      put_there None f s = absurd (cc s)
      put_there (Some y) f s = set_there old k (Some h.2) y f

      got : slice_get new k ≡ Some (Some h.2)
      got = put_apart ops numbers width later (before + 1) order (slice_set old k (Some h.2)) new k h.4 once.0 ∙ put_there (slice_get old k) refl (long k h.0 h.1)

      from : low ≤ h.2
      from =
          let is : h.2 ≡ (h.3).first + before = (h.3).is in
          let l : low ≤ (h.3).first + before = above later (h.3).first (le-max_right (h.0).first begun) (h.3).is_first in
          omega (arith, is, l)

      next : (n first : ℕ) → later ≤ n → IsFirstOf numbers width n first → suc h.2 ≤ first + (before + 1)
      next n first le f =
          let is : h.2 ≡ (h.3).first + before = (h.3).is in
          let l : (h.3).first ≤ first = firsts_rise later n (h.3).first first (h.3).is_first f le in
          omega (arith, is, l)

  -- an operation that has a point lies in its new stamps
  point_lies : (i : ℕ) (points : List (Option ℕ)) (p : Stamped) (point : HasPoint ops numbers width points i) → IsSpreadFrom numbers width point.o p
      → p.at ≡ Some point.at → IsSome (point.o).last ↔ IsSome (point.o).reply → IsPlaced p
  point_lies i points p point s at ended = record {
    ended = (λ e. subst IsSome (sym s.reply) (ended.0 (ends_so.0 e)), λ e. ends_so.1 (ended.1 (subst IsSome s.reply e)));
    placed = λ _. ap is_some at;
    not_before = subst (λ a. IfSome a (λ n. p.first ≤ n)) (sym at) low;
    not_after = subst (λ a. IfSome a (λ n. IfSome p.last (λ l. n ≤ l))) (sym at) (high (point.o).last p.last s.last point.not_after);
  }
    where
      is : point.at ≡ (point.is).first + point.behind
      is = (point.is).is

      ends_as : (last spread : Option ℕ) → EndsSo (IsLastOf numbers width) last spread → (IsSome spread → IsSome last) × (IsSome last → IsSome spread)
      ends_as None None h = (λ e. e, λ e. e)
      ends_as None (Some n) h = absurd h
      ends_as (Some last) None h = absurd h
      ends_as (Some last) (Some n) h = (λ e. refl, λ e. refl)

      ends_so : (IsSome p.last → IsSome (point.o).last) × (IsSome (point.o).last → IsSome p.last)
      ends_so = ends_as (point.o).last p.last s.last

      low : p.first ≤ point.at
      low =
          let l : p.first ≤ (point.is).first = firsts_rise (point.o).first point.begun p.first (point.is).first s.first (point.is).is_first point.not_before in
          omega (arith, is, l)

      high : (last spread : Option ℕ) → EndsSo (IsLastOf numbers width) last spread → IfSome last (λ n. point.begun ≤ n) → IfSome spread (λ l. point.at ≤ l)
      high None None h k = tt
      high None (Some l) h k = absurd h
      high (Some n) None h k = tt
      high (Some n) (Some l) h k =
          let f = (point.is).is_first in
          let begins : (point.is).first ≡ f.rank * width + 1 = f.is in
          let own : IsLastOf numbers width point.begun (f.rank * width + width) = record { rank = f.rank; there = f.there; is = refl } in
          let le : f.rank * width + width ≤ l = lasts_rise point.begun n (f.rank * width + width) l own h k in
          let within : point.behind < width = point.within in
          omega (arith, is, begins, le, within)

-- a pending operation without a point is well placed
pending_lies : (numbers : List ℕ) (width : ℕ) (o p : Stamped) → IsSpreadFrom numbers width o p → p.at ≡ None → IsPending o → IsPlaced p
pending_lies numbers width o p s at pending = record {
  ended = (λ e. absurd (none_of p.last last e), λ e. absurd (none_of p.reply reply e));
  placed = λ e. absurd (none_of p.reply reply e);
  not_before = subst (λ a. IfSome a (λ n. p.first ≤ n)) (sym at) tt;
  not_after = subst (λ a. IfSome a (λ n. IfSome p.last (λ l. n ≤ l))) (sym at) tt;
}
  where
    none_of : {X : Type 0} (a : Option X) → a ≡ None → IsSome a → ⊥
    none_of None e s = cc s
    none_of (Some x) e s = not_none x e

    reply : p.reply ≡ None
    reply = s.reply ∙ pending.not_told

    go : (a spread : Option ℕ) → EndsSo (IsLastOf numbers width) a spread → a ≡ None → spread ≡ None
    go None None h e = refl
    go None (Some n) h e = absurd h
    go (Some a) None h e = refl
    go (Some a) (Some n) h e = absurd (not_none a e)

    last : p.last ≡ None
    last = go o.last p.last s.last pending.not_ended

-- an operation of a history in which none is wrong by itself
faultless_at : (ops : List Stamped) (i : ℕ) (o : Stamped) → All IsFaultless ops → slice_get ops i ≡ Some o → IsFaultless o
faultless_at ops i o all e = All-contains IsFaultless ops o all (has_contains ops o (at_has ops i o e))

-- it ended where it was told a reply, not before it began
spans_at : (ops : List Stamped) → All IsFaultless ops → (i : ℕ) (o : Stamped) → slice_get ops i ≡ Some o → IfSome o.last (λ last. o.first ≤ last)
spans_at ops all i o e = go o.last (λ h. faultless_at ops i o all e (inr (inl h)))
  where
    go : (last : Option ℕ) → (IsSomeAnd last (λ l. l < o.first) → ⊥) → IfSome last (λ l. o.first ≤ l)
    go None n = tt
    go (Some l) n = not_less l o.first n

told_at : (ops : List Stamped) (i : ℕ) (o : Stamped) → All IsFaultless ops → slice_get ops i ≡ Some o → IsSome o.last ↔ IsSome o.reply
told_at ops i o all e = ends_told o.last o.reply (λ h. faultless_at ops i o all e (inl h))

-- what is below the length of a list is the index of an item
found_at : (ops : List Stamped) (i : ℕ) → i < length ops → (o : Stamped) × (slice_get ops i ≡ Some o)
found_at [] i l = absurd (omega (arith, l))
found_at (o ∷ os) zero l = (o, refl)
found_at (o ∷ os) (suc i) l = found_at os i (omega (arith, l))

found_in : (ops : List Stamped) (order : List ℕ) → All (λ i. i < length ops) order → (i : ℕ) → Has order i → (o : Stamped) × (slice_get ops i ≡ Some o)
found_in ops order there i m = found_at ops i (All-contains (λ k. k < length ops) order i there (has_contains order i m))

-- no operation of an order by which a history is one of a queue ended too soon
pub order_in_time : (ops : List Stamped) (order : List ℕ) → All IsFaultless ops → IsOrder ops order → NoneEndsTooSoon ops 0 order
order_in_time ops order faultless is = none_ends_too_soon ops (spans_at ops faultless) 0 order (found_in ops order is.there) is.timely (zero_is_least (picked ops order))

-- such an order is no longer than the history
pub order_is_short : (ops : List Stamped) (order : List ℕ) → IsOrder ops order → length order ≤ length ops
order_is_short ops order is = few order (length ops) is.there is.once

all_from_has : (P : Stamped → Type 0) (os : List Stamped) → ((o : Stamped) → Has os o → P o) → AllByRecursion P os
all_from_has P [] h = tt
all_from_has P (o ∷ os) h = (h o (inl refl), all_from_has P os (λ p m. h p (inr m)))

-- A history in which no operation is wrong by itself, and which is one of a queue by an order, is judged Yes with the points
-- that are put in along that order.
module _ (ops : List Stamped) (numbers : List ℕ) (width : ℕ) (order : List ℕ) (points : List (Option ℕ)) (new : List Stamped)
    (faultless : All IsFaultless ops) (is : IsOrder ops order) (rises : IsStrictlyIncreasing numbers) (wide : length ops < width)
    (puts : PutsPoints ops numbers width 0 0 order (replicate (length ops) None) points)
    (each : AllZip (IsSpreadFrom numbers width) ops new) (ats : map (λ o. o.at) new ≡ points) where
  one_or_more : 1 ≤ width
  one_or_more = omega (arith, wide)

  once : AreOnce order
  once = are_once order is.once

  room : 0 + length order ≤ width
  room = let l = few order (length ops) is.there is.once in omega (arith, l, wide)

  -- none of the order ended too soon
  time : NoneEndsTooSoon ops 0 order
  time = order_in_time ops order faultless is

  long : (j : ℕ) (o : Stamped) → slice_get ops j ≡ Some o → IsSome (slice_get (no_points (length ops)) j)
  long j o e = replicate_some (length ops) j (slice_get_within ops j o e)

  has_point : (i : ℕ) → Has order i → HasPoint ops numbers width points i
  has_point i = put_point ops numbers width rises one_or_more 0 0 order (replicate (length ops) None) points i puts time once long room

  rise : RiseAlong points 0 order
  rise = put_rise ops numbers width rises one_or_more 0 0 0 order (replicate (length ops) None) points puts once long (λ n first le f. omega arith)

  point_of : (i : ℕ) (p : Stamped) → slice_get new i ≡ Some p → slice_get points i ≡ Some p.at
  point_of i p e = ap (λ l. slice_get l i) (sym ats) ∙ slice_get-map (λ o. o.at) new i ∙ ap (option_map (λ o. o.at)) e

  -- what isn't in the order has out point
  no_point : (i : ℕ) (p : Stamped) → slice_get new i ≡ Some p → (Has order i → ⊥) → p.at ≡ None
  no_point i p e out =
      sym (replicated (length ops) None p.at i
      (sym (put_apart ops numbers width 0 0 order (replicate (length ops) None) points i puts out) ∙ point_of i p e))

  in_order : (i at : ℕ) (p : Stamped) → slice_get new i ≡ Some p → p.at ≡ Some at → Has order i
  in_order i at p e f = elim (has_or_not order i) [ inl m ↦ m | inr out ↦ absurd (not_none at (sym f ∙ no_point i p e out)) ]

  old_of : (i : ℕ) (p : Stamped) → slice_get new i ≡ Some p → (o : Stamped) × (slice_get ops i ≡ Some o) × IsSpreadFrom numbers width o p
  old_of i p e = zip_back (IsSpreadFrom numbers width) (slice_get ops i) p (subst (IsSame (IsSpreadFrom numbers width) (slice_get ops i)) e (zip_get (IsSpreadFrom numbers width) ops new i each))

  lies : (i : ℕ) (p : Stamped) → slice_get new i ≡ Some p → IsPlaced p
  lies i p e = elim (has_or_not order i) [ inl m ↦ with_point (has_point i m) | inr out ↦ without_point out ]
    where
      o : Stamped
      o = (old_of i p e).0

      old : slice_get ops i ≡ Some o
      old = (old_of i p e).1

      spread : IsSpreadFrom numbers width o p
      spread = (old_of i p e).2

      with_point : HasPoint ops numbers width points i → IsPlaced p
      with_point h =
          let f : o ≡ h.o = one_value o h.o (sym old ∙ h.there) in
          let at : p.at ≡ Some h.at = one_value p.at (Some h.at) (sym (point_of i p e) ∙ h.got) in
          point_lies ops numbers width rises one_or_more i points p h (subst (λ q. IsSpreadFrom numbers width q p) f spread) at
          (subst (λ q. IsSome q.last ↔ IsSome q.reply) f (told_at ops i o faultless old))

      without_point : (Has order i → ⊥) → IsPlaced p
      without_point out = elim (is.only_pending_left_out i o old) [
        | inl c ↦ absurd (out (contains_has order i c))
        | inr pending ↦ pending_lies numbers width o p spread (no_point i p e out) pending
      ]

  placed : AllByRecursion IsPlaced new
  placed = all_from_has IsPlaced new (λ p m. let r = has_at new p m in lies r.0 p r.1)

  apart : AreApart new
  apart = apart_by_index new (λ i j at o p a b e f.
      one_index points 0 at order i j rise (point_of i o a ∙ ap Some e) (point_of j p b ∙ ap Some f) (in_order i at o a e) (in_order j at p b f))

  -- those of the order, with their points, are those by point
  picked_rise : (low : ℕ) (is : List ℕ) → RiseAlong points low is → RiseFrom low (picked new is)
  picked_rise low [] h = tt
  picked_rise low (i ∷ is) h =
      let m = mapped (λ o. o.at) new i (Some h.0) (ap (λ l. slice_get l i) ats ∙ h.1) in
      subst (λ a. RiseFrom low (with_found a (picked new is))) (sym m.1) (h.0, m.2, h.2, picked_rise (suc h.0) is h.3)

  by_order : by_point new ≡ picked new order
  by_order = one_rising 0 0 (by_point new) (picked new order) (by_point_rises new apart) (picked_rise 0 order rise) on back
    where
      on : (p : Stamped) → Has (by_point new) p → Has (picked new order) p
      on p m =
          let at = risen 0 (by_point new) p (by_point_rises new apart) m in
          let r = has_at new p (by_point_has new p m) in
          picked_has new order r.0 p (in_order r.0 at.0 p r.1 at.1) r.1

      back : (p : Stamped) → Has (picked new order) p → Has (by_point new) p
      back p m =
          let at = risen 0 (picked new order) p (picked_rise 0 order rise) m in
          let r = has_picked new order p m in
          has_by_point new p at.0 at.1 (at_has new r.0 p r.2)

  legal : IsSequentialRun empty (by_point new)
  legal = subst (IsSequentialRun empty) (sym by_order) (same_runs (IsFirstOf numbers width) (IsLastOf numbers width) ops new each empty order is.runs)

  pub order_is_yes : verdict new ≡ Yes
  order_is_yes = right_is_yes new (record { each = placed; apart = apart }) legal

-- What comes of spreading the stamps is judged Yes, where it gives each operation its spread stamps and the point that was
-- put in for it, and leaves none out.
pub spread_is_yes : {V E : Type 0} (items : V → List Stamped) (ops : List Stamped) (order numbers : List ℕ) (width : ℕ) (points : List (Option ℕ))
    (r : Result (Option V) E) → All IsFaultless ops → IsOrder ops order → SpreadsAll ops numbers width → length ops < width
    → ArePoints ops numbers width order points
    → IfOk r (λ s. IfSome s (λ v. AllZip (IsSpreadFrom numbers width) ops (items v)))
    → IfOk r (λ s. IfSome s (λ v. map (λ o. o.at) (items v) ≡ points)) → IfOk r IsSome → IfOk r (λ s. IsSomeAnd s (λ v. verdict (items v) ≡ Yes))
spread_is_yes items ops order numbers width points (Err e) faultless is all wide puts each ats some = tt
spread_is_yes items ops order numbers width points (Ok None) faultless is all wide puts each ats some = absurd (cc some)
spread_is_yes items ops order numbers width points (Ok (Some v)) faultless is all wide puts each ats some =
    order_is_yes ops numbers width order points (items v) faultless is all.rises wide puts each ats
