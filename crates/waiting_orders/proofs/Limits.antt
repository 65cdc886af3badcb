-- Limits: the least last numbers of operations by rising first numbers.
use Rattle.std.proofs.Common.{◌≡◌, ℕ, zero, suc, ◌+◌, ◌<◌, ◌≤◌, nat_le, Bool, true, false, not, cond, List, [], ◌∷◌, ◌++◌, Option, None, Some, IfSome, length, take, drop, map, slice_get, slice_index_or, refl, sym, ap, ◌∙◌, subst, arith}
use Rattle.std.specs.List.{AllByRecursion}
use Rattle.std.proofs.lemmas.Bool.{leb-true, leb-false, le-leb}
use Rattle.std.proofs.lemmas.List.{append-nil, map-append, take-append-drop}
use Rattle.std.proofs.lemmas.List.Sorted.{IsNonDecreasingBy-drop}
use Rattle.std.proofs.lemmas.Option.{same_Some}
use Rattle.history.specs.declared.operations.Stamped.{Stamped}
use Rattle.waiting_orders.specs.Waiting.{IsCall, IsOpenAt, is_open_at, sooner}
use Rattle.waiting_orders.specs.Lines.{IsLimit, IsRising, picked, listed, cat, stands, lowered, begins_past}
use Rattle.waiting_orders.proofs.Lists.{all_joined}
use Rattle.waiting_orders.proofs.Places.{take_next, cat_append, drop_all}

pub open_told : (time : ℕ) (last : Option ℕ) → IfSome last (λ last. time ≤ last) → is_open_at time last ≡ true
open_told time None h = refl
open_told time (Some last) h = le-leb time last h

pub told_open : (time : ℕ) (last : Option ℕ) → is_open_at time last ≡ true → IfSome last (λ last. time ≤ last)
told_open time None h = tt
told_open time (Some last) h = leb-true time last h

pub open_before : (time later : ℕ) (last : Option ℕ) → time ≤ later → is_open_at later last ≡ true → is_open_at time last ≡ true
open_before time later None h e = refl
open_before time later (Some last) h e = let k : later ≤ last = leb-true later last e in le-leb time last (omega (arith, h, k))

pub shut_behind : (time later : ℕ) (last : Option ℕ) → time ≤ later → is_open_at time last ≡ false → is_open_at later last ≡ false
shut_behind time later last h e = go (is_open_at later last) refl
  where
    go : (b : Bool) → is_open_at later last ≡ b → b ≡ false
    go true f = sym (open_before time later last h f) ∙ e
    go false f = refl

-- two limits at once
module _ (time : ℕ) where
  sooner_left : (a b : Option ℕ) → is_open_at time (sooner a b) ≡ true → is_open_at time a ≡ true
  sooner_left None b h = refl
  sooner_left (Some a) None h = h
  sooner_left (Some a) (Some b) h = go (nat_le a b) refl h
    where
      go : (c : Bool) → nat_le a b ≡ c → is_open_at time (cond c (Some a) (Some b)) ≡ true → nat_le time a ≡ true
      go true e h = h
      go false e h = let l : b < a = leb-false a b e in let k : time ≤ b = leb-true time b h in le-leb time a (omega (arith, l, k))

  sooner_right : (a b : Option ℕ) → is_open_at time (sooner a b) ≡ true → is_open_at time b ≡ true
  sooner_right None b h = h
  sooner_right (Some a) None h = refl
  sooner_right (Some a) (Some b) h = go (nat_le a b) refl h
    where
      go : (c : Bool) → nat_le a b ≡ c → is_open_at time (cond c (Some a) (Some b)) ≡ true → nat_le time b ≡ true
      go true e h = let l : a ≤ b = leb-true a b e in let k : time ≤ a = leb-true time a h in le-leb time b (omega (arith, l, k))
      go false e h = h

  sooner_both : (a b : Option ℕ) → is_open_at time a ≡ true → is_open_at time b ≡ true → is_open_at time (sooner a b) ≡ true
  sooner_both None b h k = k
  sooner_both (Some a) None h k = h
  sooner_both (Some a) (Some b) h k = go (nat_le a b)
    where
      go : (c : Bool) → is_open_at time (cond c (Some a) (Some b)) ≡ true
      go true = h
      go false = k

pub all_first : (P : Stamped → Type 0) (xs ys : List Stamped) → AllByRecursion P (xs ++ ys) → AllByRecursion P xs
all_first P [] ys h = tt
all_first P (x ∷ xs) ys h = (h.0, all_first P xs ys h.1)

pub all_second : (P : Stamped → Type 0) (xs ys : List Stamped) → AllByRecursion P (xs ++ ys) → AllByRecursion P ys
all_second P [] ys h = h
all_second P (x ∷ xs) ys h = all_second P xs ys h.1

pub no_limit : IsLimit [] None
no_limit = record { needed = λ t h. refl; enough = λ c t h. tt }

pub limit_one : (o : Stamped) → IsLimit (o ∷ []) o.last
limit_one o = record { needed = λ t h. open_told t o.last h.0; enough = λ c t h. (told_open t o.last h, tt) }

pub limit_joined : (xs ys : List Stamped) (a b : Option ℕ) → IsLimit xs a → IsLimit ys b → IsLimit (xs ++ ys) (sooner a b)
limit_joined xs ys a b h k =
    record {
      needed = λ t all. sooner_both t a b (h.needed t (all_first (IsOpenAt t) xs ys all)) (k.needed t (all_second (IsOpenAt t) xs ys all));
      enough = λ c t e. all_joined (IsOpenAt t) xs ys (h.enough (all_first IsCall xs ys c) t (sooner_left t a b e)) (k.enough (all_second IsCall xs ys c) t (sooner_right t a b e));
    }

pub limit_more : (xs : List Stamped) (l : Option ℕ) (x : Option Stamped) → IsLimit xs l → IsLimit (xs ++ listed x) (lowered l x)
limit_more xs l None h = subst (λ ys. IsLimit ys l) (sym (append-nil xs)) h
limit_more xs l (Some o) h = limit_joined xs (o ∷ []) l o.last h (limit_one o)

pub limit_next : (i : ℕ) (xs : List Stamped) (l : Option ℕ) → IsLimit (take i xs) l → IsLimit (take (i + 1) xs) (lowered l (slice_get xs i))
limit_next i xs l h =
    let n : i + 1 ≡ suc i = omega arith in
    subst (λ ys. IsLimit ys (lowered l (slice_get xs i))) (sym (ap (λ n. take n xs) n ∙ take_next i xs)) (limit_more (take i xs) l (slice_get xs i) h)

-- ---- first numbers that never fall

all_from : (P : Stamped → Type 0) (d : Stamped) (xs : List Stamped) → ((j : ℕ) → j < length xs → P (slice_index_or xs j d)) → AllByRecursion P xs
all_from P d [] h = tt
all_from P d (x ∷ xs) h = (h 0 (omega arith), all_from P d xs (λ j l. h (suc j) (omega (arith, l))))

rising_tail : (x : Stamped) (xs : List Stamped) → IsRising (x ∷ xs) → IsRising xs
rising_tail x xs h = λ i j d l k. h (suc i) (suc j) d (omega (arith, l)) (omega (arith, k))

pub rising_from : (i : ℕ) (xs : List Stamped) (o : Stamped) → IsRising xs → slice_get xs i ≡ Some o → AllByRecursion (λ x. o.first ≤ x.first) (drop i xs)
rising_from i [] o h e = absurd cc
rising_from zero (x ∷ xs) o h e =
    subst (λ o. AllByRecursion (λ x. o.first ≤ x.first) (x ∷ xs)) (same_Some x o e)
    (all_from (λ y. x.first ≤ y.first) x (x ∷ xs) (λ j l. h 0 j x (omega arith) l))
rising_from (suc i) (x ∷ xs) o h e = rising_from i xs o (rising_tail x xs h) e

pub past_from : (i : ℕ) (xs : List Stamped) (o : Stamped) (l : Option ℕ) → IsRising xs → slice_get xs i ≡ Some o → is_open_at o.first l ≡ false
    → AllByRecursion (λ x. is_open_at x.first l ≡ false) (drop i xs)
past_from i xs o l h e f = go (drop i xs) (rising_from i xs o h e)
  where
    go : (ys : List Stamped) → AllByRecursion (λ x. o.first ≤ x.first) ys → AllByRecursion (λ x. is_open_at x.first l ≡ false) ys
    go [] a = tt
    go (y ∷ ys) a = (shut_behind o.first y.first l a.0 f, go ys a.1)

-- what begins behind the limit of those before doesn't lower it
pub past_limit : (i : ℕ) (xs : List Stamped) (o : Stamped) (l : Option ℕ) → IsRising xs → slice_get xs i ≡ Some o → is_open_at o.first l ≡ false → IsLimit (take i xs) l → IsLimit xs l
past_limit i xs o l h e f k =
    subst (λ xs. IsLimit xs l) (take-append-drop i xs)
    (record {
      needed = λ t all. k.needed t (all_first (IsOpenAt t) (take i xs) (drop i xs) all);
      enough = λ c t g. all_joined (IsOpenAt t) (take i xs) (drop i xs) (k.enough (all_first IsCall (take i xs) (drop i xs) c) t g) (behind t g (drop i xs) (past_from i xs o l h e f) (all_second IsCall (take i xs) (drop i xs) c));
    })
  where
    ends : (t first : ℕ) (last : Option ℕ) → t ≤ first → IfSome last (λ last. first ≤ last) → IfSome last (λ last. t ≤ last)
    ends t first None a b = tt
    ends t first (Some last) a b = omega (arith, a, b)

    before : (t first : ℕ) (l : Option ℕ) → is_open_at t l ≡ true → is_open_at first l ≡ false → t ≤ first
    before t first None g f = absurd cc
    before t first (Some l) g f = let a : t ≤ l = leb-true t l g in let b : l < first = leb-false first l f in omega (arith, a, b)

    behind : (t : ℕ) → is_open_at t l ≡ true → (ys : List Stamped) → AllByRecursion (λ x. is_open_at x.first l ≡ false) ys → AllByRecursion IsCall ys → AllByRecursion (IsOpenAt t) ys
    behind t g [] a c = tt
    behind t g (y ∷ ys) a c = (ends t y.first y.last (before t y.first l g a.0) c.0.spans, behind t g ys a.1 c.1)

-- the same with what comes of both
pub limit_is : (xs ys : List Stamped) (a b l : Option ℕ) → l ≡ sooner a b → IsLimit xs a → IsLimit ys b → IsLimit (xs ++ ys) l
limit_is xs ys a b l e h k = subst (IsLimit (xs ++ ys)) (sym e) (limit_joined xs ys a b h k)

pub none_behind : (n : ℕ) (xs : List Stamped) → length xs < n → IsLimit (drop n xs) None
none_behind n xs h = subst (λ ys. IsLimit ys None) (sym (drop_all n xs (omega (arith, h)))) no_limit

pub rising_drop : (n : ℕ) (xs : List Stamped) → IsRising xs → IsRising (drop n xs)
rising_drop n xs h = IsNonDecreasingBy-drop (λ o. o.first) n xs h

-- ---- those kept

pub picked_next : (ops : List Stamped) (i : ℕ) (kept : List ℕ) → picked ops (take (suc i) kept) ≡ picked ops (take i kept) ++ listed (stands ops (slice_get kept i))
picked_next ops i kept =
    ap (picked ops) (take_next i kept)
    ∙ ap cat (map-append (slice_get ops) (take i kept) (listed (slice_get kept i)))
    ∙ cat_append (map (slice_get ops) (take i kept)) (map (slice_get ops) (listed (slice_get kept i)))
    ∙ ap (λ l. picked ops (take i kept) ++ l) (each (slice_get kept i))
  where
    only : (x : Option Stamped) → cat (x ∷ []) ≡ listed x
    only None = refl
    only (Some x) = refl

    each : (place : Option ℕ) → cat (map (slice_get ops) (listed place)) ≡ listed (stands ops place)
    each None = refl
    each (Some place) = only (slice_get ops place)

pub kept_limit_next : (ops : List Stamped) (i : ℕ) (kept : List ℕ) (l : Option ℕ) → IsLimit (picked ops (take i kept)) l
    → IsLimit (picked ops (take (i + 1) kept)) (lowered l (stands ops (slice_get kept i)))
kept_limit_next ops i kept l h =
    let n : i + 1 ≡ suc i = omega arith in
    subst (λ xs. IsLimit xs (lowered l (stands ops (slice_get kept i)))) (sym (ap (λ n. picked ops (take n kept)) n ∙ picked_next ops i kept))
    (limit_more (picked ops (take i kept)) l (stands ops (slice_get kept i)) h)

-- ---- what begins behind a limit

begins : (l : Option ℕ) (x : Option Stamped) → begins_past l x ≡ true → (o : Stamped) × (x ≡ Some o) × (is_open_at o.first l ≡ false)
begins l None h = absurd cc
begins l (Some o) h = (o, refl, go (is_open_at o.first l) h)
  where
    go : (b : Bool) → not b ≡ true → b ≡ false
    go true h = absurd cc
    go false h = refl

pub none_until : (i : ℕ) (xs : List Stamped) (l : Option ℕ) → IsRising xs → begins_past l (slice_get xs i) ≡ true → AllByRecursion (λ x. is_open_at x.first l ≡ false) (drop i xs)
none_until i xs l h e = let b = begins l (slice_get xs i) e in past_from i xs b.0 l h b.1 b.2

pub ends_limit : (i : ℕ) (xs : List Stamped) (l : Option ℕ) → IsRising xs → begins_past l (slice_get xs i) ≡ true → IsLimit (take i xs) l → IsLimit xs l
ends_limit i xs l h e k = let b = begins l (slice_get xs i) e in past_limit i xs b.0 l h b.1 b.2 k
