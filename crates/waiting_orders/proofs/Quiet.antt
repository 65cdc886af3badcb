-- What changes nothing may be placed at once: what can be placed to the end with it left can be placed so without it.
use Rattle.std.proofs.Common.{◌≡◌, ℕ, zero, suc, max, nat_le, ◌≤◌, ◌<◌, Bool, true, false, not, ◌||◌, cond, ◌⊎◌, inl, inr, List, [], ◌∷◌, ◌++◌, Option, None, Some, IfSome, slice_get, refl, sym, ap, ◌∙◌, subst, arith}
use Rattle.std.specs.List.{AllByRecursion, filter}
use Rattle.std.specs.List.Sorted.{IsPermutation}
use Rattle.std.proofs.Math.Nat.{max-eq_left, max-eq_right}
use Rattle.std.proofs.lemmas.Bool.{leb-true, leb-false}
use Rattle.std.proofs.lemmas.List.{append-nil, append_assoc}
use Rattle.std.proofs.lemmas.List.Elements.{filter-append}
use Rattle.std.proofs.lemmas.List.Sorted.{IsPermutation-sym, IsPermutation-trans, IsPermutation-cons, IsPermutation-append_left, IsPermutation-filter_both}
use Rattle.history.specs.declared.refusals.Refusal.{Refusal}
use Rattle.history.specs.declared.operations.Op.{Op}
use Rattle.history.specs.declared.operations.Op.TheVariants.{Enq, Deq, Shut}
use Rattle.history.specs.declared.operations.Taken.{Taken}
use Rattle.history.specs.declared.operations.Reply.{Reply}
use Rattle.history.specs.declared.operations.Reply.TheVariants.{Done, Value, Empty, Refused}
use Rattle.history.specs.declared.operations.Stamped.{Stamped}
use Rattle.waiting_orders.specs.Waiting.{IsCall, State, Step, HasEffect, GetsRefused, Takes, FindsEmpty, IsLeft, IsTold, IsToldDrained, Shuts, IsEnd, CanEnd, Where, IsOpenAt, OtherIsOpen, PushIsOpen, IsUntold, OtherIsUntold, waits, every, other_is_open, may_stay, is_quiet, GoesFirst}
use Rattle.waiting_orders.specs.Lines.{without}
use Rattle.waiting_orders.proofs.Futures.{all_moved, all_every, every_all}
use Rattle.waiting_orders.proofs.Lists.{or_left, or_right, all_joined, all_pass, all_filtered}
use Rattle.waiting_orders.proofs.Limits.{all_first, all_second}
use Rattle.waiting_orders.proofs.Picking.{found_first, filter_moved}
use Rattle.waiting_orders.proofs.Places.{taken_out, in_part, all_at}
use Rattle.waiting_orders.proofs.Stepping.{max_least, filter_all, filter_none, flipped, untold_unended}

pub le_max_left : (a b : ℕ) → a ≤ max a b
le_max_left a b = go (nat_le a b) refl
  where
    go : (t : Bool) → nat_le a b ≡ t → a ≤ max a b
    go true e = let l : a ≤ b = leb-true a b e in subst (λ m. a ≤ m) (sym (max-eq_right l)) l
    go false e = let l : b < a = leb-false a b e in subst (λ m. a ≤ m) (sym (max-eq_left (omega (arith, l)))) (omega arith)

pub le_max_right : (a b : ℕ) → b ≤ max a b
le_max_right a b = go (nat_le a b) refl
  where
    go : (t : Bool) → nat_le a b ≡ t → b ≤ max a b
    go true e = let l : a ≤ b = leb-true a b e in subst (λ m. b ≤ m) (sym (max-eq_right l)) (omega arith)
    go false e = let l : b < a = leb-false a b e in subst (λ m. b ≤ m) (sym (max-eq_left (omega (arith, l)))) (omega (arith, l))

-- A state that has what another one has left, but for what changes nothing; it may have pushes more that never ended. All
-- that is left in the other one had not ended before a number, which may be that of the one.
record Leaner (t : ℕ) (gone : List Stamped) (u v : State) : Type 0 where
  extra : List Stamped
  left : IsPermutation (u.left ++ extra) (gone ++ v.left)
  quiet : AllByRecursion (λ o. is_quiet o.reply ≡ true) gone
  others : AllByRecursion (λ o. waits o ≡ false) gone
  pushes : AllByRecursion (λ o. waits o ≡ true) extra
  untold : AllByRecursion IsUntold extra
  unended : AllByRecursion (λ o. o.last ≡ None) extra
  calls : AllByRecursion IsCall u.left
  still : AllByRecursion (IsOpenAt t) u.left
  shut : v.shut ≡ u.shut
  time : v.time ≤ max u.time t

pub more_steps : (n : ℕ) (v : State) → CanEnd n v → CanEnd (suc n) v
more_steps zero v h = inl h
more_steps (suc n) v (inl h) = inl h
more_steps (suc n) v (inr h) = inr (h.0, h.1, more_steps n h.0 h.2)

pub all_where : (P : Stamped → Type 0) (b : Stamped → Bool) (xs : List Stamped) → AllByRecursion (λ x. b x ≡ false) xs → AllByRecursion (λ x. Where (b x) (P x)) xs
all_where P b [] h = tt
all_where P b (x ∷ xs) h = (go (b x) h.0, all_where P b xs h.1)
  where
    go : (c : Bool) → c ≡ false → Where c (P x)
    go true e = absurd cc
    go false e = tt

pub all_any : (P : Stamped → Type 0) (b : Stamped → Bool) (xs : List Stamped) → AllByRecursion P xs → AllByRecursion (λ x. Where (b x) (P x)) xs
all_any P b [] h = tt
all_any P b (x ∷ xs) h = (go (b x) h.0, all_any P b xs h.1)
  where
    go : (c : Bool) → P x → Where c (P x)
    go true p = p
    go false p = tt

pub open_any : (time : ℕ) (xs : List Stamped) → AllByRecursion (λ o. o.last ≡ None) xs → AllByRecursion (IsOpenAt time) xs
open_any time [] h = tt
open_any time (x ∷ xs) h = (subst (λ last. IfSome last (λ last. time ≤ last)) (sym h.0) tt, open_any time xs h.1)

-- still at two numbers is still at the later one
open_max : (a b : ℕ) (last : Option ℕ) → IfSome last (λ last. a ≤ last) → IfSome last (λ last. b ≤ last) → IfSome last (λ last. max a b ≤ last)
open_max a b None h k = tt
open_max a b (Some last) h k = max_least a b last h k

where_max : (a b : ℕ) (c : Stamped → Bool) (xs : List Stamped) → AllByRecursion (λ x. Where (c x) (IsOpenAt a x)) xs → AllByRecursion (IsOpenAt b) xs → AllByRecursion (λ x. Where (c x) (IsOpenAt (max a b) x)) xs
where_max a b c [] h k = tt
where_max a b c (x ∷ xs) h k = (go (c x) h.0, where_max a b c xs h.1 k.1)
  where
    go : (d : Bool) → Where d (IsOpenAt a x) → Where d (IsOpenAt (max a b) x)
    go true h = open_max a b x.last h k.0
    go false h = tt

pub not_waits : (xs : List Stamped) → AllByRecursion (λ x. waits x ≡ true) xs → AllByRecursion (λ x. not (waits x) ≡ false) xs
not_waits [] h = tt
not_waits (x ∷ xs) h = (ap not h.0, not_waits xs h.1)

-- taken out of a list of two parts
pub out_of_two : (xs ys : List Stamped) (o : Stamped) (rest : List Stamped) → IsPermutation (xs ++ ys) (o ∷ rest)
    → ((k : ℕ) × (slice_get xs k ≡ Some o) × IsPermutation rest (without k xs ++ ys)) ⊎ ((ms : List Stamped) × IsPermutation ys (o ∷ ms) × IsPermutation rest (xs ++ ms))
out_of_two xs ys o rest is =
    let f = found_first o (xs ++ ys) rest is in
    go f.0 f.2 (in_part xs ys f.0 o f.1)
  where
    go : (k : ℕ) → IsPermutation rest (without k (xs ++ ys))
        → ((slice_get xs k ≡ Some o) × (without k (xs ++ ys) ≡ without k xs ++ ys)) ⊎ ((j : ℕ) × (slice_get ys j ≡ Some o) × (without k (xs ++ ys) ≡ xs ++ without j ys))
        → ((k : ℕ) × (slice_get xs k ≡ Some o) × IsPermutation rest (without k xs ++ ys)) ⊎ ((ms : List Stamped) × IsPermutation ys (o ∷ ms) × IsPermutation rest (xs ++ ms))
    go k perm (inl h) = inl (k, h.0, subst (IsPermutation rest) h.1 perm)
    go k perm (inr h) = inr (without h.0 ys, taken_out h.0 ys o h.1, subst (IsPermutation rest) h.2 perm)

all_without_one : (P : Stamped → Type 0) (k : ℕ) (xs : List Stamped) → AllByRecursion P xs → AllByRecursion P (without k xs)
all_without_one P zero [] h = tt
all_without_one P (suc k) [] h = tt
all_without_one P zero (x ∷ xs) h = h.1
all_without_one P (suc k) (x ∷ xs) h = (h.0, all_without_one P k xs h.1)

-- ---- one step of the other one

pub le_trans : (a b c : ℕ) → a ≤ b → b ≤ c → a ≤ c
le_trans a b c h k = omega (arith, h, k)

pub all_filter_where : (P : Stamped → Type 0) (b : Stamped → Bool) (xs : List Stamped) → AllByRecursion (λ x. Where (b x) (P x)) xs → AllByRecursion P (filter b xs)
all_filter_where P b [] h = tt
all_filter_where P b (x ∷ xs) h = go (b x) h.0 (all_filter_where P b xs h.1)
  where
    go : (c : Bool) → Where c (P x) → AllByRecursion P (filter b xs) → AllByRecursion P (cond c (x ∷ filter b xs) (filter b xs))
    go true p more = (p, more)
    go false p more = more

pub back_off : (xs : List Stamped) (b : Stamped → Bool) → AllByRecursion (λ x. not (b x) ≡ true) xs → AllByRecursion (λ x. b x ≡ false) xs
back_off [] b h = tt
back_off (x ∷ xs) b h = (go (b x) h.0, back_off xs b h.1)
  where
    go : (c : Bool) → not c ≡ true → c ≡ false
    go true e = absurd cc
    go false e = refl

-- what the one does when the other one takes a step: nothing, or the same
abbrev Answers : ℕ → List Stamped → (z v : State) → Type 0
Answers t gone z v = ((k : ℕ) × Leaner t (without k gone) z v) ⊎ ((w : State) × Step v w × Leaner t gone z w)

module _ (t : ℕ) (gone : List Stamped) (u v z : State) (r : Leaner t gone u v) (o : Stamped) (since : u.time ≤ z.time) (began : o.first ≤ z.time) (ongoing : AllByRecursion (OtherIsOpen z.time) u.left) where
  abbrev late : ℕ
  late = max z.time t

  since_late : v.time ≤ late
  since_late = le_trans v.time (max u.time t) late r.time (max_least u.time t late (le_trans u.time z.time late since (le_max_left z.time t)) (le_max_right z.time t))

  by_late : (n : ℕ) → n ≤ z.time → n ≤ late
  by_late n h = le_trans n z.time late h (le_max_left z.time t)

  -- what holds of all that is left in the other one, and of its pushes more, holds of what is left here
  kept_here : (P : Stamped → Type 0) → AllByRecursion P u.left → AllByRecursion P r.extra → AllByRecursion P v.left
  kept_here P a b = all_second P gone v.left (all_moved P (u.left ++ r.extra) (gone ++ v.left) r.left (all_joined P u.left r.extra a b))

  ongoing_here : AllByRecursion (OtherIsOpen late) v.left
  ongoing_here = kept_here (OtherIsOpen late) (where_max z.time t (λ x. not (waits x)) u.left ongoing r.still) (all_where (IsOpenAt late) (λ x. not (waits x)) r.extra (not_waits r.extra r.pushes))

  -- what the one does without the operation, or with it
  abbrev Parts : List Stamped → Type 0
  Parts rest = ((k : ℕ) × (slice_get gone k ≡ Some o) × IsPermutation (rest ++ r.extra) (without k gone ++ v.left))
      ⊎ ((ms : List Stamped) × IsPermutation v.left (o ∷ ms) × IsPermutation (rest ++ r.extra) (gone ++ ms))

  parts : (rest : List Stamped) → IsPermutation u.left (o ∷ rest) → Parts rest
  parts rest is = out_of_two gone v.left o (rest ++ r.extra) (IsPermutation-trans _ _ _ (IsPermutation-sym _ _ r.left) (IsPermutation-append_left r.extra u.left (o ∷ rest) is))

  rest_calls : (rest : List Stamped) → IsPermutation u.left (o ∷ rest) → AllByRecursion IsCall rest
  rest_calls rest is = (all_moved IsCall u.left (o ∷ rest) is r.calls).1

  rest_still : (rest : List Stamped) → IsPermutation u.left (o ∷ rest) → AllByRecursion (IsOpenAt t) rest
  rest_still rest is = (all_moved (IsOpenAt t) u.left (o ∷ rest) is r.still).1

  loud_is : (k : ℕ) → slice_get gone k ≡ Some o → is_quiet o.reply ≡ true
  loud_is k e = all_at (λ o. is_quiet o.reply ≡ true) gone k o e r.quiet

  -- the one has done it already
  done_before : (k : ℕ) → IsPermutation (z.left ++ r.extra) (without k gone ++ v.left) → IsPermutation u.left (o ∷ z.left) → z.shut ≡ u.shut → Leaner t (without k gone) z v
  done_before k perm is same = record {
    extra = r.extra;
    left = perm;
    quiet = all_without_one (λ o. is_quiet o.reply ≡ true) k gone r.quiet;
    others = all_without_one (λ o. waits o ≡ false) k gone r.others;
    pushes = r.pushes;
    untold = r.untold;
    unended = r.unended;
    calls = rest_calls z.left is;
    still = rest_still z.left is;
    shut = r.shut ∙ sym same;
    time = since_late;
  }

  abbrev with_left : List Stamped → State
  with_left ws = record { left = ws; shut = v.shut; time = late }

  same_here : (ws : List Stamped) → IsPermutation (z.left ++ r.extra) (gone ++ ws) → AllByRecursion IsCall z.left → AllByRecursion (IsOpenAt t) z.left → z.shut ≡ u.shut → Leaner t gone z (with_left ws)
  same_here ws perm calls still same = record {
    extra = r.extra;
    left = perm;
    quiet = r.quiet;
    others = r.others;
    pushes = r.pushes;
    untold = r.untold;
    unended = r.unended;
    calls = calls;
    still = still;
    shut = r.shut ∙ sym same;
    time = omega arith;
  }

  step_to : (w : State) → w.time ≡ late → HasEffect o.op o.reply o v w → Step v w
  step_to w e h = record {
    operation = o;
    since = subst (λ n. v.time ≤ n) (sym e) since_late;
    began = subst (λ n. o.first ≤ n) (sym e) (by_late o.first began);
    ongoing = subst (λ n. AllByRecursion (OtherIsOpen n) v.left) (sym e) ongoing_here;
    effect = h;
  }

  takes_too : is_quiet o.reply ≡ false → (value : Taken) → ((w : State) → Takes value o v w → HasEffect o.op o.reply o v w) → Takes value o u z → Answers t gone z v
  takes_too loud value effect h = go (parts (h.push ∷ z.left) h.is)
    where
      first_here : (ws : List Stamped) → IsPermutation (z.left ++ r.extra) (gone ++ ws) → AllByRecursion (PushIsOpen h.push.first) ws
      first_here ws perm = all_second (PushIsOpen h.push.first) gone ws
          (all_moved (PushIsOpen h.push.first) (z.left ++ r.extra) (gone ++ ws) perm
          (all_joined (PushIsOpen h.push.first) z.left r.extra h.first (all_any (IsOpenAt h.push.first) waits r.extra (open_any h.push.first r.extra r.unended))))

      next : (ms : List Stamped) → IsPermutation v.left (o ∷ ms)
          → ((k : ℕ) × (slice_get gone k ≡ Some h.push) × IsPermutation (z.left ++ r.extra) (without k gone ++ ms)) ⊎ ((ws : List Stamped) × IsPermutation ms (h.push ∷ ws) × IsPermutation (z.left ++ r.extra) (gone ++ ws))
          → Answers t gone z v
      next ms out (inl k) = let w = all_at (λ o. waits o ≡ false) gone k.0 h.push k.1 r.others in absurd (cc (sym w ∙ h.pushes.waits))
      next ms out (inr k) =
          inr (
            with_left k.0,
            step_to (with_left k.0) refl
                (effect (with_left k.0) (record {
                  push = h.push;
                  is = IsPermutation-trans _ _ _ out (IsPermutation-cons o ms (h.push ∷ k.0) k.1);
                  pushes = h.pushes;
                  began = by_late h.push.first h.began;
                  first = first_here k.0 k.2;
                  same = refl;
                })),
            same_here k.0 k.2 (rest_calls (h.push ∷ z.left) h.is).1 (rest_still (h.push ∷ z.left) h.is).1 h.same,
          )

      go : Parts (h.push ∷ z.left) → Answers t gone z v
      go (inl k) = absurd (cc (sym loud ∙ loud_is k.0 k.1))
      go (inr k) = next k.0 k.1 (out_of_two gone k.0 h.push (z.left ++ r.extra) (IsPermutation-sym _ _ k.2))

  empty_too : ((w : State) → FindsEmpty o v w → HasEffect o.op o.reply o v w) → FindsEmpty o u z → Answers t gone z v
  empty_too effect h = go (parts z.left h.is)
    where
      go : Parts z.left → Answers t gone z v
      go (inl k) = inl (k.0, done_before k.0 k.2 h.is h.same)
      go (inr k) =
          let none = all_second (PushIsOpen late) gone k.0
          (all_moved (PushIsOpen late) (z.left ++ r.extra) (gone ++ k.0) k.2
          (all_joined (PushIsOpen late) z.left r.extra (where_max z.time t waits z.left h.none (rest_still z.left h.is)) (all_any (IsOpenAt late) waits r.extra (open_any late r.extra r.unended)))) in
          inr (
            with_left k.0,
            step_to (with_left k.0) refl (effect (with_left k.0) (record { is = k.1; none = none; before = r.shut ∙ h.before; same = refl })),
            same_here k.0 k.2 (rest_calls z.left h.is) (rest_still z.left h.is) h.same,
          )

  left_too : (refusal : Refusal) → ((w : State) → IsLeft refusal o v w → HasEffect o.op o.reply o v w) → IsLeft refusal o u z → Answers t gone z v
  left_too refusal effect h = go (parts z.left h.is)
    where
      go : Parts z.left → Answers t gone z v
      go (inl k) = inl (k.0, done_before k.0 k.2 h.is h.same)
      go (inr k) =
          inr (
            with_left k.0,
            step_to (with_left k.0) refl (effect (with_left k.0) (record { is = k.1; leaves = h.leaves; same = refl })),
            same_here k.0 k.2 (rest_calls z.left h.is) (rest_still z.left h.is) h.same,
          )

  told_too : ((w : State) → IsTold o v w → HasEffect o.op o.reply o v w) → IsTold o u z → Answers t gone z v
  told_too effect h = go (parts z.left h.is)
    where
      go : Parts z.left → Answers t gone z v
      go (inl k) = inl (k.0, done_before k.0 k.2 h.is h.same)
      go (inr k) =
          inr (
            with_left k.0,
            step_to (with_left k.0) refl (effect (with_left k.0) (record { is = k.1; before = r.shut ∙ h.before; same = refl })),
            same_here k.0 k.2 (rest_calls z.left h.is) (rest_still z.left h.is) h.same,
          )

  drained_too : is_quiet o.reply ≡ false → ((w : State) → IsToldDrained o v w → HasEffect o.op o.reply o v w) → IsToldDrained o u z → Answers t gone z v
  drained_too loud effect h = go (parts (z.left ++ h.dropped) h.is)
    where
      no : Stamped → Bool
      no p = not (waits p)

      twice : (x : Stamped) → waits x ≡ not (not (waits x))
      twice x = by (waits x)
        where
          by : (b : Bool) → b ≡ not (not b)
          by true = refl
          by false = refl

      untold_here : (ms : List Stamped) → IsPermutation ((z.left ++ h.dropped) ++ r.extra) (gone ++ ms) → AllByRecursion IsUntold (filter waits ms)
      untold_here ms perm =
          let P = λ (p : Stamped). Where (waits p) (IsUntold p) in
          all_filter_where IsUntold waits ms
          (all_second P gone ms (all_moved P ((z.left ++ h.dropped) ++ r.extra) (gone ++ ms) perm
          (all_joined P (z.left ++ h.dropped) r.extra
          (all_joined P z.left h.dropped (all_where IsUntold waits z.left h.none) (all_any IsUntold waits h.dropped h.untold)) (all_any IsUntold waits r.extra r.untold))))

      left_here : (ms : List Stamped) → IsPermutation ((z.left ++ h.dropped) ++ r.extra) (gone ++ ms) → IsPermutation (z.left ++ []) (gone ++ filter no ms)
      left_here ms perm =
          let from : filter no ((z.left ++ h.dropped) ++ r.extra) ≡ z.left ++ [] =
          filter-append no (z.left ++ h.dropped) r.extra
          ∙ ap (λ l. l ++ filter no r.extra) (filter-append no z.left h.dropped ∙ ap (λ l. l ++ filter no h.dropped) (filter_all no z.left (flipped false z.left h.none))
          ∙ ap (λ l. z.left ++ l) (filter_none no h.dropped (flipped true h.dropped h.pushes)) ∙ append-nil z.left)
          ∙ ap (λ l. z.left ++ l) (filter_none no r.extra (flipped true r.extra r.pushes)) in
          let to : filter no (gone ++ ms) ≡ gone ++ filter no ms = filter-append no gone ms ∙ ap (λ l. l ++ filter no ms) (filter_all no gone (flipped false gone r.others)) in
          subst (λ l. IsPermutation (z.left ++ []) l) to (subst (λ l. IsPermutation l (filter no (gone ++ ms))) from (filter_moved no ((z.left ++ h.dropped) ++ r.extra) (gone ++ ms) perm))

      go : Parts (z.left ++ h.dropped) → Answers t gone z v
      go (inl k) = absurd (cc (sym loud ∙ loud_is k.0 k.1))
      go (inr k) =
          let w = with_left (filter no k.0) in
          inr (
            w,
            step_to w refl
                (effect w (record {
                  dropped = filter waits k.0;
                  is = IsPermutation-trans _ _ _ k.1 (IsPermutation-cons o k.0 (filter no k.0 ++ filter waits k.0) (IsPermutation-filter_both no waits twice k.0));
                  untold = untold_here k.0 k.2;
                  pushes = all_pass waits k.0;
                  none = back_off (filter no k.0) waits (all_pass no k.0);
                  before = r.shut ∙ h.before;
                  same = refl;
                })),
            record {
              extra = [];
              left = left_here k.0 k.2;
              quiet = r.quiet;
              others = r.others;
              pushes = tt;
              untold = tt;
              unended = tt;
              calls = all_first IsCall z.left h.dropped (rest_calls (z.left ++ h.dropped) h.is);
              still = all_first (IsOpenAt t) z.left h.dropped (rest_still (z.left ++ h.dropped) h.is);
              shut = r.shut ∙ sym h.same;
              time = omega arith;
            },
          )

  -- what stays behind a shut of the other one stays behind one of this
  stays_too : (p : Stamped) → may_stay u p ≡ true → may_stay v p ≡ true
  stays_too p h = by (waits p) refl h
    where
      waiting : (xs : List Stamped) → AllByRecursion (λ x. waits x ≡ true) xs → AllByRecursion (λ x. other_is_open p.first x ≡ true) xs
      waiting [] a = tt
      waiting (x ∷ xs) a = (or_left (waits x) _ a.0, waiting xs a.1)

      by : (b : Bool) → waits p ≡ b → (not b || every (other_is_open p.first) u.left) ≡ true → (not (waits p) || every (other_is_open p.first) v.left) ≡ true
      by false e h = or_left _ _ (ap not e)
      by true e h =
          or_right (not (waits p)) _
          (every_all (other_is_open p.first) v.left
          (kept_here (λ x. other_is_open p.first x ≡ true) (all_every (other_is_open p.first) u.left h) (waiting r.extra r.pushes)))

  late_waits : (s : State) (p : Stamped) → may_stay s p ≡ false → waits p ≡ true
  late_waits s p h = by (waits p) refl h
    where
      by : (b : Bool) → waits p ≡ b → (not b || every (other_is_open p.first) s.left) ≡ false → b ≡ true
      by true e h = refl
      by false e h = absurd cc

  shuts_too : is_quiet o.reply ≡ false → ((w : State) → Shuts o v w → HasEffect o.op o.reply o v w) → Shuts o u z → Answers t gone z v
  shuts_too loud effect h = go (parts (z.left ++ h.dropped) h.is)
    where
      stay : Stamped → Bool
      stay p = may_stay v p

      go_out : Stamped → Bool
      go_out p = not (may_stay v p)

      all_stay : (xs : List Stamped) → AllByRecursion (λ p. may_stay u p ≡ true) xs → AllByRecursion (λ p. stay p ≡ true) xs
      all_stay [] a = tt
      all_stay (x ∷ xs) a = (stays_too x a.0, all_stay xs a.1)

      none_out : (xs : List Stamped) → AllByRecursion (λ p. stay p ≡ true) xs → AllByRecursion (λ p. go_out p ≡ false) xs
      none_out [] a = tt
      none_out (x ∷ xs) a = (ap not a.0, none_out xs a.1)

      gone_stay : (xs : List Stamped) → AllByRecursion (λ p. waits p ≡ false) xs → AllByRecursion (λ p. stay p ≡ true) xs
      gone_stay [] a = tt
      gone_stay (x ∷ xs) a = (or_left (not (waits x)) _ (ap not a.0), gone_stay xs a.1)

      all_late : (xs : List Stamped) → AllByRecursion (λ p. may_stay u p ≡ false) xs → AllByRecursion (λ p. waits p ≡ true) xs
      all_late [] a = tt
      all_late (x ∷ xs) a = (late_waits u x a.0, all_late xs a.1)

      more : List Stamped
      more = h.dropped ++ r.extra

      more_of : (P : Stamped → Type 0) → AllByRecursion P h.dropped → AllByRecursion P r.extra → AllByRecursion P (filter stay more)
      more_of P a b = all_filtered P stay more (all_joined P h.dropped r.extra a b)

      all_calls : AllByRecursion IsCall (z.left ++ h.dropped)
      all_calls = rest_calls (z.left ++ h.dropped) h.is

      untold_here : (ms : List Stamped) → IsPermutation ((z.left ++ h.dropped) ++ r.extra) (gone ++ ms) → AllByRecursion IsUntold (filter go_out ms)
      untold_here ms perm =
          let P = λ (p : Stamped). Where (go_out p) (IsUntold p) in
          all_filter_where IsUntold go_out ms
          (all_second P gone ms (all_moved P ((z.left ++ h.dropped) ++ r.extra) (gone ++ ms) perm
          (all_joined P (z.left ++ h.dropped) r.extra
          (all_joined P z.left h.dropped (all_where IsUntold go_out z.left (none_out z.left (all_stay z.left h.kept))) (all_any IsUntold go_out h.dropped h.untold))
          (all_any IsUntold go_out r.extra r.untold))))

      left_here : (ms : List Stamped) → IsPermutation ((z.left ++ h.dropped) ++ r.extra) (gone ++ ms) → IsPermutation (z.left ++ filter stay more) (gone ++ filter stay ms)
      left_here ms perm =
          let from : filter stay ((z.left ++ h.dropped) ++ r.extra) ≡ z.left ++ filter stay more =
          ap (filter stay) (append_assoc z.left h.dropped r.extra) ∙ filter-append stay z.left more ∙ ap (λ l. l ++ filter stay more) (filter_all stay z.left (all_stay z.left h.kept)) in
          let to : filter stay (gone ++ ms) ≡ gone ++ filter stay ms = filter-append stay gone ms ∙ ap (λ l. l ++ filter stay ms) (filter_all stay gone (gone_stay gone r.others)) in
          subst (λ l. IsPermutation (z.left ++ filter stay more) l) to (subst (λ l. IsPermutation l (filter stay (gone ++ ms))) from (filter_moved stay ((z.left ++ h.dropped) ++ r.extra) (gone ++ ms) perm))

      go : Parts (z.left ++ h.dropped) → Answers t gone z v
      go (inl k) = absurd (cc (sym loud ∙ loud_is k.0 k.1))
      go (inr k) =
          let w : State = record { left = filter stay k.0; shut = true; time = late } in
          inr (
            w,
            step_to w refl
                (effect w (record {
                  dropped = filter go_out k.0;
                  is = IsPermutation-trans _ _ _ k.1 (IsPermutation-cons o k.0 (filter stay k.0 ++ filter go_out k.0) (IsPermutation-filter_both stay go_out (λ x. refl) k.0));
                  untold = untold_here k.0 k.2;
                  kept = all_pass stay k.0;
                  late = back_off (filter go_out k.0) stay (all_pass go_out k.0);
                  before = r.shut ∙ h.before;
                  after = refl;
                })),
            record {
              extra = filter stay more;
              left = left_here k.0 k.2;
              quiet = r.quiet;
              others = r.others;
              pushes = more_of (λ p. waits p ≡ true) (all_late h.dropped h.late) r.pushes;
              untold = more_of IsUntold h.untold r.untold;
              unended = more_of (λ p. p.last ≡ None) (untold_unended h.dropped (all_second IsCall z.left h.dropped all_calls) h.untold) r.unended;
              calls = all_first IsCall z.left h.dropped all_calls;
              still = all_first (IsOpenAt t) z.left h.dropped (rest_still (z.left ++ h.dropped) h.is);
              shut = sym h.after;
              time = omega arith;
            },
          )

  module _ (op : Op) (reply : Option Reply) (e : o.op ≡ op) (f : o.reply ≡ reply) where
    back : (w : State) → HasEffect op reply o v w → HasEffect o.op o.reply o v w
    back w h = subst (λ op. HasEffect op o.reply o v w) (sym e) (subst (λ reply. HasEffect op reply o v w) (sym f) h)

  refused_too : (refusal : Refusal) (op : Op) → o.op ≡ op → o.reply ≡ Some (Refused refusal) → GetsRefused refusal op o u z → Answers t gone z v
  refused_too refusal (Enq body) e f (inl h) = left_too refusal (λ w k. back (Enq body) (Some (Refused refusal)) e f w (inl k)) h
  refused_too refusal (Enq body) e f (inr h) = told_too (λ w k. back (Enq body) (Some (Refused refusal)) e f w (inr (h.0, k))) h.1
  refused_too refusal Shut e f (inl h) = left_too refusal (λ w k. back Shut (Some (Refused refusal)) e f w (inl k)) h
  refused_too refusal Shut e f (inr h) = told_too (λ w k. back Shut (Some (Refused refusal)) e f w (inr (h.0, k))) h.1
  refused_too refusal Deq e f (inl h) = left_too refusal (λ w k. back Deq (Some (Refused refusal)) e f w (inl k)) h
  refused_too refusal Deq e f (inr h) =
      drained_too (ap is_quiet f ∙ ap (λ refusal. is_quiet (Some (Refused refusal))) h.0) (λ w k. back Deq (Some (Refused refusal)) e f w (inr (h.0, k))) h.1

  follows : (op : Op) (reply : Option Reply) → o.op ≡ op → o.reply ≡ reply → HasEffect op reply o u z → Answers t gone z v
  follows (Enq body) None e f h = absurd h
  follows Deq None e f h = takes_too (ap is_quiet f) h.0 (λ w k. back Deq None e f w (h.0, k)) h.1
  follows Shut None e f h = shuts_too (ap is_quiet f) (back Shut None e f) h
  follows (Enq body) (Some Done) e f h = absurd h
  follows Deq (Some Done) e f h = absurd h
  follows Shut (Some Done) e f h = shuts_too (ap is_quiet f) (back Shut (Some Done) e f) h
  follows (Enq body) (Some (Value value)) e f h = absurd h
  follows Deq (Some (Value value)) e f h = takes_too (ap is_quiet f) value (back Deq (Some (Value value)) e f) h
  follows Shut (Some (Value value)) e f h = absurd h
  follows (Enq body) (Some Empty) e f h = absurd h
  follows Deq (Some Empty) e f h = empty_too (back Deq (Some Empty) e f) h
  follows Shut (Some Empty) e f h = absurd h
  follows (Enq body) (Some (Refused refusal)) e f h = refused_too refusal (Enq body) e f h
  follows Deq (Some (Refused refusal)) e f h = refused_too refusal Deq e f h
  follows Shut (Some (Refused refusal)) e f h = refused_too refusal Shut e f h

-- ---- all steps

ends_so : (t : ℕ) (gone : List Stamped) (u v : State) → Leaner t gone u v → IsEnd u → AllByRecursion OtherIsUntold (gone ++ v.left)
ends_so t gone u v r h =
    all_moved OtherIsUntold (u.left ++ r.extra) (gone ++ v.left) r.left
    (all_joined OtherIsUntold u.left r.extra h (all_where IsUntold (λ x. not (waits x)) r.extra (not_waits r.extra r.pushes)))

lean_futures : (n t : ℕ) (gone : List Stamped) (u v : State) → Leaner t gone u v → CanEnd n u → CanEnd n v
lean_futures zero t gone u v r h = all_second OtherIsUntold gone v.left (ends_so t gone u v r h)
lean_futures (suc n) t gone u v r (inl h) = inl (all_second OtherIsUntold gone v.left (ends_so t gone u v r h))
lean_futures (suc n) t gone u v r (inr h) =
    go (λ gone z w l c. lean_futures n t gone z w l c) (follows t gone u v h.0 r h.1.operation h.1.since h.1.began h.1.ongoing h.1.operation.op h.1.operation.reply refl refl h.1.effect)
  where
    go : ((gone : List Stamped) (z w : State) → Leaner t gone z w → CanEnd n z → CanEnd n w) → Answers t gone h.0 v → CanEnd (suc n) v
    go more (inl k) = more_steps n v (more (without k.0 gone) h.0 v k.1 h.2)
    go more (inr k) = inr (k.0, k.1, more gone h.0 k.0 k.2 h.2)

no_end_yet : (t : ℕ) (o : Stamped) (u v : State) → is_quiet o.reply ≡ true → Leaner t (o ∷ []) u v → IsEnd u → ⊥
no_end_yet t o u v q r h = go (waits o) r.others.0 (ends_so t (o ∷ []) u v r h).0
  where
    go : (b : Bool) → b ≡ false → Where (not b) (IsUntold o) → ⊥
    go true e h = absurd cc
    go false e h = absurd (cc (sym q ∙ ap is_quiet h))

-- where what changes nothing is left in the one alone, the other one can be placed to the end in a step less
quick_futures : (n t : ℕ) (o : Stamped) (u v : State) → is_quiet o.reply ≡ true → Leaner t (o ∷ []) u v → CanEnd (suc n) u → CanEnd n v
quick_futures n t o u v q r (inl h) = absurd (no_end_yet t o u v q r h)
quick_futures zero t o u v q r (inr h) =
    go (follows t (o ∷ []) u v h.0 r h.1.operation h.1.since h.1.began h.1.ongoing h.1.operation.op h.1.operation.reply refl refl h.1.effect)
  where
    go : Answers t (o ∷ []) h.0 v → CanEnd 0 v
    go (inl k) = lean_futures 0 t (without k.0 (o ∷ [])) h.0 v k.1 h.2
    go (inr k) = absurd (no_end_yet t o h.0 k.0 q k.2 h.2)
quick_futures (suc n) t o u v q r (inr h) =
    go (λ z w l c. quick_futures n t o z w q l c) (follows t (o ∷ []) u v h.0 r h.1.operation h.1.since h.1.began h.1.ongoing h.1.operation.op h.1.operation.reply refl refl h.1.effect)
  where
    go : ((z w : State) → Leaner t (o ∷ []) z w → CanEnd (suc n) z → CanEnd n w) → Answers t (o ∷ []) h.0 v → CanEnd (suc n) v
    go more (inl k) = lean_futures (suc n) t (without k.0 (o ∷ [])) h.0 v k.1 h.2
    go more (inr k) = inr (k.0, k.1, more h.0 k.0 k.2 h.2)

-- an operation that changes nothing may be placed at once
pub quiet_first : (n number : ℕ) (o : Stamped) (u v : State) → GoesFirst number o u v → CanEnd (suc n) u → CanEnd n v
quiet_first n number o u v g h =
    quick_futures n number o u v g.quiet
    (record {
      extra = [];
      left = subst (λ l. IsPermutation l (o ∷ v.left)) (sym (append-nil u.left)) g.is;
      quiet = (g.quiet, tt);
      others = (g.other, tt);
      pushes = tt;
      untold = tt;
      unended = tt;
      calls = g.calls;
      still = g.ongoing;
      shut = g.same;
      time = g.time;
    }) h
