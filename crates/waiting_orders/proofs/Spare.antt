-- A state can be placed to the end too with pending pops left more, and with pending ones that began by now in the place of other
-- pops that take.
use Rattle.std.proofs.Common.{◌≡◌, ℕ, zero, suc, ◌≤◌, Bool, true, false, not, ◌||◌, ◌⊎◌, inl, inr, List, [], ◌∷◌, ◌++◌, Option, None, Some, IfSome, slice_get, refl, sym, ap, ◌∙◌, subst, arith}
use Rattle.std.specs.List.{AllByRecursion, filter}
use Rattle.std.specs.List.Sorted.{IsPermutation}
use Rattle.std.proofs.lemmas.List.{append-nil, append_assoc}
use Rattle.std.proofs.lemmas.List.Sorted.{IsPermutation-refl, IsPermutation-sym, IsPermutation-trans, IsPermutation-cons, IsPermutation-append_left, IsPermutation-append_right, IsPermutation-middle, IsPermutation-filter_both}
use Rattle.history.specs.declared.refusals.Refusal.{Refusal}
use Rattle.history.specs.declared.operations.Op.{Op}
use Rattle.history.specs.declared.operations.Op.TheVariants.{Enq, Deq, Shut}
use Rattle.history.specs.declared.operations.Taken.{Taken}
use Rattle.history.specs.declared.operations.Reply.{Reply}
use Rattle.history.specs.declared.operations.Reply.TheVariants.{Done, Value, Empty, Refused}
use Rattle.history.specs.declared.operations.Stamped.{Stamped}
use Rattle.waiting_orders.specs.Waiting.{IsCall, State, Step, HasEffect, GetsRefused, Takes, FindsEmpty, IsLeft, IsTold, IsToldDrained, Shuts, IsEnd, CanEnd, IsOpenAt, OtherIsOpen, PushIsOpen, IsUntold, OtherIsUntold, waits, is_push, every, is_open_at, other_is_open, may_stay}
use Rattle.waiting_orders.specs.Lines.{without}
use Rattle.waiting_orders.proofs.Futures.{all_moved, all_every, every_all}
use Rattle.waiting_orders.proofs.Lists.{or_left, or_right, all_joined, all_weaker, where_any, all_filtered, all_pass}
use Rattle.waiting_orders.proofs.Limits.{all_second, all_first}
use Rattle.waiting_orders.proofs.Places.{taken_out, all_at}
use Rattle.waiting_orders.proofs.Stepping.{untold_unended}
use Rattle.waiting_orders.proofs.Quiet.{le_trans, out_of_two, back_off}

-- a pending pop
pub record IsIdle (o : Stamped) : Type 0 where
  pub op : o.op ≡ Deq
  pub reply : o.reply ≡ None
  pub last : o.last ≡ None

pub idle_waits : (o : Stamped) → IsIdle o → waits o ≡ false
idle_waits o i = subst (λ op. is_push op o.reply ≡ false) (sym i.op) refl

pub idle_open : (time : ℕ) (o : Stamped) → IsIdle o → IsOpenAt time o
idle_open time o i = subst (λ last. IfSome last (λ last. time ≤ last)) (sym i.last) tt

pub idle_other : (time : ℕ) (o : Stamped) → IsIdle o → OtherIsOpen time o
idle_other time o i = where_any (not (waits o)) (IsOpenAt time o) (idle_open time o i)

pub idle_push : (time : ℕ) (o : Stamped) → IsIdle o → PushIsOpen time o
idle_push time o i = where_any (waits o) (IsOpenAt time o) (idle_open time o i)

pub idle_passes : (time : ℕ) (o : Stamped) → IsIdle o → other_is_open time o ≡ true
idle_passes time o i = or_right (waits o) _ (subst (λ last. is_open_at time last ≡ true) (sym i.last) refl)

pub idle_untold : (o : Stamped) → IsIdle o → OtherIsUntold o
idle_untold o i = where_any (not (waits o)) (IsUntold o) i.reply

pub idle_stays : (s : State) (o : Stamped) → IsIdle o → may_stay s o ≡ true
idle_stays s o i = or_left (not (waits o)) _ (ap not (idle_waits o i))

-- a push that may go unheard of: it was told nothing, and never ended
pub record IsLoose (o : Stamped) : Type 0 where
  pub waits : waits o ≡ true
  pub untold : IsUntold o
  pub last : o.last ≡ None

loose_open : (time : ℕ) (o : Stamped) → IsLoose o → IsOpenAt time o
loose_open time o i = subst (λ last. IfSome last (λ last. time ≤ last)) (sym i.last) tt

loose_other : (time : ℕ) (o : Stamped) → IsLoose o → OtherIsOpen time o
loose_other time o i = where_any (not (waits o)) (IsOpenAt time o) (loose_open time o i)

loose_push : (time : ℕ) (o : Stamped) → IsLoose o → PushIsOpen time o
loose_push time o i = where_any (waits o) (IsOpenAt time o) (loose_open time o i)

loose_passes : (time : ℕ) (o : Stamped) → IsLoose o → other_is_open time o ≡ true
loose_passes time o i = or_left (waits o) _ i.waits

loose_untold : (o : Stamped) → IsLoose o → OtherIsUntold o
loose_untold o i = where_any (not (waits o)) (IsUntold o) i.untold

loose_all : (xs : List Stamped) → AllByRecursion (λ x. waits x ≡ true) xs → AllByRecursion IsUntold xs → AllByRecursion (λ x. x.last ≡ None) xs → AllByRecursion IsLoose xs
loose_all [] a b c = tt
loose_all (x ∷ xs) a b c = (record { waits = a.0; untold = b.0; last = c.0 }, loose_all xs a.1 b.1 c.1)

-- whether a pop with this reply takes a value: it was told one, or nothing
abbrev pub takes_value : Option Reply → Bool
takes_value None = true
takes_value (Some Done) = false
takes_value (Some (Value v)) = true
takes_value (Some Empty) = false
takes_value (Some (Refused refusal)) = false

-- a pop that takes a value where it goes
pub record IsTaker (o : Stamped) : Type 0 where
  pub op : o.op ≡ Deq
  pub reply : takes_value o.reply ≡ true

taker_waits : (o : Stamped) → IsTaker o → waits o ≡ false
taker_waits o i = subst (λ op. is_push op o.reply ≡ false) (sym i.op) refl

pub idle_taker : (o : Stamped) → IsIdle o → IsTaker o
idle_taker o i = record { op = i.op; reply = ap takes_value i.reply }

pub told_taker : (o : Stamped) (v : Taken) → o.op ≡ Deq → o.reply ≡ Some (Value v) → IsTaker o
told_taker o v e f = record { op = e; reply = ap takes_value f }

-- ---- lists

pub last_first : (xs : List Stamped) (p : Stamped) → IsPermutation (xs ++ p ∷ []) (p ∷ xs)
last_first xs p = subst (λ l. IsPermutation (xs ++ p ∷ []) (p ∷ l)) (append-nil xs) (IsPermutation-middle xs p [])

pub late_waits : (s : State) (p : Stamped) → may_stay s p ≡ false → waits p ≡ true
late_waits s p h = by (waits p) h
  where
    by : (b : Bool) → (not b || every (other_is_open p.first) s.left) ≡ false → b ≡ true
    by true h = refl
    by false h = absurd cc

-- where a list has some operations in front, and its rest has none of them, they are in its first part
pub peeled : (test : Stamped → Bool) (pops ms xs out : List Stamped) → IsPermutation (xs ++ out) (pops ++ ms)
    → AllByRecursion (λ x. test x ≡ false) pops → AllByRecursion (λ x. test x ≡ true) out
    → (kept : List Stamped) × IsPermutation xs (pops ++ kept) × IsPermutation ms (kept ++ out)
peeled test [] ms xs out is h b = (xs, IsPermutation-refl xs, IsPermutation-sym (xs ++ out) ms is)
peeled test (a ∷ pops) ms xs out is h b = go (λ xs is. peeled test pops ms xs out is h.1 b) (out_of_two xs out a (pops ++ ms) is)
  where
    go : ((xs : List Stamped) → IsPermutation (xs ++ out) (pops ++ ms) → (kept : List Stamped) × IsPermutation xs (pops ++ kept) × IsPermutation ms (kept ++ out))
        → ((k : ℕ) × (slice_get xs k ≡ Some a) × IsPermutation (pops ++ ms) (without k xs ++ out)) ⊎ ((rest : List Stamped) × IsPermutation out (a ∷ rest) × IsPermutation (pops ++ ms) (xs ++ rest))
        → (kept : List Stamped) × IsPermutation xs (a ∷ pops ++ kept) × IsPermutation ms (kept ++ out)
    go more (inl k) =
        let m = more (without k.0 xs) (IsPermutation-sym (pops ++ ms) (without k.0 xs ++ out) k.2) in
        (m.0, IsPermutation-trans _ _ _ (taken_out k.0 xs a k.1) (IsPermutation-cons a _ _ m.1), m.2)
    go more (inr k) =
        let e = (all_moved (λ x. test x ≡ true) out (a ∷ k.0) k.1 b).0 in
        let f = h.0 in
        absurd (cc (sym e ∙ f))

-- each pop of the first list has a pending one of the other list in its place, which began by a number
abbrev pub Matched : ℕ → List Stamped → List Stamped → Type 0
Matched time [] [] = Unit {0}
Matched time [] (b ∷ spares) = IsIdle b × Matched time [] spares
Matched time (a ∷ pops) [] = ⊥
Matched time (a ∷ pops) (b ∷ spares) = IsTaker a × IsIdle b × (b.first ≤ time) × Matched time pops spares

takers : (time : ℕ) (pops spares : List Stamped) → Matched time pops spares → AllByRecursion IsTaker pops
takers time [] spares h = tt
takers time (a ∷ pops) [] h = absurd h
takers time (a ∷ pops) (b ∷ spares) h = (h.0, takers time pops spares h.3)

idle_there : (time : ℕ) (pops spares : List Stamped) → Matched time pops spares → AllByRecursion IsIdle spares
idle_there time [] [] h = tt
idle_there time [] (b ∷ spares) h = (h.0, idle_there time [] spares h.1)
idle_there time (a ∷ pops) [] h = absurd h
idle_there time (a ∷ pops) (b ∷ spares) h = (h.1, idle_there time pops spares h.3)

later_too : (time later : ℕ) → time ≤ later → (pops spares : List Stamped) → Matched time pops spares → Matched later pops spares
later_too time later l [] [] h = tt
later_too time later l [] (b ∷ spares) h = (h.0, later_too time later l [] spares h.1)
later_too time later l (a ∷ pops) [] h = absurd h
later_too time later l (a ∷ pops) (b ∷ spares) h = (h.0, h.1, le_trans b.first time later h.2 l, later_too time later l pops spares h.3)

-- the one in the place of another one
record Instead (time : ℕ) (pops spares : List Stamped) (k : ℕ) : Type 0 where
  pop : Stamped
  idle : IsIdle pop
  began : pop.first ≤ time
  others : List Stamped
  is : IsPermutation spares (pop ∷ others)
  matched : Matched time (without k pops) others

instead : (time : ℕ) (pops spares : List Stamped) → Matched time pops spares → (k : ℕ) (o : Stamped) → slice_get pops k ≡ Some o → Instead time pops spares k
instead time [] spares h k o e = absurd cc
instead time (a ∷ pops) [] h k o e = absurd h
instead time (a ∷ pops) (b ∷ spares) h zero o e = record { pop = b; idle = h.1; began = h.2; others = spares; is = IsPermutation-refl (b ∷ spares); matched = h.3 }
instead time (a ∷ pops) (b ∷ spares) h (suc k) o e =
    let m = instead time pops spares h.3 k o e in
    record {
      pop = m.pop;
      idle = m.idle;
      began = m.began;
      others = b ∷ m.others;
      is = IsPermutation-trans _ _ _ (IsPermutation-cons b spares (m.pop ∷ m.others) m.is) (IsPermutation-middle (b ∷ []) m.pop m.others);
      matched = (h.0, h.1, h.2, m.matched);
    }

-- A state has what another one has left, but for pops that take: it has a pending one in the place of each, and may have more of
-- them, and pushes that never ended.
pub record Spare (pops spares : List Stamped) (u v : State) : Type 0 where
  pub rest : List Stamped
  pub extra : List Stamped
  pub here : IsPermutation u.left (pops ++ rest)
  pub there : IsPermutation v.left ((spares ++ rest) ++ extra)
  pub loose : AllByRecursion IsLoose extra
  pub calls : AllByRecursion IsCall u.left
  pub matched : Matched u.time pops spares
  pub shut : v.shut ≡ u.shut
  pub time : v.time ≤ u.time

module _ (pops spares : List Stamped) (u v z : State) (r : Spare pops spares u v) (o : Stamped) (since : u.time ≤ z.time) (began : o.first ≤ z.time) (ongoing : AllByRecursion (OtherIsOpen z.time) u.left) where
  abbrev Answer : Type 0
  Answer = (cs : List Stamped) × (ds : List Stamped) × (w : State) × Step v w × Spare cs ds z w

  abbrev with_left : List Stamped → State
  with_left ws = record { left = ws; shut = z.shut; time = z.time }

  ones : AllByRecursion IsTaker pops
  ones = takers u.time pops spares r.matched

  idles : AllByRecursion IsIdle spares
  idles = idle_there u.time pops spares r.matched

  there_all : (P : Stamped → Type 0) → ((x : Stamped) → IsIdle x → P x) → ((x : Stamped) → IsLoose x → P x) → AllByRecursion P u.left → AllByRecursion P v.left
  there_all P i l a =
      all_moved P ((spares ++ r.rest) ++ r.extra) v.left (IsPermutation-sym v.left ((spares ++ r.rest) ++ r.extra) r.there)
      (all_joined P (spares ++ r.rest) r.extra
      (all_joined P spares r.rest (all_weaker IsIdle P i spares idles) (all_second P pops r.rest (all_moved P u.left (pops ++ r.rest) r.here a))) (all_weaker IsLoose P l r.extra r.loose))

  step_by : (q : Stamped) → q.first ≤ z.time → (w : State) → w.time ≡ z.time → HasEffect q.op q.reply q v w → Step v w
  step_by q h w e f = record {
    operation = q;
    since = subst (λ n. v.time ≤ n) (sym e) (le_trans v.time u.time z.time r.time since);
    began = subst (λ n. q.first ≤ n) (sym e) h;
    ongoing = subst (λ n. AllByRecursion (OtherIsOpen n) v.left) (sym e) (there_all (OtherIsOpen z.time) (idle_other z.time) (loose_other z.time) ongoing);
    effect = f;
  }

  -- what the step leaves, and the pushes that go
  record Sits (cs ds : List Stamped) (q : Stamped) (out : List Stamped) : Type 0 where
    kept : List Stamped
    here : IsPermutation z.left (cs ++ kept)
    there : IsPermutation v.left (q ∷ (ds ++ kept) ++ (out ++ r.extra))
    idle : AllByRecursion IsIdle ds
    matched : Matched z.time cs ds

  -- the same of a pop with a pending one in its place
  record SitsInstead (out : List Stamped) : Type 0 where
    one : IsTaker o
    cs : List Stamped
    ds : List Stamped
    pop : Stamped
    other : IsIdle pop
    by_now : pop.first ≤ z.time
    sits : Sits cs ds pop out

  none_waits : (xs : List Stamped) → AllByRecursion IsTaker xs → AllByRecursion (λ x. waits x ≡ false) xs
  none_waits xs h = all_weaker IsTaker (λ x. waits x ≡ false) taker_waits xs h

  -- what was picked of the rest goes to the front
  parted : (ds ms kept out : List Stamped) (q : Stamped) → IsPermutation ms (kept ++ out) → IsPermutation v.left (q ∷ (ds ++ ms) ++ r.extra) → IsPermutation v.left (q ∷ (ds ++ kept) ++ (out ++ r.extra))
  parted ds ms kept out q is h =
      let e : (ds ++ (kept ++ out)) ++ r.extra ≡ (ds ++ kept) ++ (out ++ r.extra) = ap (λ l. l ++ r.extra) (sym (append_assoc ds kept out)) ∙ append_assoc (ds ++ kept) out r.extra in
      subst (λ l. IsPermutation v.left (q ∷ l)) e
      (IsPermutation-trans _ _ _ h (IsPermutation-cons q _ _ (IsPermutation-append_left r.extra (ds ++ ms) (ds ++ (kept ++ out)) (IsPermutation-append_right ds ms (kept ++ out) is))))

  -- the operation is left in both, or it is a pop, and a pending one is in its place
  sits : (out : List Stamped) → AllByRecursion (λ x. waits x ≡ true) out → IsPermutation u.left (o ∷ z.left ++ out)
      → Sits pops spares o out ⊎ SitsInstead out
  sits out w is =
      go (out_of_two pops r.rest o (z.left ++ out) (IsPermutation-trans _ _ _ (IsPermutation-sym u.left (pops ++ r.rest) r.here) is))
    where
      go : ((k : ℕ) × (slice_get pops k ≡ Some o) × IsPermutation (z.left ++ out) (without k pops ++ r.rest)) ⊎ ((ms : List Stamped) × IsPermutation r.rest (o ∷ ms) × IsPermutation (z.left ++ out) (pops ++ ms))
          → Sits pops spares o out ⊎ SitsInstead out
      go (inr k) =
          let m = peeled waits pops k.0 z.left out k.2 (none_waits pops ones) w in
          let there = IsPermutation-trans _ _ _ r.there
          (IsPermutation-append_left r.extra (spares ++ r.rest) (o ∷ spares ++ k.0)
          (IsPermutation-trans _ _ _ (IsPermutation-append_right spares r.rest (o ∷ k.0) k.1) (IsPermutation-middle spares o k.0))) in
          inl (record {
            kept = m.0;
            here = m.1;
            there = parted spares k.0 m.0 out o m.2 there;
            idle = idles;
            matched = later_too u.time z.time since pops spares r.matched;
          })
      go (inl k) =
          let i = instead u.time pops spares r.matched k.0 o k.1 in
          let cs = without k.0 pops in
          let later = later_too u.time z.time since cs i.others i.matched in
          let m = peeled waits cs r.rest z.left out k.2 (none_waits cs (takers z.time cs i.others later)) w in
          let there = IsPermutation-trans _ _ _ r.there
          (IsPermutation-append_left r.extra (spares ++ r.rest) (i.pop ∷ i.others ++ r.rest) (IsPermutation-append_left r.rest spares (i.pop ∷ i.others) i.is)) in
          inr (record {
            one = all_at IsTaker pops k.0 o k.1 ones;
            cs = cs;
            ds = i.others;
            pop = i.pop;
            other = i.idle;
            by_now = le_trans i.pop.first u.time z.time i.began since;
            sits = record {
              kept = m.0;
              here = m.1;
              there = parted i.others r.rest m.0 out i.pop m.2 there;
              idle = idle_there z.time cs i.others later;
              matched = later;
            };
          })

  -- of what is left in both
  loud_sits : (IsTaker o → ⊥) → (out : List Stamped) → AllByRecursion (λ x. waits x ≡ true) out → IsPermutation u.left (o ∷ z.left ++ out) → Sits pops spares o out
  loud_sits loud out w is = go (sits out w is)
    where
      go : Sits pops spares o out ⊎ SitsInstead out → Sits pops spares o out
      go (inl s) = s
      go (inr h) = absurd (loud h.one)

  rest_calls : (rest : List Stamped) → IsPermutation u.left (o ∷ rest) → AllByRecursion IsCall rest
  rest_calls rest is = (all_moved IsCall u.left (o ∷ rest) is r.calls).1

  module _ (cs ds : List Stamped) (q : Stamped) (out : List Stamped) (s : Sits cs ds q out) where
    kept_all : (P : Stamped → Type 0) → ((x : Stamped) → IsIdle x → P x) → AllByRecursion P z.left → AllByRecursion P (ds ++ s.kept)
    kept_all P i a = all_joined P ds s.kept (all_weaker IsIdle P i ds s.idle) (all_second P cs s.kept (all_moved P z.left (cs ++ s.kept) s.here a))

    stood_all : (P : Stamped → Type 0) → ((x : Stamped) → IsIdle x → P x) → ((x : Stamped) → IsLoose x → P x) → AllByRecursion P z.left → AllByRecursion P ((ds ++ s.kept) ++ r.extra)
    stood_all P i l a = all_joined P (ds ++ s.kept) r.extra (kept_all P i a) (all_weaker IsLoose P l r.extra r.loose)

    again : (more : List Stamped) → AllByRecursion IsLoose more → AllByRecursion IsCall z.left → Spare cs ds z (with_left ((ds ++ s.kept) ++ more))
    again more l c =
        record { rest = s.kept; extra = more; here = s.here; there = IsPermutation-refl ((ds ++ s.kept) ++ more); loose = l; calls = c; matched = s.matched; shut = refl; time = omega arith }

  same_there : z.shut ≡ u.shut → z.shut ≡ v.shut
  same_there e = e ∙ sym r.shut

  taken_there : (value : Taken) (h : Takes value o u z) (cs ds : List Stamped) (q : Stamped) (s : Sits cs ds q (h.push ∷ [])) → Takes value q v (with_left ((ds ++ s.kept) ++ r.extra))
  taken_there value h cs ds q s = record {
    push = h.push;
    is = IsPermutation-trans _ _ _ s.there (IsPermutation-cons q _ _ (IsPermutation-middle (ds ++ s.kept) h.push r.extra));
    pushes = h.pushes;
    began = h.began;
    first = stood_all cs ds q (h.push ∷ []) s (PushIsOpen h.push.first) (idle_push h.push.first) (loose_push h.push.first) h.first;
    same = same_there h.same;
  }

  takes_sits : (value : Taken) (h : Takes value o u z) → Sits pops spares o (h.push ∷ []) ⊎ SitsInstead (h.push ∷ [])
  takes_sits value h =
      sits (h.push ∷ []) (h.pushes.waits, tt)
      (IsPermutation-trans _ _ _ h.is (IsPermutation-cons o _ _ (IsPermutation-sym (z.left ++ h.push ∷ []) (h.push ∷ z.left) (last_first z.left h.push))))

  takes : (value : Taken) → ((w : State) → Takes value o v w → HasEffect o.op o.reply o v w) → Takes value o u z → Answer
  takes value effect h = go (takes_sits value h)
    where
      left_calls : AllByRecursion IsCall z.left
      left_calls = (rest_calls (h.push ∷ z.left) h.is).1

      go : Sits pops spares o (h.push ∷ []) ⊎ SitsInstead (h.push ∷ []) → Answer
      go (inl s) =
          let w = with_left ((spares ++ s.kept) ++ r.extra) in
          (pops, spares, w, step_by o began w refl (effect w (taken_there value h pops spares o s)), again pops spares o (h.push ∷ []) s r.extra r.loose left_calls)
      go (inr k) =
          let w = with_left ((k.ds ++ k.sits.kept) ++ r.extra) in
          let i = k.other in
          let e : HasEffect Deq None k.pop v w = (value, taken_there value h k.cs k.ds k.pop k.sits) in
          let f = subst (λ op. HasEffect op k.pop.reply k.pop v w) (sym i.op) (subst (λ reply. HasEffect Deq reply k.pop v w) (sym i.reply) e) in
          (k.cs, k.ds, w, step_by k.pop k.by_now w refl f, again k.cs k.ds k.pop (h.push ∷ []) k.sits r.extra r.loose left_calls)

  -- nothing goes but the operation
  alone : (IsTaker o → ⊥) → IsPermutation u.left (o ∷ z.left) → Sits pops spares o []
  alone loud is = loud_sits loud [] tt (subst (λ l. IsPermutation u.left (o ∷ l)) (sym (append-nil z.left)) is)

  goes : (s : Sits pops spares o []) → AllByRecursion IsCall z.left → HasEffect o.op o.reply o v (with_left ((spares ++ s.kept) ++ r.extra)) → Answer
  goes s c e = let w = with_left ((spares ++ s.kept) ++ r.extra) in (pops, spares, w, step_by o began w refl e, again pops spares o [] s r.extra r.loose c)

  empties : (IsTaker o → ⊥) → ((w : State) → FindsEmpty o v w → HasEffect o.op o.reply o v w) → FindsEmpty o u z → Answer
  empties loud effect h =
      let s = alone loud h.is in
      goes s (rest_calls z.left h.is)
      (effect (with_left ((spares ++ s.kept) ++ r.extra))
      (record { is = s.there; none = stood_all pops spares o [] s (PushIsOpen z.time) (idle_push z.time) (loose_push z.time) h.none; before = r.shut ∙ h.before; same = same_there h.same }))

  leaves_it : (IsTaker o → ⊥) → (refusal : Refusal) → ((w : State) → IsLeft refusal o v w → HasEffect o.op o.reply o v w) → IsLeft refusal o u z → Answer
  leaves_it loud refusal effect h =
      let s = alone loud h.is in
      goes s (rest_calls z.left h.is) (effect (with_left ((spares ++ s.kept) ++ r.extra)) (record { is = s.there; leaves = h.leaves; same = same_there h.same }))

  tells : (IsTaker o → ⊥) → ((w : State) → IsTold o v w → HasEffect o.op o.reply o v w) → IsTold o u z → Answer
  tells loud effect h =
      let s = alone loud h.is in
      goes s (rest_calls z.left h.is) (effect (with_left ((spares ++ s.kept) ++ r.extra)) (record { is = s.there; before = r.shut ∙ h.before; same = same_there h.same }))

  drains : (IsTaker o → ⊥) → ((w : State) → IsToldDrained o v w → HasEffect o.op o.reply o v w) → IsToldDrained o u z → Answer
  drains loud effect h =
      let s = loud_sits loud h.dropped h.pushes h.is in
      let w = with_left (spares ++ s.kept) in
      let c = all_first IsCall z.left h.dropped (rest_calls (z.left ++ h.dropped) h.is) in (
        pops,
        spares,
        w,
        step_by o began w refl
            (effect w (record {
              dropped = h.dropped ++ r.extra;
              is = s.there;
              untold = all_joined IsUntold h.dropped r.extra h.untold (all_weaker IsLoose IsUntold (λ x l. l.untold) r.extra r.loose);
              pushes = all_joined (λ p. waits p ≡ true) h.dropped r.extra h.pushes (all_weaker IsLoose (λ p. waits p ≡ true) (λ x l. l.waits) r.extra r.loose);
              none = kept_all pops spares o h.dropped s (λ p. waits p ≡ false) idle_waits h.none;
              before = r.shut ∙ h.before;
              same = same_there h.same;
            })),
        subst (λ l. Spare pops spares z (with_left l)) (append-nil (spares ++ s.kept)) (again pops spares o h.dropped s [] tt c),
      )

  -- what stays behind a shut of the other one stays behind one of this
  stays_too : (p : Stamped) → may_stay u p ≡ true → may_stay v p ≡ true
  stays_too p h = by (waits p) refl h
    where
      by : (b : Bool) → waits p ≡ b → (not b || every (other_is_open p.first) u.left) ≡ true → (not (waits p) || every (other_is_open p.first) v.left) ≡ true
      by false e h = or_left _ _ (ap not e)
      by true e h =
          or_right (not (waits p)) _
          (every_all (other_is_open p.first) v.left
          (there_all (λ x. other_is_open p.first x ≡ true) (idle_passes p.first) (loose_passes p.first) (all_every (other_is_open p.first) u.left h)))

  shuts : (IsTaker o → ⊥) → ((w : State) → Shuts o v w → HasEffect o.op o.reply o v w) → Shuts o u z → Answer
  shuts loud effect h = (pops, spares, w, step_by o began w refl (effect w shut), again pops spares o h.dropped s (filter stay more) loose_stay (all_first IsCall z.left h.dropped calls))
    where
      stay : Stamped → Bool
      stay p = may_stay v p

      go_out : Stamped → Bool
      go_out p = not (may_stay v p)

      out : AllByRecursion (λ p. waits p ≡ true) h.dropped
      out = all_weaker (λ p. may_stay u p ≡ false) (λ p. waits p ≡ true) (late_waits u) h.dropped h.late

      s : Sits pops spares o h.dropped
      s = loud_sits loud h.dropped out h.is

      more : List Stamped
      more = h.dropped ++ r.extra

      w : State
      w = with_left ((spares ++ s.kept) ++ filter stay more)

      calls : AllByRecursion IsCall (z.left ++ h.dropped)
      calls = rest_calls (z.left ++ h.dropped) h.is

      all_loose : AllByRecursion IsLoose more
      all_loose = all_joined IsLoose h.dropped r.extra (loose_all h.dropped out h.untold (untold_unended h.dropped (all_second IsCall z.left h.dropped calls) h.untold)) r.loose

      loose_stay : AllByRecursion IsLoose (filter stay more)
      loose_stay = all_filtered IsLoose stay more all_loose

      shut : Shuts o v w
      shut = record {
        dropped = filter go_out more;
        is = subst (λ l. IsPermutation v.left (o ∷ l)) (sym (append_assoc (spares ++ s.kept) (filter stay more) (filter go_out more)))
            (IsPermutation-trans _ _ _ s.there
            (IsPermutation-cons o _ _ (IsPermutation-append_right (spares ++ s.kept) more (filter stay more ++ filter go_out more) (IsPermutation-filter_both stay go_out (λ x. refl) more))));
        untold = all_weaker IsLoose IsUntold (λ x l. l.untold) (filter go_out more) (all_filtered IsLoose go_out more all_loose);
        kept = all_joined (λ p. may_stay v p ≡ true) (spares ++ s.kept) (filter stay more)
            (kept_all pops spares o h.dropped s (λ p. may_stay v p ≡ true) (idle_stays v) (all_weaker (λ p. may_stay u p ≡ true) (λ p. may_stay v p ≡ true) stays_too z.left h.kept)) (all_pass stay more);
        late = back_off (filter go_out more) stay (all_pass go_out more);
        before = r.shut ∙ h.before;
        after = h.after;
      }

  module _ (op : Op) (reply : Option Reply) (e : o.op ≡ op) (f : o.reply ≡ reply) where
    back : (w : State) → HasEffect op reply o v w → HasEffect o.op o.reply o v w
    back w h = subst (λ op. HasEffect op o.reply o v w) (sym e) (subst (λ reply. HasEffect op reply o v w) (sym f) h)

  loud_reply : (reply : Option Reply) → o.reply ≡ reply → takes_value reply ≡ false → IsTaker o → ⊥
  loud_reply reply f e i = let g = i.reply in cc (sym g ∙ ap takes_value f ∙ e)

  no_pop : o.op ≡ Shut → IsTaker o → ⊥
  no_pop f i = let e = i.op in cc (sym f ∙ e)

  gets_refused : (refusal : Refusal) (op : Op) → o.op ≡ op → o.reply ≡ Some (Refused refusal) → GetsRefused refusal op o u z → Answer
  gets_refused refusal (Enq body) e f (inl h) = leaves_it (loud_reply (Some (Refused refusal)) f refl) refusal (λ w k. back (Enq body) (Some (Refused refusal)) e f w (inl k)) h
  gets_refused refusal (Enq body) e f (inr h) = tells (loud_reply (Some (Refused refusal)) f refl) (λ w k. back (Enq body) (Some (Refused refusal)) e f w (inr (h.0, k))) h.1
  gets_refused refusal Shut e f (inl h) = leaves_it (loud_reply (Some (Refused refusal)) f refl) refusal (λ w k. back Shut (Some (Refused refusal)) e f w (inl k)) h
  gets_refused refusal Shut e f (inr h) = tells (loud_reply (Some (Refused refusal)) f refl) (λ w k. back Shut (Some (Refused refusal)) e f w (inr (h.0, k))) h.1
  gets_refused refusal Deq e f (inl h) = leaves_it (loud_reply (Some (Refused refusal)) f refl) refusal (λ w k. back Deq (Some (Refused refusal)) e f w (inl k)) h
  gets_refused refusal Deq e f (inr h) = drains (loud_reply (Some (Refused refusal)) f refl) (λ w k. back Deq (Some (Refused refusal)) e f w (inr (h.0, k))) h.1

  follows : (op : Op) (reply : Option Reply) → o.op ≡ op → o.reply ≡ reply → HasEffect op reply o u z → Answer
  follows (Enq body) None e f h = absurd h
  follows Deq None e f h = takes h.0 (λ w k. back Deq None e f w (h.0, k)) h.1
  follows Shut None e f h = shuts (no_pop e) (back Shut None e f) h
  follows (Enq body) (Some Done) e f h = absurd h
  follows Deq (Some Done) e f h = absurd h
  follows Shut (Some Done) e f h = shuts (no_pop e) (back Shut (Some Done) e f) h
  follows (Enq body) (Some (Value value)) e f h = absurd h
  follows Deq (Some (Value value)) e f h = takes value (back Deq (Some (Value value)) e f) h
  follows Shut (Some (Value value)) e f h = absurd h
  follows (Enq body) (Some Empty) e f h = absurd h
  follows Deq (Some Empty) e f h = empties (loud_reply (Some Empty) f refl) (back Deq (Some Empty) e f) h
  follows Shut (Some Empty) e f h = absurd h
  follows (Enq body) (Some (Refused refusal)) e f h = gets_refused refusal (Enq body) e f h
  follows Deq (Some (Refused refusal)) e f h = gets_refused refusal Deq e f h
  follows Shut (Some (Refused refusal)) e f h = gets_refused refusal Shut e f h

-- ---- all steps

spare_end : (pops spares : List Stamped) (u v : State) → Spare pops spares u v → IsEnd u → IsEnd v
spare_end pops spares u v r h =
    all_moved OtherIsUntold ((spares ++ r.rest) ++ r.extra) v.left (IsPermutation-sym v.left ((spares ++ r.rest) ++ r.extra) r.there)
    (all_joined OtherIsUntold (spares ++ r.rest) r.extra
    (all_joined OtherIsUntold spares r.rest (all_weaker IsIdle OtherIsUntold idle_untold spares (idle_there u.time pops spares r.matched))
    (all_second OtherIsUntold pops r.rest (all_moved OtherIsUntold u.left (pops ++ r.rest) r.here h))) (all_weaker IsLoose OtherIsUntold loose_untold r.extra r.loose))

pub spare_futures : (n : ℕ) (pops spares : List Stamped) (u v : State) → Spare pops spares u v → CanEnd n u → CanEnd n v
spare_futures zero pops spares u v r h = spare_end pops spares u v r h
spare_futures (suc n) pops spares u v r (inl h) = inl (spare_end pops spares u v r h)
spare_futures (suc n) pops spares u v r (inr h) =
    let a = follows pops spares u v h.0 r h.1.operation h.1.since h.1.began h.1.ongoing h.1.operation.op h.1.operation.reply refl refl h.1.effect in
    inr (a.2, a.3, spare_futures n a.0 a.1 h.0 a.2 a.4 h.2)

-- without pushes more
pub spare : (pops spares rest : List Stamped) (u v : State) → AllByRecursion IsCall u.left → IsPermutation u.left (pops ++ rest) → IsPermutation v.left (spares ++ rest) → Matched u.time pops spares
    → v.shut ≡ u.shut → v.time ≤ u.time → Spare pops spares u v
spare pops spares rest u v c here there m e l =
    record { rest = rest; extra = []; here = here; there = subst (λ l. IsPermutation v.left l) (sym (append-nil (spares ++ rest))) there; loose = tt; calls = c; matched = m; shut = e; time = l }
