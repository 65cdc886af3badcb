-- A pending pop waits until a push is in the way of a pop that was told a reply: until then, what goes behind it can go before.
use Rattle.std.proofs.Common.{◌≡◌, ℕ, zero, suc, ◌≤◌, ◌<◌, nat_le, Bool, true, false, not, ◌||◌, ◌⊎◌, inl, inr, List, [], ◌∷◌, ◌++◌, Option, None, Some, IsSome, IfSome, is_some, slice_get, refl, sym, ap, ◌∙◌, subst, arith}
use Rattle.std.specs.List.{AllByRecursion}
use Rattle.std.specs.List.Sorted.{IsPermutation}
use Rattle.std.proofs.lemmas.Bool.{leb-true, leb-false}
use Rattle.std.proofs.lemmas.Option.{same_Some}
use Rattle.std.proofs.lemmas.List.{append-nil}
use Rattle.std.proofs.lemmas.List.Sorted.{IsPermutation-refl, IsPermutation-sym, IsPermutation-trans, IsPermutation-cons, IsPermutation-middle}
use Rattle.history.specs.declared.refusals.Refusal.{Refusal}
use Rattle.history.specs.declared.operations.Op.{Op}
use Rattle.history.specs.declared.operations.Op.TheVariants.{Enq, Deq, Shut}
use Rattle.history.specs.declared.operations.Taken.{Taken}
use Rattle.history.specs.declared.operations.Reply.{Reply}
use Rattle.history.specs.declared.operations.Reply.TheVariants.{Done, Value, Empty, Refused}
use Rattle.history.specs.declared.operations.Stamped.{Stamped}
use Rattle.waiting_orders.specs.Waiting.{IsCall, State, Step, HasEffect, GetsRefused, Takes, FindsEmpty, IsLeft, IsTold, IsToldDrained, Shuts, IsEnd, CanEnd, Where, IsOpenAt, OtherIsOpen, PushIsOpen, IsUntold, OtherIsUntold, waits, is_push, every, other_is_open, may_stay}
use Rattle.waiting_orders.specs.Pending.{is_pending_pop, is_untold, EndedBefore, EndsBy, AreNoSooner, Pops, CouldGo, IsToldInstead, IsLeftIn, WaitsBehind, IsInTheWay, Hinders, StepOfOther, IsFirstToEnd, EndsLazily}
use Rattle.waiting_orders.specs.Lines.{without}
use Rattle.waiting_orders.proofs.Futures.{all_moved, all_every, every_all}
use Rattle.waiting_orders.proofs.Lists.{or_left, or_right, all_joined, all_weaker, where_any, where_not, other_open_true}
use Rattle.waiting_orders.proofs.Limits.{all_first, all_second}
use Rattle.waiting_orders.proofs.Quiet.{le_trans, more_steps, out_of_two}
use Rattle.waiting_orders.proofs.Spare.{last_first, IsIdle, spare, idle_taker, told_taker, idle_waits, idle_other, idle_push, idle_passes, idle_stays, idle_untold, spare_futures}
use Rattle.waiting_orders.proofs.Stepping.{untold_unended}

-- ---- when something ended

open_or_ended : (number : ℕ) (last : Option ℕ) → IfSome last (λ last. number ≤ last) ⊎ EndedBefore number last
open_or_ended number None = inl tt
open_or_ended number (Some last) = go (nat_le number last) refl
  where
    go : (b : Bool) → nat_le number last ≡ b → (number ≤ last) ⊎ (last < number)
    go true e = inl (leb-true number last e)
    go false e = inr (leb-false number last e)

-- what was open at a number ended later than what had ended before it
no_sooner : (number : ℕ) (one other : Option ℕ) → IfSome one (λ last. number ≤ last) → EndedBefore number other → EndsBy one other → ⊥
no_sooner number one None h k e = k
no_sooner number None (Some other) h k e = e
no_sooner number (Some one) (Some other) h k e = omega (arith, h, k, e)

never_sooner : (one other : Option ℕ) → one ≡ None → IsSome other → EndsBy one other → ⊥
never_sooner one None e h k = absurd cc
never_sooner None (Some other) e h k = k
never_sooner (Some one) (Some other) e h k = absurd cc

ended_sooner : (number : ℕ) (one other : Option ℕ) → EndsBy one other → EndedBefore number other → EndedBefore number one
ended_sooner number one None e h = absurd h
ended_sooner number None (Some other) e h = e
ended_sooner number (Some one) (Some other) e h = omega (arith, e, h)

some_sooner : (one other : Option ℕ) → EndsBy one other → IsSome other → IsSome one
some_sooner one None e h = absurd cc
some_sooner None (Some other) e h = absurd e
some_sooner (Some one) (Some other) e h = refl

open_by : (number : ℕ) (one other : Option ℕ) → EndsBy one other → IfSome one (λ last. number ≤ last) → IfSome other (λ last. number ≤ last)
open_by number one None e h = tt
open_by number None (Some other) e h = absurd e
open_by number (Some one) (Some other) e h = omega (arith, e, h)

where_weaker : (P Q : Type 0) → (P → Q) → (b : Bool) → Where b P → Where b Q
where_weaker P Q f true h = f h
where_weaker P Q f false h = tt

where_so : (P : Type 0) (b : Bool) → b ≡ true → Where b P → P
where_so P true e h = h
where_so P false e h = absurd cc

no_push : (P : Stamped → Type 0) (o : Stamped) → waits o ≡ false → Where (waits o) (P o)
no_push P o e = where_not (waits o) (P o) e

no_other : (P : Stamped → Type 0) (o : Stamped) → waits o ≡ true → Where (not (waits o)) (P o)
no_other P o e = where_not (not (waits o)) (P o) (ap not e)

pub deq_waits : (o : Stamped) → o.op ≡ Deq → waits o ≡ false
deq_waits o e = subst (λ op. is_push op o.reply ≡ false) (sym e) refl

is_idle : (o : Stamped) → IsCall o → o.op ≡ Deq → o.reply ≡ None → IsIdle o
is_idle o c e f = record { op = e; reply = f; last = (untold_unended (o ∷ []) (c, tt) (f, tt)).0 }

-- ---- a pending pop that takes

pops_step : (d p : Stamped) (s t : State) → Pops d p s t → Step s t
pops_step d p s t x = record {
  operation = d;
  since = x.since;
  began = x.pop_began;
  ongoing = x.ongoing;
  effect = subst (λ op. HasEffect op d.reply d s t) (sym x.op) (subst (λ reply. HasEffect Deq reply d s t) (sym x.reply) taken);
}
  where
    taken : HasEffect Deq None d s t
    taken = (x.value, record { push = p; is = x.is; pushes = x.pushes; began = x.push_began; first = x.first; same = x.same })

-- what a pending pop took
pub record Popped (d : Stamped) (s t : State) : Type 0 where
  pub push : Stamped
  pub pops : Pops d push s t

pub popped_of : (s t : State) (h : Step s t) (op : Op) (reply : Option Reply) → h.operation.op ≡ op → h.operation.reply ≡ reply → HasEffect op reply h.operation s t
    → is_pending_pop op reply ≡ true → Popped h.operation s t
popped_of s t h (Enq body) reply e f k b = absurd cc
popped_of s t h Shut reply e f k b = absurd cc
popped_of s t h Deq (Some reply) e f k b = absurd cc
popped_of s t h Deq None e f k b = record {
  push = k.1.push;
  pops = record {
    op = e;
    reply = f;
    value = k.0;
    pushes = k.1.pushes;
    is = k.1.is;
    since = h.since;
    pop_began = h.began;
    push_began = k.1.began;
    ongoing = h.ongoing;
    first = k.1.first;
    same = k.1.same;
  };
}

-- ---- of two pending pops the one that began first

pub in_turn : (n : ℕ) (d e p : Stamped) (s t : State) → CouldGo d e p s t → CanEnd n t → (u : State) × Pops d p s u × CanEnd n u
in_turn n d e p s t c h =
    let x = c.pops in
    let rest = c.there.rest in
    let all = (all_moved IsCall s.left (e ∷ p ∷ t.left) x.is c.calls) in
    let calls = all_moved IsCall t.left (d ∷ rest) c.there.is all.1.1 in
    let one : IsIdle e = is_idle e all.0 x.op x.reply in
    let other : IsIdle d = is_idle d calls.0 c.op c.reply in
    let u : State = record { left = e ∷ rest; shut = t.shut; time = t.time } in
    let first = all_moved (PushIsOpen p.first) t.left (d ∷ rest) c.there.is x.first in (
      u,
      record {
        op = c.op;
        reply = c.reply;
        value = x.value;
        pushes = x.pushes;
        is = IsPermutation-trans _ _ _ x.is
            (IsPermutation-trans _ _ _ (IsPermutation-cons e _ _ (IsPermutation-cons p _ _ c.there.is))
            (IsPermutation-trans _ _ _ (IsPermutation-middle (e ∷ p ∷ []) d rest) (IsPermutation-cons d _ _ (IsPermutation-middle (e ∷ []) p rest))));
        since = x.since;
        pop_began = le_trans d.first e.first t.time c.sooner x.pop_began;
        push_began = x.push_began;
        ongoing = x.ongoing;
        first = (idle_push p.first e one, first.1);
        same = x.same;
      },
      spare_futures n (d ∷ []) (e ∷ []) t u
          (spare (d ∷ []) (e ∷ []) rest t u all.1.1 c.there.is (IsPermutation-refl (e ∷ rest)) (idle_taker d other, one, x.pop_began, tt) refl (omega arith)) h,
    )

-- ---- a pop that was told the value goes instead of a pending one

pub told_instead : (n : ℕ) (o d p : Stamped) (s t : State) → IsToldInstead o d p s t → CanEnd n t → (u : State) × StepOfOther s u × CanEnd n u
told_instead n o d p s t c h =
    let x = c.pops in
    let rest = c.there.rest in
    let all = all_moved IsCall s.left (d ∷ p ∷ t.left) x.is c.calls in
    let one : IsIdle d = is_idle d all.0 x.op x.reply in
    let u : State = record { left = d ∷ rest; shut = t.shut; time = t.time } in
    let first = all_moved (PushIsOpen p.first) t.left (o ∷ rest) c.there.is x.first in
    let takes : HasEffect Deq (Some (Value c.value)) o s u = record {
      push = p;
      is = IsPermutation-trans _ _ _ x.is
          (IsPermutation-trans _ _ _ (IsPermutation-cons d _ _ (IsPermutation-cons p _ _ c.there.is))
          (IsPermutation-trans _ _ _ (IsPermutation-middle (d ∷ p ∷ []) o rest) (IsPermutation-cons o _ _ (IsPermutation-middle (d ∷ []) p rest))));
      pushes = c.pushes;
      began = x.push_began;
      first = (idle_push p.first d one, first.1);
      same = x.same;
    } in (
      u,
      record {
        step = record {
          operation = o;
          since = x.since;
          began = c.began;
          ongoing = x.ongoing;
          effect = subst (λ op. HasEffect op o.reply o s u) (sym c.op) (subst (λ reply. HasEffect Deq reply o s u) (sym c.reply) takes);
        };
        other = ap (λ op. is_pending_pop op o.reply) c.op ∙ ap is_untold c.reply;
      },
      spare_futures n (o ∷ []) (d ∷ []) t u
          (spare (o ∷ []) (d ∷ []) rest t u all.1.1 c.there.is (IsPermutation-refl (d ∷ rest)) (told_taker o c.value c.op c.reply, one, x.pop_began, tt) refl (omega arith)) h,
    )

-- ---- what goes behind a pending pop goes before it, unless the push is in the way

-- all pushes that wait here ended later than this one
abbrev AreLater : Stamped → List Stamped → Type 0
AreLater p os = AllByRecursion (λ q. Where (waits q) (EndsBy q.last p.last → ⊥)) os

-- an operation that is no pending pop goes
record OtherGoes (n : ℕ) (s : State) : Type 0 where
  next : State
  step : StepOfOther s next
  ends : CanEnd n next

module _ (d p : Stamped) (s t : State) (x : Pops d p s t) (calls : AllByRecursion IsCall s.left) where
  calls_moved : AllByRecursion IsCall (d ∷ p ∷ t.left)
  calls_moved = all_moved IsCall s.left (d ∷ p ∷ t.left) x.is calls

  calls_there : AllByRecursion IsCall t.left
  calls_there = calls_moved.1.1

  idle : IsIdle d
  idle = is_idle d calls_moved.0 x.op x.reply

  all_here : (P : Stamped → Type 0) → P d → P p → AllByRecursion P t.left → AllByRecursion P s.left
  all_here P a b c = all_moved P (d ∷ p ∷ t.left) s.left (IsPermutation-sym s.left (d ∷ p ∷ t.left) x.is) (a, (b, c))

  ongoing_here : (number : ℕ) → AllByRecursion (OtherIsOpen number) t.left → AllByRecursion (OtherIsOpen number) s.left
  ongoing_here number h = all_here (OtherIsOpen number) (idle_other number d idle) (no_other (IsOpenAt number) p x.pushes.waits) h

  through : (o : Stamped) (rest : List Stamped) → IsPermutation t.left (o ∷ rest) → IsPermutation s.left (o ∷ d ∷ p ∷ rest)
  through o rest is = IsPermutation-trans _ _ _ x.is (IsPermutation-trans _ _ _ (IsPermutation-cons d _ _ (IsPermutation-cons p _ _ is)) (IsPermutation-middle (d ∷ p ∷ []) o rest))

  left_here : (o : Stamped) → IsLeftIn o t → IsLeftIn o s
  left_here o h = record { rest = d ∷ p ∷ h.rest; is = through o h.rest h.is }

  end_before : IsEnd t → IsEnd s
  end_before h = all_here OtherIsUntold (idle_untold d idle) (no_other IsUntold p x.pushes.waits) h

  -- what a push is in the way of behind it, it is in the way of before it
  way_here : (q : Stamped) (number : ℕ) (op : Op) (reply : Option Reply) → IsInTheWay q number t op reply → IsInTheWay q number s op reply
  way_here q number (Enq body) reply h = absurd h
  way_here q number Shut reply h = absurd h
  way_here q number Deq None h = absurd h
  way_here q number Deq (Some Done) h = absurd h
  way_here q number Deq (Some (Value v)) h = record { push = h.push; there = left_here h.push h.there; pushes = h.pushes; began = h.began; behind = h.behind }
  way_here q number Deq (Some Empty) h = (sym x.same ∙ h.0, h.1)
  way_here q number Deq (Some (Refused refusal)) h = (h.0, sym x.same ∙ h.1, h.2)

  hinders_here : (q : Stamped) → Hinders q t → Hinders q s
  hinders_here q h = record {
    pop = h.pop;
    there = left_here h.pop h.there;
    number = h.number;
    since = le_trans s.time t.time h.number x.since h.since;
    began = h.began;
    ongoing = ongoing_here h.number h.ongoing;
    way = way_here q h.number h.pop.op h.pop.reply h.way;
  }

  module _ (z : State) (o : Stamped) (since : t.time ≤ z.time) (began : o.first ≤ z.time) (ongoing : AllByRecursion (OtherIsOpen z.time) t.left)
      (n : ℕ) (ends : CanEnd n z) (other : is_pending_pop o.op o.reply ≡ false) where
    abbrev Outcome : Type 0
    Outcome = OtherGoes (suc n) s ⊎ (Hinders p s × AreLater p t.left)

    abbrev before : State
    before = record { left = d ∷ p ∷ z.left; shut = z.shut; time = z.time }

    since_here : s.time ≤ z.time
    since_here = le_trans s.time t.time z.time x.since since

    push_began : p.first ≤ z.time
    push_began = le_trans p.first t.time z.time x.push_began since

    -- what is left behind both
    rest_of : (P : Stamped → Type 0) (out : List Stamped) → IsPermutation t.left (o ∷ z.left ++ out) → AllByRecursion P t.left → AllByRecursion P z.left
    rest_of P out is a = all_first P z.left out (all_moved P t.left (o ∷ z.left ++ out) is a).1

    moved : (out : List Stamped) → IsPermutation t.left (o ∷ z.left ++ out) → IsPermutation s.left (o ∷ (d ∷ p ∷ z.left) ++ out)
    moved out is = through o (z.left ++ out) is

    alone : IsPermutation t.left (o ∷ z.left) → IsPermutation t.left (o ∷ z.left ++ [])
    alone is = subst (λ l. IsPermutation t.left (o ∷ l)) (sym (append-nil z.left)) is

    pops_then : (out : List Stamped) → IsPermutation t.left (o ∷ z.left ++ out) → Pops d p before z
    pops_then out is = record {
      op = x.op;
      reply = x.reply;
      value = x.value;
      pushes = x.pushes;
      is = IsPermutation-refl (d ∷ p ∷ z.left);
      since = omega arith;
      pop_began = le_trans d.first t.time z.time x.pop_began since;
      push_began = push_began;
      ongoing = (idle_other z.time d idle, (no_other (IsOpenAt z.time) p x.pushes.waits, rest_of (OtherIsOpen z.time) out is ongoing));
      first = rest_of (PushIsOpen p.first) out is x.first;
      same = refl;
    }

    step_to : (w : State) → w.time ≡ z.time → HasEffect o.op o.reply o s w → StepOfOther s w
    step_to w e h = record {
      step = record {
        operation = o;
        since = subst (λ n. s.time ≤ n) (sym e) since_here;
        began = subst (λ n. o.first ≤ n) (sym e) began;
        ongoing = subst (λ n. AllByRecursion (OtherIsOpen n) s.left) (sym e) (ongoing_here z.time ongoing);
        effect = h;
      };
      other = other;
    }

    goes_before : (out : List Stamped) → IsPermutation t.left (o ∷ z.left ++ out) → HasEffect o.op o.reply o s before → Outcome
    goes_before out is h = inl (record { next = before; step = step_to before refl h; ends = inr (z, pops_step d p before z (pops_then out is), ends) })

    hindered : (out : List Stamped) → IsPermutation t.left (o ∷ z.left ++ out) → IsInTheWay p z.time s o.op o.reply → AreLater p t.left → Outcome
    hindered out is way later = inr (
      record { pop = o; there = left_here o (record { rest = z.left ++ out; is = is }); number = z.time; since = since_here; began = began; ongoing = ongoing_here z.time ongoing; way = way },
      later,
    )

    later_there : (out : List Stamped) → IsPermutation t.left (o ∷ z.left ++ out) → waits o ≡ false → AreLater p z.left → AreLater p out → AreLater p t.left
    later_there out is e a b =
        let P = λ (q : Stamped). Where (waits q) (EndsBy q.last p.last → ⊥) in
        all_moved P (o ∷ z.left ++ out) t.left (IsPermutation-sym t.left (o ∷ z.left ++ out) is) (no_push (λ q. EndsBy q.last p.last → ⊥) o e, all_joined P z.left out a b)

    open_later : (number : ℕ) → EndedBefore number p.last → (os : List Stamped) → AllByRecursion (PushIsOpen number) os → AreLater p os
    open_later number h os a =
        all_weaker (PushIsOpen number) (λ q. Where (waits q) (EndsBy q.last p.last → ⊥))
        (λ q k. where_weaker (IsOpenAt number q) (EndsBy q.last p.last → ⊥) (λ k e. no_sooner number q.last p.last k h e) (waits q) k) os a

    takes : (value : Taken) → o.op ≡ Deq → ((w : State) → Takes value o s w → HasEffect o.op o.reply o s w)
        → (WaitsBehind p value z.time s → IsInTheWay p z.time s o.op o.reply) → Takes value o t z → Outcome
    takes value e effect way h = go (open_or_ended q.first p.last)
      where
        q : Stamped
        q = h.push

        is : IsPermutation t.left (o ∷ z.left ++ q ∷ [])
        is = IsPermutation-trans _ _ _ h.is (IsPermutation-cons o _ _ (IsPermutation-sym (z.left ++ q ∷ []) (q ∷ z.left) (last_first z.left q)))

        call : IsCall q
        call = (all_moved IsCall t.left (o ∷ q ∷ z.left) h.is calls_there).1.0

        go : IsOpenAt q.first p ⊎ EndedBefore q.first p.last → Outcome
        go (inl k) =
            goes_before (q ∷ []) is
            (effect before (record {
              push = q;
              is = IsPermutation-trans _ _ _ (moved (q ∷ []) is) (IsPermutation-cons o _ _ (last_first (d ∷ p ∷ z.left) q));
              pushes = h.pushes;
              began = h.began;
              first = (idle_push q.first d idle, (where_any (waits p) (IsOpenAt q.first p) k, h.first));
              same = h.same ∙ x.same;
            }))
        go (inr k) =
            hindered (q ∷ []) is
            (way (record {
              push = q;
              there = left_here q (record { rest = o ∷ z.left; is = IsPermutation-trans _ _ _ h.is (IsPermutation-middle (o ∷ []) q z.left) });
              pushes = h.pushes;
              began = h.began;
              behind = k;
            }))
            (later_there (q ∷ []) is (deq_waits o e) (open_later q.first k z.left h.first)
            (where_any (waits q) (EndsBy q.last p.last → ⊥) (λ e. no_sooner q.first q.last p.last call.spans k e), tt))

    empties : o.op ≡ Deq → ((w : State) → FindsEmpty o s w → HasEffect o.op o.reply o s w)
        → ((s.shut ≡ false) × EndedBefore z.time p.last → IsInTheWay p z.time s o.op o.reply) → FindsEmpty o t z → Outcome
    empties e effect way h = go (open_or_ended z.time p.last)
      where
        go : IsOpenAt z.time p ⊎ EndedBefore z.time p.last → Outcome
        go (inl k) =
            goes_before [] (alone h.is)
            (effect before (record {
              is = through o z.left h.is;
              none = (idle_push z.time d idle, (where_any (waits p) (IsOpenAt z.time p) k, h.none));
              before = sym x.same ∙ h.before;
              same = h.same ∙ x.same;
            }))
        go (inr k) = hindered [] (alone h.is) (way (sym x.same ∙ h.before, k)) (later_there [] (alone h.is) (deq_waits o e) (open_later z.time k z.left h.none) tt)

    leaves_it : (refusal : Refusal) → ((w : State) → IsLeft refusal o s w → HasEffect o.op o.reply o s w) → IsLeft refusal o t z → Outcome
    leaves_it refusal effect h =
        goes_before [] (alone h.is) (effect before (record { is = through o z.left h.is; leaves = h.leaves; same = h.same ∙ x.same }))

    tells : ((w : State) → IsTold o s w → HasEffect o.op o.reply o s w) → IsTold o t z → Outcome
    tells effect h =
        goes_before [] (alone h.is) (effect before (record { is = through o z.left h.is; before = sym x.same ∙ h.before; same = h.same ∙ x.same }))

    drains : o.op ≡ Deq → ((w : State) → IsToldDrained o s w → HasEffect o.op o.reply o s w)
        → ((s.shut ≡ true) × IsSome p.last → IsInTheWay p z.time s o.op o.reply) → IsToldDrained o t z → Outcome
    drains e effect way h = go p.reply refl
      where
        none_later : AreLater p z.left
        none_later = all_weaker (λ q. waits q ≡ false) (λ q. Where (waits q) (EndsBy q.last p.last → ⊥)) (λ q e. no_push (λ q. EndsBy q.last p.last → ⊥) q e) z.left h.none

        go : (reply : Option Reply) → p.reply ≡ reply → Outcome
        go None f =
            let w : State = record { left = d ∷ z.left; shut = z.shut; time = z.time } in
            inl (record {
              next = w;
              step = step_to w refl
                  (effect w (record {
                    dropped = p ∷ h.dropped;
                    is = IsPermutation-trans _ _ _ (moved h.dropped h.is) (IsPermutation-cons o _ _ (IsPermutation-cons d _ _ (IsPermutation-sym (z.left ++ p ∷ h.dropped) _ (IsPermutation-middle z.left p h.dropped))));
                    untold = (f, h.untold);
                    pushes = (x.pushes.waits, h.pushes);
                    none = (idle_waits d idle, h.none);
                    before = sym x.same ∙ h.before;
                    same = h.same ∙ x.same;
                  }));
              ends = more_steps n w
                  (spare_futures n [] (d ∷ []) z w
                  (spare [] (d ∷ []) z.left z w (rest_of IsCall h.dropped h.is calls_there) (IsPermutation-refl z.left) (IsPermutation-refl (d ∷ z.left)) (idle, tt) refl (omega arith)) ends);
            })
        go (Some reply) f =
            let told : IsSome p.reply = ap is_some f in
            let ended : IsSome p.last = calls_moved.1.0.ended.1 told in
            let out = all_second IsCall z.left h.dropped (all_moved IsCall t.left (o ∷ z.left ++ h.dropped) h.is calls_there).1 in
            let unended = untold_unended h.dropped out h.untold in
            hindered h.dropped h.is (way (sym x.same ∙ h.before, ended))
            (later_there h.dropped h.is (deq_waits o e) none_later
            (all_weaker (λ q. q.last ≡ None) (λ q. Where (waits q) (EndsBy q.last p.last → ⊥))
            (λ q f. where_any (waits q) (EndsBy q.last p.last → ⊥) (λ e. never_sooner q.last p.last f ended e)) h.dropped unended))

    every_here : (number : ℕ) → every (other_is_open number) t.left ≡ every (other_is_open number) s.left
    every_here number = go (every test t.left) (every test s.left) refl refl
      where
        test : Stamped → Bool
        test = other_is_open number

        passes : Stamped → Type 0
        passes q = test q ≡ true

        go : (a b : Bool) → every test t.left ≡ a → every test s.left ≡ b → a ≡ b
        go true true e f = refl
        go false false e f = refl
        go true false e f = sym (every_all test s.left (all_here passes (idle_passes number d idle) (or_left (waits p) _ x.pushes.waits) (all_every test t.left e))) ∙ f
        go false true e f = sym e ∙ every_all test t.left (all_moved passes s.left (d ∷ p ∷ t.left) x.is (all_every test s.left f)).1.1

    stay_same : (q : Stamped) → may_stay s q ≡ may_stay t q
    stay_same q = ap (λ b. not (waits q) || b) (sym (every_here q.first))

    push_stays : may_stay s p ≡ true
    push_stays =
        or_right (not (waits p)) _
        (every_all (other_is_open p.first) s.left
        (all_weaker (OtherIsOpen t.time) (λ q. other_is_open p.first q ≡ true) (other_open_true p.first t.time x.push_began) s.left x.ongoing))

    shuts : ((w : State) → Shuts o s w → HasEffect o.op o.reply o s w) → Shuts o t z → Outcome
    shuts effect h =
        let stays = λ (q : Stamped). may_stay s q ≡ true in
        goes_before h.dropped h.is
        (effect before (record {
          dropped = h.dropped;
          is = moved h.dropped h.is;
          untold = h.untold;
          kept = (idle_stays s d idle, (push_stays, all_weaker (λ q. may_stay t q ≡ true) stays (λ q e. stay_same q ∙ e) z.left h.kept));
          late = all_weaker (λ q. may_stay t q ≡ false) (λ q. may_stay s q ≡ false) (λ q e. stay_same q ∙ e) h.dropped h.late;
          before = sym x.same ∙ h.before;
          after = h.after;
        }))

    module _ (op : Op) (reply : Option Reply) (e : o.op ≡ op) (f : o.reply ≡ reply) where
      back : (w : State) → HasEffect op reply o s w → HasEffect o.op o.reply o s w
      back w h = subst (λ op. HasEffect op o.reply o s w) (sym e) (subst (λ reply. HasEffect op reply o s w) (sym f) h)

      way_back : IsInTheWay p z.time s op reply → IsInTheWay p z.time s o.op o.reply
      way_back h = subst (λ op. IsInTheWay p z.time s op o.reply) (sym e) (subst (λ reply. IsInTheWay p z.time s op reply) (sym f) h)

    gets_refused : (refusal : Refusal) (op : Op) → o.op ≡ op → o.reply ≡ Some (Refused refusal) → GetsRefused refusal op o t z → Outcome
    gets_refused refusal (Enq body) e f (inl h) = leaves_it refusal (λ w k. back (Enq body) (Some (Refused refusal)) e f w (inl k)) h
    gets_refused refusal (Enq body) e f (inr h) = tells (λ w k. back (Enq body) (Some (Refused refusal)) e f w (inr (h.0, k))) h.1
    gets_refused refusal Shut e f (inl h) = leaves_it refusal (λ w k. back Shut (Some (Refused refusal)) e f w (inl k)) h
    gets_refused refusal Shut e f (inr h) = tells (λ w k. back Shut (Some (Refused refusal)) e f w (inr (h.0, k))) h.1
    gets_refused refusal Deq e f (inl h) = leaves_it refusal (λ w k. back Deq (Some (Refused refusal)) e f w (inl k)) h
    gets_refused refusal Deq e f (inr h) =
        drains e (λ w k. back Deq (Some (Refused refusal)) e f w (inr (h.0, k))) (λ k. way_back Deq (Some (Refused refusal)) e f (h.0, k.0, k.1)) h.1

    goes : (op : Op) (reply : Option Reply) → o.op ≡ op → o.reply ≡ reply → HasEffect op reply o t z → Outcome
    goes (Enq body) None e f h = absurd h
    goes Deq None e f h = absurd (cc (sym other ∙ ap (λ op. is_pending_pop op o.reply) e ∙ ap is_untold f))
    goes Shut None e f h = shuts (back Shut None e f) h
    goes (Enq body) (Some Done) e f h = absurd h
    goes Deq (Some Done) e f h = absurd h
    goes Shut (Some Done) e f h = shuts (back Shut (Some Done) e f) h
    goes (Enq body) (Some (Value value)) e f h = absurd h
    goes Deq (Some (Value value)) e f h = takes value e (back Deq (Some (Value value)) e f) (way_back Deq (Some (Value value)) e f) h
    goes Shut (Some (Value value)) e f h = absurd h
    goes (Enq body) (Some Empty) e f h = absurd h
    goes Deq (Some Empty) e f h = empties e (back Deq (Some Empty) e f) (way_back Deq (Some Empty) e f) h
    goes Shut (Some Empty) e f h = absurd h
    goes (Enq body) (Some (Refused refusal)) e f h = gets_refused refusal (Enq body) e f h
    goes Deq (Some (Refused refusal)) e f h = gets_refused refusal Deq e f h
    goes Shut (Some (Refused refusal)) e f h = gets_refused refusal Shut e f h

-- ---- the push that ended first

way_sooner : (p q : Stamped) (number : ℕ) (s : State) → EndsBy p.last q.last → (op : Op) (reply : Option Reply) → IsInTheWay q number s op reply → IsInTheWay p number s op reply
way_sooner p q number s e (Enq body) reply h = absurd h
way_sooner p q number s e Shut reply h = absurd h
way_sooner p q number s e Deq None h = absurd h
way_sooner p q number s e Deq (Some Done) h = absurd h
way_sooner p q number s e Deq (Some (Value v)) h = record { push = h.push; there = h.there; pushes = h.pushes; began = h.began; behind = ended_sooner h.push.first p.last q.last e h.behind }
way_sooner p q number s e Deq (Some Empty) h = (h.0, ended_sooner number p.last q.last e h.1)
way_sooner p q number s e Deq (Some (Refused refusal)) h = (h.0, h.1, some_sooner p.last q.last e h.2)

hinders_sooner : (p q : Stamped) (s : State) → EndsBy p.last q.last → Hinders q s → Hinders p s
hinders_sooner p q s e h = record { pop = h.pop; there = h.there; number = h.number; since = h.since; began = h.began; ongoing = h.ongoing; way = way_sooner p q h.number s e h.pop.op h.pop.reply h.way }

-- a pending pop goes, and takes this push
record PopGoes (n : ℕ) (p : Stamped) (s : State) : Type 0 where
  next : State
  pop : Stamped
  pops : Pops pop p s next
  ends : CanEnd n next

-- a push is in the way, and where it is left a pending pop takes it
record MustGo (n : ℕ) (p : Stamped) (s : State) : Type 0 where
  hinders : Hinders p s
  goes : IsLeftIn p s → PopGoes n p s

abbrev Comes : ℕ → Stamped → State → Type 0
Comes n p s = IsEnd s ⊎ (OtherGoes n s ⊎ MustGo n p s)

-- where one of all stands
in_three : (d p q : Stamped) (s t : State) (rest : List Stamped) → IsPermutation s.left (d ∷ p ∷ t.left) → IsPermutation s.left (q ∷ rest) → waits d ≡ false → waits q ≡ true → (p ≡ q) ⊎ IsLeftIn q t
in_three d p q s t rest is there a b = go (out_of_two (d ∷ p ∷ []) t.left q rest (IsPermutation-trans _ _ _ (IsPermutation-sym s.left (d ∷ p ∷ t.left) is) there))
  where
    at : (k : ℕ) → slice_get (d ∷ p ∷ []) k ≡ Some q → p ≡ q
    at zero e = let f = same_Some d q e in absurd (cc (sym a ∙ ap waits f ∙ b))
    at (suc zero) e = same_Some p q e
    at (suc (suc k)) e = absurd cc

    go : ((k : ℕ) × (slice_get (d ∷ p ∷ []) k ≡ Some q) × IsPermutation rest (without k (d ∷ p ∷ []) ++ t.left)) ⊎ ((ms : List Stamped) × IsPermutation t.left (q ∷ ms) × IsPermutation rest (d ∷ p ∷ ms))
        → (p ≡ q) ⊎ IsLeftIn q t
    go (inl k) = inl (at k.0 k.1)
    go (inr k) = inr (record { rest = k.0; is = k.1 })

module _ (q d p : Stamped) (s t : State) (x : Pops d p s t) (calls : AllByRecursion IsCall s.left) (wait : waits q ≡ true) (least : AreNoSooner q s.left) where
  least_moved : AreNoSooner q (d ∷ p ∷ t.left)
  least_moved = all_moved (λ r. Where (waits r) (EndsBy q.last r.last)) s.left (d ∷ p ∷ t.left) x.is least

  sooner : EndsBy q.last p.last
  sooner = where_so (EndsBy q.last p.last) (waits p) x.pushes.waits least_moved.1.0

  idle_one : IsIdle d
  idle_one = idle d p s t x calls

  -- the two pending pops exchange what they take
  exchanged : (n : ℕ) → IsLeftIn q t → PopGoes n q t → PopGoes (suc n) q s
  exchanged n there k =
      let e = k.pop in
      let y = k.pops in
      let z = k.next in
      let w : State = record { left = e ∷ p ∷ z.left; shut = z.shut; time = z.time } in
      let others = all_moved IsCall t.left (e ∷ q ∷ z.left) y.is (calls_there d p s t x calls) in
      let one : IsIdle e = is_idle e others.0 y.op y.reply in
      let open_there = all_moved (OtherIsOpen z.time) t.left (e ∷ q ∷ z.left) y.is y.ongoing in
      let first_there = all_moved (PushIsOpen p.first) t.left (e ∷ q ∷ z.left) y.is x.first in
      record {
        next = w;
        pop = d;
        pops = record {
          op = x.op;
          reply = x.reply;
          value = y.value;
          pushes = y.pushes;
          is = IsPermutation-trans _ _ _ x.is
              (IsPermutation-cons d _ _
              (IsPermutation-trans _ _ _ (IsPermutation-cons p _ _ y.is) (IsPermutation-trans _ _ _ (IsPermutation-middle (p ∷ e ∷ []) q z.left) (IsPermutation-cons q _ _ (IsPermutation-middle (p ∷ []) e z.left)))));
          since = le_trans s.time t.time z.time x.since y.since;
          pop_began = le_trans d.first t.time z.time x.pop_began y.since;
          push_began = y.push_began;
          ongoing = ongoing_here d p s t x calls z.time y.ongoing;
          first = (idle_push q.first e one, (where_any (waits p) (IsOpenAt q.first p) (open_by q.first q.last p.last sooner others.1.0.spans), y.first));
          same = y.same ∙ x.same;
        };
        ends = inr (
          z,
          pops_step e p w z
              (record {
                op = y.op;
                reply = y.reply;
                value = x.value;
                pushes = x.pushes;
                is = IsPermutation-refl (e ∷ p ∷ z.left);
                since = omega arith;
                pop_began = y.pop_began;
                push_began = le_trans p.first t.time z.time x.push_began y.since;
                ongoing = (idle_other z.time e one, (no_other (IsOpenAt z.time) p x.pushes.waits, open_there.1.1));
                first = first_there.1.1;
                same = refl;
              }),
          k.ends,
        );
      }

  itself : (n : ℕ) → CanEnd n t → p ≡ q → PopGoes n q s
  itself n c e = record { next = t; pop = d; pops = subst (λ p. Pops d p s t) e x; ends = c }

  comes : (n : ℕ) → CanEnd (suc n) t → Comes n q t → Comes (suc n) q s
  comes n c (inl e) = inl (end_before d p s t x calls e)
  comes n c (inr (inl g)) = go (goes d p s t x calls g.next h.operation h.since h.began h.ongoing n g.ends g.step.other h.operation.op h.operation.reply refl refl h.effect)
    where
      h : Step t g.next
      h = g.step.step

      hit : AreLater p t.left → IsLeftIn q s → (p ≡ q) ⊎ IsLeftIn q t → PopGoes (suc n) q s
      hit later there (inl e) = itself (suc n) c e
      hit later there (inr k) =
          let f = all_moved (λ r. Where (waits r) (EndsBy r.last p.last → ⊥)) t.left (q ∷ k.rest) k.is later in
          absurd (where_so (EndsBy q.last p.last → ⊥) (waits q) wait f.0 sooner)

      go : OtherGoes (suc n) s ⊎ (Hinders p s × AreLater p t.left) → Comes (suc n) q s
      go (inl k) = inr (inl k)
      go (inr k) =
          inr (inr (record {
            hinders = hinders_sooner q p s sooner k.0;
            goes = λ there. hit k.1 there (in_three d p q s t there.rest x.is there.is (idle_waits d idle_one) wait);
          }))
  comes n c (inr (inr g)) =
      inr (inr (record {
        hinders = hinders_here d p s t x calls q g.hinders;
        goes = λ there. go (in_three d p q s t there.rest x.is there.is (idle_waits d idle_one) wait);
      }))
    where
      go : (p ≡ q) ⊎ IsLeftIn q t → PopGoes (suc n) q s
      go (inl e) = itself (suc n) c e
      go (inr k) = exchanged n k (g.goes k)

-- ---- all steps

lazily : (n : ℕ) (q : Stamped) (s : State) → AllByRecursion IsCall s.left → waits q ≡ true → AreNoSooner q s.left → CanEnd (suc n) s → Comes n q s
lazily n q s calls wait least (inl e) = inl e
lazily zero q s calls wait least (inr h) = go (is_pending_pop h.1.operation.op h.1.operation.reply) refl
  where
    go : (b : Bool) → is_pending_pop h.1.operation.op h.1.operation.reply ≡ b → Comes zero q s
    go false e = inr (inl (record { next = h.0; step = record { step = h.1; other = e }; ends = h.2 }))
    go true e =
        let x = popped_of s h.0 h.1 h.1.operation.op h.1.operation.reply refl refl h.1.effect e in
        inl (end_before h.1.operation x.push s h.0 x.pops calls h.2)
lazily (suc n) q s calls wait least (inr h) = go (λ t c l e. lazily n q t c wait l e) (is_pending_pop h.1.operation.op h.1.operation.reply) refl
  where
    go : ((t : State) → AllByRecursion IsCall t.left → AreNoSooner q t.left → CanEnd (suc n) t → Comes n q t) → (b : Bool) → is_pending_pop h.1.operation.op h.1.operation.reply ≡ b → Comes (suc n) q s
    go more false e = inr (inl (record { next = h.0; step = record { step = h.1; other = e }; ends = h.2 }))
    go more true e =
        let x = popped_of s h.0 h.1 h.1.operation.op h.1.operation.reply refl refl h.1.effect e in
        let d = h.1.operation in
        comes q d x.push s h.0 x.pops calls wait least n h.2
        (more h.0 (calls_there d x.push s h.0 x.pops calls) (least_moved q d x.push s h.0 x.pops calls wait least).1.1 h.2)

-- a pending pop waits until it is needed
pub waits_until_needed : (n : ℕ) (p : Stamped) (s : State) → IsFirstToEnd p s → CanEnd (suc n) s → EndsLazily p n s
waits_until_needed n p s f h = go (lazily n p s f.calls f.waits f.least h)
  where
    go : Comes n p s → EndsLazily p n s
    go (inl e) = inl e
    go (inr (inl g)) = inr (g.next, inl g.step, g.ends)
    go (inr (inr g)) = let k = g.goes f.there in inr (k.next, inr (record { pop = k.pop; pops = k.pops; hinders = g.hinders }), k.ends)
