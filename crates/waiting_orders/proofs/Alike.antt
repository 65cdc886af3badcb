-- Of alike pushes, and of alike pops, the one that ends first: what can be placed to the end behind the other one can be behind it.
use Rattle.std.proofs.Common.{ℕ, zero, suc, not, inl, inr, [], ◌++◌, refl, ap}
use Rattle.std.proofs.lemmas.List.Sorted.{IsPermutation-refl, IsPermutation-sym}
use Rattle.history.specs.declared.operations.Taken.{Taken}
use Rattle.waiting_orders.specs.Waiting.{State, Step, IsEnd, CanEnd, IsOpenAt, IsUntold, OtherIsUntold, waits}
use Rattle.waiting_orders.specs.Alike.{HasSoonerPush, HasSoonerPop, GoesAlone}
use Rattle.waiting_orders.proofs.Futures.{all_moved}
use Rattle.waiting_orders.proofs.Lists.{all_joined, where_not}
use Rattle.waiting_orders.proofs.Limits.{all_first, all_second}
use Rattle.waiting_orders.proofs.Quiet.{all_where, not_waits, more_steps}
use Rattle.waiting_orders.proofs.Trades.{Trade, push_for, pop_for, both_gone, away, back, IsAhead, ends_over, ahead_told}
use Rattle.waiting_orders.proofs.Traded.{Traded, Answers}
use Rattle.waiting_orders.proofs.Answering.{answers}

-- ---- all steps

answered : (v : Taken) (number : ℕ) (k : Trade) (s t z : State) → Traded v number k s t → Step s z → Answers v number k z t
answered v number k s t z r h =
    answers v number k s t z r h.operation (record { since = h.since; began = h.began; ongoing = h.ongoing }) h.operation.op h.operation.reply refl refl h.effect

ends_so : (v : Taken) (number : ℕ) (k : Trade) (s t : State) → Traded v number k s t → IsEnd s → IsEnd t
ends_so v number k s t r h =
    let parts = all_moved OtherIsUntold s.left (away k ++ r.both) r.here h in
    all_moved OtherIsUntold ((back k ++ r.extra) ++ r.both) t.left (IsPermutation-sym _ _ r.there)
    (all_joined OtherIsUntold (back k ++ r.extra) r.both
    (all_joined OtherIsUntold (back k) r.extra (ends_over v r.both s.time k r.fair (all_first OtherIsUntold (away k) r.both parts))
    (all_where IsUntold (λ x. not (waits x)) r.extra (not_waits r.extra r.pushes)))
    (all_second OtherIsUntold (away k) r.both parts))

trade_futures : (n : ℕ) (v : Taken) (number : ℕ) (k : Trade) (s t : State) → Traded v number k s t → CanEnd n s → CanEnd n t
trade_futures zero v number k s t r h = ends_so v number k s t r h
trade_futures (suc n) v number k s t r (inl h) = inl (ends_so v number k s t r h)
trade_futures (suc n) v number k s t r (inr h) = go (λ c z w x y. trade_futures n v number c z w x y) (answered v number k s t h.0 r h.1)
  where
    go : ((c : Trade) (z w : State) → Traded v number c z w → CanEnd n z → CanEnd n w) → Answers v number k h.0 t → CanEnd (suc n) t
    go more (inl x) = more_steps n t (more x.trade h.0 t x.traded h.2)
    go more (inr x) = inr (x.next, x.step, more x.trade h.0 x.next x.traded h.2)

no_end_yet : (v : Taken) (number : ℕ) (k : Trade) (s t : State) → IsAhead k → Traded v number k s t → IsEnd s → ⊥
no_end_yet v number k s t i r h = ahead_told v r.both s.time k i r.fair (all_first OtherIsUntold (away k) r.both (all_moved OtherIsUntold s.left (away k ++ r.both) r.here h))

-- where the other state is a step ahead, it can be placed to the end in a step less
ahead_futures : (n : ℕ) (v : Taken) (number : ℕ) (k : Trade) (s t : State) → IsAhead k → Traded v number k s t → CanEnd (suc n) s → CanEnd n t
ahead_futures n v number k s t i r (inl h) = absurd (no_end_yet v number k s t i r h)
ahead_futures zero v number k s t i r (inr h) = go (answered v number k s t h.0 r h.1)
  where
    go : Answers v number k h.0 t → CanEnd 0 t
    go (inl x) = trade_futures 0 v number x.trade h.0 t x.traded h.2
    go (inr x) = absurd (no_end_yet v number x.trade h.0 x.next (x.keeps i) x.traded h.2)
ahead_futures (suc n) v number k s t i r (inr h) = go (λ c z w i x y. ahead_futures n v number c z w i x y) (answered v number k s t h.0 r h.1)
  where
    go : ((c : Trade) (z w : State) → IsAhead c → Traded v number c z w → CanEnd (suc n) z → CanEnd n w) → Answers v number k h.0 t → CanEnd (suc n) t
    go more (inl x) = trade_futures (suc n) v number x.trade h.0 t x.traded h.2
    go more (inr x) = inr (x.next, x.step, more x.trade h.0 x.next (x.keeps i) x.traded h.2)

-- ---- the three laws

pub alike_pushes : (n number : ℕ) (s t : State) → HasSoonerPush number s t → CanEnd n s → CanEnd n t
alike_pushes n number s t h =
    trade_futures n h.value number (push_for h.sooner h.later) s t
    (record {
      both = h.rest;
      extra = [];
      here = h.here;
      there = h.there;
      pushes = tt;
      untold = tt;
      unended = tt;
      calls = h.calls;
      others = (where_not (not (waits h.later)) (IsOpenAt number h.later) (ap not h.later_pushes.waits), h.ongoing);
      calm = h.calm;
      fair = record {
        p_pushes = h.sooner_pushes;
        q_pushes = h.later_pushes;
        ends = h.ends;
        p_call = h.sooner_call;
        first = h.first;
        q_open = h.later_open;
        p_open = h.sooner_open;
        began = h.began;
      };
      shut = h.same;
      time = h.time;
    })

pub alike_pops : (n number : ℕ) (s t : State) → HasSoonerPop number s t → CanEnd n s → CanEnd n t
alike_pops n number s t h =
    trade_futures n h.value number (pop_for h.sooner h.later) s t
    (record {
      both = h.rest;
      extra = [];
      here = h.here;
      there = h.there;
      pushes = tt;
      untold = tt;
      unended = tt;
      calls = h.calls;
      others = h.ongoing;
      calm = h.calm;
      fair = record { got = h.sooner_got; may_get = h.later_may_get; ends = h.ends; began = h.began };
      shut = h.same;
      time = h.time;
    })

pub goes_alone : (n number : ℕ) (s t : State) → GoesAlone number s t → CanEnd (suc n) s → CanEnd n t
goes_alone n number s t h =
    ahead_futures n h.value number (both_gone h.pop h.push) s t tt
    (record {
      both = t.left;
      extra = [];
      here = h.is;
      there = IsPermutation-refl _;
      pushes = tt;
      untold = tt;
      unended = tt;
      calls = h.calls;
      others = h.ongoing;
      calm = h.calm;
      fair = record { got = h.got; pushes = h.pushes; pops_end = h.pops_end; pushes_end = h.pushes_end; call = h.call; push_open = h.push_open };
      shut = h.same;
      time = h.time;
    })
