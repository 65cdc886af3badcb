-- Two states that have the same left but for what is traded, and what becomes of that when it is taken.
use Rattle.std.proofs.Common.{◌≡◌, ℕ, zero, suc, max, ◌≤◌, true, false, not, ◌⊎◌, inl, inr, List, [], ◌∷◌, ◌++◌, None, Some, slice_get, refl, sym, ap, ◌∙◌, subst, arith}
use Rattle.std.specs.List.{AllByRecursion}
use Rattle.std.specs.List.Sorted.{IsPermutation}
use Rattle.std.proofs.lemmas.List.Sorted.{IsPermutation-refl, IsPermutation-sym, IsPermutation-trans, IsPermutation-cons, IsPermutation-middle, IsPermutation-append_right}
use Rattle.std.proofs.lemmas.Option.{same_Some}
use Rattle.history.specs.declared.operations.Op.{Op}
use Rattle.history.specs.declared.operations.Op.TheVariants.{Enq, Deq, Shut}
use Rattle.history.specs.declared.operations.Taken.{Taken}
use Rattle.history.specs.declared.operations.Reply.TheVariants.{Value}
use Rattle.history.specs.declared.operations.Stamped.{Stamped}
use Rattle.waiting_orders.specs.Waiting.{IsCall, State, Step, HasEffect, Takes, Pushes, Where, IsOpenAt, OtherIsOpen, PushIsOpen, IsUntold, waits, every, other_is_open, may_stay}
use Rattle.waiting_orders.specs.Alike.{EndsBy, Got, MayGet, IsCalm}
use Rattle.waiting_orders.specs.Lines.{without}
use Rattle.waiting_orders.proofs.Futures.{all_moved, every_all}
use Rattle.waiting_orders.proofs.Lists.{or_left, or_right, all_joined, all_weaker, where_not, other_open_true}
use Rattle.waiting_orders.proofs.Limits.{all_first, all_second}
use Rattle.waiting_orders.proofs.Stepping.{max_least, untold_unended}
use Rattle.waiting_orders.proofs.Quiet.{le_max_left, le_max_right, le_trans, out_of_two, all_where, all_any, open_any, not_waits}
use Rattle.waiting_orders.proofs.Trades.{ends_never, not_push, Sub, sub_moved, sub_under, sub_calm, where_later, where_earlier, Trade, even, push_for, pop_for, both_gone, pop_lost, away, back, IsAhead, Fair, fewer, others_over}

-- ---- the two states

-- Two states have the same left, but for what is traded, and pushes that the other one has more and that never ended; it is at no
-- later number than a given one, or than that of the one.
pub record Traded (v : Taken) (number : ℕ) (k : Trade) (s t : State) : Type 0 where
  pub both : List Stamped
  pub extra : List Stamped
  pub here : IsPermutation s.left (away k ++ both)
  pub there : IsPermutation t.left ((back k ++ extra) ++ both)
  pub pushes : AllByRecursion (λ o. waits o ≡ true) extra
  pub untold : AllByRecursion IsUntold extra
  pub unended : AllByRecursion (λ o. o.last ≡ None) extra
  pub calls : AllByRecursion IsCall (back k ++ both)
  pub others : AllByRecursion (OtherIsOpen number) (back k ++ both)
  pub calm : IsCalm number (back k ++ both)
  pub fair : Fair v k both s.time
  pub shut : t.shut ≡ s.shut
  pub time : t.time ≤ max s.time number

-- what the other state does when the one takes a step: nothing, or a step as well
pub record Stays (v : Taken) (number : ℕ) (z t : State) : Type 0 where
  pub trade : Trade
  pub traded : Traded v number trade z t

pub record Onward (v : Taken) (number : ℕ) (k : Trade) (z t : State) : Type 0 where
  pub next : State
  pub step : Step t next
  pub trade : Trade
  pub traded : Traded v number trade z next
  pub keeps : IsAhead k → IsAhead trade

abbrev pub Answers : Taken → ℕ → Trade → (z t : State) → Type 0
Answers v number k z t = Stays v number z t ⊎ Onward v number k z t

-- an operation goes in a step
pub record Goes (a : Stamped) (s z : State) : Type 0 where
  pub since : s.time ≤ z.time
  pub began : a.first ≤ z.time
  pub ongoing : AllByRecursion (OtherIsOpen z.time) s.left

module _ (v : Taken) (number : ℕ) (k : Trade) (s t z : State) (r : Traded v number k s t) (a : Stamped) (g : Goes a s z) where
  abbrev pub late : ℕ
  late = max z.time number

  since_late : t.time ≤ late
  since_late = le_trans t.time (max s.time number) late r.time (max_least s.time number late (le_trans s.time z.time late g.since (le_max_left z.time number)) (le_max_right z.time number))

  pub by_late : (n : ℕ) → n ≤ z.time → n ≤ late
  by_late n h = le_trans n z.time late h (le_max_left z.time number)

  pub from_away : (P : Stamped → Type 0) → (AllByRecursion P (away k) → AllByRecursion P (back k)) → (xs : List Stamped) → AllByRecursion P (away k ++ xs) → AllByRecursion P (back k ++ xs)
  from_away P over xs h = all_joined P (back k) xs (over (all_first P (away k) xs h)) (all_second P (away k) xs h)

  pub with_extra : (P : Stamped → Type 0) (xs : List Stamped) → AllByRecursion P (back k ++ xs) → AllByRecursion P r.extra → AllByRecursion P ((back k ++ r.extra) ++ xs)
  with_extra P xs h e = all_joined P (back k ++ r.extra) xs (all_joined P (back k) r.extra (all_first P (back k) xs h) e) (all_second P (back k) xs h)

  pub to_there : (P : Stamped → Type 0) → AllByRecursion P (back k ++ r.both) → AllByRecursion P r.extra → AllByRecursion P t.left
  to_there P h e = all_moved P ((back k ++ r.extra) ++ r.both) t.left (IsPermutation-sym _ _ r.there) (with_extra P r.both h e)

  pub from_here : (P : Stamped → Type 0) → (AllByRecursion P (away k) → AllByRecursion P (back k)) → AllByRecursion P s.left → AllByRecursion P (back k ++ r.both)
  from_here P over h = from_away P over r.both (all_moved P s.left (away k ++ r.both) r.here h)

  pub extra_others : (P : Stamped → Type 0) → AllByRecursion (λ x. Where (not (waits x)) (P x)) r.extra
  extra_others P = all_where P (λ x. not (waits x)) r.extra (not_waits r.extra r.pushes)

  pub extra_open : (n : ℕ) → AllByRecursion (PushIsOpen n) r.extra
  extra_open n = all_any (IsOpenAt n) waits r.extra (open_any n r.extra r.unended)

  ongoing_here : AllByRecursion (OtherIsOpen late) t.left
  ongoing_here =
      to_there (OtherIsOpen late)
      (where_later z.time number (λ x. not (waits x)) (back k ++ r.both) (from_here (OtherIsOpen z.time) (others_over v r.both s.time k r.fair z.time) g.ongoing) r.others)
      (extra_others (IsOpenAt late))

  abbrev pub with_left : List Stamped → State
  with_left ws = record { left = ws; shut = t.shut; time = late }

  pub step_to : (w : State) → w.time ≡ late → (o : Stamped) → o.first ≤ late → HasEffect o.op o.reply o t w → Step t w
  step_to w e o began h = record {
    operation = o;
    since = subst (λ n. t.time ≤ n) (sym e) since_late;
    began = subst (λ n. o.first ≤ n) (sym e) began;
    ongoing = subst (λ n. AllByRecursion (OtherIsOpen n) t.left) (sym e) ongoing_here;
    effect = h;
  }

  -- less is left in both
  pub traded_so : (ws : List Stamped) → Sub r.both ws → IsPermutation z.left (away k ++ ws) → z.shut ≡ s.shut → Traded v number k z (with_left ((back k ++ r.extra) ++ ws))
  traded_so ws f here same = record {
    both = ws;
    extra = r.extra;
    here = here;
    there = IsPermutation-refl _;
    pushes = r.pushes;
    untold = r.untold;
    unended = r.unended;
    calls = sub_under (back k) r.both ws f IsCall r.calls;
    others = sub_under (back k) r.both ws f (OtherIsOpen number) r.others;
    calm = sub_calm number (back k ++ r.both) (back k ++ ws) (sub_under (back k) r.both ws f) r.calm;
    fair = fewer v k r.both ws s.time z.time f g.since r.fair;
    shut = r.shut ∙ sym same;
    time = omega arith;
  }

  -- nothing is traded any more
  even_so : (ws : List Stamped) (w : State) → Sub (back k ++ r.both) ws → IsPermutation z.left ws → IsPermutation w.left (r.extra ++ ws) → w.shut ≡ z.shut → w.time ≤ late → Traded v number even z w
  even_so ws w f here there shut time = record {
    both = ws;
    extra = r.extra;
    here = here;
    there = there;
    pushes = r.pushes;
    untold = r.untold;
    unended = r.unended;
    calls = f IsCall r.calls;
    others = f (OtherIsOpen number) r.others;
    calm = sub_calm number (back k ++ r.both) ws f r.calm;
    fair = tt;
    shut = shut;
    time = time;
  }

  -- the operation is one of what both have left, or of what is traded
  abbrev pub Parts : List Stamped → Type 0
  Parts rest = ((j : ℕ) × (slice_get (away k) j ≡ Some a) × IsPermutation rest (without j (away k) ++ r.both)) ⊎ ((ms : List Stamped) × IsPermutation r.both (a ∷ ms) × IsPermutation rest (away k ++ ms))

  pub parts : (rest : List Stamped) → IsPermutation s.left (a ∷ rest) → Parts rest
  parts rest is = out_of_two (away k) r.both a rest (IsPermutation-trans _ _ _ (IsPermutation-sym _ _ r.here) is)

  pub sub_out : (ms : List Stamped) → IsPermutation r.both (a ∷ ms) → Sub r.both ms
  sub_out ms is = sub_moved r.both (a ∷ []) ms is

  pub there_out : (ms : List Stamped) → IsPermutation r.both (a ∷ ms) → IsPermutation t.left (a ∷ ((back k ++ r.extra) ++ ms))
  there_out ms is = IsPermutation-trans _ _ _ r.there (IsPermutation-trans _ _ _ (IsPermutation-append_right (back k ++ r.extra) r.both (a ∷ ms) is) (IsPermutation-middle (back k ++ r.extra) a ms))

-- ---- a take of what is traded

-- a pop that may get a value takes it
may_take : (v : Taken) (b : Stamped) (t w : State) → MayGet v b → Takes v b t w → HasEffect b.op b.reply b t w
may_take v b t w m h = subst (λ op. HasEffect op b.reply b t w) (sym m.op) (go m.reply)
  where
    go : (b.reply ≡ Some (Value v)) ⊎ (b.reply ≡ None) → HasEffect Deq b.reply b t w
    go (inl e) = subst (λ reply. HasEffect Deq reply b t w) (sym e) h
    go (inr e) = subst (λ reply. HasEffect Deq reply b t w) (sym e) (v, h)

same_body : (a b : ℕ) → Enq a ≡ Enq b → a ≡ b
same_body a b e = ap body_of e
  where
    body_of : Op → ℕ
    body_of (Enq body) = body
    body_of Deq = a
    body_of Shut = a

abbrev taken_of : (from body : ℕ) → Taken
taken_of from body = record { from = from; body = body }

same_taken : (v w : Taken) → v.from ≡ w.from → v.body ≡ w.body → v ≡ w
same_taken v w e f = ap (λ n. taken_of n v.body) e ∙ ap (taken_of w.from) f

same_value : (p : Stamped) (v w : Taken) → Pushes v p → Pushes w p → v ≡ w
same_value p v w h k = same_taken v w (sym h.actor ∙ k.actor) (same_body v.body w.body (sym h.op ∙ k.op))

pushes_wrong : (o p : Stamped) (v w : Taken) → Got v o → Pushes w p → o ≡ p → ⊥
pushes_wrong o p v w got pushes e =
    let off : waits p ≡ false = subst (λ x. waits x ≡ false) e (not_push o got.op) in
    absurd (cc (sym off ∙ pushes.waits))

-- the pop that is traded takes a value
pub own_taken : (v : Taken) (number : ℕ) (k : Trade) (s t z : State) (r : Traded v number k s t) (a : Stamped) (g : Goes a s z) (value : Taken) → value ≡ v → waits a ≡ false → (h : Takes value a s z)
    → (j : ℕ) → slice_get (away k) j ≡ Some a → IsPermutation (h.push ∷ z.left) (without j (away k) ++ r.both) → Answers v number k z t
own_taken v number even s t z r a g value same off h j e is = absurd cc
own_taken v number (push_for p q) s t z r a g value same off h zero e is =
    let on : waits a ≡ true = subst (λ x. waits x ≡ true) (same_Some p a e) r.fair.p_pushes.waits in
    absurd (cc (sym off ∙ on))
own_taken v number (push_for p q) s t z r a g value same off h (suc j) e is = absurd cc
own_taken v number (pop_for o b) s t z r a g value same off h zero e is =
    let k : Trade = pop_for o b in
    let w : State = with_left v number k s t z r a g (r.extra ++ z.left) in
    inr (record {
      next = w;
      step = step_to v number k s t z r a g w refl b (by_late v number k s t z r a g b.first (le_trans b.first s.time z.time r.fair.began g.since))
          (may_take v b t w r.fair.may_get
          (record {
            push = h.push;
            is = IsPermutation-trans _ _ _ r.there
                (IsPermutation-cons b (r.extra ++ r.both) (h.push ∷ (r.extra ++ z.left))
                (IsPermutation-trans _ _ _ (IsPermutation-append_right r.extra r.both (h.push ∷ z.left) (IsPermutation-sym _ _ is)) (IsPermutation-middle r.extra h.push z.left)));
            pushes = subst (λ x. Pushes x h.push) same h.pushes;
            began = by_late v number k s t z r a g h.push.first h.began;
            first = all_joined (PushIsOpen h.push.first) r.extra z.left (extra_open v number k s t z r a g h.push.first) h.first;
            same = refl;
          }));
      trade = even;
      traded = even_so v number k s t z r a g z.left w (sub_moved (b ∷ r.both) (b ∷ h.push ∷ []) z.left (IsPermutation-cons b r.both (h.push ∷ z.left) (IsPermutation-sym _ _ is)))
          (IsPermutation-refl _) (IsPermutation-refl _) (r.shut ∙ sym h.same) (omega arith);
      keeps = λ i. absurd i;
    })
own_taken v number (pop_for o b) s t z r a g value same off h (suc j) e is = absurd cc
own_taken v number (both_gone o p) s t z r a g value same off h zero e is = go (out_of_two (p ∷ []) r.both h.push z.left (IsPermutation-sym _ _ is))
  where
    gone : (i : ℕ) → slice_get (p ∷ []) i ≡ Some h.push → IsPermutation z.left (without i (p ∷ []) ++ r.both) → Answers v number (both_gone o p) z t
    gone zero e here =
        inl (record {
          trade = even;
          traded = even_so v number (both_gone o p) s t z r a g r.both t (λ P x. x) here r.there (r.shut ∙ sym h.same) (since_late v number (both_gone o p) s t z r a g);
        })
    gone (suc i) e here = absurd cc

    other : (ws : List Stamped) → IsPermutation r.both (h.push ∷ ws) → IsPermutation z.left (p ∷ ws) → Answers v number (both_gone o p) z t
    other ws is here =
        let pushes : Pushes v h.push = subst (λ x. Pushes x h.push) same h.pushes in
        let ongoing = all_second (OtherIsOpen z.time) (a ∷ h.push ∷ []) z.left (all_moved (OtherIsOpen z.time) s.left (a ∷ h.push ∷ z.left) h.is g.ongoing) in
        inl (record {
          trade = push_for p h.push;
          traded = record {
            both = ws;
            extra = r.extra;
            here = here;
            there = IsPermutation-trans _ _ _ r.there (IsPermutation-trans _ _ _ (IsPermutation-append_right r.extra r.both (h.push ∷ ws) is) (IsPermutation-middle r.extra h.push ws));
            pushes = r.pushes;
            untold = r.untold;
            unended = r.unended;
            calls = all_moved IsCall r.both (h.push ∷ ws) is r.calls;
            others = all_moved (OtherIsOpen number) r.both (h.push ∷ ws) is r.others;
            calm = sub_calm number r.both (h.push ∷ ws) (λ P x. all_moved P r.both (h.push ∷ ws) is x) r.calm;
            fair = record {
              p_pushes = r.fair.pushes;
              q_pushes = pushes;
              ends = (all_moved (λ x. Pushes v x → EndsBy p.last x.last) r.both (h.push ∷ ws) is r.fair.pushes_end).0 pushes;
              p_call = r.fair.call;
              first = (all_moved (PushIsOpen h.push.first) z.left (p ∷ ws) here h.first).1;
              q_open = (all_moved (OtherIsOpen h.push.first) z.left (p ∷ ws) here (where_earlier h.push.first z.time (λ x. not (waits x)) h.began z.left ongoing)).1;
              p_open = (all_moved (OtherIsOpen p.first) r.both (h.push ∷ ws) is r.fair.push_open.1).1;
              began = h.began;
            };
            shut = r.shut ∙ sym h.same;
            time = since_late v number (both_gone o p) s t z r a g;
          };
        })

    go : ((i : ℕ) × (slice_get (p ∷ []) i ≡ Some h.push) × IsPermutation z.left (without i (p ∷ []) ++ r.both)) ⊎ ((ws : List Stamped) × IsPermutation r.both (h.push ∷ ws) × IsPermutation z.left ((p ∷ []) ++ ws))
        → Answers v number (both_gone o p) z t
    go (inl i) = gone i.0 i.1 i.2
    go (inr ws) = other ws.0 ws.1 ws.2
own_taken v number (both_gone o p) s t z r a g value same off h (suc zero) e is =
    let on : waits a ≡ true = subst (λ x. waits x ≡ true) (same_Some p a e) r.fair.pushes.waits in
    absurd (cc (sym off ∙ on))
own_taken v number (both_gone o p) s t z r a g value same off h (suc (suc j)) e is = absurd cc
own_taken v number (pop_lost o) s t z r a g value same off h zero e is =
    let none : waits h.push ≡ false = (all_moved (λ x. waits x ≡ false) r.both (h.push ∷ z.left) (IsPermutation-sym _ _ is) r.fair.none).0 in
    absurd (cc (sym none ∙ h.pushes.waits))
own_taken v number (pop_lost o) s t z r a g value same off h (suc j) e is = absurd cc

-- a pop that both have left takes the push that is traded
pub push_taken : (v : Taken) (number : ℕ) (k : Trade) (s t z : State) (r : Traded v number k s t) (a : Stamped) (g : Goes a s z) (value : Taken) (h : Takes value a s z) → MayGet value a
    → ((w : State) → Takes value a t w → HasEffect a.op a.reply a t w) → (ms : List Stamped) → IsPermutation r.both (a ∷ ms)
    → (j : ℕ) → slice_get (away k) j ≡ Some h.push → IsPermutation z.left (without j (away k) ++ ms) → Answers v number k z t
push_taken v number even s t z r a g value h m effect ms out j e here = absurd cc
push_taken v number (push_for p q) s t z r a g value h m effect ms out zero e here =
    let k : Trade = push_for p q in
    let f = r.fair in
    let same : p ≡ h.push = same_Some p h.push e in
    let w : State = with_left v number k s t z r a g (r.extra ++ ms) in
    inr (record {
      next = w;
      step = step_to v number k s t z r a g w refl a (by_late v number k s t z r a g a.first g.began)
          (effect w
          (record {
            push = q;
            is = there_out v number k s t z r a g ms out;
            pushes = record {
              actor = f.q_pushes.actor ∙ sym f.p_pushes.actor ∙ ap (λ (x : Stamped). x.actor) same ∙ h.pushes.actor;
              op = f.q_pushes.op ∙ sym f.p_pushes.op ∙ ap (λ (x : Stamped). x.op) same ∙ h.pushes.op;
              waits = f.q_pushes.waits;
            };
            began = by_late v number k s t z r a g q.first (le_trans q.first s.time z.time f.began g.since);
            first = all_joined (PushIsOpen q.first) r.extra ms (extra_open v number k s t z r a g q.first) (sub_out v number k s t z r a g ms out (PushIsOpen q.first) f.first);
            same = refl;
          }));
      trade = even;
      traded = even_so v number k s t z r a g ms w (sub_moved (q ∷ r.both) (q ∷ a ∷ []) ms (IsPermutation-cons q r.both (a ∷ ms) out)) here (IsPermutation-refl _) (r.shut ∙ sym h.same) (omega arith);
      keeps = λ i. absurd i;
    })
push_taken v number (push_for p q) s t z r a g value h m effect ms out (suc j) e here = absurd cc
push_taken v number (pop_for o b) s t z r a g value h m effect ms out zero e here = absurd (pushes_wrong o h.push v value r.fair.got h.pushes (same_Some o h.push e))
push_taken v number (pop_for o b) s t z r a g value h m effect ms out (suc j) e here = absurd cc
push_taken v number (both_gone o p) s t z r a g value h m effect ms out zero e here = absurd (pushes_wrong o h.push v value r.fair.got h.pushes (same_Some o h.push e))
push_taken v number (both_gone o p) s t z r a g value h m effect ms out (suc zero) e here =
    let same : value ≡ v = same_value h.push value v h.pushes (subst (Pushes v) (same_Some p h.push e) r.fair.pushes) in
    inl (record {
      trade = pop_for o a;
      traded = record {
        both = ms;
        extra = r.extra;
        here = here;
        there = there_out v number (both_gone o p) s t z r a g ms out;
        pushes = r.pushes;
        untold = r.untold;
        unended = r.unended;
        calls = all_moved IsCall r.both (a ∷ ms) out r.calls;
        others = all_moved (OtherIsOpen number) r.both (a ∷ ms) out r.others;
        calm = sub_calm number r.both (a ∷ ms) (λ P x. all_moved P r.both (a ∷ ms) out x) r.calm;
        fair = record {
          got = r.fair.got;
          may_get = subst (λ x. MayGet x a) same m;
          ends = ends (subst (λ x. MayGet x a) same m).reply;
          began = g.began;
        };
        shut = r.shut ∙ sym h.same;
        time = since_late v number (both_gone o p) s t z r a g;
      };
    })
  where
    ends : (a.reply ≡ Some (Value v)) ⊎ (a.reply ≡ None) → EndsBy o.last a.last
    ends (inl e) = (all_moved (λ x. x.reply ≡ Some (Value v) → EndsBy o.last x.last) r.both (a ∷ ms) out r.fair.pops_end).0 e
    ends (inr e) = ends_never o.last a.last (untold_unended (a ∷ []) ((all_moved IsCall r.both (a ∷ ms) out r.calls).0, tt) (e, tt)).0
push_taken v number (both_gone o p) s t z r a g value h m effect ms out (suc (suc j)) e here = absurd cc
push_taken v number (pop_lost o) s t z r a g value h m effect ms out zero e here = absurd (pushes_wrong o h.push v value r.fair.got h.pushes (same_Some o h.push e))
push_taken v number (pop_lost o) s t z r a g value h m effect ms out (suc j) e here = absurd cc

-- ---- what stays behind a shut

-- what all others began before may stay
pub may_open : (s : State) (p : Stamped) → AllByRecursion (OtherIsOpen p.first) s.left → may_stay s p ≡ true
may_open s p h =
    or_right (not (waits p)) (every (other_is_open p.first) s.left)
    (every_all (other_is_open p.first) s.left (all_weaker (OtherIsOpen p.first) (λ x. other_is_open p.first x ≡ true) (λ x. other_open_true p.first p.first (omega arith) x) s.left h))

pub other_stays : (s : State) (o : Stamped) → waits o ≡ false → may_stay s o ≡ true
other_stays s o e = or_left (not (waits o)) (every (other_is_open o.first) s.left) (ap not e)

pub stays_away : (v : Taken) (number : ℕ) (k : Trade) (s t : State) → Traded v number k s t → AllByRecursion (λ p. may_stay s p ≡ true) (away k)
stays_away v number even s t r = tt
stays_away v number (push_for p q) s t r =
    (may_open s p (all_moved (OtherIsOpen p.first) (p ∷ r.both) s.left (IsPermutation-sym _ _ r.here) (where_not (not (waits p)) (IsOpenAt p.first p) (ap not r.fair.p_pushes.waits), r.fair.p_open)), tt)
stays_away v number (pop_for o b) s t r = (other_stays s o (not_push o r.fair.got.op), tt)
stays_away v number (both_gone o p) s t r = (
  other_stays s o (not_push o r.fair.got.op),
  (
    may_open s p
        (all_moved (OtherIsOpen p.first) (o ∷ p ∷ r.both) s.left (IsPermutation-sym _ _ r.here) (r.fair.push_open.0, (where_not (not (waits p)) (IsOpenAt p.first p) (ap not r.fair.pushes.waits), r.fair.push_open.1))),
    tt,
  ),
)
stays_away v number (pop_lost o) s t r = (other_stays s o (not_push o r.fair.got.op), tt)

pub stays_back : (v : Taken) (number : ℕ) (k : Trade) (s t : State) → Traded v number k s t → AllByRecursion (λ p. may_stay t p ≡ true) (back k)
stays_back v number even s t r = tt
stays_back v number (push_for p q) s t r = (
  may_open t q
      (all_moved (OtherIsOpen q.first) (q ∷ (r.extra ++ r.both)) t.left (IsPermutation-sym _ _ r.there) (
        where_not (not (waits q)) (IsOpenAt q.first q) (ap not r.fair.q_pushes.waits),
        all_joined (OtherIsOpen q.first) r.extra r.both (all_where (IsOpenAt q.first) (λ x. not (waits x)) r.extra (not_waits r.extra r.pushes)) r.fair.q_open,
      )),
  tt,
)
stays_back v number (pop_for o b) s t r = (other_stays t b (not_push b r.fair.may_get.op), tt)
stays_back v number (both_gone o p) s t r = tt
stays_back v number (pop_lost o) s t r = tt
