-- Of two states that differ in what is traded, the other one answers each step of the one.
use Rattle.std.proofs.Common.{◌≡◌, ℕ, max, ◌≤◌, Bool, true, false, not, ◌||◌, ◌⊎◌, inl, inr, List, [], ◌∷◌, ◌++◌, Option, None, Some, slice_get, refl, sym, ap, ◌∙◌, subst, arith}
use Rattle.std.specs.List.{AllByRecursion, filter}
use Rattle.std.specs.List.Sorted.{IsPermutation}
use Rattle.std.proofs.lemmas.List.{append-nil, append_assoc}
use Rattle.std.proofs.lemmas.List.Elements.{filter-append}
use Rattle.std.proofs.lemmas.List.Sorted.{IsPermutation-refl, IsPermutation-sym, IsPermutation-trans, IsPermutation-cons, IsPermutation-middle, IsPermutation-append_right, IsPermutation-filter_both}
use Rattle.history.specs.declared.refusals.Refusal.{Refusal}
use Rattle.history.specs.declared.operations.Op.{Op}
use Rattle.history.specs.declared.operations.Op.TheVariants.{Enq, Deq, Shut}
use Rattle.history.specs.declared.operations.Taken.{Taken}
use Rattle.history.specs.declared.operations.Reply.{Reply}
use Rattle.history.specs.declared.operations.Reply.TheVariants.{Done, Value, Empty, Refused}
use Rattle.history.specs.declared.operations.Stamped.{Stamped}
use Rattle.waiting_orders.specs.Waiting.{IsCall, State, Step, HasEffect, GetsRefused, Takes, FindsEmpty, IsLeft, IsTold, IsToldDrained, Shuts, Where, IsOpenAt, OtherIsOpen, PushIsOpen, IsUntold, waits, is_push, every, other_is_open, may_stay}
use Rattle.waiting_orders.specs.Alike.{Got, MayGet, IsCalm}
use Rattle.waiting_orders.specs.Lines.{without}
use Rattle.waiting_orders.proofs.Futures.{all_moved, all_every}
use Rattle.waiting_orders.proofs.Lists.{all_joined, all_weaker, all_pass, all_filtered}
use Rattle.waiting_orders.proofs.Limits.{all_first, all_second}
use Rattle.waiting_orders.proofs.Picking.{filter_moved}
use Rattle.waiting_orders.proofs.Stepping.{max_least, filter_all, filter_none, flipped, untold_unended}
use Rattle.waiting_orders.proofs.Quiet.{le_trans, out_of_two, all_where, all_any, all_filter_where, back_off}
use Rattle.waiting_orders.proofs.Trades.{Sub, sub_moved, sub_under, sub_calm, where_later, where_earlier, filter_again, Trade, away, back, after, fewer, after_fair, after_ahead, after_back, no_push, others_over, pushes_over, untold_over, filter_away, filter_back, away_got, value_told, open_other, late_waits}
use Rattle.waiting_orders.proofs.Traded.{Traded, Answers, Goes, by_late, from_away, with_extra, to_there, from_here, extra_others, extra_open, with_left, step_to, traded_so, Parts, parts, sub_out, there_out, own_taken, push_taken, may_open, other_stays, stays_away, stays_back}

-- ---- one step of the one

module _ (v : Taken) (number : ℕ) (k : Trade) (s t z : State) (r : Traded v number k s t) (a : Stamped) (g : Goes a s z) where
  abbrev time_late : ℕ
  time_late = max z.time number

  abbrev theirs : List Stamped → List Stamped
  theirs ms = (back k ++ r.extra) ++ ms

  abbrev next_to : List Stamped → State
  next_to ws = with_left v number k s t z r a g ws

  step_by : (w : State) → w.time ≡ time_late → HasEffect a.op a.reply a t w → Step t w
  step_by w e h = step_to v number k s t z r a g w e a (by_late v number k s t z r a g a.first g.began) h

  takes_too : waits a ≡ false → (value : Taken) → MayGet value a → ((w : State) → Takes value a t w → HasEffect a.op a.reply a t w) → Takes value a s z → Answers v number k z t
  takes_too off value m effect h = go (parts v number k s t z r a g (h.push ∷ z.left) h.is)
    where
      next : (ms : List Stamped) → IsPermutation r.both (a ∷ ms) → (ws : List Stamped) → IsPermutation ms (h.push ∷ ws) → IsPermutation z.left (away k ++ ws) → Answers v number k z t
      next ms out ws is here =
          let w : State = next_to (theirs ws) in
          let f : Sub r.both ws = λ P x. sub_moved ms (h.push ∷ []) ws is P (sub_out v number k s t z r a g ms out P x) in
          inr (record {
            next = w;
            step = step_by w refl
                (effect w
                (record {
                  push = h.push;
                  is = IsPermutation-trans _ _ _ (there_out v number k s t z r a g ms out)
                      (IsPermutation-cons a (theirs ms) (h.push ∷ theirs ws)
                      (IsPermutation-trans _ _ _ (IsPermutation-append_right (back k ++ r.extra) ms (h.push ∷ ws) is) (IsPermutation-middle (back k ++ r.extra) h.push ws)));
                  pushes = h.pushes;
                  began = by_late v number k s t z r a g h.push.first h.began;
                  first = with_extra v number k s t z r a g (PushIsOpen h.push.first) ws
                      (from_away v number k s t z r a g (PushIsOpen h.push.first) (pushes_over v r.both s.time k r.fair h.push.first) ws (all_moved (PushIsOpen h.push.first) z.left (away k ++ ws) here h.first))
                      (extra_open v number k s t z r a g h.push.first);
                  same = refl;
                }));
            trade = k;
            traded = traded_so v number k s t z r a g ws f here h.same;
            keeps = λ i. i;
          })

      second : (ms : List Stamped) → IsPermutation r.both (a ∷ ms)
          → ((j : ℕ) × (slice_get (away k) j ≡ Some h.push) × IsPermutation z.left (without j (away k) ++ ms)) ⊎ ((ws : List Stamped) × IsPermutation ms (h.push ∷ ws) × IsPermutation z.left (away k ++ ws))
          → Answers v number k z t
      second ms out (inl j) = push_taken v number k s t z r a g value h m effect ms out j.0 j.1 j.2
      second ms out (inr ws) = next ms out ws.0 ws.1 ws.2

      told : Got v a → (a.reply ≡ Some (Value value)) ⊎ (a.reply ≡ None) → value ≡ v
      told got (inl e) = value_told value v (sym e ∙ got.reply)
      told got (inr e) = absurd (cc (sym e ∙ got.reply))

      go : Parts v number k s t z r a g (h.push ∷ z.left) → Answers v number k z t
      go (inl j) = own_taken v number k s t z r a g value (told (away_got v r.both s.time k r.fair j.0 a j.1 off) m.reply) off h j.0 j.1 j.2
      go (inr ms) = second ms.0 ms.1 (out_of_two (away k) ms.0 h.push z.left (IsPermutation-sym _ _ ms.2))

  -- what takes nothing, and drops nothing
  changes_too : waits a ≡ false → (Got v a → ⊥) → IsPermutation s.left (a ∷ z.left) → z.shut ≡ s.shut
      → ((ms : List Stamped) → IsPermutation r.both (a ∷ ms) → IsPermutation z.left (away k ++ ms) → HasEffect a.op a.reply a t (next_to (theirs ms))) → Answers v number k z t
  changes_too off loud is same effect = go (parts v number k s t z r a g z.left is)
    where
      go : Parts v number k s t z r a g z.left → Answers v number k z t
      go (inl j) = absurd (loud (away_got v r.both s.time k r.fair j.0 a j.1 off))
      go (inr ms) =
          inr (record {
            next = next_to (theirs ms.0);
            step = step_by (next_to (theirs ms.0)) refl (effect ms.0 ms.1 ms.2);
            trade = k;
            traded = traded_so v number k s t z r a g ms.0 (sub_out v number k s t z r a g ms.0 ms.1) ms.2 same;
            keeps = λ i. i;
          })

  -- no push that waits had ended before the number of the other state's step
  none_late : a.reply ≡ Some Empty → (ms : List Stamped) → IsPermutation r.both (a ∷ ms) → AllByRecursion (PushIsOpen z.time) (back k ++ ms) → AllByRecursion (PushIsOpen time_late) (back k ++ ms)
  none_late e ms out h = go r.calm
    where
      go : IsCalm number (back k ++ r.both) → AllByRecursion (PushIsOpen time_late) (back k ++ ms)
      go (inl c) =
          let P = λ (o : Stamped). o.reply ≡ Some Empty → number ≤ o.first in
          let l : number ≤ a.first = (all_moved P r.both (a ∷ ms) out (all_second P (back k) r.both c)).0 e in
          where_earlier time_late z.time waits (max_least z.time number z.time (omega arith) (le_trans number a.first z.time l g.began)) (back k ++ ms) h
      go (inr c) = where_later z.time number waits (back k ++ ms) h (sub_under (back k) r.both ms (sub_out v number k s t z r a g ms out) (PushIsOpen number) c)

  empty_too : waits a ≡ false → (Got v a → ⊥) → a.reply ≡ Some Empty → ((w : State) → FindsEmpty a t w → HasEffect a.op a.reply a t w) → FindsEmpty a s z → Answers v number k z t
  empty_too off loud e effect h =
      changes_too off loud h.is h.same
      (λ ms out here. effect (next_to (theirs ms))
      (record {
        is = there_out v number k s t z r a g ms out;
        none = with_extra v number k s t z r a g (PushIsOpen time_late) ms
            (none_late e ms out (from_away v number k s t z r a g (PushIsOpen z.time) (pushes_over v r.both s.time k r.fair z.time) ms (all_moved (PushIsOpen z.time) z.left (away k ++ ms) here h.none)))
            (extra_open v number k s t z r a g time_late);
        before = r.shut ∙ h.before;
        same = refl;
      }))

  left_too : waits a ≡ false → (Got v a → ⊥) → (refusal : Refusal) → ((w : State) → IsLeft refusal a t w → HasEffect a.op a.reply a t w) → IsLeft refusal a s z → Answers v number k z t
  left_too off loud refusal effect h =
      changes_too off loud h.is h.same (λ ms out here. effect (next_to (theirs ms)) (record { is = there_out v number k s t z r a g ms out; leaves = h.leaves; same = refl }))

  told_too : waits a ≡ false → (Got v a → ⊥) → ((w : State) → IsTold a t w → HasEffect a.op a.reply a t w) → IsTold a s z → Answers v number k z t
  told_too off loud effect h =
      changes_too off loud h.is h.same (λ ms out here. effect (next_to (theirs ms)) (record { is = there_out v number k s t z r a g ms out; before = r.shut ∙ h.before; same = refl }))

  drained_too : waits a ≡ false → (Got v a → ⊥) → ((w : State) → IsToldDrained a t w → HasEffect a.op a.reply a t w) → IsToldDrained a s z → Answers v number k z t
  drained_too off loud effect h = go (parts v number k s t z r a g (z.left ++ h.dropped) h.is)
    where
      twice : (x : Stamped) → waits x ≡ not (not (waits x))
      twice x = by (waits x)
        where
          by : (b : Bool) → b ≡ not (not b)
          by true = refl
          by false = refl

      untold_here : (ms : List Stamped) → IsPermutation (z.left ++ h.dropped) (away k ++ ms) → AllByRecursion IsUntold (filter waits (theirs ms))
      untold_here ms perm =
          let P = λ (x : Stamped). Where (waits x) (IsUntold x) in
          all_filter_where IsUntold waits (theirs ms)
          (with_extra v number k s t z r a g P ms
          (from_away v number k s t z r a g P (untold_over v r.both s.time k r.fair (all_first IsCall (back k) r.both r.calls)) ms
          (all_moved P (z.left ++ h.dropped) (away k ++ ms) perm
          (all_joined P z.left h.dropped (all_where IsUntold waits z.left h.none) (all_any IsUntold waits h.dropped h.untold))))
          (all_any IsUntold waits r.extra r.untold))

      here_now : (ms : List Stamped) → IsPermutation (z.left ++ h.dropped) (away k ++ ms) → IsPermutation z.left (away (after k) ++ filter no_push ms)
      here_now ms perm =
          let from : filter no_push (z.left ++ h.dropped) ≡ z.left =
          filter-append no_push z.left h.dropped ∙ ap (λ l. l ++ filter no_push h.dropped) (filter_all no_push z.left (flipped false z.left h.none))
          ∙ ap (λ l. z.left ++ l) (filter_none no_push h.dropped (flipped true h.dropped h.pushes)) ∙ append-nil z.left in
          let to : filter no_push (away k ++ ms) ≡ away (after k) ++ filter no_push ms = filter-append no_push (away k) ms ∙ ap (λ l. l ++ filter no_push ms) (filter_away v r.both s.time k r.fair) in
          subst (λ l. IsPermutation z.left l) to (subst (λ l. IsPermutation l (filter no_push (away k ++ ms))) from (filter_moved no_push (z.left ++ h.dropped) (away k ++ ms) perm))

      there_now : (ms : List Stamped) → IsPermutation (filter no_push (theirs ms)) ((back (after k) ++ []) ++ filter no_push ms)
      there_now ms =
          let is : filter no_push (theirs ms) ≡ (back (after k) ++ []) ++ filter no_push ms =
          filter-append no_push (back k ++ r.extra) ms
          ∙ ap (λ l. l ++ filter no_push ms)
          (filter-append no_push (back k) r.extra ∙ ap (λ l. l ++ filter no_push r.extra) (filter_back v r.both s.time k r.fair)
          ∙ ap (λ l. back (after k) ++ l) (filter_none no_push r.extra (flipped true r.extra r.pushes))) in
          subst (λ l. IsPermutation (filter no_push (theirs ms)) l) is (IsPermutation-refl _)

      go : Parts v number k s t z r a g (z.left ++ h.dropped) → Answers v number k z t
      go (inl j) = absurd (loud (away_got v r.both s.time k r.fair j.0 a j.1 off))
      go (inr m) =
          let ms = m.0 in
          let w : State = next_to (filter no_push (theirs ms)) in
          let none = back_off (filter no_push ms) waits (all_pass no_push ms) in
          let f : Sub (back k ++ r.both) (back (after k) ++ filter no_push ms) =
          λ P x. all_joined P (back (after k)) (filter no_push ms) (after_back P k (all_first P (back k) r.both x))
          (all_filtered P no_push ms (sub_out v number k s t z r a g ms m.1 P (all_second P (back k) r.both x))) in
          inr (record {
            next = w;
            step = step_by w refl
                (effect w
                (record {
                  dropped = filter waits (theirs ms);
                  is = IsPermutation-trans _ _ _ (there_out v number k s t z r a g ms m.1) (IsPermutation-cons a (theirs ms) _ (IsPermutation-filter_both no_push waits twice (theirs ms)));
                  untold = untold_here ms m.2;
                  pushes = all_pass waits (theirs ms);
                  none = back_off (filter no_push (theirs ms)) waits (all_pass no_push (theirs ms));
                  before = r.shut ∙ h.before;
                  same = refl;
                }));
            trade = after k;
            traded = record {
              both = filter no_push ms;
              extra = [];
              here = here_now ms m.2;
              there = there_now ms;
              pushes = tt;
              untold = tt;
              unended = tt;
              calls = f IsCall r.calls;
              others = f (OtherIsOpen number) r.others;
              calm = sub_calm number (back k ++ r.both) (back (after k) ++ filter no_push ms) f r.calm;
              fair = after_fair v k r.both (filter no_push ms) s.time z.time none g.since r.fair;
              shut = r.shut ∙ sym h.same;
              time = omega arith;
            };
            keeps = after_ahead k;
          })

  -- what stays behind a shut of the one stays behind one of the other
  stays_too : (p : Stamped) → may_stay s p ≡ true → may_stay t p ≡ true
  stays_too p h = by (waits p) refl h
    where
      by : (b : Bool) → waits p ≡ b → (not b || every (other_is_open p.first) s.left) ≡ true → may_stay t p ≡ true
      by false e h = other_stays t p e
      by true e h =
          let still = all_weaker (λ x. other_is_open p.first x ≡ true) (OtherIsOpen p.first) (open_other p.first) s.left (all_every (other_is_open p.first) s.left h) in
          may_open t p
          (to_there v number k s t z r a g (OtherIsOpen p.first) (from_here v number k s t z r a g (OtherIsOpen p.first) (others_over v r.both s.time k r.fair p.first) still)
          (extra_others v number k s t z r a g (IsOpenAt p.first)))

  shuts_too : waits a ≡ false → (Got v a → ⊥) → ((w : State) → Shuts a t w → HasEffect a.op a.reply a t w) → Shuts a s z → Answers v number k z t
  shuts_too off loud effect h = go (parts v number k s t z r a g (z.left ++ h.dropped) h.is)
    where
      stay : Stamped → Bool
      stay p = may_stay t p

      out : Stamped → Bool
      out p = not (may_stay t p)

      stay_here : Stamped → Bool
      stay_here p = may_stay s p

      out_here : Stamped → Bool
      out_here p = not (may_stay s p)

      all_stay : (xs : List Stamped) → AllByRecursion (λ p. may_stay s p ≡ true) xs → AllByRecursion (λ p. stay p ≡ true) xs
      all_stay xs h = all_weaker (λ p. may_stay s p ≡ true) (λ p. stay p ≡ true) stays_too xs h

      none_out : (xs : List Stamped) → AllByRecursion (λ p. stay p ≡ true) xs → AllByRecursion (λ p. out p ≡ false) xs
      none_out xs h = all_weaker (λ p. stay p ≡ true) (λ p. out p ≡ false) (λ p e. ap not e) xs h

      none_out_here : (xs : List Stamped) → AllByRecursion (λ p. may_stay s p ≡ true) xs → AllByRecursion (λ p. out_here p ≡ false) xs
      none_out_here xs h = all_weaker (λ p. may_stay s p ≡ true) (λ p. out_here p ≡ false) (λ p e. ap not e) xs h

      twice : (x : Stamped) → stay_here x ≡ not (out_here x)
      twice x = by (may_stay s x)
        where
          by : (b : Bool) → b ≡ not (not b)
          by true = refl
          by false = refl

      untold_here : (ms : List Stamped) → IsPermutation (z.left ++ h.dropped) (away k ++ ms) → AllByRecursion IsUntold (filter out (theirs ms))
      untold_here ms perm =
          let P = λ (p : Stamped). Where (out p) (IsUntold p) in
          all_filter_where IsUntold out (theirs ms)
          (with_extra v number k s t z r a g P ms
          (all_joined P (back k) ms (all_where IsUntold out (back k) (none_out (back k) (stays_back v number k s t r)))
          (all_second P (away k) ms (all_moved P (z.left ++ h.dropped) (away k ++ ms) perm
          (all_joined P z.left h.dropped (all_where IsUntold out z.left (none_out z.left (all_stay z.left h.kept))) (all_any IsUntold out h.dropped h.untold)))))
          (all_any IsUntold out r.extra r.untold))

      -- pushes that stay behind the shut of the other one alone
      more : List Stamped → List Stamped
      more ms = filter out_here (filter stay ms)

      more_untold : (ms : List Stamped) → IsPermutation (z.left ++ h.dropped) (away k ++ ms) → AllByRecursion IsUntold (more ms)
      more_untold ms perm =
          let P = λ (p : Stamped). Where (out_here p) (IsUntold p) in
          all_filter_where IsUntold out_here (filter stay ms)
          (all_filtered P stay ms
          (all_second P (away k) ms (all_moved P (z.left ++ h.dropped) (away k ++ ms) perm
          (all_joined P z.left h.dropped (all_where IsUntold out_here z.left (none_out_here z.left h.kept)) (all_any IsUntold out_here h.dropped h.untold)))))

      more_waits : (ms : List Stamped) → AllByRecursion (λ p. waits p ≡ true) (more ms)
      more_waits ms = all_weaker (λ p. may_stay s p ≡ false) (λ p. waits p ≡ true) (late_waits s) (more ms) (back_off (more ms) stay_here (all_pass out_here (filter stay ms)))

      here_now : (ms : List Stamped) → IsPermutation (z.left ++ h.dropped) (away k ++ ms) → IsPermutation z.left (away k ++ filter stay_here ms)
      here_now ms perm =
          let from : filter stay_here (z.left ++ h.dropped) ≡ z.left =
          filter-append stay_here z.left h.dropped ∙ ap (λ l. l ++ filter stay_here h.dropped) (filter_all stay_here z.left h.kept)
          ∙ ap (λ l. z.left ++ l) (filter_none stay_here h.dropped h.late) ∙ append-nil z.left in
          let to : filter stay_here (away k ++ ms) ≡ away k ++ filter stay_here ms =
          filter-append stay_here (away k) ms ∙ ap (λ l. l ++ filter stay_here ms) (filter_all stay_here (away k) (stays_away v number k s t r)) in
          subst (λ l. IsPermutation z.left l) to (subst (λ l. IsPermutation l (filter stay_here (away k ++ ms))) from (filter_moved stay_here (z.left ++ h.dropped) (away k ++ ms) perm))

      there_now : (ms : List Stamped) → IsPermutation (filter stay (theirs ms)) ((back k ++ (filter stay r.extra ++ more ms)) ++ filter stay_here ms)
      there_now ms =
          let is : filter stay (theirs ms) ≡ (back k ++ filter stay r.extra) ++ filter stay ms =
          filter-append stay (back k ++ r.extra) ms
          ∙ ap (λ l. l ++ filter stay ms) (filter-append stay (back k) r.extra ∙ ap (λ l. l ++ filter stay r.extra) (filter_all stay (back k) (stays_back v number k s t r))) in
          let both : IsPermutation (filter stay ms) (more ms ++ filter stay_here ms) =
          subst (λ l. IsPermutation (filter stay ms) (more ms ++ l)) (filter_again stay stay_here stays_too ms) (IsPermutation-filter_both out_here stay_here twice (filter stay ms)) in
          let joined : (back k ++ filter stay r.extra) ++ (more ms ++ filter stay_here ms) ≡ (back k ++ (filter stay r.extra ++ more ms)) ++ filter stay_here ms =
          sym (append_assoc (back k ++ filter stay r.extra) (more ms) (filter stay_here ms)) ∙ ap (λ l. l ++ filter stay_here ms) (append_assoc (back k) (filter stay r.extra) (more ms)) in
          subst (λ l. IsPermutation (filter stay (theirs ms)) l) joined
          (subst (λ l. IsPermutation l ((back k ++ filter stay r.extra) ++ (more ms ++ filter stay_here ms))) (sym is)
          (IsPermutation-append_right (back k ++ filter stay r.extra) (filter stay ms) (more ms ++ filter stay_here ms) both))

      go : Parts v number k s t z r a g (z.left ++ h.dropped) → Answers v number k z t
      go (inl j) = absurd (loud (away_got v r.both s.time k r.fair j.0 a j.1 off))
      go (inr m) =
          let ms = m.0 in
          let w : State = record { left = filter stay (theirs ms); shut = true; time = time_late } in
          let f : Sub r.both (filter stay_here ms) = λ P x. all_filtered P stay_here ms (sub_out v number k s t z r a g ms m.1 P x) in
          let both_calls : AllByRecursion IsCall ms = sub_out v number k s t z r a g ms m.1 IsCall (all_second IsCall (back k) r.both r.calls) in
          let more_calls : AllByRecursion IsCall (more ms) = all_filtered IsCall out_here (filter stay ms) (all_filtered IsCall stay ms both_calls) in
          inr (record {
            next = w;
            step = step_by w refl
                (effect w
                (record {
                  dropped = filter out (theirs ms);
                  is = IsPermutation-trans _ _ _ (there_out v number k s t z r a g ms m.1) (IsPermutation-cons a (theirs ms) _ (IsPermutation-filter_both stay out (λ x. refl) (theirs ms)));
                  untold = untold_here ms m.2;
                  kept = all_pass stay (theirs ms);
                  late = back_off (filter out (theirs ms)) stay (all_pass out (theirs ms));
                  before = r.shut ∙ h.before;
                  after = refl;
                }));
            trade = k;
            traded = record {
              both = filter stay_here ms;
              extra = filter stay r.extra ++ more ms;
              here = here_now ms m.2;
              there = there_now ms;
              pushes = all_joined (λ p. waits p ≡ true) (filter stay r.extra) (more ms) (all_filtered (λ p. waits p ≡ true) stay r.extra r.pushes) (more_waits ms);
              untold = all_joined IsUntold (filter stay r.extra) (more ms) (all_filtered IsUntold stay r.extra r.untold) (more_untold ms m.2);
              unended = all_joined (λ p. p.last ≡ None) (filter stay r.extra) (more ms) (all_filtered (λ p. p.last ≡ None) stay r.extra r.unended) (untold_unended (more ms) more_calls (more_untold ms m.2));
              calls = sub_under (back k) r.both (filter stay_here ms) f IsCall r.calls;
              others = sub_under (back k) r.both (filter stay_here ms) f (OtherIsOpen number) r.others;
              calm = sub_calm number (back k ++ r.both) (back k ++ filter stay_here ms) (sub_under (back k) r.both (filter stay_here ms) f) r.calm;
              fair = fewer v k r.both (filter stay_here ms) s.time z.time f g.since r.fair;
              shut = sym h.after;
              time = omega arith;
            };
            keeps = λ i. i;
          })

  module _ (op : Op) (reply : Option Reply) (e : a.op ≡ op) (f : a.reply ≡ reply) where
    as_told : (w : State) → HasEffect op reply a t w → HasEffect a.op a.reply a t w
    as_told w h = subst (λ op. HasEffect op a.reply a t w) (sym e) (subst (λ reply. HasEffect op reply a t w) (sym f) h)

    off_by : is_push op reply ≡ false → waits a ≡ false
    off_by h = ap (λ op. is_push op a.reply) e ∙ ap (is_push op) f ∙ h

  by_reply : (reply : Option Reply) → a.reply ≡ reply → (reply ≡ Some (Value v) → ⊥) → Got v a → ⊥
  by_reply reply f not_told got = not_told (sym f ∙ got.reply)

  by_op : (op : Op) → a.op ≡ op → (op ≡ Deq → ⊥) → Got v a → ⊥
  by_op op e not_pop got = not_pop (sym e ∙ got.op)

  refused_too : (refusal : Refusal) (op : Op) → a.op ≡ op → a.reply ≡ Some (Refused refusal) → GetsRefused refusal op a s z → Answers v number k z t
  refused_too refusal (Enq body) e f (inl h) =
      left_too (off_by (Enq body) (Some (Refused refusal)) e f refl) (by_reply (Some (Refused refusal)) f (λ x. absurd cc)) refusal (λ w x. as_told (Enq body) (Some (Refused refusal)) e f w (inl x)) h
  refused_too refusal (Enq body) e f (inr h) =
      told_too (off_by (Enq body) (Some (Refused refusal)) e f refl) (by_reply (Some (Refused refusal)) f (λ x. absurd cc)) (λ w x. as_told (Enq body) (Some (Refused refusal)) e f w (inr (h.0, x))) h.1
  refused_too refusal Shut e f (inl h) =
      left_too (off_by Shut (Some (Refused refusal)) e f refl) (by_reply (Some (Refused refusal)) f (λ x. absurd cc)) refusal (λ w x. as_told Shut (Some (Refused refusal)) e f w (inl x)) h
  refused_too refusal Shut e f (inr h) =
      told_too (off_by Shut (Some (Refused refusal)) e f refl) (by_reply (Some (Refused refusal)) f (λ x. absurd cc)) (λ w x. as_told Shut (Some (Refused refusal)) e f w (inr (h.0, x))) h.1
  refused_too refusal Deq e f (inl h) =
      left_too (off_by Deq (Some (Refused refusal)) e f refl) (by_reply (Some (Refused refusal)) f (λ x. absurd cc)) refusal (λ w x. as_told Deq (Some (Refused refusal)) e f w (inl x)) h
  refused_too refusal Deq e f (inr h) =
      drained_too (off_by Deq (Some (Refused refusal)) e f refl) (by_reply (Some (Refused refusal)) f (λ x. absurd cc)) (λ w x. as_told Deq (Some (Refused refusal)) e f w (inr (h.0, x))) h.1

  pub answers : (op : Op) (reply : Option Reply) → a.op ≡ op → a.reply ≡ reply → HasEffect op reply a s z → Answers v number k z t
  answers (Enq body) None e f h = absurd h
  answers Deq None e f h = takes_too (off_by Deq None e f refl) h.0 (record { op = e; reply = inr f }) (λ w x. as_told Deq None e f w (h.0, x)) h.1
  answers Shut None e f h = shuts_too (off_by Shut None e f refl) (by_op Shut e (λ x. absurd cc)) (as_told Shut None e f) h
  answers (Enq body) (Some Done) e f h = absurd h
  answers Deq (Some Done) e f h = absurd h
  answers Shut (Some Done) e f h = shuts_too (off_by Shut (Some Done) e f refl) (by_op Shut e (λ x. absurd cc)) (as_told Shut (Some Done) e f) h
  answers (Enq body) (Some (Value value)) e f h = absurd h
  answers Deq (Some (Value value)) e f h = takes_too (off_by Deq (Some (Value value)) e f refl) value (record { op = e; reply = inl f }) (as_told Deq (Some (Value value)) e f) h
  answers Shut (Some (Value value)) e f h = absurd h
  answers (Enq body) (Some Empty) e f h = absurd h
  answers Deq (Some Empty) e f h = empty_too (off_by Deq (Some Empty) e f refl) (by_reply (Some Empty) f (λ x. absurd cc)) f (as_told Deq (Some Empty) e f) h
  answers Shut (Some Empty) e f h = absurd h
  answers (Enq body) (Some (Refused refusal)) e f h = refused_too refusal (Enq body) e f h
  answers Deq (Some (Refused refusal)) e f h = refused_too refusal Deq e f h
  answers Shut (Some (Refused refusal)) e f h = refused_too refusal Shut e f h
