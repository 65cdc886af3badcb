-- What one state has left for what another one has, and why that costs the other one nothing.
use Rattle.std.proofs.Common.{◌≡◌, ℕ, zero, suc, max, ◌≤◌, Bool, true, false, not, ◌||◌, cond, inl, inr, List, [], ◌∷◌, ◌++◌, Option, None, Some, IfSome, is_some, slice_get, refl, sym, ap, ◌∙◌, subst}
use Rattle.std.specs.List.{AllByRecursion, filter}
use Rattle.std.specs.List.Sorted.{IsPermutation}
use Rattle.std.proofs.lemmas.Option.{same_Some}
use Rattle.history.specs.declared.operations.Op.TheVariants.{Deq}
use Rattle.history.specs.declared.operations.Taken.{Taken}
use Rattle.history.specs.declared.operations.Reply.{Reply}
use Rattle.history.specs.declared.operations.Reply.TheVariants.{Done, Value, Empty, Refused}
use Rattle.history.specs.declared.operations.Stamped.{Stamped}
use Rattle.waiting_orders.specs.Waiting.{IsCall, State, Pushes, Where, IsOpenAt, OtherIsOpen, PushIsOpen, IsUntold, OtherIsUntold, waits, is_push, every, is_open_at, other_is_open, may_stay}
use Rattle.waiting_orders.specs.Alike.{EndsBy, Got, MayGet, IsCalm}
use Rattle.waiting_orders.proofs.Futures.{all_moved}
use Rattle.waiting_orders.proofs.Lists.{all_joined, where_any, where_not}
use Rattle.waiting_orders.proofs.Limits.{all_first, all_second, told_open}
use Rattle.waiting_orders.proofs.Stepping.{max_least, filter_all, filter_none, untold_unended}
use Rattle.waiting_orders.proofs.Quiet.{le_trans}

-- ---- what ends first

ends_open : (n : ℕ) (a b : Option ℕ) → EndsBy a b → IfSome a (λ last. n ≤ last) → IfSome b (λ last. n ≤ last)
ends_open n None None e h = tt
ends_open n None (Some b) e h = absurd e
ends_open n (Some a) None e h = tt
ends_open n (Some a) (Some b) e h = le_trans n a b h e

ends_none : (a b : Option ℕ) → EndsBy a b → a ≡ None → b ≡ None
ends_none None None e f = refl
ends_none None (Some b) e f = absurd e
ends_none (Some a) b e f = absurd cc

pub ends_never : (a b : Option ℕ) → b ≡ None → EndsBy a b
ends_never None None e = tt
ends_never (Some a) None e = tt
ends_never None (Some b) e = absurd cc
ends_never (Some a) (Some b) e = absurd cc

pub unended_untold : (o : Stamped) → IsCall o → o.last ≡ None → o.reply ≡ None
unended_untold o c e = go o.reply refl
  where
    go : (reply : Option Reply) → o.reply ≡ reply → reply ≡ None
    go None f = refl
    go (Some reply) f =
        let ended : is_some o.last ≡ true = c.ended.1 (ap is_some f) in
        absurd (cc (sym ended ∙ ap is_some e))

pub not_push : (o : Stamped) → o.op ≡ Deq → waits o ≡ false
not_push o e = ap (λ op. is_push op o.reply) e

where_on : (c : Bool) (P : Type 0) → c ≡ true → Where c P → P
where_on true P e h = h
where_on false P e h = absurd cc

-- ---- what all of some operations have

-- whatever all of some operations have, all of others have
abbrev pub Sub : List Stamped → List Stamped → Type 1
Sub xs ys = (P : Stamped → Type 0) → AllByRecursion P xs → AllByRecursion P ys

pub sub_moved : (xs gone ys : List Stamped) → IsPermutation xs (gone ++ ys) → Sub xs ys
sub_moved xs gone ys is = λ P h. all_second P gone ys (all_moved P xs (gone ++ ys) is h)

pub sub_under : (front xs ys : List Stamped) → Sub xs ys → Sub (front ++ xs) (front ++ ys)
sub_under front xs ys f = λ P h. all_joined P front ys (all_first P front xs h) (f P (all_second P front xs h))

pub sub_calm : (n : ℕ) (xs ys : List Stamped) → Sub xs ys → IsCalm n xs → IsCalm n ys
sub_calm n xs ys f (inl h) = inl (f (λ o. o.reply ≡ Some Empty → n ≤ o.first) h)
sub_calm n xs ys f (inr h) = inr (f (PushIsOpen n) h)

pub where_later : (a b : ℕ) (c : Stamped → Bool) (xs : List Stamped) → AllByRecursion (λ x. Where (c x) (IsOpenAt a x)) xs → AllByRecursion (λ x. Where (c x) (IsOpenAt b x)) xs
    → AllByRecursion (λ x. Where (c x) (IsOpenAt (max a b) x)) xs
where_later a b c [] h k = tt
where_later a b c (x ∷ xs) h k = (go (c x) h.0 k.0, where_later a b c xs h.1 k.1)
  where
    by : (last : Option ℕ) → IfSome last (λ last. a ≤ last) → IfSome last (λ last. b ≤ last) → IfSome last (λ last. max a b ≤ last)
    by None h k = tt
    by (Some last) h k = max_least a b last h k

    go : (d : Bool) → Where d (IsOpenAt a x) → Where d (IsOpenAt b x) → Where d (IsOpenAt (max a b) x)
    go true h k = by x.last h k
    go false h k = tt

pub where_earlier : (a b : ℕ) (c : Stamped → Bool) → a ≤ b → (xs : List Stamped) → AllByRecursion (λ x. Where (c x) (IsOpenAt b x)) xs → AllByRecursion (λ x. Where (c x) (IsOpenAt a x)) xs
where_earlier a b c l [] h = tt
where_earlier a b c l (x ∷ xs) h = (go (c x) h.0, where_earlier a b c l xs h.1)
  where
    by : (last : Option ℕ) → IfSome last (λ last. b ≤ last) → IfSome last (λ last. a ≤ last)
    by None h = tt
    by (Some last) h = le_trans a b last l h

    go : (d : Bool) → Where d (IsOpenAt b x) → Where d (IsOpenAt a x)
    go true h = by x.last h
    go false h = tt

pub filter_again : (f g : Stamped → Bool) → ((x : Stamped) → g x ≡ true → f x ≡ true) → (xs : List Stamped) → filter g (filter f xs) ≡ filter g xs
filter_again f g i [] = refl
filter_again f g i (x ∷ xs) = go (f x) (g x) refl refl (filter_again f g i xs)
  where
    go : (b c : Bool) → f x ≡ b → g x ≡ c → filter g (filter f xs) ≡ filter g xs → filter g (cond b (x ∷ filter f xs) (filter f xs)) ≡ cond c (x ∷ filter g xs) (filter g xs)
    go true true e d h = ap (λ c. cond c (x ∷ filter g (filter f xs)) (filter g (filter f xs))) d ∙ ap (λ l. x ∷ l) h
    go true false e d h = ap (λ c. cond c (x ∷ filter g (filter f xs)) (filter g (filter f xs))) d ∙ h
    go false true e d h = absurd (cc (sym e ∙ i x d))
    go false false e d h = h

-- ---- what one state has left for what the other one has

-- nothing; a push for another one of the value; a pop for another one that may get the value; a pop and its push, for nothing;
-- or a pop whose push a shut queue has lost
pub data Trade : Type 0 where
  even : Trade
  push_for : (p q : Stamped) → Trade
  pop_for : (o b : Stamped) → Trade
  both_gone : (o p : Stamped) → Trade
  pop_lost : (o : Stamped) → Trade

abbrev pub away : Trade → List Stamped
away even = []
away (push_for p q) = p ∷ []
away (pop_for o b) = o ∷ []
away (both_gone o p) = o ∷ p ∷ []
away (pop_lost o) = o ∷ []

abbrev pub back : Trade → List Stamped
back even = []
back (push_for p q) = q ∷ []
back (pop_for o b) = b ∷ []
back (both_gone o p) = []
back (pop_lost o) = []

-- whether the other state is a step ahead
abbrev pub IsAhead : Trade → Type 0
IsAhead even = ⊥
IsAhead (push_for p q) = ⊥
IsAhead (pop_for o b) = ⊥
IsAhead (both_gone o p) = Unit {0}
IsAhead (pop_lost o) = Unit {0}

-- what is traded when a pop was told that the queue is shut and empty
abbrev pub after : Trade → Trade
after even = even
after (push_for p q) = even
after (pop_for o b) = pop_for o b
after (both_gone o p) = pop_lost o
after (pop_lost o) = pop_lost o

pub record FairPush (v : Taken) (p q : Stamped) (both : List Stamped) (time : ℕ) : Type 0 where
  pub p_pushes : Pushes v p
  pub q_pushes : Pushes v q
  pub ends : EndsBy p.last q.last
  pub p_call : IsCall p
  pub first : AllByRecursion (PushIsOpen q.first) both
  pub q_open : AllByRecursion (OtherIsOpen q.first) both
  pub p_open : AllByRecursion (OtherIsOpen p.first) both
  pub began : q.first ≤ time

pub record FairPop (v : Taken) (o b : Stamped) (time : ℕ) : Type 0 where
  pub got : Got v o
  pub may_get : MayGet v b
  pub ends : EndsBy o.last b.last
  pub began : b.first ≤ time

pub record FairBoth (v : Taken) (o p : Stamped) (both : List Stamped) : Type 0 where
  pub got : Got v o
  pub pushes : Pushes v p
  pub pops_end : AllByRecursion (λ x. x.reply ≡ Some (Value v) → EndsBy o.last x.last) both
  pub pushes_end : AllByRecursion (λ x. Pushes v x → EndsBy p.last x.last) both
  pub call : IsCall p
  pub push_open : AllByRecursion (OtherIsOpen p.first) (o ∷ both)

pub record FairLost (v : Taken) (o : Stamped) (both : List Stamped) : Type 0 where
  pub got : Got v o
  pub none : AllByRecursion (λ x. waits x ≡ false) both

-- a trade that costs the other state nothing, by what both have left and the number of the one
abbrev pub Fair : Taken → Trade → List Stamped → ℕ → Type 0
Fair v even both time = Unit {0}
Fair v (push_for p q) both time = FairPush v p q both time
Fair v (pop_for o b) both time = FairPop v o b time
Fair v (both_gone o p) both time = FairBoth v o p both
Fair v (pop_lost o) both time = FairLost v o both

pub fewer : (v : Taken) (k : Trade) (xs ys : List Stamped) (time later : ℕ) → Sub xs ys → time ≤ later → Fair v k xs time → Fair v k ys later
fewer v even xs ys time later f l h = tt
fewer v (push_for p q) xs ys time later f l h =
    record {
      p_pushes = h.p_pushes;
      q_pushes = h.q_pushes;
      ends = h.ends;
      p_call = h.p_call;
      first = f (PushIsOpen q.first) h.first;
      q_open = f (OtherIsOpen q.first) h.q_open;
      p_open = f (OtherIsOpen p.first) h.p_open;
      began = le_trans q.first time later h.began l;
    }
fewer v (pop_for o b) xs ys time later f l h = record { got = h.got; may_get = h.may_get; ends = h.ends; began = le_trans b.first time later h.began l }
fewer v (both_gone o p) xs ys time later f l h =
    record {
      got = h.got;
      pushes = h.pushes;
      pops_end = f (λ x. x.reply ≡ Some (Value v) → EndsBy o.last x.last) h.pops_end;
      pushes_end = f (λ x. Pushes v x → EndsBy p.last x.last) h.pushes_end;
      call = h.call;
      push_open = (h.push_open.0, f (OtherIsOpen p.first) h.push_open.1);
    }
fewer v (pop_lost o) xs ys time later f l h = record { got = h.got; none = f (λ x. waits x ≡ false) h.none }

pub after_fair : (v : Taken) (k : Trade) (xs ys : List Stamped) (time later : ℕ) → AllByRecursion (λ x. waits x ≡ false) ys → time ≤ later → Fair v k xs time → Fair v (after k) ys later
after_fair v even xs ys time later none l h = tt
after_fair v (push_for p q) xs ys time later none l h = tt
after_fair v (pop_for o b) xs ys time later none l h = record { got = h.got; may_get = h.may_get; ends = h.ends; began = le_trans b.first time later h.began l }
after_fair v (both_gone o p) xs ys time later none l h = record { got = h.got; none = none }
after_fair v (pop_lost o) xs ys time later none l h = record { got = h.got; none = none }

pub after_ahead : (k : Trade) → IsAhead k → IsAhead (after k)
after_ahead even h = h
after_ahead (push_for p q) h = h
after_ahead (pop_for o b) h = h
after_ahead (both_gone o p) h = tt
after_ahead (pop_lost o) h = tt

pub after_back : (P : Stamped → Type 0) (k : Trade) → AllByRecursion P (back k) → AllByRecursion P (back (after k))
after_back P even h = tt
after_back P (push_for p q) h = tt
after_back P (pop_for o b) h = h
after_back P (both_gone o p) h = tt
after_back P (pop_lost o) h = tt

abbrev pub no_push : Stamped → Bool
no_push o = not (waits o)

module _ (v : Taken) (both : List Stamped) (time : ℕ) where
  pub others_over : (k : Trade) → Fair v k both time → (n : ℕ) → AllByRecursion (OtherIsOpen n) (away k) → AllByRecursion (OtherIsOpen n) (back k)
  others_over even f n h = tt
  others_over (push_for p q) f n h = (where_not (not (waits q)) (IsOpenAt n q) (ap not f.q_pushes.waits), tt)
  others_over (pop_for o b) f n h =
      (where_any (not (waits b)) (IsOpenAt n b) (ends_open n o.last b.last f.ends (where_on (not (waits o)) (IsOpenAt n o) (ap not (not_push o f.got.op)) h.0)), tt)
  others_over (both_gone o p) f n h = tt
  others_over (pop_lost o) f n h = tt

  pub pushes_over : (k : Trade) → Fair v k both time → (n : ℕ) → AllByRecursion (PushIsOpen n) (away k) → AllByRecursion (PushIsOpen n) (back k)
  pushes_over even f n h = tt
  pushes_over (push_for p q) f n h = (where_any (waits q) (IsOpenAt n q) (ends_open n p.last q.last f.ends (where_on (waits p) (IsOpenAt n p) f.p_pushes.waits h.0)), tt)
  pushes_over (pop_for o b) f n h = (where_not (waits b) (IsOpenAt n b) (not_push b f.may_get.op), tt)
  pushes_over (both_gone o p) f n h = tt
  pushes_over (pop_lost o) f n h = tt

  pub untold_over : (k : Trade) → Fair v k both time → AllByRecursion IsCall (back k) → AllByRecursion (λ x. Where (waits x) (IsUntold x)) (away k) → AllByRecursion (λ x. Where (waits x) (IsUntold x)) (back k)
  untold_over even f c h = tt
  untold_over (push_for p q) f c h =
      let untold : p.reply ≡ None = where_on (waits p) (IsUntold p) f.p_pushes.waits h.0 in
      let unended : p.last ≡ None = (untold_unended (p ∷ []) (f.p_call, tt) (untold, tt)).0 in
      (where_any (waits q) (IsUntold q) (unended_untold q c.0 (ends_none p.last q.last f.ends unended)), tt)
  untold_over (pop_for o b) f c h = (where_not (waits b) (IsUntold b) (not_push b f.may_get.op), tt)
  untold_over (both_gone o p) f c h = tt
  untold_over (pop_lost o) f c h = tt

  pub ends_over : (k : Trade) → Fair v k both time → AllByRecursion OtherIsUntold (away k) → AllByRecursion OtherIsUntold (back k)
  ends_over even f h = tt
  ends_over (push_for p q) f h = (where_not (not (waits q)) (IsUntold q) (ap not f.q_pushes.waits), tt)
  ends_over (pop_for o b) f h =
      let untold : o.reply ≡ None = where_on (not (waits o)) (IsUntold o) (ap not (not_push o f.got.op)) h.0 in
      absurd (cc (sym untold ∙ f.got.reply))
  ends_over (both_gone o p) f h = tt
  ends_over (pop_lost o) f h = tt

  told_away : (o : Stamped) → Got v o → OtherIsUntold o → ⊥
  told_away o got h =
      let untold : o.reply ≡ None = where_on (not (waits o)) (IsUntold o) (ap not (not_push o got.op)) h in
      absurd (cc (sym untold ∙ got.reply))

  pub ahead_told : (k : Trade) → IsAhead k → Fair v k both time → AllByRecursion OtherIsUntold (away k) → ⊥
  ahead_told even i f h = i
  ahead_told (push_for p q) i f h = i
  ahead_told (pop_for o b) i f h = i
  ahead_told (both_gone o p) i f h = told_away o f.got h.0
  ahead_told (pop_lost o) i f h = told_away o f.got h.0

  pub filter_away : (k : Trade) → Fair v k both time → filter no_push (away k) ≡ away (after k)
  filter_away even f = refl
  filter_away (push_for p q) f = filter_none no_push (p ∷ []) (ap not f.p_pushes.waits, tt)
  filter_away (pop_for o b) f = filter_all no_push (o ∷ []) (ap not (not_push o f.got.op), tt)
  filter_away (both_gone o p) f =
      ap (λ c. cond c (o ∷ filter no_push (p ∷ [])) (filter no_push (p ∷ []))) (ap not (not_push o f.got.op)) ∙ ap (λ l. o ∷ l) (filter_none no_push (p ∷ []) (ap not f.pushes.waits, tt))
  filter_away (pop_lost o) f = filter_all no_push (o ∷ []) (ap not (not_push o f.got.op), tt)

  pub filter_back : (k : Trade) → Fair v k both time → filter no_push (back k) ≡ back (after k)
  filter_back even f = refl
  filter_back (push_for p q) f = filter_none no_push (q ∷ []) (ap not f.q_pushes.waits, tt)
  filter_back (pop_for o b) f = filter_all no_push (b ∷ []) (ap not (not_push b f.may_get.op), tt)
  filter_back (both_gone o p) f = refl
  filter_back (pop_lost o) f = refl

  -- what isn't left in the other state, and is no push, got the value
  pub away_got : (k : Trade) → Fair v k both time → (j : ℕ) (a : Stamped) → slice_get (away k) j ≡ Some a → waits a ≡ false → Got v a
  away_got even f j a e w = absurd cc
  away_got (push_for p q) f zero a e w = let on : waits a ≡ true = subst (λ x. waits x ≡ true) (same_Some p a e) f.p_pushes.waits in absurd (cc (sym w ∙ on))
  away_got (push_for p q) f (suc j) a e w = absurd cc
  away_got (pop_for o b) f zero a e w = subst (Got v) (same_Some o a e) f.got
  away_got (pop_for o b) f (suc j) a e w = absurd cc
  away_got (both_gone o p) f zero a e w = subst (Got v) (same_Some o a e) f.got
  away_got (both_gone o p) f (suc zero) a e w = let on : waits a ≡ true = subst (λ x. waits x ≡ true) (same_Some p a e) f.pushes.waits in absurd (cc (sym w ∙ on))
  away_got (both_gone o p) f (suc (suc j)) a e w = absurd cc
  away_got (pop_lost o) f zero a e w = subst (Got v) (same_Some o a e) f.got
  away_got (pop_lost o) f (suc j) a e w = absurd cc

-- ---- what is told by a test, or by a reply

pub value_told : (v w : Taken) → Some (Value v) ≡ Some (Value w) → v ≡ w
value_told v w e = ap value_of e
  where
    value_of : Option Reply → Taken
    value_of None = v
    value_of (Some Done) = v
    value_of (Some (Value x)) = x
    value_of (Some Empty) = v
    value_of (Some (Refused refusal)) = v

pub open_other : (n : ℕ) (x : Stamped) → other_is_open n x ≡ true → OtherIsOpen n x
open_other n x h = go (waits x) h
  where
    go : (b : Bool) → (b || is_open_at n x.last) ≡ true → Where (not b) (IsOpenAt n x)
    go true h = tt
    go false h = told_open n x.last h

pub late_waits : (s : State) (p : Stamped) → may_stay s p ≡ false → waits p ≡ true
late_waits s p h = by (waits p) refl h
  where
    by : (b : Bool) → waits p ≡ b → (not b || every (other_is_open p.first) s.left) ≡ false → b ≡ true
    by true e h = refl
    by false e h = absurd cc
