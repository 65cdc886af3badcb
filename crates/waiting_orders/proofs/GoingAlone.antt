-- Where nothing of a value ends sooner than a pop and the push that it takes, the state behind it is all that has to be tried.
use Rattle.std.proofs.Common.{◌≡◌, ℕ, suc, ◌+◌, max, ◌≤◌, ◌<◌, nat_le, nat_eq, Bool, true, false, not, ◌&&◌, ◌||◌, cond, inl, inr, List, [], ◌∷◌, ◌++◌, Option, None, Some, IfSome, take, drop, slice_get, refl, sym, ap, ◌∙◌, subst, arith}
use Rattle.std.specs.List.{AllByRecursion}
use Rattle.std.specs.List.Sorted.{IsPermutation}
use Rattle.std.proofs.lemmas.Bool.{leb-true, leb-false, le-leb, eq-eqb, eqb-true}
use Rattle.std.proofs.lemmas.List.{take-append-drop}
use Rattle.std.proofs.lemmas.List.Sorted.{IsPermutation-refl, IsPermutation-trans, IsPermutation-cons, IsPermutation-middle, IsPermutation-append}
use Rattle.std.proofs.lemmas.Option.{same_Some}
use Rattle.history.specs.declared.operations.Op.{Op}
use Rattle.history.specs.declared.operations.Op.TheVariants.{Enq, Deq, Shut}
use Rattle.history.specs.declared.operations.Taken.{Taken}
use Rattle.history.specs.declared.operations.Reply.{Reply}
use Rattle.history.specs.declared.operations.Reply.TheVariants.{Done, Value, Empty, Refused}
use Rattle.history.specs.declared.operations.Stamped.{Stamped}
use Rattle.waiting_orders.specs.declared.lines.Pick.{Pick}
use Rattle.waiting_orders.specs.declared.steps.Front.{Front}
use Rattle.waiting_orders.specs.declared.boards.Board.{Board}
use Rattle.waiting_orders.specs.Waiting.{IsCall, State, IsOpenAt, OtherIsOpen, Pushes, waits, is_push, is_open_at, sooner, pushes_value, fits}
use Rattle.waiting_orders.specs.Lines.{Left, IsLimit, IsRising, HasOut, ArePicks, AreOut, left_of, view_left, view_picks, picked, listed, stands, begins_past, ends_by}
use Rattle.waiting_orders.specs.Nodes.{Spot, Among, AreCalls, HasSteps, state_of, told, is_told, gets, is_calm}
use Rattle.waiting_orders.specs.Alike.{EndsBy, Got, GoesAlone}
use Rattle.waiting_orders.specs.Alone.{EndsLater, BeginsLater, MayGoAlone, IsAloneOf, IsAlone, IsAloneAt, is_of, is_empty, sooner_at, lowered_by, first_of, take_time, alone_at}
use Rattle.waiting_orders.proofs.Futures.{all_moved}
use Rattle.waiting_orders.proofs.Lists.{all_joined, both_true, or_left, or_right}
use Rattle.waiting_orders.proofs.Limits.{none_until, picked_next}
use Rattle.waiting_orders.proofs.Places.{take_next}
use Rattle.waiting_orders.proofs.Quiet.{le_max_left, le_max_right, all_where, all_any, not_waits}
use Rattle.waiting_orders.proofs.Stepping.{all_left, value_fits}
use Rattle.waiting_orders.proofs.Firsts.{pick_is, and_left, and_right}
use Rattle.waiting_orders.proofs.Alike.{goes_alone}
use Rattle.waiting_orders.proofs.Trades.{where_earlier}

-- ---- last numbers

pub ends_true : (a b : Option ℕ) → ends_by a b ≡ true → EndsBy a b
ends_true None None e = tt
ends_true None (Some b) e = absurd cc
ends_true (Some a) None e = tt
ends_true (Some a) (Some b) e = leb-true a b e

not_sooner : (a b : Bool) → a ≡ true → (a && not b) ≡ false → b ≡ true
not_sooner true true e f = refl
not_sooner true false e f = absurd cc
not_sooner false b e f = absurd cc

-- what ends no sooner than a number, if it is of a value
later_of : (v : Taken) (last : Option ℕ) (o : Stamped) → EndsLater v last o → IsCall o → is_of v o ≡ true → EndsBy last o.last
later_of v last o h c e = ends_true last o.last (not_sooner (is_of v o) (ends_by last o.last) e (h c))

told_of : (v : Taken) (o : Stamped) → o.reply ≡ Some (Value v) → is_of v o ≡ true
told_of v o e = or_left (is_told v o.reply) (pushes_value v o.actor o.op) (ap (is_told v) e ∙ both_true _ _ (eq-eqb v.from v.from refl) (eq-eqb v.body v.body refl))

pushed_of : (v : Taken) (o : Stamped) → Pushes v o → is_of v o ≡ true
pushed_of v o h = or_right (is_told v o.reply) (pushes_value v o.actor o.op) (value_fits v o h)

pub fits_pushes : (v : Taken) (p : Stamped) → pushes_value v p.actor p.op ≡ true → waits p ≡ true → Pushes v p
fits_pushes v p h w = go p.op refl h
  where
    go : (op : Op) → p.op ≡ op → pushes_value v p.actor op ≡ true → Pushes v p
    go (Enq body) e h = record {
      actor = eqb-true p.actor v.from (and_left (nat_eq p.actor v.from) (nat_eq body v.body) h);
      op = e ∙ ap Enq (eqb-true body v.body (and_right (nat_eq p.actor v.from) (nat_eq body v.body) h));
      waits = w;
    }
    go Deq e h = absurd cc
    go Shut e h = absurd cc

pub told_got : (v : Taken) (o : Stamped) → told o.op o.reply ≡ Some v → Got v o
told_got v o e = go o.op o.reply refl refl e
  where
    go : (op : Op) (reply : Option Reply) → o.op ≡ op → o.reply ≡ reply → told op reply ≡ Some v → Got v o
    go (Enq body) reply a b e = absurd cc
    go Deq None a b e = absurd cc
    go Deq (Some Done) a b e = absurd cc
    go Deq (Some (Value w)) a b e = record { op = a; reply = b ∙ ap (λ w. Some (Value w)) (same_Some w v e) }
    go Deq (Some Empty) a b e = absurd cc
    go Deq (Some (Refused refusal)) a b e = absurd cc
    go Shut reply a b e = absurd cc

same_value : (w v : Taken) → w.from ≡ v.from → w.body ≡ v.body → w ≡ v
same_value w v e f = ap (λ a. record { from = a; body = w.body }) e ∙ ap (λ b. record { from = v.from; body = b }) f

pub gets_got : (v : Taken) (o : Stamped) → gets v o.op o.reply ≡ true → Got v o
gets_got v o h = go o.op o.reply refl refl h
  where
    go : (op : Op) (reply : Option Reply) → o.op ≡ op → o.reply ≡ reply → gets v op reply ≡ true → Got v o
    go (Enq body) reply a b h = absurd cc
    go Deq None a b h = absurd cc
    go Deq (Some Done) a b h = absurd cc
    go Deq (Some (Value w)) a b h =
        let e : w ≡ v = same_value w v (eqb-true w.from v.from (and_left (nat_eq w.from v.from) (nat_eq w.body v.body) h)) (eqb-true w.body v.body (and_right (nat_eq w.from v.from) (nat_eq w.body v.body) h)) in
        record { op = a; reply = b ∙ ap (λ w. Some (Value w)) e }
    go Deq (Some Empty) a b h = absurd cc
    go Deq (Some (Refused refusal)) a b h = absurd cc
    go Shut reply a b h = absurd cc

no_reply : (o : Stamped) (reply : Reply) → ((op : Op) → is_push op (Some reply) ≡ false) → waits o ≡ true → o.reply ≡ Some reply → ⊥
no_reply o reply off w e = let on : is_push o.op (Some reply) ≡ true = subst (λ reply. is_push o.op reply ≡ true) e w in absurd (cc (sym (off o.op) ∙ on))

value_off : (v : Taken) (op : Op) → is_push op (Some (Value v)) ≡ false
value_off v (Enq body) = refl
value_off v Deq = refl
value_off v Shut = refl

empty_off : (op : Op) → is_push op (Some Empty) ≡ false
empty_off (Enq body) = refl
empty_off Deq = refl
empty_off Shut = refl

between : (n m : ℕ) (l : Option ℕ) → is_open_at n l ≡ true → is_open_at m l ≡ false → n ≤ m
between n m None e f = absurd cc
between n m (Some l) e f = let a : n ≤ l = leb-true n l e in let b : l < m = leb-false m l f in omega (arith, a, b)

begins_later : (n m : ℕ) (l : Option ℕ) → is_open_at n l ≡ true → ends_by l (Some m) ≡ true → n ≤ m
begins_later n m None e f = absurd cc
begins_later n m (Some l) e f = let a : n ≤ l = leb-true n l e in let b : l ≤ m = leb-true l m f in omega (arith, a, b)

-- ---- all that is left

pub all_by : (P : Stamped → Type 0) (xs : List Stamped) → ((o : Stamped) (rest : List Stamped) → IsPermutation xs (o ∷ rest) → P o) → AllByRecursion P xs
all_by P [] h = tt
all_by P (x ∷ xs) h =
    (h x xs (IsPermutation-refl _), all_by P xs (λ o rest is. h o (x ∷ rest) (IsPermutation-trans _ _ _ (IsPermutation-cons x xs (o ∷ rest) is) (IsPermutation-middle (x ∷ []) o rest))))

has_pick : (P : Stamped → Type 0) (ops : List Stamped) (ways : List Pick) (o : Stamped) (rest : List Stamped) → AllByRecursion (λ w. P w.operation) ways → HasOut ops (view_picks ways) o rest → P o
has_pick P ops [] o rest a h = absurd h
has_pick P ops (w ∷ ways) o rest a (inl h) = subst P h.0 a.0
has_pick P ops (w ∷ ways) o rest a (inr h) = has_pick P ops ways o rest a.1 h

pops_later : (v : Taken) (last : Option ℕ) (xs : List Stamped) → AllByRecursion (EndsLater v last) xs → AllByRecursion IsCall xs → AllByRecursion (λ o. o.reply ≡ Some (Value v) → EndsBy last o.last) xs
pops_later v last [] a c = tt
pops_later v last (x ∷ xs) a c = (λ e. later_of v last x a.0 c.0 (told_of v x e), pops_later v last xs a.1 c.1)

pushes_later : (v : Taken) (last : Option ℕ) (xs : List Stamped) → AllByRecursion (EndsLater v last) xs → AllByRecursion IsCall xs → AllByRecursion (λ o. Pushes v o → EndsBy last o.last) xs
pushes_later v last [] a c = tt
pushes_later v last (x ∷ xs) a c = (λ h. later_of v last x a.0 c.0 (pushed_of v x h), pushes_later v last xs a.1 c.1)

no_pops : (v : Taken) (last : Option ℕ) (xs : List Stamped) → AllByRecursion (λ o. waits o ≡ true) xs → AllByRecursion (λ o. o.reply ≡ Some (Value v) → EndsBy last o.last) xs
no_pops v last [] w = tt
no_pops v last (x ∷ xs) w = (λ e. absurd (no_reply x (Value v) (value_off v) w.0 e), no_pops v last xs w.1)

no_pushes : (v : Taken) (last : Option ℕ) (xs : List Stamped) → AllByRecursion (λ o. waits o ≡ false) xs → AllByRecursion (λ o. Pushes v o → EndsBy last o.last) xs
no_pushes v last [] w = tt
no_pushes v last (x ∷ xs) w = (λ h. let on = h.waits in let off = w.0 in absurd (cc (sym off ∙ on)), no_pushes v last xs w.1)

pub no_empties : (n : ℕ) (xs : List Stamped) → AllByRecursion (λ o. waits o ≡ true) xs → AllByRecursion (λ o. o.reply ≡ Some Empty → n ≤ o.first) xs
no_empties n [] w = tt
no_empties n (x ∷ xs) w = (λ e. absurd (no_reply x Empty empty_off w.0 e), no_empties n xs w.1)

begin_all : (first : Option ℕ) (ways : List Pick) → AllByRecursion (BeginsLater first) ways → AllByRecursion (λ w. w.operation.reply ≡ Some Empty → ends_by first (Some w.operation.first) ≡ true) ways
begin_all first [] h = tt
begin_all first (w ∷ ways) h = (h.0, begin_all first ways h.1)

-- whatever of those left was told that the queue is empty began at a number or later, if that is so of those that may be placed
pub empties_later : (ops : List Stamped) (left : Left) (f : Front) (ways : List Pick) → ArePicks ops left f.limit (view_picks ways) → AllByRecursion (BeginsLater f.empty) ways
    → (number : ℕ) → is_open_at number f.limit ≡ true → is_open_at number f.empty ≡ true → AllByRecursion (λ o. o.reply ≡ Some Empty → number ≤ o.first) (left_of ops left)
empties_later ops left f ways picks begin number ongoing c = all_by (λ o. o.reply ≡ Some Empty → number ≤ o.first) (left_of ops left) (λ o rest is. go o rest is (is_open_at o.first f.limit) refl)
  where
    go : (o : Stamped) (rest : List Stamped) → IsPermutation (left_of ops left) (o ∷ rest) → (b : Bool) → is_open_at o.first f.limit ≡ b → o.reply ≡ Some Empty → number ≤ o.first
    go o rest is true e empty =
        let P = λ (o : Stamped). o.reply ≡ Some Empty → ends_by f.empty (Some o.first) ≡ true in
        begins_later number o.first f.empty c (has_pick P ops ways o rest (begin_all f.empty ways begin) (picks o rest is e) empty)
    go o rest is false e empty = between number o.first f.limit ongoing e

module _ (board : Board) (s : Spot) (f : Front) (ways : List Pick) (way take : Pick) (calls : AreCalls board)
    (limit : IsLimit (left_of board.others.items s.others) f.limit)
    (picks : ArePicks board.others.items s.others f.limit (view_picks ways))
    (begin : AllByRecursion (BeginsLater f.empty) ways)
    (way_is : IsPermutation (left_of board.others.items s.others) (way.operation ∷ left_of board.others.items (view_left way.rest)))
    (take_is : IsPermutation (left_of board.pushes.items s.pushes) (take.operation ∷ left_of board.pushes.items (view_left take.rest))) where
  abbrev others : List Stamped
  others = left_of board.others.items s.others

  abbrev pushes : List Stamped
  pushes = left_of board.pushes.items s.pushes

  abbrev os : List Stamped
  os = left_of board.others.items (view_left way.rest)

  abbrev ps : List Stamped
  ps = left_of board.pushes.items (view_left take.rest)

  abbrev number : ℕ
  number = take_time s way take

  all_others : (P : Stamped → Type 0) → AllByRecursion P board.others.items → AllByRecursion P others
  all_others P h = all_left P board.others.items s.others h

  all_pushes : (P : Stamped → Type 0) → AllByRecursion P board.pushes.items → AllByRecursion P pushes
  all_pushes P h = all_left P board.pushes.items s.pushes h

  to_os : (P : Stamped → Type 0) → AllByRecursion P others → AllByRecursion P (way.operation ∷ os)
  to_os P h = all_moved P others (way.operation ∷ os) way_is h

  to_ps : (P : Stamped → Type 0) → AllByRecursion P pushes → AllByRecursion P (take.operation ∷ ps)
  to_ps P h = all_moved P pushes (take.operation ∷ ps) take_is h

  ps_wait : AllByRecursion (λ o. waits o ≡ true) (take.operation ∷ ps)
  ps_wait = to_ps (λ o. waits o ≡ true) (all_pushes (λ o. waits o ≡ true) calls.pushes)

  os_dont : AllByRecursion (λ o. waits o ≡ false) (way.operation ∷ os)
  os_dont = to_os (λ o. waits o ≡ false) (all_others (λ o. waits o ≡ false) calls.others)

  ps_calls : AllByRecursion IsCall (take.operation ∷ ps)
  ps_calls = to_ps IsCall (all_pushes IsCall calls.push_calls)

  os_calls : AllByRecursion IsCall (way.operation ∷ os)
  os_calls = to_os IsCall (all_others IsCall calls.other_calls)

  all_is : IsPermutation (others ++ pushes) (way.operation ∷ take.operation ∷ (os ++ ps))
  all_is =
      IsPermutation-trans _ _ _ (IsPermutation-append others (way.operation ∷ os) pushes (take.operation ∷ ps) way_is take_is)
      (IsPermutation-cons way.operation (os ++ (take.operation ∷ ps)) (take.operation ∷ (os ++ ps)) (IsPermutation-middle os take.operation ps))

  abbrev behind : State
  behind = record { left = os ++ ps; shut = s.shut; time = number }

  module _ (v : Taken) (got : Got v way.operation) (h : MayGoAlone v board.others.items board.pushes.items s f way take) where
    -- others that are left had not ended before the number
    still : AllByRecursion (IsOpenAt number) others
    still = limit.enough (all_others IsCall calls.other_calls) number h.ongoing

    os_open : AllByRecursion (OtherIsOpen number) (way.operation ∷ os)
    os_open = all_any (IsOpenAt number) (λ x. not (waits x)) (way.operation ∷ os) (to_os (IsOpenAt number) still)

    ps_open : (n : ℕ) → AllByRecursion (OtherIsOpen n) ps
    ps_open n = all_where (IsOpenAt n) (λ x. not (waits x)) ps (not_waits ps ps_wait.1)

    calm : is_open_at number f.empty ≡ true → AllByRecursion (λ o. o.reply ≡ Some Empty → number ≤ o.first) others
    calm c = empties_later board.others.items s.others f ways picks begin number h.ongoing c

    push_by : take.operation.first ≤ number
    push_by = le_max_right (max s.time way.operation.first) take.operation.first

    alone_at_number : (n : ℕ) → n ≤ number → AllByRecursion (λ o. o.reply ≡ Some Empty → n ≤ o.first) others → number ≤ max s.time n → GoesAlone n (state_of board s) behind
    alone_at_number n by_number calm_at within = record {
      value = v;
      pop = way.operation;
      push = take.operation;
      is = all_is;
      got = got;
      pushes = fits_pushes v take.operation h.fits ps_wait.0;
      pops_end = all_joined (λ o. o.reply ≡ Some (Value v) → EndsBy way.operation.last o.last) os ps (pops_later v way.operation.last os (to_os (EndsLater v way.operation.last) h.pops).1 os_calls.1)
          (no_pops v way.operation.last ps ps_wait.1);
      pushes_end = all_joined (λ o. Pushes v o → EndsBy take.operation.last o.last) os ps (no_pushes v take.operation.last os os_dont.1)
          (pushes_later v take.operation.last ps (to_ps (EndsLater v take.operation.last) h.pushes_end).1 ps_calls.1);
      call = ps_calls.0;
      calls = all_joined IsCall os ps os_calls.1 ps_calls.1;
      push_open = all_joined (OtherIsOpen take.operation.first) (way.operation ∷ os) ps (where_earlier take.operation.first number (λ x. not (waits x)) push_by (way.operation ∷ os) os_open) (ps_open take.operation.first);
      ongoing = all_joined (OtherIsOpen n) os ps (where_earlier n number (λ x. not (waits x)) by_number (way.operation ∷ os) os_open).1 (ps_open n);
      calm = inl (all_joined (λ o. o.reply ≡ Some Empty → n ≤ o.first) os ps (to_os (λ o. o.reply ≡ Some Empty → n ≤ o.first) calm_at).1 (no_empties n ps ps_wait.1));
      same = refl;
      time = within;
    }

    alone : (n : ℕ) × GoesAlone n (state_of board s) behind
    alone = by (nat_le number s.time) refl h.calm
      where
        by : (b : Bool) → nat_le number s.time ≡ b → (b || is_open_at number f.empty) ≡ true → (n : ℕ) × GoesAlone n (state_of board s) behind
        by true e c =
            let late : number ≤ s.time = leb-true number s.time e in
            let most : s.time ≤ max s.time 0 = le_max_left s.time 0 in
            (0, alone_at_number 0 (omega arith) (all_by (λ o. o.reply ≡ Some Empty → 0 ≤ o.first) others (λ o rest is empty. omega arith)) (omega (arith, late, most)))
        by false e c = (number, alone_at_number number (omega arith) (calm c) (le_max_right s.time number))

  goes : IsAloneOf (told way.operation.op way.operation.reply) board.others.items board.pushes.items s f way take → (n : ℕ) × GoesAlone n (state_of board s) behind
  goes h = by (told way.operation.op way.operation.reply) refl h
    where
      by : (x : Option Taken) → told way.operation.op way.operation.reply ≡ x → IsAloneOf x board.others.items board.pushes.items s f way take → (n : ℕ) × GoesAlone n (state_of board s) behind
      by None e h = absurd h
      by (Some v) e h = alone v (told_got v way.operation e) h

-- where a pop goes alone, the state behind it is enough
pub alone_steps : (board : Board) (s : Spot) (f : Front) (ways : List Pick) (way take : ℕ) (new : List Spot)
    → IsLimit (left_of board.others.items s.others) f.limit → ArePicks board.others.items s.others f.limit (view_picks ways)
    → AreOut board.others.items s.others (view_picks ways) → AreOut board.pushes.items s.pushes (view_picks f.takes.items)
    → AllByRecursion (BeginsLater f.empty) ways
    → IsAloneAt board.others.items board.pushes.items s f (slice_get ways way) (slice_get f.takes.items take)
    → new ≡ alone_at s (slice_get ways way) (slice_get f.takes.items take) → HasSteps board s new
alone_steps board s f ways way take new limit picks ways_out takes_out begin h made = go (slice_get ways way) (slice_get f.takes.items take) refl refl h made
  where
    go : (x y : Option Pick) → slice_get ways way ≡ x → slice_get f.takes.items take ≡ y → IsAloneAt board.others.items board.pushes.items s f x y → new ≡ alone_at s x y → HasSteps board s new
    go None y a b h made = absurd h
    go (Some w) None a b h made = absurd h
    go (Some w) (Some p) a b h made = λ calls n ends.
        let way_is = pick_is board.others.items s.others ways way w ways_out a in
        let take_is = pick_is board.pushes.items s.pushes f.takes.items take p takes_out b in
        let t : State = behind board s f ways w p calls limit picks begin way_is take_is in
        let g = goes board s f ways w p calls limit picks begin way_is take_is h in
        inr (
          t,
          subst (λ us. Among board us t) (sym made) (inl (record { left = IsPermutation-refl _; shut = refl; time = omega arith })),
          goes_alone n g.0 (state_of board s) t g.1 ends,
        )

-- ---- tests

pub stands_alone : (others pushes : List Stamped) (s : Spot) (f : Front) (ways : List Pick) (way take : ℕ) (w p : Pick) → slice_get ways way ≡ Some w → slice_get f.takes.items take ≡ Some p
    → IsAlone others pushes s f w p → IsAloneAt others pushes s f (slice_get ways way) (slice_get f.takes.items take)
stands_alone others pushes s f ways way take w p a b h =
    subst (λ x. IsAloneAt others pushes s f x (slice_get f.takes.items take)) (sym a) (subst (λ y. IsAloneAt others pushes s f (Some w) y) (sym b) h)

pub told_alone : (others pushes : List Stamped) (s : Spot) (f : Front) (way take : Pick) (v : Taken) → told way.operation.op way.operation.reply ≡ Some v → MayGoAlone v others pushes s f way take
    → IsAlone others pushes s f way take
told_alone others pushes s f way take v e h = subst (λ x. IsAloneOf x others pushes s f way take) (sym e) h

pub may_go_alone : (v : Taken) (others pushes : List Stamped) (s : Spot) (f : Front) (way take : Pick) → fits v take.operation ≡ true → is_open_at take.operation.first f.push_limit ≡ true
    → is_open_at (take_time s way take) f.limit ≡ true → is_calm s f (take_time s way take) ≡ true
    → AllByRecursion (EndsLater v way.operation.last) (left_of others s.others) → AllByRecursion (EndsLater v take.operation.last) (left_of pushes s.pushes) → MayGoAlone v others pushes s f way take
may_go_alone v _ _ s f way take a b c d pops ends = record { fits = a; began = b; ongoing = c; calm = d; pops = pops; pushes_end = ends }

-- ---- loops

-- all up to the next place
module _ {X : Type 0} (P : X → Type 0) where
  joined : (ys : List X) (x : Option X) → AllByRecursion P ys → IfSome x P → AllByRecursion P (ys ++ listed x)
  joined [] None h p = tt
  joined [] (Some x) h p = (p, tt)
  joined (y ∷ ys) x h p = (h.0, joined ys x h.1 p)

  all_next : (i : ℕ) (xs : List X) → AllByRecursion P (take i xs) → IfSome (slice_get xs i) P → AllByRecursion P (take (i + 1) xs)
  all_next i xs h p =
      let n : i + 1 ≡ suc i = omega arith in
      subst (AllByRecursion P) (sym (ap (λ n. take n xs) n ∙ take_next i xs)) (joined (take i xs) (slice_get xs i) h p)

some_later : (v : Taken) (last : Option ℕ) (x : Option Stamped) → sooner_at v last x ≡ false → IfSome x (EndsLater v last)
some_later v last None e = tt
some_later v last (Some o) e = λ c. e

pub later_next : (v : Taken) (last : Option ℕ) (i : ℕ) (ops : List Stamped) → sooner_at v last (slice_get ops i) ≡ false → AllByRecursion (EndsLater v last) (take i ops) → AllByRecursion (EndsLater v last) (take (i + 1) ops)
later_next v last i ops e h = all_next (EndsLater v last) i ops h (some_later v last (slice_get ops i) e)

pub kept_next : (v : Taken) (last : Option ℕ) (i : ℕ) (ops : List Stamped) (kept : List ℕ) → sooner_at v last (stands ops (slice_get kept i)) ≡ false → AllByRecursion (EndsLater v last) (picked ops (take i kept))
    → AllByRecursion (EndsLater v last) (picked ops (take (i + 1) kept))
kept_next v last i ops kept e h =
    let n : i + 1 ≡ suc i = omega arith in
    subst (AllByRecursion (EndsLater v last)) (sym (ap (λ n. picked ops (take n kept)) n ∙ picked_next ops i kept))
    (joined (EndsLater v last) (picked ops (take i kept)) (stands ops (slice_get kept i)) h (some_later v last (stands ops (slice_get kept i)) e))

-- what begins behind a number ends behind it
past_later : (v : Taken) (last : Option ℕ) (ys : List Stamped) → AllByRecursion (λ x. is_open_at x.first last ≡ false) ys → AllByRecursion (EndsLater v last) ys
past_later v last [] h = tt
past_later v last (y ∷ ys) h = (λ c. off (is_of v y) (ends_by last y.last) (ends last y.last h.0 c.spans), past_later v last ys h.1)
  where
    off : (a b : Bool) → b ≡ true → (a && not b) ≡ false
    off true true e = refl
    off true false e = absurd cc
    off false b e = refl

    ends : (last later : Option ℕ) → is_open_at y.first last ≡ false → IfSome later (λ later. y.first ≤ later) → ends_by last later ≡ true
    ends None later e h = absurd cc
    ends (Some last) None e h = refl
    ends (Some last) (Some later) e h = let a : last < y.first = leb-false y.first last e in let b : y.first ≤ later = h in le-leb last later (omega (arith, a, b))

pub past_all : (v : Taken) (last : Option ℕ) (i : ℕ) (ops : List Stamped) → IsRising ops → begins_past last (slice_get ops i) ≡ true → AllByRecursion (EndsLater v last) (take i ops) → AllByRecursion (EndsLater v last) ops
past_all v last i ops rising e h =
    subst (AllByRecursion (EndsLater v last)) (take-append-drop i ops) (all_joined (EndsLater v last) (take i ops) (drop i ops) h (past_later v last (drop i ops) (none_until i ops last rising e)))

-- the least first number of those told that the queue is empty
sooner_first : (a b : Option ℕ) (n : ℕ) → ends_by a (Some n) ≡ true → ends_by (sooner a b) (Some n) ≡ true
sooner_first None b n e = absurd cc
sooner_first (Some a) None n e = e
sooner_first (Some a) (Some b) n e = go (nat_le a b) refl
  where
    go : (c : Bool) → nat_le a b ≡ c → ends_by (cond c (Some a) (Some b)) (Some n) ≡ true
    go true f = e
    go false f = let l : b < a = leb-false a b f in let m : a ≤ n = leb-true a n e in le-leb b n (omega (arith, l, m))

sooner_second : (a : Option ℕ) (n : ℕ) → ends_by (sooner a (Some n)) (Some n) ≡ true
sooner_second None n = le-leb n n (omega arith)
sooner_second (Some a) n = go (nat_le a n) refl
  where
    go : (c : Bool) → nat_le a n ≡ c → ends_by (cond c (Some a) (Some n)) (Some n) ≡ true
    go true f = f
    go false f = le-leb n n (omega arith)

empty_reply : (reply : Option Reply) → reply ≡ Some Empty → is_empty reply ≡ true
empty_reply reply e = ap is_empty e

pub first_next : (first : Option ℕ) (i : ℕ) (ways : List Pick) → AllByRecursion (BeginsLater first) (take i ways) → AllByRecursion (BeginsLater (first_of first (slice_get ways i))) (take (i + 1) ways)
first_next first i ways h = all_next (BeginsLater (first_of first (slice_get ways i))) i ways (lower (slice_get ways i) (take i ways) h) (last (slice_get ways i))
  where
    lower_one : (x : Option Pick) (n : ℕ) → ends_by first (Some n) ≡ true → ends_by (first_of first x) (Some n) ≡ true
    lower_one None n e = e
    lower_one (Some way) n e = by (is_empty way.operation.reply)
      where
        by : (b : Bool) → ends_by (lowered_by b way.operation.first first) (Some n) ≡ true
        by true = sooner_first first (Some way.operation.first) n e
        by false = e

    lower : (x : Option Pick) (ws : List Pick) → AllByRecursion (BeginsLater first) ws → AllByRecursion (BeginsLater (first_of first x)) ws
    lower x [] h = tt
    lower x (w ∷ ws) h = (λ e. lower_one x w.operation.first (h.0 e), lower x ws h.1)

    last : (x : Option Pick) → IfSome x (BeginsLater (first_of first x))
    last None = tt
    last (Some way) = λ e. by (is_empty way.operation.reply) (empty_reply way.operation.reply e)
      where
        by : (b : Bool) → b ≡ true → ends_by (lowered_by b way.operation.first first) (Some way.operation.first) ≡ true
        by true e = sooner_second first way.operation.first
        by false e = absurd cc
