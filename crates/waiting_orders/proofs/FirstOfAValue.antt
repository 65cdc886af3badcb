-- Of the pushes of a value that a pop may take, and of the pops that were told it, it is enough to try the one that ends first.
use Rattle.std.proofs.Common.{◌≡◌, ℕ, zero, suc, max, nat_lt, nat_le, ◌≤◌, ◌<◌, Bool, true, false, not, ◌&&◌, ◌||◌, ◌⊎◌, inl, inr, List, [], ◌∷◌, ◌++◌, Option, None, Some, length, slice_get, refl, sym, ap, ◌∙◌, subst, arith}
use Rattle.std.specs.List.{AllByRecursion, list_all}
use Rattle.std.specs.List.Sorted.{IsPermutation}
use Rattle.std.proofs.lemmas.Bool.{leb-true, ltb-true, ltb-false}
use Rattle.std.proofs.lemmas.Option.{same_Some}
use Rattle.std.proofs.lemmas.List.Sorted.{IsPermutation-refl, IsPermutation-sym, IsPermutation-trans, IsPermutation-cons, IsPermutation-middle, IsPermutation-append, IsPermutation-append_right}
use Rattle.history.specs.declared.operations.Op.TheVariants.{Deq}
use Rattle.history.specs.declared.operations.Taken.{Taken}
use Rattle.history.specs.declared.operations.Reply.TheVariants.{Value, Empty}
use Rattle.history.specs.declared.operations.Stamped.{Stamped}
use Rattle.waiting_orders.specs.declared.lines.Pick.{Pick}
use Rattle.waiting_orders.specs.declared.steps.Front.{Front}
use Rattle.waiting_orders.specs.declared.boards.Board.{Board}
use Rattle.waiting_orders.specs.Waiting.{IsCall, State, Step, CanEnd, HasEffect, Takes, Pushes, IsOpenAt, OtherIsOpen, PushIsOpen, waits, is_push, is_open_at, fits}
use Rattle.waiting_orders.specs.Pending.{is_pending_pop}
use Rattle.waiting_orders.specs.Alike.{Got, HasSoonerPush, HasSoonerPop}
use Rattle.waiting_orders.specs.Alone.{BeginsLater}
use Rattle.waiting_orders.specs.Lines.{IsLimit, ArePicks, AreOut, left_of, view_left, view_picks, without}
use Rattle.waiting_orders.specs.Nodes.{Spot, Among, AreCalls, OneEnds, state_of, is_before, may_be_taken, suits, told, gets, is_calm, may_get, goes_by, is_in_turn, steps_to}
use Rattle.waiting_orders.proofs.EndsFirst.{First, is_past, first_of, all_untried, ends_before, flip, not_before_ends}
use Rattle.waiting_orders.proofs.Futures.{all_moved}
use Rattle.waiting_orders.proofs.Lists.{all_joined, both_true, where_any, where_not}
use Rattle.waiting_orders.proofs.Limits.{all_first, all_second, open_before}
use Rattle.waiting_orders.proofs.Quiet.{le_max_left, le_max_right, all_any, all_where, not_waits, out_of_two}
use Rattle.waiting_orders.proofs.Picks.{found_pick, passes_at}
use Rattle.waiting_orders.proofs.Firsts.{pick_is}
use Rattle.waiting_orders.proofs.Trades.{where_earlier}
use Rattle.waiting_orders.proofs.Alike.{alike_pushes, alike_pops}
use Rattle.waiting_orders.proofs.GoingAlone.{all_by, empties_later, ends_true, fits_pushes, gets_got, no_empties, told_got}
use Rattle.waiting_orders.proofs.Stepping.{all_left, each_step, each_told, max_least, push_out, value_fits, where_off, where_on}

module _ (board : Board) (s : Spot) (f : Front) (ways : List Pick)
    (limit : IsLimit (left_of board.others.items s.others) f.limit)
    (push_limit : IsLimit (left_of board.pushes.items s.pushes) f.push_limit)
    (ways_are : ArePicks board.others.items s.others f.limit (view_picks ways))
    (takes_are : ArePicks board.pushes.items s.pushes f.push_limit (view_picks f.takes.items))
    (takes_out : AreOut board.pushes.items s.pushes (view_picks f.takes.items))
    (ways_out : AreOut board.others.items s.others (view_picks ways))
    (begin : AllByRecursion (BeginsLater f.empty) ways)
    (calls : AreCalls board) where
  abbrev os : List Stamped
  os = left_of board.others.items s.others

  abbrev ps : List Stamped
  ps = left_of board.pushes.items s.pushes

  abbrev here : State
  here = state_of board s

  abbrev is_taken : Taken → Pick → Bool
  is_taken v take = may_be_taken f v take.operation

  abbrev made : List Spot
  made = steps_to (length ways) board.pushes.items s f ways

  os_wait : AllByRecursion (λ o. waits o ≡ false) os
  os_wait = all_left (λ o. waits o ≡ false) board.others.items s.others calls.others

  ps_wait : AllByRecursion (λ o. waits o ≡ true) ps
  ps_wait = all_left (λ o. waits o ≡ true) board.pushes.items s.pushes calls.pushes

  os_calls : AllByRecursion IsCall os
  os_calls = all_left IsCall board.others.items s.others calls.other_calls

  ps_calls : AllByRecursion IsCall ps
  ps_calls = all_left IsCall board.pushes.items s.pushes calls.push_calls

  here_calls : AllByRecursion IsCall here.left
  here_calls = all_joined IsCall os ps os_calls ps_calls

  others_open : (time : ℕ) (xs : List Stamped) → AllByRecursion (λ o. waits o ≡ false) xs → AllByRecursion (OtherIsOpen time) xs → AllByRecursion (IsOpenAt time) xs
  others_open time [] w h = tt
  others_open time (x ∷ xs) w h = (where_off (waits x) (IsOpenAt time x) w.0 h.0, others_open time xs w.1 h.1)

  pushes_open : (time : ℕ) (xs : List Stamped) → AllByRecursion (λ o. waits o ≡ true) xs → AllByRecursion (PushIsOpen time) xs → AllByRecursion (IsOpenAt time) xs
  pushes_open time [] w h = tt
  pushes_open time (x ∷ xs) w h = (where_on (waits x) (IsOpenAt time x) w.0 h.0, pushes_open time xs w.1 h.1)

  -- others had not ended before a number by the limit of the others
  here_open : (time : ℕ) → is_open_at time f.limit ≡ true → AllByRecursion (OtherIsOpen time) here.left
  here_open time e =
      all_joined (OtherIsOpen time) os ps (all_any (IsOpenAt time) (λ x. not (waits x)) os (limit.enough os_calls time e))
      (all_where (IsOpenAt time) (λ x. not (waits x)) ps (not_waits ps ps_wait))

  here_pushes : (time : ℕ) → is_open_at time f.push_limit ≡ true → AllByRecursion (PushIsOpen time) here.left
  here_pushes time e = all_joined (PushIsOpen time) os ps (all_where (IsOpenAt time) waits os os_wait) (all_any (IsOpenAt time) waits ps (push_limit.enough ps_calls time e))

  open_to : (time : ℕ) → AllByRecursion (OtherIsOpen time) here.left → is_open_at time f.limit ≡ true
  open_to time h = limit.needed time (others_open time os os_wait (all_first (OtherIsOpen time) os ps h))

  later_open : (t p : ℕ) → is_open_at t f.limit ≡ true → is_open_at p f.limit ≡ true → is_open_at (max t p) f.limit ≡ true
  later_open t p a b = go (nat_lt t p) refl
    where
      go : (e : Bool) → nat_lt t p ≡ e → is_open_at (max t p) f.limit ≡ true
      go true e = let l : t < p = ltb-true t p e in open_before (max t p) p f.limit (max_least t p p (omega (arith, l)) (omega arith)) b
      go false e = let l : p ≤ t = ltb-false t p e in open_before (max t p) t f.limit (max_least t p t (omega arith) l) a

  parts : (a b c : Bool) → (a && b && c) ≡ true → (a ≡ true) × (b ≡ true) × (c ≡ true)
  parts true true true h = (refl, refl, refl)
  parts true true false h = absurd cc
  parts true false c h = absurd cc
  parts false b c h = absurd cc

  -- ---- the push that ends first

  module _ (n : ℕ) (v : Taken) (o : Stamped) (t : State) (op : o.op ≡ Deq) (reply : o.reply ≡ Some (Value v)) (since : s.time ≤ t.time) (began : o.first ≤ t.time)
      (ongoing : AllByRecursion (OtherIsOpen t.time) here.left) (turn : is_in_turn s f ways o ≡ true) (h : Takes v o here t) (ends : CanEnd n t) where
    abbrev q : Stamped
    q = h.push

    no : waits o ≡ false
    no = subst (λ op. is_push op o.reply ≡ false) (sym op) refl

    open_by : (time : ℕ) → time ≤ t.time → is_open_at time f.limit ≡ true
    open_by time l = open_before time t.time f.limit l (open_to t.time ongoing)

    behind_calls : AllByRecursion IsCall (o ∷ q ∷ t.left)
    behind_calls = all_moved IsCall here.left (o ∷ q ∷ t.left) h.is here_calls

    -- all pushes had not ended before the one began that is taken
    all_open : AllByRecursion (IsOpenAt q.first) ps
    all_open =
        let all : AllByRecursion (PushIsOpen q.first) (o ∷ q ∷ t.left) = (where_not (waits o) (IsOpenAt q.first o) no, (where_any (waits q) (IsOpenAt q.first q) behind_calls.1.0.spans, h.first)) in
        pushes_open q.first ps ps_wait (all_second (PushIsOpen q.first) os ps (all_moved (PushIsOpen q.first) (o ∷ q ∷ t.left) here.left (IsPermutation-sym _ _ h.is) all))

    may : may_be_taken f v q ≡ true
    may = both_true _ _ (both_true _ _ (value_fits v q h.pushes) (push_limit.needed q.first all_open)) (open_by q.first h.began)

    -- where it stands among those that may be taken
    found : (k : ℕ) × (pick : Pick) × (slice_get f.takes.items k ≡ Some pick) × (pick.operation ≡ q)
    found =
        let out = push_out os ps q (o ∷ t.left) os_wait h.pushes.waits (IsPermutation-trans _ _ _ h.is (IsPermutation-middle (o ∷ []) q t.left)) in
        let k = found_pick board.pushes.items f.takes.items q out.0 (takes_are q out.0 out.1 (push_limit.needed q.first all_open)) in
        (k.0, k.1, k.2, k.3)

    at_first : First (is_taken v) f.takes.items → OneEnds board n made
    at_first m = go (out_of_two (o ∷ q ∷ []) t.left p (os ++ rest) (IsPermutation-trans _ _ _ (IsPermutation-sym _ _ h.is) out))
      where
        p : Stamped
        p = m.pick.operation

        rest : List Stamped
        rest = left_of board.pushes.items (view_left m.pick.rest)

        p_out : IsPermutation ps (p ∷ rest)
        p_out = pick_is board.pushes.items s.pushes f.takes.items m.place m.pick takes_out m.there

        out : IsPermutation here.left (p ∷ (os ++ rest))
        out = IsPermutation-trans _ _ _ (IsPermutation-append_right os ps (p ∷ rest) p_out) (IsPermutation-middle os p rest)

        p_waits : waits p ≡ true
        p_waits = (all_moved (λ o. waits o ≡ true) ps (p ∷ rest) p_out ps_wait).0

        p_call : IsCall p
        p_call = (all_moved IsCall ps (p ∷ rest) p_out ps_calls).0

        may_p : (fits v p ≡ true) × (is_open_at p.first f.push_limit ≡ true) × (is_open_at p.first f.limit ≡ true)
        may_p = parts (fits v p) (is_open_at p.first f.push_limit) (is_open_at p.first f.limit) m.may

        p_pushes : Pushes v p
        p_pushes = fits_pushes v p may_p.0 p_waits

        suits_p : suits f (Some v) p ≡ true
        suits_p = both_true _ _ may_p.0 m.none

        -- the push that is taken ends no sooner
        past : is_before q p ≡ false
        past =
            let here_past : is_past (is_taken v) p found.1 ≡ true = passes_at (is_past (is_taken v) p) f.takes.items found.0 found.1 found.2 m.none in
            let q_past : not (may_be_taken f v q && is_before q p) ≡ true = subst (λ q. not (may_be_taken f v q && is_before q p) ≡ true) found.3 here_past in
            off (may_be_taken f v q) may (is_before q p) q_past
          where
            off : (a : Bool) → a ≡ true → (b : Bool) → not (a && b) ≡ true → b ≡ false
            off true e true h = absurd cc
            off true e false h = refl
            off false e b h = absurd cc

        both_ways : (u : State) → s.time ≤ u.time → o.first ≤ u.time → AllByRecursion (OtherIsOpen u.time) here.left → (k : Takes v o here u) → suits f (Some v) k.push ≡ true → Among board made u
        both_ways u a b c k fit = each_told board s f ways limit push_limit ways_are takes_are calls v o u a b c op reply turn k fit

        same : q ≡ p → OneEnds board n made
        same e = (t, both_ways t since began ongoing h (subst (λ q. suits f (Some v) q ≡ true) (sym e) suits_p), ends)

        other : (ms : List Stamped) → IsPermutation t.left (p ∷ ms) → OneEnds board n made
        other ms is = (u, both_ways u (omega (arith, since, most)) (omega (arith, began, most)) (here_open u.time u_open) taken fits_it, alike_pushes n p.first t u differ ends)
          where
            u : State
            u = record { left = q ∷ ms; shut = t.shut; time = max t.time p.first }

            most : t.time ≤ max t.time p.first
            most = le_max_left t.time p.first

            u_open : is_open_at u.time f.limit ≡ true
            u_open = later_open t.time p.first (open_by t.time (omega arith)) may_p.2

            all_is : IsPermutation here.left (o ∷ q ∷ p ∷ ms)
            all_is = IsPermutation-trans _ _ _ h.is (IsPermutation-cons o _ _ (IsPermutation-cons q _ _ is))

            swapped : IsPermutation here.left (o ∷ p ∷ q ∷ ms)
            swapped = IsPermutation-trans _ _ _ all_is (IsPermutation-cons o _ _ (IsPermutation-middle (q ∷ []) p ms))

            p_open : AllByRecursion (PushIsOpen p.first) (o ∷ p ∷ q ∷ ms)
            p_open = all_moved (PushIsOpen p.first) here.left (o ∷ p ∷ q ∷ ms) swapped (here_pushes p.first may_p.1)

            p_others : AllByRecursion (OtherIsOpen p.first) (o ∷ p ∷ q ∷ ms)
            p_others = all_moved (OtherIsOpen p.first) here.left (o ∷ p ∷ q ∷ ms) swapped (here_open p.first may_p.2)

            q_others : AllByRecursion (OtherIsOpen q.first) (o ∷ p ∷ q ∷ ms)
            q_others = all_moved (OtherIsOpen q.first) here.left (o ∷ p ∷ q ∷ ms) swapped (here_open q.first (open_by q.first h.began))

            taken : Takes v o here u
            taken = record { push = p; is = swapped; pushes = p_pushes; began = le_max_right t.time p.first; first = p_open.1.1; same = h.same }

            fits_it : suits f (Some v) p ≡ true
            fits_it = suits_p

            differ : HasSoonerPush p.first t u
            differ = record {
              value = v;
              sooner = p;
              later = q;
              rest = ms;
              here = is;
              there = IsPermutation-refl _;
              sooner_pushes = p_pushes;
              later_pushes = h.pushes;
              ends = ends_true p.last q.last (not_before_ends q p past);
              sooner_call = p_call;
              calls = (all_moved IsCall here.left (o ∷ p ∷ q ∷ ms) swapped here_calls).1.1;
              first = (all_moved (PushIsOpen q.first) t.left (p ∷ ms) is h.first).1;
              later_open = q_others.1.1.1;
              sooner_open = p_others.1.1.1;
              ongoing = p_others.1.1.1;
              calm = inr p_open.1.1;
              began = h.began;
              same = refl;
              time = omega arith;
            }

        go : ((k : ℕ) × (slice_get (o ∷ q ∷ []) k ≡ Some p) × IsPermutation (os ++ rest) (without k (o ∷ q ∷ []) ++ t.left)) ⊎ ((ms : List Stamped) × IsPermutation t.left (p ∷ ms) × IsPermutation (os ++ rest) (o ∷ q ∷ ms))
            → OneEnds board n made
        go (inl k) = at k.0 k.1
          where
            at : (k : ℕ) → slice_get (o ∷ q ∷ []) k ≡ Some p → OneEnds board n made
            at zero e = let g = same_Some o p e in absurd (cc (sym no ∙ ap waits g ∙ p_waits))
            at (suc zero) e = same (same_Some q p e)
            at (suc (suc k)) e = absurd cc
        go (inr k) = other k.0 k.1

    told_goes : OneEnds board n made
    told_goes = go (first_of (is_taken v) f.takes.items)
      where
        go : (list_all (λ x. not (may_be_taken f v x.operation)) f.takes.items ≡ true) ⊎ First (is_taken v) f.takes.items → OneEnds board n made
        go (inl none) =
            let here_none : not (may_be_taken f v found.1.operation) ≡ true = passes_at (λ x. not (may_be_taken f v x.operation)) f.takes.items found.0 found.1 found.2 none in
            let off : may_be_taken f v q ≡ false = flip (may_be_taken f v q) (subst (λ q. not (may_be_taken f v q) ≡ true) found.3 here_none) in
            absurd (cc (sym off ∙ may))
        go (inr m) = at_first m

  -- ---- the pop that ends first

  abbrev gets_it : Taken → Pick → Bool
  gets_it v way = may_get s f v way.operation

  module _ (n : ℕ) (v : Taken) (o : Stamped) (t : State) (op : o.op ≡ Deq) (reply : o.reply ≡ Some (Value v)) (since : s.time ≤ t.time) (began : o.first ≤ t.time)
      (ongoing : AllByRecursion (OtherIsOpen t.time) here.left) (h : Takes v o here t) (ends : CanEnd n t) where
    turn_of : (x : Stamped) → x.op ≡ Deq → x.reply ≡ Some (Value v) → list_all (is_past (gets_it v) x) ways ≡ true → is_in_turn s f ways x ≡ true
    turn_of x op reply e =
        let tells : told x.op x.reply ≡ Some v = subst (λ op. told op x.reply ≡ Some v) (sym op) (ap (told Deq) reply) in
        subst (λ w. goes_by w s f ways x ≡ true) (sym tells) e

    in_place : (m : First (gets_it v) ways) → list_all (is_past (gets_it v) o) ways ≡ false → OneEnds board n made
    in_place m beaten = go (out_of_two (o ∷ q ∷ []) t.left p (rest ++ ps) (IsPermutation-trans _ _ _ (IsPermutation-sym _ _ h.is) out))
      where
        q : Stamped
        q = h.push

        p : Stamped
        p = m.pick.operation

        rest : List Stamped
        rest = left_of board.others.items (view_left m.pick.rest)

        p_out : IsPermutation os (p ∷ rest)
        p_out = pick_is board.others.items s.others ways m.place m.pick ways_out m.there

        out : IsPermutation here.left (p ∷ (rest ++ ps))
        out = IsPermutation-append os (p ∷ rest) ps ps p_out (IsPermutation-refl _)

        p_not : waits p ≡ false
        p_not = (all_moved (λ o. waits o ≡ false) os (p ∷ rest) p_out os_wait).0

        may_p : (gets v p.op p.reply ≡ true) × (is_open_at p.first f.limit ≡ true) × (is_calm s f p.first ≡ true)
        may_p = parts (gets v p.op p.reply) (is_open_at p.first f.limit) (is_calm s f p.first) m.may

        got_p : Got v p
        got_p = gets_got v p may_p.0

        other : (ms : List Stamped) → IsPermutation t.left (p ∷ ms) → OneEnds board n made
        other ms is =
            told_goes n v p u got_p.op got_p.reply (omega (arith, since, most)) (le_max_right t.time p.first) (here_open u.time u_open) (turn_of p got_p.op got_p.reply m.none) taken
            (alike_pops n differ.0 t u differ.1 ends)
          where
            u : State
            u = record { left = o ∷ ms; shut = t.shut; time = max t.time p.first }

            most : t.time ≤ max t.time p.first
            most = le_max_left t.time p.first

            u_open : is_open_at u.time f.limit ≡ true
            u_open = later_open t.time p.first (open_to t.time ongoing) may_p.1

            swapped : IsPermutation here.left (p ∷ q ∷ o ∷ ms)
            swapped =
                IsPermutation-trans _ _ _ h.is
                (IsPermutation-trans _ _ _ (IsPermutation-cons o _ _ (IsPermutation-cons q _ _ is))
                (IsPermutation-trans _ _ _ (IsPermutation-middle (o ∷ q ∷ []) p ms) (IsPermutation-cons p _ _ (IsPermutation-middle (o ∷ []) q ms))))

            o_not : waits o ≡ false
            o_not = subst (λ op. is_push op o.reply ≡ false) (sym op) refl

            taken : Takes v p here u
            taken = record {
              push = q;
              is = swapped;
              pushes = h.pushes;
              began = (let early : q.first ≤ t.time = h.began in omega (arith, early, most));
              first = (where_not (waits o) (IsOpenAt q.first o) o_not, (all_moved (PushIsOpen q.first) t.left (p ∷ ms) is h.first).1);
              same = h.same;
            }

            at_number : (number : ℕ) → number ≤ p.first → max t.time p.first ≤ max t.time number → AllByRecursion (λ o. o.reply ≡ Some Empty → number ≤ o.first) os → HasSoonerPop number t u
            at_number number by within none = record {
              value = v;
              sooner = p;
              later = o;
              rest = ms;
              here = is;
              there = IsPermutation-refl _;
              sooner_got = got_p;
              later_may_get = record { op = op; reply = inl reply };
              ends = ends_true p.last o.last (ends_before (gets_it v) p o ways m.none beaten);
              calls = (all_moved IsCall here.left (p ∷ q ∷ o ∷ ms) swapped here_calls).1.1;
              ongoing = (all_moved (OtherIsOpen number) here.left (p ∷ q ∷ o ∷ ms) swapped (where_earlier number p.first (λ x. not (waits x)) by here.left (here_open p.first may_p.1))).1.1;
              calm = inl (all_moved (λ o. o.reply ≡ Some Empty → number ≤ o.first) here.left (p ∷ q ∷ o ∷ ms) swapped
                  (all_joined (λ o. o.reply ≡ Some Empty → number ≤ o.first) os ps none (no_empties number ps ps_wait))).1.1;
              began = began;
              same = refl;
              time = within;
            }

            differ : (number : ℕ) × HasSoonerPop number t u
            differ = by (nat_le p.first s.time) refl may_p.2
              where
                by : (b : Bool) → nat_le p.first s.time ≡ b → (b || is_open_at p.first f.empty) ≡ true → (number : ℕ) × HasSoonerPop number t u
                by true e c =
                    let early : p.first ≤ s.time = leb-true p.first s.time e in
                    let low : t.time ≤ max t.time 0 = le_max_left t.time 0 in (
                      0,
                      at_number 0 (omega arith) (max_least t.time p.first (max t.time 0) low (omega (arith, early, since, low)))
                          (all_by (λ o. o.reply ≡ Some Empty → 0 ≤ o.first) os (λ o rest is empty. omega arith)),
                    )
                by false e c =
                    (p.first, at_number p.first (omega arith) (omega arith) (empties_later board.others.items s.others f ways ways_are begin p.first may_p.1 c))

        go : ((k : ℕ) × (slice_get (o ∷ q ∷ []) k ≡ Some p) × IsPermutation (rest ++ ps) (without k (o ∷ q ∷ []) ++ t.left)) ⊎ ((ms : List Stamped) × IsPermutation t.left (p ∷ ms) × IsPermutation (rest ++ ps) (o ∷ q ∷ ms))
            → OneEnds board n made
        go (inl k) = at k.0 k.1
          where
            at : (k : ℕ) → slice_get (o ∷ q ∷ []) k ≡ Some p → OneEnds board n made
            at zero e = absurd (cc (sym beaten ∙ subst (λ x. list_all (is_past (gets_it v) x) ways ≡ true) (sym (same_Some o p e)) m.none))
            at (suc zero) e = absurd (cc (sym p_not ∙ ap waits (sym (same_Some q p e)) ∙ h.pushes.waits))
            at (suc (suc k)) e = absurd cc
        go (inr k) = other k.0 k.1

    pop_goes : OneEnds board n made
    pop_goes = go (list_all (is_past (gets_it v) o) ways) refl (first_of (gets_it v) ways)
      where
        go : (b : Bool) → list_all (is_past (gets_it v) o) ways ≡ b → (list_all (λ x. not (gets_it v x)) ways ≡ true) ⊎ First (gets_it v) ways → OneEnds board n made
        go true e k = told_goes n v o t op reply since began ongoing (turn_of o op reply e) h ends
        go false e (inl none) = absurd (cc (sym e ∙ all_untried (gets_it v) o ways none))
        go false e (inr m) = in_place m e

  -- where a step of an operation that is no pending pop leads to a state that can be placed to the end, one of those that are made can be
  pub first_goes : (n : ℕ) (t : State) (x : Step here t) → is_pending_pop x.operation.op x.operation.reply ≡ false → CanEnd n t → OneEnds board n made
  first_goes n t x none c = by (told x.operation.op x.operation.reply) refl
    where
      by : (w : Option Taken) → told x.operation.op x.operation.reply ≡ w → OneEnds board n made
      by None e = (t, each_step board s f ways limit push_limit ways_are takes_are calls t x none e, c)
      by (Some v) e =
          let o = x.operation in
          let got = told_got v o e in
          let h : Takes v o here t =
          subst (λ reply. HasEffect Deq reply o here t) got.reply (subst (λ op. HasEffect op o.reply o here t) got.op x.effect) in
          pop_goes n v o t got.op got.reply x.since x.began x.ongoing h c
