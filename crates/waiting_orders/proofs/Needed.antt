-- Where a state can be placed to the end, a step of an operation that is no pending pop leads there, or a push that ended is in the
-- way of a pop, and the pending pop that began first takes its value.
use Rattle.std.proofs.Common.{◌≡◌, ℕ, zero, suc, nat_le, nat_lt, ◌≤◌, ◌<◌, Bool, true, false, not, ◌&&◌, ◌||◌, ◌⊎◌, inl, inr, List, [], ◌∷◌, ◌++◌, Option, None, Some, IfSome, is_some, length, slice_get, refl, sym, ap, ◌∙◌, subst, arith}
use Rattle.std.specs.List.{AllByRecursion}
use Rattle.std.specs.List.Sorted.{IsPermutation}
use Rattle.std.proofs.lemmas.Bool.{leb-true, leb-false, le-leb, ltb-true, ltb-false}
use Rattle.std.proofs.lemmas.Option.{slice_get_within, same_Some}
use Rattle.std.proofs.lemmas.List.Sorted.{IsPermutation-refl, IsPermutation-sym, IsPermutation-trans, IsPermutation-cons, IsPermutation-middle, IsPermutation-append_left, IsPermutation-append_right}
use Rattle.history.specs.declared.operations.Op.{Op}
use Rattle.history.specs.declared.operations.Op.TheVariants.{Enq, Deq, Shut}
use Rattle.history.specs.declared.operations.Reply.{Reply}
use Rattle.history.specs.declared.operations.Reply.TheVariants.{Done, Value, Empty, Refused}
use Rattle.history.specs.declared.operations.Stamped.{Stamped}
use Rattle.history.specs.History.{is_closed}
use Rattle.waiting_orders.specs.declared.lines.Pick.{Pick}
use Rattle.waiting_orders.specs.declared.steps.Front.{Front}
use Rattle.waiting_orders.specs.declared.boards.Board.{Board}
use Rattle.waiting_orders.specs.Waiting.{IsCall, State, Step, IsEnd, CanEnd, Where, IsOpenAt, OtherIsOpen, waits, is_push, is_open_at, fits}
use Rattle.waiting_orders.specs.Alone.{BeginsLater}
use Rattle.waiting_orders.specs.Lines.{IsLimit, ArePicks, AreOut, left_of, view_left, view_picks, without}
use Rattle.waiting_orders.specs.Nodes.{Spot, Among, AreCalls, HasSteps, OneEnds, state_of, is_by, suits, steps_to, is_pending, none_pending, is_behind, is_free, all_free, goes_first, takes_where, pending_at, pending_to, pending_where, pending_of}
use Rattle.waiting_orders.specs.Pending.{is_pending_pop, is_untold, EndedBefore, EndsBy, Pops, IsLeftIn, IsInTheWay, Hinders, StepOfOther, MakesWay, IsFirstToEnd, EndsLazily}
use Rattle.waiting_orders.proofs.Futures.{all_moved}
use Rattle.waiting_orders.proofs.Lists.{all_joined, both_true, or_left, or_right, where_any, where_not}
use Rattle.waiting_orders.proofs.Limits.{all_first, open_before}
use Rattle.waiting_orders.proofs.Quiet.{out_of_two}
use Rattle.waiting_orders.proofs.Picks.{found_pick, fails_at, passes_at}
use Rattle.waiting_orders.proofs.Firsts.{pick_is}
use Rattle.waiting_orders.proofs.PendingPops.{deq_waits, in_turn, popped_of, waits_until_needed}
use Rattle.waiting_orders.proofs.FirstOfAValue.{first_goes}
use Rattle.waiting_orders.proofs.Stepping.{TakenBy, all_left, among_left, among_right, each_take, other_out, push_out, value_fits, where_off}

-- a pending pop before which none began
record Least (ways : List Pick) : Type 0 where
  place : ℕ
  pick : Pick
  there : slice_get ways place ≡ Some pick
  pending : is_pending pick ≡ true
  before : goes_first pick.operation.first ways ≡ true

none_before : (first next : ℕ) → next ≤ first → (ways : List Pick) → goes_first first ways ≡ true → goes_first next ways ≡ true
none_before first next l [] h = refl
none_before first next l (w ∷ ways) h = go (is_pending w) (nat_le first w.operation.first) refl h (none_before first next l ways)
  where
    later : nat_le first w.operation.first ≡ true → nat_le next w.operation.first ≡ true
    later e = let k : first ≤ w.operation.first = leb-true first w.operation.first e in le-leb next w.operation.first (omega (arith, l, k))

    go : (a b : Bool) → nat_le first w.operation.first ≡ b → ((not a || b) && goes_first first ways) ≡ true → (goes_first first ways ≡ true → goes_first next ways ≡ true)
        → ((not a || nat_le next w.operation.first) && goes_first next ways) ≡ true
    go true true e h more = both_true _ _ (later e) (more h)
    go true false e h more = absurd cc
    go false b e h more = more h

none_first : (first : ℕ) (ways : List Pick) → none_pending ways ≡ true → goes_first first ways ≡ true
none_first first [] h = refl
none_first first (w ∷ ways) h = go (is_pending w) h (none_first first ways)
  where
    go : (a : Bool) → (not a && none_pending ways) ≡ true → (none_pending ways ≡ true → goes_first first ways ≡ true) → ((not a || nat_le first w.operation.first) && goes_first first ways) ≡ true
    go true h more = absurd cc
    go false h more = more h

least : (ways : List Pick) → (none_pending ways ≡ true) ⊎ Least ways
least [] = inl refl
least (w ∷ ways) = go (is_pending w) refl (least ways)
  where
    itself : is_pending w ≡ true → goes_first w.operation.first ways ≡ true → Least (w ∷ ways)
    itself e h = record {
      place = 0;
      pick = w;
      there = refl;
      pending = e;
      before = both_true _ _ (or_right (not (is_pending w)) _ (le-leb w.operation.first w.operation.first (omega arith))) h;
    }

    behind : (m : Least ways) → (not (is_pending w) || nat_le m.pick.operation.first w.operation.first) ≡ true → Least (w ∷ ways)
    behind m h = record { place = suc m.place; pick = m.pick; there = m.there; pending = m.pending; before = both_true _ _ h m.before }

    sooner : is_pending w ≡ true → (m : Least ways) → (b : Bool) → nat_le w.operation.first m.pick.operation.first ≡ b → Least (w ∷ ways)
    sooner e m true f = itself e (none_before m.pick.operation.first w.operation.first (leb-true w.operation.first m.pick.operation.first f) ways m.before)
    sooner e m false f =
        let l : m.pick.operation.first < w.operation.first = leb-false w.operation.first m.pick.operation.first f in
        behind m (or_right (not (is_pending w)) _ (le-leb m.pick.operation.first w.operation.first (omega (arith, l))))

    go : (b : Bool) → is_pending w ≡ b → (none_pending ways ≡ true) ⊎ Least ways → (none_pending (w ∷ ways) ≡ true) ⊎ Least (w ∷ ways)
    go false e (inl n) = inl (both_true _ _ (ap not e) n)
    go false e (inr m) = inr (behind m (or_left (not (is_pending w)) _ (ap not e)))
    go true e (inl n) = inr (itself e (none_first w.operation.first ways n))
    go true e (inr m) = inr (sooner e m (nat_le w.operation.first m.pick.operation.first) refl)

-- ---- the push that ended first

ends_by_limit : (limit last : Option ℕ) → ((time : ℕ) → is_open_at time limit ≡ true → IfSome last (λ last. time ≤ last)) → EndsBy limit last
ends_by_limit None None h = tt
ends_by_limit None (Some last) h = let k : suc last ≤ last = h (suc last) refl in absurd (omega (arith, k))
ends_by_limit (Some limit) None h = tt
ends_by_limit (Some limit) (Some last) h = h limit (le-leb limit limit (omega arith))

-- one of these ended at the limit
record AtLimit (xs : List Stamped) (limit : Option ℕ) : Type 0 where
  push : Stamped
  rest : List Stamped
  is : IsPermutation xs (push ∷ rest)
  last : push.last ≡ limit

-- one ended at a number, or what was open at it was open behind it
one_ended : (number : ℕ) (xs : List Stamped) → AllByRecursion (IsOpenAt number) xs → AtLimit xs (Some number) ⊎ AllByRecursion (IsOpenAt (suc number)) xs
one_ended number [] h = inr tt
one_ended number (x ∷ xs) h = go x.last refl h.0 (one_ended number xs h.1)
  where
    found : AtLimit xs (Some number) → AtLimit (x ∷ xs) (Some number)
    found m = record { push = m.push; rest = x ∷ m.rest; is = IsPermutation-trans _ _ _ (IsPermutation-cons x xs (m.push ∷ m.rest) m.is) (IsPermutation-middle (x ∷ []) m.push m.rest); last = m.last }

    later : (last : ℕ) → number ≤ last → (b : Bool) → nat_le (suc number) last ≡ b → (last ≡ number) ⊎ (suc number ≤ last)
    later last l true e = inr (leb-true (suc number) last e)
    later last l false e = let k : last < suc number = leb-false (suc number) last e in inl (omega (arith, l, k))

    at : (last : ℕ) → x.last ≡ Some last → (last ≡ number) ⊎ (suc number ≤ last) → AtLimit xs (Some number) ⊎ AllByRecursion (IsOpenAt (suc number)) xs
        → AtLimit (x ∷ xs) (Some number) ⊎ AllByRecursion (IsOpenAt (suc number)) (x ∷ xs)
    at last e (inl same) more = inl (record { push = x; rest = xs; is = IsPermutation-refl (x ∷ xs); last = e ∙ ap Some same })
    at last e (inr l) (inl m) = inl (found m)
    at last e (inr l) (inr all) = inr (subst (λ last. IfSome last (λ last. suc number ≤ last)) (sym e) l, all)

    go : (last : Option ℕ) → x.last ≡ last → IfSome last (λ last. number ≤ last) → AtLimit xs (Some number) ⊎ AllByRecursion (IsOpenAt (suc number)) xs
        → AtLimit (x ∷ xs) (Some number) ⊎ AllByRecursion (IsOpenAt (suc number)) (x ∷ xs)
    go None e l (inl m) = inl (found m)
    go None e l (inr all) = inr (subst (λ last. IfSome last (λ last. suc number ≤ last)) (sym e) tt, all)
    go (Some last) e l more = at last e (later last l (nat_le (suc number) last) refl) more

at_limit : (xs : List Stamped) (limit : Option ℕ) → IsLimit xs limit → AllByRecursion IsCall xs → (xs ≡ []) ⊎ AtLimit xs limit
at_limit [] limit h c = inl refl
at_limit (x ∷ xs) None h c = inr (record { push = x; rest = xs; is = IsPermutation-refl (x ∷ xs); last = never x.last refl })
  where
    never : (last : Option ℕ) → x.last ≡ last → last ≡ None
    never None e = refl
    never (Some last) e =
        let k : suc last ≤ last = subst (λ last'. IfSome last' (λ n. suc last ≤ n)) e (h.enough c (suc last) refl).0 in
        absurd (omega (arith, k))
at_limit (x ∷ xs) (Some limit) h c = go (one_ended limit (x ∷ xs) (h.enough c limit (le-leb limit limit (omega arith))))
  where
    go : AtLimit (x ∷ xs) (Some limit) ⊎ AllByRecursion (IsOpenAt (suc limit)) (x ∷ xs) → (x ∷ xs ≡ []) ⊎ AtLimit (x ∷ xs) (Some limit)
    go (inl m) = inr m
    go (inr all) = let k : suc limit ≤ limit = leb-true (suc limit) limit (h.needed (suc limit) all) in absurd (omega (arith, k))

-- ---- steps

-- a pop that is left is the one that goes, or is left behind it
stand : (d p o : Stamped) (s t : State) (rest : List Stamped) → IsPermutation s.left (d ∷ p ∷ t.left) → IsPermutation s.left (o ∷ rest) → waits o ≡ false → waits p ≡ true → (d ≡ o) ⊎ IsLeftIn o t
stand d p o s t rest is there a b = go (out_of_two (d ∷ p ∷ []) t.left o rest (IsPermutation-trans _ _ _ (IsPermutation-sym s.left (d ∷ p ∷ t.left) is) there))
  where
    at : (k : ℕ) → slice_get (d ∷ p ∷ []) k ≡ Some o → d ≡ o
    at zero e = same_Some d o e
    at (suc zero) e = let f = same_Some p o e in absurd (cc (sym b ∙ ap waits f ∙ a))
    at (suc (suc k)) e = absurd cc

    go : ((k : ℕ) × (slice_get (d ∷ p ∷ []) k ≡ Some o) × IsPermutation rest (without k (d ∷ p ∷ []) ++ t.left)) ⊎ ((ms : List Stamped) × IsPermutation t.left (o ∷ ms) × IsPermutation rest (d ∷ p ∷ ms))
        → (d ≡ o) ⊎ IsLeftIn o t
    go (inl k) = inl (at k.0 k.1)
    go (inr k) = inr (record { rest = k.0; is = k.1 })

others_open : (time : ℕ) (xs : List Stamped) → AllByRecursion (λ o. waits o ≡ false) xs → AllByRecursion (OtherIsOpen time) xs → AllByRecursion (IsOpenAt time) xs
others_open time [] w h = tt
others_open time (x ∷ xs) w h = (where_off (waits x) (IsOpenAt time x) w.0 h.0, others_open time xs w.1 h.1)

not_open : (number : ℕ) (last : Option ℕ) → EndedBefore number last → is_open_at number last ≡ false
not_open number None h = absurd h
not_open number (Some last) h = go (nat_le number last) refl
  where
    go : (b : Bool) → nat_le number last ≡ b → b ≡ false
    go true e = let l : number ≤ last = leb-true number last e in absurd (omega (arith, h, l))
    go false e = refl

is_ended : (number : ℕ) (last : Option ℕ) → EndedBefore number last → is_some last ≡ true
is_ended number None h = absurd h
is_ended number (Some last) h = refl

by_itself : (last limit : Option ℕ) → last ≡ limit → is_some limit ≡ true → is_by last limit ≡ true
by_itself None limit e h = absurd (cc (ap is_some e ∙ h))
by_itself (Some last) None e h = absurd cc
by_itself (Some last) (Some limit) e h = let l : last ≡ limit = same_Some last limit e in le-leb last limit (omega (arith, l))

module _ (board : Board) where
  pending_have : (n k : ℕ) (s : Spot) (f : Front) (ways : List Pick) (t : State) → k < n → Among board (pending_at s f ways (slice_get ways k)) t → Among board (pending_to n s f ways) t
  pending_have zero k s f ways t lt h = absurd (omega (arith, lt))
  pending_have (suc n) k s f ways t lt h = go (nat_lt k n) refl (λ l. pending_have n k s f ways t l h)
    where
      go : (b : Bool) → nat_lt k n ≡ b → (k < n → Among board (pending_to n s f ways) t) → Among board (pending_to n s f ways ++ pending_at s f ways (slice_get ways n)) t
      go true e more = among_left board (pending_to n s f ways) _ t (more (ltb-true k n e))
      go false e more =
          let l : n ≤ k = ltb-false k n e in
          let same : k ≡ n = omega (arith, l, lt) in
          among_right board (pending_to n s f ways) _ t (subst (λ k. Among board (pending_at s f ways (slice_get ways k)) t) same h)

module _ (board : Board) (s : Spot) (f : Front) (ways behind : List Pick)
    (limit : IsLimit (left_of board.others.items s.others) f.limit)
    (push_limit : IsLimit (left_of board.pushes.items s.pushes) f.push_limit)
    (ways_are : ArePicks board.others.items s.others f.limit (view_picks ways))
    (ways_out : AreOut board.others.items s.others (view_picks ways))
    (takes_are : ArePicks board.pushes.items s.pushes f.push_limit (view_picks f.takes.items))
    (takes_out : AreOut board.pushes.items s.pushes (view_picks f.takes.items))
    (begin : AllByRecursion (BeginsLater f.empty) ways)
    (behind_are : none_pending ways ≡ false → ArePicks board.pushes.items s.pushes f.limit (view_picks behind))
    (calls : AreCalls board) where
  abbrev os : List Stamped
  os = left_of board.others.items s.others

  abbrev ps : List Stamped
  ps = left_of board.pushes.items s.pushes

  abbrev here : State
  here = state_of board s

  os_wait : AllByRecursion (λ o. waits o ≡ false) os
  os_wait = all_left (λ o. waits o ≡ false) board.others.items s.others calls.others

  ps_wait : AllByRecursion (λ o. waits o ≡ true) ps
  ps_wait = all_left (λ o. waits o ≡ true) board.pushes.items s.pushes calls.pushes

  ps_calls : AllByRecursion IsCall ps
  ps_calls = all_left IsCall board.pushes.items s.pushes calls.push_calls

  here_calls : AllByRecursion IsCall here.left
  here_calls = all_joined IsCall os ps (all_left IsCall board.others.items s.others calls.other_calls) ps_calls

  open_by_limit : (number : ℕ) → AllByRecursion (OtherIsOpen number) here.left → is_open_at number f.limit ≡ true
  open_by_limit number h = limit.needed number (others_open number os os_wait (all_first (OtherIsOpen number) os ps h))

  sooner_open : (time number : ℕ) → time ≤ number → AllByRecursion (OtherIsOpen number) here.left → is_open_at time f.limit ≡ true
  sooner_open time number l h = open_before time number f.limit l (open_by_limit number h)

  -- a pop that a push is in the way of isn't free
  not_free : (p : Stamped) (number : ℕ) → p.last ≡ f.push_limit → none_pending ways ≡ false → AllByRecursion (OtherIsOpen number) here.left
      → (op : Op) (reply : Option Reply) → IsInTheWay p number here op reply → is_free s.shut f.push_limit behind op reply ≡ false
  not_free p number e some h (Enq body) reply w = absurd w
  not_free p number e some h Shut reply w = absurd w
  not_free p number e some h Deq None w = absurd w
  not_free p number e some h Deq (Some Done) w = absurd w
  not_free p number e some h Deq (Some (Value v)) w =
      let g = push_out os ps w.push w.there.rest os_wait w.pushes.waits w.there.is in
      let k = found_pick board.pushes.items behind w.push g.0 (behind_are some w.push g.0 g.1 (sooner_open w.push.first number w.began h)) in
      let shut : is_open_at w.push.first f.push_limit ≡ false = subst (λ last. is_open_at w.push.first last ≡ false) e (not_open w.push.first p.last w.behind) in
      let one : is_behind f.push_limit v k.1 ≡ true = subst (λ q. (fits v q && not (is_open_at q.first f.push_limit)) ≡ true) (sym k.3) (both_true _ _ (value_fits v w.push w.pushes) (ap not shut)) in
      fails_at (λ push. not (is_behind f.push_limit v push)) behind k.0 k.1 k.2 (ap not one)
  not_free p number e some h Deq (Some Empty) w = w.0
  not_free p number e some h Deq (Some (Refused refusal)) w = ap not (both_true _ _ (ap is_closed w.0) w.1)

  way_ended : (p : Stamped) (number : ℕ) (op : Op) (reply : Option Reply) → IsInTheWay p number here op reply → is_some p.last ≡ true
  way_ended p number (Enq body) reply w = absurd w
  way_ended p number Shut reply w = absurd w
  way_ended p number Deq None w = absurd w
  way_ended p number Deq (Some Done) w = absurd w
  way_ended p number Deq (Some (Value v)) w = is_ended w.push.first p.last w.behind
  way_ended p number Deq (Some Empty) w = is_ended number p.last w.1
  way_ended p number Deq (Some (Refused refusal)) w = w.2

  way_pops : (p : Stamped) (number : ℕ) (op : Op) (reply : Option Reply) → IsInTheWay p number here op reply → is_push op reply ≡ false
  way_pops p number (Enq body) reply w = absurd w
  way_pops p number Shut reply w = refl
  way_pops p number Deq reply w = refl

  needed : (p : Stamped) → p.last ≡ f.push_limit → none_pending ways ≡ false → Hinders p here → (is_some f.push_limit && not (all_free s.shut f.push_limit behind ways)) ≡ true
  needed p e some h =
      let o = h.pop in
      let g = other_out os ps o h.there.rest ps_wait (way_pops p h.number o.op o.reply h.way) h.there.is in
      let k = found_pick board.others.items ways o g.0 (ways_are o g.0 g.1 (sooner_open o.first h.number h.began h.ongoing)) in
      let free : is_free s.shut f.push_limit behind k.1.operation.op k.1.operation.reply ≡ false =
      subst (λ q. is_free s.shut f.push_limit behind q.op q.reply ≡ false) (sym k.3) (not_free p h.number e some h.ongoing o.op o.reply h.way) in
      let ended : is_some f.push_limit ≡ true = ap is_some (sym e) ∙ way_ended p h.number o.op o.reply h.way in
      both_true _ _ ended (ap not (fails_at (λ way. is_free s.shut f.push_limit behind way.operation.op way.operation.reply) ways k.0 k.1 k.2 free))

  is_pending_of : (d : Stamped) → d.op ≡ Deq → d.reply ≡ None → is_pending_pop d.op d.reply ≡ true
  is_pending_of d e f = ap (λ op. is_pending_pop op d.reply) e ∙ ap is_untold f

  pending_op : (op : Op) (reply : Option Reply) → is_pending_pop op reply ≡ true → (op ≡ Deq) × (reply ≡ None)
  pending_op (Enq body) reply e = absurd cc
  pending_op Shut reply e = absurd cc
  pending_op Deq None e = (refl, refl)
  pending_op Deq (Some reply) e = absurd cc

  -- the pending pop before which none began takes the push that ended first
  made : (p d : Stamped) (u : State) → p.last ≡ f.push_limit → (is_some f.push_limit && not (all_free s.shut f.push_limit behind ways)) ≡ true
      → goes_first d.first ways ≡ true → Pops d p here u → Among board (pending_of s f behind ways) u
  made p d u e need first x =
      let some : is_some f.push_limit ≡ true = left_true (is_some f.push_limit) _ need in
      let k = each_take board s f ways limit push_limit ways_are takes_are calls (suits f None) d p u x (by_itself p.last f.push_limit e some) in
      let pending : is_pending k.pick ≡ true = subst (λ q. is_pending_pop q.op q.reply ≡ true) (sym k.is) (is_pending_of d x.op x.reply) in
      let before : goes_first k.pick.operation.first ways ≡ true = subst (λ q. goes_first q.first ways ≡ true) (sym k.is) first in
      let here_at : Among board (pending_at s f ways (Some k.pick)) u = subst (λ b. Among board (takes_where b s f k.pick) u) (sym (both_true _ _ pending before)) k.among in
      subst (λ b. Among board (pending_where b s f ways) u) (sym need)
      (pending_have board (length ways) k.place s f ways u (slice_get_within ways k.place k.pick k.there) (subst (λ x. Among board (pending_at s f ways x) u) (sym k.there) here_at))
    where
      left_true : (a b : Bool) → (a && b) ≡ true → a ≡ true
      left_true true b h = refl
      left_true false b h = absurd cc

  pending_goes : (n : ℕ) (p : Stamped) (t : State) → waits p ≡ true → p.last ≡ f.push_limit → MakesWay p here t → CanEnd n t → OneEnds board n (pending_of s f behind ways)
  pending_goes n p t wait e m c = go (least ways)
    where
      d : Stamped
      d = m.pop

      x : Pops d p here t
      x = m.pops

      -- where it stands among those that may be placed
      k : TakenBy board s f ways (λ q. true) d t
      k = each_take board s f ways limit push_limit ways_are takes_are calls (λ q. true) d p t x refl

      pending : is_pending k.pick ≡ true
      pending = subst (λ q. is_pending_pop q.op q.reply ≡ true) (sym k.is) (is_pending_of d x.op x.reply)

      some : none_pending ways ≡ false
      some = fails_at (λ way. not (is_pending way)) ways k.place k.pick k.there (ap not pending)

      need : (is_some f.push_limit && not (all_free s.shut f.push_limit behind ways)) ≡ true
      need = needed p e some m.hinders

      instead : (l : Least ways) → (d ≡ l.pick.operation) ⊎ IsLeftIn l.pick.operation t → OneEnds board n (pending_of s f behind ways)
      instead l (inl same) =
          let first : goes_first d.first ways ≡ true = subst (λ q. goes_first q.first ways ≡ true) (sym same) l.before in
          (t, made p d t e need first x, c)
      instead l (inr there) =
          let o = l.pick.operation in
          let is = pending_op o.op o.reply l.pending in
          let test : (not (is_pending k.pick) || nat_le o.first k.pick.operation.first) ≡ true = passes_at (λ way. not (is_pending way) || nat_le o.first way.operation.first) ways k.place k.pick k.there l.before in
          let sooner : o.first ≤ k.pick.operation.first = leb-true o.first k.pick.operation.first (sym (ap (λ b. not b || nat_le o.first k.pick.operation.first) pending) ∙ test) in
          let u = in_turn n o d p here t
          (record { calls = here_calls; pops = x; op = is.0; reply = is.1; there = there; sooner = subst (λ q. o.first ≤ q.first) k.is sooner }) c in
          (u.0, made p o u.0 e need l.before u.1, u.2)

      go : (none_pending ways ≡ true) ⊎ Least ways → OneEnds board n (pending_of s f behind ways)
      go (inl none) = absurd (cc (sym none ∙ some))
      go (inr l) =
          let o = l.pick.operation in
          let out = IsPermutation-append_left ps os (o ∷ left_of board.others.items (view_left l.pick.rest)) (pick_is board.others.items s.others ways l.place l.pick ways_out l.there) in
          let is = pending_op o.op o.reply l.pending in
          instead l (stand d p o here t (left_of board.others.items (view_left l.pick.rest) ++ ps) x.is out (deq_waits o is.0) wait)

  all_needed : (new : List Spot) → new ≡ steps_to (length ways) board.pushes.items s f ways ++ pending_of s f behind ways
      → (n : ℕ) → CanEnd (suc n) here → IsEnd here ⊎ OneEnds board n new
  all_needed new e n h = by (at_limit ps f.push_limit push_limit ps_calls)
    where
      told : List Spot
      told = steps_to (length ways) board.pushes.items s f ways

      other_goes : (t : State) → (x : Step here t) → is_pending_pop x.operation.op x.operation.reply ≡ false → CanEnd n t → OneEnds board n new
      other_goes t x none c =
          let o = first_goes board s f ways limit push_limit ways_are takes_are takes_out ways_out begin calls n t x none c in
          (o.0, subst (λ us. Among board us o.0) (sym e) (among_left board told (pending_of s f behind ways) o.0 o.1), o.2)

      widened : OneEnds board n (pending_of s f behind ways) → OneEnds board n new
      widened o = (o.0, subst (λ us. Among board us o.0) (sym e) (among_right board told (pending_of s f behind ways) o.0 o.1), o.2)

      -- where no push waits no pending pop goes
      no_pushes : ps ≡ [] → (t : State) (x : Step here t) → CanEnd n t → (b : Bool) → is_pending_pop x.operation.op x.operation.reply ≡ b → OneEnds board n new
      no_pushes none t x c false f = other_goes t x f c
      no_pushes none t x c true f =
          let k = popped_of here t x x.operation.op x.operation.reply refl refl x.effect f in
          let all : AllByRecursion (λ o. waits o ≡ false) here.left = all_joined (λ o. waits o ≡ false) os ps os_wait (subst (AllByRecursion (λ o. waits o ≡ false)) (sym none) tt) in
          let w = (all_moved (λ o. waits o ≡ false) here.left (x.operation ∷ k.push ∷ t.left) k.pops.is all).1.0 in
          absurd (cc (sym w ∙ k.pops.pushes.waits))

      lone : ps ≡ [] → CanEnd (suc n) here → IsEnd here ⊎ OneEnds board n new
      lone none (inl c) = inl c
      lone none (inr c) = inr (no_pushes none c.0 c.1 c.2 (is_pending_pop c.1.operation.op c.1.operation.reply) refl)

      lazily : (p : Stamped) → waits p ≡ true → p.last ≡ f.push_limit → EndsLazily p n here → IsEnd here ⊎ OneEnds board n new
      lazily p w l (inl c) = inl c
      lazily p w l (inr c) = inr (step c.1)
        where
          step : StepOfOther here c.0 ⊎ MakesWay p here c.0 → OneEnds board n new
          step (inl o) = other_goes c.0 o.step o.other c.2
          step (inr m) = widened (pending_goes n p c.0 w l m c.2)

      first_to_end : (m : AtLimit ps f.push_limit) → IsFirstToEnd m.push here
      first_to_end m = record {
        calls = here_calls;
        waits = (all_moved (λ o. waits o ≡ true) ps (m.push ∷ m.rest) m.is ps_wait).0;
        there = record { rest = os ++ m.rest; is = IsPermutation-trans _ _ _ (IsPermutation-append_right os ps (m.push ∷ m.rest) m.is) (IsPermutation-middle os m.push m.rest) };
        least = subst (λ last. AllByRecursion (λ q. Where (waits q) (EndsBy last q.last)) here.left) (sym m.last) no_sooner;
      }
        where
          none : (xs : List Stamped) → AllByRecursion (λ o. waits o ≡ false) xs → AllByRecursion (λ q. Where (waits q) (EndsBy f.push_limit q.last)) xs
          none [] a = tt
          none (x ∷ xs) a = (where_not (waits x) (EndsBy f.push_limit x.last) a.0, none xs a.1)

          ended : (xs : List Stamped) → ((time : ℕ) → is_open_at time f.push_limit ≡ true → AllByRecursion (IsOpenAt time) xs) → AllByRecursion (λ q. Where (waits q) (EndsBy f.push_limit q.last)) xs
          ended [] a = tt
          ended (x ∷ xs) a = (where_any (waits x) (EndsBy f.push_limit x.last) (ends_by_limit f.push_limit x.last (λ time h. (a time h).0)), ended xs (λ time h. (a time h).1))

          no_sooner : AllByRecursion (λ q. Where (waits q) (EndsBy f.push_limit q.last)) here.left
          no_sooner = all_joined (λ q. Where (waits q) (EndsBy f.push_limit q.last)) os ps (none os os_wait) (ended ps (push_limit.enough ps_calls))

      by : (ps ≡ []) ⊎ AtLimit ps f.push_limit → IsEnd here ⊎ OneEnds board n new
      by (inl none) = lone none h
      by (inr m) = let one = first_to_end m in lazily m.push one.waits m.last (waits_until_needed n m.push here one h)

-- where a state can be placed to the end, one of those that are made can be
pub needed_steps : (board : Board) (s : Spot) (f : Front) (ways behind : List Pick) (new : List Spot)
    → IsLimit (left_of board.others.items s.others) f.limit → IsLimit (left_of board.pushes.items s.pushes) f.push_limit
    → ArePicks board.others.items s.others f.limit (view_picks ways) → AreOut board.others.items s.others (view_picks ways)
    → ArePicks board.pushes.items s.pushes f.push_limit (view_picks f.takes.items) → AreOut board.pushes.items s.pushes (view_picks f.takes.items)
    → AllByRecursion (BeginsLater f.empty) ways → (none_pending ways ≡ false → ArePicks board.pushes.items s.pushes f.limit (view_picks behind))
    → new ≡ steps_to (length ways) board.pushes.items s f ways ++ pending_of s f behind ways → HasSteps board s new
needed_steps board s f ways behind new limit push_limit ways_are ways_out takes_are takes_out begin behind_are e calls =
    all_needed board s f ways behind limit push_limit ways_are ways_out takes_are takes_out begin behind_are calls new e
