-- Each step leads to a state that is the same as one of those that are made.
use Rattle.std.proofs.Common.{◌≡◌, ℕ, zero, suc, max, nat_le, nat_lt, ◌+◌, ◌-◌, ◌≤◌, ◌<◌, Bool, true, false, not, ◌&&◌, ◌||◌, cond, ◌⊎◌, inl, inr, List, [], ◌∷◌, ◌++◌, Option, None, Some, IfSome, is_some, length, drop, take, map, slice_get, refl, sym, ap, ◌∙◌, subst, arith}
use Rattle.std.specs.List.{AllByRecursion, filter}
use Rattle.std.specs.List.Sorted.{IsPermutation}
use Rattle.std.proofs.Math.Nat.{max-eq_left, max-eq_right}
use Rattle.std.proofs.lemmas.Bool.{leb-true, leb-false, ltb-true, ltb-false, eq-eqb}
use Rattle.std.proofs.lemmas.List.{append-nil}
use Rattle.std.proofs.lemmas.List.Elements.{filter-append}
use Rattle.std.proofs.lemmas.List.Sorted.{IsPermutation-sym, IsPermutation-trans, IsPermutation-append, IsPermutation-append_left}
use Rattle.std.proofs.lemmas.Option.{slice_get_within}
use Rattle.history.specs.declared.refusals.Refusal.{Refusal}
use Rattle.history.specs.declared.refusals.Refusal.TheVariants.{Closed}
use Rattle.history.specs.declared.operations.Op.{Op}
use Rattle.history.specs.declared.operations.Op.TheVariants.{Enq, Deq, Shut}
use Rattle.history.specs.declared.operations.Taken.{Taken}
use Rattle.history.specs.declared.operations.Reply.{Reply}
use Rattle.history.specs.declared.operations.Reply.TheVariants.{Done, Value, Empty, Refused}
use Rattle.history.specs.declared.operations.Stamped.{Stamped}
use Rattle.history.specs.History.{leaves, is_closed}
use Rattle.waiting_orders.specs.declared.lines.Pick.{Pick}
use Rattle.waiting_orders.specs.declared.steps.Front.{Front}
use Rattle.waiting_orders.specs.declared.boards.Board.{Board}
use Rattle.waiting_orders.specs.Waiting.{IsCall, State, Step, HasEffect, GetsRefused, Takes, Pushes, FindsEmpty, IsToldDrained, Shuts, IsEnd, Same, Where, IsOpenAt, OtherIsOpen, PushIsOpen, IsUntold, OtherIsUntold, waits, is_push, every, is_open_at, other_is_open, may_stay, pushes_value}
use Rattle.waiting_orders.specs.Pending.{Pops, is_pending_pop}
use Rattle.waiting_orders.specs.Lines.{Left, IsLimit, ArePicks, left_of, view_left, view_picks, without, cat, picked, spelled}
use Rattle.waiting_orders.specs.Nodes.{Spot, Among, AreCalls, state_of, each, where_so, time_of, stay, began, began_by, goes, may_go, shut_of, take_of, take_at, takes_to, suits, refused_of, steps_of, told, goes_by, is_in_turn, steps_where, steps_at, steps_to}
use Rattle.waiting_orders.proofs.Futures.{all_moved, all_every, every_all}
use Rattle.waiting_orders.proofs.Lists.{both_true, or_left, or_right, all_joined}
use Rattle.waiting_orders.proofs.Limits.{open_told, told_open, open_before, all_first, all_second}
use Rattle.waiting_orders.proofs.Picking.{found_first, filter_moved}
use Rattle.waiting_orders.proofs.Places.{taken_out, in_part, all_at, drop_all, gathered_none}
use Rattle.waiting_orders.proofs.Picks.{found_pick, spelled_left}

-- ---- tests

pub max_least : (a b c : ℕ) → a ≤ c → b ≤ c → max a b ≤ c
max_least a b c h k = go (nat_le a b) refl
  where
    go : (t : Bool) → nat_le a b ≡ t → max a b ≤ c
    go true e = subst (λ m. m ≤ c) (sym (max-eq_right (leb-true a b e))) k
    go false e = let l : b < a = leb-false a b e in subst (λ m. m ≤ c) (sym (max-eq_left (omega (arith, l)))) h

pub value_fits : (v : Taken) (p : Stamped) → Pushes v p → pushes_value v p.actor p.op ≡ true
value_fits v p h = subst (λ op. pushes_value v p.actor op ≡ true) (sym h.op) (both_true _ _ (eq-eqb _ _ h.actor) (eq-eqb _ _ refl))

all_picked : (P : Stamped → Type 0) (ops : List Stamped) → AllByRecursion P ops → (places : List ℕ) → AllByRecursion P (picked ops places)
all_picked P ops h [] = tt
all_picked P ops h (place ∷ places) = go (slice_get ops place) refl (all_picked P ops h places)
  where
    go : (x : Option Stamped) → slice_get ops place ≡ x → AllByRecursion P (picked ops places) → AllByRecursion P (cat (x ∷ map (slice_get ops) places))
    go None e more = more
    go (Some o) e more = (all_at P ops place o e h, more)

all_dropped : (P : Stamped → Type 0) (n : ℕ) (ops : List Stamped) → AllByRecursion P ops → AllByRecursion P (drop n ops)
all_dropped P zero ops h = h
all_dropped P (suc n) [] h = tt
all_dropped P (suc n) (o ∷ ops) h = all_dropped P n ops h.1

pub all_left : (P : Stamped → Type 0) (ops : List Stamped) (left : Left) → AllByRecursion P ops → AllByRecursion P (left_of ops left)
all_left P ops left h = all_joined P (picked ops left.kept) (drop left.from ops) (all_picked P ops h left.kept) (all_dropped P left.from ops h)

-- ---- one of several states

module _ (board : Board) where
  pub among_left : (us vs : List Spot) (t : State) → Among board us t → Among board (us ++ vs) t
  among_left [] vs t h = absurd h
  among_left (u ∷ us) vs t (inl h) = inl h
  among_left (u ∷ us) vs t (inr h) = inr (among_left us vs t h)

  pub among_right : (us vs : List Spot) (t : State) → Among board vs t → Among board (us ++ vs) t
  among_right [] vs t h = h
  among_right (u ∷ us) vs t h = inr (among_right us vs t h)

  among_where : (b : Bool) (others pushes : Left) (shut : Bool) (time : ℕ) (t : State) → b ≡ true
      → Same t (state_of board (record { others = others; pushes = pushes; shut = shut; time = time })) → Among board (where_so b others pushes shut time) t
  among_where true others pushes shut time t e h = inl h
  among_where false others pushes shut time t e h = absurd cc

  takes_have : (n k : ℕ) (suits : Stamped → Bool) (s : Spot) (f : Front) (way : Pick) (t : State) → k < n
      → Among board (take_at suits s f way (slice_get f.takes.items k)) t → Among board (takes_to n suits s f way) t
  takes_have zero k suits s f way t lt h = absurd (omega (arith, lt))
  takes_have (suc n) k suits s f way t lt h = go (nat_lt k n) refl (λ l. takes_have n k suits s f way t l h)
    where
      go : (b : Bool) → nat_lt k n ≡ b → (k < n → Among board (takes_to n suits s f way) t) → Among board (takes_to n suits s f way ++ take_at suits s f way (slice_get f.takes.items n)) t
      go true e more = among_left (takes_to n suits s f way) _ t (more (ltb-true k n e))
      go false e more =
          let l : n ≤ k = ltb-false k n e in
          let same : k ≡ n = omega (arith, l, lt) in
          among_right (takes_to n suits s f way) _ t (subst (λ k. Among board (take_at suits s f way (slice_get f.takes.items k)) t) same h)

  steps_have : (n k : ℕ) (pushes : List Stamped) (s : Spot) (f : Front) (ways : List Pick) (t : State) → k < n
      → Among board (steps_at pushes s f ways (slice_get ways k)) t → Among board (steps_to n pushes s f ways) t
  steps_have zero k pushes s f ways t lt h = absurd (omega (arith, lt))
  steps_have (suc n) k pushes s f ways t lt h = go (nat_lt k n) refl (λ l. steps_have n k pushes s f ways t l h)
    where
      go : (b : Bool) → nat_lt k n ≡ b → (k < n → Among board (steps_to n pushes s f ways) t) → Among board (steps_to n pushes s f ways ++ steps_at pushes s f ways (slice_get ways n)) t
      go true e more = among_left (steps_to n pushes s f ways) _ t (more (ltb-true k n e))
      go false e more =
          let l : n ≤ k = ltb-false k n e in
          let same : k ≡ n = omega (arith, l, lt) in
          among_right (steps_to n pushes s f ways) _ t (subst (λ k. Among board (steps_at pushes s f ways (slice_get ways k)) t) same h)

-- ---- what is taken out of the others, or of the pushes

-- an operation that is no push that waits is one of the others
pub other_out : (os ps : List Stamped) (o : Stamped) (rest : List Stamped) → AllByRecursion (λ p. waits p ≡ true) ps → waits o ≡ false → IsPermutation (os ++ ps) (o ∷ rest)
    → (ns : List Stamped) × IsPermutation os (o ∷ ns) × IsPermutation rest (ns ++ ps)
other_out os ps o rest all e is =
    let f = found_first o (os ++ ps) rest is in
    go f.0 f.2 (in_part os ps f.0 o f.1)
  where
    go : (k : ℕ) → IsPermutation rest (without k (os ++ ps))
        → ((slice_get os k ≡ Some o) × (without k (os ++ ps) ≡ without k os ++ ps)) ⊎ ((j : ℕ) × (slice_get ps j ≡ Some o) × (without k (os ++ ps) ≡ os ++ without j ps))
        → (ns : List Stamped) × IsPermutation os (o ∷ ns) × IsPermutation rest (ns ++ ps)
    go k perm (inl h) = (without k os, taken_out k os o h.0, subst (IsPermutation rest) h.1 perm)
    go k perm (inr h) = let w : waits o ≡ true = all_at (λ p. waits p ≡ true) ps h.0 o h.1 all in absurd (cc (sym e ∙ w))

pub push_out : (os ps : List Stamped) (p : Stamped) (rest : List Stamped) → AllByRecursion (λ o. waits o ≡ false) os → waits p ≡ true → IsPermutation (os ++ ps) (p ∷ rest)
    → (ns : List Stamped) × IsPermutation ps (p ∷ ns) × IsPermutation rest (os ++ ns)
push_out os ps p rest all e is =
    let f = found_first p (os ++ ps) rest is in
    go f.0 f.2 (in_part os ps f.0 p f.1)
  where
    go : (k : ℕ) → IsPermutation rest (without k (os ++ ps))
        → ((slice_get os k ≡ Some p) × (without k (os ++ ps) ≡ without k os ++ ps)) ⊎ ((j : ℕ) × (slice_get ps j ≡ Some p) × (without k (os ++ ps) ≡ os ++ without j ps))
        → (ns : List Stamped) × IsPermutation ps (p ∷ ns) × IsPermutation rest (os ++ ns)
    go k perm (inl h) = let w : waits p ≡ false = all_at (λ o. waits o ≡ false) os k p h.0 all in absurd (cc (sym e ∙ w))
    go k perm (inr h) = (without h.0 ps, taken_out h.0 ps p h.1, subst (IsPermutation rest) h.2 perm)

-- what has an effect is no push that waits
no_push : (op : Op) (reply : Option Reply) (o : Stamped) (s t : State) → HasEffect op reply o s t → is_push op reply ≡ false
no_push (Enq body) None o s t h = absurd h
no_push (Enq body) (Some Done) o s t h = absurd h
no_push (Enq body) (Some (Value v)) o s t h = refl
no_push (Enq body) (Some Empty) o s t h = refl
no_push (Enq body) (Some (Refused refusal)) o s t h = refl
no_push Deq reply o s t h = refl
no_push Shut reply o s t h = refl

pub filter_all : (test : Stamped → Bool) (xs : List Stamped) → AllByRecursion (λ x. test x ≡ true) xs → filter test xs ≡ xs
filter_all test [] h = refl
filter_all test (x ∷ xs) h = ap (λ b. cond b (x ∷ filter test xs) (filter test xs)) h.0 ∙ ap (λ l. x ∷ l) (filter_all test xs h.1)

pub filter_none : (test : Stamped → Bool) (xs : List Stamped) → AllByRecursion (λ x. test x ≡ false) xs → filter test xs ≡ []
filter_none test [] h = refl
filter_none test (x ∷ xs) h = ap (λ b. cond b (x ∷ filter test xs) (filter test xs)) h.0 ∙ filter_none test xs h.1

filter_alike : (test other : Stamped → Bool) (xs : List Stamped) → AllByRecursion (λ x. test x ≡ other x) xs → filter test xs ≡ filter other xs
filter_alike test other [] h = refl
filter_alike test other (x ∷ xs) h = ap (λ b. cond b (x ∷ filter test xs) (filter test xs)) h.0 ∙ ap (λ l. cond (other x) (x ∷ l) l) (filter_alike test other xs h.1)

pub flipped : (b : Bool) (xs : List Stamped) → AllByRecursion (λ p. waits p ≡ b) xs → AllByRecursion (λ p. not (waits p) ≡ not b) xs
flipped b [] h = tt
flipped b (x ∷ xs) h = (ap not h.0, flipped b xs h.1)

-- places that are kept by a test of the operations there
pub picked_filter : (ops : List Stamped) (limit : Option ℕ) (places : List ℕ) → picked ops (filter (began_by ops limit) places) ≡ filter (λ p. is_open_at p.first limit) (picked ops places)
picked_filter ops limit [] = refl
picked_filter ops limit (place ∷ places) = go (slice_get ops place) refl (picked_filter ops limit places)
  where
    there : (p : Stamped) → slice_get ops place ≡ Some p → (b : Bool) → picked ops (filter (began_by ops limit) places) ≡ filter (λ p. is_open_at p.first limit) (picked ops places)
        → picked ops (cond b (place ∷ filter (began_by ops limit) places) (filter (began_by ops limit) places)) ≡ cond b (p ∷ filter (λ p. is_open_at p.first limit) (picked ops places)) (filter (λ p. is_open_at p.first limit) (picked ops places))
    there p e true more = ap (λ x. cat (x ∷ map (slice_get ops) (filter (began_by ops limit) places))) e ∙ ap (λ l. p ∷ l) more
    there p e false more = more

    go : (x : Option Stamped) → slice_get ops place ≡ x → picked ops (filter (began_by ops limit) places) ≡ filter (λ p. is_open_at p.first limit) (picked ops places)
        → picked ops (cond (began limit (slice_get ops place)) (place ∷ filter (began_by ops limit) places) (filter (began_by ops limit) places))
        ≡ filter (λ p. is_open_at p.first limit) (cat (slice_get ops place ∷ map (slice_get ops) places))
    go None e more =
        ap (λ x. picked ops (cond (began limit x) (place ∷ filter (began_by ops limit) places) (filter (began_by ops limit) places))) e
        ∙ more ∙ ap (λ x. filter (λ p. is_open_at p.first limit) (cat (x ∷ map (slice_get ops) places))) (sym e)
    go (Some p) e more =
        ap (λ x. picked ops (cond (began limit x) (place ∷ filter (began_by ops limit) places) (filter (began_by ops limit) places))) e
        ∙ there p e (is_open_at p.first limit) more ∙ ap (λ x. filter (λ p. is_open_at p.first limit) (cat (x ∷ map (slice_get ops) places))) (sym e)

each_may_go : (ops : List Stamped) (limit : Option ℕ) (places : List ℕ) → AllByRecursion (λ p. (is_open_at p.first limit || not (is_some p.last)) ≡ true) (picked ops places) → each (may_go ops limit) places ≡ true
each_may_go ops limit [] h = refl
each_may_go ops limit (place ∷ places) h = go (slice_get ops place) refl h (λ k. each_may_go ops limit places k)
  where
    go : (x : Option Stamped) → slice_get ops place ≡ x → AllByRecursion (λ p. (is_open_at p.first limit || not (is_some p.last)) ≡ true) (cat (x ∷ map (slice_get ops) places))
        → (AllByRecursion (λ p. (is_open_at p.first limit || not (is_some p.last)) ≡ true) (picked ops places) → each (may_go ops limit) places ≡ true)
        → (goes limit (slice_get ops place) && each (may_go ops limit) places) ≡ true
    go None e h more = both_true _ _ (ap (goes limit) e) (more h)
    go (Some p) e h more = both_true _ _ (ap (goes limit) e ∙ h.0) (more h.1)

-- all places spelled out are of all that is left
pub all_spelled : (ops : List Stamped) (left : Left) → picked ops (spelled (length ops) left) ≡ left_of ops left
all_spelled ops left = go (nat_le left.from (length ops)) refl
  where
    go : (b : Bool) → nat_le left.from (length ops) ≡ b → picked ops (spelled (length ops) left) ≡ left_of ops left
    go true e =
        let l : left.from ≤ length ops = leb-true _ _ e in
        let n : left.from + (length ops - left.from) ≡ length ops = omega (arith, l) in
        subst (λ n. picked ops (spelled n left) ≡ left_of ops left) n
        (spelled_left ops left (length ops - left.from) ∙ ap (λ l. picked ops left.kept ++ l) (whole (length ops - left.from) (drop left.from ops) (short left.from ops)))
      where
        whole : (n : ℕ) (xs : List Stamped) → length xs ≤ n → take n xs ≡ xs
        whole zero [] h = refl
        whole (suc n) [] h = refl
        whole zero (x ∷ xs) h = absurd (omega (arith, h))
        whole (suc n) (x ∷ xs) h = ap (λ l. x ∷ l) (whole n xs (omega (arith, h)))

        short : (n : ℕ) (xs : List Stamped) → length (drop n xs) ≤ length xs - n
        short zero xs = omega arith
        short (suc n) [] = omega arith
        short (suc n) (x ∷ xs) = let h = short n xs in omega (arith, h)
    go false e =
        let l : length ops < left.from = leb-false _ _ e in
        ap (λ l. picked ops (left.kept ++ l)) (gathered_none (λ place. place ∷ []) left.from (length ops) (omega (arith, l)))
        ∙ ap (picked ops) (append-nil left.kept) ∙ sym (append-nil (picked ops left.kept)) ∙ ap (λ l. picked ops left.kept ++ l) (sym (drop_all left.from ops (omega (arith, l))))

pub nothing_left : (ops : List Stamped) → left_of ops (record { kept = []; from = length ops }) ≡ []
nothing_left ops = drop_all (length ops) ops (omega arith)

pub untold_unended : (xs : List Stamped) → AllByRecursion IsCall xs → AllByRecursion IsUntold xs → AllByRecursion (λ o. o.last ≡ None) xs
untold_unended [] c h = tt
untold_unended (o ∷ xs) c h = (go o.last refl, untold_unended xs c.1 h.1)
  where
    go : (last : Option ℕ) → o.last ≡ last → last ≡ None
    go None e = refl
    go (Some last) e =
        let told : is_some o.reply ≡ true = c.0.ended.0 (ap is_some e) in
        absurd (cc (sym told ∙ ap is_some h.0))

never_ends : (xs : List Stamped) (limit : Option ℕ) → IsLimit xs limit → AllByRecursion (λ o. o.last ≡ None) xs → limit ≡ None
never_ends xs limit h all = go limit refl
  where
    ahead : (time : ℕ) (ys : List Stamped) → AllByRecursion (λ o. o.last ≡ None) ys → AllByRecursion (IsOpenAt time) ys
    ahead time [] a = tt
    ahead time (y ∷ ys) a = (subst (λ last. IfSome last (λ last. time ≤ last)) (sym a.0) tt, ahead time ys a.1)

    go : (l : Option ℕ) → limit ≡ l → l ≡ None
    go None e = refl
    go (Some l) e =
        let k : is_open_at (suc l) (Some l) ≡ true = subst (λ limit. is_open_at (suc l) limit ≡ true) e (h.needed (suc l) (ahead (suc l) xs all)) in
        let le : suc l ≤ l = leb-true (suc l) l k in
        absurd (omega (arith, le))

pub where_off : (b : Bool) (A : Type 0) → b ≡ false → Where (not b) A → A
where_off true A e h = absurd cc
where_off false A e h = h

pub where_on : (b : Bool) (A : Type 0) → b ≡ true → Where b A → A
where_on true A e h = h
where_on false A e h = absurd cc

-- ---- each step

module _ (board : Board) (s : Spot) (f : Front) (ways : List Pick) (calls : AreCalls board)
    (limit : IsLimit (left_of board.others.items s.others) f.limit)
    (push_limit : IsLimit (left_of board.pushes.items s.pushes) f.push_limit)
    (ways_are : ArePicks board.others.items s.others f.limit (view_picks ways))
    (takes_are : ArePicks board.pushes.items s.pushes f.push_limit (view_picks f.takes.items))
    (t : State) (o : Stamped) (since : s.time ≤ t.time) (started : o.first ≤ t.time) (ongoing : AllByRecursion (OtherIsOpen t.time) (state_of board s).left)
    (other : waits o ≡ false) where
  abbrev all_others : List Stamped
  all_others = board.others.items

  abbrev all_pushes : List Stamped
  all_pushes = board.pushes.items

  abbrev os : List Stamped
  os = left_of all_others s.others

  abbrev ps : List Stamped
  ps = left_of all_pushes s.pushes

  abbrev here : State
  here = state_of board s

  os_wait : AllByRecursion (λ o. waits o ≡ false) os
  os_wait = all_left (λ o. waits o ≡ false) all_others s.others calls.others

  ps_wait : AllByRecursion (λ o. waits o ≡ true) ps
  ps_wait = all_left (λ o. waits o ≡ true) all_pushes s.pushes calls.pushes

  os_calls : AllByRecursion IsCall os
  os_calls = all_left IsCall all_others s.others calls.other_calls

  ps_calls : AllByRecursion IsCall ps
  ps_calls = all_left IsCall all_pushes s.pushes calls.push_calls

  others_open : (time : ℕ) (xs : List Stamped) → AllByRecursion (λ o. waits o ≡ false) xs → AllByRecursion (OtherIsOpen time) xs → AllByRecursion (IsOpenAt time) xs
  others_open time [] w h = tt
  others_open time (x ∷ xs) w h = (where_off (waits x) (IsOpenAt time x) w.0 h.0, others_open time xs w.1 h.1)

  pushes_open : (time : ℕ) (xs : List Stamped) → AllByRecursion (λ o. waits o ≡ true) xs → AllByRecursion (PushIsOpen time) xs → AllByRecursion (IsOpenAt time) xs
  pushes_open time [] w h = tt
  pushes_open time (x ∷ xs) w h = (where_on (waits x) (IsOpenAt time x) w.0 h.0, pushes_open time xs w.1 h.1)

  open_now : (time : ℕ) → time ≤ t.time → is_open_at time f.limit ≡ true
  open_now time h = open_before time t.time f.limit h (limit.needed t.time (others_open t.time os os_wait (all_first (OtherIsOpen t.time) os ps ongoing)))

  -- the operation is one of those that may be placed, and what is left without it
  record Way (rest : List Stamped) : Type 0 where
    left : List Stamped
    out : IsPermutation os (o ∷ left)
    all : IsPermutation rest (left ++ ps)
    place : ℕ
    pick : Pick
    there : slice_get ways place ≡ Some pick
    is : pick.operation ≡ o
    same : IsPermutation left (left_of all_others (view_left pick.rest))

  way_of : (rest : List Stamped) → IsPermutation here.left (o ∷ rest) → Way rest
  way_of rest is =
      let g = other_out os ps o rest ps_wait other is in
      let p = found_pick all_others ways o g.0 (ways_are o g.0 g.1 (open_now o.first started)) in
      record { left = g.0; out = g.1; all = g.2; place = p.0; pick = p.1; there = p.2; is = p.3; same = p.4 }

  -- the states behind the operation have one that is the same
  record Placed (op : Op) (reply : Option Reply) : Type 0 where
    place : ℕ
    pick : Pick
    there : slice_get ways place ≡ Some pick
    is : pick.operation ≡ o
    among : Among board (steps_of op reply all_pushes s f pick) t

  time_by : (pick : Pick) → pick.operation ≡ o → time_of s pick ≤ t.time
  time_by pick is = max_least s.time pick.operation.first t.time since (subst (λ o. o.first ≤ t.time) (sym is) started)

  stay_among : (w : Way t.left) (holds : Bool) → holds ≡ true → t.shut ≡ s.shut → Among board (stay holds s f w.pick) t
  stay_among w holds e same =
      among_where board _ (view_left w.pick.rest) s.pushes s.shut (time_of s w.pick) t (both_true _ _ e (open_now (time_of s w.pick) (time_by w.pick w.is)))
      (record {
        left = IsPermutation-trans _ _ _ w.all (IsPermutation-append_left ps w.left (left_of all_others (view_left w.pick.rest)) w.same);
        shut = sym same;
        time = time_by w.pick w.is;
      })

  -- the states behind takes of some pushes have one that is the same
  record Took (chosen : Stamped → Bool) : Type 0 where
    place : ℕ
    pick : Pick
    there : slice_get ways place ≡ Some pick
    is : pick.operation ≡ o
    among : Among board (takes_to (length f.takes.items) chosen s f pick) t

  took : (v : Taken) (chosen : Stamped → Bool) (h : Takes v o here t) → chosen h.push ≡ true → Took chosen
  took v chosen h fit =
      let p = h.push in
      let w = way_of (p ∷ t.left) h.is in
      let left_wait : AllByRecursion (λ o. waits o ≡ false) w.left = (all_moved (λ o. waits o ≡ false) os (o ∷ w.left) w.out os_wait).1 in
      let g = push_out w.left ps p t.left left_wait h.pushes.waits (IsPermutation-sym _ _ w.all) in
      let both_wait = all_moved (λ o. waits o ≡ true) ps (p ∷ g.0) g.1 ps_wait in
      let both_call = all_moved IsCall ps (p ∷ g.0) g.1 ps_calls in
      let rest_open : AllByRecursion (IsOpenAt p.first) g.0 =
      pushes_open p.first g.0 both_wait.1 (all_second (PushIsOpen p.first) w.left g.0 (all_moved (PushIsOpen p.first) t.left (w.left ++ g.0) g.2 h.first)) in
      let all_open : AllByRecursion (IsOpenAt p.first) ps = all_moved (IsOpenAt p.first) (p ∷ g.0) ps (IsPermutation-sym _ _ g.1) (both_call.0.spans, rest_open) in
      let k = found_pick all_pushes f.takes.items p g.0 (takes_are p g.0 g.1 (push_limit.needed p.first all_open)) in
      let take = k.1 in
      let by : max (time_of s w.pick) take.operation.first ≤ t.time = max_least _ _ t.time (time_by w.pick w.is) (subst (λ p. p.first ≤ t.time) (sym k.3) h.began) in
      let one : Among board (take_of chosen s f w.pick take) t =
      among_where board _ (view_left w.pick.rest) (view_left take.rest) s.shut (max (time_of s w.pick) take.operation.first) t
      (both_true _ _ (both_true _ _ (subst (λ p. chosen p ≡ true) (sym k.3) fit)
      (subst (λ p. is_open_at p.first f.push_limit ≡ true) (sym k.3) (push_limit.needed p.first all_open))) (open_now _ by))
      (record {
        left = IsPermutation-trans _ _ _ g.2 (IsPermutation-append w.left (left_of all_others (view_left w.pick.rest)) g.0 (left_of all_pushes (view_left take.rest)) w.same k.4);
        shut = sym h.same;
        time = by;
      }) in
      record {
        place = w.place;
        pick = w.pick;
        there = w.there;
        is = w.is;
        among = takes_have board (length f.takes.items) k.0 chosen s f w.pick t (slice_get_within f.takes.items k.0 take k.2)
            (subst (λ x. Among board (take_at chosen s f w.pick x) t) (sym k.2) one);
      }

  empty_placed : FindsEmpty o here t → Placed Deq (Some Empty)
  empty_placed h =
      let w = way_of t.left h.is in
      let all_open : AllByRecursion (IsOpenAt t.time) ps =
      pushes_open t.time ps ps_wait (all_second (PushIsOpen t.time) w.left ps (all_moved (PushIsOpen t.time) t.left (w.left ++ ps) w.all h.none)) in
      let by = time_by w.pick w.is in
      record {
        place = w.place;
        pick = w.pick;
        there = w.there;
        is = w.is;
        among = stay_among w _ (both_true _ _ (ap not h.before) (open_before _ t.time f.push_limit by (push_limit.needed t.time all_open))) h.same;
      }

  -- a push stays behind a shut exactly if it began by the limit of the others
  stay_is : (p : Stamped) → waits p ≡ true → may_stay here p ≡ is_open_at p.first f.limit
  stay_is p w = ap (λ b. not b || every (other_is_open p.first) here.left) w ∙ go (is_open_at p.first f.limit) refl (every (other_is_open p.first) here.left) refl
    where
      told : (xs : List Stamped) → AllByRecursion (IsOpenAt p.first) xs → AllByRecursion (λ x. other_is_open p.first x ≡ true) xs
      told [] h = tt
      told (x ∷ xs) h = (or_right (waits x) _ (open_told p.first x.last h.0), told xs h.1)

      waiting : (xs : List Stamped) → AllByRecursion (λ x. waits x ≡ true) xs → AllByRecursion (λ x. other_is_open p.first x ≡ true) xs
      waiting [] h = tt
      waiting (x ∷ xs) h = (or_left (waits x) _ h.0, waiting xs h.1)

      one_back : (x : Stamped) (b : Bool) → b ≡ false → (b || is_open_at p.first x.last) ≡ true → IsOpenAt p.first x
      one_back x true e h = absurd cc
      one_back x false e h = told_open p.first x.last h

      back : (xs : List Stamped) → AllByRecursion (λ x. waits x ≡ false) xs → AllByRecursion (λ x. other_is_open p.first x ≡ true) xs → AllByRecursion (IsOpenAt p.first) xs
      back [] w h = tt
      back (x ∷ xs) w h = (one_back x (waits x) w.0 h.0, back xs w.1 h.1)

      go : (b : Bool) → is_open_at p.first f.limit ≡ b → (c : Bool) → every (other_is_open p.first) here.left ≡ c → c ≡ b
      go true e true g = refl
      go false e false g = refl
      go true e false g =
          let all = all_joined (λ x. other_is_open p.first x ≡ true) os ps (told os (limit.enough os_calls p.first e)) (waiting ps ps_wait) in
          absurd (cc (sym g ∙ every_all (other_is_open p.first) here.left all))
      go false e true g =
          let all = all_first (λ x. other_is_open p.first x ≡ true) os ps (all_every (other_is_open p.first) here.left g) in
          absurd (cc (sym e ∙ limit.needed p.first (back os os_wait all)))

  shut_placed : (reply : Option Reply) → ((pick : Pick) → steps_of Shut reply all_pushes s f pick ≡ shut_of all_pushes s f pick) → Shuts o here t → Placed Shut reply
  shut_placed reply is h =
      let w = way_of (t.left ++ h.dropped) h.is in
      let left_wait : AllByRecursion (λ o. waits o ≡ false) w.left = (all_moved (λ o. waits o ≡ false) os (o ∷ w.left) w.out os_wait).1 in
      let kept : filter (may_stay here) (t.left ++ h.dropped) ≡ t.left =
      filter-append (may_stay here) t.left h.dropped ∙ ap (λ l. l ++ filter (may_stay here) h.dropped) (filter_all (may_stay here) t.left h.kept)
      ∙ ap (λ l. t.left ++ l) (filter_none (may_stay here) h.dropped h.late) ∙ append-nil t.left in
      let stays : filter (may_stay here) (w.left ++ ps) ≡ w.left ++ filter (λ p. is_open_at p.first f.limit) ps =
      filter-append (may_stay here) w.left ps ∙ ap (λ l. l ++ filter (may_stay here) ps) (filter_all (may_stay here) w.left (no_pushes w.left left_wait))
      ∙ ap (λ l. w.left ++ l) (filter_alike (may_stay here) (λ p. is_open_at p.first f.limit) ps (alike ps ps_wait)) in
      let moved : IsPermutation t.left (w.left ++ filter (λ p. is_open_at p.first f.limit) ps) =
      subst (λ l. IsPermutation t.left l) stays (subst (λ l. IsPermutation l (filter (may_stay here) (w.left ++ ps))) kept (filter_moved (may_stay here) (t.left ++ h.dropped) (w.left ++ ps) w.all)) in
      let pushes : Left = record { kept = filter (began_by all_pushes f.limit) (spelled (length all_pushes) s.pushes); from = length all_pushes } in
      let left_there : left_of all_pushes pushes ≡ filter (λ p. is_open_at p.first f.limit) ps =
      ap (λ l. picked all_pushes pushes.kept ++ l) (drop_all (length all_pushes) all_pushes (omega arith)) ∙ append-nil (picked all_pushes pushes.kept)
      ∙ picked_filter all_pushes f.limit (spelled (length all_pushes) s.pushes) ∙ ap (filter (λ p. is_open_at p.first f.limit)) (all_spelled all_pushes s.pushes) in
      let fates = all_second (λ p. (may_stay here p ≡ true) ⊎ IsUntold p) w.left ps (all_moved (λ p. (may_stay here p ≡ true) ⊎ IsUntold p) (t.left ++ h.dropped) (w.left ++ ps) w.all (fated t.left h.dropped h.kept h.untold)) in
      let fine : each (may_go all_pushes f.limit) (spelled (length all_pushes) s.pushes) ≡ true =
      each_may_go all_pushes f.limit (spelled (length all_pushes) s.pushes)
      (subst (AllByRecursion (λ p. (is_open_at p.first f.limit || not (is_some p.last)) ≡ true)) (sym (all_spelled all_pushes s.pushes)) (goers ps fates ps_wait ps_calls)) in
      let by = time_by w.pick w.is in
      record {
        place = w.place;
        pick = w.pick;
        there = w.there;
        is = w.is;
        among = subst (λ us. Among board us t) (sym (is w.pick))
            (among_where board _ (view_left w.pick.rest) pushes true (time_of s w.pick) t (both_true _ _ (both_true _ _ (ap not h.before) (open_now _ by)) fine)
            (record {
              left = IsPermutation-trans _ _ _ moved
                  (subst (λ l. IsPermutation (w.left ++ filter (λ p. is_open_at p.first f.limit) ps) (left_of all_others (view_left w.pick.rest) ++ l)) (sym left_there)
                  (IsPermutation-append_left (filter (λ p. is_open_at p.first f.limit) ps) w.left (left_of all_others (view_left w.pick.rest)) w.same));
              shut = sym h.after;
              time = by;
            }));
      }
    where
      no_pushes : (xs : List Stamped) → AllByRecursion (λ x. waits x ≡ false) xs → AllByRecursion (λ x. may_stay here x ≡ true) xs
      no_pushes [] a = tt
      no_pushes (x ∷ xs) a = (or_left (not (waits x)) _ (ap not a.0), no_pushes xs a.1)

      alike : (xs : List Stamped) → AllByRecursion (λ x. waits x ≡ true) xs → AllByRecursion (λ x. may_stay here x ≡ is_open_at x.first f.limit) xs
      alike [] a = tt
      alike (x ∷ xs) a = (stay_is x a.0, alike xs a.1)

      fated : (kept out : List Stamped) → AllByRecursion (λ p. may_stay here p ≡ true) kept → AllByRecursion IsUntold out → AllByRecursion (λ p. (may_stay here p ≡ true) ⊎ IsUntold p) (kept ++ out)
      fated [] [] a b = tt
      fated [] (x ∷ out) a b = (inr b.0, fated [] out tt b.1)
      fated (x ∷ kept) out a b = (inl a.0, fated kept out a.1 b)

      goer : (p : Stamped) → (may_stay here p ≡ true) ⊎ IsUntold p → waits p ≡ true → IsCall p → (is_open_at p.first f.limit || not (is_some p.last)) ≡ true
      goer p (inl a) w c = or_left _ _ (sym (stay_is p w) ∙ a)
      goer p (inr a) w c = or_right (is_open_at p.first f.limit) _ (ap (λ last. not (is_some last)) (untold_unended (p ∷ []) (c, tt) (a, tt)).0)

      goers : (xs : List Stamped) → AllByRecursion (λ p. (may_stay here p ≡ true) ⊎ IsUntold p) xs → AllByRecursion (λ p. waits p ≡ true) xs → AllByRecursion IsCall xs
          → AllByRecursion (λ p. (is_open_at p.first f.limit || not (is_some p.last)) ≡ true) xs
      goers [] a w c = tt
      goers (x ∷ xs) a w c = (goer x a.0 w.0 c.0, goers xs a.1 w.1 c.1)

  drained_among : (refusal : Refusal) → refusal ≡ Closed → (h : IsToldDrained o here t) → (w : Way (t.left ++ h.dropped)) → Among board (refused_of refusal Deq all_pushes s f w.pick) t
  drained_among refusal e h w =
      let left_wait : AllByRecursion (λ o. waits o ≡ false) w.left = (all_moved (λ o. waits o ≡ false) os (o ∷ w.left) w.out os_wait).1 in
      let no = λ (p : Stamped). not (waits p) in
      let from : filter no (t.left ++ h.dropped) ≡ t.left =
      filter-append no t.left h.dropped ∙ ap (λ l. l ++ filter no h.dropped) (filter_all no t.left (flipped false t.left h.none))
      ∙ ap (λ l. t.left ++ l) (filter_none no h.dropped (flipped true h.dropped h.pushes)) ∙ append-nil t.left in
      let to : filter no (w.left ++ ps) ≡ w.left =
      filter-append no w.left ps ∙ ap (λ l. l ++ filter no ps) (filter_all no w.left (flipped false w.left left_wait))
      ∙ ap (λ l. w.left ++ l) (filter_none no ps (flipped true ps ps_wait)) ∙ append-nil w.left in
      let left : IsPermutation t.left w.left = subst (λ l. IsPermutation t.left l) to (subst (λ l. IsPermutation l (filter no (w.left ++ ps))) from (filter_moved no (t.left ++ h.dropped) (w.left ++ ps) w.all)) in
      let dropped : filter waits (t.left ++ h.dropped) ≡ h.dropped =
      filter-append waits t.left h.dropped ∙ ap (λ l. l ++ filter waits h.dropped) (filter_none waits t.left h.none) ∙ filter_all waits h.dropped h.pushes in
      let waiting : filter waits (w.left ++ ps) ≡ ps =
      filter-append waits w.left ps ∙ ap (λ l. l ++ filter waits ps) (filter_none waits w.left left_wait) ∙ filter_all waits ps ps_wait in
      let gone : IsPermutation h.dropped ps = subst (λ l. IsPermutation h.dropped l) waiting (subst (λ l. IsPermutation l (filter waits (w.left ++ ps))) dropped (filter_moved waits (t.left ++ h.dropped) (w.left ++ ps) w.all)) in
      let none : f.push_limit ≡ None = never_ends ps f.push_limit push_limit (untold_unended ps ps_calls (all_moved IsUntold h.dropped ps gone h.untold)) in
      let by = time_by w.pick w.is in
      let pushes : Left = record { kept = []; from = length all_pushes } in
      among_right board (stay (leaves refusal) s f w.pick) _ t
      (among_where board _ (view_left w.pick.rest) pushes s.shut (time_of s w.pick) t
      (both_true _ _ (both_true _ _ (both_true _ _ (ap is_closed e) h.before) (open_now _ by)) (ap (λ l. not (is_some l)) none))
      (record {
        left = subst (λ l. IsPermutation t.left (left_of all_others (view_left w.pick.rest) ++ l)) (sym (nothing_left all_pushes))
            (subst (IsPermutation t.left) (sym (append-nil (left_of all_others (view_left w.pick.rest)))) (IsPermutation-trans _ _ _ left w.same));
        shut = sym h.same;
        time = by;
      }))

  refused_placed : (refusal : Refusal) (op : Op) → GetsRefused refusal op o here t → Placed op (Some (Refused refusal))
  refused_placed refusal (Enq body) (inl h) = let w = way_of t.left h.is in record { place = w.place; pick = w.pick; there = w.there; is = w.is; among = stay_among w _ (or_left _ _ h.leaves) h.same }
  refused_placed refusal (Enq body) (inr h) = let w = way_of t.left h.1.is in record { place = w.place; pick = w.pick; there = w.there; is = w.is; among = stay_among w _ (or_right _ _ (both_true _ _ (ap is_closed h.0) h.1.before)) h.1.same }
  refused_placed refusal Shut (inl h) = let w = way_of t.left h.is in record { place = w.place; pick = w.pick; there = w.there; is = w.is; among = stay_among w _ (or_left _ _ h.leaves) h.same }
  refused_placed refusal Shut (inr h) = let w = way_of t.left h.1.is in record { place = w.place; pick = w.pick; there = w.there; is = w.is; among = stay_among w _ (or_right _ _ (both_true _ _ (ap is_closed h.0) h.1.before)) h.1.same }
  refused_placed refusal Deq (inl h) = let w = way_of t.left h.is in record { place = w.place; pick = w.pick; there = w.there; is = w.is; among = among_left board (stay (leaves refusal) s f w.pick) _ t (stay_among w _ h.leaves h.same) }
  refused_placed refusal Deq (inr h) = let w = way_of (t.left ++ h.1.dropped) h.1.is in record { place = w.place; pick = w.pick; there = w.there; is = w.is; among = drained_among refusal h.0 h.1 w }

  placed : (op : Op) (reply : Option Reply) → is_pending_pop op reply ≡ false → told op reply ≡ None → HasEffect op reply o here t → Placed op reply
  placed (Enq body) None e g h = absurd h
  placed Deq None e g h = absurd cc
  placed Shut None e g h = shut_placed None (λ pick. refl) h
  placed (Enq body) (Some Done) e g h = absurd h
  placed Deq (Some Done) e g h = absurd h
  placed Shut (Some Done) e g h = shut_placed (Some Done) (λ pick. refl) h
  placed (Enq body) (Some (Value v)) e g h = absurd h
  placed Deq (Some (Value v)) e g h = absurd (cc g)
  placed Shut (Some (Value v)) e g h = absurd h
  placed (Enq body) (Some Empty) e g h = absurd h
  placed Deq (Some Empty) e g h = empty_placed h
  placed Shut (Some Empty) e g h = absurd h
  placed (Enq body) (Some (Refused refusal)) e g h = refused_placed refusal (Enq body) h
  placed Deq (Some (Refused refusal)) e g h = refused_placed refusal Deq h
  placed Shut (Some (Refused refusal)) e g h = refused_placed refusal Shut h

  all_placed : (place : ℕ) (pick : Pick) → slice_get ways place ≡ Some pick → pick.operation ≡ o → is_in_turn s f ways o ≡ true → Among board (steps_of o.op o.reply all_pushes s f pick) t
      → Among board (steps_to (length ways) all_pushes s f ways) t
  all_placed place pick there is turn among =
      steps_have board (length ways) place all_pushes s f ways t (slice_get_within ways place pick there)
      (subst (λ x. Among board (steps_at all_pushes s f ways x) t) (sym there)
      (subst (λ b. Among board (steps_where b all_pushes s f pick) t) (sym (ap (is_in_turn s f ways) is ∙ turn))
      (subst (λ o. Among board (steps_of o.op o.reply all_pushes s f pick) t) (sym is) among)))

  one_placed : is_pending_pop o.op o.reply ≡ false → told o.op o.reply ≡ None → HasEffect o.op o.reply o here t → Among board (steps_to (length ways) all_pushes s f ways) t
  one_placed e g h = let p = placed o.op o.reply e g h in all_placed p.place p.pick p.there p.is (ap (λ w. goes_by w s f ways o) g) p.among

  told_placed : (v : Taken) → o.op ≡ Deq → o.reply ≡ Some (Value v) → is_in_turn s f ways o ≡ true → (h : Takes v o here t) → suits f (Some v) h.push ≡ true
      → Among board (steps_to (length ways) all_pushes s f ways) t
  told_placed v op reply turn h fit =
      let k = took v (suits f (Some v)) h fit in
      all_placed k.place k.pick k.there k.is turn
      (subst (λ op. Among board (steps_of op o.reply all_pushes s f k.pick) t) (sym op)
      (subst (λ reply. Among board (steps_of Deq reply all_pushes s f k.pick) t) (sym reply) k.among))

-- each step of an operation that is no pending pop and was told no value leads to one of those that are made
pub each_step : (board : Board) (s : Spot) (f : Front) (ways : List Pick)
    → IsLimit (left_of board.others.items s.others) f.limit → IsLimit (left_of board.pushes.items s.pushes) f.push_limit
    → ArePicks board.others.items s.others f.limit (view_picks ways) → ArePicks board.pushes.items s.pushes f.push_limit (view_picks f.takes.items)
    → AreCalls board → (t : State) (h : Step (state_of board s) t) → is_pending_pop h.operation.op h.operation.reply ≡ false → told h.operation.op h.operation.reply ≡ None
    → Among board (steps_to (length ways) board.pushes.items s f ways) t
each_step board s f ways limit push_limit ways_are takes_are calls t h e g =
    one_placed board s f ways calls limit push_limit ways_are takes_are t h.operation h.since h.began h.ongoing
    (no_push h.operation.op h.operation.reply h.operation (state_of board s) t h.effect) e g h.effect

-- a pop in turn that takes a push of the value that it was told, and none of it is before that one, leads to one of those that are made
pub each_told : (board : Board) (s : Spot) (f : Front) (ways : List Pick)
    → IsLimit (left_of board.others.items s.others) f.limit → IsLimit (left_of board.pushes.items s.pushes) f.push_limit
    → ArePicks board.others.items s.others f.limit (view_picks ways) → ArePicks board.pushes.items s.pushes f.push_limit (view_picks f.takes.items)
    → AreCalls board → (v : Taken) (o : Stamped) (t : State) → s.time ≤ t.time → o.first ≤ t.time → AllByRecursion (OtherIsOpen t.time) (state_of board s).left
    → o.op ≡ Deq → o.reply ≡ Some (Value v) → is_in_turn s f ways o ≡ true → (h : Takes v o (state_of board s) t) → suits f (Some v) h.push ≡ true
    → Among board (steps_to (length ways) board.pushes.items s f ways) t
each_told board s f ways limit push_limit ways_are takes_are calls v o t since began ongoing op reply turn h fit =
    let no : waits o ≡ false = subst (λ op. is_push op o.reply ≡ false) (sym op) refl in
    told_placed board s f ways calls limit push_limit ways_are takes_are t o since began ongoing no v op reply turn h fit

-- a pending pop that takes leads to one of those that are made behind takes
pub record TakenBy (board : Board) (s : Spot) (f : Front) (ways : List Pick) (chosen : Stamped → Bool) (d : Stamped) (t : State) : Type 0 where
  pub place : ℕ
  pub pick : Pick
  pub there : slice_get ways place ≡ Some pick
  pub is : pick.operation ≡ d
  pub among : Among board (takes_to (length f.takes.items) chosen s f pick) t

pub each_take : (board : Board) (s : Spot) (f : Front) (ways : List Pick)
    → IsLimit (left_of board.others.items s.others) f.limit → IsLimit (left_of board.pushes.items s.pushes) f.push_limit
    → ArePicks board.others.items s.others f.limit (view_picks ways) → ArePicks board.pushes.items s.pushes f.push_limit (view_picks f.takes.items)
    → AreCalls board → (chosen : Stamped → Bool) (d p : Stamped) (t : State) → Pops d p (state_of board s) t → chosen p ≡ true → TakenBy board s f ways chosen d t
each_take board s f ways limit push_limit ways_are takes_are calls chosen d p t x fit =
    let no : waits d ≡ false = subst (λ op. is_push op d.reply ≡ false) (sym x.op) refl in
    let k = took board s f ways calls limit push_limit ways_are takes_are t d x.since x.pop_began x.ongoing no x.value chosen
    (record { push = p; is = x.is; pushes = x.pushes; began = x.push_began; first = x.first; same = x.same }) fit in
    record { place = k.place; pick = k.pick; there = k.there; is = k.is; among = k.among }

-- an end is one where no other that is left ended
pub unended : (board : Board) (s : Spot) → AreCalls board → IsEnd (state_of board s) → AllByRecursion (λ o. o.last ≡ None) (left_of board.others.items s.others)
unended board s calls h =
    let others = left_of board.others.items s.others in
    untold_unended others (all_left IsCall board.others.items s.others calls.other_calls)
    (go others (all_left (λ o. waits o ≡ false) board.others.items s.others calls.others) (all_first OtherIsUntold others (left_of board.pushes.items s.pushes) h))
  where
    go : (xs : List Stamped) → AllByRecursion (λ o. waits o ≡ false) xs → AllByRecursion OtherIsUntold xs → AllByRecursion IsUntold xs
    go [] w h = tt
    go (x ∷ xs) w h = (where_off (waits x) (IsUntold x) w.0 h.0, go xs w.1 h.1)

pub ends_true : (xs : List Stamped) (limit : Option ℕ) (b : Bool) → IsLimit xs limit → b ≡ not (is_some limit) → AllByRecursion (λ o. o.last ≡ None) xs → b ≡ true
ends_true xs limit b h e all = e ∙ ap (λ l. not (is_some l)) (never_ends xs limit h all)
