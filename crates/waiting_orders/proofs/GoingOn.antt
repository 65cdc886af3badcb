-- Each state that is made is one to which an operation leads that goes, or is set aside.
use Rattle.std.proofs.Common.{◌≡◌, ℕ, zero, suc, ◌≤◌, Bool, true, false, not, ◌&&◌, ◌||◌, inl, inr, List, [], ◌∷◌, ◌++◌, Option, None, Some, IfSome, is_some, length, slice_get, refl, sym, ap, ◌∙◌, subst, arith}
use Rattle.std.specs.List.{AllByRecursion, filter}
use Rattle.std.specs.List.Sorted.{IsPermutation}
use Rattle.std.proofs.lemmas.List.{append-nil, append_assoc}
use Rattle.std.proofs.lemmas.List.Sorted.{IsPermutation-trans, IsPermutation-cons, IsPermutation-middle, IsPermutation-append, IsPermutation-append_left, IsPermutation-append_right, IsPermutation-filter_both}
use Rattle.history.specs.declared.refusals.Refusal.{Refusal}
use Rattle.history.specs.declared.refusals.Refusal.TheVariants.{Closed}
use Rattle.history.specs.declared.operations.Op.{Op}
use Rattle.history.specs.declared.operations.Op.TheVariants.{Enq, Deq, Shut}
use Rattle.history.specs.declared.operations.Taken.{Taken}
use Rattle.history.specs.declared.operations.Reply.{Reply}
use Rattle.history.specs.declared.operations.Reply.TheVariants.{Done, Value, Empty, Refused}
use Rattle.history.specs.declared.operations.Stamped.{Stamped}
use Rattle.history.specs.History.{leaves, is_closed}
use Rattle.waiting_orders.specs.declared.lines.Pick.{Pick}
use Rattle.waiting_orders.specs.declared.steps.Front.{Front}
use Rattle.waiting_orders.specs.declared.boards.Board.{Board}
use Rattle.waiting_orders.specs.Waiting.{IsCall, State, fits, Pushes, Shuts, IsOpenAt, OtherIsOpen, PushIsOpen, waits, is_open_at, other_is_open, may_stay, every}
use Rattle.waiting_orders.specs.Lines.{Left, IsLimit, AreOut, left_of, view_left, view_pick, view_picks, picked, spelled}
use Rattle.waiting_orders.specs.Nodes.{Spot, AreCalls, state_of, each, where_so, time_of, stay, drained, began_by, may_go, shut_of, is_in_turn, none_before, suits, steps_where, told, take_at, takes_to, refused_of, steps_of, steps_at, steps_to, is_pending, goes_first, takes_where, pending_at, pending_to, pending_where, pending_of, is_first, is_first_at, quiet_time, quiet_at}
use Rattle.waiting_orders.specs.Alone.{IsAloneOf, IsAloneAt, alone_at, take_time}
use Rattle.waiting_orders.specs.Listed.{takes_value}
use Rattle.waiting_orders.specs.Orders.{MayBeTold, IsTimed, DoesTake, DoesOther, LeadsTo}
use Rattle.waiting_orders.specs.Reached.{AreOutOf, IsOutOf}
use Rattle.waiting_orders.proofs.Futures.{all_moved, all_every, every_all}
use Rattle.waiting_orders.proofs.GoingAlone.{fits_pushes, told_got}
use Rattle.waiting_orders.proofs.Limits.{all_first}
use Rattle.waiting_orders.proofs.Inserting.{value_of}
use Rattle.waiting_orders.proofs.Lists.{all_joined, all_weaker, all_filtered, all_pass, or_left, or_right, other_open_true}
use Rattle.waiting_orders.proofs.Passing.{and_parts, closed_is, is_false, late_untold, may_go_all, no_limit_untold, own_value, pending_pop}
use Rattle.waiting_orders.proofs.Quiet.{le_max_left, le_max_right, all_where, all_any, not_waits}
use Rattle.waiting_orders.proofs.Stepping.{all_left, picked_filter, all_spelled, nothing_left}
use Rattle.waiting_orders.proofs.Walking.{all_open_others}

both_out : (ops : List Stamped) (left : Left) (picks : List Pick) → AreOut ops left (view_picks picks) → AreOutOf ops left (view_picks picks) → (k : ℕ)
    → IfSome (slice_get picks k) (λ pick. IsPermutation (left_of ops left) (pick.operation ∷ left_of ops (view_left pick.rest)) × IsOutOf ops left (view_pick pick))
both_out ops left [] h g k = tt
both_out ops left (pick ∷ picks) h g zero = (h.0, g.0)
both_out ops left (pick ∷ picks) h g (suc k) = both_out ops left picks h.1 g.1 k

-- ---- which operations take no value

empty_takes_none : (op : Op) → takes_value op (Some Empty) ≡ false
empty_takes_none (Enq body) = refl
empty_takes_none Deq = refl
empty_takes_none Shut = refl

refused_takes_none : (refusal : Refusal) (op : Op) → takes_value op (Some (Refused refusal)) ≡ false
refused_takes_none refusal (Enq body) = refl
refused_takes_none refusal Deq = refl
refused_takes_none refusal Shut = refl

takes_told : (v : Taken) (o : Stamped) → o.op ≡ Deq → MayBeTold (Value v) o → takes_value o.op o.reply ≡ true
takes_told v o e h = ap (λ op. takes_value op o.reply) e ∙ go o.reply h
  where
    go : (told : Option Reply) → IfSome told (λ told. Value v ≡ told) → takes_value Deq told ≡ true
    go None h = refl
    go (Some told) h = subst (λ r. takes_value Deq (Some r) ≡ true) h refl

module _ (board : Board) (s : Spot) (f : Front) (calls : AreCalls board)
    (limit : IsLimit (left_of board.others.items s.others) f.limit) (push_limit : IsLimit (left_of board.pushes.items s.pushes) f.push_limit) where
  abbrev others : List Stamped
  others = left_of board.others.items s.others

  abbrev pushes : List Stamped
  pushes = left_of board.pushes.items s.pushes

  abbrev here : State
  here = state_of board s

  abbrev pub AreGoing : List Spot → Type 0
  AreGoing us = AllByRecursion (LeadsTo board s) us

  going_joined : (us vs : List Spot) → AreGoing us → AreGoing vs → AreGoing (us ++ vs)
  going_joined [] vs a b = b
  going_joined (u ∷ us) vs a b = (a.0, going_joined us vs a.1 b)

  where_going : (b : Bool) (o p : Left) (shut : Bool) (time : ℕ) → (b ≡ true → LeadsTo board s (record { others = o; pushes = p; shut = shut; time = time })) → AreGoing (where_so b o p shut time)
  where_going true o p shut time h = (h refl, tt)
  where_going false o p shut time h = tt

  other_calls : AllByRecursion IsCall others
  other_calls = all_left IsCall board.others.items s.others calls.other_calls

  push_calls : AllByRecursion IsCall pushes
  push_calls = all_left IsCall board.pushes.items s.pushes calls.push_calls

  others_free : AllByRecursion (λ o. waits o ≡ false) others
  others_free = all_left (λ o. waits o ≡ false) board.others.items s.others calls.others

  pushes_wait : AllByRecursion (λ o. waits o ≡ true) pushes
  pushes_wait = all_left (λ o. waits o ≡ true) board.pushes.items s.pushes calls.pushes

  ongoing_at : (time : ℕ) → is_open_at time f.limit ≡ true → AllByRecursion (OtherIsOpen time) here.left
  ongoing_at time e =
      all_joined (OtherIsOpen time) others pushes (all_any (IsOpenAt time) (λ x. not (waits x)) others (limit.enough other_calls time e))
      (all_where (IsOpenAt time) (λ x. not (waits x)) pushes (not_waits pushes pushes_wait))

  -- an operation that is left, and a push, with what is left without it
  abbrev IsOut : Pick → Type 0
  IsOut way = IsPermutation others (way.operation ∷ left_of board.others.items (view_left way.rest)) × IsOutOf board.others.items s.others (view_pick way)

  abbrev IsTakeOut : Pick → Type 0
  IsTakeOut take = IsPermutation pushes (take.operation ∷ left_of board.pushes.items (view_left take.rest)) × IsOutOf board.pushes.items s.pushes (view_pick take)

  abbrev TakesAreOut : Type 0
  TakesAreOut = (k : ℕ) → IfSome (slice_get f.takes.items k) IsTakeOut

  -- ---- behind one operation

  module _ (way : Pick) (way_is : IsPermutation others (way.operation ∷ left_of board.others.items (view_left way.rest)))
      (way_out : IsOutOf board.others.items s.others (view_pick way)) where
    abbrev o : Stamped
    o = way.operation

    abbrev rest : List Stamped
    rest = left_of board.others.items (view_left way.rest)

    abbrev spot : Left → Bool → ℕ → Spot
    spot p shut time = record { others = view_left way.rest; pushes = p; shut = shut; time = time }

    abbrev next : Left → Bool → ℕ → State
    next p shut time = state_of board (spot p shut time)

    rest_free : AllByRecursion (λ o. waits o ≡ false) (o ∷ rest)
    rest_free = all_moved (λ o. waits o ≡ false) others (o ∷ rest) way_is others_free

    since_then : s.time ≤ time_of s way
    since_then = le_max_left s.time o.first

    began_then : o.first ≤ time_of s way
    began_then = le_max_right s.time o.first

    timed : (p : Left) (shut : Bool) (time : ℕ) → time_of s way ≤ time → is_open_at time f.limit ≡ true → IsTimed o here (next p shut time)
    timed p shut time h e = let b = began_then in record { began = omega (arith, b, h); ongoing = ongoing_at time e }

    -- it takes no value
    plain : (p : Left) (shut : Bool) (time : ℕ) → time_of s way ≤ time → is_open_at time f.limit ≡ true → takes_value o.op o.reply ≡ false → DoesOther o here (next p shut time)
        → LeadsTo board s (spot p shut time)
    plain p shut time h e none does =
        let a = since_then in
        record {
          other = view_pick way;
          out = way_out;
          rest = refl;
          push = None;
          push_out = tt;
          takes = sym none;
          moves = record { time = refl; since = omega (arith, a, h); does = inr (inl (timed p shut time h e, does, refl)) };
        }

    took : (take : Pick) → IsOutOf board.pushes.items s.pushes (view_pick take) → (shut : Bool) (time : ℕ) → time_of s way ≤ time → is_open_at time f.limit ≡ true
        → takes_value o.op o.reply ≡ true → DoesTake o (Some take.operation) here (next (view_left take.rest) shut time) → LeadsTo board s (spot (view_left take.rest) shut time)
    took take take_out shut time h e takes does =
        let a = since_then in
        record {
          other = view_pick way;
          out = way_out;
          rest = refl;
          push = Some (view_pick take);
          push_out = (take_out, refl);
          takes = sym takes;
          moves = record { time = refl; since = omega (arith, a, h); does = inl (timed (view_left take.rest) shut time h e, does) };
        }

    takes_none : (reply : Reply) → o.reply ≡ Some reply → ((op : Op) → takes_value op (Some reply) ≡ false) → takes_value o.op o.reply ≡ false
    takes_none reply e h = ap (takes_value o.op) e ∙ h o.op

    closed_so : (refusal : Refusal) → is_closed refusal ≡ true → o.reply ≡ Some (Refused refusal) → o.reply ≡ Some (Refused Closed)
    closed_so refusal c e = subst (λ r. o.reply ≡ Some (Refused r)) (closed_is refusal c) e

    without_it : IsPermutation here.left (o ∷ (rest ++ pushes))
    without_it = IsPermutation-append_left pushes others (o ∷ rest) way_is

    stay_going : (holds : Bool) → (holds ≡ true → is_open_at (time_of s way) f.limit ≡ true → LeadsTo board s (spot s.pushes s.shut (time_of s way))) → AreGoing (stay holds s f way)
    stay_going holds h = where_going _ (view_left way.rest) s.pushes s.shut (time_of s way) (λ e. let both = and_parts holds (is_open_at (time_of s way) f.limit) e in h both.0 both.1)

    aside_goes : (refusal : Refusal) → o.reply ≡ Some (Refused refusal) → leaves refusal ≡ true → (time : ℕ) → s.time ≤ time → LeadsTo board s (spot s.pushes s.shut time)
    aside_goes refusal e h time since = record {
      other = view_pick way;
      out = way_out;
      rest = refl;
      push = None;
      push_out = tt;
      takes = sym (takes_none (Refused refusal) e (refused_takes_none refusal));
      moves = record { time = refl; since = since; does = inr (inr (record { refusal = refusal; told = e; effect = record { is = without_it; leaves = h; same = refl } }, refl)) };
    }

    pushes_open : (time : ℕ) → is_open_at time f.push_limit ≡ true → AllByRecursion (IsOpenAt time) pushes
    pushes_open time e = push_limit.enough push_calls time e

    none_ended : (time : ℕ) (qs : List Stamped) → AllByRecursion (IsOpenAt time) qs → AllByRecursion (PushIsOpen time) (rest ++ qs)
    none_ended time qs h = all_joined (PushIsOpen time) rest qs (all_where (IsOpenAt time) waits rest rest_free.1) (all_any (IsOpenAt time) waits qs h)

    -- told that the queue is empty
    empty_going : o.op ≡ Deq → o.reply ≡ Some Empty → AreGoing (stay (not s.shut && is_open_at (time_of s way) f.push_limit) s f way)
    empty_going a b = stay_going _ (λ h e.
        let both = and_parts (not s.shut) (is_open_at (time_of s way) f.push_limit) h in
        plain s.pushes s.shut (time_of s way) (omega arith) e (takes_none Empty b empty_takes_none)
        (inl (record {
          op = a;
          told = b;
          effect = record { is = without_it; none = none_ended (time_of s way) pushes (pushes_open (time_of s way) both.1); before = is_false s.shut both.0; same = refl };
        })))

    -- a push or a shut that was refused
    told_going : (refusal : Refusal) → (o.op ≡ Deq → ⊥) → o.reply ≡ Some (Refused refusal) → AreGoing (stay (leaves refusal || (is_closed refusal && s.shut)) s f way)
    told_going refusal a b = stay_going _ (go (leaves refusal) refl)
      where
        go : (l : Bool) → leaves refusal ≡ l → (l || (is_closed refusal && s.shut)) ≡ true → is_open_at (time_of s way) f.limit ≡ true → LeadsTo board s (spot s.pushes s.shut (time_of s way))
        go true l h e = aside_goes refusal b l (time_of s way) since_then
        go false l h e =
            let both = and_parts (is_closed refusal) s.shut h in
            plain s.pushes s.shut (time_of s way) (omega arith) e (takes_none (Refused refusal) b (refused_takes_none refusal))
            (inr (inr (inl (record { other = a; told = closed_so refusal both.0 b; effect = record { is = without_it; before = both.1; same = refl } }))))

    -- a pop that was told that the queue is shut and empty
    drained_going : (refusal : Refusal) → o.op ≡ Deq → o.reply ≡ Some (Refused refusal) → AreGoing (drained (is_closed refusal) board.pushes.items s f way)
    drained_going refusal a b = where_going _ (view_left way.rest) none s.shut (time_of s way) (λ h.
        let c = and_parts (is_closed refusal && s.shut && is_open_at (time_of s way) f.limit) (not (is_some f.push_limit)) h in
        let d = and_parts (is_closed refusal && s.shut) (is_open_at (time_of s way) f.limit) c.0 in
        let e = and_parts (is_closed refusal) s.shut d.0 in
        plain none s.shut (time_of s way) (omega arith) d.1 (takes_none (Refused refusal) b (refused_takes_none refusal))
        (inr (inr (inr (record {
          op = a;
          told = closed_so refusal e.0 b;
          effect = record {
            dropped = pushes;
            is = subst (λ l. IsPermutation here.left (o ∷ l ++ pushes)) (sym nothing) without_it;
            untold = no_limit_untold pushes f.push_limit push_limit push_calls c.1;
            pushes = pushes_wait;
            none = subst (AllByRecursion (λ p. waits p ≡ false)) (sym nothing) rest_free.1;
            before = e.1;
            same = refl;
          };
        })))))
      where
        none : Left
        none = record { kept = []; from = length board.pushes.items }

        nothing : rest ++ left_of board.pushes.items none ≡ rest
        nothing = ap (λ l. rest ++ l) (nothing_left board.pushes.items) ∙ append-nil rest

    -- a shut
    module _ (shut_op : o.op ≡ Shut) (shut_told : MayBeTold Done o) where
      abbrev at_once : Stamped → Bool
      at_once p = is_open_at p.first f.limit

      abbrev too_late : Stamped → Bool
      too_late p = not (is_open_at p.first f.limit)

      abbrev places : List ℕ
      places = spelled (length board.pushes.items) s.pushes

      abbrev kept : Left
      kept = record { kept = filter (began_by board.pushes.items f.limit) places; from = length board.pushes.items }

      kept_is : left_of board.pushes.items kept ≡ filter at_once pushes
      kept_is =
          ap (λ l. picked board.pushes.items kept.kept ++ l) (nothing_left board.pushes.items) ∙ append-nil (picked board.pushes.items kept.kept)
          ∙ picked_filter board.pushes.items f.limit places ∙ ap (filter at_once) (all_spelled board.pushes.items s.pushes)

      without_late : IsPermutation here.left (o ∷ (rest ++ left_of board.pushes.items kept) ++ filter too_late pushes)
      without_late =
          subst (λ l. IsPermutation here.left (o ∷ (rest ++ l) ++ filter too_late pushes)) (sym kept_is)
          (subst (λ l. IsPermutation here.left (o ∷ l)) (sym (append_assoc rest (filter at_once pushes) (filter too_late pushes)))
          (IsPermutation-trans here.left (o ∷ (rest ++ pushes)) _ without_it
          (IsPermutation-cons o (rest ++ pushes) (rest ++ (filter at_once pushes ++ filter too_late pushes))
          (IsPermutation-append_right rest pushes (filter at_once pushes ++ filter too_late pushes) (IsPermutation-filter_both at_once too_late (λ p. refl) pushes)))))

      all_still : (time : ℕ) → is_open_at time f.limit ≡ true → every (other_is_open time) here.left ≡ true
      all_still time e = every_all (other_is_open time) here.left (all_weaker (OtherIsOpen time) (λ x. other_is_open time x ≡ true) (other_open_true time time (omega arith)) here.left (ongoing_at time e))

      late_one : (p : Stamped) → waits p ≡ true → too_late p ≡ true → may_stay here p ≡ false
      late_one p w e = subst (λ b. (not b || every (other_is_open p.first) here.left) ≡ false) (sym w) (go (every (other_is_open p.first) here.left) refl)
        where
          go : (b : Bool) → every (other_is_open p.first) here.left ≡ b → b ≡ false
          go false h = refl
          go true h =
              let all = all_first (λ x. other_is_open p.first x ≡ true) others pushes (all_every (other_is_open p.first) here.left h) in
              let soon : is_open_at p.first f.limit ≡ true = limit.needed p.first (all_open_others p.first others others_free all) in
              let late : is_open_at p.first f.limit ≡ false = is_false (is_open_at p.first f.limit) e in
              let k : true ≡ false = sym soon ∙ late in cc k

      late_all : (ps : List Stamped) → AllByRecursion (λ p. waits p ≡ true) ps → AllByRecursion (λ p. too_late p ≡ true) ps → AllByRecursion (λ p. may_stay here p ≡ false) ps
      late_all [] w h = tt
      late_all (p ∷ ps) w h = (late_one p w.0 h.0, late_all ps w.1 h.1)

      shut_goes : each (may_go board.pushes.items f.limit) places ≡ true → s.shut ≡ false → Shuts o here (next kept true (time_of s way))
      shut_goes e unshut = record {
        dropped = filter too_late pushes;
        is = without_late;
        untold = late_untold f.limit pushes push_calls
            (subst (AllByRecursion (λ p. (is_open_at p.first f.limit || not (is_some p.last)) ≡ true)) (all_spelled board.pushes.items s.pushes) (may_go_all board.pushes.items f.limit places e));
        kept = all_joined (λ p. may_stay here p ≡ true) rest (left_of board.pushes.items kept)
            (all_weaker (λ p. waits p ≡ false) (λ p. may_stay here p ≡ true) (λ p h. or_left (not (waits p)) (every (other_is_open p.first) here.left) (ap not h)) rest rest_free.1)
            (subst (AllByRecursion (λ p. may_stay here p ≡ true)) (sym kept_is)
            (all_weaker (λ p. at_once p ≡ true) (λ p. may_stay here p ≡ true) (λ p h. or_right (not (waits p)) (every (other_is_open p.first) here.left) (all_still p.first h)) (filter at_once pushes) (all_pass at_once pushes)));
        late = late_all (filter too_late pushes) (all_filtered (λ p. waits p ≡ true) too_late pushes pushes_wait) (all_pass too_late pushes);
        before = unshut;
        after = refl;
      }

      shut_going : AreGoing (shut_of board.pushes.items s f way)
      shut_going = where_going _ (view_left way.rest) kept true (time_of s way) (λ h.
          let c = and_parts (not s.shut && is_open_at (time_of s way) f.limit) (each (may_go board.pushes.items f.limit) places) h in
          let d = and_parts (not s.shut) (is_open_at (time_of s way) f.limit) c.0 in
          plain kept true (time_of s way) (omega arith) d.1 (ap (λ op. takes_value op o.reply) shut_op)
          (inr (inl (record { op = shut_op; told = shut_told; effect = shut_goes c.1 (is_false s.shut d.0) }))))

    -- a pop that takes a value
    record MayTake (p : Stamped) : Type 0 where
      value : Taken
      op : o.op ≡ Deq
      told : MayBeTold (Value value) o
      pushes : Pushes value p

    take_goes : (take : Pick) → IsPermutation pushes (take.operation ∷ left_of board.pushes.items (view_left take.rest)) → IsOutOf board.pushes.items s.pushes (view_pick take)
        → MayTake take.operation → is_open_at take.operation.first f.push_limit ≡ true → is_open_at (take_time s way take) f.limit ≡ true
        → LeadsTo board s (spot (view_left take.rest) s.shut (take_time s way take))
    take_goes take take_is take_out m began ongoing =
        let p = take.operation in
        let left = left_of board.pushes.items (view_left take.rest) in
        took take take_out s.shut (take_time s way take) (le_max_left (time_of s way) p.first) ongoing (takes_told m.value o m.op m.told)
        (record {
          op = m.op;
          value = m.value;
          told = m.told;
          effect = record {
            push = p;
            is = IsPermutation-trans _ _ _ (IsPermutation-append others (o ∷ rest) pushes (p ∷ left) way_is take_is) (IsPermutation-cons o (rest ++ p ∷ left) (p ∷ (rest ++ left)) (IsPermutation-middle rest p left));
            pushes = m.pushes;
            began = le_max_right (time_of s way) p.first;
            first = none_ended p.first left (all_moved (IsOpenAt p.first) pushes (p ∷ left) take_is (pushes_open p.first began)).1;
            same = refl;
          };
          push = refl;
        })

    take_going : (test : Stamped → Bool) → ((p : Stamped) → waits p ≡ true → test p ≡ true → MayTake p) → (x : Option Pick) → IfSome x IsTakeOut → AreGoing (take_at test s f way x)
    take_going test may None h = tt
    take_going test may (Some take) h = where_going _ (view_left way.rest) (view_left take.rest) s.shut (take_time s way take) (λ e.
        let c = and_parts (test take.operation && is_open_at take.operation.first f.push_limit) (is_open_at (take_time s way take) f.limit) e in
        let d = and_parts (test take.operation) (is_open_at take.operation.first f.push_limit) c.0 in
        let w = (all_moved (λ p. waits p ≡ true) pushes (take.operation ∷ left_of board.pushes.items (view_left take.rest)) h.0 pushes_wait).0 in
        take_goes take h.0 h.1 (may take.operation w d.0) d.1 c.1)

    takes_going : TakesAreOut → (test : Stamped → Bool) → ((p : Stamped) → waits p ≡ true → test p ≡ true → MayTake p) → (k : ℕ)
        → AreGoing (takes_to k test s f way)
    takes_going outs test may zero = tt
    takes_going outs test may (suc k) =
        going_joined (takes_to k test s f way) (take_at test s f way (slice_get f.takes.items k)) (takes_going outs test may k)
        (take_going test may (slice_get f.takes.items k) (outs k))

    told_as : (reply : Reply) → o.reply ≡ Some reply → MayBeTold reply o
    told_as reply e = subst (λ told. IfSome told (λ told. reply ≡ told)) (sym e) refl

    told_may : (v : Taken) → o.op ≡ Deq → o.reply ≡ Some (Value v) → (p : Stamped) → waits p ≡ true → suits f (Some v) p ≡ true → MayTake p
    told_may v a b p w e = record { value = v; op = a; told = told_as (Value v) b; pushes = fits_pushes v p (and_parts (fits v p) (none_before f v p) e).0 w }

    pending_may : o.op ≡ Deq → o.reply ≡ None → (p : Stamped) → waits p ≡ true → suits f None p ≡ true → MayTake p
    pending_may a b p w e = record { value = value_of p; op = a; told = subst (λ told. IfSome told (λ told. Value (value_of p) ≡ told)) (sym b) tt; pushes = own_value p w }

    refused_going : (op : Op) (refusal : Refusal) → o.op ≡ op → o.reply ≡ Some (Refused refusal) → AreGoing (refused_of refusal op board.pushes.items s f way)
    refused_going (Enq body) refusal a b = told_going refusal (λ d. let k : Enq body ≡ Deq = sym a ∙ d in cc k) b
    refused_going Shut refusal a b = told_going refusal (λ d. let k : Shut ≡ Deq = sym a ∙ d in cc k) b
    refused_going Deq refusal a b =
        going_joined (stay (leaves refusal) s f way) (drained (is_closed refusal) board.pushes.items s f way)
        (stay_going (leaves refusal) (λ l e. aside_goes refusal b l (time_of s way) since_then)) (drained_going refusal a b)

    -- each operation that is no pending pop, by its call and its reply
    steps_going : TakesAreOut → (op : Op) (reply : Option Reply) → o.op ≡ op → o.reply ≡ reply
        → AreGoing (steps_of op reply board.pushes.items s f way)
    steps_going outs (Enq body) None a b = tt
    steps_going outs Deq None a b = tt
    steps_going outs Shut None a b = shut_going a (subst (λ told. IfSome told (λ told. Done ≡ told)) (sym b) tt)
    steps_going outs (Enq body) (Some Done) a b = tt
    steps_going outs Deq (Some Done) a b = tt
    steps_going outs Shut (Some Done) a b = shut_going a (told_as Done b)
    steps_going outs (Enq body) (Some (Value v)) a b = tt
    steps_going outs Deq (Some (Value v)) a b = takes_going outs (suits f (Some v)) (told_may v a b) (length f.takes.items)
    steps_going outs Shut (Some (Value v)) a b = tt
    steps_going outs (Enq body) (Some Empty) a b = tt
    steps_going outs Deq (Some Empty) a b = empty_going a b
    steps_going outs Shut (Some Empty) a b = tt
    steps_going outs (Enq body) (Some (Refused refusal)) a b = refused_going (Enq body) refusal a b
    steps_going outs Deq (Some (Refused refusal)) a b = refused_going Deq refusal a b
    steps_going outs Shut (Some (Refused refusal)) a b = refused_going Shut refusal a b

    pending_going : TakesAreOut → (b : Bool) → (b ≡ true → (o.op ≡ Deq) × (o.reply ≡ None)) → AreGoing (takes_where b s f way)
    pending_going outs true h = let m = h refl in takes_going outs (suits f None) (pending_may m.0 m.1) (length f.takes.items)
    pending_going outs false h = tt

    -- what changes nothing
    quiet_goes : (op : Op) (reply : Option Reply) → o.op ≡ op → o.reply ≡ reply → is_first reply op s f way ≡ true → LeadsTo board s (spot s.pushes s.shut (quiet_time reply s way))
    quiet_goes op None a b e = absurd cc
    quiet_goes op (Some Done) a b e = absurd cc
    quiet_goes op (Some (Value v)) a b e = absurd cc
    quiet_goes (Enq body) (Some Empty) a b e = absurd cc
    quiet_goes Deq (Some Empty) a b e =
        let c = and_parts (not s.shut && is_open_at (time_of s way) f.limit) (is_open_at (time_of s way) f.push_limit) e in
        let d = and_parts (not s.shut) (is_open_at (time_of s way) f.limit) c.0 in
        plain s.pushes s.shut (time_of s way) (omega arith) d.1 (takes_none Empty b empty_takes_none)
        (inl (record {
          op = a;
          told = b;
          effect = record { is = without_it; none = none_ended (time_of s way) pushes (pushes_open (time_of s way) c.1); before = is_false s.shut d.0; same = refl };
        }))
    quiet_goes Shut (Some Empty) a b e = absurd cc
    quiet_goes op (Some (Refused refusal)) a b e = aside_goes refusal b e s.time (omega arith)

    -- a pop that goes alone
    alone_goes : (take : Pick) → IsTakeOut take → (x : Option Taken) → told o.op o.reply ≡ x → IsAloneOf x board.others.items board.pushes.items s f way take
        → LeadsTo board s (spot (view_left take.rest) s.shut (take_time s way take))
    alone_goes take is None e h = absurd h
    alone_goes take is (Some v) e h =
        let got = told_got v o e in
        let w = (all_moved (λ p. waits p ≡ true) pushes (take.operation ∷ left_of board.pushes.items (view_left take.rest)) is.0 pushes_wait).0 in
        take_goes take is.0 is.1 (record { value = v; op = got.op; told = told_as (Value v) got.reply; pushes = fits_pushes v take.operation h.fits w }) h.began h.ongoing

  -- ---- behind each of several

  module _ (ways : List Pick) (outs : AreOut board.others.items s.others (view_picks ways)) (takes : AreOut board.pushes.items s.pushes (view_picks f.takes.items))
      (outs_of : AreOutOf board.others.items s.others (view_picks ways)) (takes_of : AreOutOf board.pushes.items s.pushes (view_picks f.takes.items)) where
    ways_are : (k : ℕ) → IfSome (slice_get ways k) IsOut
    ways_are k = both_out board.others.items s.others ways outs outs_of k

    takes_are : TakesAreOut
    takes_are k = both_out board.pushes.items s.pushes f.takes.items takes takes_of k

    at_going : (x : Option Pick) → IfSome x IsOut → AreGoing (steps_at board.pushes.items s f ways x)
    at_going None h = tt
    at_going (Some way) h = go (is_in_turn s f ways way.operation)
      where
        go : (b : Bool) → AreGoing (steps_where b board.pushes.items s f way)
        go true = steps_going way h.0 h.1 takes_are way.operation.op way.operation.reply refl refl
        go false = tt

    to_going : (k : ℕ) → AreGoing (steps_to k board.pushes.items s f ways)
    to_going zero = tt
    to_going (suc k) =
        going_joined (steps_to k board.pushes.items s f ways) (steps_at board.pushes.items s f ways (slice_get ways k)) (to_going k)
        (at_going (slice_get ways k) (ways_are k))

    pending_at_going : (x : Option Pick) → IfSome x IsOut → AreGoing (pending_at s f ways x)
    pending_at_going None h = tt
    pending_at_going (Some way) h =
        pending_going way h.0 h.1 takes_are (is_pending way && goes_first way.operation.first ways)
        (λ e. pending_pop way.operation.op way.operation.reply (and_parts (is_pending way) (goes_first way.operation.first ways) e).0)

    pending_to_going : (k : ℕ) → AreGoing (pending_to k s f ways)
    pending_to_going zero = tt
    pending_to_going (suc k) =
        going_joined (pending_to k s f ways) (pending_at s f ways (slice_get ways k)) (pending_to_going k)
        (pending_at_going (slice_get ways k) (ways_are k))

    pending_where_going : (b : Bool) → AreGoing (pending_where b s f ways)
    pending_where_going true = pending_to_going (length ways)
    pending_where_going false = tt

    pub going : (behind : List Pick) (new : List Spot) → new ≡ steps_to (length ways) board.pushes.items s f ways ++ pending_of s f behind ways → AreGoing new
    going behind new e =
        subst AreGoing (sym e)
        (going_joined (steps_to (length ways) board.pushes.items s f ways) (pending_of s f behind ways) (to_going (length ways)) (pending_where_going _))

    quiet_at_going : (x : Option Pick) → IfSome x IsOut → is_first_at s f x ≡ true → AreGoing (quiet_at s x)
    quiet_at_going None h e = tt
    quiet_at_going (Some way) h e = (quiet_goes way h.0 h.1 way.operation.op way.operation.reply refl refl e, tt)

    pub going_first : (at : ℕ) (new : List Spot) → is_first_at s f (slice_get ways at) ≡ true → new ≡ quiet_at s (slice_get ways at) → AreGoing new
    going_first at new first e = subst AreGoing (sym e) (quiet_at_going (slice_get ways at) (ways_are at) first)

    alone_at_going : (x y : Option Pick) → IfSome x IsOut → IfSome y IsTakeOut → IsAloneAt board.others.items board.pushes.items s f x y → AreGoing (alone_at s x y)
    alone_at_going None y h k a = tt
    alone_at_going (Some way) None h k a = tt
    alone_at_going (Some way) (Some take) h k a = (alone_goes way h.0 h.1 take k (told way.operation.op way.operation.reply) refl a, tt)

    pub going_alone : (way take : ℕ) (new : List Spot) → IsAloneAt board.others.items board.pushes.items s f (slice_get ways way) (slice_get f.takes.items take)
        → new ≡ alone_at s (slice_get ways way) (slice_get f.takes.items take) → AreGoing new
    going_alone way take new a e =
        subst AreGoing (sym e)
        (alone_at_going (slice_get ways way) (slice_get f.takes.items take) (ways_are way)
        (takes_are take) a)
