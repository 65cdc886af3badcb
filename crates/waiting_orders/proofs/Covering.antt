-- Where a history is one of a queue, its operations can be placed to the end: the order that shows it is walked along.
use Rattle.std.proofs.Common.{◌≡◌, ◌⊎◌, inl, inr, ◌∙◌, append_assoc, ℕ, zero, suc, ◌≤◌, Bool, true, false, not, Option, None, Some, IsSome, IfSome, List, [], ◌∷◌, ◌++◌, length, refl, sym, ap, subst, arith}
use Rattle.std.specs.List.{AllByRecursion, filter}
use Rattle.std.specs.List.Sorted.{IsPermutation}
use Rattle.std.proofs.lemmas.List.Elements.{recursion_from_All}
use Rattle.std.proofs.lemmas.List.Sorted.{IsPermutation-refl, IsPermutation-sym, IsPermutation-cons, IsPermutation-trans, IsPermutation-middle, IsPermutation-append_left, IsPermutation-append_right, IsPermutation-filter_both, IsPermutation-append_comm}
use Rattle.history.specs.declared.operations.Taken.{Taken}
use Rattle.history.specs.declared.operations.Op.{Op}
use Rattle.history.specs.declared.operations.Op.TheVariants.{Enq, Deq, Shut}
use Rattle.history.specs.declared.operations.Reply.{Reply}
use Rattle.history.specs.declared.operations.Reply.TheVariants.{Done, Value, Empty, Refused}
use Rattle.history.specs.declared.operations.Stamped.{Stamped}
use Rattle.history.specs.declared.refusals.Refusal.{Refusal}
use Rattle.history.specs.declared.refusals.Refusal.TheVariants.{Closed}
use Rattle.history.specs.Queue.{Queue, response}
use Rattle.history.specs.History.{leaves, answer, AgreesWithQueue}
use Rattle.history.specs.Linearizability.{Answered, operations_of, IsPending, GivesRecordedReply, KeepsTime, IsRun}
use Rattle.waiting_orders.specs.Waiting.{IsCall, IsOfQueue, waits, Where, IsOpenAt, OtherIsOpen, PushIsOpen, IsUntold, OtherIsUntold, State, IsStart, Pushes, Takes, IsLeft, IsTold, Shuts, HasEffect, Step, IsEnd, CanEnd, every, other_is_open, may_stay}
use Rattle.waiting_orders.proofs.Futures.{all_moved, every_all}
use Rattle.waiting_orders.proofs.Lists.{all_joined, all_without, all_weaker, all_filtered, all_pass, where_any, keeps_without, keeps_last, Later, later, still_open, all_still_open, pending_open, or_left, or_right, other_open_true}

-- ---- more steps

more_steps : (n : ℕ) (s : State) → CanEnd n s → CanEnd (suc n) s
more_steps zero s h = inl h
more_steps (suc n) s (inl h) = inl h
more_steps (suc n) s (inr h) = inr (h.0, h.1, more_steps n h.0 h.2)

-- ---- what is known on the way

-- pushes of these values, in this order
abbrev AreOf : List Stamped → List Taken → Type 0
AreOf [] [] = Unit {0}
AreOf [] (v ∷ vs) = ⊥
AreOf (p ∷ ps) [] = ⊥
AreOf (p ∷ ps) (v ∷ vs) = Pushes v p × AreOf ps vs

-- what is known of the rest of an order, and of the pushes whose values are in the queue where it begins
record Known (rest : List Answered) (content : List Stamped) (vs : List Taken) (shut : Bool) (now : ℕ) : Type 0 where
  calls : AllByRecursion IsCall (operations_of rest)
  told : AllByRecursion GivesRecordedReply rest
  timely : KeepsTime (content ++ operations_of rest)
  runs : IsRun (record { values = vs; shut = shut }) rest
  values : AreOf content vs
  began : AllByRecursion (λ p. p.first ≤ now) content
  ongoing : AllByRecursion (IsOpenAt now) (operations_of rest)

-- these are left in a state
record Stands (these : List Stamped) (shut : Bool) (now : ℕ) (s : State) : Type 0 where
  left : IsPermutation s.left these
  same : s.shut ≡ shut
  since : s.time ≤ now

all_wait : (content : List Stamped) (vs : List Taken) → AreOf content vs → AllByRecursion (λ p. waits p ≡ true) content
all_wait [] [] h = tt
all_wait [] (v ∷ vs) h = absurd h
all_wait (p ∷ ps) [] h = absurd h
all_wait (p ∷ ps) (v ∷ vs) h = (h.0.waits, all_wait ps vs h.1)

where_waits : (P : Stamped → Type 0) (p : Stamped) → waits p ≡ true → Where (not (waits p)) (P p)
where_waits P p e = subst (λ b. Where (not b) (P p)) (sym e) tt

pub pending_is : (o : Stamped) → IsCall o → o.reply ≡ None → IsPending o
pending_is o c e = go o.last refl (subst (λ r. IsSome o.last → IsSome r) e c.ended.0)
  where
    go : (last : Option ℕ) → o.last ≡ last → (IsSome last → IsSome {T = Reply} None) → IsPending o
    go None f h = record { not_ended = f; not_told = e }
    go (Some last) f h = let k : false ≡ true = h refl in absurd cc

-- ---- one operation of an order

module _ (o : Stamped) (reply : Reply) (rest : List Answered) (content loose others : List Stamped) (vs : List Taken) (shut : Bool) (now : ℕ) (s : State)
    (k : Known (record { operation = o; reply = reply } ∷ rest) content vs shut now)
    (pending : AllByRecursion IsPending loose)
    (open_rest : AllByRecursion (IsOpenAt (later now o.first).time) (operations_of rest) → AllByRecursion (IsOpenAt (later now o.first).time) others)
    (here : Stands (content ++ (o ∷ (others ++ loose))) shut now s) where
  abbrev l : Later now o.first
  l = later now o.first

  before_rest : KeepsTime (o ∷ operations_of rest)
  before_rest = keeps_last content (o ∷ operations_of rest) k.timely

  rest_open : AllByRecursion (IsOpenAt l.time) (operations_of rest)
  rest_open = all_still_open now o l (operations_of rest) k.ongoing.1 before_rest.0

  here_open : IsOpenAt l.time o
  here_open = still_open now o.first l.time l.least o.last k.ongoing.0 k.calls.0.spans

  left_open : AllByRecursion (IsOpenAt l.time) (others ++ loose)
  left_open = all_joined (IsOpenAt l.time) others loose (open_rest rest_open) (all_weaker IsPending (IsOpenAt l.time) (pending_open l.time) loose pending)

  all_open : AllByRecursion (OtherIsOpen l.time) s.left
  all_open =
      all_moved (OtherIsOpen l.time) (content ++ (o ∷ (others ++ loose))) s.left (IsPermutation-sym s.left _ here.left)
      (all_joined (OtherIsOpen l.time) content (o ∷ (others ++ loose))
      (all_weaker (λ p. waits p ≡ true) (OtherIsOpen l.time) (where_waits (IsOpenAt l.time)) content (all_wait content vs k.values))
      (where_any (not (waits o)) (IsOpenAt l.time o) here_open, all_weaker (IsOpenAt l.time) (OtherIsOpen l.time) (λ x h. where_any (not (waits x)) (IsOpenAt l.time x) h) (others ++ loose) left_open))

  front : IsPermutation s.left (o ∷ (content ++ (others ++ loose)))
  front = IsPermutation-trans s.left _ _ here.left (IsPermutation-middle content o (others ++ loose))

  began_later : AllByRecursion (λ p. p.first ≤ l.time) content
  began_later = let a = l.since in all_weaker (λ p. p.first ≤ now) (λ p. p.first ≤ l.time) (λ p h. omega (arith, a, h)) content k.began

  -- a state of a later moment
  abbrev then : List Stamped → Bool → State
  then left shut = record { left = left; shut = shut; time = l.time }

  step_to : (left : List Stamped) (b : Bool) → HasEffect o.op o.reply o s (then left b) → Step s (then left b)
  step_to left b e =
      let x = here.since in
      let y = l.since in
      record { operation = o; since = omega (arith, x, y); began = l.began; ongoing = all_open; effect = e }

  -- what is known behind it
  known_then : (content' : List Stamped) (vs' : List Taken) (shut' : Bool) → KeepsTime (content' ++ operations_of rest) → IsRun (record { values = vs'; shut = shut' }) rest
      → AreOf content' vs' → AllByRecursion (λ p. p.first ≤ l.time) content' → Known rest content' vs' shut' l.time
  known_then content' vs' shut' timely runs values began =
      record { calls = k.calls.1; told = k.told.1; timely = timely; runs = runs; values = values; began = began; ongoing = rest_open }

  -- it is left out
  stands_aside : Stands (content ++ (others ++ (o ∷ loose))) shut l.time s
  stands_aside =
      let x = here.since in
      let y = l.since in
      record {
        left = IsPermutation-trans s.left _ _ here.left
            (IsPermutation-append_right content (o ∷ (others ++ loose)) (others ++ (o ∷ loose)) (IsPermutation-sym _ _ (IsPermutation-middle others o loose)));
        same = here.same;
        since = omega (arith, x, y);
      }

  -- nothing is in the queue any more, or never was
  timely_without : KeepsTime (content ++ operations_of rest)
  timely_without = keeps_without content o (operations_of rest) k.timely

  stands_then : (left : List Stamped) (b : Bool) → Stands left b l.time (then left b)
  stands_then left b = record { left = IsPermutation-refl left; same = refl; since = omega arith }

-- ---- the value at the front is taken

abbrev value_in : Reply → Taken → Taken
value_in Done v = v
value_in (Value w) v = w
value_in Empty v = v
value_in (Refused refusal) v = v

same_value : (v w : Taken) → Value v ≡ Value w → w ≡ v
same_value v w e = sym (ap (λ r. value_in r v) e)

module _ (o : Stamped) (reply : Reply) (rest : List Answered) (p : Stamped) (ps loose others : List Stamped) (v : Taken) (vs : List Taken) (shut : Bool) (now : ℕ) (s : State)
    (k : Known (record { operation = o; reply = reply } ∷ rest) (p ∷ ps) (v ∷ vs) shut now)
    (pending : AllByRecursion IsPending loose)
    (open_rest : (time : ℕ) → AllByRecursion (IsOpenAt time) (operations_of rest) → AllByRecursion (IsOpenAt time) others)
    (here : Stands ((p ∷ ps) ++ (o ∷ (others ++ loose))) shut now s) where
  abbrev after_take : State
  after_take = then o reply rest (p ∷ ps) loose others (v ∷ vs) shut now s k pending (open_rest (later now o.first).time) here (ps ++ (others ++ loose)) shut

  moved_take : IsPermutation s.left (o ∷ p ∷ (ps ++ (others ++ loose)))
  moved_take =
      IsPermutation-trans s.left _ _ here.left
      (IsPermutation-trans _ (p ∷ o ∷ (ps ++ (others ++ loose))) _ (IsPermutation-cons p _ _ (IsPermutation-middle ps o (others ++ loose)))
      (IsPermutation-middle (p ∷ []) o (ps ++ (others ++ loose))))

  rest_behind : AllByRecursion (IsOpenAt p.first) (ps ++ operations_of rest)
  rest_behind = all_without (IsOpenAt p.first) ps o (operations_of rest) k.timely.0

  split_behind : (xs ys : List Stamped) → AllByRecursion (IsOpenAt p.first) (xs ++ ys) → AllByRecursion (IsOpenAt p.first) xs × AllByRecursion (IsOpenAt p.first) ys
  split_behind [] ys h = (tt, h)
  split_behind (x ∷ xs) ys h = let m = split_behind xs ys h.1 in ((h.0, m.0), m.1)

  no_other_first : AllByRecursion (PushIsOpen p.first) (ps ++ (others ++ loose))
  no_other_first =
      let m = split_behind ps (operations_of rest) rest_behind in
      all_weaker (IsOpenAt p.first) (PushIsOpen p.first) (λ x h. where_any (waits x) (IsOpenAt p.first x) h) (ps ++ (others ++ loose))
      (all_joined (IsOpenAt p.first) ps (others ++ loose) m.0
      (all_joined (IsOpenAt p.first) others loose (open_rest p.first m.1) (all_weaker IsPending (IsOpenAt p.first) (pending_open p.first) loose pending)))

  took : Takes v o s after_take
  took =
      let a = (later now o.first).since in
      let b = k.began.0 in
      record { push = p; is = moved_take; pushes = k.values.0; began = omega (arith, a, b); first = no_other_first; same = sym here.same }

  take_step : HasEffect o.op o.reply o s after_take → Step s after_take
  take_step e = step_to o reply rest (p ∷ ps) loose others (v ∷ vs) shut now s k pending (open_rest (later now o.first).time) here (ps ++ (others ++ loose)) shut e

  known_taken : IsRun (record { values = vs; shut = shut }) rest → Known rest ps vs shut (later now o.first).time
  known_taken runs =
      known_then o reply rest (p ∷ ps) loose others (v ∷ vs) shut now s k pending (open_rest (later now o.first).time) here ps vs shut
      (keeps_without ps o (operations_of rest) k.timely.1) runs k.values.1
      (began_later o reply rest (p ∷ ps) loose others (v ∷ vs) shut now s k pending (open_rest (later now o.first).time) here).1

  stands_taken : Stands (ps ++ (others ++ loose)) shut (later now o.first).time after_take
  stands_taken = stands_then o reply rest (p ∷ ps) loose others (v ∷ vs) shut now s k pending (open_rest (later now o.first).time) here (ps ++ (others ++ loose)) shut

-- ---- an operation that does nothing

known_skipped : (a : Answered) (rest : List Answered) (content : List Stamped) (vs : List Taken) (shut : Bool) (now : ℕ) → Known (a ∷ rest) content vs shut now
    → IsRun (record { values = vs; shut = shut }) rest → Known rest content vs shut now
known_skipped a rest content vs shut now k runs = record {
  calls = k.calls.1;
  told = k.told.1;
  timely = keeps_without content a.operation (operations_of rest) k.timely;
  runs = runs;
  values = k.values;
  began = k.began;
  ongoing = k.ongoing.1;
}

stands_skipped : (o : Stamped) (content others loose : List Stamped) (shut : Bool) (now : ℕ) (s : State) → Stands (content ++ (o ∷ (others ++ loose))) shut now s
    → Stands (content ++ (others ++ (o ∷ loose))) shut now s
stands_skipped o content others loose shut now s here = record {
  left = IsPermutation-trans s.left _ _ here.left
      (IsPermutation-append_right content (o ∷ (others ++ loose)) (others ++ (o ∷ loose)) (IsPermutation-sym _ _ (IsPermutation-middle others o loose)));
  same = here.same;
  since = here.since;
}

at_end : (content loose : List Stamped) (vs : List Taken) (shut : Bool) (now : ℕ) (s : State) → AreOf content vs → AllByRecursion IsPending loose
    → Stands (content ++ loose) shut now s → IsEnd s
at_end content loose vs shut now s values pending here =
    all_moved OtherIsUntold (content ++ loose) s.left (IsPermutation-sym s.left _ here.left)
    (all_joined OtherIsUntold content loose
    (all_weaker (λ p. waits p ≡ true) OtherIsUntold (where_waits IsUntold) content (all_wait content vs values))
    (all_weaker IsPending OtherIsUntold (λ x h. where_any (not (waits x)) (IsUntold x) h.not_told) loose pending))

-- ---- an order is walked along, where the queue is shut

abbrev others_in : List Stamped → List Stamped
others_in os = filter (λ o. not (waits o)) os

-- the rest of an order can be walked
abbrev ShutGoesOn : List Answered → Type 0
ShutGoesOn rest = (content loose : List Stamped) (vs : List Taken) (now : ℕ) (s : State) → Known rest content vs true now → AllByRecursion IsPending loose
    → Stands (content ++ (others_in (operations_of rest) ++ loose)) true now s → CanEnd (length rest) s

open_others : (rest : List Answered) (time : ℕ) → AllByRecursion (IsOpenAt time) (operations_of rest) → AllByRecursion (IsOpenAt time) (others_in (operations_of rest))
open_others rest time h = all_filtered (IsOpenAt time) (λ o. not (waits o)) (operations_of rest) h

not_waits : (b : Bool) → not b ≡ true → b ≡ false
not_waits true e = absurd cc
not_waits false e = refl

others_wait_not : (os : List Stamped) → AllByRecursion (λ y. waits y ≡ false) (others_in os)
others_wait_not os = all_weaker (λ y. not (waits y) ≡ true) (λ y. waits y ≡ false) (λ y e. not_waits (waits y) e) (others_in os) (all_pass (λ y. not (waits y)) os)

-- those of a list that pass a test, and those that don't
both_kinds : (test : Stamped → Bool) (xs : List Stamped) → IsPermutation xs (filter (λ o. not (test o)) xs ++ filter test xs)
both_kinds test xs =
    IsPermutation-trans xs _ _ (IsPermutation-filter_both test (λ o. not (test o)) (λ o. refl) xs) (IsPermutation-append_comm (filter test xs) (filter (λ o. not (test o)) xs))

-- pushes among those left out are set apart
set_apart : (content others loose : List Stamped) → IsPermutation (content ++ (others ++ loose)) ((content ++ (others ++ others_in loose)) ++ filter waits loose)
set_apart content others loose =
    let e : content ++ (others ++ (others_in loose ++ filter waits loose)) ≡ (content ++ (others ++ others_in loose)) ++ filter waits loose =
    ap (λ xs. content ++ xs) (sym (append_assoc others (others_in loose) (filter waits loose))) ∙ sym (append_assoc content (others ++ others_in loose) (filter waits loose)) in
    subst (λ xs. IsPermutation (content ++ (others ++ loose)) xs) e
    (IsPermutation-append_right content _ _ (IsPermutation-append_right others _ _ (both_kinds waits loose)))

module _ (rest : List Answered) (more : ShutGoesOn rest) (actor first : ℕ) (last at : Option ℕ) (content loose : List Stamped) (now : ℕ) (s : State)
    (pending : AllByRecursion IsPending loose) where
  abbrev shut_op : Op → Option Reply → Stamped
  shut_op op told = record { actor = actor; op = op; first = first; last = last; at = at; reply = told }

  abbrev ShutCase : Op → Option Reply → Reply → List Taken → Type 0
  ShutCase op told reply vs = Known (record { operation = shut_op op told; reply = reply } ∷ rest) content vs true now
      → Stands (content ++ (others_in (shut_op op told ∷ operations_of rest) ++ loose)) true now s → CanEnd (suc (length rest)) s

  -- a push that nobody was told of, and that did nothing
  shut_skips : (op : Op) (told : Option Reply) (reply : Reply) (vs : List Taken) → IsRun (record { values = vs; shut = true }) rest
      → Known (record { operation = shut_op op told; reply = reply } ∷ rest) content vs true now
      → Stands (content ++ (others_in (operations_of rest) ++ loose)) true now s → CanEnd (suc (length rest)) s
  shut_skips op told reply vs runs k here =
      more_steps (length rest) s (more content loose vs now s (known_skipped _ rest content vs true now k runs) pending here)

  -- another one that did nothing
  shut_aside : (op : Op) (reply : Reply) (vs : List Taken) → waits (shut_op op None) ≡ false → IsRun (record { values = vs; shut = true }) rest
      → Known (record { operation = shut_op op None; reply = reply } ∷ rest) content vs true now
      → Stands (content ++ (shut_op op None ∷ (others_in (operations_of rest) ++ loose))) true now s → CanEnd (suc (length rest)) s
  shut_aside op reply vs w runs k here =
      more_steps (length rest) s
      (more content (shut_op op None ∷ loose) vs now s (known_skipped _ rest content vs true now k runs) (pending_is (shut_op op None) k.calls.0 refl, pending)
      (stands_skipped (shut_op op None) content (others_in (operations_of rest)) loose true now s here))

  -- one that was refused
  shut_refused : (op : Op) (refusal : Refusal) (vs : List Taken) (told : Option Reply) → IsRun (record { values = vs; shut = true }) rest
      → (k : Known (record { operation = shut_op op told; reply = Refused refusal } ∷ rest) content vs true now)
      → (here : Stands (content ++ (shut_op op told ∷ (others_in (operations_of rest) ++ loose))) true now s)
      → HasEffect op told (shut_op op told) s (record { left = content ++ (others_in (operations_of rest) ++ loose); shut = true; time = (later now first).time })
      → CanEnd (suc (length rest)) s
  shut_refused op refusal vs told runs k here effect =
      let o = shut_op op told in
      let others = others_in (operations_of rest) in
      inr (
        _,
        step_to o (Refused refusal) rest content loose others vs true now s k pending (open_others rest (later now first).time) here (content ++ (others ++ loose)) true effect,
        more content loose vs (later now first).time _
            (known_then o (Refused refusal) rest content loose others vs true now s k pending (open_others rest (later now first).time) here content vs true
            (keeps_without content o (operations_of rest) k.timely) runs k.values
            (began_later o (Refused refusal) rest content loose others vs true now s k pending (open_others rest (later now first).time) here))
            pending (stands_then o (Refused refusal) rest content loose others vs true now s k pending (open_others rest (later now first).time) here (content ++ (others ++ loose)) true),
      )

  shut_front : (op : Op) (refusal : Refusal) (vs : List Taken) (told : Option Reply)
      → (k : Known (record { operation = shut_op op told; reply = Refused refusal } ∷ rest) content vs true now)
      → (here : Stands (content ++ (shut_op op told ∷ (others_in (operations_of rest) ++ loose))) true now s)
      → IsPermutation s.left (shut_op op told ∷ (content ++ (others_in (operations_of rest) ++ loose)))
  shut_front op refusal vs told k here =
      front (shut_op op told) (Refused refusal) rest content loose (others_in (operations_of rest)) vs true now s k pending (open_others rest (later now first).time) here

  -- a push or a shut that was told it, or one refused for something else
  shut_leaves : (op : Op) (refusal : Refusal) (vs : List Taken) → leaves refusal ≡ true
      → (k : Known (record { operation = shut_op op (Some (Refused refusal)); reply = Refused refusal } ∷ rest) content vs true now)
      → (here : Stands (content ++ (shut_op op (Some (Refused refusal)) ∷ (others_in (operations_of rest) ++ loose))) true now s)
      → IsLeft refusal (shut_op op (Some (Refused refusal))) s (record { left = content ++ (others_in (operations_of rest) ++ loose); shut = true; time = (later now first).time })
  shut_leaves op refusal vs h k here = record { is = shut_front op refusal vs _ k here; leaves = h; same = sym here.same }

  shut_told : (op : Op) (refusal : Refusal) (vs : List Taken)
      → (k : Known (record { operation = shut_op op (Some (Refused refusal)); reply = Refused refusal } ∷ rest) content vs true now)
      → (here : Stands (content ++ (shut_op op (Some (Refused refusal)) ∷ (others_in (operations_of rest) ++ loose))) true now s)
      → IsTold (shut_op op (Some (Refused refusal))) s (record { left = content ++ (others_in (operations_of rest) ++ loose); shut = true; time = (later now first).time })
  shut_told op refusal vs k here = record { is = shut_front op refusal vs _ k here; before = here.same; same = sym here.same }

  shut_refused_case : (op : Op) (refusal : Refusal) (vs : List Taken) → AreOf content vs → ShutCase op (Some (Refused refusal)) (Refused refusal) vs
  shut_refused_case (Enq body) refusal vs are k here = go k.runs.0
    where
      go : (leaves refusal ≡ true) ⊎ ((refusal ≡ Closed) × (Refused Closed ≡ (response actor (Enq body) (record { values = vs; shut = true })).reply)) → CanEnd (suc (length rest)) s
      go (inl h) = shut_refused (Enq body) refusal vs _ k.runs.1 k here (inl (shut_leaves (Enq body) refusal vs h k here))
      go (inr h) = shut_refused (Enq body) refusal vs _ k.runs.1 k here (inr (h.0, shut_told (Enq body) refusal vs k here))
  shut_refused_case Shut refusal vs are k here = go k.runs.0
    where
      go : (leaves refusal ≡ true) ⊎ ((refusal ≡ Closed) × (Refused Closed ≡ (response actor Shut (record { values = vs; shut = true })).reply)) → CanEnd (suc (length rest)) s
      go (inl h) = shut_refused Shut refusal vs _ k.runs.1 k here (inl (shut_leaves Shut refusal vs h k here))
      go (inr h) = shut_refused Shut refusal vs _ k.runs.1 k here (inr (h.0, shut_told Shut refusal vs k here))
  shut_refused_case Deq refusal vs are k here = go k.runs.0
    where
      drained : (vs : List Taken) (cs : List Stamped) → AreOf cs vs → Refused Closed ≡ (response actor Deq (record { values = vs; shut = true })).reply → AllByRecursion (λ p. waits p ≡ false) cs
      drained [] [] a e = tt
      drained [] (c ∷ cs) a e = absurd a
      drained (v ∷ vs) cs a e = absurd cc

      go : (leaves refusal ≡ true) ⊎ ((refusal ≡ Closed) × (Refused Closed ≡ (response actor Deq (record { values = vs; shut = true })).reply)) → CanEnd (suc (length rest)) s
      go (inl h) = shut_refused Deq refusal vs _ k.runs.1 k here (inl (shut_leaves Deq refusal vs h k here))
      go (inr h) =
          let o = shut_op Deq (Some (Refused refusal)) in
          let others = others_in (operations_of rest) in
          let kept = others_in loose in
          let t : State = record { left = content ++ (others ++ kept); shut = true; time = (later now first).time } in
          inr (
            t,
            step_to o (Refused refusal) rest content loose others vs true now s k pending (open_others rest (later now first).time) here (content ++ (others ++ kept)) true
                (inr (
                  h.0,
                  record {
                    dropped = filter waits loose;
                    is = IsPermutation-trans s.left _ _ (shut_front Deq refusal vs _ k here) (IsPermutation-cons o _ _ (set_apart content others loose));
                    untold = all_filtered IsUntold waits loose (all_weaker IsPending IsUntold (λ x p. p.not_told) loose pending);
                    pushes = all_pass waits loose;
                    none = all_joined (λ p. waits p ≡ false) content (others ++ kept) (drained vs content are h.1)
                        (all_joined (λ p. waits p ≡ false) others kept (others_wait_not (operations_of rest)) (others_wait_not loose));
                    before = here.same;
                    same = sym here.same;
                  },
                )),
            more content kept vs (later now first).time t
                (known_then o (Refused refusal) rest content loose others vs true now s k pending (open_others rest (later now first).time) here content vs true
                (keeps_without content o (operations_of rest) k.timely) k.runs.1 k.values
                (began_later o (Refused refusal) rest content loose others vs true now s k pending (open_others rest (later now first).time) here))
                (all_filtered IsPending (λ o. not (waits o)) loose pending)
                (record { left = IsPermutation-refl _; same = refl; since = omega arith }),
          )

-- the value at the front of a queue that is shut is taken
shut_takes : (rest : List Answered) → ShutGoesOn rest → (o : Stamped) (content loose : List Stamped) (vs : List Taken) (v : Taken) (now : ℕ) (s : State)
    → AllByRecursion IsPending loose
    → o.op ≡ Deq → Value v ≡ (response o.actor Deq (record { values = vs; shut = true })).reply
    → IsRun (response o.actor Deq (record { values = vs; shut = true })).after rest
    → ((t : State) → Takes v o s t → HasEffect o.op o.reply o s t)
    → AreOf content vs
    → Known (record { operation = o; reply = Value v } ∷ rest) content vs true now
    → Stands (content ++ (o ∷ (others_in (operations_of rest) ++ loose))) true now s → CanEnd (suc (length rest)) s
shut_takes rest more o content loose [] v now s pending d e runs effect are k here = absurd cc
shut_takes rest more o [] loose (w ∷ vs) v now s pending d e runs effect are k here = absurd are
shut_takes rest more o (p ∷ ps) loose (w ∷ vs) v now s pending d e runs effect are k here =
    let others = others_in (operations_of rest) in
    let t = after_take o (Value v) rest p ps loose others w vs true now s k pending (open_others rest) here in
    inr (
      t,
      take_step o (Value v) rest p ps loose others w vs true now s k pending (open_others rest) here
          (effect t (subst (λ w. Takes w o s t) (same_value v w e) (took o (Value v) rest p ps loose others w vs true now s k pending (open_others rest) here))),
      more ps loose vs (later now o.first).time t (known_taken o (Value v) rest p ps loose others w vs true now s k pending (open_others rest) here runs) pending
          (stands_taken o (Value v) rest p ps loose others w vs true now s k pending (open_others rest) here),
    )

module _ (rest : List Answered) (more : ShutGoesOn rest) (actor first : ℕ) (last at : Option ℕ) (content loose : List Stamped) (vs : List Taken) (now : ℕ) (s : State)
    (pending : AllByRecursion IsPending loose) (are : AreOf content vs) where
  abbrev shut_o : Op → Option Reply → Stamped
  shut_o op told = record { actor = actor; op = op; first = first; last = last; at = at; reply = told }

  abbrev CaseOf : Op → Option Reply → Reply → Type 0
  CaseOf op told reply = Known (record { operation = shut_o op told; reply = reply } ∷ rest) content vs true now
      → Stands (content ++ (others_in (shut_o op told ∷ operations_of rest) ++ loose)) true now s → CanEnd (suc (length rest)) s

  -- what a queue that is shut doesn't answer
  never_done : (vs : List Taken) → Done ≡ (response actor Deq (record { values = vs; shut = true })).reply → ⊥
  never_done [] e = cc e
  never_done (v ∷ vs) e = cc e

  never_empty : (vs : List Taken) → Empty ≡ (response actor Deq (record { values = vs; shut = true })).reply → ⊥
  never_empty [] e = cc e
  never_empty (v ∷ vs) e = cc e

  told_shut : (op : Op) (r : Reply) → CaseOf op (Some r) r
  told_shut op (Refused refusal) k here = shut_refused_case rest more actor first last at content loose now s pending op refusal vs are k (placed op here)
    where
      placed : (op : Op) → Stands (content ++ (others_in (shut_o op (Some (Refused refusal)) ∷ operations_of rest) ++ loose)) true now s
          → Stands (content ++ (others_in (shut_o op (Some (Refused refusal)) ∷ operations_of rest) ++ loose)) true now s
      placed op h = h
  told_shut (Enq body) Done k here = absurd (let e : Done ≡ Refused Closed = k.runs.0 in cc e)
  told_shut (Enq body) (Value v) k here = absurd (let e : Value v ≡ Refused Closed = k.runs.0 in cc e)
  told_shut (Enq body) Empty k here = absurd (let e : Empty ≡ Refused Closed = k.runs.0 in cc e)
  told_shut Shut Done k here = absurd (let e : Done ≡ Refused Closed = k.runs.0 in cc e)
  told_shut Shut (Value v) k here = absurd (let e : Value v ≡ Refused Closed = k.runs.0 in cc e)
  told_shut Shut Empty k here = absurd (let e : Empty ≡ Refused Closed = k.runs.0 in cc e)
  told_shut Deq Done k here = absurd (never_done vs k.runs.0)
  told_shut Deq Empty k here = absurd (never_empty vs k.runs.0)
  told_shut Deq (Value v) k here =
      shut_takes rest more (shut_o Deq (Some (Value v))) content loose vs v now s pending refl k.runs.0 k.runs.1 (λ t h. h) are k here

  untold_shut : (op : Op) (r : Reply) → CaseOf op None r
  untold_shut (Enq body) (Refused refusal) k here = shut_skips rest more actor first last at content loose now s pending (Enq body) None (Refused refusal) vs k.runs.1 k here
  untold_shut (Enq body) Done k here = absurd (let e : Done ≡ Refused Closed = k.runs.0 in cc e)
  untold_shut (Enq body) (Value v) k here = absurd (let e : Value v ≡ Refused Closed = k.runs.0 in cc e)
  untold_shut (Enq body) Empty k here = absurd (let e : Empty ≡ Refused Closed = k.runs.0 in cc e)
  untold_shut Shut (Refused refusal) k here = shut_aside rest more actor first last at content loose now s pending Shut (Refused refusal) vs refl k.runs.1 k here
  untold_shut Shut Done k here = absurd (let e : Done ≡ Refused Closed = k.runs.0 in cc e)
  untold_shut Shut (Value v) k here = absurd (let e : Value v ≡ Refused Closed = k.runs.0 in cc e)
  untold_shut Shut Empty k here = absurd (let e : Empty ≡ Refused Closed = k.runs.0 in cc e)
  untold_shut Deq (Refused refusal) k here = shut_aside rest more actor first last at content loose now s pending Deq (Refused refusal) vs refl k.runs.1 k here
  untold_shut Deq Done k here = absurd (never_done vs k.runs.0)
  untold_shut Deq Empty k here = absurd (never_empty vs k.runs.0)
  untold_shut Deq (Value v) k here =
      shut_takes rest more (shut_o Deq None) content loose vs v now s pending refl k.runs.0 k.runs.1 (λ t h. (v, h)) are k here

  any_shut : (op : Op) (told : Option Reply) (reply : Reply) → CaseOf op told reply
  any_shut op None reply k here = untold_shut op reply k here
  any_shut op (Some r) reply k here =
      told_shut op r (subst (λ reply. Known (record { operation = shut_o op (Some r); reply = reply } ∷ rest) content vs true now) k.told.0 k) here

walk_shut : (rest : List Answered) → ShutGoesOn rest
walk_shut [] content loose vs now s k pending here = at_end content loose vs true now s k.values pending here
walk_shut (a ∷ rest) content loose vs now s k pending here =
    any_shut rest (walk_shut rest) a.operation.actor a.operation.first a.operation.last a.operation.at content loose vs now s pending k.values
    a.operation.op a.operation.reply a.reply k here

-- ---- an order is walked along, where the queue isn't shut

-- behind a shut no push is told done
shut_stays : (q : Queue) → q.shut ≡ true → (o : Stamped) (reply : Reply) → (answer q o (Some reply)).after.shut ≡ true
shut_stays q e o reply = go q.values q.shut e o.op reply
  where
    give : (values : List Taken) (shut : Bool) → shut ≡ true → (op : Op) → (response o.actor op (record { values = values; shut = shut })).after.shut ≡ true
    give values true e (Enq body) = refl
    give values false e (Enq body) = absurd cc
    give [] shut e Deq = e
    give (v ∷ vs) shut e Deq = e
    give values true e Shut = refl
    give values false e Shut = absurd cc

    go : (values : List Taken) (shut : Bool) → shut ≡ true → (op : Op) (reply : Reply)
        → (answer (record { values = values; shut = shut }) (record o { op = op }) (Some reply)).after.shut ≡ true
    go values shut e op (Refused refusal) = e
    go values shut e op Done = give values shut e op
    go values shut e op (Value v) = give values shut e op
    go values shut e op Empty = give values shut e op

abbrev with_call : Stamped → Op → Option Reply → Stamped
with_call o op reply = record o { op = op; reply = reply }

pushes_untold : (rest : List Answered) (q : Queue) → q.shut ≡ true → IsRun q rest → AllByRecursion GivesRecordedReply rest
    → AllByRecursion IsUntold (filter waits (operations_of rest))
pushes_untold [] q e runs told = tt
pushes_untold (a ∷ rest) q e runs told =
    go a.operation.op a.operation.reply a.reply runs.0 told.0
    (pushes_untold rest (answer q a.operation (Some a.reply)).after (shut_stays q e a.operation a.reply) runs.1 told.1)
  where
    done : (shut : Bool) → shut ≡ true → (body : _) → Done ≡ (response a.operation.actor (Enq body) (record { values = q.values; shut = shut })).reply → ⊥
    done true e body d = cc d
    done false e body d = cc e

    go : (op : Op) (reply : Option Reply) (given : Reply) → AgreesWithQueue q (with_call a.operation op reply) (Some given) → IfSome reply (λ told. given ≡ told)
        → AllByRecursion IsUntold (filter waits (operations_of rest)) → AllByRecursion IsUntold (filter waits (with_call a.operation op reply ∷ operations_of rest))
    go (Enq body) None given agrees t rest_too = (refl, rest_too)
    go (Enq body) (Some Done) given agrees t rest_too = absurd (done q.shut e body (subst (λ g. AgreesWithQueue q (with_call a.operation (Enq body) (Some Done)) (Some g)) t agrees))
    go (Enq body) (Some (Value v)) given agrees t rest_too = rest_too
    go (Enq body) (Some Empty) given agrees t rest_too = rest_too
    go (Enq body) (Some (Refused refusal)) given agrees t rest_too = rest_too
    go Deq reply given agrees t rest_too = rest_too
    go Shut reply given agrees t rest_too = rest_too

-- the rest of an order can be walked
abbrev OpenGoesOn : List Answered → Type 0
OpenGoesOn rest = (content loose : List Stamped) (vs : List Taken) (now : ℕ) (s : State) → Known rest content vs false now → AllByRecursion IsPending loose
    → Stands (content ++ (operations_of rest ++ loose)) false now s → CanEnd (length rest) s

module _ (rest : List Answered) (more : OpenGoesOn rest) (actor first : ℕ) (last at : Option ℕ) (content loose : List Stamped) (vs : List Taken) (now : ℕ) (s : State)
    (pending : AllByRecursion IsPending loose) where
  abbrev open_o : Op → Option Reply → Stamped
  open_o op told = record { actor = actor; op = op; first = first; last = last; at = at; reply = told }

  abbrev KnownOf : Op → Option Reply → Reply → Type 0
  KnownOf op told reply = Known (record { operation = open_o op told; reply = reply } ∷ rest) content vs false now

  abbrev StandsOf : Op → Option Reply → Type 0
  StandsOf op told = Stands (content ++ (open_o op told ∷ (operations_of rest ++ loose))) false now s

  abbrev moment : ℕ
  moment = (later now first).time

  -- one that did nothing, and that nobody was told of
  open_aside : (op : Op) (reply : Reply) → IsRun (record { values = vs; shut = false }) rest → KnownOf op None reply → StandsOf op None → CanEnd (suc (length rest)) s
  open_aside op reply runs k here =
      more_steps (length rest) s
      (more content (open_o op None ∷ loose) vs now s (known_skipped _ rest content vs false now k runs) (pending_is (open_o op None) k.calls.0 refl, pending)
      (stands_skipped (open_o op None) content (operations_of rest) loose false now s here))

  -- a push has its effect, and waits
  open_pushes : (body : _) (told : Option Reply) → waits (open_o (Enq body) told) ≡ true
      → IsRun (record { values = vs ++ record { from = actor; body = body } ∷ []; shut = false }) rest
      → KnownOf (Enq body) told Done → StandsOf (Enq body) told → CanEnd (suc (length rest)) s
  open_pushes body told w runs k here =
      let o = open_o (Enq body) told in
      let joined : (content ++ o ∷ []) ++ (operations_of rest ++ loose) ≡ content ++ (o ∷ (operations_of rest ++ loose)) = append_assoc content (o ∷ []) (operations_of rest ++ loose) in
      let timely : KeepsTime ((content ++ o ∷ []) ++ operations_of rest) = subst KeepsTime (sym (append_assoc content (o ∷ []) (operations_of rest))) k.timely in
      more_steps (length rest) s
      (more (content ++ o ∷ []) loose (vs ++ record { from = actor; body = body } ∷ []) moment s
      (known_then o Done rest content loose (operations_of rest) vs false now s k pending (λ h. h) here (content ++ o ∷ []) (vs ++ record { from = actor; body = body } ∷ []) false
      timely runs (are_pushed content vs k.values)
      (all_joined (λ p. p.first ≤ moment) content (o ∷ []) (began_later o Done rest content loose (operations_of rest) vs false now s k pending (λ h. h) here) ((later now first).began, tt)))
      pending
      (record { left = subst (λ xs. IsPermutation s.left xs) (sym joined) here.left; same = here.same; since = (let a = here.since in let b = (later now first).since in omega (arith, a, b)) }))
    where
      are_pushed : (cs : List Stamped) (ws : List Taken) → AreOf cs ws → AreOf (cs ++ open_o (Enq body) told ∷ []) (ws ++ record { from = actor; body = body } ∷ [])
      are_pushed [] [] a = (record { actor = refl; op = refl; waits = w }, tt)
      are_pushed [] (w ∷ ws) a = absurd a
      are_pushed (c ∷ cs) [] a = absurd a
      are_pushed (c ∷ cs) (w ∷ ws) a = (a.0, are_pushed cs ws a.1)

  -- one that leaves the queue as it is takes its step
  open_stays : (op : Op) (told : Option Reply) (reply : Reply) → IsRun (record { values = vs; shut = false }) rest → (k : KnownOf op told reply) → (here : StandsOf op told)
      → HasEffect op told (open_o op told) s (record { left = content ++ (operations_of rest ++ loose); shut = false; time = moment })
      → CanEnd (suc (length rest)) s
  open_stays op told reply runs k here effect =
      let o = open_o op told in
      inr (
        _,
        step_to o reply rest content loose (operations_of rest) vs false now s k pending (λ h. h) here (content ++ (operations_of rest ++ loose)) false effect,
        more content loose vs moment _
            (known_then o reply rest content loose (operations_of rest) vs false now s k pending (λ h. h) here content vs false
            (keeps_without content o (operations_of rest) k.timely) runs k.values
            (began_later o reply rest content loose (operations_of rest) vs false now s k pending (λ h. h) here))
            pending (stands_then o reply rest content loose (operations_of rest) vs false now s k pending (λ h. h) here (content ++ (operations_of rest ++ loose)) false),
      )

  open_leaves : (op : Op) (refusal : Refusal) → leaves refusal ≡ true → (k : KnownOf op (Some (Refused refusal)) (Refused refusal)) → (here : StandsOf op (Some (Refused refusal)))
      → IsLeft refusal (open_o op (Some (Refused refusal))) s (record { left = content ++ (operations_of rest ++ loose); shut = false; time = moment })
  open_leaves op refusal h k here =
      record { is = front (open_o op (Some (Refused refusal))) (Refused refusal) rest content loose (operations_of rest) vs false now s k pending (λ h. h) here; leaves = h; same = sym here.same }

  -- what a queue that isn't shut refuses, it refuses for something else
  not_closed : (vs : List Taken) (op : Op) → Refused Closed ≡ (response actor op (record { values = vs; shut = false })).reply → ⊥
  not_closed vs (Enq body) e = cc e
  not_closed vs Shut e = cc e
  not_closed [] Deq e = cc e
  not_closed (v ∷ vs) Deq e = cc e

  leaves_it : (op : Op) (refusal : Refusal) → (leaves refusal ≡ true) ⊎ ((refusal ≡ Closed) × (Refused Closed ≡ (response actor op (record { values = vs; shut = false })).reply)) → leaves refusal ≡ true
  leaves_it op refusal (inl h) = h
  leaves_it op refusal (inr h) = absurd (not_closed vs op h.1)

  open_refused : (op : Op) (refusal : Refusal) → KnownOf op (Some (Refused refusal)) (Refused refusal) → StandsOf op (Some (Refused refusal)) → CanEnd (suc (length rest)) s
  open_refused (Enq body) refusal k here = open_stays (Enq body) _ (Refused refusal) k.runs.1 k here (inl (open_leaves (Enq body) refusal (leaves_it (Enq body) refusal k.runs.0) k here))
  open_refused Shut refusal k here = open_stays Shut _ (Refused refusal) k.runs.1 k here (inl (open_leaves Shut refusal (leaves_it Shut refusal k.runs.0) k here))
  open_refused Deq refusal k here = open_stays Deq _ (Refused refusal) k.runs.1 k here (inl (open_leaves Deq refusal (leaves_it Deq refusal k.runs.0) k here))

  open_shuts : (told : Option Reply) → IsRun (record { values = vs; shut = true }) rest → (k : KnownOf Shut told Done) → (here : StandsOf Shut told)
      → ((t : State) → Shuts (open_o Shut told) s t → HasEffect Shut told (open_o Shut told) s t) → CanEnd (suc (length rest)) s
  open_shuts told runs k here effect =
      let o = open_o Shut told in
      let os = operations_of rest in
      let others = others_in os in
      let waiting = filter waits os ++ loose in
      let kept = filter (may_stay s) waiting in
      let out = filter (λ p. not (may_stay s p)) waiting in
      let began : AllByRecursion (λ p. p.first ≤ moment) content = began_later o Done rest content loose os vs false now s k pending (λ h. h) here in
      let untold : AllByRecursion IsUntold (filter waits os) = pushes_untold rest (record { values = vs; shut = true }) refl runs k.told.1 in
      let all_pending : AllByRecursion IsPending waiting = all_joined IsPending (filter waits os) loose (pending_all (filter waits os) (all_filtered IsCall waits os k.calls.1) untold) pending in
      let all_open_then : AllByRecursion (OtherIsOpen moment) s.left = all_open o Done rest content loose os vs false now s k pending (λ h. h) here in
      let t : State = record { left = content ++ (others ++ kept); shut = true; time = moment } in
      inr (
        t,
        step_to o Done rest content loose os vs false now s k pending (λ h. h) here (content ++ (others ++ kept)) true
            (effect t (record {
              dropped = out;
              is = IsPermutation-trans s.left _ _ (front o Done rest content loose os vs false now s k pending (λ h. h) here) (IsPermutation-cons o _ _ (parted content os loose));
              untold = all_filtered IsUntold (λ p. not (may_stay s p)) waiting (all_weaker IsPending IsUntold (λ x p. p.not_told) waiting all_pending);
              kept = all_joined (λ p. may_stay s p ≡ true) content (others ++ kept)
                  (all_weaker (λ p. p.first ≤ moment) (λ p. may_stay s p ≡ true) (λ p h. or_right (not (waits p)) (every (other_is_open p.first) s.left) (open_by p.first h s.left all_open_then)) content began)
                  (all_joined (λ p. may_stay s p ≡ true) others kept
                  (all_weaker (λ y. waits y ≡ false) (λ p. may_stay s p ≡ true) (λ p h. or_left (not (waits p)) (every (other_is_open p.first) s.left) (ap not h)) others (others_wait_not os))
                  (all_pass (may_stay s) waiting));
              late = all_weaker (λ p. not (may_stay s p) ≡ true) (λ p. may_stay s p ≡ false) (λ p h. not_waits (may_stay s p) h) out (all_pass (λ p. not (may_stay s p)) waiting);
              before = here.same;
              after = refl;
            })),
        walk_shut rest content kept vs moment t
            (known_then o Done rest content loose os vs false now s k pending (λ h. h) here content vs true (keeps_without content o os k.timely) runs k.values began)
            (all_filtered IsPending (may_stay s) waiting all_pending) (record { left = IsPermutation-refl _; same = refl; since = omega arith }),
      )
    where
      pending_all : (xs : List Stamped) → AllByRecursion IsCall xs → AllByRecursion IsUntold xs → AllByRecursion IsPending xs
      pending_all [] c u = tt
      pending_all (x ∷ xs) c u = (pending_is x c.0 u.0, pending_all xs c.1 u.1)

      open_by : (first : ℕ) → first ≤ moment → (xs : List Stamped) → AllByRecursion (OtherIsOpen moment) xs → every (other_is_open first) xs ≡ true
      open_by first h xs a = every_all (other_is_open first) xs (all_weaker (OtherIsOpen moment) (λ x. other_is_open first x ≡ true) (λ x k. other_open_true first moment h x k) xs a)

      parted : (content os loose : List Stamped) → IsPermutation (content ++ (os ++ loose))
          ((content ++ (others_in os ++ filter (may_stay s) (filter waits os ++ loose))) ++ filter (λ p. not (may_stay s p)) (filter waits os ++ loose))
      parted content os loose =
          let others = others_in os in
          let waiting = filter waits os ++ loose in
          let kept = filter (may_stay s) waiting in
          let out = filter (λ p. not (may_stay s p)) waiting in
          let first : IsPermutation (os ++ loose) ((others ++ filter waits os) ++ loose) = IsPermutation-append_left loose os (others ++ filter waits os) (both_kinds waits os) in
          let second : IsPermutation (os ++ loose) (others ++ waiting) = subst (λ xs. IsPermutation (os ++ loose) xs) (append_assoc others (filter waits os) loose) first in
          let split : IsPermutation waiting (kept ++ out) = IsPermutation-filter_both (may_stay s) (λ p. not (may_stay s p)) (λ p. refl) waiting in
          let third : IsPermutation (os ++ loose) (others ++ (kept ++ out)) = IsPermutation-trans _ _ _ second (IsPermutation-append_right others waiting (kept ++ out) split) in
          let e : content ++ (others ++ (kept ++ out)) ≡ (content ++ (others ++ kept)) ++ out =
          ap (λ xs. content ++ xs) (sym (append_assoc others kept out)) ∙ sym (append_assoc content (others ++ kept) out) in
          subst (λ xs. IsPermutation (content ++ (os ++ loose)) xs) e (IsPermutation-append_right content _ _ third)

-- the value at the front is taken
open_takes : (rest : List Answered) → OpenGoesOn rest → (o : Stamped) (content loose : List Stamped) (vs : List Taken) (v : Taken) (now : ℕ) (s : State)
    → AllByRecursion IsPending loose → Value v ≡ (response o.actor Deq (record { values = vs; shut = false })).reply
    → IsRun (response o.actor Deq (record { values = vs; shut = false })).after rest
    → ((t : State) → Takes v o s t → HasEffect o.op o.reply o s t)
    → AreOf content vs
    → Known (record { operation = o; reply = Value v } ∷ rest) content vs false now
    → Stands (content ++ (o ∷ (operations_of rest ++ loose))) false now s → CanEnd (suc (length rest)) s
open_takes rest more o content loose [] v now s pending e runs effect are k here = absurd cc
open_takes rest more o [] loose (w ∷ vs) v now s pending e runs effect are k here = absurd are
open_takes rest more o (p ∷ ps) loose (w ∷ vs) v now s pending e runs effect are k here =
    let others = operations_of rest in
    let t = after_take o (Value v) rest p ps loose others w vs false now s k pending (λ time h. h) here in
    inr (
      t,
      take_step o (Value v) rest p ps loose others w vs false now s k pending (λ time h. h) here
          (effect t (subst (λ w. Takes w o s t) (same_value v w e) (took o (Value v) rest p ps loose others w vs false now s k pending (λ time h. h) here))),
      more ps loose vs (later now o.first).time t (known_taken o (Value v) rest p ps loose others w vs false now s k pending (λ time h. h) here runs) pending
          (stands_taken o (Value v) rest p ps loose others w vs false now s k pending (λ time h. h) here),
    )

-- the queue is found empty
open_empty : (rest : List Answered) → OpenGoesOn rest → (actor first : ℕ) (last at : Option ℕ) (content loose : List Stamped) (vs : List Taken) (now : ℕ) (s : State)
    → AllByRecursion IsPending loose → Empty ≡ (response actor Deq (record { values = vs; shut = false })).reply
    → IsRun (response actor Deq (record { values = vs; shut = false })).after rest
    → AreOf content vs
    → Known (record { operation = record { actor = actor; op = Deq; first = first; last = last; at = at; reply = Some Empty }; reply = Empty } ∷ rest) content vs false now
    → Stands (content ++ (record { actor = actor; op = Deq; first = first; last = last; at = at; reply = Some Empty } ∷ (operations_of rest ++ loose))) false now s
    → CanEnd (suc (length rest)) s
open_empty rest more actor first last at content loose (w ∷ vs) now s pending e runs are k here = absurd cc
open_empty rest more actor first last at (c ∷ content) loose [] now s pending e runs are k here = absurd are
open_empty rest more actor first last at [] loose [] now s pending e runs are k here =
    let o : Stamped = record { actor = actor; op = Deq; first = first; last = last; at = at; reply = Some Empty } in
    let time = (later now first).time in
    open_stays rest more actor first last at [] loose [] now s pending Deq (Some Empty) Empty runs k here
    (record {
      is = front o Empty rest [] loose (operations_of rest) [] false now s k pending (λ h. h) here;
      none = all_weaker (IsOpenAt time) (PushIsOpen time) (λ x h. where_any (waits x) (IsOpenAt time x) h) (operations_of rest ++ loose)
          (left_open o Empty rest [] loose (operations_of rest) [] false now s k pending (λ h. h) here);
      before = here.same;
      same = sym here.same;
    })

module _ (rest : List Answered) (more : OpenGoesOn rest) (actor first : ℕ) (last at : Option ℕ) (content loose : List Stamped) (vs : List Taken) (now : ℕ) (s : State)
    (pending : AllByRecursion IsPending loose) (are : AreOf content vs) where
  abbrev an : Op → Option Reply → Stamped
  an op told = record { actor = actor; op = op; first = first; last = last; at = at; reply = told }

  abbrev OpenCase : Op → Option Reply → Reply → Type 0
  OpenCase op told reply = Known (record { operation = an op told; reply = reply } ∷ rest) content vs false now
      → Stands (content ++ (an op told ∷ (operations_of rest ++ loose))) false now s → CanEnd (suc (length rest)) s

  open_never_done : (vs : List Taken) → Done ≡ (response actor Deq (record { values = vs; shut = false })).reply → ⊥
  open_never_done [] e = cc e
  open_never_done (v ∷ vs) e = cc e

  as_empty : (vs : List Taken) → Empty ≡ (response actor Deq (record { values = vs; shut = false })).reply → IsRun (response actor Deq (record { values = vs; shut = false })).after rest
      → IsRun (record { values = vs; shut = false }) rest
  as_empty [] e runs = runs
  as_empty (v ∷ vs) e runs = absurd cc

  told_open : (op : Op) (r : Reply) → OpenCase op (Some r) r
  told_open op (Refused refusal) k here = open_refused rest more actor first last at content loose vs now s pending op refusal k here
  told_open (Enq body) Done k here = open_pushes rest more actor first last at content loose vs now s pending body (Some Done) refl k.runs.1 k here
  told_open (Enq body) (Value v) k here = absurd (let e : Value v ≡ Done = k.runs.0 in cc e)
  told_open (Enq body) Empty k here = absurd (let e : Empty ≡ Done = k.runs.0 in cc e)
  told_open Shut Done k here = open_shuts rest more actor first last at content loose vs now s pending (Some Done) k.runs.1 k here (λ t h. h)
  told_open Shut (Value v) k here = absurd (let e : Value v ≡ Done = k.runs.0 in cc e)
  told_open Shut Empty k here = absurd (let e : Empty ≡ Done = k.runs.0 in cc e)
  told_open Deq Done k here = absurd (open_never_done vs k.runs.0)
  told_open Deq (Value v) k here = open_takes rest more (an Deq (Some (Value v))) content loose vs v now s pending k.runs.0 k.runs.1 (λ t h. h) are k here
  told_open Deq Empty k here = open_empty rest more actor first last at content loose vs now s pending k.runs.0 k.runs.1 are k here

  untold_open : (op : Op) (r : Reply) → OpenCase op None r
  untold_open (Enq body) (Refused refusal) k here = open_aside rest more actor first last at content loose vs now s pending (Enq body) (Refused refusal) k.runs.1 k here
  untold_open Shut (Refused refusal) k here = open_aside rest more actor first last at content loose vs now s pending Shut (Refused refusal) k.runs.1 k here
  untold_open Deq (Refused refusal) k here = open_aside rest more actor first last at content loose vs now s pending Deq (Refused refusal) k.runs.1 k here
  untold_open (Enq body) Done k here = open_pushes rest more actor first last at content loose vs now s pending body None refl k.runs.1 k here
  untold_open (Enq body) (Value v) k here = absurd (let e : Value v ≡ Done = k.runs.0 in cc e)
  untold_open (Enq body) Empty k here = absurd (let e : Empty ≡ Done = k.runs.0 in cc e)
  untold_open Shut Done k here = open_shuts rest more actor first last at content loose vs now s pending None k.runs.1 k here (λ t h. h)
  untold_open Shut (Value v) k here = absurd (let e : Value v ≡ Done = k.runs.0 in cc e)
  untold_open Shut Empty k here = absurd (let e : Empty ≡ Done = k.runs.0 in cc e)
  untold_open Deq Done k here = absurd (open_never_done vs k.runs.0)
  untold_open Deq (Value v) k here = open_takes rest more (an Deq None) content loose vs v now s pending k.runs.0 k.runs.1 (λ t h. (v, h)) are k here
  untold_open Deq Empty k here = open_aside rest more actor first last at content loose vs now s pending Deq Empty (as_empty vs k.runs.0 k.runs.1) k here

  any_open : (op : Op) (told : Option Reply) (reply : Reply) → OpenCase op told reply
  any_open op None reply k here = untold_open op reply k here
  any_open op (Some r) reply k here =
      told_open op r (subst (λ reply. Known (record { operation = an op (Some r); reply = reply } ∷ rest) content vs false now) k.told.0 k) here

walk_open : (rest : List Answered) → OpenGoesOn rest
walk_open [] content loose vs now s k pending here = at_end content loose vs false now s k.values pending here
walk_open (a ∷ rest) content loose vs now s k pending here =
    any_open rest (walk_open rest) a.operation.actor a.operation.first a.operation.last a.operation.at content loose vs now s pending k.values
    a.operation.op a.operation.reply a.reply k here

-- ---- a history is walked along

first_part : (P : Stamped → Type 0) (xs ys : List Stamped) → AllByRecursion P (xs ++ ys) → AllByRecursion P xs
first_part P [] ys h = tt
first_part P (x ∷ xs) ys h = (h.0, first_part P xs ys h.1)

open_from_zero : (os : List Stamped) → AllByRecursion (IsOpenAt 0) os
open_from_zero [] = tt
open_from_zero (o ∷ os) = (go o.last, open_from_zero os)
  where
    go : (last : Option ℕ) → IfSome last (λ last. 0 ≤ last)
    go None = tt
    go (Some last) = omega arith

pub walks : (ops : List Stamped) (start : State) → IsStart ops start → IsOfQueue ops → (n : ℕ) × CanEnd n start
walks ops start s h =
    let l = h.linearizable in
    let z = s.time in (
      length l.order,
      walk_open l.order [] l.left_out [] 0 start
          (record {
            calls = first_part IsCall (operations_of l.order) l.left_out (all_moved IsCall ops (operations_of l.order ++ l.left_out) l.each_once (recursion_from_All IsCall ops h.calls));
            told = l.replies;
            timely = l.timely;
            runs = l.runs;
            values = tt;
            began = tt;
            ongoing = open_from_zero (operations_of l.order);
          })
          l.only_pending_left_out
          (record { left = IsPermutation-trans start.left ops _ (IsPermutation-sym ops start.left s.all) l.each_once; same = s.unshut; since = omega (arith, z) }),
    )
