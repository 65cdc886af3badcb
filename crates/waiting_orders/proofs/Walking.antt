-- Each operation that goes extends the orders behind it, and so a walk to an end gives an order of the whole history.
use Rattle.std.proofs.Common.{inl, ◌≡◌, ◌∙◌, append_assoc, ℕ, ◌≤◌, Bool, true, false, not, ◌||◌, cond, length, ◌+◌, Option, None, Some, IfSome, List, [], ◌∷◌, ◌++◌, refl, sym, ap, subst, arith}
use Rattle.std.specs.List.{AllByRecursion}
use Rattle.std.specs.List.Sorted.{IsPermutation}
use Rattle.std.proofs.lemmas.List.{append-nil, length-append}
use Rattle.std.proofs.lemmas.List.Sorted.{IsPermutation-sym, IsPermutation-cons, IsPermutation-trans, IsPermutation-middle, IsPermutation-append_left, IsPermutation-append_right}
use Rattle.history.specs.declared.operations.Taken.{Taken}
use Rattle.history.specs.declared.operations.Op.TheVariants.{Enq, Deq, Shut}
use Rattle.history.specs.declared.operations.Reply.TheVariants.{Done, Value, Empty, Refused}
use Rattle.history.specs.declared.operations.Stamped.{Stamped}
use Rattle.history.specs.declared.operations.Op.{Op}
use Rattle.history.specs.declared.operations.Reply.{Reply}
use Rattle.history.specs.declared.refusals.Refusal.{Refusal}
use Rattle.history.specs.declared.refusals.Refusal.TheVariants.{Closed}
use Rattle.history.specs.Queue.{response}
use Rattle.history.specs.Linearizability.{IsPending, MayComeBefore, KeepsTime, IsRun}
use Rattle.waiting_orders.specs.declared.walks.Went.{Went}
use Rattle.waiting_orders.specs.Waiting.{IsCall, waits, IsOpenAt, OtherIsOpen, PushIsOpen, IsUntold, State, Pushes, Takes, every, is_open_at, other_is_open, may_stay}
use Rattle.waiting_orders.specs.Orders.{MayBeTold, DoesTake, DoesEmpty, DoesShut, DoesTell, DoesDrain, DoesLeave}
use Rattle.waiting_orders.specs.Listed.{asides_of, due_front, due_later, is_aside, order_of, put_by, put_take, shuts, taken_of, with_one}
use Rattle.waiting_orders.proofs.Covering.{pending_is}
use Rattle.waiting_orders.proofs.Futures.{all_moved, all_every}
use Rattle.waiting_orders.proofs.Lists.{all_joined, keeps_last}
use Rattle.waiting_orders.proofs.Inserting.{MayGive, may_give, all_front, all_back, all_sooner_open, given, body_of, value_of, values_of, values_joined, pushes_run}
use Rattle.waiting_orders.proofs.Ordering.{AreDue, due_of, due_joined, due_at_later, none_due, open_test, AreSplit, OrderFrom, Future, Passes, open_pushes, of_pushes, of_others, goes_at, line}
use Rattle.waiting_orders.proofs.Replies.{pop_is_free, shut_is_free, refused_is_free, take_runs, empty_runs, shut_runs, tell_answers, told_runs, drained_answers}

-- ---- lists

abbrev tail_of : List Stamped → List Stamped
tail_of [] = []
tail_of (x ∷ xs) = xs

abbrev head_or : Stamped → List Stamped → Stamped
head_or o [] = o
head_or o (x ∷ xs) = x

-- an operation and others, out of which pushes are told before them
behind_pushes : (o : Stamped) (left pushes others out : List Stamped) → IsPermutation left (pushes ++ (others ++ out)) → IsPermutation (o ∷ left) (pushes ++ ((o ∷ others) ++ out))
behind_pushes o left pushes others out is =
    IsPermutation-trans (o ∷ left) (o ∷ (pushes ++ (others ++ out))) _ (IsPermutation-cons o left _ is) (IsPermutation-sym _ _ (IsPermutation-middle pushes o (others ++ out)))

split_later : (shut : Bool) (time later : ℕ) → time ≤ later → (content coming : List Stamped) → AreSplit shut time content coming → AreSplit shut later content coming
split_later true time later h content coming a = a
split_later false time later h content coming a = due_at_later time later h content a

both_shut : (b : Bool) → b ≡ true → b ≡ false → ⊥
both_shut b e f = let g : true ≡ false = sym e ∙ f in cc g

-- what goes and isn't set aside
none_aside : (w : Went) (ws : List Went) → is_aside w.other.reply ≡ false → asides_of ws ≡ asides_of (w ∷ ws)
none_aside w ws e = sym (ap (λ b. cond b (w.other ∷ asides_of ws) (asides_of ws)) e)

no_push : (w : Went) (ws : List Went) (stay : List Stamped) → w.push ≡ None → taken_of ws ++ stay ≡ taken_of (w ∷ ws) ++ stay
no_push w ws stay e = sym (ap (λ p. with_one p (taken_of ws) ++ stay) e)

not_aside : (reply : Reply) (o : Stamped) → MayBeTold reply o → is_aside (Some reply) ≡ false → is_aside o.reply ≡ false
not_aside reply o h e = go o.reply h
  where
    go : (told : Option Reply) → IfSome told (λ told. reply ≡ told) → is_aside told ≡ false
    go None h = refl
    go (Some told) h = subst (λ r. is_aside (Some r) ≡ false) h e

-- what is put in by its push, its call and its reply
module _ (w : Went) (ws : List Went) where
  abbrev rest : ℕ → List Stamped → List Stamped
  rest = λ held coming. order_of ws held coming

  order_by : (aside : Bool) (taken : Option Stamped) (shut : Bool) → is_aside w.other.reply ≡ aside → w.push ≡ taken → shuts w.other.op w.other.reply ≡ shut → (held : ℕ) (coming : List Stamped)
      → order_of (w ∷ ws) held coming ≡ put_by aside taken shut w.other w.time held coming rest
  order_by aside taken shut e f g held coming =
      ap (λ b. put_by b w.push (shuts w.other.op w.other.reply) w.other w.time held coming rest) e
      ∙ ap (λ p. put_by aside p (shuts w.other.op w.other.reply) w.other w.time held coming rest) f
      ∙ ap (λ b. put_by aside taken b w.other w.time held coming rest) g

order_takes : (w : Went) (push : Stamped) (ws : List Went) (time : ℕ) → is_aside w.other.reply ≡ false → w.push ≡ Some push → w.time ≡ time → (held : ℕ) (coming : List Stamped)
    → order_of (w ∷ ws) held coming ≡ put_take w.other time held coming (λ held coming. order_of ws held coming)
order_takes w push ws time e f g held coming =
    order_by w ws false (Some push) (shuts w.other.op w.other.reply) e f refl held coming ∙ ap (λ time. put_take w.other time held coming (λ held coming. order_of ws held coming)) g

order_plain : (w : Went) (ws : List Went) → is_aside w.other.reply ≡ false → w.push ≡ None → shuts w.other.op w.other.reply ≡ false → (held : ℕ) (coming : List Stamped)
    → order_of (w ∷ ws) held coming ≡ w.other ∷ order_of ws held coming
order_plain w ws e f g held coming = order_by w ws false None false e f g held coming

shuts_so : (o : Stamped) → o.op ≡ Shut → MayBeTold Done o → shuts o.op o.reply ≡ true
shuts_so o e h = ap (λ op. shuts op o.reply) e ∙ go o.reply h
  where
    go : (told : Option Reply) → IfSome told (λ told. Done ≡ told) → shuts Shut told ≡ true
    go None h = refl
    go (Some told) h = subst (λ r. shuts Shut (Some r) ≡ true) h refl

pop_shuts_none : (o : Stamped) → o.op ≡ Deq → shuts o.op o.reply ≡ false
pop_shuts_none o e = ap (λ op. shuts op o.reply) e

told_shuts_none : (o : Stamped) (refusal : Refusal) → o.reply ≡ Some (Refused refusal) → shuts o.op o.reply ≡ false
told_shuts_none o refusal e = ap (λ reply. shuts o.op reply) e ∙ go o.op
  where
    go : (op : Op) → shuts op (Some (Refused refusal)) ≡ false
    go (Enq body) = refl
    go Deq = refl
    go Shut = refl

-- ---- a pop takes a value

value_is : (v : Taken) (p : Stamped) → Pushes v p → value_of p ≡ v
value_is v p h = go p.op h.op
  where
    go : (op : _) → op ≡ Enq v.body → record { from = p.actor; body = body_of op } ≡ v
    go op e = subst (λ op. record { from = p.actor; body = body_of op } ≡ v) (sym e) (subst (λ actor. record { from = actor; body = v.body } ≡ v) (sym h.actor) refl)

module _ (s t : State) (w : Went) (time : w.time ≡ t.time) (d : DoesTake w.other w.push s t) (since : s.time ≤ t.time) (began : w.other.first ≤ t.time) (ws : List Went) (stay : List Stamped)
    (r : Future t ws stay) (ongoing : AllByRecursion (OtherIsOpen t.time) (w.other ∷ t.left)) (calls : AllByRecursion IsCall t.left) (call : IsCall d.effect.push) where
  abbrev o : Stamped
  o = w.other

  abbrev h : Takes d.value o s t
  h = d.effect

  free : waits o ≡ false
  free = pop_is_free o d.op

  push_calls : AllByRecursion IsCall r.pushes
  push_calls = of_pushes o s t began ws stay r ongoing free IsCall calls

  told : MayGive o (Value (value_of h.push))
  told = may_give o (Value (value_of h.push)) refl (subst (λ v. MayBeTold (Value v) o) (sym (value_is d.value h.push h.pushes)) d.told)

  -- the push is before all others that wait
  timely_all : KeepsTime (h.push ∷ r.pushes)
  timely_all = (open_pushes h.push.first r.pushes (of_pushes o s t began ws stay r ongoing free (PushIsOpen h.push.first) h.first) r.each_waits, r.timely)

  op : o.op ≡ Deq
  op = d.op

  abbrev more : ℕ → List Stamped → List Stamped
  more = λ held coming. order_of ws held coming

  abbrev front : List Stamped → List Stamped
  front ps = due_front t.time ps

  abbrev later : List Stamped → List Stamped
  later ps = due_later t.time ps

  abbrev Put : (content coming : List Stamped) → Bool → Type 0
  Put content coming shut = OrderFrom content coming (o ∷ r.others) shut (put_take o t.time (length content) coming more)

  -- the value wasn't in the queue
  from_none : (coming : List Stamped) → s.shut ≡ false → h.push ∷ r.pushes ≡ coming → Put [] coming false
  from_none coming e is =
      let d = due_of t.time r.pushes push_calls r.timely in
      let m = r.orders false (h.same ∙ e) (front r.pushes) (later r.pushes) d.is d.are in
      let w = all_front (λ p. waits p ≡ true) (front r.pushes) (later r.pushes) (subst (AllByRecursion (λ p. waits p ≡ true)) d.is r.each_waits) in
      let g = goes_at o s t began ws stay r ongoing free (h.push ∷ front r.pushes) (later r.pushes) (h.pushes.waits, w) (subst (λ ps. KeepsTime (h.push ∷ ps)) d.is timely_all) (h.began, d.began) d.ongoing in
      let list = more (length (front r.pushes)) (later r.pushes) in
      let line_is = line o s t began ws stay r ongoing free false false (Value (value_of h.push)) told [] (h.push ∷ front r.pushes) (front r.pushes) (later r.pushes) list g m
      (pushes_run (h.push ∷ front r.pushes) [] (given o (Value (value_of h.push)) ∷ m.order) (h.pushes.waits, w) (take_runs o m.order (value_of h.push) (values_of (front r.pushes)) false op m.runs)) in
      subst (λ ps. Put [] ps false) is
      (subst (λ ps. OrderFrom [] ps (o ∷ r.others) false (h.push ∷ front r.pushes ++ o ∷ list)) (ap (λ ps. h.push ∷ ps) (sym d.is)) line_is)

  -- it was, and no push is to come
  from_shut : (content : List Stamped) → s.shut ≡ true → r.pushes ≡ content ++ [] → Put (h.push ∷ content) [] true
  from_shut content e is =
      let m = r.orders true (h.same ∙ e) content [] is refl in
      let g = goes_at o s t began ws stay r ongoing free [] [] tt tt tt tt in
      let list = more (length content) [] in
      let n : length content ≡ length content + 0 = omega arith in
      subst (λ n. OrderFrom (h.push ∷ content) [] (o ∷ r.others) true (o ∷ more n [])) n
      (line o s t began ws stay r ongoing free true true (Value (value_of h.push)) told (h.push ∷ content) [] content [] list g m
      (take_runs o m.order (value_of h.push) (values_of content) true op m.runs))

  -- it was, and those that have to be before are pushed
  from_some : (content coming : List Stamped) → s.shut ≡ false → r.pushes ≡ content ++ coming → AreDue s.time (h.push ∷ content) → Put (h.push ∷ content) coming false
  from_some content coming e is are =
      let all_calls = all_back IsCall content coming (subst (AllByRecursion IsCall) is push_calls) in
      let all_wait = all_back (λ p. waits p ≡ true) content coming (subst (AllByRecursion (λ p. waits p ≡ true)) is r.each_waits) in
      let timely = keeps_last content coming (subst KeepsTime is r.timely) in
      let d = due_of t.time coming all_calls timely in
      let due = front coming in
      let m = r.orders false (h.same ∙ e) (content ++ due) (later coming) (is ∙ ap (λ ps. content ++ ps) d.is ∙ sym (append_assoc content due (later coming)))
      (due_joined t.time content due (due_at_later s.time t.time since content are.1) d.are) in
      let w = all_front (λ p. waits p ≡ true) due (later coming) (subst (AllByRecursion (λ p. waits p ≡ true)) d.is all_wait) in
      let g = goes_at o s t began ws stay r ongoing free due (later coming) w (subst KeepsTime d.is timely) d.began d.ongoing in
      let list = more (length (content ++ due)) (later coming) in
      let line_is = line o s t began ws stay r ongoing free false false (Value (value_of h.push)) told (h.push ∷ content) due (content ++ due) (later coming) list g m
      (pushes_run due (values_of (h.push ∷ content)) (given o (Value (value_of h.push)) ∷ m.order) w
      (take_runs o m.order (value_of h.push) (values_of content ++ values_of due) false op
      (subst (λ vs. IsRun (record { values = vs; shut = false }) m.order) (values_joined content due) m.runs))) in
      subst (λ n. OrderFrom (h.push ∷ content) coming (o ∷ r.others) false (due ++ o ∷ more n (later coming))) (length-append content due)
      (subst (λ ps. OrderFrom (h.push ∷ content) ps (o ∷ r.others) false (due ++ o ∷ list)) (sym d.is) line_is)

  take_put : (shut : Bool) → s.shut ≡ shut → (content coming : List Stamped) → h.push ∷ r.pushes ≡ content ++ coming → AreSplit shut s.time content coming → Put content coming shut
  take_put true e [] coming is split = absurd (let k : h.push ∷ r.pushes ≡ [] = is ∙ split in cc k)
  take_put false e [] coming is split = from_none coming e is
  take_put true e (c ∷ content) coming is split =
      subst (λ coming. Put (c ∷ content) coming true) (sym split)
      (subst (λ p. Put (p ∷ content) [] true) (ap (head_or o) is) (from_shut content e (ap tail_of is ∙ ap (λ ps. content ++ ps) split)))
  take_put false e (c ∷ content) coming is split =
      subst (λ p. Put (p ∷ content) coming false) (ap (head_or o) is)
      (from_some content coming e (ap tail_of is) (subst (λ p. AreDue s.time (p ∷ content)) (sym (ap (head_or o) is)) split))

  take_orders : (shut : Bool) → s.shut ≡ shut → (content coming : List Stamped) → h.push ∷ r.pushes ≡ content ++ coming → AreSplit shut s.time content coming
      → OrderFrom content coming (o ∷ r.others) shut (order_of (w ∷ ws) (length content) coming)
  take_orders shut e content coming is split =
      subst (OrderFrom content coming (o ∷ r.others) shut) (sym (order_takes w h.push ws t.time (not_aside (Value d.value) o d.told refl) d.push time (length content) coming))
      (take_put shut e content coming is split)

  pub before_take : Future s (w ∷ ws) stay
  before_take = record {
    pushes = h.push ∷ r.pushes;
    others = o ∷ r.others;
    asides = r.asides;
    out = r.out;
    pushes_are = ap (λ ps. h.push ∷ ps) r.pushes_are ∙ ap (λ p. with_one p (taken_of ws) ++ stay) (sym d.push);
    asides_are = r.asides_are ∙ none_aside w ws (not_aside (Value d.value) o d.told refl);
    is = IsPermutation-trans s.left _ _ h.is (behind_pushes o (h.push ∷ t.left) (h.push ∷ r.pushes) r.others (r.asides ++ r.out) (IsPermutation-cons h.push t.left _ r.is));
    pending = r.pending;
    each_waits = (h.pushes.waits, r.each_waits);
    none_waits = (free, r.none_waits);
    leave = r.leave;
    timely = timely_all;
    orders = take_orders;
  }

-- ---- a pop finds the queue empty

module _ (s t : State) (w : Went) (none : w.push ≡ None) (d : DoesEmpty w.other s t) (since : s.time ≤ t.time) (began : w.other.first ≤ t.time) (ws : List Went) (stay : List Stamped)
    (r : Future t ws stay) (ongoing : AllByRecursion (OtherIsOpen t.time) (w.other ∷ t.left)) where
  no_pop : waits w.other ≡ false
  no_pop = pop_is_free w.other d.op

  empty_orders : (shut : Bool) → s.shut ≡ shut → (content coming : List Stamped) → r.pushes ≡ content ++ coming → AreSplit shut s.time content coming
      → OrderFrom content coming (w.other ∷ r.others) shut (order_of (w ∷ ws) (length content) coming)
  empty_orders true e content coming is split = absurd (both_shut s.shut e d.effect.before)
  empty_orders false e content coming is split =
      let going = open_pushes t.time r.pushes (of_pushes w.other s t began ws stay r ongoing no_pop (PushIsOpen t.time) d.effect.none) r.each_waits in
      let nothing = none_due s.time content (all_front (IsOpenAt s.time) content coming (subst (AllByRecursion (IsOpenAt s.time)) is (all_sooner_open s.time t.time since r.pushes going))) split in
      let all : r.pushes ≡ coming = subst (λ ps. r.pushes ≡ ps ++ coming) nothing is in
      let m = r.orders false (d.effect.same ∙ e) [] coming all tt in
      let g = goes_at w.other s t began ws stay r ongoing no_pop [] coming tt (subst KeepsTime all r.timely) tt (subst (AllByRecursion (IsOpenAt t.time)) all going) in
      subst (λ ps. OrderFrom ps coming (w.other ∷ r.others) false (order_of (w ∷ ws) (length ps) coming)) (sym nothing)
      (subst (OrderFrom [] coming (w.other ∷ r.others) false) (sym (order_plain w ws (ap is_aside d.told) none (pop_shuts_none w.other d.op) 0 coming))
      (line w.other s t began ws stay r ongoing no_pop false false Empty (inl d.told) [] [] [] coming (order_of ws 0 coming) g m (empty_runs w.other m.order d.op m.runs)))

  pub before_empty : Future s (w ∷ ws) stay
  before_empty = record {
    pushes = r.pushes;
    others = w.other ∷ r.others;
    asides = r.asides;
    out = r.out;
    pushes_are = r.pushes_are ∙ no_push w ws stay none;
    asides_are = r.asides_are ∙ none_aside w ws (ap is_aside d.told);
    is = IsPermutation-trans s.left _ _ d.effect.is (behind_pushes w.other t.left r.pushes r.others (r.asides ++ r.out) r.is);
    pending = r.pending;
    each_waits = r.each_waits;
    none_waits = (no_pop, r.none_waits);
    leave = r.leave;
    timely = r.timely;
    orders = empty_orders;
  }

-- ---- an operation is told that the queue is shut

-- an order from a queue that is shut, with a refusal first
refusal_first : (s t : State) (w : Went) (none : w.push ≡ None) (began : w.other.first ≤ t.time) (ws : List Went) (stay : List Stamped) (r : Future t ws stay)
    (ongoing : AllByRecursion (OtherIsOpen t.time) (w.other ∷ t.left)) (free : waits w.other ≡ false)
    → w.other.reply ≡ Some (Refused Closed) → t.shut ≡ true → (content coming : List Stamped) → (Refused Closed ≡ (response w.other.actor w.other.op (record { values = values_of content; shut = true })).reply)
    → r.pushes ≡ content ++ coming → coming ≡ [] → OrderFrom content coming (w.other ∷ r.others) true (order_of (w ∷ ws) (length content) coming)
refusal_first s t w none began ws stay r ongoing free told e content coming answers is nothing =
    let m = r.orders true e content coming is nothing in
    let timely = keeps_last content coming (subst KeepsTime is r.timely) in
    let g = goes_at w.other s t began ws stay r ongoing free [] coming tt timely tt (subst (AllByRecursion (IsOpenAt t.time)) (sym nothing) tt) in
    subst (OrderFrom content coming (w.other ∷ r.others) true) (sym (order_plain w ws (ap is_aside told) none (told_shuts_none w.other Closed told) (length content) coming))
    (line w.other s t began ws stay r ongoing free true true (Refused Closed) (inl told) content [] content coming (order_of ws (length content) coming) g m
    (told_runs w.other m.order (record { values = values_of content; shut = true }) answers m.runs))

module _ (s t : State) (w : Went) (none : w.push ≡ None) (d : DoesTell w.other s t) (began : w.other.first ≤ t.time) (ws : List Went) (stay : List Stamped)
    (r : Future t ws stay) (ongoing : AllByRecursion (OtherIsOpen t.time) (w.other ∷ t.left)) where
  tell_orders : (shut : Bool) → s.shut ≡ shut → (content coming : List Stamped) → r.pushes ≡ content ++ coming → AreSplit shut s.time content coming
      → OrderFrom content coming (w.other ∷ r.others) shut (order_of (w ∷ ws) (length content) coming)
  tell_orders false e content coming is split = absurd (both_shut s.shut d.effect.before e)
  tell_orders true e content coming is split =
      refusal_first s t w none began ws stay r ongoing (refused_is_free w.other Closed d.told) d.told (d.effect.same ∙ e) content coming (tell_answers w.other d.other (record { values = values_of content; shut = true }) refl) is split

  pub before_tell : Future s (w ∷ ws) stay
  before_tell = record {
    pushes = r.pushes;
    others = w.other ∷ r.others;
    asides = r.asides;
    out = r.out;
    pushes_are = r.pushes_are ∙ no_push w ws stay none;
    asides_are = r.asides_are ∙ none_aside w ws (ap is_aside d.told);
    is = IsPermutation-trans s.left _ _ d.effect.is (behind_pushes w.other t.left r.pushes r.others (r.asides ++ r.out) r.is);
    pending = r.pending;
    each_waits = r.each_waits;
    none_waits = (refused_is_free w.other Closed d.told, r.none_waits);
    leave = r.leave;
    timely = r.timely;
    orders = tell_orders;
  }

-- ---- a pop is told that the queue is shut and empty

no_pushes : (ps : List Stamped) → AllByRecursion (λ p. waits p ≡ true) ps → AllByRecursion (λ p. waits p ≡ false) ps → ps ≡ []
no_pushes [] a b = refl
no_pushes (p ∷ ps) a b = absurd (both_shut (waits p) a.0 b.0)

first_none : (xs ys : List Stamped) → [] ≡ xs ++ ys → xs ≡ []
first_none [] ys e = refl
first_none (x ∷ xs) ys e = absurd (cc e)

pending_all : (os : List Stamped) → AllByRecursion IsCall os → AllByRecursion IsUntold os → AllByRecursion IsPending os
pending_all [] a b = tt
pending_all (o ∷ os) a b = (pending_is o a.0 b.0, pending_all os a.1 b.1)

-- what is dropped is left out with the rest
with_dropped : (o : Stamped) (left dropped pushes others asides out : List Stamped) → IsPermutation left (pushes ++ (others ++ (asides ++ out)))
    → IsPermutation (o ∷ left ++ dropped) (pushes ++ ((o ∷ others) ++ (asides ++ (out ++ dropped))))
with_dropped o left dropped pushes others asides out is =
    behind_pushes o (left ++ dropped) pushes others (asides ++ (out ++ dropped))
    (subst (IsPermutation (left ++ dropped))
    (append_assoc pushes (others ++ (asides ++ out)) dropped ∙ ap (λ os. pushes ++ os) (append_assoc others (asides ++ out) dropped ∙ ap (λ os. others ++ os) (append_assoc asides out dropped)))
    (IsPermutation-append_left dropped left (pushes ++ (others ++ (asides ++ out))) is))

module _ (s t : State) (w : Went) (none : w.push ≡ None) (d : DoesDrain w.other s t) (began : w.other.first ≤ t.time) (ws : List Went) (stay : List Stamped)
    (r : Future t ws stay) (ongoing : AllByRecursion (OtherIsOpen t.time) (w.other ∷ t.left)) (dropped_calls : AllByRecursion IsCall d.effect.dropped) where
  drained_is_free : waits w.other ≡ false
  drained_is_free = pop_is_free w.other d.op

  drain_orders : (shut : Bool) → s.shut ≡ shut → (content coming : List Stamped) → r.pushes ≡ content ++ coming → AreSplit shut s.time content coming
      → OrderFrom content coming (w.other ∷ r.others) shut (order_of (w ∷ ws) (length content) coming)
  drain_orders false e content coming is split = absurd (both_shut s.shut d.effect.before e)
  drain_orders true e content coming is split =
      let no = no_pushes r.pushes r.each_waits (of_pushes w.other s t began ws stay r ongoing drained_is_free (λ p. waits p ≡ false) d.effect.none) in
      let nothing = first_none content coming (sym no ∙ is) in
      refusal_first s t w none began ws stay r ongoing drained_is_free d.told (d.effect.same ∙ e) content coming
      (subst (λ ps. Refused Closed ≡ (response w.other.actor w.other.op (record { values = values_of ps; shut = true })).reply) (sym nothing) (drained_answers w.other d.op)) is split

  pub before_drain : Future s (w ∷ ws) stay
  before_drain = record {
    pushes = r.pushes;
    others = w.other ∷ r.others;
    asides = r.asides;
    out = r.out ++ d.effect.dropped;
    pushes_are = r.pushes_are ∙ no_push w ws stay none;
    asides_are = r.asides_are ∙ none_aside w ws (ap is_aside d.told);
    is = IsPermutation-trans s.left _ _ d.effect.is (with_dropped w.other t.left d.effect.dropped r.pushes r.others r.asides r.out r.is);
    pending = all_joined IsPending r.out d.effect.dropped r.pending (pending_all d.effect.dropped dropped_calls d.effect.untold);
    each_waits = r.each_waits;
    none_waits = (drained_is_free, r.none_waits);
    leave = r.leave;
    timely = r.timely;
    orders = drain_orders;
  }

-- ---- a shut

-- where no other had ended before a number, this one hadn't
open_other : (time : ℕ) (o : Stamped) → waits o ≡ false → other_is_open time o ≡ true → IsOpenAt time o
open_other time o free e = open_test time o.last (subst (λ b. (b || is_open_at time o.last) ≡ true) free e)

pub all_open_others : (time : ℕ) (os : List Stamped) → AllByRecursion (λ o. waits o ≡ false) os → AllByRecursion (λ o. other_is_open time o ≡ true) os → AllByRecursion (IsOpenAt time) os
all_open_others time [] w h = tt
all_open_others time (o ∷ os) w h = (open_other time o w.0 h.0, all_open_others time os w.1 h.1)

module _ (s t : State) (w : Went) (no_taken : w.push ≡ None) (d : DoesShut w.other s t) (began : w.other.first ≤ t.time) (ws : List Went) (stay : List Stamped)
    (r : Future t ws stay) (ongoing : AllByRecursion (OtherIsOpen t.time) (w.other ∷ t.left)) (dropped_calls : AllByRecursion IsCall d.effect.dropped) where
  shut_free : waits w.other ≡ false
  shut_free = shut_is_free w.other d.op

  -- a push that stays began before any other that is left ended
  stays_before : (p : Stamped) → waits p ≡ true → may_stay s p ≡ true → AllByRecursion (MayComeBefore p) (w.other ∷ r.others)
  stays_before p waiting e =
      let all = all_moved (λ x. other_is_open p.first x ≡ true) s.left (w.other ∷ t.left ++ d.effect.dropped) d.effect.is
      (all_every (other_is_open p.first) s.left (subst (λ b. (not b || every (other_is_open p.first) s.left) ≡ true) waiting e)) in
      all_open_others p.first (w.other ∷ r.others) (shut_free, r.none_waits)
      (all.0, of_others w.other s t began ws stay r ongoing shut_free (λ x. other_is_open p.first x ≡ true) (all_front (λ x. other_is_open p.first x ≡ true) t.left d.effect.dropped all.1))

  all_stay_before : (ps : List Stamped) → AllByRecursion (λ p. waits p ≡ true) ps → AllByRecursion (λ p. may_stay s p ≡ true) ps → AllByRecursion (λ p. AllByRecursion (MayComeBefore p) (w.other ∷ r.others)) ps
  all_stay_before [] waiting h = tt
  all_stay_before (p ∷ ps) waiting h = (stays_before p waiting.0 h.0, all_stay_before ps waiting.1 h.1)

  shut_orders : (shut : Bool) → s.shut ≡ shut → (content coming : List Stamped) → r.pushes ≡ content ++ coming → AreSplit shut s.time content coming
      → OrderFrom content coming (w.other ∷ r.others) shut (order_of (w ∷ ws) (length content) coming)
  shut_orders true e content coming is split = absurd (both_shut s.shut e d.effect.before)
  shut_orders false e content coming is split =
      let m = r.orders true d.effect.after (content ++ coming) [] (is ∙ sym (append-nil (content ++ coming))) refl in
      let wait = all_back (λ p. waits p ≡ true) content coming (subst (AllByRecursion (λ p. waits p ≡ true)) is r.each_waits) in
      let staying = all_back (λ p. may_stay s p ≡ true) content coming
      (subst (AllByRecursion (λ p. may_stay s p ≡ true)) is (of_pushes w.other s t began ws stay r ongoing shut_free (λ p. may_stay s p ≡ true) d.effect.kept)) in
      let timely = keeps_last content coming (subst KeepsTime is r.timely) in
      let none = goes_at w.other s t began ws stay r ongoing shut_free [] [] tt tt tt tt in
      let g : Passes w.other coming [] r.others = record {
        each_waits = wait;
        timely = subst KeepsTime (sym (append-nil coming)) timely;
        before = all_stay_before coming wait staying;
        then = tt;
        behind = none.behind;
      } in
      let list = order_of ws (length (content ++ coming)) [] in
      subst (OrderFrom content coming (w.other ∷ r.others) false) (sym (order_by w ws false None true (not_aside Done w.other d.told refl) no_taken (shuts_so w.other d.op d.told) (length content) coming))
      (subst (λ n. OrderFrom content coming (w.other ∷ r.others) false (coming ++ w.other ∷ order_of ws n [])) (length-append content coming)
      (subst (λ ps. OrderFrom content ps (w.other ∷ r.others) false (coming ++ w.other ∷ list)) (append-nil coming)
      (line w.other s t began ws stay r ongoing shut_free false true Done (may_give w.other Done refl d.told) content coming (content ++ coming) [] list g m
      (pushes_run coming (values_of content) (given w.other Done ∷ m.order) wait
      (shut_runs w.other m.order (values_of content ++ values_of coming) d.op
      (subst (λ vs. IsRun (record { values = vs; shut = true }) m.order) (values_joined content coming) m.runs))))))

  pub before_shut : Future s (w ∷ ws) stay
  before_shut = record {
    pushes = r.pushes;
    others = w.other ∷ r.others;
    asides = r.asides;
    out = r.out ++ d.effect.dropped;
    pushes_are = r.pushes_are ∙ no_push w ws stay no_taken;
    asides_are = r.asides_are ∙ none_aside w ws (not_aside Done w.other d.told refl);
    is = IsPermutation-trans s.left _ _ d.effect.is (with_dropped w.other t.left d.effect.dropped r.pushes r.others r.asides r.out r.is);
    pending = all_joined IsPending r.out d.effect.dropped r.pending (pending_all d.effect.dropped dropped_calls d.effect.untold);
    each_waits = r.each_waits;
    none_waits = (shut_free, r.none_waits);
    leave = r.leave;
    timely = r.timely;
    orders = shut_orders;
  }

-- ---- an operation is set aside

set_aside : (o : Stamped) (left pushes others asides out : List Stamped) → IsPermutation left (pushes ++ (others ++ (asides ++ out)))
    → IsPermutation (o ∷ left) (pushes ++ (others ++ ((o ∷ asides) ++ out)))
set_aside o left pushes others asides out is =
    IsPermutation-trans _ _ _ (IsPermutation-cons o left _ is)
    (IsPermutation-trans _ (pushes ++ (o ∷ (others ++ (asides ++ out)))) _ (IsPermutation-sym _ _ (IsPermutation-middle pushes o (others ++ (asides ++ out))))
    (IsPermutation-append_right pushes (o ∷ (others ++ (asides ++ out))) (others ++ o ∷ (asides ++ out)) (IsPermutation-sym _ _ (IsPermutation-middle others o (asides ++ out)))))

module _ (s t : State) (w : Went) (none : w.push ≡ None) (d : DoesLeave w.other s t) (since : s.time ≤ t.time) (ws : List Went) (stay : List Stamped) (r : Future t ws stay) where
  is_set_aside : is_aside w.other.reply ≡ true
  is_set_aside = ap is_aside d.told ∙ d.effect.leaves

  aside_orders : (shut : Bool) → s.shut ≡ shut → (content coming : List Stamped) → r.pushes ≡ content ++ coming → AreSplit shut s.time content coming
      → OrderFrom content coming r.others shut (order_of (w ∷ ws) (length content) coming)
  aside_orders shut e content coming is split =
      subst (OrderFrom content coming r.others shut) (sym (order_by w ws true None (shuts w.other.op w.other.reply) is_set_aside none refl (length content) coming))
      (r.orders shut (d.effect.same ∙ e) content coming is (split_later shut s.time t.time since content coming split))

  pub before_aside : Future s (w ∷ ws) stay
  before_aside = record {
    pushes = r.pushes;
    others = r.others;
    asides = w.other ∷ r.asides;
    out = r.out;
    pushes_are = r.pushes_are ∙ no_push w ws stay none;
    asides_are = ap (λ os. w.other ∷ os) r.asides_are ∙ sym (ap (λ b. cond b (w.other ∷ asides_of ws) (asides_of ws)) is_set_aside);
    is = IsPermutation-trans s.left _ _ d.effect.is (set_aside w.other t.left r.pushes r.others r.asides r.out r.is);
    pending = r.pending;
    each_waits = r.each_waits;
    none_waits = r.none_waits;
    leave = (is_set_aside, r.leave);
    timely = r.timely;
    orders = aside_orders;
  }
