-- A history with a reason isn't one of a queue.
use Rattle.std.proofs.Common.{◌≡◌, ◌⊎◌, inl, inr, append_assoc, ℕ, ◌+◌, ◌≤◌, ◌<◌, Bool, true, false, ◌&&◌, ◌||◌, nat_le, nat_lt, Option, None, Some}
use Rattle.std.proofs.Common.{All, IfSome, IsSome, List, [], ◌∷◌, ◌++◌, refl, sym, ap, ◌∙◌, subst, arith}
use Rattle.std.specs.Prelude.{IsNone, IsSomeAnd}
use Rattle.std.specs.List.{sum_by, AllByRecursion}
use Rattle.std.proofs.lemmas.Bool.{leb-true, leb-false, ltb-true, ltb-false}
use Rattle.std.proofs.lemmas.List.{append-nil}
use Rattle.std.proofs.lemmas.List.Sums.{sum_by-append}
use Rattle.std.proofs.lemmas.List.Elements.{All-contains, recursion_from_All}
use Rattle.history.specs.declared.operations.Op.{Op}
use Rattle.history.specs.declared.operations.Op.TheVariants.{Enq, Deq, Shut}
use Rattle.history.specs.declared.operations.Taken.{Taken}
use Rattle.history.specs.declared.operations.Reply.{Reply}
use Rattle.history.specs.declared.operations.Reply.TheVariants.{Done, Value, Empty, Refused}
use Rattle.history.specs.declared.operations.Stamped.{Stamped}
use Rattle.history.specs.Queue.{Queue, empty, response}
use Rattle.history.specs.declared.refusals.Refusal.{Refusal}
use Rattle.history.specs.declared.refusals.Refusal.TheVariants.{Closed}
use Rattle.history.specs.History.{leaves, is_closed, may_refuse, AgreesWithQueue}
use Rattle.history.specs.Linearizability.{Answered, operations_of, IsPending, GivesRecordedReply, IsRun}
use Rattle.placing.specs.declared.answers.Held.{Held}
use Rattle.placing.specs.declared.answers.Span.{Span}
use Rattle.placing.specs.declared.answers.Reason.{Reason}
use Rattle.placing.specs.declared.answers.Reason.TheVariants.{Shape, Span as Spans, Reply as Replies, Sooner, Order, Full, Late, Twice, Unshut, Undrained, Stuck}
use Rattle.waiting_orders.specs.Waiting.{IsCall, IsOfQueue}
use Rattle.placing.specs.Parts.{MayBeOut}
use Rattle.placing.specs.Kinds.{Kind, same_value, is_told_in, is_push_in, pushes_in, ended_by, pushes_begun_before}
use Rattle.placing.specs.Reasons.{StandsAt, IsMisshapen, EndsTooSoon, may_be_told, IsToldAmiss, IsSooner, IsHeld, IsOutOfOrder, Cover, IsOpenUntil, IsFull, IsReason}
use Rattle.placing.proofs.Runs.{one_if, taken_in, pushed_in, copies, same_itself, after_run, run_balance, run_parts, after_parts, step_taken, goes_before}
use Rattle.placing.proofs.Sooner.{take_ended_by, push_begun_by, ended_begun, pushed_at_most}
use Rattle.placing.proofs.Parting.{parted_have, sum_parted, sum_ordered, sum_zero, BeganBy, MayFollow, times_parted, latest_start}
use Rattle.placing.proofs.Staying.{EndedFrom, and_false, take_begun_after, IsOrder, is_order, Stays, pushed_before, fewer_taken, last_part}
use Rattle.placing.proofs.Keeping.{contained, both, held_stays}
use Rattle.placing.proofs.Standing.{Standing, stands_in, told_not_pending, given_there, given_told, first_push}
use Rattle.placing.proofs.BeforeShut.{given_empty, began_by_shut, all_began_by_shut}
use Rattle.placing.proofs.Cutting.{begun_is_of_queue}
use Rattle.placing.proofs.LeavingOut.{part_is_of_queue}
use Rattle.placing.proofs.NotShut.{not_late, not_twice, not_unshut, not_undrained}

-- ---- an operation is no call

not_misshapen : (o : Stamped) → IsCall o → IsMisshapen o → ⊥
not_misshapen o c h = go o.last o.reply c.ended.0 c.ended.1 h
  where
    go : (last : Option ℕ) (reply : Option Reply) → (IsSome last → IsSome reply) → (IsSome reply → IsSome last) → (IsSome last × IsNone reply) ⊎ (IsNone last × IsSome reply) → ⊥
    go None None a b (inl (l, r)) = let e : false ≡ true = l in cc
    go None None a b (inr (l, r)) = let e : false ≡ true = r in cc
    go None (Some reply) a b h = let e : false ≡ true = b refl in cc
    go (Some last) None a b h = let e : false ≡ true = a refl in cc
    go (Some last) (Some reply) a b (inl (l, r)) = let e : true ≡ false = r in cc
    go (Some last) (Some reply) a b (inr (l, r)) = let e : true ≡ false = l in cc

not_too_soon : (o : Stamped) → IsCall o → EndsTooSoon o → ⊥
not_too_soon o c h = go o.last c.spans h
  where
    go : (last : Option ℕ) → IfSome last (λ last. o.first ≤ last) → IsSomeAnd last (λ last. last < o.first) → ⊥
    go None a b = b
    go (Some last) a b = omega arith

-- ---- what a call is never told

given_may : (actor : ℕ) (op : Op) (shut : Bool) (values : List Taken) → may_be_told (response actor op (record { values = values; shut = shut })).reply op ≡ true
given_may actor (Enq body) true values = refl
given_may actor (Enq body) false values = refl
given_may actor Shut true values = refl
given_may actor Shut false values = refl
given_may actor Deq true [] = refl
given_may actor Deq false [] = refl
given_may actor Deq shut (front ∷ rest) = refl

refused_may : (refusal : Refusal) (P : Type 0) → (leaves refusal ≡ true) ⊎ ((refusal ≡ Closed) × P) → may_refuse refusal ≡ true
refused_may refusal P (inl h) = subst (λ b. (b || is_closed refusal) ≡ true) (sym h) refl
refused_may refusal P (inr h) = subst (λ refusal. may_refuse refusal ≡ true) (sym h.0) refl

agreed_may : (queue : Queue) (o : Stamped) (reply : Reply) → AgreesWithQueue queue o (Some reply) → may_be_told reply o.op ≡ true
agreed_may queue o (Refused refusal) h = refused_may refusal _ h
agreed_may queue o Done h = subst (λ r. may_be_told r o.op ≡ true) (sym h) (given_may o.actor o.op queue.shut queue.values)
agreed_may queue o (Value v) h = subst (λ r. may_be_told r o.op ≡ true) (sym h) (given_may o.actor o.op queue.shut queue.values)
agreed_may queue o Empty h = subst (λ r. may_be_told r o.op ≡ true) (sym h) (given_may o.actor o.op queue.shut queue.values)

not_amiss : (ops : List Stamped) (place : ℕ) (o : Stamped) → IsOfQueue ops → StandsAt ops place o → IsToldAmiss o → ⊥
not_amiss ops place o h s amiss = go o.reply refl amiss
  where
    go : (reply : Option Reply) → o.reply ≡ reply → IsSomeAnd reply (λ reply. may_be_told reply o.op ≡ false) → ⊥
    go None e a = a
    go (Some reply) e a =
        let t = stands_in ops place o h s (told_not_pending o reply e) in
        let may : may_be_told t.here.reply t.here.operation.op ≡ true = agreed_may (after_run empty t.before) t.here.operation t.here.reply (given_there ops o t) in
        let m : may_be_told reply o.op ≡ true = subst (λ r. may_be_told r o.op ≡ true) (given_told ops o t reply e) (subst (λ p. may_be_told t.here.reply p.op ≡ true) t.same may) in
        let x : true ≡ false = sym m ∙ a in cc x

-- ---- a value is taken sooner than it is pushed

pending_take : (time : ℕ) (kind : Kind) (os : List Stamped) → AllByRecursion IsPending os → AllByRecursion (λ o. take_ended_by time kind o ≡ 0) os
pending_take time kind [] h = tt
pending_take time kind (o ∷ os) h = (ap (λ r. one_if (is_told_in kind r && ended_by time o.last)) h.0.not_told, pending_take time kind os h.1)

not_sooner : (ops : List Stamped) (place : ℕ) (others : List ℕ) → IsOfQueue ops → IsSooner ops place others → ⊥
not_sooner ops place others h s =
    let kind : Kind = same_value s.value in
    let f : Stamped → ℕ = take_ended_by s.time kind in
    let g : Stamped → ℕ = push_begun_by s.time kind in
    let o = is_order ops h in
    let l = h.linearizable in
    let all_f : sum_by f ops ≡ sum_by f (operations_of l.order) + sum_by f l.left_out = sum_ordered f ops l.order l.left_out o.moved in
    let all_g : sum_by g ops ≡ sum_by g (operations_of l.order) + sum_by g l.left_out = sum_ordered g ops l.order l.left_out o.moved in
    let out = sum_zero f l.left_out (pending_take s.time kind l.left_out o.pending) in
    let k = ended_begun s.time kind empty l.order o.runs o.told o.timely in
    let fewer = s.fewer in
    omega (arith, all_f, all_g, out, k, fewer)

-- ---- the queue is full where it was told to be empty

-- of spans that cover some numbers, one has each of these
spanned : (P : Span → Type 0) (first last time : ℕ) (spans : List Span) → Cover first last spans → first ≤ time → time ≤ last → AllByRecursion P spans
    → (span : Span) × (span.first ≤ time) × (time ≤ span.last) × P span
spanned P first last time [] c b e h = absurd (let k : last < first = c in omega (arith, k))
spanned P first last time (span ∷ spans) c b e h = go _ refl (λ more. spanned P (span.last + 1) last time spans (c.1 (omega (arith, more, e))) more e h.1)
  where
    go : (w : Bool) → nat_le time span.last ≡ w → (span.last + 1 ≤ time → (span : Span) × (span.first ≤ time) × (time ≤ span.last) × P span)
        → (span : Span) × (span.first ≤ time) × (time ≤ span.last) × P span
    go true w more = let k = c.0 in (span, omega (arith, k), leb-true _ _ w, h.0)
    go false w more = let k : span.last < time = leb-false _ _ w in more (omega arith)

empty_there : (queue : Queue) (actor : ℕ) (op : Op) → Empty ≡ (response actor op queue).reply → queue.values ≡ []
empty_there queue actor op h = go op queue.shut queue.values h
  where
    go : (op : Op) (shut : Bool) (values : List Taken) → Empty ≡ (response actor op (record { values = values; shut = shut })).reply → values ≡ []
    go (Enq body) true values h = absurd (cc h)
    go (Enq body) false values h = absurd (cc h)
    go Shut true values h = absurd (cc h)
    go Shut false values h = absurd (cc h)
    go Deq shut [] h = refl
    go Deq shut (v ∷ vs) h = absurd (cc h)

-- those that may follow ended from the latest start on
follow_late : (from time : ℕ) (a : Stamped) (os ys : List Stamped) → from ≤ time → ((last : ℕ) → a.first ≤ last → BeganBy last os → time ≤ last)
    → AllByRecursion (MayFollow os a) ys → AllByRecursion (EndedFrom from) ys
follow_late from time a os [] h least f = tt
follow_late from time a os (y ∷ ys) h least f = (go y.last f.0, follow_late from time a os ys h least f.1)
  where
    go : (last : Option ℕ) → IfSome last (λ last. (a.first ≤ last) × BeganBy last os) → IfSome last (λ last. from ≤ last)
    go None k = tt
    go (Some last) k = let j : time ≤ last = least last k.0 k.1 in omega (arith, j)

began_later : (time later : ℕ) → time ≤ later → (os : List Stamped) → BeganBy time os → BeganBy later os
began_later time later h [] b = tt
began_later time later h (o ∷ os) b = let k = b.0 in (omega (arith, k), began_later time later h os b.1)

no_take_of_empty : (until : ℕ) (kind : Kind) (o : Stamped) → o.reply ≡ Some Empty → take_begun_after until kind o ≡ 0
no_take_of_empty until kind o e = ap (λ r. one_if (is_told_in kind r && nat_lt until o.first)) e

-- one kind of values is there when the order comes to the pop
full_there : (ops : List Stamped) (o : Stamped) (from until time : ℕ) (kind : Kind) (t : Standing ops o) → o.reply ≡ Some Empty
    → Stays ops from until kind → from ≤ time → time ≤ until → BeganBy time (operations_of t.before)
    → EndedFrom time t.here.operation → AllByRecursion (EndedFrom from) (operations_of t.behind) → ⊥
full_there ops o from until time kind t e stays b c began ended later =
    let told : t.here.reply ≡ Empty = given_told ops o t Empty e in
    let gives = subst (λ r. AgreesWithQueue (after_run empty t.before) t.here.operation (Some r)) told (given_there ops o t) in
    let none : copies kind (after_run empty t.before).values ≡ 0 =
    ap (copies kind) (empty_there (after_run empty t.before) t.here.operation.actor t.here.operation.op gives) in
    let z = no_take_of_empty until kind t.here.operation (subst (λ p. p.reply ≡ Some Empty) (sym t.same) e) in
    let fewer = fewer_taken from until kind ops t.before t.here t.behind t.left t.order (began_later time until c (operations_of t.before) began) z stays in
    let pushed = pushed_before from kind ops t.before t.here t.behind t.left t.order (ended_sooner t.here.operation.last ended) later in
    let balance = run_balance kind empty t.before (run_parts empty t.before (t.here ∷ t.behind) t.order.runs).0 in
    omega (arith, none, fewer, pushed, balance)
  where
    ended_sooner : (last : Option ℕ) → IfSome last (λ last. time ≤ last) → IfSome last (λ last. from ≤ last)
    ended_sooner None k = tt
    ended_sooner (Some last) k = omega arith

-- what was told that the queue is empty stands in an order before the queue is shown to be shut
open_there : (ops : List Stamped) (o : Stamped) (t : Standing ops o) → o.reply ≡ Some Empty → (after_run empty t.before).shut ≡ false
open_there ops o t e =
    let queue : Queue = after_run empty t.before in
    given_empty t.here.operation.actor t.here.operation.op queue.values queue.shut
    (subst (λ r. AgreesWithQueue queue t.here.operation (Some r)) (given_told ops o t Empty e) (given_there ops o t))

-- those before it, and it, began by the time by which the queue isn't shut
began_while_open : (ops : List Stamped) (o : Stamped) (t : Standing ops o) (last time : ℕ) → o.reply ≡ Some Empty → t.here.operation.first ≤ last → BeganBy last (operations_of t.before)
    → IsOpenUntil ops last time → (t.here.operation.first ≤ time) × BeganBy time (operations_of t.before)
began_while_open ops o t last time e began all (inl same) = (subst (λ n. t.here.operation.first ≤ n) (sym same) began, subst (λ n. BeganBy n (operations_of t.before)) (sym same) all)
began_while_open ops o t last time e began all (inr s) = (
  began_by_shut ops s.place time s.evidence s.stands s.shut.shows s.shut.ended t.before t.here t.behind t.left t.order (open_there ops o t e),
  all_began_by_shut ops s.place time s.evidence s.stands s.shut.shows s.shut.ended [] t.before (t.here ∷ t.behind) t.left t.order (open_there ops o t e),
)

not_full : (ops : List Stamped) (place : ℕ) (spans : List Span) → IsOfQueue ops → IsFull ops place spans → ⊥
not_full ops place spans h s =
    let o = s.operation in
    let t = stands_in ops place o h s.stands (told_not_pending o Empty s.told) in
    let times = times_parted t.before t.here t.behind t.order.timely in
    let latest = latest_start t.here.operation (operations_of t.before) in
    let call : IsCall o = All-contains IsCall ops o h.calls (contained ops place o s.stands) in
    let ends : o.first ≤ s.last = subst (λ l. IfSome l (λ last. o.first ≤ last)) s.ended call.spans in
    let last : t.here.operation.last ≡ Some s.last = subst (λ p. p.last ≡ Some s.last) (sym t.same) s.ended in
    let first : t.here.operation.first ≡ o.first = ap (λ p. p.first) t.same in
    let began : BeganBy s.last (operations_of t.before) = subst (λ l. IfSome l (λ last. BeganBy last (operations_of t.before))) last times.0 in
    let starts : t.here.operation.first ≤ s.last = subst (λ n. n ≤ s.last) (sym first) ends in
    let by_last : latest.time ≤ s.last = latest.least s.last starts began in
    let early = began_while_open ops o t s.last s.time s.told starts began s.until in
    let in_time : latest.time ≤ s.time = latest.least s.time early.0 early.1 in
    let not_sooner : o.first ≤ latest.time = subst (λ n. n ≤ latest.time) first latest.began in
    let one = spanned (λ span. IsHeld ops span.first span.last span.held) o.first s.time latest.time spans s.cover not_sooner in_time
    (recursion_from_All (λ span. IsHeld ops span.first span.last span.held) spans s.each) in
    let stays = held_stays ops one.0.first one.0.last one.0.held one.3 in
    full_there ops o one.0.first one.0.last latest.time stays.0 t s.told stays.1 one.1 one.2 latest.others
    (subst (λ l. IfSome l (λ last. latest.time ≤ last)) (sym last) by_last)
    (follow_late one.0.first latest.time t.here.operation (operations_of t.before) (operations_of t.behind) one.1 latest.least times.1)

-- ---- a value is taken before one that was pushed before it

ended_from : (time first : ℕ) (last : Option ℕ) → time ≤ first → IfSome last (λ last. first ≤ last) → IfSome last (λ last. time ≤ last)
ended_from time first None h k = tt
ended_from time first (Some last) h k = omega arith

all_ended_from : (time : ℕ) (a : Stamped) (os ys : List Stamped) → time ≤ a.first → AllByRecursion (MayFollow os a) ys → AllByRecursion (EndedFrom time) ys
all_ended_from time a os [] h f = tt
all_ended_from time a os (y ∷ ys) h f = (go y.last f.0, all_ended_from time a os ys h f.1)
  where
    go : (last : Option ℕ) → IfSome last (λ last. (a.first ≤ last) × BeganBy last os) → IfSome last (λ last. time ≤ last)
    go None k = tt
    go (Some last) k = let j = k.0 in omega (arith, j)

one_is_so : (b : Bool) → 1 ≤ one_if b → b ≡ true
one_is_so true h = refl
one_is_so false h = absurd (omega arith)

-- no push of a kind began before a time, so each that counts as one in an order began from it on
begins_from : (time : ℕ) (kind : Kind) (ops : List Stamped) (xs : List Answered) (a : Answered) (ys : List Answered) (left : List Stamped)
    → IsOrder ops (xs ++ a ∷ ys) left → pushes_begun_before time kind ops ≡ 0 → pushed_in kind a ≡ 1 → time ≤ a.operation.first
begins_from time kind ops xs a ys left o none one = go (nat_lt a.operation.first time) refl
  where
    go : (b : Bool) → nat_lt a.operation.first time ≡ b → time ≤ a.operation.first
    go false e = ltb-false _ _ e
    go true e =
        let g : Stamped → ℕ = λ p. one_if (pushes_in kind p && nat_lt p.first time) in
        let all : sum_by g ops ≡ sum_by g (operations_of (xs ++ a ∷ ys)) + sum_by g left = sum_ordered g ops (xs ++ a ∷ ys) left o.moved in
        let parts = sum_parted g xs a ys in
        let told = (last_part GivesRecordedReply xs (a ∷ ys) o.told).0 in
        let more : pushed_in kind a ≤ one_if (pushes_in kind a.operation) = pushed_at_most (is_push_in kind a.operation.actor a.operation.op) a.operation.reply a.reply told in
        let pushes : pushes_in kind a.operation ≡ true = one_is_so (pushes_in kind a.operation) (omega (arith, more, one)) in
        let counted : g a.operation ≡ 1 = both (pushes_in kind a.operation) (nat_lt a.operation.first time) pushes e in
        absurd (omega (arith, none, all, parts, counted))

-- the values pushed before a value's first push are taken before it is
kept_order : (kind : Kind) (v : Taken) (bs : List Answered) (e : Answered) (cs : List Answered) (o : Stamped)
    → IsRun empty (bs ++ e ∷ cs) → sum_by (pushed_in (same_value v)) bs ≡ 0 → Value v ≡ (response o.actor o.op (after_run empty (bs ++ e ∷ cs))).reply
    → sum_by (pushed_in kind) bs ≤ sum_by (taken_in kind) (bs ++ e ∷ cs)
kept_order kind v bs e cs o runs none gives =
    let middle : Queue = after_run empty bs in
    let parts = run_parts empty bs (e ∷ cs) runs in
    let same : middle ≡ record { values = middle.values ++ []; shut = middle.shut } =
    ap (λ (vs : List Taken). let q : Queue = record { values = vs; shut = middle.shut } in q) (sym (append-nil middle.values)) in
    let of_v = run_balance (same_value v) empty bs parts.0 in
    let of_kind = run_balance kind empty bs parts.0 in
    let ahead = goes_before kind v middle.values [] middle.shut (e ∷ cs) o (omega (arith, of_v, none))
    (subst (λ q. IsRun q (e ∷ cs)) same parts.1)
    (subst (λ q. Value v ≡ (response o.actor o.op (after_run q (e ∷ cs))).reply) same (subst (λ q. Value v ≡ (response o.actor o.op q).reply) (after_parts empty bs (e ∷ cs)) gives)) in
    let all = sum_by-append (taken_in kind) bs (e ∷ cs) in
    omega (arith, of_kind, ahead, all)

-- a take of a value, where the first push of that in an order began at a time or later, and a kind stays
out_of_order : (ops : List Stamped) (from until : ℕ) (kind : Kind) (v : Taken) (bs : List Answered) (e : Answered) (cs : List Answered) (here : Answered) (behind : List Answered) (left : List Stamped)
    → IsOrder ops ((bs ++ e ∷ cs) ++ here ∷ behind) left → sum_by (pushed_in (same_value v)) bs ≡ 0 → pushed_in (same_value v) e ≡ 1
    → pushes_begun_before from (same_value v) ops ≡ 0 → Stays ops from until kind
    → Value v ≡ (response here.operation.actor here.operation.op (after_run empty (bs ++ e ∷ cs))).reply
    → here.operation.last ≡ Some until → ⊥
out_of_order ops from until kind v bs e cs here behind left o none one none_before stays gives last =
    let parted : IsOrder ops (bs ++ e ∷ (cs ++ here ∷ behind)) left = subst (λ order. IsOrder ops order left) (append_assoc bs (e ∷ cs) (here ∷ behind)) o in
    let begins = begins_from from (same_value v) ops bs e (cs ++ here ∷ behind) left parted none_before one in
    let call = (parted_have IsCall bs e (cs ++ here ∷ behind) parted.calls).0 in
    let later = times_parted bs e (cs ++ here ∷ behind) parted.timely in
    let pushed = pushed_before from kind ops bs e (cs ++ here ∷ behind) left parted
    (ended_from from e.operation.first e.operation.last begins call.spans)
    (all_ended_from from e.operation (operations_of bs) (operations_of (cs ++ here ∷ behind)) begins later.1) in
    let times = times_parted (bs ++ e ∷ cs) here behind o.timely in
    let began : BeganBy until (operations_of (bs ++ e ∷ cs)) = subst (λ l. IfSome l (λ last. BeganBy last (operations_of (bs ++ e ∷ cs)))) last times.0 in
    let here_call = (parted_have IsCall (bs ++ e ∷ cs) here behind o.calls).0 in
    let ends : here.operation.first ≤ until = subst (λ l. IfSome l (λ last. here.operation.first ≤ last)) last here_call.spans in
    let fewer = fewer_taken from until kind ops (bs ++ e ∷ cs) here behind left o began
    (and_false (is_told_in kind here.operation.reply) (nat_lt until here.operation.first) (not_lt until here.operation.first ends)) stays in
    let kept = kept_order kind v bs e cs here.operation (run_parts empty (bs ++ e ∷ cs) (here ∷ behind) o.runs).0 none gives in
    omega (arith, pushed, fewer, kept)
  where
    not_lt : (m n : ℕ) → n ≤ m → nat_lt m n ≡ false
    not_lt m n h = go (nat_lt m n) refl
      where
        go : (b : Bool) → nat_lt m n ≡ b → b ≡ false
        go false e = refl
        go true e = let j : m < n = ltb-true _ _ e in absurd (omega arith)

not_out_of_order : (ops : List Stamped) (place push : ℕ) (held : Held) → IsOfQueue ops → IsOutOfOrder ops place push held → ⊥
not_out_of_order ops place push held h s =
    let o = s.operation in
    let v = s.value in
    let t = stands_in ops place o h s.stands (told_not_pending o (Value v) s.took.told) in
    let told : t.here.reply ≡ Value v = given_told ops o t (Value v) s.took.told in
    let gives : Value v ≡ (response t.here.operation.actor t.here.operation.op (after_run empty t.before)).reply =
    subst (λ r. AgreesWithQueue (after_run empty t.before) t.here.operation (Some r)) told (given_there ops o t) in
    let there = step_taken (same_value v) (after_run empty t.before) t.here.operation t.here.reply (given_there ops o t) in
    let counts : one_if (is_told_in (same_value v) (Some t.here.reply)) ≡ 1 = ap (λ r. one_if (is_told_in (same_value v) (Some r))) told ∙ ap one_if (same_itself v) in
    let balance = run_balance (same_value v) empty t.before (run_parts empty t.before (t.here ∷ t.behind) t.order.runs).0 in
    let f = first_push (same_value v) t.before (omega (arith, there, counts, balance)) in
    let stays = held_stays ops s.pushing.first s.time held s.stays in
    out_of_order ops s.pushing.first s.time stays.0 v f.before f.here f.behind t.here t.behind t.left
    (subst (λ xs. IsOrder ops (xs ++ t.here ∷ t.behind) t.left) f.is t.order) f.none f.one s.none_before stays.1
    (subst (λ xs. Value v ≡ (response t.here.operation.actor t.here.operation.op (after_run empty xs)).reply) f.is gives)
    (subst (λ p. p.last ≡ Some s.time) (sym t.same) s.took.ended)

-- ---- each reason

-- where there is a reason, the history isn't one of a queue
pub excludes : (ops : List Stamped) (reason : Reason) → IsReason ops reason → IsOfQueue ops → ⊥
excludes ops (Shape place) r h = not_misshapen r.0 (All-contains IsCall ops r.0 h.calls (contained ops place r.0 r.1)) r.2
excludes ops (Spans place) r h = not_too_soon r.0 (All-contains IsCall ops r.0 h.calls (contained ops place r.0 r.1)) r.2
excludes ops (Replies place) r h = not_amiss ops place r.0 h r.1 r.2
excludes ops (Sooner place others) r h = not_sooner ops place others.items h r
excludes ops (Order place push held) r h = not_out_of_order ops place push held h r
excludes ops (Full place spans) r h = not_full ops place spans.items h r
excludes ops (Late place other) r h = not_late ops place other h r
excludes ops (Twice place other) r h = not_twice ops place other h r
excludes ops (Unshut place) r h = not_unshut ops place h r
excludes ops (Undrained place held) r h = not_undrained ops place held h r
excludes ops (Stuck place others) r h =
    let out = subst (λ (part : List Stamped). All (MayBeOut part) r.calls) r.is_part r.out in
    r.none (subst IsOfQueue (sym r.is_part) (part_is_of_queue r.calls out (subst IsOfQueue (sym r.begun) (begun_is_of_queue r.time ops h))))
