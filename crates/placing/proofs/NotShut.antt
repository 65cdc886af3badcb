-- A history with a reason about a shut isn't one of a queue.
use Rattle.std.proofs.Common.{◌≡◌, inl, inr, append_assoc, ℕ, ◌+◌, ◌-◌, ◌≤◌, ◌<◌, Bool, true, false, ◌&&◌, nat_le, nat_lt, Option, None, Some, IfSome, List, [], ◌∷◌, ◌++◌, refl, ap, ◌∙◌, subst, arith}
use Rattle.std.specs.List.{sum_by, AllByRecursion}
use Rattle.std.proofs.lemmas.Bool.{le-leb, lt-ltb}
use Rattle.std.proofs.lemmas.List.Sums.{sum_by-cons}
use Rattle.history.specs.declared.operations.Op.{Op}
use Rattle.history.specs.declared.operations.Op.TheVariants.{Enq, Deq, Shut}
use Rattle.history.specs.declared.operations.Taken.{Taken}
use Rattle.history.specs.declared.operations.Reply.{Reply}
use Rattle.history.specs.declared.operations.Reply.TheVariants.{Done, Value, Empty, Refused}
use Rattle.history.specs.declared.operations.Stamped.{Stamped}
use Rattle.history.specs.declared.refusals.Refusal.TheVariants.{Closed}
use Rattle.history.specs.Queue.{Queue, empty, response}
use Rattle.history.specs.History.{AgreesWithQueue}
use Rattle.history.specs.Linearizability.{Answered, operations_of, IsPending, GivesRecordedReply}
use Rattle.placing.specs.declared.answers.Held.{Held}
use Rattle.placing.specs.declared.answers.Held.TheVariants.{Value as OneValue, Left}
use Rattle.waiting_orders.specs.Waiting.{IsOfQueue}
use Rattle.placing.specs.Kinds.{Kind, same_value, is_told_in, is_push_in, pushes_in, is_told_shut, is_done_or_empty, pushes_begun_by, left_in}
use Rattle.placing.specs.Reasons.{StandsAt}
use Rattle.placing.specs.Reasons.{ShowsShut, IsTooLate, IsLate, IsTwice, IsUnshut, IsTakenBehind, IsThere, IsUndrained}
use Rattle.placing.proofs.Runs.{one_if, taken_in, copies, pushed_in, after_run, run_balance, run_parts, step_taken, same_itself}
use Rattle.placing.proofs.Sooner.{push_begun_by, pushed_at_most}
use Rattle.placing.proofs.Parting.{sum_parted, sum_ordered, sum_zero, sum_at_most, BeganBy, times_parted}
use Rattle.placing.proofs.Staying.{IsOrder, is_order, last_part, fewer_taken, take_begun_after, none_after, pending_after, all_after_at_most}
use Rattle.placing.proofs.Keeping.{both, counts_at, rising_count, CountsOn, left_stays}
use Rattle.placing.proofs.Standing.{Standing, stands_in, told_not_pending, given_there, given_told, first_push}
use Rattle.placing.proofs.BeforeShut.{told_shut_there, given_refused, given_done, given_empty, began_by_shut, shuts_once, done_shut, shut_began, pushed_before_shut, none_pushed, no_push}

-- ---- too late

open_here : (queue : Queue) (o : Stamped) (reply : Reply) → is_done_or_empty (Some reply) ≡ true → AgreesWithQueue queue o (Some reply) → queue.shut ≡ false
open_here queue o Done e h = given_done o.actor o.op queue.values queue.shut h
open_here queue o Empty e h = given_empty o.actor o.op queue.values queue.shut h
open_here queue o (Value v) e h = absurd (let x : false ≡ true = e in cc)
open_here queue o (Refused refusal) e h = absurd (let x : false ≡ true = e in cc)

-- an operation that was told done or empty began by the end of each that shows that the queue is shut
late_open : (ops : List Stamped) (place other time : ℕ) (o evidence : Stamped) (reply : Reply) → IsOfQueue ops → StandsAt ops place o → StandsAt ops other evidence → ShowsShut evidence time
    → o.reply ≡ Some reply → is_done_or_empty (Some reply) ≡ true → time < o.first → ⊥
late_open ops place other time o evidence reply h stands other_stands shows e open_only late =
    let t = stands_in ops place o h stands (told_not_pending o reply e) in
    let told : t.here.reply ≡ reply = given_told ops o t reply e in
    let there = subst (λ r. AgreesWithQueue (after_run empty t.before) t.here.operation (Some r)) told (given_there ops o t) in
    let shut : (after_run empty t.before).shut ≡ false = open_here (after_run empty t.before) t.here.operation reply open_only there in
    let began = began_by_shut ops other time evidence other_stands shows.shows shows.ended t.before t.here t.behind t.left t.order shut in
    let same : t.here.operation.first ≡ o.first = ap (λ (p : Stamped). p.first) t.same in
    omega (arith, began, same, late)

-- a push that counts as one in an order finds the queue not shut
push_open : (kind : Kind) (queue : Queue) (a : Answered) → AgreesWithQueue queue a.operation (Some a.reply) → pushed_in kind a ≡ 1 → queue.shut ≡ false
push_open kind queue a h one = go queue.shut refl
  where
    go : (b : Bool) → queue.shut ≡ b → queue.shut ≡ false
    go false e = e
    go true e = let none : pushed_in kind a ≡ 0 = no_push kind queue a.operation a.reply e h in absurd (omega (arith, none, one))

is_so : (b : Bool) → 1 ≤ one_if b → b ≡ true
is_so true h = refl
is_so false h = absurd (omega arith)

-- a push that counts as one in an order, and began by a time, is among those that began by then
begun_counts : (ops : List Stamped) (time : ℕ) (kind : Kind) (xs : List Answered) (a : Answered) (ys : List Answered) (left : List Stamped)
    → IsOrder ops (xs ++ a ∷ ys) left → pushed_in kind a ≡ 1 → a.operation.first ≤ time → 1 ≤ pushes_begun_by time kind ops
begun_counts ops time kind xs a ys left o one began =
    let g : Stamped → ℕ = push_begun_by time kind in
    let all : sum_by g ops ≡ sum_by g (operations_of (xs ++ a ∷ ys)) + sum_by g left = sum_ordered g ops (xs ++ a ∷ ys) left o.moved in
    let parts = sum_parted g xs a ys in
    let told = (last_part GivesRecordedReply xs (a ∷ ys) o.told).0 in
    let more : pushed_in kind a ≤ one_if (pushes_in kind a.operation) = pushed_at_most (is_push_in kind a.operation.actor a.operation.op) a.operation.reply a.reply told in
    let pushes : pushes_in kind a.operation ≡ true = is_so (pushes_in kind a.operation) (omega (arith, more, one)) in
    let counted : g a.operation ≡ 1 = both (pushes_in kind a.operation) (nat_le a.operation.first time) pushes (le-leb _ _ began) in
    omega (arith, all, parts, counted)

-- of a value that was taken a push began by the end of each operation that shows that the queue is shut
late_push : (ops : List Stamped) (place other time : ℕ) (o evidence : Stamped) (v : Taken) → IsOfQueue ops → StandsAt ops place o → StandsAt ops other evidence → ShowsShut evidence time
    → o.reply ≡ Some (Value v) → pushes_begun_by time (same_value v) ops ≡ 0 → ⊥
late_push ops place other time o evidence v h stands other_stands shows e none =
    let kind : Kind = same_value v in
    let t = stands_in ops place o h stands (told_not_pending o (Value v) e) in
    let told : t.here.reply ≡ Value v = given_told ops o t (Value v) e in
    let there = step_taken kind (after_run empty t.before) t.here.operation t.here.reply (given_there ops o t) in
    let counts : one_if (is_told_in kind (Some t.here.reply)) ≡ 1 = ap (λ r. one_if (is_told_in kind (Some r))) told ∙ ap one_if (same_itself v) in
    let balance = run_balance kind empty t.before (run_parts empty t.before (t.here ∷ t.behind) t.order.runs).0 in
    let f = first_push kind t.before (omega (arith, there, counts, balance)) in
    let order : IsOrder ops (f.before ++ f.here ∷ (f.behind ++ t.here ∷ t.behind)) t.left =
    subst (λ order. IsOrder ops order t.left) (append_assoc f.before (f.here ∷ f.behind) (t.here ∷ t.behind)) (subst (λ xs. IsOrder ops (xs ++ t.here ∷ t.behind) t.left) f.is t.order) in
    let gives = (run_parts empty f.before (f.here ∷ (f.behind ++ t.here ∷ t.behind)) order.runs).1.0 in
    let shut = push_open kind (after_run empty f.before) f.here gives f.one in
    let began = began_by_shut ops other time evidence other_stands shows.shows shows.ended f.before f.here (f.behind ++ t.here ∷ t.behind) t.left order shut in
    let some = begun_counts ops time kind f.before f.here (f.behind ++ t.here ∷ t.behind) t.left order f.one began in
    omega (arith, some, none)

pub not_late : (ops : List Stamped) (place other : ℕ) → IsOfQueue ops → IsLate ops place other → ⊥
not_late ops place other h s = go s.late
  where
    first : (reply : Option Reply) → s.operation.reply ≡ reply → is_done_or_empty reply ≡ true → s.time < s.operation.first → ⊥
    first None e open_only late = let x : false ≡ true = open_only in cc
    first (Some reply) e open_only late = late_open ops place other s.time s.operation s.evidence reply h s.stands s.other_stands s.shut e open_only late

    go : IsTooLate ops s.time s.operation → ⊥
    go (inl (open_only, late)) = first s.operation.reply refl open_only late
    go (inr (v, told, none)) = late_push ops place other s.time s.operation s.evidence v h s.stands s.other_stands s.shut told none

-- ---- two shuts

none_pending : (os : List Stamped) → AllByRecursion IsPending os → AllByRecursion (λ o. done_shut o ≡ 0) os
none_pending [] h = tt
none_pending (o ∷ os) h = (ap (λ r. done_shut (record o { reply = r })) h.0.not_told, none_pending os h.1)

counts_done : (ops : List Stamped) (place : ℕ) (o : Stamped) → StandsAt ops place o → done_shut o ≡ 1 → CountsOn done_shut ops 0 place
counts_done ops place o s one = let from_one = s.from_one in (o, place - 1, omega (arith, from_one), s.there, omega (arith, one))

pub not_twice : (ops : List Stamped) (place other : ℕ) → IsOfQueue ops → IsTwice ops place other → ⊥
not_twice ops place other h s =
    let o = is_order ops h in
    let l = h.linearizable in
    let from_one = s.other_stands.from_one in
    let two : 2 ≤ sum_by done_shut ops = rising_count done_shut ops 0 (other ∷ place ∷ []) (omega (arith, from_one), (s.apart, tt))
    (counts_done ops other s.one s.other_stands (ap one_if s.one_shut), (counts_done ops place s.operation s.stands (ap one_if s.shut), tt)) in
    let all : sum_by done_shut ops ≡ sum_by done_shut (operations_of l.order) + sum_by done_shut l.left_out = sum_ordered done_shut ops l.order l.left_out o.moved in
    let out = sum_zero done_shut l.left_out (none_pending l.left_out o.pending) in
    let once = shuts_once empty l.order o.runs o.told in
    omega (arith, two, all, out, once)

-- ---- told that the queue is shut

-- where an operation was told so, the queue is shut when an order comes to it
record ToldShut (ops : List Stamped) (o : Stamped) : Type 0 where
  there : Standing ops o
  refused : Refused Closed ≡ (response there.here.operation.actor there.here.operation.op (after_run empty there.before)).reply
  no_value : (kind : Kind) → is_told_in kind there.here.operation.reply ≡ false

told_shut : (ops : List Stamped) (place : ℕ) (o : Stamped) → IsOfQueue ops → StandsAt ops place o → is_told_shut o.reply ≡ true → ToldShut ops o
told_shut ops place o h s told = go o.reply refl told
  where
    go : (reply : Option Reply) → o.reply ≡ reply → is_told_shut reply ≡ true → ToldShut ops o
    go None e b = absurd (let x : false ≡ true = b in cc)
    go (Some Done) e b = absurd (let x : false ≡ true = b in cc)
    go (Some (Value v)) e b = absurd (let x : false ≡ true = b in cc)
    go (Some Empty) e b = absurd (let x : false ≡ true = b in cc)
    go (Some (Refused refusal)) e b =
        let t = stands_in ops place o h s (told_not_pending o (Refused refusal) e) in
        let gives = subst (λ r. AgreesWithQueue (after_run empty t.before) t.here.operation (Some r)) (given_told ops o t (Refused refusal) e) (given_there ops o t) in
        record {
          there = t;
          refused = told_shut_there (after_run empty t.before) t.here.operation refusal b gives;
          no_value = λ kind. ap (is_told_in kind) (ap (λ (p : Stamped). p.reply) t.same ∙ e);
        }

ends_here : (ops : List Stamped) (o : Stamped) (t : Standing ops o) (time : ℕ) → o.last ≡ Some time → t.here.operation.last ≡ Some time
ends_here ops o t time e = ap (λ (p : Stamped). p.last) t.same ∙ e

pub not_unshut : (ops : List Stamped) (place : ℕ) → IsOfQueue ops → IsUnshut ops place → ⊥
not_unshut ops place h s =
    let told = told_shut ops place s.operation h s.stands s.told in
    let t = told.there in
    let queue : Queue = after_run empty t.before in
    let shut : queue.shut ≡ true = given_refused t.here.operation.actor t.here.operation.op queue.values queue.shut told.refused in
    let began = shut_began ops s.time t.before t.here t.behind t.left t.order (ends_here ops s.operation t s.time s.ended) shut in
    let none = s.none in
    omega (arith, began, none)

-- ---- a value is left

closed_empty : (actor : ℕ) (op : Op) (values : List Taken) (shut : Bool) → op ≡ Deq → Refused Closed ≡ (response actor op (record { values = values; shut = shut })).reply → values ≡ []
closed_empty actor (Enq body) values shut e h = absurd (cc e)
closed_empty actor Shut values shut e h = absurd (cc e)
closed_empty actor Deq [] shut e h = refl
closed_empty actor Deq (front ∷ rest) shut e h = absurd (cc h)

-- no take began after a pop ended that was told that the queue is shut
none_behind : (ops : List Stamped) (o : Stamped) (t : Standing ops o) (until push take : ℕ) → (after_run empty t.before).shut ≡ true
    → ((kind : Kind) → copies kind (after_run empty t.before).values ≡ 0)
    → ((kind : Kind) → is_told_in kind t.here.operation.reply ≡ false) → BeganBy until (operations_of t.before) → IsTakenBehind ops until push take → ⊥
none_behind ops o t until push take shut none no_value began h =
    let kind : Kind = same_value h.value in
    let queue : Queue = after_run empty t.before in
    let f : Stamped → ℕ = take_begun_after until kind in
    let counts = counts_at f ops take h.taking h.take_stands in
    let one : f h.taking ≡ 1 = both (is_told_in kind h.taking.reply) (nat_lt until h.taking.first) h.takes (lt-ltb _ _ h.after) in
    let all : sum_by f ops ≡ sum_by f (operations_of (t.before ++ t.here ∷ t.behind)) + sum_by f t.left = sum_ordered f ops (t.before ++ t.here ∷ t.behind) t.left t.order.moved in
    let parts = sum_parted f t.before t.here t.behind in
    let sooner = sum_zero f (operations_of t.before) (none_after until kind (operations_of t.before) began) in
    let here : f t.here.operation ≡ 0 = ap (λ b. one_if (b && nat_lt until t.here.operation.first)) (no_value kind) in
    let out = sum_zero f t.left (pending_after until kind t.left t.order.pending) in
    let told = last_part GivesRecordedReply t.before (t.here ∷ t.behind) t.order.told in
    let behind = sum_at_most f (taken_in kind) t.behind (all_after_at_most until kind t.behind told.1) in
    let taken = sum_by-cons (taken_in kind) t.here t.behind in
    let runs = (run_parts empty t.before (t.here ∷ t.behind) t.order.runs).1 in
    let balance = run_balance kind queue (t.here ∷ t.behind) runs in
    let pushed = none_pushed kind queue (t.here ∷ t.behind) runs shut in
    let nothing = none kind in
    omega (arith, counts, one, all, parts, sooner, here, out, behind, taken, balance, pushed, nothing)

pub not_undrained : (ops : List Stamped) (place : ℕ) (held : Held) → IsOfQueue ops → IsUndrained ops place held → ⊥
not_undrained ops place held h s = go held s.stays
  where
    told : ToldShut ops s.operation
    told = told_shut ops place s.operation h s.stands s.told

    shut : (after_run empty told.there.before).shut ≡ true
    shut =
        let queue : Queue = after_run empty told.there.before in
        given_refused told.there.here.operation.actor told.there.here.operation.op queue.values queue.shut told.refused

    none : (kind : Kind) → copies kind (after_run empty told.there.before).values ≡ 0
    none kind =
        let queue : Queue = after_run empty told.there.before in
        let pops : told.there.here.operation.op ≡ Deq = ap (λ (p : Stamped). p.op) told.there.same ∙ s.pops in
        ap (copies kind) (closed_empty told.there.here.operation.actor told.there.here.operation.op queue.values queue.shut pops told.refused)

    began : BeganBy s.until (operations_of told.there.before)
    began =
        let t = told.there in
        let times = times_parted t.before t.here t.behind t.order.timely in
        subst (λ l. IfSome l (λ last. BeganBy last (operations_of t.before))) (ends_here ops s.operation t s.until s.ended) times.0

    go : (held : Held) → IsThere ops s.from s.until held → ⊥
    go (OneValue push take) stays = none_behind ops s.operation told.there s.until push take shut none told.no_value began stays
    go (Left places) left =
        let t = told.there in
        let kind : Kind = left_in ops in
        let z : take_begun_after s.until kind t.here.operation ≡ 0 = ap (λ b. one_if (b && nat_lt s.until t.here.operation.first)) (told.no_value kind) in
        let fewer = fewer_taken s.from s.until kind ops t.before t.here t.behind t.left t.order began z (left_stays ops s.from s.until places.items left) in
        let pushed = pushed_before_shut s.from kind ops t.before t.here t.behind t.left t.order shut in
        let balance = run_balance kind empty t.before (run_parts empty t.before (t.here ∷ t.behind) t.order.runs).0 in
        let nothing = none kind in
        omega (arith, nothing, fewer, pushed, balance)
