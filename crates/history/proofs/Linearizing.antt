-- What is placed and legal is linearizable: the operations that have a place, by rising place, are an order that shows it.
use Rattle.std.proofs.Common.{◌≡◌, ℕ, ◌≤◌, Bool, true, false, not, cond, nat_le, if◌then◌else◌, Option, None, Some, IfSome, is_some, inr, ◌∙◌, List, [], ◌∷◌, ◌++◌, refl, sym, ap, subst, arith}
use Rattle.std.specs.List.{AllByRecursion, filter}
use Rattle.std.specs.List.Sorted.{IsPermutation}
use Rattle.std.proofs.lemmas.List.Sorted.{IsPermutation-refl, IsPermutation-sym, IsPermutation-cons, IsPermutation-trans, IsPermutation-middle, IsPermutation-append_left}
use Rattle.history.specs.declared.operations.Taken.{Taken}
use Rattle.history.specs.declared.operations.Op.{Op}
use Rattle.history.specs.declared.operations.Op.TheVariants.{Enq, Deq, Shut}
use Rattle.history.specs.declared.operations.Reply.{Reply}
use Rattle.history.specs.declared.operations.Reply.TheVariants.{Done, Value, Empty, Refused}
use Rattle.history.specs.declared.operations.Stamped.{Stamped}
use Rattle.history.specs.Queue.{Queue, empty, Answer, response, front_of}
use Rattle.history.specs.declared.refusals.Refusal.{Refusal}
use Rattle.history.specs.declared.refusals.Refusal.TheVariants.{Closed}
use Rattle.history.specs.History.{LiesIn, IsPlaced, Placement, point_or_zero, inserted, by_point, AgreesWithQueue, answer, IsSequentialRun, IsLegal}
use Rattle.history.specs.Linearizability.{Answered, operations_of, IsPending, GivesRecordedReply, MayComeBefore, KeepsTime, IsRun, IsLinearizable}
use Rattle.history.specs.Order.{Rises}
use Rattle.history.proofs.Ordered.{rising_moves, rising_rises}

-- ---- each operation once

-- whether an operation has a place
abbrev has_place : Stamped → Bool
has_place o = is_some o.at

with_front : (o : Stamped) (os passed failed : List Stamped) (b : Bool) → IsPermutation os (passed ++ failed) → IsPermutation (o ∷ os) (cond b (o ∷ passed) passed ++ cond (not b) (o ∷ failed) failed)
with_front o os passed failed true h = IsPermutation-cons o _ _ h
with_front o os passed failed false h =
    IsPermutation-trans (o ∷ os) (o ∷ (passed ++ failed)) (passed ++ o ∷ failed)
    (IsPermutation-cons o _ _ h) (IsPermutation-sym _ _ (IsPermutation-middle passed o failed))

-- the operations that pass a test and those that don't are all of them
split_moves : (test : Stamped → Bool) (os : List Stamped) → IsPermutation os (filter test os ++ filter (λ o. not (test o)) os)
split_moves test [] = IsPermutation-refl []
split_moves test (o ∷ os) = with_front o os (filter test os) (filter (λ o. not (test o)) os) (test o) (split_moves test os)

-- the operations by rising place, and those without a place, are all of them
rising_and_rest : (ops : List Stamped) → IsPermutation ops (by_point ops ++ filter (λ o. not (has_place o)) ops)
rising_and_rest ops =
    IsPermutation-trans _ _ _ (split_moves has_place ops)
    (IsPermutation-append_left (filter (λ o. not (has_place o)) ops) (filter has_place ops) (by_point ops) (rising_moves ops))

-- ---- who is left out is pending

pending : (o : Stamped) → IsPlaced o → has_place o ≡ false → IsPending o
pending o h none = go o.last o.at o.reply refl refl h none
  where
    go : (last at : Option ℕ) (reply : Option Reply) → o.last ≡ last → o.reply ≡ reply → LiesIn o.first last at reply → is_some at ≡ false → IsPending o
    go None None None e f h none = record { not_ended = e; not_told = f }
    go None (Some at) reply e f h none = cc none
    go (Some last) (Some at) reply e f h none = cc none
    go last None (Some reply) e f h none = cc (h.placed refl)
    go (Some last) None None e f h none = cc (h.ended.0 refl)

rest_pending : (os : List Stamped) → AllByRecursion IsPlaced os → AllByRecursion IsPending (filter (λ o. not (has_place o)) os)
rest_pending [] h = tt
rest_pending (o ∷ os) h = go (has_place o) refl (rest_pending os h.1)
  where
    go : (b : Bool) → has_place o ≡ b → AllByRecursion IsPending (filter (λ o. not (has_place o)) os)
        → AllByRecursion IsPending (cond (not b) (o ∷ filter (λ o. not (has_place o)) os) (filter (λ o. not (has_place o)) os))
    go true e more = more
    go false e more = (pending o h.0 e, more)

-- ---- the order keeps time

-- an operation's place lies between its first step and its last
abbrev LiesAtItsPlace : Stamped → Type 0
LiesAtItsPlace o = (o.first ≤ point_or_zero o.at) × IfSome o.last (λ last. point_or_zero o.at ≤ last)

lies_at_its_place : (first : ℕ) (last at : Option ℕ) (reply : Option Reply) → LiesIn first last at reply → is_some at ≡ true
    → (first ≤ point_or_zero at) × IfSome last (λ last. point_or_zero at ≤ last)
lies_at_its_place first last (Some at) reply h some = (h.not_before, h.not_after)
lies_at_its_place first last None reply h some = cc some

all_inserted : (P : Stamped → Type 0) (o : Stamped) (ps : List Stamped) → P o → AllByRecursion P ps → AllByRecursion P (inserted o ps)
all_inserted P o [] h a = (h, tt)
all_inserted P o (p ∷ ps) h a = go (nat_le (point_or_zero o.at) (point_or_zero p.at)) (all_inserted P o ps h a.1)
  where
    go : (b : Bool) → AllByRecursion P (inserted o ps) → AllByRecursion P (if b then o ∷ p ∷ ps else p ∷ inserted o ps)
    go true more = (h, a)
    go false more = (a.0, more)

rising_lie : (ops : List Stamped) → AllByRecursion IsPlaced ops → AllByRecursion LiesAtItsPlace (by_point ops)
rising_lie [] h = tt
rising_lie (o ∷ os) h = go (has_place o) refl (rising_lie os h.1)
  where
    go : (b : Bool) → has_place o ≡ b → AllByRecursion LiesAtItsPlace (by_point os) → AllByRecursion LiesAtItsPlace (if b then inserted o (by_point os) else by_point os)
    go true e more =
        all_inserted LiesAtItsPlace o (by_point os) (lies_at_its_place o.first o.last o.at o.reply h.0 e) more
    go false e more = more

before_last : (first a b : ℕ) (last : Option ℕ) → first ≤ a → a ≤ b → IfSome last (λ last. b ≤ last) → IfSome last (λ last. first ≤ last)
before_last first a b None h k l = tt
before_last first a b (Some last) h k l = omega arith

come_before : (o : Stamped) (ps : List Stamped) → LiesAtItsPlace o → AllByRecursion (λ p. point_or_zero o.at ≤ point_or_zero p.at) ps
    → AllByRecursion LiesAtItsPlace ps → AllByRecursion (MayComeBefore o) ps
come_before o [] h r l = tt
come_before o (p ∷ ps) h r l =
    (before_last o.first (point_or_zero o.at) (point_or_zero p.at) p.last h.0 r.0 l.0.1, come_before o ps h r.1 l.1)

keeps_time : (os : List Stamped) → Rises os → AllByRecursion LiesAtItsPlace os → KeepsTime os
keeps_time [] r l = tt
keeps_time (o ∷ os) r l = (come_before o os l.0 r.0 l.1, keeps_time os r.1 l.1)

-- ---- the order is a run

-- the reply that was told, and else what the queue gives
abbrev reply_in : Queue → Stamped → Option Reply → Reply
reply_in queue o None = (response o.actor o.op queue).reply
reply_in queue o (Some reply) = reply

-- operations, each with its reply in this order
abbrev answered : Queue → List Stamped → List Answered
answered queue [] = []
answered queue (o ∷ os) =
    record { operation = o; reply = reply_in queue o o.reply } ∷ answered (answer queue o o.reply).after os

same_operations : (queue : Queue) (os : List Stamped) → operations_of (answered queue os) ≡ os
same_operations queue [] = refl
same_operations queue (o ∷ os) = ap (λ r. o ∷ r) (same_operations (answer queue o o.reply).after os)

gives_told : (queue : Queue) (o : Stamped) (reply : Option Reply) → IfSome reply (λ told. reply_in queue o reply ≡ told)
gives_told queue o None = tt
gives_told queue o (Some reply) = refl

all_told : (queue : Queue) (os : List Stamped) → AllByRecursion GivesRecordedReply (answered queue os)
all_told queue [] = tt
all_told queue (o ∷ os) = (gives_told queue o o.reply, all_told (answer queue o o.reply).after os)

-- a reply that may be given: a refusal is that the queue is shut, which then stays as it is
abbrev IsGiven : Queue → Answer → Type 0
IsGiven queue given = (refusal : Refusal) → given.reply ≡ Refused refusal → (refusal ≡ Closed) × (given.after ≡ queue)

unless_shut_is_given : (shut : Bool) (queue after : Queue) → IsGiven queue (if shut then record { reply = Refused Closed; after = queue } else record { reply = Done; after = after })
unless_shut_is_given true queue after refusal e = (cc, refl)
unless_shut_is_given false queue after refusal e = absurd cc

none_is_given : (shut : Bool) (queue : Queue) → IsGiven queue (record { reply = if shut then Refused Closed else Empty; after = queue })
none_is_given true queue refusal e = (cc, refl)
none_is_given false queue refusal e = absurd cc

front_is_given : (queue : Queue) (values : List Taken) → IsGiven queue (front_of queue values)
front_is_given queue [] refusal e = none_is_given queue.shut queue refusal e
front_is_given queue (front ∷ rest) refusal e = absurd cc

given_is_given : (actor : ℕ) (op : Op) (queue : Queue) → IsGiven queue (response actor op queue)
given_is_given actor (Enq body) queue = unless_shut_is_given queue.shut queue _
given_is_given actor Deq queue = front_is_given queue queue.values
given_is_given actor Shut queue = unless_shut_is_given queue.shut queue _

-- an operation that is given what the queue gives gets it, and leads where the queue leads
gets_given : (queue : Queue) (o : Stamped) (given : Answer) (reply : Reply) → given ≡ response o.actor o.op queue → reply ≡ given.reply
    → IsGiven queue given → AgreesWithQueue queue o (Some reply) × (answer queue o (Some reply) ≡ response o.actor o.op queue)
gets_given queue o given Done is e n = (e ∙ ap (λ a. a.reply) is, refl)
gets_given queue o given (Value v) is e n = (e ∙ ap (λ a. a.reply) is, refl)
gets_given queue o given Empty is e n = (e ∙ ap (λ a. a.reply) is, refl)
gets_given queue o given (Refused refusal) is e n =
    let h = n refusal (sym e) in (
      inr (h.0, ap Refused (sym h.0) ∙ e ∙ ap (λ a. a.reply) is),
      (λ i. record { reply = e i; after = sym h.1 i }) ∙ is,
    )

runs_on : (queue : Queue) (o : Stamped) (os : List Stamped) (reply : Option Reply) → AgreesWithQueue queue o reply
    → IsRun (answer queue o reply).after (answered (answer queue o reply).after os) → AgreesWithQueue queue o (Some (reply_in queue o reply))
    × IsRun (answer queue o (Some (reply_in queue o reply))).after (answered (answer queue o reply).after os)
runs_on queue o os (Some reply) g more = (g, more)
runs_on queue o os None g more =
    let h = gets_given queue o (response o.actor o.op queue) (response o.actor o.op queue).reply refl refl (given_is_given o.actor o.op queue) in
    (h.0, subst (λ a. IsRun a.after (answered (response o.actor o.op queue).after os)) (sym h.1) more)

runs : (queue : Queue) (os : List Stamped) → IsSequentialRun queue os → IsRun queue (answered queue os)
runs queue [] h = tt
runs queue (o ∷ os) h = runs_on queue o os o.reply h.0 (runs (answer queue o o.reply).after os h.1)

-- what is placed and legal is linearizable
pub placed_linearizes : (ops : List Stamped) → Placement ops → IsLegal ops → IsLinearizable ops
placed_linearizes ops placed legal =
    let same : operations_of (answered empty (by_point ops)) ≡ by_point ops = same_operations empty (by_point ops) in
    record {
      order = answered empty (by_point ops);
      left_out = filter (λ o. not (has_place o)) ops;
      each_once = subst (λ r. IsPermutation ops (r ++ filter (λ o. not (has_place o)) ops)) (sym same) (rising_and_rest ops);
      only_pending_left_out = rest_pending ops placed.each;
      replies = all_told empty (by_point ops);
      timely = subst KeepsTime (sym same) (keeps_time (by_point ops) (rising_rises ops) (rising_lie ops placed.each));
      runs = runs empty (by_point ops) legal;
    }
