-- By each time no more takes of a kind have ended than pushes of it have begun.
use Rattle.std.proofs.Common.{◌≡◌, ℕ, ◌+◌, ◌≤◌, ◌<◌, Bool, true, false, ◌&&◌, nat_le, Option, None, Some, IfSome, List, [], ◌∷◌, refl, sym, ◌∙◌, subst, arith}
use Rattle.std.specs.List.{sum_by, AllByRecursion}
use Rattle.std.proofs.lemmas.Bool.{leb-true, leb-false}
use Rattle.std.proofs.lemmas.List.Sums.{sum_by-cons}
use Rattle.history.specs.declared.operations.Reply.{Reply}
use Rattle.history.specs.declared.operations.Reply.TheVariants.{Done, Value, Empty, Refused}
use Rattle.history.specs.declared.operations.Stamped.{Stamped}
use Rattle.history.specs.Queue.{Queue}
use Rattle.history.specs.History.{AgreesWithQueue, answer}
use Rattle.history.specs.Linearizability.{Answered, operations_of, MayComeBefore, KeepsTime, GivesRecordedReply, IsRun}
use Rattle.history.specs.Tallies.{is_not_refused}
use Rattle.placing.specs.Kinds.{Kind, is_told_in, is_push_in, pushes_in, ended_by}
use Rattle.placing.proofs.Runs.{one_if, copies, step_balance, step_taken}

-- an operation counts as a take of a kind that ended by a time
abbrev pub take_ended_by : ℕ → Kind → Stamped → ℕ
take_ended_by time kind o = one_if (is_told_in kind o.reply && ended_by time o.last)

-- and as a push of a kind that began by a time
abbrev pub push_begun_by : ℕ → Kind → Stamped → ℕ
push_begun_by time kind o = one_if (pushes_in kind o && nat_le o.first time)

late : (time first : ℕ) → time < first → (b : Bool) (last : Option ℕ) → IfSome last (λ last. first ≤ last) → one_if (b && ended_by time last) ≡ 0
late time first h false last k = refl
late time first h true None k = refl
late time first h true (Some last) k = go (nat_le last time) refl
  where
    go : (b : Bool) → nat_le last time ≡ b → one_if b ≡ 0
    go false e = refl
    go true e = let j : last ≤ time = leb-true _ _ e in absurd (omega arith)

-- where a call began after a time, none behind it in an order ended by then
none_by : (time : ℕ) (kind : Kind) (o : Stamped) → time < o.first → (os : List Stamped) → AllByRecursion (MayComeBefore o) os → sum_by (take_ended_by time kind) os ≡ 0
none_by time kind o h [] a = refl
none_by time kind o h (p ∷ ps) a =
    let e = late time o.first h (is_told_in kind p.reply) p.last a.0 in
    let k = none_by time kind o h ps a.1 in
    sum_by-cons (take_ended_by time kind) p ps ∙ omega (arith, e, k)

-- what an operation was told counts no more than what it is given
pub told_at_most : (kind : Kind) (told : Option Reply) (reply : Reply) → IfSome told (λ told. reply ≡ told) → one_if (is_told_in kind told) ≤ one_if (is_told_in kind (Some reply))
told_at_most kind None reply h = omega arith
told_at_most kind (Some told) reply h =
    subst (λ r. one_if (is_told_in kind (Some told)) ≤ one_if (is_told_in kind (Some r))) (sym h) (omega arith)

-- what it is given counts as a push no more than what it was told
pub pushed_at_most : (b : Bool) (told : Option Reply) (reply : Reply) → IfSome told (λ told. reply ≡ told) → one_if (is_not_refused (Some reply) && b) ≤ one_if (is_not_refused told && b)
pushed_at_most b None (Refused refusal) h = omega arith
pushed_at_most b None Done h = omega arith
pushed_at_most b None (Value v) h = omega arith
pushed_at_most b None Empty h = omega arith
pushed_at_most b (Some told) reply h =
    subst (λ r. one_if (is_not_refused (Some r) && b) ≤ one_if (is_not_refused (Some told) && b)) (sym h) (omega arith)

at_most : (a b : Bool) → one_if (a && b) ≤ one_if a
at_most true true = omega arith
at_most true false = omega arith
at_most false b = omega arith

begun : (a b : Bool) → b ≡ true → one_if a ≤ one_if (a && b)
begun true true e = omega arith
begun false b e = omega arith
begun true false e = cc e

-- the step of an induction over an order, whose first operation began by the time or after it
on_time : (ended told taken begun_by not_refused pushed later_ended later_begun before after : ℕ)
    → ended ≤ told → told ≤ taken → pushed ≤ not_refused → not_refused ≤ begun_by
    → taken + after ≡ pushed + before → later_ended ≤ after + later_begun
    → ended + later_ended ≤ before + (begun_by + later_begun)
on_time ended told taken begun_by not_refused pushed later_ended later_begun before after a b c d e f = omega arith

too_late : (ended told taken begun_by later_ended later_begun before : ℕ)
    → ended ≤ told → told ≤ taken → taken ≤ before → later_ended ≡ 0
    → ended + later_ended ≤ before + (begun_by + later_begun)
too_late ended told taken begun_by later_ended later_begun before a b c d = omega arith

-- one operation more, where by the time it ended as a take or began as a push
one_more : (time : ℕ) (kind : Kind) (queue : Queue) (a : Answered) (os : List Stamped) (b : Bool)
    → nat_le a.operation.first time ≡ b → AgreesWithQueue queue a.operation (Some a.reply) → GivesRecordedReply a → AllByRecursion (MayComeBefore a.operation) os
    → sum_by (take_ended_by time kind) os ≤ copies kind (answer queue a.operation (Some a.reply)).after.values + sum_by (push_begun_by time kind) os
    → take_ended_by time kind a.operation + sum_by (take_ended_by time kind) os ≤ copies kind queue.values + (push_begun_by time kind a.operation + sum_by (push_begun_by time kind) os)
one_more time kind queue a os true e h g k later =
    on_time _ _ _ _ _ _ _ _ _ _
    (at_most (is_told_in kind a.operation.reply) (ended_by time a.operation.last))
    (told_at_most kind a.operation.reply a.reply g)
    (pushed_at_most (is_push_in kind a.operation.actor a.operation.op) a.operation.reply a.reply g)
    (begun (pushes_in kind a.operation) (nat_le a.operation.first time) e)
    (step_balance kind queue a.operation a.reply h)
    later
one_more time kind queue a os false e h g k later =
    let j : time < a.operation.first = leb-false _ _ e in
    too_late _ _ _ _ _ _ _
    (at_most (is_told_in kind a.operation.reply) (ended_by time a.operation.last))
    (told_at_most kind a.operation.reply a.reply g)
    (step_taken kind queue a.operation a.reply h)
    (none_by time kind a.operation j os k)

-- in a run that keeps time, by each time no more takes of a kind ended than there were values and pushes began
pub ended_begun : (time : ℕ) (kind : Kind) (queue : Queue) (order : List Answered) → IsRun queue order → AllByRecursion GivesRecordedReply order → KeepsTime (operations_of order)
    → sum_by (take_ended_by time kind) (operations_of order) ≤ copies kind queue.values + sum_by (push_begun_by time kind) (operations_of order)
ended_begun time kind queue [] h g k = omega arith
ended_begun time kind queue (a ∷ rest) h g k =
    let os : List Stamped = operations_of rest in
    let later = ended_begun time kind (answer queue a.operation (Some a.reply)).after rest h.1 g.1 k.1 in
    subst (λ n. n ≤ copies kind queue.values + sum_by (push_begun_by time kind) (a.operation ∷ os)) (sym (sum_by-cons (take_ended_by time kind) a.operation os))
    (subst (λ n. take_ended_by time kind a.operation + sum_by (take_ended_by time kind) os ≤ copies kind queue.values + n) (sym (sum_by-cons (push_begun_by time kind) a.operation os))
    (one_more time kind queue a os _ refl h.0 g.0 k.0 later))
