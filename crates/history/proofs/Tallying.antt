-- In a linearizable history no value is taken more often than it was pushed.
use Rattle.std.proofs.Common.{◌≡◌, ℕ, ◌+◌, ◌≤◌, Bool, true, false, ◌&&◌, cond, nat_eq, Option, None, Some, IfSome, List, [], ◌∷◌, ◌++◌, refl, sym, ap, subst, arith}
use Rattle.std.specs.List.{AllByRecursion, sum_by}
use Rattle.std.proofs.lemmas.List.Sums.{sum_by-cons, sum_by-append}
use Rattle.std.proofs.lemmas.List.Sorted.{sum_by-IsPermutation}
use Rattle.history.specs.declared.operations.Op.{Op}
use Rattle.history.specs.declared.operations.Op.TheVariants.{Enq, Deq, Shut}
use Rattle.history.specs.declared.operations.Taken.{Taken}
use Rattle.history.specs.declared.operations.Reply.{Reply}
use Rattle.history.specs.declared.operations.Reply.TheVariants.{Done, Value, Empty, Refused}
use Rattle.history.specs.declared.operations.Stamped.{Stamped}
use Rattle.history.specs.Queue.{Queue, empty, response}
use Rattle.history.specs.History.{AgreesWithQueue, answer, same_reply}
use Rattle.history.specs.Linearizability.{Answered, operations_of, IsPending, GivesRecordedReply, IsRun, IsLinearizable}
use Rattle.history.specs.SmallHistories.{five, taken_twice}
use Rattle.history.specs.Tallies.{is_told, is_not_refused, is_push_of, takes, pushes}

-- one for what is so, and else none
abbrev one_if : Bool → ℕ
one_if b = cond b 1 0

-- an operation counts as a take of a value, and as a push of it
abbrev take_of : Taken → Stamped → ℕ
take_of v o = one_if (is_told v o.reply)

abbrev push_of : Taken → Stamped → ℕ
push_of v o = one_if (is_not_refused o.reply && is_push_of v o.actor o.op)

-- the same by the reply that it is given in an order
abbrev taken_in : Taken → Answered → ℕ
taken_in v a = one_if (same_reply (Value v) a.reply)

abbrev pushed_in : Taken → Answered → ℕ
pushed_in v a = one_if (is_not_refused (Some a.reply) && is_push_of v a.operation.actor a.operation.op)

-- how often a list of values has one
abbrev copies : Taken → List Taken → ℕ
copies v values = sum_by (λ w. one_if (nat_eq v.from w.from && nat_eq v.body w.body)) values

-- ---- along a run

given_tally : (v : Taken) (actor : ℕ) (op : Op) (shut : Bool) (values : List Taken)
    → one_if (same_reply (Value v) (response actor op (record { values = values; shut = shut })).reply) + copies v
    (response actor op (record { values = values; shut = shut })).after.values ≤ one_if (is_push_of v actor op) + copies v values
given_tally v actor (Enq body) false values =
    let w : Taken = record { from = actor; body = body } in
    let e = sum_by-append (λ w. one_if (nat_eq v.from w.from && nat_eq v.body w.body)) values (w ∷ []) in
    omega (arith, e)
given_tally v actor (Enq body) true values = omega arith
given_tally v actor Shut false values = omega arith
given_tally v actor Shut true values = omega arith
given_tally v actor Deq false [] = omega arith
given_tally v actor Deq true [] = omega arith
given_tally v actor Deq shut (front ∷ rest) =
    let e = sum_by-cons (λ w. one_if (nat_eq v.from w.from && nat_eq v.body w.body)) front rest in
    omega (arith, e)

with_reply : (v : Taken) (queue : Queue) (o : Stamped) (reply : Reply) → reply ≡ (response o.actor o.op queue).reply
    → one_if (same_reply (Value v) reply) + copies v (response o.actor o.op queue).after.values ≤ one_if (is_push_of v o.actor o.op) + copies v
    queue.values
with_reply v queue o reply h =
    subst (λ r. one_if (same_reply (Value v) r) + copies v (response o.actor o.op queue).after.values ≤ one_if (is_push_of v o.actor o.op) + copies v queue.values)
    (sym h) (given_tally v o.actor o.op queue.shut queue.values)

-- what the queue has of a value and what is taken of it is what it had and what is pushed
step_tally : (v : Taken) (queue : Queue) (o : Stamped) (reply : Reply) → AgreesWithQueue queue o (Some reply)
    → one_if (same_reply (Value v) reply) + copies v (answer queue o (Some reply)).after.values ≤ one_if
    (is_not_refused (Some reply) && is_push_of v o.actor o.op) + copies v queue.values
step_tally v queue o (Refused refusal) h = omega arith
step_tally v queue o Done h =
    with_reply v queue o _ h
step_tally v queue o (Value w) h =
    with_reply v queue o _ h
step_tally v queue o Empty h =
    with_reply v queue o _ h

sums_on : (t ts c d p ps : ℕ) → t + c ≤ p + d → ts ≤ ps + c → t + ts ≤ p + ps + d
sums_on t ts c d p ps h k = omega arith

run_tally : (v : Taken) (queue : Queue) (order : List Answered) → IsRun queue order → sum_by (taken_in v) order ≤ sum_by (pushed_in v) order + copies v queue.values
run_tally v queue [] h = omega arith
run_tally v queue (a ∷ rest) h =
    let k = sums_on _ _ _ _ _ _ (step_tally v queue a.operation a.reply h.0) (run_tally v (answer queue a.operation (Some a.reply)).after rest h.1) in
    subst (λ n. n ≤ sum_by (pushed_in v) (a ∷ rest) + copies v queue.values) (sym (sum_by-cons (taken_in v) a rest))
    (subst (λ n. taken_in v a + sum_by (taken_in v) rest ≤ n + copies v queue.values) (sym (sum_by-cons (pushed_in v) a rest)) k)

-- ---- from the history to the order

told_tally : (v : Taken) (told : Option Reply) (reply : Reply) → IfSome told (λ told. reply ≡ told) → one_if (is_told v told) ≤ one_if (same_reply (Value v) reply)
told_tally v None reply h = omega arith
told_tally v (Some told) reply h =
    subst (λ r. one_if (same_reply (Value v) told) ≤ one_if (same_reply (Value v) r)) (sym h) (omega arith)

pushed_tally : (b : Bool) (told : Option Reply) (reply : Reply) → IfSome told (λ told. reply ≡ told) → one_if (is_not_refused (Some reply) && b) ≤ one_if (is_not_refused told && b)
pushed_tally b None (Refused refusal) h = omega arith
pushed_tally b None Done h = omega arith
pushed_tally b None (Value v) h = omega arith
pushed_tally b None Empty h = omega arith
pushed_tally b (Some told) reply h =
    subst (λ r. one_if (is_not_refused (Some r) && b) ≤ one_if (is_not_refused (Some told) && b)) (sym h) (omega arith)

-- the pairs of an order count as takes at least what its operations do, and as pushes at most
order_tally : (v : Taken) (order : List Answered) → AllByRecursion GivesRecordedReply order
    → (sum_by (take_of v) (operations_of order) ≤ sum_by (taken_in v) order) × (sum_by (pushed_in v) order ≤ sum_by (push_of v) (operations_of order))
order_tally v [] h = (omega arith, omega arith)
order_tally v (a ∷ rest) h =
    let more = order_tally v rest h.1 in
    let t = told_tally v a.operation.reply a.reply h.0 in
    let p = pushed_tally (is_push_of v a.operation.actor a.operation.op) a.operation.reply a.reply h.0 in (
      two_sums _ _ _ _ _ _ (sum_by-cons (take_of v) a.operation (operations_of rest)) (sum_by-cons (taken_in v) a rest) t more.0,
      two_sums _ _ _ _ _ _ (sum_by-cons (pushed_in v) a rest) (sum_by-cons (push_of v) a.operation (operations_of rest)) p more.1,
    )
  where
    two_sums : (x y a b c d : ℕ) → x ≡ a + b → y ≡ c + d → a ≤ c → b ≤ d → x ≤ y
    two_sums x y a b c d e f h k = omega arith

none_left : (v : Taken) (left : List Stamped) → AllByRecursion IsPending left → sum_by (take_of v) left ≡ 0
none_left v [] h = refl
none_left v (o ∷ os) h =
    let e : take_of v o ≡ 0 = ap (λ r. one_if (is_told v r)) h.0.not_told in
    zeros _ _ _ (sum_by-cons (take_of v) o os) e (none_left v os h.1)
  where
    zeros : (x a b : ℕ) → x ≡ a + b → a ≡ 0 → b ≡ 0 → x ≡ 0
    zeros x a b e f g = omega arith

-- no value is taken more often than it was pushed
pub takes_at_most_pushes : (ops : List Stamped) (v : Taken) → IsLinearizable ops → takes v ops ≤ pushes v ops
takes_at_most_pushes ops v h =
    let told = order_tally v h.order h.replies in
    subst (λ n. takes v ops ≤ n)
    (sum_by-IsPermutation (push_of v) ops (operations_of h.order ++ h.left_out) h.each_once)
    (in_all _ _ _ _ _ _ _ _ _
    (sum_by-IsPermutation (take_of v) ops (operations_of h.order ++ h.left_out) h.each_once)
    (sum_by-append (take_of v) (operations_of h.order) h.left_out)
    (none_left v h.left_out h.only_pending_left_out) told.0
    (run_tally v empty h.order h.runs) told.1
    (sum_by-append (push_of v) (operations_of h.order) h.left_out))
  where
    in_all : (t p ts ps of_order of_rest response put pending : ℕ) → ts ≡ t → ts ≡ of_order + of_rest → of_rest ≡ 0 → of_order ≤ response → response ≤ put + 0 → put ≤ p → ps ≡ p + pending → t ≤ ps
    in_all t p ts ps of_order of_rest response put pending a b c d e f g = omega arith

pub twice_is_not : IsLinearizable taken_twice → ⊥
twice_is_not h = let k : 2 ≤ 1 = takes_at_most_pushes taken_twice five h in omega arith
