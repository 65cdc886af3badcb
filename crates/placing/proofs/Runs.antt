-- What a run of a queue pushes, takes and leaves of a kind of values.
use Rattle.std.proofs.Common.{◌≡◌, ◌⊎◌, inl, inr, append_assoc, ℕ, ◌+◌, ◌≤◌, Bool, true, false, ◌&&◌, cond, Some, List, [], ◌∷◌, ◌++◌, refl, sym, ap, ◌∙◌, subst, arith}
use Rattle.std.specs.List.{sum_by, AllByRecursion}
use Rattle.std.proofs.lemmas.Bool.{eq-eqb}
use Rattle.std.proofs.lemmas.List.{append-nil}
use Rattle.std.proofs.lemmas.List.Sums.{sum_by-cons, sum_by-append}
use Rattle.history.specs.declared.operations.Op.{Op}
use Rattle.history.specs.declared.operations.Op.TheVariants.{Enq, Deq, Shut}
use Rattle.history.specs.declared.operations.Taken.{Taken}
use Rattle.history.specs.declared.operations.Reply.{Reply}
use Rattle.history.specs.declared.operations.Reply.TheVariants.{Done, Value, Empty, Refused}
use Rattle.history.specs.declared.operations.Stamped.{Stamped}
use Rattle.history.specs.Queue.{Queue, response}
use Rattle.history.specs.History.{AgreesWithQueue, answer}
use Rattle.history.specs.Linearizability.{Answered, IsRun}
use Rattle.history.specs.Tallies.{is_not_refused}
use Rattle.placing.specs.Kinds.{Kind, same_value, is_told_in, is_push_in}

-- one for what is so, and else none
abbrev pub one_if : Bool → ℕ
one_if b = cond b 1 0

-- an operation of an order counts as a take of a kind, and as a push, by the reply that it is given there
abbrev pub taken_in : Kind → Answered → ℕ
taken_in kind a = one_if (is_told_in kind (Some a.reply))

abbrev pub pushed_in : Kind → Answered → ℕ
pushed_in kind a = one_if (is_not_refused (Some a.reply) && is_push_in kind a.operation.actor a.operation.op)

-- how many values of a kind a list has
abbrev pub copies : Kind → List Taken → ℕ
copies kind values = sum_by (λ v. one_if (kind v)) values

-- what the queue gives: what it has after that and what is taken is what it had and what is pushed
given_balance : (kind : Kind) (actor : ℕ) (op : Op) (shut : Bool) (values : List Taken)
    → one_if (is_told_in kind (Some (response actor op (record { values = values; shut = shut })).reply)) + copies kind (response actor op (record { values = values; shut = shut })).after.values
    ≡ one_if (is_not_refused (Some (response actor op (record { values = values; shut = shut })).reply) && is_push_in kind actor op) + copies kind values
given_balance kind actor (Enq body) true values = refl
given_balance kind actor Shut true values = refl
given_balance kind actor Shut false values = refl
given_balance kind actor (Enq body) false values =
    let w : Taken = record { from = actor; body = body } in
    let e = sum_by-append (λ v. one_if (kind v)) values (w ∷ []) in
    omega (arith, e)
given_balance kind actor Deq true [] = refl
given_balance kind actor Deq false [] = refl
given_balance kind actor Deq shut (front ∷ rest) =
    let e = sum_by-cons (λ v. one_if (kind v)) front rest in
    omega (arith, e)

with_reply : (kind : Kind) (queue : Queue) (o : Stamped) (reply : Reply) → reply ≡ (response o.actor o.op queue).reply
    → one_if (is_told_in kind (Some reply)) + copies kind (response o.actor o.op queue).after.values
    ≡ one_if (is_not_refused (Some reply) && is_push_in kind o.actor o.op) + copies kind queue.values
with_reply kind queue o reply h =
    subst (λ r. one_if (is_told_in kind (Some r)) + copies kind (response o.actor o.op queue).after.values ≡ one_if
    (is_not_refused (Some r) && is_push_in kind o.actor o.op) + copies kind queue.values)
    (sym h) (given_balance kind o.actor o.op queue.shut queue.values)

pub step_balance : (kind : Kind) (queue : Queue) (o : Stamped) (reply : Reply) → AgreesWithQueue queue o (Some reply)
    → one_if (is_told_in kind (Some reply)) + copies kind (answer queue o (Some reply)).after.values
    ≡ one_if (is_not_refused (Some reply) && is_push_in kind o.actor o.op) + copies kind queue.values
step_balance kind queue o (Refused refusal) h = refl
step_balance kind queue o Done h = with_reply kind queue o _ h
step_balance kind queue o (Value w) h = with_reply kind queue o _ h
step_balance kind queue o Empty h = with_reply kind queue o _ h

given_taken : (kind : Kind) (actor : ℕ) (op : Op) (shut : Bool) (values : List Taken)
    → one_if (is_told_in kind (Some (response actor op (record { values = values; shut = shut })).reply)) ≤ copies kind values
given_taken kind actor (Enq body) true values = omega arith
given_taken kind actor (Enq body) false values = omega arith
given_taken kind actor Shut true values = omega arith
given_taken kind actor Shut false values = omega arith
given_taken kind actor Deq true [] = omega arith
given_taken kind actor Deq false [] = omega arith
given_taken kind actor Deq shut (front ∷ rest) =
    let e = sum_by-cons (λ v. one_if (kind v)) front rest in
    omega (arith, e)

-- what is taken was there
pub step_taken : (kind : Kind) (queue : Queue) (o : Stamped) (reply : Reply) → AgreesWithQueue queue o (Some reply) → one_if (is_told_in kind (Some reply)) ≤ copies kind queue.values
step_taken kind queue o (Refused refusal) h = omega arith
step_taken kind queue o Done h = omega arith
step_taken kind queue o (Value w) h =
    subst (λ r. one_if (is_told_in kind (Some r)) ≤ copies kind queue.values) (sym h) (given_taken kind o.actor o.op queue.shut queue.values)
step_taken kind queue o Empty h = omega arith

-- the queue after the operations of an order
abbrev pub after_run : Queue → List Answered → Queue
after_run queue [] = queue
after_run queue (a ∷ rest) = after_run (answer queue a.operation (Some a.reply)).after rest

sums_on : (t ts c d e p ps : ℕ) → t + c ≡ p + d → ts + e ≡ ps + c → t + ts + e ≡ p + ps + d
sums_on t ts c d e p ps h k = omega arith

-- what is taken in a run and left after it is what was there and what is pushed
pub run_balance : (kind : Kind) (queue : Queue) (order : List Answered) → IsRun queue order
    → sum_by (taken_in kind) order + copies kind (after_run queue order).values ≡ sum_by (pushed_in kind) order + copies kind queue.values
run_balance kind queue [] h = refl
run_balance kind queue (a ∷ rest) h =
    let next : Queue = (answer queue a.operation (Some a.reply)).after in
    let k = sums_on _ _ _ _ _ _ _ (step_balance kind queue a.operation a.reply h.0) (run_balance kind next rest h.1) in
    subst (λ n. n + copies kind (after_run next rest).values ≡ sum_by (pushed_in kind) (a ∷ rest) + copies kind queue.values) (sym (sum_by-cons (taken_in kind) a rest))
    (subst (λ n. taken_in kind a + sum_by (taken_in kind) rest + copies kind (after_run next rest).values ≡ n + copies kind queue.values) (sym (sum_by-cons (pushed_in kind) a rest)) k)

-- a run of two parts stops between them
pub run_parts : (queue : Queue) (xs ys : List Answered) → IsRun queue (xs ++ ys) → IsRun queue xs × IsRun (after_run queue xs) ys
run_parts queue [] ys h = (tt, h)
run_parts queue (a ∷ rest) ys h =
    let k = run_parts (answer queue a.operation (Some a.reply)).after rest ys h.1 in
    ((h.0, k.0), k.1)

-- and the second part goes on from there
pub after_parts : (queue : Queue) (xs ys : List Answered) → after_run queue (xs ++ ys) ≡ after_run (after_run queue xs) ys
after_parts queue [] ys = refl
after_parts queue (a ∷ rest) ys = after_parts (answer queue a.operation (Some a.reply)).after rest ys

-- ---- the front

-- the queue gives the operation its reply, in some state
abbrev pub IsGiven : Answered → Type 0
IsGiven a = (queue : Queue) × AgreesWithQueue queue a.operation (Some a.reply)

-- each operation of a run is given its reply
pub all_given : (queue : Queue) (order : List Answered) → IsRun queue order → AllByRecursion IsGiven order
all_given queue [] h = tt
all_given queue (a ∷ rest) h =
    ((queue, h.0), all_given (answer queue a.operation (Some a.reply)).after rest h.1)

-- What an operation does to a queue that isn't empty: values are put at its back, or the front is taken. It may be shut
-- then.
abbrev GoesOn : (u : Taken) (us : List Taken) (shut : Bool) → Reply → Queue → Type 0
GoesOn u us shut reply after =
    ((ws : List Taken) × (shut_then : Bool) × (after ≡ record { values = (u ∷ us) ++ ws; shut = shut_then })) ⊎ ((reply ≡ Value u) × (after ≡ record { values = us; shut = shut }))

stays_as_it_is : (u : Taken) (us : List Taken) (shut shut_then : Bool) (reply : Reply) → GoesOn u us shut reply (record { values = u ∷ us; shut = shut_then })
stays_as_it_is u us shut shut_then reply = inl ([], shut_then, ap (λ (vs : List Taken). let q : Queue = record { values = vs; shut = shut_then } in q) (sym (append-nil (u ∷ us))))

given_goes_on : (u : Taken) (us : List Taken) (shut : Bool) (actor : ℕ) (op : Op)
    → GoesOn u us shut (response actor op (record { values = u ∷ us; shut = shut })).reply
    (response actor op (record { values = u ∷ us; shut = shut })).after
given_goes_on u us false actor (Enq body) = inl (record { from = actor; body = body } ∷ [], false, refl)
given_goes_on u us true actor (Enq body) = stays_as_it_is u us true true _
given_goes_on u us false actor Shut = stays_as_it_is u us false true _
given_goes_on u us true actor Shut = stays_as_it_is u us true true _
given_goes_on u us shut actor Deq = inr (refl, refl)

step_goes_on : (u : Taken) (us : List Taken) (shut : Bool) (o : Stamped) (reply : Reply)
    → AgreesWithQueue (record { values = u ∷ us; shut = shut }) o (Some reply)
    → GoesOn u us shut reply (answer (record { values = u ∷ us; shut = shut }) o (Some reply)).after
step_goes_on u us shut o (Refused refusal) h = stays_as_it_is u us shut shut _
step_goes_on u us shut o Done h =
    subst (λ r. GoesOn u us shut r (response o.actor o.op (record { values = u ∷ us; shut = shut })).after) (sym h) (given_goes_on u us shut o.actor o.op)
step_goes_on u us shut o (Value w) h =
    subst (λ r. GoesOn u us shut r (response o.actor o.op (record { values = u ∷ us; shut = shut })).after) (sym h) (given_goes_on u us shut o.actor o.op)
step_goes_on u us shut o Empty h =
    subst (λ r. GoesOn u us shut r (response o.actor o.op (record { values = u ∷ us; shut = shut })).after) (sym h) (given_goes_on u us shut o.actor o.op)

-- the front of a queue is what a pop is told
front_is : (v u : Taken) (us : List Taken) (shut : Bool) (actor : ℕ) (op : Op) → Value v ≡ (response actor op (record { values = u ∷ us; shut = shut })).reply → v ≡ u
front_is v u us true actor (Enq body) h = cc h
front_is v u us false actor (Enq body) h = cc h
front_is v u us true actor Shut h = cc h
front_is v u us false actor Shut h = cc h
front_is v u us shut actor Deq h = cc h

-- a value is of its own kind
pub same_itself : (v : Taken) → same_value v v ≡ true
same_itself v = both (eq-eqb v.from v.from refl) (eq-eqb v.body v.body refl)
  where
    both : {a b : Bool} → a ≡ true → b ≡ true → (a && b) ≡ true
    both {a} {b} h k = subst (λ x. (x && b) ≡ true) (sym h) k

-- a value isn't the front of values that haven't it
not_ahead : (v u : Taken) (us : List Taken) → copies (same_value v) (u ∷ us) ≡ 0 → v ≡ u → ⊥
not_ahead v u us none e =
    let one : one_if (same_value v u) ≡ 1 = ap one_if (subst (λ w. same_value v w ≡ true) e (same_itself v)) in
    let d = sum_by-cons (λ w. one_if (same_value v w)) u us in
    omega (arith, one, d, none)

-- Where values are ahead of the others, and haven't the value that a pop is told after some operations, then these take
-- all values ahead.
pub goes_before : (kind : Kind) (v : Taken) (ahead behind : List Taken) (shut : Bool) (xs : List Answered) (o : Stamped)
    → copies (same_value v) ahead ≡ 0 → IsRun (record { values = ahead ++ behind; shut = shut }) xs
    → Value v ≡ (response o.actor o.op (after_run (record { values = ahead ++ behind; shut = shut }) xs)).reply
    → copies kind ahead ≤ sum_by (taken_in kind) xs
goes_before kind v [] behind shut xs o none h e = omega arith
goes_before kind v (u ∷ us) behind shut [] o none h e =
    absurd (not_ahead v u us none (front_is v u (us ++ behind) shut o.actor o.op e))
goes_before kind v (u ∷ us) behind shut (a ∷ rest) o none h e =
    go (step_goes_on u (us ++ behind) shut a.operation a.reply h.0) (λ more shut_then. goes_before kind v (u ∷ us) (behind ++ more) shut_then rest o none)
    (goes_before kind v us behind shut rest o (less none))
  where
    less : copies (same_value v) (u ∷ us) ≡ 0 → copies (same_value v) us ≡ 0
    less z = let d = sum_by-cons (λ w. one_if (same_value v w)) u us in omega (arith, d, z)

    go : GoesOn u (us ++ behind) shut a.reply (answer (record { values = u ∷ (us ++ behind); shut = shut }) a.operation (Some a.reply)).after
        → ((more : List Taken) (shut_then : Bool) → IsRun (record { values = (u ∷ us) ++ (behind ++ more); shut = shut_then }) rest
        → Value v ≡ (response o.actor o.op (after_run (record { values = (u ∷ us) ++ (behind ++ more); shut = shut_then }) rest)).reply
        → copies kind (u ∷ us) ≤ sum_by (taken_in kind) rest)
        → (IsRun (record { values = us ++ behind; shut = shut }) rest → Value v ≡
        (response o.actor o.op (after_run (record { values = us ++ behind; shut = shut }) rest)).reply
        → copies kind us ≤ sum_by (taken_in kind) rest)
        → copies kind (u ∷ us) ≤ sum_by (taken_in kind) (a ∷ rest)
    go (inl (ws, shut_then, q)) stays goes =
        let same : (answer (record { values = u ∷ (us ++ behind); shut = shut }) a.operation (Some a.reply)).after ≡ record { values = (u ∷ us) ++ (behind ++ ws); shut = shut_then } =
        q ∙ ap (λ (vs : List Taken). let w : Queue = record { values = vs; shut = shut_then } in w) (append_assoc (u ∷ us) behind ws) in
        let k = stays ws shut_then (subst (λ x. IsRun x rest) same h.1) (subst (λ x. Value v ≡ (response o.actor o.op (after_run x rest)).reply) same e) in
        let d = sum_by-cons (taken_in kind) a rest in
        omega (arith, k, d)
    go (inr (r, q)) stays goes =
        let k = goes (subst (λ x. IsRun x rest) q h.1) (subst (λ x. Value v ≡ (response o.actor o.op (after_run x rest)).reply) q e) in
        let d = sum_by-cons (taken_in kind) a rest in
        let c = sum_by-cons (λ w. one_if (kind w)) u us in
        let t : taken_in kind a ≡ one_if (kind u) = ap (λ r. one_if (is_told_in kind (Some r))) r in
        omega (arith, k, d, c, t)
