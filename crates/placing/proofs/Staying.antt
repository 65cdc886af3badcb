-- Values that stay: what was pushed before a time, and isn't taken by operations that began by another.
use Rattle.std.proofs.Common.{◌≡◌, ◌⊎◌, inl, inr, ℕ, ◌+◌, ◌≤◌, ◌<◌, Bool, true, false, ◌&&◌, nat_le, nat_lt, Option, None, Some, IfSome, IsSome, List, [], ◌∷◌, ◌++◌, refl, sym, ap, subst, arith}
use Rattle.std.specs.List.{sum_by, AllByRecursion}
use Rattle.std.specs.List.Sorted.{IsPermutation}
use Rattle.std.proofs.lemmas.Bool.{ltb-true, le-leb}
use Rattle.std.proofs.lemmas.List.Sums.{sum_by-cons, sum_by-append}
use Rattle.std.proofs.lemmas.List.Elements.{recursion_from_All}
use Rattle.std.proofs.lemmas.List.Sorted.{All-permutation}
use Rattle.history.specs.declared.operations.Op.{Op}
use Rattle.history.specs.declared.operations.Op.TheVariants.{Enq, Deq, Shut}
use Rattle.history.specs.declared.operations.Taken.{Taken}
use Rattle.history.specs.declared.operations.Reply.{Reply}
use Rattle.history.specs.declared.operations.Reply.TheVariants.{Done, Value, Empty, Refused}
use Rattle.history.specs.declared.operations.Stamped.{Stamped}
use Rattle.history.specs.Queue.{Queue, empty, response, unless_shut}
use Rattle.history.specs.History.{AgreesWithQueue}
use Rattle.history.specs.Linearizability.{Answered, operations_of, IsPending, GivesRecordedReply, KeepsTime, IsRun}
use Rattle.history.specs.Tallies.{is_not_refused}
use Rattle.waiting_orders.specs.Waiting.{IsCall, IsOfQueue}
use Rattle.placing.specs.Kinds.{Kind, is_told_in, is_push_in, pushes_in, is_pending_pop, ended_before, pushes_of, pushes_ended_before, takes_begun_by, takes_begun_after, pending_by}
use Rattle.placing.proofs.Runs.{one_if, taken_in, pushed_in, run_balance, IsGiven, all_given}
use Rattle.placing.proofs.Sooner.{told_at_most, pushed_at_most}
use Rattle.placing.proofs.Parting.{sum_parted, sum_ordered, sum_zero, sum_at_most, sum_at_least, BeganBy}

-- an operation counts as a push of a kind that ended before a time
abbrev pub push_ended_before : ℕ → Kind → Stamped → ℕ
push_ended_before time kind o = one_if (pushes_in kind o && ended_before time o.last)

-- as a take of a kind that began by a time, and as one that began after it
abbrev pub take_begun_by : ℕ → Kind → Stamped → ℕ
take_begun_by time kind o = one_if (is_told_in kind o.reply && nat_le o.first time)

abbrev pub take_begun_after : ℕ → Kind → Stamped → ℕ
take_begun_after time kind o = one_if (is_told_in kind o.reply && nat_lt time o.first)

-- as a pending pop that began by a time
abbrev pub pop_begun_by : ℕ → Stamped → ℕ
pop_begun_by time o = one_if (is_pending_pop o.op o.reply && nat_le o.first time)

-- an operation ended at a time or later, or not at all
abbrev pub EndedFrom : ℕ → Stamped → Type 0
EndedFrom time o = IfSome o.last (λ last. time ≤ last)

-- what isn't so counts none
pub and_false : (a b : Bool) → b ≡ false → one_if (a && b) ≡ 0
and_false true b e = ap one_if e
and_false false b e = refl

first_at_most : (a b : Bool) → one_if (a && b) ≤ one_if a
first_at_most true true = omega arith
first_at_most true false = omega arith
first_at_most false b = omega arith

pub not_before : (time : ℕ) (last : Option ℕ) → IfSome last (λ last. time ≤ last) → ended_before time last ≡ false
not_before time None h = refl
not_before time (Some last) h = go (nat_lt last time) refl
  where
    go : (b : Bool) → nat_lt last time ≡ b → b ≡ false
    go false e = refl
    go true e = let j : last < time = ltb-true _ _ e in absurd (omega arith)

-- what is said of a reply that is a value
abbrev IfValue : Reply → Type 0 → Type 0
IfValue Done P = Unit {0}
IfValue (Value v) P = P
IfValue Empty P = Unit {0}
IfValue (Refused refusal) P = Unit {0}

at_most_one : (b : Bool) → one_if b ≤ 1
at_most_one true = omega arith
at_most_one false = omega arith

whole : (a b : Bool) → b ≡ true → one_if a ≤ one_if (a && b)
whole true b e = let k : one_if b ≡ 1 = ap one_if e in omega (arith, k)
whole false b e = omega arith

-- ---- pushes that ended before a time

pub none_ended : (time : ℕ) (kind : Kind) (os : List Stamped) → AllByRecursion (EndedFrom time) os → AllByRecursion (λ o. push_ended_before time kind o ≡ 0) os
none_ended time kind [] h = tt
none_ended time kind (o ∷ os) h = (and_false (pushes_in kind o) _ (not_before time o.last h.0), none_ended time kind os h.1)

pub pending_ended : (time : ℕ) (os : List Stamped) → AllByRecursion IsPending os → AllByRecursion (EndedFrom time) os
pending_ended time [] h = tt
pending_ended time (o ∷ os) h = (subst (λ l. IfSome l (λ last. time ≤ last)) (sym h.0.not_ended) tt, pending_ended time os h.1)

-- a push that ended is one by the reply that it is given too
ended_at_most : (time : ℕ) (b : Bool) (last : Option ℕ) (told : Option Reply) (reply : Reply) → (IsSome last → IsSome told) → IfSome told (λ told. reply ≡ told)
    → one_if ((is_not_refused told && b) && ended_before time last) ≤ one_if (is_not_refused (Some reply) && b)
ended_at_most time b last (Some told) reply c h =
    subst (λ r. one_if ((is_not_refused (Some told) && b) && ended_before time last) ≤ one_if (is_not_refused (Some r) && b)) (sym h)
    (first_at_most (is_not_refused (Some told) && b) (ended_before time last))
ended_at_most time b None None reply c h = let e = and_false b false refl in omega (arith, e)
ended_at_most time b (Some last) None reply c h = absurd (let e : false ≡ true = c refl in cc)

pub all_ended_at_most : (time : ℕ) (kind : Kind) (xs : List Answered) → AllByRecursion IsCall (operations_of xs) → AllByRecursion GivesRecordedReply xs
    → AllByRecursion (λ a. push_ended_before time kind a.operation ≤ pushed_in kind a) xs
all_ended_at_most time kind [] c h = tt
all_ended_at_most time kind (a ∷ rest) c h = (
  ended_at_most time (is_push_in kind a.operation.actor a.operation.op) a.operation.last a.operation.reply a.reply c.0.ended.0 h.0,
  all_ended_at_most time kind rest c.1 h.1,
)

-- ---- orders

-- an order of a history of calls, and the pending operations that it leaves out
pub record IsOrder (ops : List Stamped) (order : List Answered) (left : List Stamped) : Type 0 where
  pub moved : IsPermutation ops (operations_of order ++ left)
  pub pending : AllByRecursion IsPending left
  pub calls : AllByRecursion IsCall (operations_of order)
  pub told : AllByRecursion GivesRecordedReply order
  pub timely : KeepsTime (operations_of order)
  pub runs : IsRun empty order

pub first_part : {X : Type 0} (P : X → Type 0) (xs ys : List X) → AllByRecursion P (xs ++ ys) → AllByRecursion P xs
first_part P [] ys h = tt
first_part P (x ∷ xs) ys h = (h.0, first_part P xs ys h.1)

pub last_part : {X : Type 0} (P : X → Type 0) (xs ys : List X) → AllByRecursion P (xs ++ ys) → AllByRecursion P ys
last_part P [] ys h = h
last_part P (x ∷ xs) ys h = last_part P xs ys h.1

pub front_calls : (xs ys : List Answered) → AllByRecursion IsCall (operations_of (xs ++ ys)) → AllByRecursion IsCall (operations_of xs)
front_calls [] ys h = tt
front_calls (x ∷ xs) ys h = (h.0, front_calls xs ys h.1)

-- a history of a queue has an order
pub is_order : (ops : List Stamped) (h : IsOfQueue ops) → IsOrder ops h.linearizable.order h.linearizable.left_out
is_order ops h =
    let l = h.linearizable in
    let every = recursion_from_All IsCall (operations_of l.order ++ l.left_out) (All-permutation IsCall ops (operations_of l.order ++ l.left_out) l.each_once h.calls) in
    record {
      moved = l.each_once;
      pending = l.only_pending_left_out;
      calls = first_part IsCall (operations_of l.order) l.left_out every;
      told = l.replies;
      timely = l.timely;
      runs = l.runs;
    }

-- what was pushed before a time stands before an operation, where it and those behind it ended from then on
pub pushed_before : (time : ℕ) (kind : Kind) (ops : List Stamped) (xs : List Answered) (a : Answered) (ys : List Answered) (left : List Stamped)
    → IsOrder ops (xs ++ a ∷ ys) left → EndedFrom time a.operation → AllByRecursion (EndedFrom time) (operations_of ys)
    → pushes_ended_before time kind ops ≤ sum_by (pushed_in kind) xs
pushed_before time kind ops xs a ys left o h k =
    let f : Stamped → ℕ = push_ended_before time kind in
    let all : sum_by f ops ≡ sum_by f (operations_of (xs ++ a ∷ ys)) + sum_by f left = sum_ordered f ops (xs ++ a ∷ ys) left o.moved in
    let parts = sum_parted f xs a ys in
    let here : f a.operation ≡ 0 = and_false (pushes_in kind a.operation) _ (not_before time a.operation.last h) in
    let behind = sum_zero f (operations_of ys) (none_ended time kind (operations_of ys) k) in
    let out = sum_zero f left (none_ended time kind left (pending_ended time left o.pending)) in
    let most = sum_at_most f (pushed_in kind) xs (all_ended_at_most time kind xs (front_calls xs (a ∷ ys) o.calls) (first_part GivesRecordedReply xs (a ∷ ys) o.told)) in
    omega (arith, all, parts, here, behind, out, most)

-- ---- takes

-- a call that is done, or refused where the queue is shut, is given no value
no_value : (v : Taken) (values : List Taken) (shut : Bool) (after : Queue) → Value v ≡ (unless_shut (record { values = values; shut = shut }) after).reply → ⊥
no_value v values true after h = cc h
no_value v values false after h = cc h

-- one that is given a value was told it, or is a pending pop
taken_at_most : (time : ℕ) (kind : Kind) (actor : ℕ) (op : Op) (first : ℕ) (told : Option Reply) (reply : Reply) (queue : Queue)
    → nat_le first time ≡ true → IfSome told (λ told. reply ≡ told) → (told ≡ None → IfValue reply (reply ≡ (response actor op queue).reply))
    → one_if (is_told_in kind (Some reply)) ≤ one_if (is_told_in kind told && nat_le first time) + one_if (is_pending_pop op told && nat_le first time)
taken_at_most time kind actor op first (Some told) reply queue b h g =
    subst (λ r. one_if (is_told_in kind (Some r)) ≤ one_if (is_told_in kind (Some told) && nat_le first time) + one_if (is_pending_pop op (Some told) && nat_le first time)) (sym h)
    (let k = whole (is_told_in kind (Some told)) (nat_le first time) b in omega (arith, k))
taken_at_most time kind actor Deq first None reply queue b h g =
    let k = at_most_one (is_told_in kind (Some reply)) in
    let j : one_if (nat_le first time) ≡ 1 = ap one_if b in
    omega (arith, k, j)
taken_at_most time kind actor (Enq body) first None (Value v) queue b h g = absurd (no_value v queue.values queue.shut _ (g refl))
taken_at_most time kind actor (Enq body) first None Done queue b h g = omega arith
taken_at_most time kind actor (Enq body) first None Empty queue b h g = omega arith
taken_at_most time kind actor (Enq body) first None (Refused refusal) queue b h g = omega arith
taken_at_most time kind actor Shut first None (Value v) queue b h g = absurd (no_value v queue.values queue.shut _ (g refl))
taken_at_most time kind actor Shut first None Done queue b h g = omega arith
taken_at_most time kind actor Shut first None Empty queue b h g = omega arith
taken_at_most time kind actor Shut first None (Refused refusal) queue b h g = omega arith

given_value : (queue : Queue) (o : Stamped) (reply : Reply) → AgreesWithQueue queue o (Some reply) → IfValue reply (reply ≡ (response o.actor o.op queue).reply)
given_value queue o (Refused refusal) h = tt
given_value queue o Done h = tt
given_value queue o (Value v) h = h
given_value queue o Empty h = tt

all_taken_at_most : (time : ℕ) (kind : Kind) (xs : List Answered) → BeganBy time (operations_of xs) → AllByRecursion GivesRecordedReply xs → AllByRecursion IsGiven xs
    → AllByRecursion (λ a. taken_in kind a ≤ take_begun_by time kind a.operation + pop_begun_by time a.operation) xs
all_taken_at_most time kind [] b h g = tt
all_taken_at_most time kind (a ∷ rest) b h g =
    let o = a.operation in (
      taken_at_most time kind o.actor o.op o.first o.reply a.reply g.0.0 (le-leb _ _ b.0) h.0 (λ e. given_value g.0.0 o a.reply g.0.1),
      all_taken_at_most time kind rest b.1 h.1 g.1,
    )

sum_plus : (f g : Stamped → ℕ) (os : List Stamped) → sum_by (λ o. f o + g o) os ≡ sum_by f os + sum_by g os
sum_plus f g [] = refl
sum_plus f g (o ∷ os) =
    let k = sum_plus f g os in
    let a = sum_by-cons (λ o. f o + g o) o os in
    let b = sum_by-cons f o os in
    let c = sum_by-cons g o os in
    omega (arith, k, a, b, c)

-- what operations take that began by a time is no more than pops told it and pending ones that began by then
taken_by : (time : ℕ) (kind : Kind) (ops : List Stamped) (xs : List Answered) (a : Answered) (ys : List Answered) (left : List Stamped)
    → IsOrder ops (xs ++ a ∷ ys) left → BeganBy time (operations_of xs)
    → sum_by (taken_in kind) xs ≤ takes_begun_by time kind ops + pending_by time ops
taken_by time kind ops xs a ys left o b =
    let f : Stamped → ℕ = take_begun_by time kind in
    let g : Stamped → ℕ = pop_begun_by time in
    let every = all_taken_at_most time kind xs b (first_part GivesRecordedReply xs (a ∷ ys) o.told) (first_part IsGiven xs (a ∷ ys) (all_given empty (xs ++ a ∷ ys) o.runs)) in
    let most = sum_at_least (λ o. f o + g o) (taken_in kind) xs every in
    let both = sum_plus f g (operations_of xs) in
    let all_f : sum_by f ops ≡ sum_by f (operations_of (xs ++ a ∷ ys)) + sum_by f left = sum_ordered f ops (xs ++ a ∷ ys) left o.moved in
    let all_g : sum_by g ops ≡ sum_by g (operations_of (xs ++ a ∷ ys)) + sum_by g left = sum_ordered g ops (xs ++ a ∷ ys) left o.moved in
    let parts_f = sum_parted f xs a ys in
    let parts_g = sum_parted g xs a ys in
    omega (arith, most, both, all_f, all_g, parts_f, parts_g)

-- none that began by a time is a take that began after it
pub none_after : (time : ℕ) (kind : Kind) (os : List Stamped) → BeganBy time os → AllByRecursion (λ o. take_begun_after time kind o ≡ 0) os
none_after time kind [] b = tt
none_after time kind (o ∷ os) b = (and_false (is_told_in kind o.reply) _ (not_after o.first b.0), none_after time kind os b.1)
  where
    not_after : (first : ℕ) → first ≤ time → nat_lt time first ≡ false
    not_after first h = go (nat_lt time first) refl
      where
        go : (b : Bool) → nat_lt time first ≡ b → b ≡ false
        go false e = refl
        go true e = let j : time < first = ltb-true _ _ e in absurd (omega arith)

-- pending operations were told nothing
pub pending_after : (time : ℕ) (kind : Kind) (os : List Stamped) → AllByRecursion IsPending os → AllByRecursion (λ o. take_begun_after time kind o ≡ 0) os
pending_after time kind [] h = tt
pending_after time kind (o ∷ os) h = (ap (λ r. one_if (is_told_in kind r && nat_lt time o.first)) h.0.not_told, pending_after time kind os h.1)

pub all_after_at_most : (time : ℕ) (kind : Kind) (ys : List Answered) → AllByRecursion GivesRecordedReply ys → AllByRecursion (λ a. take_begun_after time kind a.operation ≤ taken_in kind a) ys
all_after_at_most time kind [] h = tt
all_after_at_most time kind (a ∷ rest) h =
    let less = first_at_most (is_told_in kind a.operation.reply) (nat_lt time a.operation.first) in
    let told = told_at_most kind a.operation.reply a.reply h.0 in
    (omega (arith, less, told), all_after_at_most time kind rest h.1)

all_pushed_at_most : (kind : Kind) (xs : List Answered) → AllByRecursion GivesRecordedReply xs → AllByRecursion (λ a. pushed_in kind a ≤ one_if (pushes_in kind a.operation)) xs
all_pushed_at_most kind [] h = tt
all_pushed_at_most kind (a ∷ rest) h =
    (pushed_at_most (is_push_in kind a.operation.actor a.operation.op) a.operation.reply a.reply h.0, all_pushed_at_most kind rest h.1)

-- what operations take that began by a time, and takes that began after it, are no more than all pushes
taken_only : (time : ℕ) (kind : Kind) (ops : List Stamped) (xs : List Answered) (a : Answered) (ys : List Answered) (left : List Stamped)
    → IsOrder ops (xs ++ a ∷ ys) left → BeganBy time (operations_of xs) → take_begun_after time kind a.operation ≡ 0
    → sum_by (taken_in kind) xs + takes_begun_after time kind ops ≤ pushes_of kind ops
taken_only time kind ops xs a ys left o b z =
    let f : Stamped → ℕ = take_begun_after time kind in
    let g : Stamped → ℕ = λ o. one_if (pushes_in kind o) in
    let all_f : sum_by f ops ≡ sum_by f (operations_of (xs ++ a ∷ ys)) + sum_by f left = sum_ordered f ops (xs ++ a ∷ ys) left o.moved in
    let parts = sum_parted f xs a ys in
    let sooner = sum_zero f (operations_of xs) (none_after time kind (operations_of xs) b) in
    let out = sum_zero f left (pending_after time kind left o.pending) in
    let behind = sum_at_most f (taken_in kind) ys (all_after_at_most time kind ys (last_part GivesRecordedReply (a ∷ []) ys (last_part GivesRecordedReply xs (a ∷ ys) o.told))) in
    let taken = sum_by-append (taken_in kind) xs (a ∷ ys) in
    let taken_on = sum_by-cons (taken_in kind) a ys in
    let balance = run_balance kind empty (xs ++ a ∷ ys) o.runs in
    let all_g : sum_by g ops ≡ sum_by g (operations_of (xs ++ a ∷ ys)) + sum_by g left = sum_ordered g ops (xs ++ a ∷ ys) left o.moved in
    let pushed = sum_at_least g (pushed_in kind) (xs ++ a ∷ ys) (all_pushed_at_most kind (xs ++ a ∷ ys) o.told) in
    omega (arith, all_f, parts, sooner, out, behind, taken, taken_on, balance, all_g, pushed, z)

-- of a kind some values stay from one time to another: more were pushed than pops may take, or all would have to be taken
abbrev pub Stays : (ops : List Stamped) (from until : ℕ) → Kind → Type 0
Stays ops from until kind =
    (takes_begun_by until kind ops + pending_by until ops < pushes_ended_before from kind ops)
    ⊎ (pushes_of kind ops < pushes_ended_before from kind ops + takes_begun_after until kind ops)

-- operations that began by the second time take fewer of them than were pushed before the first
pub fewer_taken : (from until : ℕ) (kind : Kind) (ops : List Stamped) (xs : List Answered) (a : Answered) (ys : List Answered) (left : List Stamped)
    → IsOrder ops (xs ++ a ∷ ys) left → BeganBy until (operations_of xs) → take_begun_after until kind a.operation ≡ 0 → Stays ops from until kind
    → sum_by (taken_in kind) xs < pushes_ended_before from kind ops
fewer_taken from until kind ops xs a ys left o b z (inl more) =
    let k = taken_by until kind ops xs a ys left o b in omega (arith, k, more)
fewer_taken from until kind ops xs a ys left o b z (inr more) =
    let k = taken_only until kind ops xs a ys left o b z in omega (arith, k, more)
