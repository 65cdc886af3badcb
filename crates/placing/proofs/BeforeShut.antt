-- What an order of a history has before the queue is shut and behind that.
use Rattle.std.proofs.Common.{◌≡◌, inl, inr, append_assoc, ℕ, ◌+◌, ◌≤◌, ◌<◌, Bool, true, false, ◌&&◌, nat_le, Option, None, Some, IfSome, List, [], ◌∷◌, ◌++◌, refl, sym, ap, ◌∙◌, subst, arith}
use Rattle.std.specs.List.{sum_by, AllByRecursion}
use Rattle.std.proofs.lemmas.Bool.{leb-true, leb-false, le-leb, lt-ltb}
use Rattle.std.proofs.lemmas.List.Sums.{sum_by-cons, sum_by-append}
use Rattle.history.specs.declared.operations.Op.{Op}
use Rattle.history.specs.declared.operations.Op.TheVariants.{Enq, Deq, Shut}
use Rattle.history.specs.declared.operations.Taken.{Taken}
use Rattle.history.specs.declared.operations.Reply.{Reply}
use Rattle.history.specs.declared.operations.Reply.TheVariants.{Done, Value, Empty, Refused}
use Rattle.history.specs.declared.operations.Stamped.{Stamped}
use Rattle.history.specs.declared.refusals.Refusal.{Refusal}
use Rattle.history.specs.declared.refusals.Refusal.TheVariants.{Closed}
use Rattle.history.specs.Queue.{Queue, empty, response}
use Rattle.history.specs.History.{leaves, is_closed, AgreesWithQueue, answer}
use Rattle.history.specs.Linearizability.{Answered, operations_of, GivesRecordedReply, IsRun}
use Rattle.history.specs.Tallies.{is_not_refused}
use Rattle.waiting_orders.specs.Waiting.{IsCall}
use Rattle.placing.specs.Kinds.{Kind, is_push_in, ended_before, is_done_shut, shows_shut, is_shut_call, pushes_ended_before}
use Rattle.placing.specs.Reasons.{StandsAt}
use Rattle.placing.proofs.Runs.{one_if, pushed_in, after_run, after_parts, run_parts}
use Rattle.placing.proofs.Sooner.{pushed_at_most}
use Rattle.placing.proofs.Parting.{sum_parted, sum_ordered, sum_zero, sum_at_most, sum_at_least, BeganBy, MayFollow, parted_have, times_parted}
use Rattle.placing.proofs.Staying.{EndedFrom, and_false, not_before, pending_ended, push_ended_before, all_ended_at_most, none_ended, IsOrder, first_part}
use Rattle.placing.proofs.Keeping.{counts_at, both}

-- ---- one operation

given_still_shut : (actor : ℕ) (op : Op) (values : List Taken) (shut : Bool) → shut ≡ true → (response actor op (record { values = values; shut = shut })).after.shut ≡ true
given_still_shut actor (Enq body) values true h = refl
given_still_shut actor (Enq body) values false h = h
given_still_shut actor Shut values true h = refl
given_still_shut actor Shut values false h = refl
given_still_shut actor Deq [] shut h = h
given_still_shut actor Deq (front ∷ rest) shut h = h

-- a queue that is shut stays so
still_shut : (queue : Queue) (o : Stamped) (reply : Reply) → queue.shut ≡ true → (answer queue o (Some reply)).after.shut ≡ true
still_shut queue o (Refused refusal) h = h
still_shut queue o Done h = given_still_shut o.actor o.op queue.values queue.shut h
still_shut queue o (Value v) h = given_still_shut o.actor o.op queue.values queue.shut h
still_shut queue o Empty h = given_still_shut o.actor o.op queue.values queue.shut h

run_still_shut : (queue : Queue) (xs : List Answered) → queue.shut ≡ true → (after_run queue xs).shut ≡ true
run_still_shut queue [] h = h
run_still_shut queue (a ∷ rest) h = run_still_shut (answer queue a.operation (Some a.reply)).after rest (still_shut queue a.operation a.reply h)

-- a call is refused by a queue where that is shut
pub given_refused : (actor : ℕ) (op : Op) (values : List Taken) (shut : Bool) → Refused Closed ≡ (response actor op (record { values = values; shut = shut })).reply → shut ≡ true
given_refused actor op values true h = refl
given_refused actor (Enq body) values false h = absurd (cc h)
given_refused actor Shut values false h = absurd (cc h)
given_refused actor Deq [] false h = absurd (cc h)
given_refused actor Deq (front ∷ rest) false h = absurd (cc h)

-- it does what it was to do where that isn't shut
pub given_done : (actor : ℕ) (op : Op) (values : List Taken) (shut : Bool) → Done ≡ (response actor op (record { values = values; shut = shut })).reply → shut ≡ false
given_done actor op values false h = refl
given_done actor (Enq body) values true h = absurd (cc h)
given_done actor Shut values true h = absurd (cc h)
given_done actor Deq [] true h = absurd (cc h)
given_done actor Deq (front ∷ rest) true h = absurd (cc h)

pub given_empty : (actor : ℕ) (op : Op) (values : List Taken) (shut : Bool) → Empty ≡ (response actor op (record { values = values; shut = shut })).reply → shut ≡ false
given_empty actor op values false h = refl
given_empty actor (Enq body) values true h = absurd (cc h)
given_empty actor Shut values true h = absurd (cc h)
given_empty actor Deq [] true h = absurd (cc h)
given_empty actor Deq (front ∷ rest) true h = absurd (cc h)

-- a shut that is done shuts
given_shuts : (actor : ℕ) (values : List Taken) (shut : Bool) → Done ≡ (response actor Shut (record { values = values; shut = shut })).reply
    → (response actor Shut (record { values = values; shut = shut })).after.shut ≡ true
given_shuts actor values true h = refl
given_shuts actor values false h = refl

closed_leaves : (refusal : Refusal) → is_closed refusal ≡ true → leaves refusal ≡ true → ⊥
closed_leaves Closed a b = let x : false ≡ true = b in cc
closed_leaves _ a b = let x : false ≡ true = a in cc

pub told_shut_there : (queue : Queue) (o : Stamped) (refusal : Refusal) → is_closed refusal ≡ true → AgreesWithQueue queue o (Some (Refused refusal))
    → Refused Closed ≡ (response o.actor o.op queue).reply
told_shut_there queue o refusal closed (inl h) = absurd (closed_leaves refusal closed h)
told_shut_there queue o refusal closed (inr h) = h.1

-- an operation that shows that the queue is shut leaves it so
shown : (queue : Queue) (o : Stamped) (op : Op) (reply : Reply) → o.op ≡ op → AgreesWithQueue queue o (Some reply) → shows_shut (Some reply) op ≡ true → (answer queue o (Some reply)).after.shut ≡ true
shown queue o op (Refused refusal) e h s = given_refused o.actor o.op queue.values queue.shut (told_shut_there queue o refusal s h)
shown queue o Shut Done e h s =
    subst (λ op. (response o.actor op queue).after.shut ≡ true) (sym e) (given_shuts o.actor queue.values queue.shut (subst (λ op. Done ≡ (response o.actor op queue).reply) e h))
shown queue o (Enq body) Done e h s = absurd (let x : false ≡ true = s in cc)
shown queue o Deq Done e h s = absurd (let x : false ≡ true = s in cc)
shown queue o op (Value v) e h s = absurd (let x : false ≡ true = s in cc)
shown queue o op Empty e h s = absurd (let x : false ≡ true = s in cc)

-- ---- what is shown before an operation

-- an operation counts as one that shows that the queue is shut, and ended before a time
abbrev shown_before : ℕ → Stamped → ℕ
shown_before time o = one_if (shows_shut o.reply o.op && ended_before time o.last)

first_so : (a b : Bool) → 1 ≤ one_if (a && b) → a ≡ true
first_so true b h = refl
first_so false b h = absurd (omega arith)

shown_by_told : (queue : Queue) (o : Stamped) (told : Option Reply) (reply : Reply) → IfSome told (λ told. reply ≡ told)
    → AgreesWithQueue queue o (Some reply) → shows_shut told o.op ≡ true → (answer queue o (Some reply)).after.shut ≡ true
shown_by_told queue o None reply g h s = absurd (let x : false ≡ true = s in cc)
shown_by_told queue o (Some told) reply g h s = shown queue o o.op reply refl h (subst (λ r. shows_shut (Some r) o.op ≡ true) (sym g) s)

-- where one of these operations shows it, the queue is shut after them
shut_after : (time : ℕ) (queue : Queue) (xs : List Answered) → IsRun queue xs → AllByRecursion GivesRecordedReply xs
    → 1 ≤ sum_by (shown_before time) (operations_of xs) → (after_run queue xs).shut ≡ true
shut_after time queue [] r g h = absurd (let k : 1 ≤ 0 = h in omega (arith, k))
shut_after time queue (a ∷ rest) r g h = go (nat_le 1 (shown_before time a.operation)) refl (λ more. shut_after time (answer queue a.operation (Some a.reply)).after rest r.1 g.1 more)
  where
    go : (b : Bool) → nat_le 1 (shown_before time a.operation) ≡ b → (1 ≤ sum_by (shown_before time) (operations_of rest)
        → (after_run (answer queue a.operation (Some a.reply)).after rest).shut ≡ true)
        → (after_run (answer queue a.operation (Some a.reply)).after rest).shut ≡ true
    go true e later =
        let s : shows_shut a.operation.reply a.operation.op ≡ true = first_so (shows_shut a.operation.reply a.operation.op) (ended_before time a.operation.last) (leb-true _ _ e) in
        run_still_shut (answer queue a.operation (Some a.reply)).after rest (shown_by_told queue a.operation a.operation.reply a.reply g.0 r.0 s)
    go false e later =
        let d = sum_by-cons (shown_before time) a.operation (operations_of rest) in
        let n : shown_before time a.operation < 1 = leb-false _ _ e in
        later (omega (arith, d, n, h))

none_shown : (time : ℕ) (os : List Stamped) → AllByRecursion (EndedFrom time) os → AllByRecursion (λ o. shown_before time o ≡ 0) os
none_shown time [] h = tt
none_shown time (o ∷ os) h = (and_false (shows_shut o.reply o.op) _ (not_before time o.last h.0), none_shown time os h.1)

follow_first : (a : Stamped) (os ys : List Stamped) → AllByRecursion (MayFollow os a) ys → AllByRecursion (EndedFrom a.first) ys
follow_first a os [] f = tt
follow_first a os (y ∷ ys) f = (go y.last f.0, follow_first a os ys f.1)
  where
    go : (last : Option ℕ) → IfSome last (λ last. (a.first ≤ last) × BeganBy last os) → IfSome last (λ last. a.first ≤ last)
    go None k = tt
    go (Some last) k = k.0

-- where the queue isn't shut when an order comes to an operation, this began by the end of each that shows that it is
pub began_by_shut : (ops : List Stamped) (other time : ℕ) (evidence : Stamped) → StandsAt ops other evidence → shows_shut evidence.reply evidence.op ≡ true → evidence.last ≡ Some time
    → (xs : List Answered) (a : Answered) (ys : List Answered) (left : List Stamped) → IsOrder ops (xs ++ a ∷ ys) left → (after_run empty xs).shut ≡ false → a.operation.first ≤ time
began_by_shut ops other time evidence stands shows ended xs a ys left o shut = go (nat_le a.operation.first time) refl
  where
    go : (b : Bool) → nat_le a.operation.first time ≡ b → a.operation.first ≤ time
    go true e = leb-true _ _ e
    go false e =
        let late : time < a.operation.first = leb-false _ _ e in
        let f : Stamped → ℕ = shown_before a.operation.first in
        let before : ended_before a.operation.first evidence.last ≡ true = subst (λ last. ended_before a.operation.first last ≡ true) (sym ended) (lt-ltb _ _ late) in
        let counts = counts_at f ops other evidence stands in
        let one : f evidence ≡ 1 = both (shows_shut evidence.reply evidence.op) (ended_before a.operation.first evidence.last) shows before in
        let all : sum_by f ops ≡ sum_by f (operations_of (xs ++ a ∷ ys)) + sum_by f left = sum_ordered f ops (xs ++ a ∷ ys) left o.moved in
        let parts = sum_parted f xs a ys in
        let call = (parted_have IsCall xs a ys o.calls).0 in
        let here : f a.operation ≡ 0 = and_false (shows_shut a.operation.reply a.operation.op) _ (not_before a.operation.first a.operation.last call.spans) in
        let times = times_parted xs a ys o.timely in
        let behind = sum_zero f (operations_of ys) (none_shown a.operation.first (operations_of ys) (follow_first a.operation (operations_of xs) (operations_of ys) times.1)) in
        let out = sum_zero f left (none_shown a.operation.first left (pending_ended a.operation.first left o.pending)) in
        let is : (after_run empty xs).shut ≡ true = shut_after a.operation.first empty xs (run_parts empty xs (a ∷ ys) o.runs).0
        (first_part GivesRecordedReply xs (a ∷ ys) o.told) (omega (arith, counts, one, all, parts, here, behind, out)) in
        absurd (let x : true ≡ false = sym is ∙ shut in cc)

-- where a queue isn't shut after some operations, it isn't before them
open_before : (zs xs : List Answered) → (after_run empty (zs ++ xs)).shut ≡ false → (after_run empty zs).shut ≡ false
open_before zs xs h = go (after_run empty zs).shut refl
  where
    go : (b : Bool) → (after_run empty zs).shut ≡ b → (after_run empty zs).shut ≡ false
    go false e = e
    go true e =
        let still : (after_run (after_run empty zs) xs).shut ≡ true = run_still_shut (after_run empty zs) xs e in
        let is : (after_run empty (zs ++ xs)).shut ≡ true = ap (λ (q : Queue). q.shut) (after_parts empty zs xs) ∙ still in
        absurd (let x : true ≡ false = sym is ∙ h in cc)

-- so each before it in the order began by then too
pub all_began_by_shut : (ops : List Stamped) (other time : ℕ) (evidence : Stamped) → StandsAt ops other evidence → shows_shut evidence.reply evidence.op ≡ true → evidence.last ≡ Some time
    → (zs xs ys : List Answered) (left : List Stamped) → IsOrder ops (zs ++ (xs ++ ys)) left → (after_run empty (zs ++ xs)).shut ≡ false → BeganBy time (operations_of xs)
all_began_by_shut ops other time evidence stands shows ended zs [] ys left o shut = tt
all_began_by_shut ops other time evidence stands shows ended zs (x ∷ rest) ys left o shut = (
  began_by_shut ops other time evidence stands shows ended zs x (rest ++ ys) left o (open_before zs (x ∷ rest) shut),
  all_began_by_shut ops other time evidence stands shows ended (zs ++ x ∷ []) rest ys left
      (subst (λ order. IsOrder ops order left) (sym (append_assoc zs (x ∷ []) (rest ++ ys))) o)
      (subst (λ order. (after_run empty order).shut ≡ false) (sym (append_assoc zs (x ∷ []) rest)) shut),
)

-- ---- shuts that are done

abbrev pub done_shut : Stamped → ℕ
done_shut o = one_if (is_done_shut o.reply o.op)

-- of the operations of a run no more than one is a shut that is done
pub shuts_once : (queue : Queue) (xs : List Answered) → IsRun queue xs → AllByRecursion GivesRecordedReply xs → sum_by done_shut (operations_of xs) + one_if queue.shut ≤ 1
shuts_once queue [] r g = at_most_one queue.shut
  where
    at_most_one : (b : Bool) → 0 + one_if b ≤ 1
    at_most_one true = omega arith
    at_most_one false = omega arith
shuts_once queue (a ∷ rest) r g =
    let next : Queue = (answer queue a.operation (Some a.reply)).after in
    let k = shuts_once next rest r.1 g.1 in
    let d = sum_by-cons done_shut a.operation (operations_of rest) in
    let j : done_shut a.operation + one_if queue.shut ≤ one_if next.shut = step queue a.operation a.operation.op a.operation.reply a.reply refl g.0 r.0 in
    omega (arith, k, d, j)
  where
    raise : (b c : Bool) → (b ≡ true → c ≡ true) → 0 + one_if b ≤ one_if c
    raise true true h = omega arith
    raise true false h = absurd (let x : false ≡ true = h refl in cc)
    raise false c h = omega arith

    shut_now : (b c : Bool) → b ≡ false → c ≡ true → 1 + one_if b ≤ one_if c
    shut_now false true h k = omega arith
    shut_now true c h k = absurd (let x : true ≡ false = h in cc)
    shut_now false false h k = absurd (let x : false ≡ true = k in cc)

    step : (queue : Queue) (o : Stamped) (op : Op) (told : Option Reply) (reply : Reply) → o.op ≡ op → IfSome told (λ told. reply ≡ told) → AgreesWithQueue queue o (Some reply)
        → one_if (is_done_shut told op) + one_if queue.shut ≤ one_if (answer queue o (Some reply)).after.shut
    step queue o Shut (Some Done) reply e g h =
        subst (λ r. 1 + one_if queue.shut ≤ one_if (answer queue o (Some r)).after.shut) (sym g)
        (let there : Done ≡ (response o.actor o.op queue).reply = subst (λ r. AgreesWithQueue queue o (Some r)) g h in
        shut_now queue.shut _ (given_done o.actor o.op queue.values queue.shut there)
        (shown queue o Shut Done e there refl))
    step queue o (Enq body) (Some Done) reply e g h = raise queue.shut _ (still_shut queue o reply)
    step queue o Deq (Some Done) reply e g h = raise queue.shut _ (still_shut queue o reply)
    step queue o op None reply e g h = raise queue.shut _ (still_shut queue o reply)
    step queue o op (Some (Value v)) reply e g h = raise queue.shut _ (still_shut queue o reply)
    step queue o op (Some Empty) reply e g h = raise queue.shut _ (still_shut queue o reply)
    step queue o op (Some (Refused refusal)) reply e g h = raise queue.shut _ (still_shut queue o reply)

-- ---- shuts that began

-- an operation counts as a shut by the reply that it is given there, and as one that began by a time and wasn't refused
abbrev shut_in : Answered → ℕ
shut_in a = one_if (is_not_refused (Some a.reply) && is_shut_call a.operation.op)

abbrev pub shut_begun_by : ℕ → Stamped → ℕ
shut_begun_by time o = one_if ((is_not_refused o.reply && is_shut_call o.op) && nat_le o.first time)

given_as_it_was : (actor : ℕ) (op : Op) (values : List Taken) (shut : Bool) → is_shut_call op ≡ false → shut ≡ false → (response actor op (record { values = values; shut = shut })).after.shut ≡ false
given_as_it_was actor (Enq body) values false s h = refl
given_as_it_was actor (Enq body) values true s h = h
given_as_it_was actor Shut values shut s h = absurd (let x : true ≡ false = s in cc)
given_as_it_was actor Deq [] shut s h = h
given_as_it_was actor Deq (front ∷ rest) shut s h = h

-- what isn't a shut, or is refused, leaves a queue that isn't shut so
still_open : (queue : Queue) (o : Stamped) (reply : Reply) → (is_not_refused (Some reply) && is_shut_call o.op) ≡ false → queue.shut ≡ false → (answer queue o (Some reply)).after.shut ≡ false
still_open queue o (Refused refusal) s h = h
still_open queue o Done s h = given_as_it_was o.actor o.op queue.values queue.shut s h
still_open queue o (Value v) s h = given_as_it_was o.actor o.op queue.values queue.shut s h
still_open queue o Empty s h = given_as_it_was o.actor o.op queue.values queue.shut s h

-- where a queue is shut by some operations, one of these is a shut
shut_by_some : (queue : Queue) (xs : List Answered) → queue.shut ≡ false → (after_run queue xs).shut ≡ true → 1 ≤ sum_by shut_in xs
shut_by_some queue [] h k = absurd (let x : false ≡ true = sym h ∙ k in cc)
shut_by_some queue (a ∷ rest) h k = go (is_not_refused (Some a.reply) && is_shut_call a.operation.op) refl (λ still. shut_by_some (answer queue a.operation (Some a.reply)).after rest still k)
  where
    go : (b : Bool) → (is_not_refused (Some a.reply) && is_shut_call a.operation.op) ≡ b
        → ((answer queue a.operation (Some a.reply)).after.shut ≡ false → 1 ≤ sum_by shut_in rest) → 1 ≤ sum_by shut_in (a ∷ rest)
    go true e later =
        let d = sum_by-cons shut_in a rest in
        let one : shut_in a ≡ 1 = ap one_if e in
        omega (arith, d, one)
    go false e later =
        let d = sum_by-cons shut_in a rest in
        let more = later (still_open queue a.operation a.reply e h) in
        omega (arith, d, more)

whole : (a b : Bool) → b ≡ true → one_if a ≤ one_if (a && b)
whole true b e = let k : one_if b ≡ 1 = ap one_if e in omega (arith, k)
whole false b e = omega arith

all_begun : (time : ℕ) (xs : List Answered) → BeganBy time (operations_of xs) → AllByRecursion GivesRecordedReply xs → AllByRecursion (λ a. shut_in a ≤ shut_begun_by time a.operation) xs
all_begun time [] b g = tt
all_begun time (a ∷ rest) b g =
    let k = pushed_at_most (is_shut_call a.operation.op) a.operation.reply a.reply g.0 in
    let j = whole (is_not_refused a.operation.reply && is_shut_call a.operation.op) (nat_le a.operation.first time) (le-leb _ _ b.0) in
    (omega (arith, k, j), all_begun time rest b.1 g.1)

-- where the queue is shut when an order comes to an operation, a shut began by the end of that
pub shut_began : (ops : List Stamped) (time : ℕ) (xs : List Answered) (a : Answered) (ys : List Answered) (left : List Stamped)
    → IsOrder ops (xs ++ a ∷ ys) left → a.operation.last ≡ Some time → (after_run empty xs).shut ≡ true → 1 ≤ sum_by (shut_begun_by time) ops
shut_began ops time xs a ys left o ended shut =
    let f : Stamped → ℕ = shut_begun_by time in
    let times = times_parted xs a ys o.timely in
    let began : BeganBy time (operations_of xs) = subst (λ l. IfSome l (λ last. BeganBy last (operations_of xs))) ended times.0 in
    let some = shut_by_some empty xs refl shut in
    let least = sum_at_least f shut_in xs (all_begun time xs began (first_part GivesRecordedReply xs (a ∷ ys) o.told)) in
    let all : sum_by f ops ≡ sum_by f (operations_of (xs ++ a ∷ ys)) + sum_by f left = sum_ordered f ops (xs ++ a ∷ ys) left o.moved in
    let parts = sum_parted f xs a ys in
    omega (arith, some, least, all, parts)

-- ---- pushes

no_push_given : (kind : Kind) (o : Stamped) (op : Op) (values : List Taken) (shut : Bool) (reply : Reply) → shut ≡ true
    → reply ≡ (response o.actor op (record { values = values; shut = shut })).reply
    → one_if (is_not_refused (Some reply) && is_push_in kind o.actor op) ≡ 0
no_push_given kind o (Enq body) values true reply h e = ap (λ r. one_if (is_not_refused (Some r) && is_push_in kind o.actor (Enq body))) e
no_push_given kind o (Enq body) values false reply h e = absurd (let x : false ≡ true = h in cc)
no_push_given kind o Deq values shut reply h e = and_false (is_not_refused (Some reply)) false refl
no_push_given kind o Shut values shut reply h e = and_false (is_not_refused (Some reply)) false refl

pub no_push : (kind : Kind) (queue : Queue) (o : Stamped) (reply : Reply) → queue.shut ≡ true → AgreesWithQueue queue o (Some reply)
    → one_if (is_not_refused (Some reply) && is_push_in kind o.actor o.op) ≡ 0
no_push kind queue o (Refused refusal) s h = refl
no_push kind queue o Done s h = no_push_given kind o o.op queue.values queue.shut Done s h
no_push kind queue o (Value v) s h = no_push_given kind o o.op queue.values queue.shut (Value v) s h
no_push kind queue o Empty s h = no_push_given kind o o.op queue.values queue.shut Empty s h

-- nothing is pushed once the queue is shut
pub none_pushed : (kind : Kind) (queue : Queue) (xs : List Answered) → IsRun queue xs → queue.shut ≡ true → sum_by (pushed_in kind) xs ≡ 0
none_pushed kind queue [] r s = refl
none_pushed kind queue (a ∷ rest) r s =
    let k = none_pushed kind (answer queue a.operation (Some a.reply)).after rest r.1 (still_shut queue a.operation a.reply s) in
    let j : pushed_in kind a ≡ 0 = no_push kind queue a.operation a.reply s r.0 in
    let d = sum_by-cons (pushed_in kind) a rest in
    omega (arith, k, j, d)

-- where the queue is shut when an order comes to an operation, each push that ended stands before that
pub pushed_before_shut : (time : ℕ) (kind : Kind) (ops : List Stamped) (xs : List Answered) (a : Answered) (ys : List Answered) (left : List Stamped)
    → IsOrder ops (xs ++ a ∷ ys) left → (after_run empty xs).shut ≡ true → pushes_ended_before time kind ops ≤ sum_by (pushed_in kind) xs
pushed_before_shut time kind ops xs a ys left o shut =
    let f : Stamped → ℕ = push_ended_before time kind in
    let all : sum_by f ops ≡ sum_by f (operations_of (xs ++ a ∷ ys)) + sum_by f left = sum_ordered f ops (xs ++ a ∷ ys) left o.moved in
    let out = sum_zero f left (none_ended time kind left (pending_ended time left o.pending)) in
    let most = sum_at_most f (pushed_in kind) (xs ++ a ∷ ys) (all_ended_at_most time kind (xs ++ a ∷ ys) o.calls o.told) in
    let parts = sum_by-append (pushed_in kind) xs (a ∷ ys) in
    let none = none_pushed kind (after_run empty xs) (a ∷ ys) (run_parts empty xs (a ∷ ys) o.runs).1 shut in
    omega (arith, all, out, most, parts, none)
