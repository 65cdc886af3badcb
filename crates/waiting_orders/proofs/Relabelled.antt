-- Whether a history is one of a queue doesn't hang on the points of its operations.
use Rattle.std.proofs.Common.{◌≡◌, ℕ, suc, false, Option, None, Some, List, [], ◌∷◌, ◌++◌, map, refl, sym, ap, ◌∙◌, subst}
use Rattle.std.specs.Prelude.{All}
use Rattle.std.specs.List.{AllByRecursion}
use Rattle.std.specs.List.Sorted.{IsPermutation}
use Rattle.std.proofs.lemmas.List.{map-append}
use Rattle.std.proofs.lemmas.List.Elements.{All-from_recursion, recursion_from_All}
use Rattle.std.proofs.lemmas.List.Sorted.{IsPermutation-refl, IsPermutation-cons, IsPermutation-map, IsPermutation-middle, IsPermutation-trans}
use Rattle.history.specs.declared.operations.Reply.{Reply}
use Rattle.history.specs.declared.operations.Reply.TheVariants.{Done, Value, Empty, Refused}
use Rattle.history.specs.declared.operations.Stamped.{Stamped}
use Rattle.history.specs.Queue.{Queue}
use Rattle.history.specs.History.{answer, AgreesWithQueue, IsSequentialRun}
use Rattle.history.specs.Linearizability.{Answered, operations_of, GivesRecordedReply, IsPending, MayComeBefore, KeepsTime, IsRun}
use Rattle.waiting_orders.specs.Indexed.{indexed}
use Rattle.waiting_orders.specs.Waiting.{IsCall, IsOfQueue}
use Rattle.waiting_orders.proofs.Picking.{along_permutation}

-- an operation without its point
abbrev pub bare : Stamped → Stamped
bare o = record o { at = None }

pub bare_indexed : (k : ℕ) (ops : List Stamped) → map bare (indexed k ops) ≡ map bare ops
bare_indexed k [] = refl
bare_indexed k (o ∷ ops) = ap (λ l. bare o ∷ l) (bare_indexed (suc k) ops)

abbrev head_or : Stamped → List Stamped → Stamped
head_or o [] = o
head_or o (x ∷ xs) = x

abbrev tail_of : List Stamped → List Stamped
tail_of [] = []
tail_of (x ∷ xs) = xs

-- ---- what is so of operations is so of those that differ in their points

module _ (P : Stamped → Type 0) (same : (o : Stamped) → P o → P (bare o)) (back : (o : Stamped) → P (bare o) → P o) where
  to_bare : (xs : List Stamped) → AllByRecursion P xs → AllByRecursion P (map bare xs)
  to_bare [] h = tt
  to_bare (x ∷ xs) h = (same x h.0, to_bare xs h.1)

  from_bare : (xs : List Stamped) → AllByRecursion P (map bare xs) → AllByRecursion P xs
  from_bare [] h = tt
  from_bare (x ∷ xs) h = (back x h.0, from_bare xs h.1)

  pub all_alike : (xs ys : List Stamped) → map bare xs ≡ map bare ys → AllByRecursion P xs → AllByRecursion P ys
  all_alike xs ys e h = from_bare ys (subst (AllByRecursion P) e (to_bare xs h))

before_bare : (x : Stamped) (ys : List Stamped) → AllByRecursion (MayComeBefore x) ys → AllByRecursion (MayComeBefore (bare x)) (map bare ys)
before_bare x [] h = tt
before_bare x (y ∷ ys) h = (h.0, before_bare x ys h.1)

bare_before : (x : Stamped) (ys : List Stamped) → AllByRecursion (MayComeBefore (bare x)) (map bare ys) → AllByRecursion (MayComeBefore x) ys
bare_before x [] h = tt
bare_before x (y ∷ ys) h = (h.0, bare_before x ys h.1)

keeps_bare : (xs : List Stamped) → KeepsTime xs → KeepsTime (map bare xs)
keeps_bare [] h = tt
keeps_bare (x ∷ xs) h = (before_bare x xs h.0, keeps_bare xs h.1)

bare_keeps : (xs : List Stamped) → KeepsTime (map bare xs) → KeepsTime xs
bare_keeps [] h = tt
bare_keeps (x ∷ xs) h = (bare_before x xs h.0, bare_keeps xs h.1)

pub keeps_alike : (xs ys : List Stamped) → map bare xs ≡ map bare ys → KeepsTime xs → KeepsTime ys
keeps_alike xs ys e h = bare_keeps ys (subst KeepsTime e (keeps_bare xs h))

-- ---- runs

answer_bare : (queue : Queue) (o : Stamped) (reply : Option Reply) → answer queue (bare o) reply ≡ answer queue o reply
answer_bare queue o None = refl
answer_bare queue o (Some Done) = refl
answer_bare queue o (Some (Value v)) = refl
answer_bare queue o (Some Empty) = refl
answer_bare queue o (Some (Refused refusal)) = refl

agrees_bare : (queue : Queue) (o : Stamped) (reply : Option Reply) → AgreesWithQueue queue (bare o) reply ≡ AgreesWithQueue queue o reply
agrees_bare queue o None = refl
agrees_bare queue o (Some Done) = refl
agrees_bare queue o (Some (Value v)) = refl
agrees_bare queue o (Some Empty) = refl
agrees_bare queue o (Some (Refused refusal)) = refl

abbrev Same : Type 0 → Type 0
Same P = P

run_bare : (queue : Queue) (xs : List Stamped) → IsSequentialRun queue xs → IsSequentialRun queue (map bare xs)
run_bare queue [] h = tt
run_bare queue (x ∷ xs) h =
    (subst Same (sym (agrees_bare queue x x.reply)) h.0, subst (λ a. IsSequentialRun a.after (map bare xs)) (sym (answer_bare queue x x.reply)) (run_bare (answer queue x x.reply).after xs h.1))

bare_run : (queue : Queue) (xs : List Stamped) → IsSequentialRun queue (map bare xs) → IsSequentialRun queue xs
bare_run queue [] h = tt
bare_run queue (x ∷ xs) h =
    (subst Same (agrees_bare queue x x.reply) h.0, bare_run (answer queue x x.reply).after xs (subst (λ a. IsSequentialRun a.after (map bare xs)) (answer_bare queue x x.reply) h.1))

pub run_alike : (queue : Queue) (xs ys : List Stamped) → map bare xs ≡ map bare ys → IsSequentialRun queue xs → IsSequentialRun queue ys
run_alike queue xs ys e h = bare_run queue ys (subst (IsSequentialRun queue) e (run_bare queue xs h))

-- the same replies to operations that differ in their points
record Again (queue : Queue) (order : List Answered) (os : List Stamped) : Type 0 where
  list : List Answered
  are : operations_of list ≡ os
  replies : AllByRecursion GivesRecordedReply list
  runs : IsRun queue list

again : (queue : Queue) (order : List Answered) (os : List Stamped) → map bare (operations_of order) ≡ map bare os → AllByRecursion GivesRecordedReply order → IsRun queue order → Again queue order os
again queue [] [] e h runs = record { list = []; are = refl; replies = tt; runs = tt }
again queue [] (o ∷ os) e h runs = absurd cc
again queue (a ∷ order) [] e h runs = absurd cc
again queue (a ∷ order) (o ∷ os) e h runs =
    let one : bare a.operation ≡ bare o = ap (head_or o) e in
    let reply = Some a.reply in
    let answers : answer queue a.operation reply ≡ answer queue o reply =
    sym (answer_bare queue a.operation reply) ∙ ap (λ x. answer queue x reply) one ∙ answer_bare queue o reply in
    let agrees : AgreesWithQueue queue a.operation reply ≡ AgreesWithQueue queue o reply =
    sym (agrees_bare queue a.operation reply) ∙ ap (λ x. AgreesWithQueue queue x reply) one ∙ agrees_bare queue o reply in
    let m = again (answer queue o reply).after order os (ap tail_of e) h.1 (subst (λ x. IsRun x.after order) answers runs.1) in
    record {
      list = record { operation = o; reply = a.reply } ∷ m.list;
      are = ap (λ l. o ∷ l) m.are;
      replies = (subst (λ x. GivesRecordedReply (record { operation = x; reply = a.reply })) one h.0, m.replies);
      runs = (subst Same agrees runs.0, m.runs);
    }

-- ---- the same operations in another order

record Lifted (xs bares : List Stamped) : Type 0 where
  list : List Stamped
  is : IsPermutation xs list
  bare_is : map bare list ≡ bares

abbrev Lifts : (before after : List Stamped) → Type 0
Lifts before after = (xs : List Stamped) → map bare xs ≡ before → Lifted xs after

skip_lifts : (x : Stamped) (ps bs : List Stamped) → Lifts ps bs → Lifts (x ∷ ps) (x ∷ bs)
skip_lifts x ps bs h [] e = absurd cc
skip_lifts x ps bs h (y ∷ ys) e =
    let m = h ys (ap tail_of e) in
    record { list = y ∷ m.list; is = IsPermutation-cons y ys m.list m.is; bare_is = ap (λ l. bare y ∷ l) m.bare_is ∙ ap (λ o. o ∷ bs) (ap (head_or x) e) }

turn_lifts : (x y : Stamped) (ps : List Stamped) → Lifts (x ∷ y ∷ ps) (y ∷ x ∷ ps)
turn_lifts x y ps [] e = absurd cc
turn_lifts x y ps (a ∷ []) e = absurd (let k : [] ≡ y ∷ ps = ap tail_of e in cc k)
turn_lifts x y ps (a ∷ b ∷ ys) e =
    let rest = ap tail_of e in
    record {
      list = b ∷ a ∷ ys;
      is = IsPermutation-middle (a ∷ []) b ys;
      bare_is = ap (λ o. o ∷ bare a ∷ map bare ys) (ap (head_or x) rest) ∙ ap (λ o. y ∷ o ∷ map bare ys) (ap (head_or x) e) ∙ ap (λ l. y ∷ x ∷ l) (ap tail_of rest);
    }

chain_lifts : (ps bs ds : List Stamped) → Lifts ps bs → Lifts bs ds → Lifts ps ds
chain_lifts ps bs ds g h xs e =
    let m = g xs e in
    let n = h m.list m.bare_is in
    record { list = n.list; is = IsPermutation-trans xs m.list n.list m.is n.is; bare_is = n.bare_is }

lifted : (xs bares : List Stamped) → IsPermutation (map bare xs) bares → Lifted xs bares
lifted xs bares h =
    along_permutation Lifts (λ ps xs e. record { list = xs; is = IsPermutation-refl xs; bare_is = e }) skip_lifts turn_lifts chain_lifts (map bare xs) bares h xs refl

-- two lists of which the first begins as another one
record Parts (os ps bs : List Stamped) : Type 0 where
  first : List Stamped
  second : List Stamped
  is : os ≡ first ++ second
  first_is : map bare first ≡ map bare ps
  second_is : map bare second ≡ map bare bs

parts : (os ps bs : List Stamped) → map bare os ≡ map bare ps ++ map bare bs → Parts os ps bs
parts os [] bs e = record { first = []; second = os; is = refl; first_is = refl; second_is = e }
parts [] (a ∷ ps) bs e = absurd cc
parts (o ∷ os) (a ∷ ps) bs e =
    let m = parts os ps bs (ap tail_of e) in
    record {
      first = o ∷ m.first;
      second = m.second;
      is = ap (λ l. o ∷ l) m.is;
      first_is = ap (λ l. bare o ∷ l) m.first_is ∙ ap (λ x. x ∷ map bare ps) (ap (head_or o) e);
      second_is = m.second_is;
    }

-- ---- whether a history is one of a queue

pub relabelled : (xs ys : List Stamped) → map bare xs ≡ map bare ys → IsOfQueue xs → IsOfQueue ys
relabelled xs ys e q =
    let l = q.linearizable in
    let ops = operations_of l.order in
    let moved = subst (λ bares. IsPermutation bares (map bare (ops ++ l.left_out))) e (IsPermutation-map bare xs (ops ++ l.left_out) l.each_once) in
    let m = lifted ys (map bare (ops ++ l.left_out)) moved in
    let p = parts m.list ops l.left_out (m.bare_is ∙ map-append bare ops l.left_out) in
    let o = again (record { values = []; shut = false }) l.order p.first (sym p.first_is) l.replies l.runs in
    record {
      calls = All-from_recursion IsCall ys (all_alike IsCall (λ x c. record { ended = c.ended; spans = c.spans }) (λ x c. record { ended = c.ended; spans = c.spans }) xs ys e (recursion_from_All IsCall xs q.calls));
      linearizable = record {
        order = o.list;
        left_out = p.second;
        each_once = subst (λ l. IsPermutation ys (l ++ p.second)) (sym o.are) (subst (IsPermutation ys) p.is m.is);
        only_pending_left_out = all_alike IsPending (λ x c. record { not_ended = c.not_ended; not_told = c.not_told }) (λ x c. record { not_ended = c.not_ended; not_told = c.not_told })
            l.left_out p.second (sym p.second_is) l.only_pending_left_out;
        replies = o.replies;
        timely = subst KeepsTime (sym o.are) (keeps_alike ops p.first (sym p.first_is) l.timely);
        runs = o.runs;
      };
    }

pub with_indices : (ops : List Stamped) → IsOfQueue ops → IsOfQueue (indexed 0 ops)
with_indices ops = relabelled ops (indexed 0 ops) (sym (bare_indexed 0 ops))

pub without_indices : (ops : List Stamped) → IsOfQueue (indexed 0 ops) → IsOfQueue ops
without_indices ops = relabelled (indexed 0 ops) ops (bare_indexed 0 ops)

pub calls_indexed : (k : ℕ) (ops : List Stamped) → All IsCall ops → All IsCall (indexed k ops)
calls_indexed k ops h =
    All-from_recursion IsCall (indexed k ops)
    (all_alike IsCall (λ x c. record { ended = c.ended; spans = c.spans }) (λ x c. record { ended = c.ended; spans = c.spans }) ops (indexed k ops) (sym (bare_indexed k ops)) (recursion_from_All IsCall ops h))
