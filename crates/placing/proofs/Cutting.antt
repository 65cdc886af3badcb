-- A history that is one of a queue was one at each number.
use Rattle.std.proofs.Common.{◌≡◌, inl, inr, ◌∙◌, append_assoc, ℕ, ◌≤◌, ◌<◌, Bool, true, false, cond, nat_le, Option, None, Some, IsSome, IfSome, List, [], ◌∷◌, ◌++◌, map, refl, sym, ap, subst, arith}
use Rattle.std.specs.List.{AllByRecursion, filter}
use Rattle.std.specs.List.Sorted.{IsPermutation}
use Rattle.std.specs.Prelude.{IsNone}
use Rattle.std.proofs.lemmas.Bool.{leb-false, le-leb, lt-leb}
use Rattle.std.proofs.lemmas.List.{map-append}
use Rattle.std.proofs.lemmas.List.Elements.{filter-append, All-from_recursion, recursion_from_All}
use Rattle.std.proofs.lemmas.List.Sorted.{IsPermutation-map}
use Rattle.history.specs.declared.operations.Reply.{Reply}
use Rattle.history.specs.declared.operations.Reply.TheVariants.{Done, Value, Empty, Refused}
use Rattle.history.specs.declared.operations.Stamped.{Stamped}
use Rattle.history.specs.Queue.{Queue, empty}
use Rattle.history.specs.History.{answer, AgreesWithQueue}
use Rattle.history.specs.Linearizability.{Answered, operations_of, IsPending, GivesRecordedReply, MayComeBefore, KeepsTime, IsRun, IsLinearizable}
use Rattle.waiting_orders.specs.Waiting.{IsCall, IsOfQueue}
use Rattle.waiting_orders.proofs.Picking.{filter_moved}
use Rattle.placing.specs.Kinds.{ended_by}
use Rattle.placing.specs.declared.marks.Marked.{Marked}
use Rattle.placing.specs.Faults.{IsFaultless}
use Rattle.placing.specs.Parts.{all_of, begun, cut, part_of, IsBy}

module _ (time : ℕ) where
  abbrev is_begun : Stamped → Bool
  is_begun o = nat_le o.first time

  -- ---- one operation

  abbrev cut_if : Bool → Stamped → Stamped
  cut_if b o = record o { last = cond b o.last None; reply = cond b o.reply None }

  pending_if : (b : Bool) (o : Stamped) → b ≡ false → IsPending (cut_if b o)
  pending_if true o e = absurd cc
  pending_if false o e = record { not_ended = refl; not_told = refl }

  pending_cut : (o : Stamped) → ended_by time o.last ≡ false → IsPending (cut time o)
  pending_cut o e = pending_if (ended_by time o.last) o e

  pending_stays : (o : Stamped) → IsPending o → IsPending (cut time o)
  pending_stays o p = pending_cut o (ap (ended_by time) p.not_ended)

  call_cut : (o : Stamped) → IsCall o → IsCall (cut time o)
  call_cut o c = go (ended_by time o.last)
    where
      go : (b : Bool) → IsCall (cut_if b o)
      go true = record { ended = c.ended; spans = c.spans }
      go false = record { ended = ((λ h. h), (λ h. h)); spans = tt }

  -- an operation of an order, with its reply there
  abbrev cut_answered : Answered → Answered
  cut_answered a = record { operation = cut time a.operation; reply = a.reply }

  told_cut : (a : Answered) → GivesRecordedReply a → GivesRecordedReply (cut_answered a)
  told_cut a g = go (ended_by time a.operation.last)
    where
      go : (b : Bool) → IfSome (cond b a.operation.reply None) (λ told. a.reply ≡ told)
      go true = g
      go false = tt

  before_cut : (o p : Stamped) → MayComeBefore o p → MayComeBefore (cut time o) (cut time p)
  before_cut o p h = go (ended_by time p.last)
    where
      go : (c : Bool) → IfSome (cond c p.last None) (λ last. o.first ≤ last)
      go true = h
      go false = tt

  -- ---- the operations of an order that began by then come first

  record Parted (order : List Answered) : Type 0 where
    early : List Answered
    late : List Answered
    is : order ≡ early ++ late
    begun_early : AllByRecursion (λ o. is_begun o ≡ true) (operations_of early)
    still_late : KeepsTime (operations_of late) → AllByRecursion (λ o. is_begun o ≡ true → ended_by time o.last ≡ false) (operations_of late)

  not_ended : (first : ℕ) (last : Option ℕ) → time < first → IfSome last (λ last. first ≤ last) → ended_by time last ≡ false
  not_ended first None h k = refl
  not_ended first (Some last) h k = lt-leb last time (omega (arith, h, k))

  all_not_ended : (o : Stamped) (os : List Stamped) → time < o.first → AllByRecursion (MayComeBefore o) os
      → AllByRecursion (λ o. is_begun o ≡ true → ended_by time o.last ≡ false) os
  all_not_ended o [] h k = tt
  all_not_ended o (p ∷ os) h k = ((λ e. not_ended o.first p.last h k.0), all_not_ended o os h k.1)

  parted : (order : List Answered) → Parted order
  parted [] = record { early = []; late = []; is = refl; begun_early = tt; still_late = λ k. tt }
  parted (a ∷ order) = go (is_begun a.operation) refl (parted order)
    where
      go : (b : Bool) → is_begun a.operation ≡ b → Parted order → Parted (a ∷ order)
      go true e p = record { early = a ∷ p.early; late = p.late; is = ap (λ xs. a ∷ xs) p.is; begun_early = (e, p.begun_early); still_late = p.still_late }
      go false e p =
          let h : time < a.operation.first = leb-false _ _ e in
          record {
            early = [];
            late = a ∷ order;
            is = refl;
            begun_early = tt;
            still_late = λ k. ((λ f. let n : true ≡ false = sym f ∙ e in cc), all_not_ended a.operation (operations_of order) h k.0);
          }

  -- ---- the order of the part

  told_early : (early late : List Answered) → AllByRecursion GivesRecordedReply (early ++ late) → AllByRecursion GivesRecordedReply (map cut_answered early)
  told_early [] late h = tt
  told_early (a ∷ early) late h = (told_cut a h.0, told_early early late h.1)

  all_before : (o : Stamped) (early : List Answered) (later : List Stamped) → AllByRecursion (MayComeBefore o) (operations_of early ++ later)
      → AllByRecursion (MayComeBefore (cut time o)) (operations_of (map cut_answered early))
  all_before o [] later h = tt
  all_before o (a ∷ early) later h = (before_cut o a.operation h.0, all_before o early later h.1)

  timely_early : (early : List Answered) (later : List Stamped) → KeepsTime (operations_of early ++ later) → KeepsTime (operations_of (map cut_answered early))
  timely_early [] later h = tt
  timely_early (a ∷ early) later h = (all_before a.operation early later h.0, timely_early early later h.1)

  timely_late : (early : List Stamped) (late : List Stamped) → KeepsTime (early ++ late) → KeepsTime late
  timely_late [] late h = h
  timely_late (o ∷ early) late h = timely_late early late h.1

  runs_early : (q : Queue) (early late : List Answered) → IsRun q (early ++ late) → IsRun q (map cut_answered early)
  runs_early q [] late h = tt
  runs_early q (a ∷ early) late h = (agrees a.reply h.0, subst (λ q. IsRun q (map cut_answered early)) (same a.reply) (runs_early (answer q a.operation (Some a.reply)).after early late h.1))
    where
      agrees : (r : Reply) → AgreesWithQueue q a.operation (Some r) → AgreesWithQueue q (cut time a.operation) (Some r)
      agrees Done h = h
      agrees (Value v) h = h
      agrees Empty h = h
      agrees (Refused refusal) h = h

      same : (r : Reply) → (answer q a.operation (Some r)).after ≡ (answer q (cut time a.operation) (Some r)).after
      same Done = refl
      same (Value v) = refl
      same Empty = refl
      same (Refused refusal) = refl

  operations_cut : (early : List Answered) → operations_of (map cut_answered early) ≡ map (cut time) (operations_of early)
  operations_cut [] = refl
  operations_cut (a ∷ early) = ap (λ xs. cut time a.operation ∷ xs) (operations_cut early)

  all_kept : (os : List Stamped) → AllByRecursion (λ o. is_begun o ≡ true) os → filter is_begun os ≡ os
  all_kept [] h = refl
  all_kept (o ∷ os) h = go (is_begun o) h.0 (all_kept os h.1)
    where
      go : (b : Bool) → b ≡ true → filter is_begun os ≡ os → cond b (o ∷ filter is_begun os) (filter is_begun os) ≡ o ∷ os
      go true e k = ap (λ xs. o ∷ xs) k
      go false e k = absurd cc

  all_pending : (os : List Stamped) → AllByRecursion (λ o. is_begun o ≡ true → ended_by time o.last ≡ false) os → AllByRecursion IsPending (begun time os)
  all_pending [] h = tt
  all_pending (o ∷ os) h = go (is_begun o) refl (all_pending os h.1)
    where
      go : (b : Bool) → is_begun o ≡ b → AllByRecursion IsPending (begun time os) → AllByRecursion IsPending (map (cut time) (cond b (o ∷ filter is_begun os) (filter is_begun os)))
      go true e k = (pending_cut o (h.0 e), k)
      go false e k = k

  none_ended : (os : List Stamped) → AllByRecursion IsPending os → AllByRecursion (λ o. is_begun o ≡ true → ended_by time o.last ≡ false) os
  none_ended [] h = tt
  none_ended (o ∷ os) h = ((λ e. ap (ended_by time) h.0.not_ended), none_ended os h.1)

  joined : (P : Stamped → Type 0) (xs ys : List Stamped) → AllByRecursion P xs → AllByRecursion P ys → AllByRecursion P (xs ++ ys)
  joined P [] ys a b = b
  joined P (x ∷ xs) ys a b = (a.0, joined P xs ys a.1 b)

  begun_joined : (xs ys : List Stamped) → begun time (xs ++ ys) ≡ begun time xs ++ begun time ys
  begun_joined xs ys = ap (map (cut time)) (filter-append is_begun xs ys) ∙ map-append (cut time) (filter is_begun xs) (filter is_begun ys)

  begun_calls : (os : List Stamped) → AllByRecursion IsCall os → AllByRecursion IsCall (begun time os)
  begun_calls [] h = tt
  begun_calls (o ∷ os) h = go (is_begun o) (begun_calls os h.1)
    where
      go : (b : Bool) → AllByRecursion IsCall (begun time os) → AllByRecursion IsCall (map (cut time) (cond b (o ∷ filter is_begun os) (filter is_begun os)))
      go true k = (call_cut o h.0, k)
      go false k = k

  module _ (ops : List Stamped) (l : IsLinearizable ops) where
    p : Parted l.order
    p = parted l.order

    ordered : operations_of l.order ≡ operations_of p.early ++ operations_of p.late
    ordered = ap operations_of p.is ∙ map-append (λ (a : Answered). a.operation) p.early p.late

    timely : KeepsTime (operations_of p.early ++ operations_of p.late)
    timely = subst KeepsTime ordered l.timely

    listed : begun time (operations_of l.order ++ l.left_out) ≡ operations_of (map cut_answered p.early) ++ begun time (operations_of p.late ++ l.left_out)
    listed =
        ap (λ os. begun time (os ++ l.left_out)) ordered
        ∙ ap (begun time) (append_assoc (operations_of p.early) (operations_of p.late) l.left_out)
        ∙ begun_joined (operations_of p.early) (operations_of p.late ++ l.left_out)
        ∙ ap (λ os. map (cut time) os ++ begun time (operations_of p.late ++ l.left_out)) (all_kept (operations_of p.early) p.begun_early)
        ∙ ap (λ os. os ++ begun time (operations_of p.late ++ l.left_out)) (sym (operations_cut p.early))

    linearizable_begun : IsLinearizable (begun time ops)
    linearizable_begun = record {
      order = map cut_answered p.early;
      left_out = begun time (operations_of p.late ++ l.left_out);
      each_once = subst (λ os. IsPermutation (begun time ops) os) listed
          (IsPermutation-map (cut time) _ _ (filter_moved is_begun ops (operations_of l.order ++ l.left_out) l.each_once));
      only_pending_left_out = all_pending (operations_of p.late ++ l.left_out)
          (joined (λ o. is_begun o ≡ true → ended_by time o.last ≡ false) (operations_of p.late) l.left_out
          (p.still_late (timely_late (operations_of p.early) (operations_of p.late) timely)) (none_ended l.left_out l.only_pending_left_out));
      replies = told_early p.early p.late (subst (λ os. AllByRecursion GivesRecordedReply os) p.is l.replies);
      timely = timely_early p.early (operations_of p.late) timely;
      runs = runs_early empty p.early p.late (subst (IsRun empty) p.is l.runs);
    }

  pub begun_is_of_queue : (ops : List Stamped) → IsOfQueue ops → IsOfQueue (begun time ops)
  begun_is_of_queue ops h = record {
    calls = All-from_recursion IsCall (begun time ops) (begun_calls ops (recursion_from_All IsCall ops h.calls));
    linearizable = linearizable_begun ops h.linearizable;
  }

  -- ---- at a number behind all others

  pub same_cut : (o : Stamped) → IsBy time o → IsFaultless o → cut time o ≡ o
  same_cut o by f = go o.last refl o.reply refl
    where
      go : (last : Option ℕ) → o.last ≡ last → (reply : Option Reply) → o.reply ≡ reply → cut time o ≡ o
      go (Some last) e reply d =
          let ended : ended_by time o.last ≡ true = by.last (subst IsSome (sym e) refl) in
          ap (λ b. cut_if b o) ended
      go None e None d =
          let none : ended_by time o.last ≡ false = ap (ended_by time) e in
          ap (λ b. cut_if b o) none ∙ ap (λ l. (let p : Stamped = record o { last = l; reply = None } in p)) (sym e)
          ∙ ap (λ r. (let p : Stamped = record o { reply = r } in p)) (sym d)
      go None e (Some reply) d = absurd (f (inl (inr (subst IsNone (sym e) refl, subst IsSome (sym d) refl))))

  pub all_begun : (os : List Stamped) → AllByRecursion (IsBy time) os → AllByRecursion IsFaultless os → begun time os ≡ os
  all_begun [] by f = refl
  all_begun (o ∷ os) by f = go (is_begun o) (le-leb o.first time by.0.first) (all_begun os by.1 f.1)
    where
      go : (b : Bool) → b ≡ true → begun time os ≡ os → map (cut time) (cond b (o ∷ filter is_begun os) (filter is_begun os)) ≡ o ∷ os
      go true e more = ap (λ p. p ∷ begun time os) (same_cut o by.0 f.0) ∙ ap (λ l. o ∷ l) more
      go false e more = absurd cc

  pub all_in_part : (ms : List Marked) → AllByRecursion (λ m. m.is_in ≡ true) ms → part_of ms ≡ all_of ms
  all_in_part [] h = refl
  all_in_part (m ∷ ms) h = go m.is_in h.0 (all_in_part ms h.1)
    where
      go : (b : Bool) → b ≡ true → part_of ms ≡ all_of ms → all_of (cond b (m ∷ filter (λ m. m.is_in) ms) (filter (λ m. m.is_in) ms)) ≡ m.operation ∷ all_of ms
      go true e more = ap (λ l. m.operation ∷ l) more
      go false e more = absurd cc
