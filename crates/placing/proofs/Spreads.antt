-- A history with spread stamps and points that is judged Yes shows the one that it was made of to be one of a queue.
use Rattle.std.proofs.Common.{◌≡◌, inl, inr, ℕ, zero, suc, ◌≤◌, ◌<◌, Bool, true, false, nat_lt, Option, None, Some, IfSome, IsSome, List, [], ◌∷◌}
use Rattle.std.proofs.Common.{◌++◌, length, slice_set, slice_index_or, refl, sym, ap, ◌∙◌, subst, arith}
use Rattle.std.specs.Prelude.{◌↔◌}
use Rattle.std.specs.List.{AllByRecursion, AllZip, swap}
use Rattle.std.specs.List.Sorted.{IsPermutation}
use Rattle.std.proofs.lemmas.Bool.{ltb-true, ltb-false}
use Rattle.std.proofs.lemmas.List.Elements.{AllZip-get_or, length_all_zip, All-from_recursion, recursion_from_All}
use Rattle.std.proofs.lemmas.List.Sorted.{IsPermutation-refl, IsPermutation-trans, IsPermutation-swap, IsPermutation-keeps}
use Rattle.history.specs.declared.operations.Reply.{Reply}
use Rattle.history.specs.declared.operations.Reply.TheVariants.{Done, Value, Empty, Refused}
use Rattle.history.specs.declared.operations.Stamped.{Stamped}
use Rattle.history.specs.declared.operations.Verdict.TheVariants.{Yes}
use Rattle.history.specs.Queue.{Queue, empty, response}
use Rattle.history.specs.History.{LiesIn, IsPlaced, AgreesWithQueue, answer, verdict}
use Rattle.history.specs.Linearizability.{Answered, operations_of, IsPending, GivesRecordedReply, MayComeBefore, KeepsTime, IsRun, IsLinearizable}
use Rattle.history.proofs.Judging.{yes_is_right}
use Rattle.history.proofs.Linearizing.{placed_linearizes}
use Rattle.waiting_orders.specs.Waiting.{IsCall, IsOfQueue}
use Rattle.placing.specs.SpreadStamps.{EndsSo, IsStampedSo, IsKept, IsFirstOf, IsLastOf, IsSpread}
use Rattle.placing.proofs.InOrder.{Orders, kept_orders, spread_orders}

-- ---- lists that are related item by item

zip_set : {X : Type 0} (R : X → X → Type 0) (xs ys : List X) (i : ℕ) (x y : X) → AllZip R xs ys → R x y → AllZip R (slice_set xs i x) (slice_set ys i y)
zip_set R [] [] i x y h r = tt
zip_set R [] (b ∷ ys) i x y h r = absurd h
zip_set R (a ∷ xs) [] i x y h r = absurd h
zip_set R (a ∷ xs) (b ∷ ys) zero x y h r = (r, h.1)
zip_set R (a ∷ xs) (b ∷ ys) (suc i) x y h r = (h.0, zip_set R xs ys i x y h.1 r)

zip_swap : {X : Type 0} (R : X → X → Type 0) (xs ys : List X) (i j : ℕ) → i < length xs → j < length xs → AllZip R xs ys → AllZip R (swap xs i j) (swap ys i j)
zip_swap R [] [] i j l m h = tt
zip_swap R [] (b ∷ ys) i j l m h = absurd h
zip_swap R (a ∷ xs) [] i j l m h = absurd h
zip_swap R (a ∷ xs) (b ∷ ys) i j l m h =
    zip_set R (slice_set (a ∷ xs) i (slice_index_or (a ∷ xs) j a)) (slice_set (b ∷ ys) i (slice_index_or (b ∷ ys) j b)) j (slice_index_or (a ∷ xs) i a) (slice_index_or (b ∷ ys) i b)
    (zip_set R (a ∷ xs) (b ∷ ys) i (slice_index_or (a ∷ xs) j a) (slice_index_or (b ∷ ys) j b) h (AllZip-get_or R (a ∷ xs) (b ∷ ys) j a b h m))
    (AllZip-get_or R (a ∷ xs) (b ∷ ys) i a b h l)

-- a list in the same order as another one, to which it is related item by item
abbrev Follows : {X : Type 0} → (X → X → Type 0) → List X → List X → Type 0
Follows {X} R xs zs = (us : List X) × IsPermutation xs us × AllZip R us zs

permuted_along : {X : Type 0} (R : X → X → Type 0) (xs ys : List X) → AllZip R xs ys → (zs : List X) → IsPermutation ys zs → Follows R xs zs
permuted_along {X} R xs ys h zs p =
    IsPermutation-keeps ys (Follows R xs) (xs, IsPermutation-refl xs, h) step zs p
  where
    step : (l : List X) (i j : ℕ) → i < length l → j < length l → Follows R xs l → Follows R xs (swap l i j)
    step l i j a b (us, m, z) =
        let e : length us ≡ length l = length_all_zip R us l z in
        let c : i < length us = omega (arith, a, e) in
        let d : j < length us = omega (arith, b, e) in
        (swap us i j, IsPermutation-trans xs us (swap us i j) m (IsPermutation-swap us (swap us i j) i j c d refl), zip_swap R us l i j c d z)

-- a list related to two lists in a row is two lists in a row
zip_parts : {X : Type 0} (R : X → X → Type 0) (us xs ys : List X) → AllZip R us (xs ++ ys) → (vs : List X) × (ws : List X) × (us ≡ vs ++ ws) × AllZip R vs xs × AllZip R ws ys
zip_parts R us [] ys h = ([], us, refl, tt, h)
zip_parts R [] (x ∷ xs) ys h = absurd h
zip_parts R (u ∷ us) (x ∷ xs) ys h =
    let more = zip_parts R us xs ys h.1 in
    (u ∷ more.0, more.1, ap (λ r. u ∷ r) more.2, (h.0, more.3), more.4)

-- ---- times

-- what may be placed by stamps may by those that they were made of
abbrev Keeps : (First Last : ℕ → ℕ → Type 0) → Type 0
Keeps First Last = (first number n m : ℕ) → First first n → Last number m → n ≤ m → first ≤ number

-- a relation from the new one to the one it was made of
abbrev Turned : {X : Type 0} → (X → X → Type 0) → X → X → Type 0
Turned R y x = R x y

ordered_keep : (First Last : ℕ → ℕ → Type 0) → Orders First Last → Keeps First Last
ordered_keep First Last orders first number n m a b h = go (nat_lt number first) refl
  where
    go : (w : Bool) → nat_lt number first ≡ w → first ≤ number
    go false e = ltb-false _ _ e
    go true e = let less = (orders.before number first m n b a).0 (ltb-true _ _ e) in absurd (omega (arith, less, h))

ordered_keep_back : (First Last : ℕ → ℕ → Type 0) → Orders First Last → Keeps (Turned First) (Turned Last)
ordered_keep_back First Last orders first number n m a b h = go (nat_lt number first) refl
  where
    go : (w : Bool) → nat_lt number first ≡ w → first ≤ number
    go false e = ltb-false _ _ e
    go true e = let less = (orders.before m n number first b a).1 (ltb-true _ _ e) in absurd (omega (arith, less, h))

module _ (First Last : ℕ → ℕ → Type 0) (keeps : Keeps First Last) where
  abbrev Spread : Stamped → Stamped → Type 0
  Spread = IsStampedSo First Last

  ends_after : (first n : ℕ) (last spread : Option ℕ) → First first n → EndsSo Last last spread → IfSome spread (λ m. n ≤ m) → IfSome last (λ last. first ≤ last)
  ends_after first n None spread a b h = tt
  ends_after first n (Some last) None a b h = absurd b
  ends_after first n (Some last) (Some m) a b h = keeps first last n m a b h

  -- ---- an order

  -- operations with the replies of an order
  abbrev given_in : List Stamped → List Answered → List Answered
  given_in [] order = []
  given_in (o ∷ os) [] = []
  given_in (o ∷ os) (a ∷ rest) = record { operation = o; reply = a.reply } ∷ given_in os rest

  same_operations : (os : List Stamped) (order : List Answered) → AllZip Spread os (operations_of order) → operations_of (given_in os order) ≡ os
  same_operations [] order h = refl
  same_operations (o ∷ os) [] h = absurd h
  same_operations (o ∷ os) (a ∷ rest) h = ap (λ r. o ∷ r) (same_operations os rest h.1)

  still_told : (os : List Stamped) (order : List Answered) → AllZip Spread os (operations_of order) → AllByRecursion GivesRecordedReply order → AllByRecursion GivesRecordedReply (given_in os order)
  still_told [] order h g = tt
  still_told (o ∷ os) [] h g = absurd h
  still_told (o ∷ os) (a ∷ rest) h g =
      (subst (λ r. IfSome r (λ told. a.reply ≡ told)) h.0.reply g.0, still_told os rest h.1 g.1)

  still_before : (o p : Stamped) → Spread o p → (os ps : List Stamped) → AllZip Spread os ps → AllByRecursion (MayComeBefore p) ps → AllByRecursion (MayComeBefore o) os
  still_before o p s [] ps h b = tt
  still_before o p s (q ∷ qs) [] h b = absurd h
  still_before o p s (q ∷ qs) (r ∷ rs) h b =
      (ends_after o.first p.first q.last r.last s.first h.0.last b.0, still_before o p s qs rs h.1 b.1)

  still_timely : (os ps : List Stamped) → AllZip Spread os ps → KeepsTime ps → KeepsTime os
  still_timely [] ps h k = tt
  still_timely (o ∷ os) [] h k = absurd h
  still_timely (o ∷ os) (p ∷ ps) h k = (still_before o p h.0 os ps h.1 k.0, still_timely os ps h.1 k.1)

  same_given : (queue : Queue) (o p : Stamped) → Spread o p → response p.actor p.op queue ≡ response o.actor o.op queue
  same_given queue o p s = ap (λ n. response n p.op queue) s.actor ∙ ap (λ op. response o.actor op queue) s.op

  still_gets : (queue : Queue) (o p : Stamped) (reply : Reply) → Spread o p → AgreesWithQueue queue p (Some reply)
      → AgreesWithQueue queue o (Some reply) × (answer queue p (Some reply) ≡ answer queue o (Some reply))
  still_gets queue o p (Refused refusal) s (inl h) = (inl h, refl)
  still_gets queue o p (Refused refusal) s (inr h) = (inr (h.0, h.1 ∙ ap (λ a. a.reply) (same_given queue o p s)), refl)
  still_gets queue o p Done s h = (h ∙ ap (λ a. a.reply) (same_given queue o p s), same_given queue o p s)
  still_gets queue o p (Value v) s h = (h ∙ ap (λ a. a.reply) (same_given queue o p s), same_given queue o p s)
  still_gets queue o p Empty s h = (h ∙ ap (λ a. a.reply) (same_given queue o p s), same_given queue o p s)

  still_runs : (queue : Queue) (os : List Stamped) (order : List Answered) → AllZip Spread os (operations_of order) → IsRun queue order → IsRun queue (given_in os order)
  still_runs queue [] order h r = tt
  still_runs queue (o ∷ os) [] h r = absurd h
  still_runs queue (o ∷ os) (a ∷ rest) h r =
      let on = still_gets queue o a.operation a.reply h.0 r.0 in
      (on.0, subst (λ x. IsRun x.after (given_in os rest)) on.1 (still_runs (answer queue a.operation (Some a.reply)).after os rest h.1 r.1))

  not_ended : (last spread : Option ℕ) → EndsSo Last last spread → spread ≡ None → last ≡ None
  not_ended None spread h e = refl
  not_ended (Some last) None h e = absurd h
  not_ended (Some last) (Some n) h e = cc e

  still_pending : (os ps : List Stamped) → AllZip Spread os ps → AllByRecursion IsPending ps → AllByRecursion IsPending os
  still_pending [] ps h p = tt
  still_pending (o ∷ os) [] h p = absurd h
  still_pending (o ∷ os) (q ∷ qs) h p = (
    record { not_ended = not_ended o.last q.last h.0.last p.0.not_ended; not_told = sym h.0.reply ∙ p.0.not_told },
    still_pending os qs h.1 p.1,
  )

  linearizable_before : (ops new : List Stamped) → AllZip Spread ops new → IsLinearizable new → IsLinearizable ops
  linearizable_before ops new z h =
      let along = permuted_along Spread ops new z (operations_of h.order ++ h.left_out) h.each_once in
      let parts = zip_parts Spread along.0 (operations_of h.order) h.left_out along.2 in
      let e : operations_of (given_in parts.0 h.order) ≡ parts.0 = same_operations parts.0 h.order parts.3 in
      record {
        order = given_in parts.0 h.order;
        left_out = parts.1;
        each_once = subst (λ r. IsPermutation ops (r ++ parts.1)) (sym e) (subst (IsPermutation ops) parts.2 along.1);
        only_pending_left_out = still_pending parts.1 h.left_out parts.4 h.only_pending_left_out;
        replies = still_told parts.0 h.order parts.3 h.replies;
        timely = subst KeepsTime (sym e) (still_timely parts.0 (operations_of h.order) parts.3 h.timely);
        runs = still_runs empty parts.0 h.order parts.3 h.runs;
      }

  -- ---- calls

  ends_as : (last spread : Option ℕ) → EndsSo Last last spread → (IsSome last → IsSome spread) × (IsSome spread → IsSome last)
  ends_as None None h = (λ e. e, λ e. e)
  ends_as None (Some n) h = absurd h
  ends_as (Some last) None h = absurd h
  ends_as (Some last) (Some n) h = (λ e. refl, λ e. refl)

  same_call : (o p : Stamped) → Spread o p → IsCall p → IsCall o
  same_call o p s h =
      let ends = ends_as o.last p.last s.last in
      record {
        ended = (λ e. subst IsSome s.reply (h.ended.0 (ends.0 e)), λ e. ends.1 (h.ended.1 (subst IsSome (sym s.reply) e)));
        spans = ends_after o.first p.first o.last p.last s.first s.last h.spans;
      }

  same_calls : (os ps : List Stamped) → AllZip Spread os ps → AllByRecursion IsCall ps → AllByRecursion IsCall os
  same_calls [] ps h p = tt
  same_calls (o ∷ os) [] h p = absurd h
  same_calls (o ∷ os) (q ∷ qs) h p = (same_call o q h.0 p.0, same_calls os qs h.1 p.1)

  of_queue_before : (ops new : List Stamped) → AllZip Spread ops new → IsOfQueue new → IsOfQueue ops
  of_queue_before ops new each h = record {
    calls = All-from_recursion IsCall ops (same_calls ops new each (recursion_from_All IsCall new h.calls));
    linearizable = linearizable_before ops new each h.linearizable;
  }

-- ---- the given history and the new one

turned_ends : (Last : ℕ → ℕ → Type 0) (last spread : Option ℕ) → EndsSo Last last spread → EndsSo (Turned Last) spread last
turned_ends Last None None h = tt
turned_ends Last None (Some n) h = absurd h
turned_ends Last (Some last) None h = absurd h
turned_ends Last (Some last) (Some n) h = h

turned : (First Last : ℕ → ℕ → Type 0) (ops new : List Stamped) → AllZip (IsStampedSo First Last) ops new → AllZip (IsStampedSo (Turned First) (Turned Last)) new ops
turned First Last [] [] h = tt
turned First Last [] (p ∷ ps) h = absurd h
turned First Last (o ∷ os) [] h = absurd h
turned First Last (o ∷ os) (p ∷ ps) h = (
  record { actor = sym h.0.actor; op = sym h.0.op; reply = sym h.0.reply; first = h.0.first; last = turned_ends Last o.last p.last h.0.last },
  turned First Last os ps h.1,
)

same_of_queue : (First Last : ℕ → ℕ → Type 0) → Orders First Last → (ops new : List Stamped) → AllZip (IsStampedSo First Last) ops new → IsOfQueue ops ↔ IsOfQueue new
same_of_queue First Last orders ops new each = (
  of_queue_before (Turned First) (Turned Last) (ordered_keep_back First Last orders) new ops (turned First Last ops new each),
  of_queue_before First Last (ordered_keep First Last orders) ops new each,
)

-- a history with points, its stamps as they were or spread, is one of a queue exactly where it is without
pub spread_is_of_queue : (ops new : List Stamped) → IsSpread ops new → IsOfQueue ops ↔ IsOfQueue new
spread_is_of_queue ops new (inl kept) = same_of_queue IsKept IsKept kept_orders ops new kept
spread_is_of_queue ops new (inr s) = same_of_queue (IsFirstOf s.numbers s.width) (IsLastOf s.numbers s.width) (spread_orders s.numbers s.width s.rises s.wide) ops new s.each

spans : (n : ℕ) (spread at : Option ℕ) (reply : Option Reply) → LiesIn n spread at reply → IfSome spread (λ m. n ≤ m)
spans n None at reply h = tt
spans n (Some m) None reply h = absurd (let e : false ≡ true = h.placed (h.ended.0 refl) in cc)
spans n (Some m) (Some t) reply h = let a : n ≤ t = h.not_before in let b : t ≤ m = h.not_after in omega arith

placed_calls : (ops : List Stamped) → AllByRecursion IsPlaced ops → AllByRecursion IsCall ops
placed_calls [] h = tt
placed_calls (o ∷ os) h = (record { ended = h.0.ended; spans = spans o.first o.last o.at o.reply h.0 }, placed_calls os h.1)

judged_is : (new : List Stamped) → verdict new ≡ Yes → IsOfQueue new
judged_is new judged =
    let h = yes_is_right new judged in
    record {
      calls = All-from_recursion IsCall new (placed_calls new h.0.each);
      linearizable = placed_linearizes new h.0 h.1;
    }

-- what is judged Yes with points, and with stamps as they were or spread, is one of a queue without
pub placed_is : (ops new : List Stamped) → IsSpread ops new → verdict new ≡ Yes → IsOfQueue ops
placed_is ops new spread judged = (spread_is_of_queue ops new spread).1 (judged_is new judged)
