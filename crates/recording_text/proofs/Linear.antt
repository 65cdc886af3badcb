-- A recording and the history that it stands for are linearizable alike.
use Rattle.std.proofs.Common.{◌≡◌, ℕ, ◌<◌, List, [], ◌∷◌, ◌++◌, map, length, get_or, set, swap, Bool, true, false, Option, None, Some, option_map}
use Rattle.std.proofs.Common.{IfSome, IsPermutation, refl, sym, ap, ◌∙◌, arith, subst, inl, inr, ⊎_elim}
use Rattle.std.specs.List.{AllByRecursion}
use Rattle.std.proofs.lemmas.List.{map-append, map-set, get_or-map, length-map}
use Rattle.std.proofs.lemmas.List.Edits.{swap_is}
use Rattle.std.proofs.lemmas.List.Sorted.{IsPermutation-refl, IsPermutation-trans, IsPermutation-swap, IsPermutation-map, IsPermutation-keeps, All-permutation}
use Rattle.history.specs.declared.refusals.Refusal.TheVariants.{NoNode, Closed as IsShut}
use Rattle.history.specs.declared.operations.Taken.{Taken}
use Rattle.history.specs.declared.operations.Reply.{Reply}
use Rattle.history.specs.declared.operations.Reply.TheVariants.{Done as DoneReply, Value as ValueReply, Empty as EmptyReply, Refused as RefusedReply}
use Rattle.history.specs.declared.operations.Stamped.{Stamped}
use Rattle.history.specs.Queue.{Queue, response}
use Rattle.history.specs.History.{answer, AgreesWithQueue}
use Rattle.history.specs.Linearizability as linear
use Rattle.history.specs.Linearizability.{Answered, IsLinearizable}
use Rattle.recording_text.specs.Recordings.{Call, Push, Pop, Shut, Told, Done, Value, Empty, Refused, Closed, Recorded, text_of_call, text_of_told, texts_in}
use Rattle.recording_text.specs.Numbers.{known_in, number_in, value_by, op_by, reply_by, stamped_by, history_of}
use Rattle.recording_text.specs.TextQueues.{TextQueue, no_texts, text_response, queue_after, Tells, AnsweredOperation, operations_of, IsPending}
use Rattle.recording_text.specs.TextQueues.{TellsRecordedReply, MayComeBefore, KeepsTime, IsRun, IsLinearizableRecording}
use Rattle.recording_text.proofs.EachOf.{parts, together}
use Rattle.recording_text.proofs.Known.{IsKnown, AreKnown, AllAreKnown, by_recursion, from_recursion, number-tells, all-known_in, known-left, known-right}

-- two elements that change places, changed one by one
map-swap : {X Y : Type 0} (f : X → Y) (xs : List X) (i j : ℕ) → i < length xs → j < length xs → map f (swap xs i j) ≡ swap (map f xs) i j
map-swap f [] i j p q = absurd (omega (arith, p))
map-swap f (d ∷ rest) i j p q =
    let xs = d ∷ rest in
    let a = get_or xs j d in
    let b = get_or xs i d in
    let ys = map f xs in
    ap (map f) (sym (swap_is xs i j d p q)) ∙ map-set f (set xs i a) j b ∙ ap (λ l. set l j (f b)) (map-set f xs i a)
    ∙ (λ k. set (set ys i (sym (get_or-map f xs j d (f d) q) k)) j (sym (get_or-map f xs i d (f d) p) k))
    ∙ swap_is ys i j (f d) (omega (arith, p, length-map xs f)) (omega (arith, q, length-map xs f))

-- an order of what some elements become is that of the elements
record IsOrderOf {X Y : Type 0} (f : X → Y) (xs : List X) (ys : List Y) : Type 0 where
  ordered : List X
  permuted : IsPermutation xs ordered
  become : map f ordered ≡ ys

order-swapped : {X Y : Type 0} (f : X → Y) (xs : List X) (l : List Y) (i j : ℕ) → i < length l → j < length l → IsOrderOf f xs l → IsOrderOf f xs (swap l i j)
order-swapped f xs l i j p q is =
    let long : length l ≡ length is.ordered = ap length (sym is.become) ∙ length-map is.ordered f in
    let p' : i < length is.ordered = omega (arith, p, long) in
    let q' : j < length is.ordered = omega (arith, q, long) in
    record {
      ordered = swap is.ordered i j;
      permuted = IsPermutation-trans xs is.ordered (swap is.ordered i j) is.permuted (IsPermutation-swap is.ordered (swap is.ordered i j) i j p' q' refl);
      become = map-swap f is.ordered i j p' q' ∙ ap (λ l. swap l i j) is.become;
    }

ordered-back : {X Y : Type 0} (f : X → Y) (xs : List X) (ys : List Y) → IsPermutation (map f xs) ys → IsOrderOf f xs ys
ordered-back f xs = IsPermutation-keeps (map f xs) (IsOrderOf f xs) (record { ordered = xs; permuted = IsPermutation-refl xs; become = refl }) (order-swapped f xs)

-- what becomes two parts is two parts
record IsParted {X Y : Type 0} (f : X → Y) (all : List X) (xs ys : List Y) : Type 0 where
  front : List X
  back : List X
  parts : all ≡ front ++ back
  front_is : map f front ≡ xs
  back_is : map f back ≡ ys

parted-back : {X Y : Type 0} (f : X → Y) (all : List X) (xs ys : List Y) → map f all ≡ xs ++ ys → IsParted f all xs ys
parted-back f all [] ys e = record { front = []; back = all; parts = refl; front_is = refl; back_is = e }
parted-back f [] (x ∷ xs) ys e = absurd cc
parted-back f (a ∷ all) (x ∷ xs) ys e =
    let head : f a ≡ x = cc in
    let tail : map f all ≡ xs ++ ys = cc in
    let later = parted-back f all xs ys tail in
    record {
      front = a ∷ later.front;
      back = later.back;
      parts = ap (λ l. a ∷ l) later.parts;
      front_is = λ i. head i ∷ later.front_is i;
      back_is = later.back_is;
    }

-- one reply is told for another
done-back : (known : List (List ℕ)) (told : Told) → DoneReply ≡ reply_by known told → Done ≡ told
done-back known Done e = refl
done-back known (Value text) e = absurd cc
done-back known Empty e = absurd cc
done-back known Refused e = absurd cc
done-back known Closed e = absurd cc

empty-back : (known : List (List ℕ)) (told : Told) → EmptyReply ≡ reply_by known told → Empty ≡ told
empty-back known Done e = absurd cc
empty-back known (Value text) e = absurd cc
empty-back known Empty e = refl
empty-back known Refused e = absurd cc
empty-back known Closed e = absurd cc

closed-back : (known : List (List ℕ)) (told : Told) → RefusedReply IsShut ≡ reply_by known told → Closed ≡ told
closed-back known Done e = absurd cc
closed-back known (Value text) e = absurd cc
closed-back known Empty e = absurd cc
closed-back known Refused e = absurd (let same : IsShut ≡ NoNode = cc in cc)
closed-back known Closed e = refl

value-back : (known : List (List ℕ)) (value : Taken) (told : Told) → ValueReply value ≡ reply_by known told → (text : List ℕ) × (Value text ≡ told) × (value ≡ value_by known text)
value-back known value Done e = absurd cc
value-back known value (Value text) e = (text, refl, cc)
value-back known value Empty e = absurd cc
value-back known value Refused e = absurd cc
value-back known value Closed e = absurd cc

module _ (known : List (List ℕ)) where
  -- the queue of the texts' numbers
  abbrev image : TextQueue → Queue
  image queue = record { values = map (value_by known) queue.texts; shut = queue.shut }

  -- the answer of a queue of numbers is that of a queue of texts
  told-image : (call : Call) (texts : List (List ℕ)) (shut : Bool) →
      let queue : TextQueue = record { texts = texts; shut = shut } in (response 1 (op_by known call) (image queue)).reply ≡ reply_by known (text_response call queue).told
  told-image (Push text) texts true = refl
  told-image (Push text) texts false = refl
  told-image Pop [] true = refl
  told-image Pop [] false = refl
  told-image Pop (front ∷ texts) shut = refl
  told-image Shut texts true = refl
  told-image Shut texts false = refl

  after-image : (call : Call) (texts : List (List ℕ)) (shut : Bool) →
      let queue : TextQueue = record { texts = texts; shut = shut } in (response 1 (op_by known call) (image queue)).after ≡ image (text_response call queue).after
  after-image (Push text) texts true = refl
  after-image (Push text) texts false = ap (λ (values : List Taken). record { values = values; shut = false }) (sym (map-append (value_by known) texts (text ∷ [])))
  after-image Pop [] true = refl
  after-image Pop [] false = refl
  after-image Pop (front ∷ texts) shut = refl
  after-image Shut texts true = refl
  after-image Shut texts false = refl

  -- what a queue of texts tells, one of numbers agrees with
  agrees-image : (queue : TextQueue) (r : Recorded) (told : Told) → Tells queue r.call told → AgreesWithQueue (image queue) (stamped_by known r) (Some (reply_by known told))
  agrees-image queue r Done tells = ap (reply_by known) tells ∙ sym (told-image r.call queue.texts queue.shut)
  agrees-image queue r (Value text) tells = ap (reply_by known) tells ∙ sym (told-image r.call queue.texts queue.shut)
  agrees-image queue r Empty tells = ap (reply_by known) tells ∙ sym (told-image r.call queue.texts queue.shut)
  agrees-image queue r Refused tells = inl refl
  agrees-image queue r Closed tells = inr (refl, ap (reply_by known) tells ∙ sym (told-image r.call queue.texts queue.shut))

  -- and the queues after it are the same
  answer-image : (queue : TextQueue) (r : Recorded) (told : Told) → (answer (image queue) (stamped_by known r) (Some (reply_by known told))).after ≡ image (queue_after queue r.call told)
  answer-image queue r Done = after-image r.call queue.texts queue.shut
  answer-image queue r (Value text) = after-image r.call queue.texts queue.shut
  answer-image queue r Empty = after-image r.call queue.texts queue.shut
  answer-image queue r Refused = refl
  answer-image queue r Closed = refl

  -- an operation of an order, by its numbers
  answered : AnsweredOperation → Answered
  answered o = record { operation = stamped_by known o.operation; reply = reply_by known o.told }

  operations-image : (order : List AnsweredOperation) → linear.operations_of (map answered order) ≡ map (stamped_by known) (operations_of order)
  unfolding answered
  operations-image [] = refl
  operations-image (o ∷ order) = ap (λ later. stamped_by known o.operation ∷ later) (operations-image order)

  run-image : (queue : TextQueue) (order : List AnsweredOperation) → IsRun queue order → linear.IsRun (image queue) (map answered order)
  unfolding answered
  run-image queue [] runs = tt
  run-image queue (o ∷ order) runs = (
    agrees-image queue o.operation o.told runs.0,
    subst (λ queue. linear.IsRun queue (map answered order)) (sym (answer-image queue o.operation o.told)) (run-image (queue_after queue o.operation.call o.told) order runs.1),
  )

  replies-image : (order : List AnsweredOperation) → AllByRecursion TellsRecordedReply order → AllByRecursion linear.GivesRecordedReply (map answered order)
  unfolding answered
  replies-image [] all = tt
  replies-image (o ∷ order) all = (by o.operation.told all.0, replies-image order all.1)
    where
      by : (told : Option Told) → IfSome told (λ told. o.told ≡ told) → IfSome (option_map (reply_by known) told) (λ told. reply_by known o.told ≡ told)
      by None e = e
      by (Some told) e = ap (reply_by known) e

  -- operations keep time as their numbers do
  before-image : (r : Recorded) (rs : List Recorded) → AllByRecursion (MayComeBefore r) rs → AllByRecursion (linear.MayComeBefore (stamped_by known r)) (map (stamped_by known) rs)
  before-image r [] all = tt
  before-image r (s ∷ rs) all = (all.0, before-image r rs all.1)

  time-image : (rs : List Recorded) → KeepsTime rs → linear.KeepsTime (map (stamped_by known) rs)
  time-image [] timely = tt
  time-image (r ∷ rs) timely = (before-image r rs timely.0, time-image rs timely.1)

  before-back : (r : Recorded) (rs : List Recorded) → AllByRecursion (linear.MayComeBefore (stamped_by known r)) (map (stamped_by known) rs) → AllByRecursion (MayComeBefore r) rs
  before-back r [] all = tt
  before-back r (s ∷ rs) all = (all.0, before-back r rs all.1)

  time-back : (rs : List Recorded) → linear.KeepsTime (map (stamped_by known) rs) → KeepsTime rs
  time-back [] timely = tt
  time-back (r ∷ rs) timely = (before-back r rs timely.0, time-back rs timely.1)

  -- they are pending as their numbers are
  pending-image : (rs : List Recorded) → AllByRecursion IsPending rs → AllByRecursion linear.IsPending (map (stamped_by known) rs)
  pending-image [] all = tt
  pending-image (r ∷ rs) all = (record { not_ended = all.0.not_ended; not_told = ap (option_map (reply_by known)) all.0.not_told }, pending-image rs all.1)

  pending-back : (rs : List Recorded) → AllByRecursion linear.IsPending (map (stamped_by known) rs) → AllByRecursion IsPending rs
  pending-back [] all = tt
  pending-back (r ∷ rs) all = (record { not_ended = all.0.not_ended; not_told = by r.told all.0.not_told }, pending-back rs all.1)
    where
      by : (told : Option Told) → option_map (reply_by known) told ≡ None → told ≡ None
      by None e = refl
      by (Some told) e = absurd cc

  -- a linearizable recording has a linearizable history
  linear-image : (rs : List Recorded) → IsLinearizableRecording rs → IsLinearizable (map (stamped_by known) rs)
  linear-image rs is =
      let parts : map (stamped_by known) (operations_of is.order ++ is.left_out) ≡ linear.operations_of (map answered is.order) ++ map (stamped_by known) is.left_out =
      map-append (stamped_by known) (operations_of is.order) is.left_out ∙ ap (λ front. front ++ map (stamped_by known) is.left_out) (sym (operations-image is.order)) in
      record {
        order = map answered is.order;
        left_out = map (stamped_by known) is.left_out;
        each_once = subst (IsPermutation (map (stamped_by known) rs)) parts (IsPermutation-map (stamped_by known) rs (operations_of is.order ++ is.left_out) is.each_once);
        only_pending_left_out = pending-image is.left_out is.only_pending_left_out;
        replies = replies-image is.order is.replies;
        timely = subst linear.KeepsTime (sym (operations-image is.order)) (time-image (operations_of is.order) is.timely);
        runs = run-image no_texts is.order is.runs;
      }

  -- a value that a queue tells is in it
  told-known : (call : Call) (texts : List (List ℕ)) (shut : Bool) (text : List ℕ) → AreKnown known texts
      → Value text ≡ (text_response call (record { texts = texts; shut = shut })).told → IsKnown known text
  told-known (Push pushed) texts true text all e = absurd cc
  told-known (Push pushed) texts false text all e = absurd cc
  told-known Pop [] true text all e = absurd cc
  told-known Pop [] false text all e = absurd cc
  told-known Pop (front ∷ texts) shut text all e = let same : front ≡ text = cc in subst (IsKnown known) same all.0
  told-known Shut texts true text all e = absurd cc
  told-known Shut texts false text all e = absurd cc

  -- the texts of the queue after a call are known
  response-known : (call : Call) (texts : List (List ℕ)) (shut : Bool) → AreKnown known texts → AreKnown known (text_of_call call)
      → AreKnown known (text_response call (record { texts = texts; shut = shut })).after.texts
  response-known (Push text) texts true all is = all
  response-known (Push text) texts false all is = together (IsKnown known) texts (text ∷ []) all is
  response-known Pop [] true all is = tt
  response-known Pop [] false all is = tt
  response-known Pop (front ∷ texts) shut all is = all.1
  response-known Shut texts true all is = all
  response-known Shut texts false all is = all

  after-known : (queue : TextQueue) (call : Call) (told : Told) → AreKnown known queue.texts → AreKnown known (text_of_call call) → AreKnown known (queue_after queue call told).texts
  after-known queue call Done all is = response-known call queue.texts queue.shut all is
  after-known queue call (Value text) all is = response-known call queue.texts queue.shut all is
  after-known queue call Empty all is = response-known call queue.texts queue.shut all is
  after-known queue call Refused all is = all
  after-known queue call Closed all is = all

  -- what a queue of numbers agrees with, one of known texts tells
  tells-back : (queue : TextQueue) (r : Recorded) (told : Told) → AreKnown known queue.texts → AreKnown known (text_of_told (Some told))
      → AgreesWithQueue (image queue) (stamped_by known r) (Some (reply_by known told)) → Tells queue r.call told
  tells-back queue r Done all is agrees = done-back known (text_response r.call queue).told (agrees ∙ told-image r.call queue.texts queue.shut)
  tells-back queue r (Value text) all is agrees =
      let found = value-back known (value_by known text) (text_response r.call queue).told (agrees ∙ told-image r.call queue.texts queue.shut) in
      let number : number_in known text ≡ number_in known found.0 = ap (λ (value : Taken). value.body) found.2 in
      ap (λ (text : List ℕ). Value text) (number-tells known text found.0 is.0 (told-known r.call queue.texts queue.shut found.0 all found.1) number) ∙ found.1
  tells-back queue r Empty all is agrees = empty-back known (text_response r.call queue).told (agrees ∙ told-image r.call queue.texts queue.shut)
  tells-back queue r Refused all is agrees = tt
  tells-back queue r Closed all is agrees = ⊎_elim (λ leaves. absurd cc) (λ shut. closed-back known (text_response r.call queue).told (shut.1 ∙ told-image r.call queue.texts queue.shut)) agrees

  -- what a call may be told by texts where it is given a reply by numbers
  record IsTold (queue : TextQueue) (r : Recorded) (reply : Reply) : Type 0 where
    told : Told
    tells : Tells queue r.call told
    after : (answer (image queue) (stamped_by known r) (Some reply)).after ≡ image (queue_after queue r.call told)
    was_told : IfSome r.told (λ told'. told ≡ told')

  -- a pending one
  pending-told : (queue : TextQueue) (r : Recorded) (reply : Reply) → AgreesWithQueue (image queue) (stamped_by known r) (Some reply) → r.told ≡ None → IsTold queue r reply
  pending-told queue r DoneReply agrees none = record {
    told = Done;
    tells = done-back known (text_response r.call queue).told (agrees ∙ told-image r.call queue.texts queue.shut);
    after = after-image r.call queue.texts queue.shut;
    was_told = subst (λ told. IfSome told (λ told'. Done ≡ told')) (sym none) tt;
  }
  pending-told queue r (ValueReply value) agrees none =
      let found = value-back known value (text_response r.call queue).told (agrees ∙ told-image r.call queue.texts queue.shut) in
      record {
        told = Value found.0;
        tells = found.1;
        after = after-image r.call queue.texts queue.shut;
        was_told = subst (λ told. IfSome told (λ told'. Value found.0 ≡ told')) (sym none) tt;
      }
  pending-told queue r EmptyReply agrees none = record {
    told = Empty;
    tells = empty-back known (text_response r.call queue).told (agrees ∙ told-image r.call queue.texts queue.shut);
    after = after-image r.call queue.texts queue.shut;
    was_told = subst (λ told. IfSome told (λ told'. Empty ≡ told')) (sym none) tt;
  }
  pending-told queue r (RefusedReply refusal) agrees none = record {
    told = Refused;
    tells = tt;
    after = refl;
    was_told = subst (λ told. IfSome told (λ told'. Refused ≡ told')) (sym none) tt;
  }

  -- one that was told something
  completed-told : (queue : TextQueue) (r : Recorded) (reply : Reply) (told : Told) → AreKnown known queue.texts → AreKnown known (text_of_told (Some told))
      → AgreesWithQueue (image queue) (stamped_by known r) (Some reply) → reply ≡ reply_by known told → r.told ≡ Some told → IsTold queue r reply
  completed-told queue r reply told all is agrees same was = record {
    told = told;
    tells = tells-back queue r told all is (subst (λ reply. AgreesWithQueue (image queue) (stamped_by known r) (Some reply)) same agrees);
    after = ap (λ reply. (answer (image queue) (stamped_by known r) (Some reply)).after) same ∙ answer-image queue r told;
    was_told = subst (λ given. IfSome given (λ told'. told ≡ told')) (sym was) refl;
  }

  is-told : (queue : TextQueue) (r : Recorded) (reply : Reply) → AreKnown known queue.texts → AreKnown known (texts_in r) → AgreesWithQueue (image queue) (stamped_by known r) (Some reply)
      → IfSome (option_map (reply_by known) r.told) (λ told. reply ≡ told) → IsTold queue r reply
  is-told queue r reply all is agrees gives = by r.told refl (known-right known (text_of_call r.call) (text_of_told r.told) is) gives
    where
      by : (told : Option Told) → r.told ≡ told → AreKnown known (text_of_told told) → IfSome (option_map (reply_by known) told) (λ told. reply ≡ told) → IsTold queue r reply
      by None was is gives = pending-told queue r reply agrees was
      by (Some told) was is gives = completed-told queue r reply told all is agrees gives was

  -- a run of texts whose numbers are another run
  record IsRunOf (queue : TextQueue) (rs : List Recorded) : Type 0 where
    order : List AnsweredOperation
    operations : operations_of order ≡ rs
    replies : AllByRecursion TellsRecordedReply order
    runs : IsRun queue order

  run-back : (queue : TextQueue) (rs : List Recorded) (order : List Answered) → AreKnown known queue.texts → AllAreKnown known rs → map (stamped_by known) rs ≡ linear.operations_of order
      → AllByRecursion linear.GivesRecordedReply order → linear.IsRun (image queue) order → IsRunOf queue rs
  run-back queue [] [] all each same gives runs = record { order = []; operations = refl; replies = tt; runs = tt }
  run-back queue [] (a ∷ order) all each same gives runs = absurd cc
  run-back queue (r ∷ rs) [] all each same gives runs = absurd cc
  run-back queue (r ∷ rs) (a ∷ order) all each same gives runs =
      let head : a.operation ≡ stamped_by known r = cc in
      let tail : map (stamped_by known) rs ≡ linear.operations_of order = cc in
      let agrees : AgreesWithQueue (image queue) (stamped_by known r) (Some a.reply) = subst (λ o. AgreesWithQueue (image queue) o (Some a.reply)) head runs.0 in
      let given : IfSome (option_map (reply_by known) r.told) (λ told. a.reply ≡ told) = subst (λ (o : Stamped). IfSome o.reply (λ told. a.reply ≡ told)) head gives.0 in
      let found = is-told queue r a.reply all each.0 agrees given in
      let next : TextQueue = queue_after queue r.call found.told in
      let after : (answer (image queue) a.operation (Some a.reply)).after ≡ image next = ap (λ o. (answer (image queue) o (Some a.reply)).after) head ∙ found.after in
      let later =
      run-back next rs order (after-known queue r.call found.told all (known-left known (text_of_call r.call) (text_of_told r.told) each.0)) each.1 tail gives.1
      (subst (λ queue. linear.IsRun queue order) after runs.1) in
      record {
        order = record { operation = r; told = found.told } ∷ later.order;
        operations = ap (λ (rs : List Recorded). r ∷ rs) {x = operations_of later.order} {y = rs} later.operations;
        replies = (found.was_told, later.replies);
        runs = (found.tells, later.runs);
      }

  -- a recording of known texts with a linearizable history is linearizable
  linear-back : (rs : List Recorded) → AllAreKnown known rs → IsLinearizable (map (stamped_by known) rs) → IsLinearizableRecording rs
  linear-back rs each is =
      let ordered = ordered-back (stamped_by known) rs (linear.operations_of is.order ++ is.left_out) is.each_once in
      let parted = parted-back (stamped_by known) ordered.ordered (linear.operations_of is.order) is.left_out ordered.become in
      let Each : Recorded → Type 0 = λ r. AreKnown known (texts_in r) in
      let all : AllByRecursion Each ordered.ordered = by_recursion Each ordered.ordered (All-permutation Each rs ordered.ordered ordered.permuted (from_recursion Each rs each)) in
      let front : AllByRecursion Each parted.front = (parts Each parted.front parted.back (subst (AllByRecursion Each) parted.parts all)).0 in
      let run = run-back no_texts parted.front is.order tt front parted.front_is is.replies is.runs in
      record {
        order = run.order;
        left_out = parted.back;
        each_once = subst (IsPermutation rs) (parted.parts ∙ ap (λ front. front ++ parted.back) (sym run.operations)) ordered.permuted;
        only_pending_left_out = pending-back parted.back (subst (AllByRecursion linear.IsPending) (sym parted.back_is) is.only_pending_left_out);
        replies = run.replies;
        timely = subst KeepsTime (sym run.operations) (time-back parted.front (subst linear.KeepsTime (sym parted.front_is) is.timely));
        runs = run.runs;
      }

-- a recording is linearizable exactly where its history is
pub linear-as_history : (rs : List Recorded) → (IsLinearizableRecording rs → IsLinearizable (history_of rs)) × (IsLinearizable (history_of rs) → IsLinearizableRecording rs)
linear-as_history rs = (linear-image (known_in rs) rs, linear-back (known_in rs) rs (all-known_in rs []))
