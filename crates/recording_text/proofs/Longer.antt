-- A recording is linearizable from a queue that holds texts exactly where the longer one is that pushes them first.
use Rattle.std.proofs.Common.{◌≡◌, ◌↔◌, ◌⊎◌, ⊎_elim, inl, inr, ℕ, zero, suc, ◌+◌, ◌-◌, ◌<◌, ◌≤◌, Bool, true, false, not, cond, nat_lt, List, [], ◌∷◌}
use Rattle.std.proofs.Common.{◌++◌, map, filter, length, get_or, set, swap, Option, None, Some, option_map, IfSome, IsPermutation, refl, sym, ap, ◌∙◌}
use Rattle.std.proofs.Common.{subst, arith, append_assoc, append-nil}
use Rattle.std.specs.List.{AllByRecursion}
use Rattle.std.proofs.lemmas.Bool.{lt-ltb, le-ltb}
use Rattle.std.proofs.lemmas.List.{map-append}
use Rattle.std.proofs.lemmas.List.Elements.{filter-append}
use Rattle.std.proofs.lemmas.List.Sorted.{IsPermutation-refl, IsPermutation-cons, IsPermutation-trans, IsPermutation-map, IsPermutation-middle}
use Rattle.std.proofs.lemmas.List.Sorted.{IsPermutation-keeps, All-permutation, length_permutation}
use Rattle.recording_text.specs.Recordings.{Push, Done, Recorded}
use Rattle.recording_text.specs.RecordingLines.{IsInTime, IsReadable, IsRecordingInRange}
use Rattle.recording_text.specs.TextQueues.{TextQueue, queue_after, AnsweredOperation, operations_of, IsPending, TellsRecordedReply, MayComeBefore, KeepsTime, IsRun, IsLinearizableRecording}
use Rattle.recording_text.specs.HeldTexts.{holding, IsLinearizableFrom, push_at, pushes_from, later_by, longer}
use Rattle.recording_text.proofs.EachOf.{parts, together, weaker}
use Rattle.recording_text.proofs.Known.{by_recursion, from_recursion}

-- ---- elements that pass a test, in another order

-- A relation holds along each permutation if it is reflexive and transitive, and goes under a head and over an exchange of two.
module _ {X : Type 0} (R : List X → List X → Type 0) (same : (xs : List X) → R xs xs) (skip : (x : X) (xs ys : List X) → R xs ys → R (x ∷ xs) (x ∷ ys))
    (turn : (x y : X) (xs : List X) → R (x ∷ y ∷ xs) (y ∷ x ∷ xs)) (chain : (xs ys zs : List X) → R xs ys → R ys zs → R xs zs) where
  to_head : (l : List X) (j : ℕ) (x d : X) → j < length l → R (x ∷ l) (get_or l j d ∷ set l j x)
  to_head [] j x d h = absurd (omega arith)
  to_head (y ∷ l) zero x d h = turn x y l
  to_head (y ∷ l) (suc j) x d h = chain _ _ _ (turn x y l) (chain _ _ _ (skip y _ _ (to_head l j x d (omega arith))) (turn y (get_or l j d) (set l j x)))

  exchanged : (l : List X) (i j : ℕ) (d : X) → i < length l → j < length l → R l (set (set l i (get_or l j d)) j (get_or l i d))
  exchanged [] i j d p q = absurd (omega arith)
  exchanged (x ∷ l) zero zero d p q = same (x ∷ l)
  exchanged (x ∷ l) zero (suc j) d p q = to_head l j x d (omega arith)
  exchanged (x ∷ l) (suc i) zero d p q = to_head l i x d (omega arith)
  exchanged (x ∷ l) (suc i) (suc j) d p q = skip x _ _ (exchanged l i j d (omega arith) (omega arith))

  swapped : (l : List X) (i j : ℕ) → i < length l → j < length l → R l (swap l i j)
  swapped [] i j p q = same []
  swapped (x ∷ l) i j p q = exchanged (x ∷ l) i j x p q

  along_permutation : (xs ys : List X) → IsPermutation xs ys → R xs ys
  along_permutation xs = IsPermutation-keeps xs (R xs) (same xs) (λ l i j p q h. chain xs l _ h (swapped l i j p q))

module _ {X : Type 0} (p : X → Bool) where
  filter-permutation : (xs ys : List X) → IsPermutation xs ys → IsPermutation (filter p xs) (filter p ys)
  filter-permutation =
      along_permutation (λ xs ys. IsPermutation (filter p xs) (filter p ys)) (λ xs. IsPermutation-refl (filter p xs)) skip turn
      (λ xs ys zs. IsPermutation-trans (filter p xs) (filter p ys) (filter p zs))
    where
      skip : (x : X) (xs ys : List X) → IsPermutation (filter p xs) (filter p ys) → IsPermutation (filter p (x ∷ xs)) (filter p (x ∷ ys))
      skip x xs ys h = by (p x)
        where
          by : (b : Bool) → IsPermutation (cond b (x ∷ filter p xs) (filter p xs)) (cond b (x ∷ filter p ys) (filter p ys))
          by true = IsPermutation-cons x (filter p xs) (filter p ys) h
          by false = h

      turn : (x y : X) (xs : List X) → IsPermutation (filter p (x ∷ y ∷ xs)) (filter p (y ∷ x ∷ xs))
      turn x y xs = by (p x) (p y)
        where
          by : (b c : Bool) → let f = filter p xs in IsPermutation (cond b (x ∷ cond c (y ∷ f) f) (cond c (y ∷ f) f)) (cond c (y ∷ cond b (x ∷ f) f) (cond b (x ∷ f) f))
          by true true = IsPermutation-middle (x ∷ []) y (filter p xs)
          by true false = IsPermutation-refl (x ∷ filter p xs)
          by false true = IsPermutation-refl (y ∷ filter p xs)
          by false false = IsPermutation-refl (filter p xs)

  filter-all : (xs : List X) → AllByRecursion (λ x. p x ≡ true) xs → filter p xs ≡ xs
  filter-all [] all = refl
  filter-all (x ∷ xs) all = ap (λ b. cond b (x ∷ filter p xs) (filter p xs)) all.0 ∙ ap (λ (l : List X). x ∷ l) (filter-all xs all.1)

  filter-none : (xs : List X) → AllByRecursion (λ x. p x ≡ false) xs → filter p xs ≡ []
  filter-none [] all = refl
  filter-none (x ∷ xs) all = ap (λ b. cond b (x ∷ filter p xs) (filter p xs)) all.0 ∙ filter-none xs all.1

moved : {X : Type 0} (P : X → Type 0) (xs ys : List X) → IsPermutation xs ys → AllByRecursion P xs → AllByRecursion P ys
moved P xs ys same all = by_recursion P ys (All-permutation P xs ys same (from_recursion P xs all))

-- ---- other numbers in the same order

module _ (number : ℕ → ℕ) (rises : (m n : ℕ) → m ≤ n → number m ≤ number n) where
  abbrev renumbered : Recorded → Recorded
  renumbered r = record { name = r.name; call = r.call; first = number r.first; last = option_map number r.last; told = r.told }

  -- an operation of an order
  abbrev answered : AnsweredOperation → AnsweredOperation
  answered o = record { operation = renumbered o.operation; told = o.told }

  operations-answered : (order : List AnsweredOperation) → operations_of (map answered order) ≡ map renumbered (operations_of order)
  operations-answered [] = refl
  operations-answered (o ∷ order) = ap (λ (rs : List Recorded). renumbered o.operation ∷ rs) (operations-answered order)

  run-answered : (queue : TextQueue) (order : List AnsweredOperation) → IsRun queue order → IsRun queue (map answered order)
  run-answered queue [] runs = tt
  run-answered queue (o ∷ order) runs = (runs.0, run-answered (queue_after queue o.operation.call o.told) order runs.1)

  replies-answered : (order : List AnsweredOperation) → AllByRecursion TellsRecordedReply order → AllByRecursion TellsRecordedReply (map answered order)
  replies-answered [] all = tt
  replies-answered (o ∷ order) all = (all.0, replies-answered order all.1)

  before-renumbered : (r : Recorded) (rs : List Recorded) → AllByRecursion (MayComeBefore r) rs → AllByRecursion (MayComeBefore (renumbered r)) (map renumbered rs)
  before-renumbered r [] all = tt
  before-renumbered r (s ∷ rs) all = (by s.last all.0, before-renumbered r rs all.1)
    where
      by : (last : Option ℕ) → IfSome last (λ last. r.first ≤ last) → IfSome (option_map number last) (λ last. number r.first ≤ last)
      by None h = tt
      by (Some last) h = rises r.first last h

  time-renumbered : (rs : List Recorded) → KeepsTime rs → KeepsTime (map renumbered rs)
  time-renumbered [] timely = tt
  time-renumbered (r ∷ rs) timely = (before-renumbered r rs timely.0, time-renumbered rs timely.1)

  pending-renumbered : (rs : List Recorded) → AllByRecursion IsPending rs → AllByRecursion IsPending (map renumbered rs)
  pending-renumbered [] all = tt
  pending-renumbered (r ∷ rs) all = (record { not_ended = ap (option_map number) all.0.not_ended; not_told = all.0.not_told }, pending-renumbered rs all.1)

  linear-renumbered : (queue : TextQueue) (rs : List Recorded) → IsLinearizableFrom queue rs → IsLinearizableFrom queue (map renumbered rs)
  linear-renumbered queue rs is =
      let both : map renumbered (operations_of is.order ++ is.left_out) ≡ operations_of (map answered is.order) ++ map renumbered is.left_out =
      map-append renumbered (operations_of is.order) is.left_out ∙ ap (λ (front : List Recorded). front ++ map renumbered is.left_out) (sym (operations-answered is.order)) in
      record {
        order = map answered is.order;
        left_out = map renumbered is.left_out;
        each_once = subst (IsPermutation (map renumbered rs)) both (IsPermutation-map renumbered rs (operations_of is.order ++ is.left_out) is.each_once);
        only_pending_left_out = pending-renumbered is.left_out is.only_pending_left_out;
        replies = replies-answered is.order is.replies;
        timely = subst KeepsTime (sym (operations-answered is.order)) (time-renumbered (operations_of is.order) is.timely);
        runs = run-answered queue is.order is.runs;
      }

-- so many numbers later and so many earlier is the same operation
earlier : (count : ℕ) (r : Recorded) → renumbered (λ n. n - count) (λ m n h. omega (arith, h)) (later_by count r) ≡ r
earlier count r = λ i. record { name = r.name; call = r.call; first = first i; last = by r.last i; told = r.told }
  where
    first : r.first + count - count ≡ r.first
    first = omega arith

    by : (last : Option ℕ) → option_map (λ n. n - count) (option_map (λ last. last + count) last) ≡ last
    by None = refl
    by (Some last) = ap (λ (n : ℕ). Some n) {x = last + count - count} {y = last} (omega arith)

all-earlier : (count : ℕ) (rs : List Recorded) → map (renumbered (λ n. n - count) (λ m n h. omega (arith, h))) (map (later_by count) rs) ≡ rs
all-earlier count [] = refl
all-earlier count (r ∷ rs) = λ i. earlier count r i ∷ all-earlier count rs i

linear-later : (queue : TextQueue) (count : ℕ) (rs : List Recorded) → IsLinearizableFrom queue rs ↔ IsLinearizableFrom queue (map (later_by count) rs)
linear-later queue count rs = (
  linear-renumbered (λ n. n + count) (λ m n h. omega (arith, h)) queue rs,
  λ is. subst (IsLinearizableFrom queue) (all-earlier count rs) (linear-renumbered (λ n. n - count) (λ m n h. omega (arith, h)) queue (map (later_by count) rs) is),
)

-- ---- one push before all else

-- an operation began at a number or later, and didn't end before it began
record BeginsFrom (number : ℕ) (r : Recorded) : Type 0 where
  late : number ≤ r.first
  in_time : IsInTime r.first r.last

ends-after : (number first : ℕ) (last : Option ℕ) → number < first → IsInTime first last → IfSome last (λ last. number ≤ last)
ends-after number first None late in_time = tt
ends-after number first (Some last) late in_time = omega (arith, late, in_time)

module _ (texts : List (List ℕ)) (number : ℕ) (text : List ℕ) (rs : List Recorded) (after : AllByRecursion (BeginsFrom (number + 1)) rs) where
  abbrev push : Recorded
  push = push_at number text

  abbrev later_queue : TextQueue
  later_queue = holding (texts ++ text ∷ [])

  may-follow : (s : Recorded) → BeginsFrom (number + 1) s → MayComeBefore push s
  may-follow s from = ends-after number s.first s.last (omega (arith, from.late)) from.in_time

  -- a run from the queue with the text is one with its push before it
  pushed : IsLinearizableFrom later_queue rs → IsLinearizableFrom (holding texts) (push ∷ rs)
  pushed is =
      let all = moved (BeginsFrom (number + 1)) rs (operations_of is.order ++ is.left_out) is.each_once after in
      let front = (parts (BeginsFrom (number + 1)) (operations_of is.order) is.left_out all).0 in
      record {
        order = record { operation = push; told = Done } ∷ is.order;
        left_out = is.left_out;
        each_once = IsPermutation-cons push rs (operations_of is.order ++ is.left_out) is.each_once;
        only_pending_left_out = is.only_pending_left_out;
        replies = (refl, is.replies);
        timely = (weaker (BeginsFrom (number + 1)) (MayComeBefore push) may-follow (operations_of is.order) front, is.timely);
        runs = (refl, is.runs);
      }

  -- whether an operation began later
  abbrev is_later : Recorded → Bool
  is_later r = nat_lt number r.first

  abbrev is_not_later : Recorded → Bool
  is_not_later r = not (is_later r)

  -- each is the push, or began later
  abbrev IsEither : Recorded → Type 0
  IsEither r = (r ≡ push) ⊎ BeginsFrom (number + 1) r

  push-not_later : is_later push ≡ false
  push-not_later = le-ltb number number (omega arith)

  from-later : (r : Recorded) → BeginsFrom (number + 1) r → is_later r ≡ true
  from-later r from = lt-ltb number r.first (omega (arith, from.late))

  -- where none but later ones are, none is the push
  none-push : (xs : List Recorded) → length (filter is_not_later xs) ≡ 0 → AllByRecursion IsEither xs → AllByRecursion (BeginsFrom (number + 1)) xs
  none-push [] none all = tt
  none-push (x ∷ xs) none all = ⊎_elim is_push (is_after (λ e. none-push xs e all.1)) all.0
    where
      is_push : x ≡ push → BeginsFrom (number + 1) x × AllByRecursion (BeginsFrom (number + 1)) xs
      is_push e =
          let there : is_not_later x ≡ true = ap is_not_later e ∙ ap not push-not_later in
          let long : length (filter is_not_later (x ∷ xs)) ≡ suc (length (filter is_not_later xs)) = ap (λ b. length (cond b (x ∷ filter is_not_later xs) (filter is_not_later xs))) there in
          absurd (omega (arith, none, long))

      is_after : (length (filter is_not_later xs) ≡ 0 → AllByRecursion (BeginsFrom (number + 1)) xs) → BeginsFrom (number + 1) x
          → BeginsFrom (number + 1) x × AllByRecursion (BeginsFrom (number + 1)) xs
      is_after rest from =
          let there : is_not_later x ≡ false = ap not (from-later x from) in
          let long : length (filter is_not_later (x ∷ xs)) ≡ length (filter is_not_later xs) = ap (λ b. length (cond b (x ∷ filter is_not_later xs) (filter is_not_later xs))) there in
          (from, rest (sym long ∙ none))

  -- where the push is among some, one that may come before each of them didn't begin later
  not-before : (r : Recorded) (xs : List Recorded) → length (filter is_not_later xs) ≡ 1 → AllByRecursion IsEither xs → AllByRecursion (MayComeBefore r) xs → r.first ≤ number
  not-before r [] one all before = absurd (omega (arith, one))
  not-before r (x ∷ xs) one all before = ⊎_elim is_push (is_after (λ e. not-before r xs e all.1 before.1)) all.0
    where
      is_push : x ≡ push → r.first ≤ number
      is_push e = subst (MayComeBefore r) e before.0

      is_after : (length (filter is_not_later xs) ≡ 1 → r.first ≤ number) → BeginsFrom (number + 1) x → r.first ≤ number
      is_after rest from =
          let there : is_not_later x ≡ false = ap not (from-later x from) in
          let long : length (filter is_not_later (x ∷ xs)) ≡ length (filter is_not_later xs) = ap (λ b. length (cond b (x ∷ filter is_not_later xs) (filter is_not_later xs))) there in
          rest (sym long ∙ one)

  -- the push is the first of an order that keeps time
  push-first : (x : Recorded) (xs : List Recorded) → length (filter is_not_later (x ∷ xs)) ≡ 1 → AllByRecursion IsEither (x ∷ xs) → KeepsTime (x ∷ xs)
      → (x ≡ push) × AllByRecursion (BeginsFrom (number + 1)) xs
  push-first x xs one all timely = ⊎_elim is_push is_after all.0
    where
      is_push : x ≡ push → (x ≡ push) × AllByRecursion (BeginsFrom (number + 1)) xs
      is_push e =
          let there : is_not_later x ≡ true = ap is_not_later e ∙ ap not push-not_later in
          let long : length (filter is_not_later (x ∷ xs)) ≡ suc (length (filter is_not_later xs)) = ap (λ b. length (cond b (x ∷ filter is_not_later xs) (filter is_not_later xs))) there in
          (e, none-push xs (omega (arith, one, long)) all.1)

      is_after : BeginsFrom (number + 1) x → (x ≡ push) × AllByRecursion (BeginsFrom (number + 1)) xs
      is_after from =
          let there : is_not_later x ≡ false = ap not (from-later x from) in
          let long : length (filter is_not_later (x ∷ xs)) ≡ length (filter is_not_later xs) = ap (λ b. length (cond b (x ∷ filter is_not_later xs) (filter is_not_later xs))) there in
          let early = not-before x xs (sym long ∙ one) all.1 timely.0 in
          let late : number + 1 ≤ x.first = from.late in
          absurd (omega (arith, early, late))

  -- what is left out is pending, and so isn't the push
  left-later : (left : List Recorded) → AllByRecursion IsEither left → AllByRecursion IsPending left → AllByRecursion (BeginsFrom (number + 1)) left
  left-later [] all pending = tt
  left-later (x ∷ left) all pending = (⊎_elim (λ e. absurd (ended e)) (λ from. from) all.0, left-later left all.1 pending.1)
    where
      ended : x ≡ push → ⊥
      ended e = let none : Some number ≡ None = ap (λ (r : Recorded). r.last) (sym e) ∙ pending.0.not_ended in cc

  all-later : (xs : List Recorded) → AllByRecursion (BeginsFrom (number + 1)) xs → filter is_later xs ≡ xs
  all-later xs all = filter-all is_later xs (weaker (BeginsFrom (number + 1)) (λ x. is_later x ≡ true) from-later xs all)

  none-later : (xs : List Recorded) → AllByRecursion (BeginsFrom (number + 1)) xs → filter is_not_later xs ≡ []
  none-later xs all = filter-none is_not_later xs (weaker (BeginsFrom (number + 1)) (λ x. is_not_later x ≡ false) (λ x from. ap not (from-later x from)) xs all)

  push-kept : (xs : List Recorded) → AllByRecursion (BeginsFrom (number + 1)) xs → filter is_later (push ∷ xs) ≡ xs
  push-kept xs all = ap (λ b. cond b (push ∷ filter is_later xs) (filter is_later xs)) push-not_later ∙ all-later xs all

  -- a run with the push before it goes on from the queue with the text
  pushed-back : (order : List AnsweredOperation) (left : List Recorded) → IsPermutation (push ∷ rs) (operations_of order ++ left) → AllByRecursion IsPending left
      → AllByRecursion TellsRecordedReply order → KeepsTime (operations_of order) → IsRun (holding texts) order → IsLinearizableFrom later_queue rs
  pushed-back order left same pending replies timely runs = by order same replies timely runs
    where
      either : AllByRecursion IsEither (push ∷ rs)
      either = (inl refl, weaker (BeginsFrom (number + 1)) IsEither (λ x from. inr from) rs after)

      single : filter is_not_later (push ∷ rs) ≡ push ∷ []
      single =
          ap (λ b. cond b (push ∷ filter is_not_later rs) (filter is_not_later rs)) (ap not push-not_later)
          ∙ ap (λ (l : List Recorded). push ∷ l) (none-later rs after)

      by : (order : List AnsweredOperation) → IsPermutation (push ∷ rs) (operations_of order ++ left) → AllByRecursion TellsRecordedReply order → KeepsTime (operations_of order)
          → IsRun (holding texts) order → IsLinearizableFrom later_queue rs
      by [] same replies timely runs =
          let late = left-later left (moved IsEither (push ∷ rs) left same either) pending in
          let count : length (filter is_not_later left) ≡ length (filter is_not_later (push ∷ rs)) =
          length_permutation (filter is_not_later (push ∷ rs)) (filter is_not_later left) (filter-permutation is_not_later (push ∷ rs) left same) in
          let nothing : length (filter is_not_later left) ≡ 0 = ap length (none-later left late) in
          let one : length (filter is_not_later (push ∷ rs)) ≡ 1 = ap length single in
          absurd (omega (arith, count, nothing, one))
      by (o ∷ order) same replies timely runs =
          let ops : List Recorded = operations_of order in
          let all = parts IsEither (o.operation ∷ ops) left (moved IsEither (push ∷ rs) (o.operation ∷ ops ++ left) same either) in
          let late = left-later left all.1 pending in
          let count : length (filter is_not_later (o.operation ∷ ops ++ left)) ≡ length (filter is_not_later (push ∷ rs)) =
          length_permutation (filter is_not_later (push ∷ rs)) (filter is_not_later (o.operation ∷ ops ++ left)) (filter-permutation is_not_later (push ∷ rs) (o.operation ∷ ops ++ left) same) in
          let split : length (filter is_not_later ((o.operation ∷ ops) ++ left)) ≡ length (filter is_not_later (o.operation ∷ ops)) =
          ap length (filter-append is_not_later (o.operation ∷ ops) left ∙ ap (λ (l : List Recorded). filter is_not_later (o.operation ∷ ops) ++ l) (none-later left late) ∙ append-nil _) in
          let one : length (filter is_not_later (push ∷ rs)) ≡ 1 = ap length single in
          let first = push-first o.operation ops (sym split ∙ count ∙ one) all.0 timely in
          let is : o.operation ≡ push = first.0 in
          let told : o.told ≡ Done = subst (λ (r : Recorded). IfSome r.told (λ told. o.told ≡ told)) is replies.0 in
          let after_it : queue_after (holding texts) o.operation.call o.told ≡ later_queue =
          ap (λ (r : Recorded). queue_after (holding texts) r.call o.told) is ∙ ap (queue_after (holding texts) (Push text)) told in
          let kept : IsPermutation (filter is_later (push ∷ rs)) (filter is_later (push ∷ (ops ++ left))) =
          filter-permutation is_later (push ∷ rs) (push ∷ (ops ++ left)) (subst (λ (r : Recorded). IsPermutation (push ∷ rs) (r ∷ (ops ++ left))) is same) in
          record {
            order = order;
            left_out = left;
            each_once =
                subst (λ (l : List Recorded). IsPermutation l (ops ++ left)) (push-kept rs after)
                (subst (IsPermutation (filter is_later (push ∷ rs))) (push-kept (ops ++ left) (together (BeginsFrom (number + 1)) ops left first.1 late)) kept);
            only_pending_left_out = pending;
            replies = replies.1;
            timely = timely.1;
            runs = subst (λ queue. IsRun queue order) after_it runs.1;
          }

  linear-pushed : IsLinearizableFrom later_queue rs ↔ IsLinearizableFrom (holding texts) (push ∷ rs)
  linear-pushed = (pushed, λ is. pushed-back is.order is.left_out is.each_once is.only_pending_left_out is.replies is.timely is.runs)

-- ---- all of them

-- pushes begin at their numbers
pushes-begin : (number least : ℕ) (texts : List (List ℕ)) → least ≤ number → AllByRecursion (BeginsFrom least) (pushes_from number texts)
pushes-begin number least [] low = tt
pushes-begin number least (text ∷ texts) low = (record { late = low; in_time = omega arith }, pushes-begin (number + 1) least texts (omega (arith, low)))

begin-sooner : (least number : ℕ) (rs : List Recorded) → least ≤ number → AllByRecursion (BeginsFrom number) rs → AllByRecursion (BeginsFrom least) rs
begin-sooner least number rs low all =
    weaker (BeginsFrom number) (BeginsFrom least) (λ r from. let late : number ≤ r.first = from.late in record { late = omega (arith, low, late); in_time = from.in_time }) rs all

linear-all_pushed : (texts held : List (List ℕ)) (number : ℕ) (rs : List Recorded) → AllByRecursion (BeginsFrom (number + length held)) rs
    → IsLinearizableFrom (holding (texts ++ held)) rs ↔ IsLinearizableFrom (holding texts) (pushes_from number held ++ rs)
linear-all_pushed texts [] number rs after =
    let same : texts ++ [] ≡ texts = append-nil texts in
    (subst (λ (l : List (List ℕ)). IsLinearizableFrom (holding l) rs) same, subst (λ (l : List (List ℕ)). IsLinearizableFrom (holding l) rs) (sym same))
linear-all_pushed texts (text ∷ held) number rs after =
    let later : List Recorded = pushes_from (number + 1) held ++ rs in
    let behind : AllByRecursion (BeginsFrom (number + 1)) later =
    together (BeginsFrom (number + 1)) (pushes_from (number + 1) held) rs (pushes-begin (number + 1) (number + 1) held (omega arith))
    (begin-sooner (number + 1) (number + length (text ∷ held)) rs (omega arith) after) in
    let one = linear-pushed texts number text later behind in
    let more =
    linear-all_pushed (texts ++ text ∷ []) held (number + 1) rs
    (begin-sooner (number + 1 + length held) (number + length (text ∷ held)) rs (omega arith) after) in
    let same : (texts ++ text ∷ []) ++ held ≡ texts ++ text ∷ held = append_assoc texts (text ∷ []) held in (
      λ is. one.0 (more.0 (subst (λ (l : List (List ℕ)). IsLinearizableFrom (holding l) rs) (sym same) is)),
      λ is. subst (λ (l : List (List ℕ)). IsLinearizableFrom (holding l) rs) same (more.1 (one.1 is)),
    )

-- the operations of a recording in range, so many numbers later, begin behind as many
later-begin : (count : ℕ) (rs : List Recorded) → AllByRecursion IsReadable rs → AllByRecursion (BeginsFrom (1 + count)) (map (later_by count) rs)
later-begin count [] all = tt
later-begin count (r ∷ rs) all = (record { late = low; in_time = by r.last all.0.1.in_time }, later-begin count rs all.1)
  where
    from_one : 1 ≤ r.first
    from_one = all.0.1.first.0

    low : 1 + count ≤ r.first + count
    low = omega (arith, from_one)

    by : (last : Option ℕ) → IsInTime r.first last → IsInTime (r.first + count) (option_map (λ last. last + count) last)
    by None h = tt
    by (Some last) h = omega (arith, h)

-- from the empty queue it is linearizable as it is
from-empty : (rs : List Recorded) → IsLinearizableFrom (holding []) rs ↔ IsLinearizableRecording rs
from-empty rs = (
  λ is. record {
    order = is.order;
    left_out = is.left_out;
    each_once = is.each_once;
    only_pending_left_out = is.only_pending_left_out;
    replies = is.replies;
    timely = is.timely;
    runs = is.runs;
  },
  λ is. record {
    order = is.order;
    left_out = is.left_out;
    each_once = is.each_once;
    only_pending_left_out = is.only_pending_left_out;
    replies = is.replies;
    timely = is.timely;
    runs = is.runs;
  },
)

-- a recording is linearizable from a queue that holds texts exactly where its longer one is
pub linear-as_longer : (held : List (List ℕ)) (rs : List Recorded) → IsRecordingInRange rs → IsLinearizableFrom (holding held) rs ↔ IsLinearizableRecording (longer held rs)
linear-as_longer held rs range =
    let count = length held in
    let later : List Recorded = map (later_by count) rs in
    let shifted = linear-later (holding held) count rs in
    let all = linear-all_pushed [] held 1 later (later-begin count rs (by_recursion IsReadable rs range.each)) in
    let alone = from-empty (longer held rs) in
    (λ is. alone.0 (all.0 (shifted.0 is)), λ is. shifted.1 (all.1 (alone.1 is)))
