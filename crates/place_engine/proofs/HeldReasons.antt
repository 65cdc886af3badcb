-- A reason of a longer history is of one of the recording's own operations, and none of the pushes of what is held.
use Rattle.std.proofs.Common.{◌≡◌, ◌⊎◌, ⊎_elim, inl, inr, ℕ, zero, suc, ◌+◌, ◌-◌, ◌<◌, ◌≤◌, Bool, true, false, nat_le, List, [], ◌∷◌, ◌++◌, map}
use Rattle.std.proofs.Common.{length, Option, None, Some, option_map, slice_get, refl, sym, ap, ◌∙◌, subst, arith}
use Rattle.std.specs.List.{AllByRecursion}
use Rattle.std.proofs.lemmas.Bool.{leb-true, leb-false}
use Rattle.std.proofs.lemmas.List.{map-append}
use Rattle.history.specs.declared.operations.Op.TheVariants.{Deq}
use Rattle.history.specs.declared.operations.Reply.TheVariants.{Done, Value, Empty}
use Rattle.history.specs.declared.operations.Stamped.{Stamped}
use Rattle.placing.specs.declared.answers.Reason.{Reason}
use Rattle.placing.specs.declared.answers.Reason.TheVariants.{Shape, Span as Spans, Reply, Sooner, Order, Full, Late, Twice, Unshut, Undrained, Stuck}
use Rattle.placing.specs.Kinds.{shows_shut, is_done_shut, is_told_shut}
use Rattle.placing.specs.Reasons.{StandsAt, IsToldOther, IsMisshapen, EndsTooSoon, IsToldAmiss, ShowsShut, IsTooLate, IsReason}
use Rattle.recording_text.specs.Recordings.{Recorded}
use Rattle.recording_text.specs.RecordingLines.{IsReadable, IsRecordingInRange, IsInTime}
use Rattle.recording_text.specs.Numbers.{known_in, stamped_by, history_of}
use Rattle.recording_text.specs.HeldTexts.{push_at, pushes_from, later_by, longer}
use Rattle.recording_text.proofs.Known.{by_recursion}
use Rattle.place_engine.specs.FoundTexts.{place_of}

-- which of two lists in a row has an element
which-part : {X : Type 0} (xs ys : List X) (i : ℕ) (x : X) → slice_get (xs ++ ys) i ≡ Some x → (slice_get xs i ≡ Some x) ⊎ ((length xs ≤ i) × ((j : ℕ) × (slice_get ys j ≡ Some x)))
which-part [] ys i x there = inr (omega arith, (i, there))
which-part (y ∷ xs) ys zero x there = inl there
which-part (y ∷ xs) ys (suc i) x there =
    ⊎_elim (λ front. inl front) (λ back. let low : length xs ≤ i = back.0 in inr (omega (arith, low), back.1)) (which-part xs ys i x there)

-- what the pushes and the operations of a longer history have
module _ (known : List (List ℕ)) where
  push-number : (number : ℕ) (held : List (List ℕ)) (i : ℕ) (o : Stamped) → slice_get (map (stamped_by known) (pushes_from number held)) i ≡ Some o
      → (text : List ℕ) × (o ≡ stamped_by known (push_at (number + i) text))
  push-number number [] i o there = absurd cc
  push-number number (text ∷ held) zero o there =
      let same : stamped_by known (push_at number text) ≡ o = cc in
      (text, sym same ∙ ap (λ (n : ℕ). stamped_by known (push_at n text)) {x = number} {y = number + 0} (omega arith))
  push-number number (text ∷ held) (suc i) o there =
      let found = push-number (number + 1) held i o there in
      (found.0, found.1 ∙ ap (λ (n : ℕ). stamped_by known (push_at n found.0)) {x = number + 1 + i} {y = number + suc i} (omega arith))

  operation-late : (count : ℕ) (rs : List Recorded) (i : ℕ) (o : Stamped) (time : ℕ) → AllByRecursion IsReadable rs → slice_get (map (stamped_by known) (map (later_by count) rs)) i ≡ Some o
      → o.last ≡ Some time → count < time
  operation-late count [] i o time all there ended = absurd cc
  operation-late count (r ∷ rs) zero o time all there ended =
      let same : stamped_by known (later_by count r) ≡ o = cc in
      by r.last all.0.1.in_time (ap (λ (o : Stamped). o.last) same ∙ ended)
    where
      one : 1 ≤ r.first
      one = all.0.1.first.0

      by : (last : Option ℕ) → IsInTime r.first last → option_map (λ last. last + count) last ≡ Some time → count < time
      by None in_time e = absurd cc
      by (Some last) in_time e = let is : last + count ≡ time = cc in omega (arith, one, in_time, is)
  operation-late count (r ∷ rs) (suc i) o time all there ended = operation-late count rs i o time all.1 there ended

module _ (held : List (List ℕ)) (rs : List Recorded) (range : IsRecordingInRange rs) where
  abbrev count : ℕ
  count = length held

  abbrev known : List (List ℕ)
  known = known_in (longer held rs)

  abbrev front : List Stamped
  front = map (stamped_by known) (pushes_from 1 held)

  abbrev back : List Stamped
  back = map (stamped_by known) (map (later_by count) rs)

  abbrev ops : List Stamped
  ops = history_of (longer held rs)

  -- an operation at one of the first places is a push
  record IsPushAt (place : ℕ) (o : Stamped) : Type 0 where
    text : List ℕ
    is : o ≡ stamped_by known (push_at place text)

  length-front : (number : ℕ) (texts : List (List ℕ)) → length (map (stamped_by known) (pushes_from number texts)) ≡ length texts
  length-front number [] = refl
  length-front number (text ∷ texts) = ap suc (length-front (number + 1) texts)

  parted : (place : ℕ) (o : Stamped) → StandsAt ops place o → (slice_get front (place - 1) ≡ Some o) ⊎ ((length front ≤ place - 1) × ((j : ℕ) × (slice_get back j ≡ Some o)))
  parted place o stands =
      which-part front back (place - 1) o
      (ap (λ (l : List Stamped). slice_get l (place - 1)) (sym (map-append (stamped_by known) (pushes_from 1 held) (map (later_by count) rs))) ∙ stands.there)

  push-there : (place : ℕ) (o : Stamped) → StandsAt ops place o → place ≤ count → IsPushAt place o
  push-there place o stands low = ⊎_elim by (λ behind. let le : length front ≤ place - 1 = behind.0 in absurd (omega (arith, le, length-front 1 held, low, stands.from_one))) (parted place o stands)
    where
      by : slice_get front (place - 1) ≡ Some o → IsPushAt place o
      by there =
          let found = push-number known 1 held (place - 1) o there in
          record { text = found.0; is = found.1 ∙ ap (λ (n : ℕ). stamped_by known (push_at n found.0)) {x = 1 + (place - 1)} {y = place} (omega (arith, stands.from_one)) }

  -- an operation of which something is so that is so of no push is the recording's
  given : (P : Stamped → Type 0) → ((place : ℕ) (text : List ℕ) → place ≤ count → P (stamped_by known (push_at place text)) → ⊥) → (place : ℕ) (o : Stamped) → StandsAt ops place o → P o
      → count < place
  given P none place o stands is = by (nat_le place count) refl
    where
      by : (t : Bool) → nat_le place count ≡ t → count < place
      by true e =
          let low : place ≤ count = leb-true place count e in
          let push = push-there place o stands low in
          absurd (none place push.text low (subst P push.is is))
      by false e = leb-false place count e

  -- what shows that the queue is shut ended behind the pushes
  shown-behind : (other : ℕ) (o : Stamped) (time : ℕ) → StandsAt ops other o → ShowsShut o time → count < time
  shown-behind other o time stands shows = ⊎_elim by (λ behind. operation-late known count rs behind.1.0 o time (by_recursion IsReadable rs range.each) behind.1.1 shows.ended) (parted other o stands)
    where
      by : slice_get front (other - 1) ≡ Some o → count < time
      by there =
          let found = push-number known 1 held (other - 1) o there in
          let no : false ≡ true = subst (λ (o : Stamped). shows_shut o.reply o.op ≡ true) found.1 shows.shows in
          absurd cc

  pub reason-given : (reason : Reason) → IsReason ops reason → count < place_of reason
  reason-given (Shape place) is = given IsMisshapen (λ p t low bad. ⊎_elim (λ h. let e : true ≡ false = h.1 in cc) (λ h. let e : true ≡ false = h.0 in cc) bad) place is.0 is.1 is.2
  reason-given (Spans place) is = given EndsTooSoon (λ p t low bad. let less : p < p = bad in omega (arith, less)) place is.0 is.1 is.2
  reason-given (Reply place) is = given IsToldAmiss (λ p t low bad. let e : true ≡ false = bad in cc) place is.0 is.1 is.2
  reason-given (Sooner place others) is = given (λ o. o.reply ≡ Some (Value is.value)) (λ p t low e. cc) place is.operation is.stands is.took.told
  reason-given (Order place push held) is = given (λ o. o.reply ≡ Some (Value is.value)) (λ p t low e. cc) place is.operation is.stands is.took.told
  reason-given (Full place spans) is = given (λ o. o.reply ≡ Some Empty) (λ p t low e. cc) place is.operation is.stands is.told
  reason-given (Late place other) is =
      let behind = shown-behind other is.evidence is.time is.other_stands is.shut in
      given (IsTooLate ops is.time)
      (λ p t low late. ⊎_elim (λ h. let less : is.time < p = h.1 in omega (arith, less, behind, low)) (λ h. let e : Some Done ≡ Some (Value h.0) = h.1 in cc) late) place is.operation is.stands is.late
  reason-given (Twice place other) is = given (λ o. is_done_shut o.reply o.op ≡ true) (λ p t low e. cc) place is.operation is.stands is.shut
  reason-given (Unshut place) is = given (λ o. is_told_shut o.reply ≡ true) (λ p t low e. cc) place is.operation is.stands is.told
  reason-given (Undrained place held) is = given (λ o. o.op ≡ Deq) (λ p t low e. cc) place is.operation is.stands is.pops
  reason-given (Stuck place others) is =
      given (IsToldOther is.time) (λ p t low other. let e : true ≡ false = other.other (λ v. true) in cc) place is.stands.0 is.stands.1 is.stands.2
