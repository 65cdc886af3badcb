-- What an answer says of a recording of a queue that holds texts at the start is so.
use Rattle.std.proofs.Common.{◌↔◌, ℕ, ◌+◌, ◌<◌, ◌≤◌, List, [], ◌∷◌, map, length, Option, None, Some, option_map, IsSome, IfSome, refl, arith}
use Rattle.std.specs.List.{AllByRecursion}
use Rattle.placing.specs.declared.answers.Placed.{Placed}
use Rattle.placing.specs.declared.answers.Placed.TheVariants.{History, Impossible, Open}
use Rattle.placing.specs.Answers.{IsAnswer}
use Rattle.placing.proofs.Excluding.{excludes}
use Rattle.placing.proofs.Spreads.{placed_is}
use Rattle.recording_text.specs.Recordings.{Recorded}
use Rattle.recording_text.specs.RecordingLines.{IsRecordingInRange}
use Rattle.recording_text.specs.Numbers.{history_of}
use Rattle.recording_text.specs.HeldTexts.{pushes_from, later_by, longer}
use Rattle.recording_text.proofs.EachOf.{parts, together}
use Rattle.recording_text.proofs.Known.{by_recursion, from_recursion}
use Rattle.recording_text.proofs.Longer.{linear-as_longer}
use Rattle.place_engine.specs.OfTexts.{IsRecordedCall, IsOfTextQueue}
use Rattle.place_engine.specs.HeldTexts.{IsOfHoldingQueue, SaysOfHolding}
use Rattle.place_engine.proofs.OfTexts.{of_queue-as_history}
use Rattle.place_engine.proofs.Behind.{points-behind}

-- pushes are calls
calls-pushes : (number : ℕ) (held : List (List ℕ)) → AllByRecursion IsRecordedCall (pushes_from number held)
calls-pushes number [] = tt
calls-pushes number (text ∷ held) = (record { ended = (λ h. refl, λ h. refl); spans = omega arith }, calls-pushes (number + 1) held)

module _ (count : ℕ) where
  some-later : (last : Option ℕ) → IsSome last → IsSome (option_map (λ last. last + count) last)
  some-later None h = h
  some-later (Some last) h = refl

  some-back : (last : Option ℕ) → IsSome (option_map (λ last. last + count) last) → IsSome last
  some-back None h = h
  some-back (Some last) h = refl

  spans-later : (first : ℕ) (last : Option ℕ) → IfSome last (λ last. first ≤ last) → IfSome (option_map (λ last. last + count) last) (λ last. first + count ≤ last)
  spans-later first None h = tt
  spans-later first (Some last) h = omega (arith, h)

  spans-back : (first : ℕ) (last : Option ℕ) → IfSome (option_map (λ last. last + count) last) (λ last. first + count ≤ last) → IfSome last (λ last. first ≤ last)
  spans-back first None h = tt
  spans-back first (Some last) h = omega (arith, h)

  -- operations so many numbers later are calls as they are
  calls-later : (rs : List Recorded) → AllByRecursion IsRecordedCall rs → AllByRecursion IsRecordedCall (map (later_by count) rs)
  calls-later [] all = tt
  calls-later (r ∷ rs) all = (
    record { ended = (λ h. all.0.ended.0 (some-back r.last h), λ h. some-later r.last (all.0.ended.1 h)); spans = spans-later r.first r.last all.0.spans },
    calls-later rs all.1,
  )

  calls-back : (rs : List Recorded) → AllByRecursion IsRecordedCall (map (later_by count) rs) → AllByRecursion IsRecordedCall rs
  calls-back [] all = tt
  calls-back (r ∷ rs) all = (
    record { ended = (λ h. all.0.ended.0 (some-later r.last h), λ h. some-back r.last (all.0.ended.1 h)); spans = spans-back r.first r.last all.0.spans },
    calls-back rs all.1,
  )

-- a recording is one of a queue that holds texts exactly where its longer one is one of a queue
pub holding-as_longer : (held : List (List ℕ)) (rs : List Recorded) → IsRecordingInRange rs → IsOfHoldingQueue held rs ↔ IsOfTextQueue (longer held rs)
holding-as_longer held rs range =
    let count = length held in
    let front : List Recorded = pushes_from 1 held in
    let back : List Recorded = map (later_by count) rs in
    let linear = linear-as_longer held rs range in (
      λ is. record {
        calls =
            from_recursion IsRecordedCall (longer held rs)
            (together IsRecordedCall front back (calls-pushes 1 held) (calls-later count rs (by_recursion IsRecordedCall rs is.calls)));
        linearizable = linear.0 is.linearizable;
      },
      λ is. record {
        calls = from_recursion IsRecordedCall rs (calls-back count rs (parts IsRecordedCall front back (by_recursion IsRecordedCall (longer held rs) is.calls)).1);
        linearizable = linear.1 is.linearizable;
      },
    )

pub says-holding : (held : List (List ℕ)) (rs : List Recorded) → 0 < length held → IsRecordingInRange rs → (answer : Placed) → IsAnswer (history_of (longer held rs)) answer
    → SaysOfHolding held rs answer
says-holding held rs some range (History new) is = (
  (holding-as_longer held rs range).1 ((of_queue-as_history (longer held rs)).1 (placed_is (history_of (longer held rs)) new.items is.0 is.1)),
  points-behind held rs some range new.items is.0 is.1,
)
says-holding held rs some range (Impossible reason) is =
    λ of. excludes (history_of (longer held rs)) reason is ((of_queue-as_history (longer held rs)).0 ((holding-as_longer held rs range).0 of))
says-holding held rs some range (Open cause) is = tt
