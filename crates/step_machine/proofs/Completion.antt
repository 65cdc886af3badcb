-- What holds of the book of a world holds of its operations, with the replies that they were told and those earned.
use Rattle.std.proofs.Common.{◌≡◌, ℕ, ◌+◌, Bool, true, false, nat_le, if◌then◌else◌, Option, Some, None, is_some, List, [], ◌∷◌, map, refl, sym, ap, ◌∙◌, subst, arith}
use Rattle.std.specs.List.{flat_map}
use Rattle.std.proofs.lemmas.List.Folds.{flat_map-map}
use Rattle.std.proofs.lemmas.List.Recursion.{is_count_by}
use Rattle.step_machine.specs.Below.{Reply, Done, Stamped, Queue, empty, inserted, by_point, answer, AgreesWithQueue, IsSequentialRun, queue_after, IsLegal}
use Rattle.step_machine.specs.Machine.{World, actor_of}
use Rattle.step_machine.specs.Places.{one_if}
use Rattle.step_machine.specs.Completion.{decided_reply, due_of, completed_reply, completed, completion, is_value, values_taken}
use Rattle.step_machine.proofs.Replay.{place}
use Rattle.step_machine.specs.Entries.{entry_of, entries}
use Rattle.step_machine.proofs.CompletionSteps.{entry_in, bare_completion, taken}
use Rattle.step_machine.proofs.Gains.{completion_entries}

-- the order doesn't hang on replies
module _ (w : World) where
  inserted_entry : (o : Stamped) (ps : List Stamped) → inserted (entry_in w o) (map (entry_in w) ps) ≡ map (entry_in w) (inserted o ps)
  inserted_entry o [] = refl
  inserted_entry o (p ∷ ps) = go (nat_le (place o) (place p)) (inserted_entry o ps)
    where
      go : (b : Bool) → inserted (entry_in w o) (map (entry_in w) ps) ≡ map (entry_in w) (inserted o ps)
          → (if b then entry_in w o ∷ entry_in w p ∷ map (entry_in w) ps else entry_in w p ∷ inserted (entry_in w o) (map (entry_in w) ps)) ≡ map
          (entry_in w) (if b then o ∷ p ∷ ps else p ∷ inserted o ps)
      go true ih = refl
      go false ih = ap (λ x. entry_in w p ∷ x) ih

  rising_entry : (ops : List Stamped) → by_point (map (entry_in w) ops) ≡ map (entry_in w) (by_point ops)
  rising_entry [] = refl
  rising_entry (o ∷ os) = go (is_some o.at) (rising_entry os)
    where
      go : (b : Bool) → by_point (map (entry_in w) os) ≡ map (entry_in w) (by_point os)
          → (if b then inserted (entry_in w o) (by_point (map (entry_in w) os)) else by_point (map (entry_in w) os)) ≡ map (entry_in w) (if b then inserted o (by_point os) else by_point os)
      go true ih = ap (inserted (entry_in w o)) ih ∙ inserted_entry o (by_point os)
      go false ih = ih

  inserted_promised : (o : Stamped) (ps : List Stamped) → inserted (completed w o) (map (completed w) ps) ≡ map (completed w) (inserted o ps)
  inserted_promised o [] = refl
  inserted_promised o (p ∷ ps) = go (nat_le (place o) (place p)) (inserted_promised o ps)
    where
      go : (b : Bool) → inserted (completed w o) (map (completed w) ps) ≡ map (completed w) (inserted o ps)
          → (if b then completed w o ∷ completed w p ∷ map (completed w) ps else completed w p ∷ inserted (completed w o) (map (completed w) ps)) ≡
          map (completed w) (if b then o ∷ p ∷ ps else p ∷ inserted o ps)
      go true ih = refl
      go false ih = ap (λ x. completed w p ∷ x) ih

  rising_promised : (ops : List Stamped) → by_point (map (completed w) ops) ≡ map (completed w) (by_point ops)
  rising_promised [] = refl
  rising_promised (o ∷ os) = go (is_some o.at) (rising_promised os)
    where
      go : (b : Bool) → by_point (map (completed w) os) ≡ map (completed w) (by_point os)
          → (if b then inserted (completed w o) (by_point (map (completed w) os)) else by_point (map (completed w) os)) ≡ map (completed w) (if b then inserted o (by_point os) else by_point os)
      go true ih = ap (inserted (completed w o)) ih ∙ inserted_promised o (by_point os)
      go false ih = ih

  -- what the queue gives doesn't hang on first and last numbers
  answer_same : (queue : Queue) (o : Stamped) (reply : Option Reply) → answer queue (entry_in w o) reply ≡ answer queue (completed w o) reply
  answer_same queue o (Some Done) = refl
  answer_same queue o _ = refl

  gets_same : (queue : Queue) (o : Stamped) (reply : Option Reply) → AgreesWithQueue queue (entry_in w o) reply → AgreesWithQueue queue (completed w o) reply
  gets_same queue o (Some Done) h = h
  gets_same queue o _ h = h

  replays_same : (queue : Queue) (ops : List Stamped) → IsSequentialRun queue (map (entry_in w) ops) → IsSequentialRun queue (map (completed w) ops)
  replays_same queue [] h = tt
  replays_same queue (o ∷ os) h = (
    gets_same queue o (completed w o).reply h.0,
    replays_same (answer queue (completed w o) (completed w o).reply).after os
        (subst (λ x. IsSequentialRun x (map (entry_in w) os)) (ap (λ x. x.after) (answer_same queue o (completed w o).reply)) h.1),
  )

  replayed_same : (queue : Queue) (ops : List Stamped) → queue_after queue (map (entry_in w) ops) ≡ queue_after queue (map (completed w) ops)
  replayed_same queue [] = refl
  replayed_same queue (o ∷ os) =
      ap (λ x. queue_after x.after (map (entry_in w) os)) (answer_same queue o (completed w o).reply)
      ∙ replayed_same (answer queue (completed w o) (completed w o).reply).after os

  -- a reply that was earned and not told gives what no reply gives
  answer_earned : (queue : Queue) (o : Stamped) (due : Option Reply) → answer queue (entry_in w o) (decided_reply due) ≡ answer queue o None
  answer_earned queue o (Some Done) = refl
  answer_earned queue o _ = refl

  answer_told : (queue : Queue) (o : Stamped) (reply : Option Reply) (at : Option ℕ) (due : Option Reply) → answer queue (entry_in w o) (completed_reply reply at due) ≡ answer queue o reply
  answer_told queue o None None due = refl
  answer_told queue o None (Some n) due = answer_earned queue o due
  answer_told queue o (Some Done) at due = refl
  answer_told queue o _ at due = refl

  gets_told : (queue : Queue) (o : Stamped) (reply : Option Reply) (at : Option ℕ) (due : Option Reply)
      → AgreesWithQueue queue (entry_in w o) (completed_reply reply at due) → AgreesWithQueue queue o reply
  gets_told queue o None at due h = tt
  gets_told queue o (Some Done) at due h = h
  gets_told queue o _ at due h = h

  replays_told : (queue : Queue) (ops : List Stamped) → IsSequentialRun queue (map (entry_in w) ops) → IsSequentialRun queue ops
  replays_told queue [] h = tt
  replays_told queue (o ∷ os) h = (
    gets_told queue o o.reply o.at (due_of (actor_of w o.actor)) h.0,
    replays_told (answer queue o o.reply).after os (subst (λ x. IsSequentialRun x (map (entry_in w) os)) (ap (λ x. x.after) (answer_told queue o o.reply o.at (due_of (actor_of w o.actor)))) h.1),
  )

  -- a book that replays is a legal history
  pub legal_book : IsSequentialRun empty (by_point (bare_completion w)) → IsLegal w.operations
  legal_book h = replays_told empty (by_point w.operations) (subst (IsSequentialRun empty) (rising_entry w.operations) h)

  -- and its operations replay with the replies earned
  pub replays_promises : IsSequentialRun empty (by_point (bare_completion w)) → IsSequentialRun empty (by_point (completion w))
  replays_promises h =
      subst (IsSequentialRun empty) (sym (rising_promised w.operations)) (replays_same empty (by_point w.operations) (subst (IsSequentialRun empty) (rising_entry w.operations) h))

  pub replayed_promises : queue_after empty (by_point (completion w)) ≡ queue_after empty (by_point (bare_completion w))
  replayed_promises =
      ap (queue_after empty) (rising_promised w.operations) ∙ sym (replayed_same empty (by_point w.operations))
      ∙ ap (queue_after empty) (sym (rising_entry w.operations))

  taken_same : (ops : List Stamped) → taken (map (entry_in w) ops) ≡ taken (map (completed w) ops)
  taken_same [] = refl
  taken_same (o ∷ os) = ap (λ n. one_if (is_value (completed w o).reply) + n) (taken_same os)

  taken_counts : (ops : List Stamped) → taken ops ≡ values_taken ops
  taken_counts = is_count_by taken (λ (o : Stamped). is_value o.reply) refl (λ o os. step (is_value o.reply) (taken os))
    where
      step : (b : Bool) (n : ℕ) → one_if b + n ≡ (if b then 1 + n else n)
      step true n = refl
      step false n = omega arith

  -- how many values were taken
  pub taken_promises : taken (bare_completion w) ≡ values_taken (completion w)
  taken_promises = taken_same w.operations ∙ taken_counts (completion w)

  -- the entries are those of the book
  pub entries_booked : entries w ≡ completion_entries w
  entries_booked =
      ap (flat_map entry_of) (rising_promised w.operations) ∙ flat_map-map entry_of (completed w) (by_point w.operations)
      ∙ sym (flat_map-map entry_of (entry_in w) (by_point w.operations)) ∙ sym (ap (flat_map entry_of) (rising_entry w.operations))
