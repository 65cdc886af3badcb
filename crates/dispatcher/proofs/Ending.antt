-- What a refusal of the queue makes of a push or a pop of the dispatcher.
use Rattle.std.proofs.Common.{◌≡◌, ◌∙◌, ◌≢◌, refl, ℕ, List}
use Rattle.history.specs.declared.refusals.Refusal.{Refusal}
use Rattle.history.specs.declared.refusals.Refusal.TheVariants.{Busy, Closed, WornOut}
use Rattle.history.specs.Seats.{Known}
use Rattle.history.specs.Answers.{EndsPop}
use Rattle.carriers.specs.Answers.{EndsByTryOf, PushRefusedOf, SeesMoreOf}
use Rattle.carriers.specs.DeedsOfNumbers.{known_by_deeds}
use Rattle.carriers.specs.ToEntries.{push_refused}
use Rattle.carriers.proofs.Learning.{push_refused_then, sees_then}
use Rattle.shared_queue.specs.Answers.{EndsSend, RecvRefusedOf, EndsAfterWaitOf}
use Rattle.shared_queue.proofs.ByEntries.{sees-mine}
use Rattle.job_results.specs.declared.jobs.Job.{Job}
use Rattle.dispatcher.specs.declared.submitter.Unpushed.TheVariants as why
use Rattle.dispatcher.specs.declared.workers.End.TheVariants as end
use Rattle.dispatcher.specs.Submissions.{EndsPushOne}
use Rattle.dispatcher.specs.Turns.{EndsSo}

-- a seat that saw no less made no entry
pub seen-mine : (k k' : Known) → SeesMoreOf (known_by_deeds k) (known_by_deeds k') → k'.mine ≡ k.mine
seen-mine k k' more = (push_refused k k' Busy more).mine

-- nor did one whose push was refused
pub refused-mine : (a b c : Known) (refusal : Refusal) → SeesMoreOf (known_by_deeds a) (known_by_deeds b) → EndsSend refusal
    → PushRefusedOf (known_by_deeds b) refusal (known_by_deeds c) → c.mine ≡ a.mine
refused-mine a b c (WornOut word) more may refused = (push_refused b c (WornOut word) refused).mine ∙ seen-mine a b more
refused-mine a b c Closed more may refused = (push_refused b c Closed refused).mine ∙ seen-mine a b more
refused-mine a b c _ more may refused = absurd may

module _ {Q S : Type 0} (is_seat : Q → S → Type 0) (known : S → Known) (cause : Q → S → S → ℕ → Refusal → Type 0) (queue : Q) where
  -- a try that ended a call ended one that began before it too
  from_before : (first before after : S) (refusal : Refusal) → SeesMoreOf (known_by_deeds (known first)) (known_by_deeds (known before))
      → EndsByTryOf is_seat (λ s. known_by_deeds (known s)) cause queue before after 8 refusal → EndsByTryOf is_seat (λ s. known_by_deeds (known s)) cause queue first after 8 refusal
  from_before first before after refusal more h =
      record { last = h.last; seat = h.seat; more = sees_then (known_by_deeds (known first)) (known_by_deeds (known before)) (known_by_deeds (known h.last)) more h.more; caused = h.caused }

  pub ends_push : (workers number : ℕ) (first before after : S) (refusal : Refusal) → SeesMoreOf (known_by_deeds (known first)) (known_by_deeds (known before)) → EndsSend refusal
      → PushRefusedOf (known_by_deeds (known before)) refusal (known_by_deeds (known after)) → EndsByTryOf is_seat (λ s. known_by_deeds (known s)) cause queue before after 8 refusal
      → EndsPushOne is_seat known cause queue workers number first after (why.Refused refusal)
  ends_push workers number first before after (WornOut word) more may refused caused =
      (sees_then (known_by_deeds (known first)) (known_by_deeds (known before)) (known_by_deeds (known after)) more refused, from_before first before after (WornOut word) more caused)
  ends_push workers number first before after Closed more may refused caused =
      (push_refused_then (known_by_deeds (known first)) (known_by_deeds (known before)) (known_by_deeds (known after)) Closed more refused, from_before first before after Closed more caused)
  ends_push workers number first before after _ more may refused caused = absurd may

  pub ends_pop : (jobs : List Job) (stops : Type 0) (before after : S) (refusal : Refusal) → refusal ≢ Closed → EndsPop refusal
      → RecvRefusedOf (known_by_deeds (known before)) refusal (known_by_deeds (known after)) → EndsAfterWaitOf is_seat (λ s. known_by_deeds (known s)) cause queue before after 8 refusal
      → EndsSo is_seat known cause queue jobs stops before after (end.Refused refusal)
  ends_pop jobs stops before after (WornOut word) other may refused caused = (sees-mine (known before) (known after) refused.last refused.waited refused.refused, caused)
  ends_pop jobs stops before after Closed other may refused caused = absurd (other refl)
  ends_pop jobs stops before after _ other may refused caused = absurd may
