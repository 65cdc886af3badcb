-- Threads that are started for tasks one after another.
use Rattle.std.proofs.Common.{◌≡◌, ◌∙◌, ◌+◌, ◌≤◌, ℕ, List, [], ◌++◌, ◌∷◌, ap, sym, subst, length, append_assoc, arith}
use Rattle.std.specs.List.{All, AllZip}
use Rattle.history.specs.declared.refusals.Refusal.{Refusal}
use Rattle.history.specs.Seats.{Permit, Known}
use Rattle.mailbox.specs.declared.office.Office.{Office}
use Rattle.mailbox.specs.declared.threads.Started.{Started}
use Rattle.mailbox.specs.declared.threads.Task.{Task}
use Rattle.mailbox.specs.Offices.{marks}
use Rattle.mailbox.specs.Posts.{IsTask, IsTaskAt, Plans}
use Rattle.mailbox.specs.Threads.{IsStartedFor}
use Rattle.mailbox.proofs.Plans.{AreDueFrom, due_of-plan, first_task, first_due, other_tasks, others_due}
use Rattle.mailbox.proofs.Telling.{zip_append}

module _ {Q S : Type 0} (is_seat : Q → S → Type 0) (permits : Q → List Permit) (known : S → Known) (cause : Q → S → S → ℕ → Refusal → Type 0) (o : Office Q S) where
  -- threads were started for the first of these tasks, in their order; the rest is due, and there is room for its threads
  pub record StartedSoFar (tasks rest : List (Task Q S)) (threads : List (Started Q S)) (count room : ℕ) : Type 0 where
    pub done : List (Task Q S)
    pub split : done ++ rest ≡ tasks
    pub started : AllZip (IsStartedFor is_seat permits known cause o) done threads
    pub fits : count + length rest ≤ room
    pub each : All (IsTask is_seat permits known o) rest
    pub due : AreDueFrom (marks o) count rest

  -- none was started yet
  pub started-none : (tasks rest : List (Task Q S)) (threads : List (Started Q S)) (count room : ℕ) → rest ≡ tasks → threads ≡ [] → count ≡ length threads → length tasks ≤ room
      → All (IsTask is_seat permits known o) tasks → Plans o tasks → StartedSoFar tasks rest threads count room
  started-none tasks rest threads count room all none len few are plan =
      let zero : 0 ≡ count = omega (arith, ap length none, len) in
      record {
        done = [];
        split = all;
        started = subst (AllZip (IsStartedFor is_seat permits known cause o) []) (sym none) tt;
        fits = omega (arith, ap length all, zero, few);
        each = subst (All (IsTask is_seat permits known o)) (sym all) are;
        due = subst (AreDueFrom (marks o) count) (sym all) (subst (λ n. AreDueFrom (marks o) n tasks) zero (due_of-plan (marks o) tasks plan));
      }

  module _ (tasks rest : List (Task Q S)) (threads : List (Started Q S)) (count room : ℕ) (was : StartedSoFar tasks rest threads count room)
      (task : Task Q S) (more : List (Task Q S)) (split : rest ≡ task ∷ more) where
    -- the next task has the number of its thread
    pub started-next : (n : ℕ) → count ≡ n → IsTaskAt is_seat permits known o n task
    started-next n same = record {
      sender = first_task (IsTask is_seat permits known o) (marks o) count rest task more split was.each was.due;
      due = first_due (IsTask is_seat permits known o) (marks o) count rest task more split was.each was.due n same;
    }

    -- its thread was started
    pub started-then : (thread : Started Q S) (longer : List (Started Q S)) (n room' : ℕ) → IsStartedFor is_seat permits known cause o task thread
        → longer ≡ threads ++ thread ∷ [] → n ≡ count + 1 → room ≤ room' → StartedSoFar tasks more longer n room'
    started-then thread longer n room' starts adds next large = record {
      done = was.done ++ task ∷ [];
      split = append_assoc was.done (task ∷ []) more ∙ ap (λ l. was.done ++ l) (sym split) ∙ was.split;
      started =
          subst (AllZip (IsStartedFor is_seat permits known cause o) (was.done ++ task ∷ [])) (sym adds)
          (zip_append (IsStartedFor is_seat permits known cause o) was.done (task ∷ []) threads (thread ∷ []) was.started (starts, tt));
      fits = omega (arith, ap length split, was.fits, next, large);
      each = other_tasks (IsTask is_seat permits known o) (marks o) count rest task more split was.each was.due;
      due = others_due (IsTask is_seat permits known o) (marks o) count rest task more split was.each was.due n (sym next);
    }
