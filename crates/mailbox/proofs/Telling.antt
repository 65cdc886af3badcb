-- The first sender that was refused is told.
use Rattle.std.proofs.Common.{◌≡◌, ◌≢◌, ◌<◌, refl, ap, sym, subst, inl, inr, ℕ, List, [], ◌∷◌, ◌++◌, length, Some}
use Rattle.std.specs.Prelude.{Option, None, true, false, is_some, unwrap_or, IfSome}
use Rattle.std.specs.List.{All, AllZip}
use Rattle.std.proofs.lemmas.List.Elements.{All-nil, All-cons}
use Rattle.std.proofs.lemmas.Bool.{true≢false, false≢true}
use Rattle.std.proofs.lemmas.Option.{none-some}
use Rattle.history.specs.declared.refusals.Refusal.{Refusal}
use Rattle.history.specs.declared.refusals.Refusal.TheVariants.{Closed, Lost}
use Rattle.history.specs.Seats.{Permit, Known}
use Rattle.mailbox.specs.declared.office.Office.{Office}
use Rattle.mailbox.specs.declared.receiver.Letter.{Letter}
use Rattle.mailbox.specs.declared.receiver.Receiver.{Receiver}
use Rattle.mailbox.specs.declared.sender.Sender.{Sender}
use Rattle.mailbox.specs.declared.threads.Task.{Task}
use Rattle.mailbox.specs.declared.threads.Started.{Started}
use Rattle.mailbox.specs.declared.threads.Started.TheVariants.{Running, Unstarted}
use Rattle.mailbox.specs.Posts.{letters_of}
use Rattle.mailbox.specs.Refusals.{EndsPost}
use Rattle.mailbox.specs.Offices.{IsSender}
use Rattle.mailbox.specs.Causes.{IsTold, FirstIsTold, HasEnded, EndsSo, TookAllThere, AreMissing}
use Rattle.mailbox.specs.Endings.{IsLeftShut, HaveEnded}
use Rattle.mailbox.specs.Threads.{IsStartedFor, IsOfOffice, ComesBack, Ends, TellFirst}

some_or : Refusal → Option Refusal → Refusal
some_or r None = r
some_or r (Some q) = q

-- what is told of one sender
pub told_of : (end told : Option Refusal) → (end ≡ Some Closed → told ≡ Some Lost) → (end ≢ Some Closed → told ≡ end) → FirstIsTold (end ∷ []) told
unfolding some_or
told_of None told shut same = same (λ e. none-some Closed e)
told_of (Some r) told shut same = ((λ e. shut (ap Some e)), λ other. same (λ e. other (ap (some_or r) e)))

-- a refusal is told
not_silent : (r : Refusal) → IsTold r None → ⊥
not_silent r h = none-some r (h.1 (λ e. none-some Lost (h.0 e)))

-- where none of some was refused, the first one of the others is told
first_none : (xs ys : List (Option Refusal)) (told : Option Refusal) → FirstIsTold xs None → FirstIsTold ys told → FirstIsTold (xs ++ ys) told
first_none [] ys told h k = k
first_none (None ∷ xs) ys told h k = first_none xs ys told h k
first_none (Some r ∷ xs) ys told h k = absurd (not_silent r h)

-- else the first one of them
first_some : (xs ys : List (Option Refusal)) (r : Refusal) → FirstIsTold xs (Some r) → FirstIsTold (xs ++ ys) (Some r)
first_some [] ys r h = absurd (none-some r (sym h))
first_some (None ∷ xs) ys r h = first_some xs ys r h
first_some (Some q ∷ xs) ys r h = h

-- what is told, or that letters are lost, may be told of a post
pub told_or_lost : (told : Option Refusal) → IfSome told EndsPost → EndsPost (unwrap_or told Lost)
told_or_lost None may = tt
told_or_lost (Some refusal) may = may

-- two lists of pairs one behind the other
pub zip_append : {X Y : Type 0} (R : X → Y → Type 0) (xs zs : List X) (ys ws : List Y) → AllZip R xs ys → AllZip R zs ws → AllZip R (xs ++ zs) (ys ++ ws)
zip_append R [] zs [] ws h k = k
zip_append R [] zs (y ∷ ys) ws h k = absurd h
zip_append R (x ∷ xs) zs [] ws h k = absurd h
zip_append R (x ∷ xs) zs (y ∷ ys) ws h k = (h.0, zip_append R xs zs ys ws h.1 k)

module _ {Q S : Type 0} (is_seat : Q → S → Type 0) (known : S → Known) (cause : Q → S → S → ℕ → Refusal → Type 0) where
  -- no thread tells nothing
  pub tell_none : TellFirst is_seat known cause [] None
  tell_none = record { ends = []; each = tt; first = refl }

  -- of one thread
  pub tell_one : (thread : Started Q S) (end told : Option Refusal) → Ends is_seat known cause thread end → FirstIsTold (end ∷ []) told → TellFirst is_seat known cause (thread ∷ []) told
  tell_one thread end told ends is = record { ends = end ∷ []; each = (ends, tt); first = is }

  -- of threads that told nothing and others
  pub tell_then : (done more : List (Started Q S)) (told : Option Refusal) → TellFirst is_seat known cause done None → TellFirst is_seat known cause more told
      → TellFirst is_seat known cause (done ++ more) told
  tell_then done more told h k = record {
    ends = h.ends ++ k.ends;
    each = zip_append (Ends is_seat known cause) done more h.ends k.ends h.each k.each;
    first = first_none h.ends k.ends told h.first k.first;
  }

  -- of threads that told a refusal and others
  pub tell_still : (done more : List (Started Q S)) (refusal : Refusal) (told : Option Refusal) → TellFirst is_seat known cause done (Some refusal)
      → TellFirst is_seat known cause more told → TellFirst is_seat known cause (done ++ more) (Some refusal)
  tell_still done more refusal told h k = record {
    ends = h.ends ++ k.ends;
    each = zip_append (Ends is_seat known cause) done more h.ends k.ends h.each k.each;
    first = first_some h.ends k.ends refusal h.first;
  }

  -- where nothing was told so far, what the next threads tell is told; else what was
  pub tell_next : (done more : List (Started Q S)) (first told : Option Refusal) → is_some first ≡ false → TellFirst is_seat known cause done first
      → TellFirst is_seat known cause more told → TellFirst is_seat known cause (done ++ more) told
  tell_next done more None told none h k = tell_then done more told h k
  tell_next done more (Some refusal) told none h k = absurd (true≢false none)

  pub tell_before : (done more : List (Started Q S)) (first told : Option Refusal) → is_some first ≡ true → TellFirst is_seat known cause done first
      → TellFirst is_seat known cause more told → TellFirst is_seat known cause (done ++ more) first
  tell_before done more None told some h k = absurd (false≢true some)
  tell_before done more (Some refusal) told some h k = tell_still done more refusal told h k

  module _ (permits : Q → List Permit) (o : Office Q S) where
    Starts : Task Q S → Started Q S → Type 0
    Starts = IsStartedFor is_seat permits known cause o

    -- a thread that was started for a task ends as its sender does
    ends_so : (task : Task Q S) (thread : Started Q S) (end : Option Refusal) → Starts task thread → Ends is_seat known cause thread end → EndsSo is_seat known cause o task end
    unfolding Starts
    ends_so task (Running handle) end started ends =
        subst (λ (t : Task Q S). HasEnded is_seat known cause o t.sender t.texts.items end) started.1
        (subst (λ p. HasEnded is_seat known cause p handle.promise.task.value.sender handle.promise.task.value.texts.items end) started.0 ends)
    ends_so task (Unstarted back) end started ends = subst (EndsSo is_seat known cause o task) ends started.ended

    all_end : (tasks : List (Task Q S)) (threads : List (Started Q S)) (ends : List (Option Refusal)) → AllZip Starts tasks threads → AllZip (Ends is_seat known cause) threads ends
        → AllZip (EndsSo is_seat known cause o) tasks ends
    all_end [] [] [] h k = tt
    all_end [] [] (e ∷ es) h k = absurd k
    all_end [] (t ∷ ts) es h k = absurd h
    all_end (x ∷ xs) [] es h k = absurd h
    all_end (x ∷ xs) (t ∷ ts) [] h k = absurd k
    all_end (x ∷ xs) (t ∷ ts) (e ∷ es) h k = (ends_so x t e h.0 k.0, all_end xs ts es h.1 k.1)

    -- letters are missing, and what is told is what the first thread told, or that letters are lost
    pub missing : (tasks : List (Task Q S)) (threads : List (Started Q S)) (letters : List Letter) (r r' : Receiver Q S) (told : Option Refusal)
        → AllZip (IsStartedFor is_seat permits known cause o) tasks threads
        → TellFirst is_seat known cause threads told → TookAllThere known r letters r' → length letters < letters_of tasks → AreMissing is_seat known cause o tasks r (unwrap_or told Lost) r'
    unfolding Starts
    missing tasks threads letters r r' None started first taken fewer = record {
      letters = letters;
      taken = taken;
      fewer = fewer;
      ends = first.ends;
      each = all_end tasks threads first.ends started first.each;
      told = inr (first.first, refl);
    }
    missing tasks threads letters r r' (Some refusal) started first taken fewer = record {
      letters = letters;
      taken = taken;
      fewer = fewer;
      ends = first.ends;
      each = all_end tasks threads first.ends started first.each;
      told = inl first.first;
    }

    one_of : (task : Task Q S) (thread : Started Q S) → Starts task thread → IsOfOffice is_seat permits known o thread
    unfolding Starts
    one_of task (Running handle) h = h.0
    one_of task (Unstarted back) h = h.sender

    -- threads that were started for tasks are of the office
    pub of_office : (tasks : List (Task Q S)) (threads : List (Started Q S)) → AllZip (IsStartedFor is_seat permits known cause o) tasks threads → All (IsOfOffice is_seat permits known o) threads
    unfolding Starts
    of_office [] [] h = All-nil (IsOfOffice is_seat permits known o)
    of_office [] (t ∷ ts) h = absurd h
    of_office (x ∷ xs) [] h = absurd h
    of_office (x ∷ xs) (t ∷ ts) h = All-cons (IsOfOffice is_seat permits known o) t ts (one_of x t h.0) (of_office xs ts h.1)

    no_tasks : (tasks : List (Task Q S)) (threads : List (Started Q S)) → AllZip Starts tasks threads → threads ≡ [] → tasks ≡ []
    no_tasks [] threads h none = refl
    no_tasks (x ∷ xs) [] h none = absurd h
    no_tasks (x ∷ xs) (t ∷ ts) h none = absurd (let e : t ∷ ts ≡ [] = none in cc)

    -- the sender that came back, if there is one, is one of the office
    pub came_back : (threads : List (Started Q S)) (back : Option (Sender Q S)) → ComesBack is_seat permits known o threads back → IfSome back (IsSender is_seat permits known o)
    came_back threads None h = tt
    came_back threads (Some sender) h = h

    -- all senders have ended, and by the one that came back the queue is left shut
    pub have_ended : (shut_cause : Q → S → S → ℕ → Refusal → Type 0) (tasks : List (Task Q S)) (threads : List (Started Q S)) (told : Option Refusal) (back : Option (Sender Q S))
        → AllZip (IsStartedFor is_seat permits known cause o) tasks threads → TellFirst is_seat known cause threads told → ComesBack is_seat permits known o threads back
        → IfSome back (λ _. IsLeftShut is_seat permits known shut_cause o) → HaveEnded is_seat permits known cause shut_cause o tasks
    unfolding Starts
    have_ended shut_cause tasks threads told None started first none shut =
        record { ends = first.ends; each = all_end tasks threads first.ends started first.each; shut = inr (no_tasks tasks threads started none) }
    have_ended shut_cause tasks threads told (Some sender) started first came shut =
        record { ends = first.ends; each = all_end tasks threads first.ends started first.each; shut = inl shut }
