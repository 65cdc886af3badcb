-- What the submitter does.
use Rattle.std.specs.Prelude.{◌≡◌, ◌+◌, ◌^◌, ◌<◌, ◌≤◌, ◌⊎◌, ℕ, Option, Some, None, IfSome}
use Rattle.history.specs.declared.refusals.Refusal.{Refusal}
use Rattle.history.specs.declared.refusals.Refusal.TheVariants.{BadSize, Closed, Lost, WornOut}
use Rattle.history.specs.declared.refusals.WornWord.TheVariants.{Tail as OfTail}
use Rattle.history.specs.Limits.{body_bits}
use Rattle.history.specs.Seats.{Known}
use Rattle.carriers.specs.Answers.{DidShutOf, FoundShutOf, SeesMoreOf, EndsByTryOf}
use Rattle.carriers.specs.DeedsOfNumbers.{known_by_deeds}
use Rattle.dispatcher.specs.declared.signals.NoneLeft.{NoneLeft}
use Rattle.dispatcher.specs.declared.submitter.Given.{Given}
use Rattle.dispatcher.specs.declared.submitter.Unpushed.{Unpushed}
use Rattle.dispatcher.specs.declared.submitter.Unpushed.TheVariants as why
use Rattle.dispatcher.specs.Workers.{HasPushed}

-- of how many workers a look told that none was left
abbrev pub workers_of : NoneLeft → ℕ
workers_of none = none.workers

-- why a number wasn't pushed, as a refusal
abbrev pub refusal_of : Unpushed → Refusal
refusal_of (why.NoneLeft none) = Lost
refusal_of (why.Refused refusal) = refusal

module _ {Q S : Type 0} (is_seat : Q → S → Type 0) (known : S → Known) (cause : Q → S → S → ℕ → Refusal → Type 0) (queue : Q) where
  -- why this number wasn't pushed, and nothing was: a look told that none of so many workers was left; it is no body's number;
  -- or, with the queue's cause, a word was worn out, or the queue was found shut
  abbrev pub EndsPushOne : (workers number : ℕ) → (before after : S) → Unpushed → Type 0
  EndsPushOne workers number before after (why.NoneLeft none) = SeesMoreOf (known_by_deeds (known before)) (known_by_deeds (known after)) × (workers_of none ≡ workers)
  EndsPushOne workers number before after (why.Refused BadSize) = SeesMoreOf (known_by_deeds (known before)) (known_by_deeds (known after)) × (2 ^ body_bits ≤ number)
  EndsPushOne workers number before after (why.Refused (WornOut word)) =
      SeesMoreOf (known_by_deeds (known before)) (known_by_deeds (known after)) × EndsByTryOf is_seat (λ s. known_by_deeds (known s)) cause queue before after 8 (WornOut word)
  EndsPushOne workers number before after (why.Refused Closed) =
      FoundShutOf (known_by_deeds (known before)) (known_by_deeds (known after)) × EndsByTryOf is_seat (λ s. known_by_deeds (known s)) cause queue before after 8 Closed
  EndsPushOne workers number before after (why.Refused _) = ⊥

  -- after so many of these numbers the next one wasn't pushed, for this reason
  pub record EndsOffer (most workers count : ℕ) (after : S) (reason : Unpushed) : Type 0 where
    pub more : count < most
    pub last : S
    pub ended : EndsPushOne workers (count + 1) last after reason

  -- a seat pushed so many of the numbers from 1 on, in order, each once, and had no other effect; all of them, or up to the first
  -- that wasn't pushed, for this reason
  pub record HasOffered (most workers : ℕ) (before : S) (refused : Option Unpushed) (after : S) : Type 0 where
    pub count : ℕ
    pub few : count ≤ most
    pub pushed : HasPushed (known before) count (known after)
    pub all : refused ≡ None → count ≡ most
    pub refusal : IfSome refused (EndsOffer most workers count after)

  -- a shut was refused so, with the queue's cause: Tail was worn out
  abbrev pub CouldNotShut : (before after : S) → Refusal → Type 0
  CouldNotShut before after (WornOut OfTail) =
      SeesMoreOf (known_by_deeds (known before)) (known_by_deeds (known after)) × EndsByTryOf is_seat (λ s. known_by_deeds (known s)) cause queue before after 8 (WornOut OfTail)
  CouldNotShut before after _ = ⊥

  -- a shut by some seat was refused
  pub record WasUnshut : Type 0 where
    pub before : S
    pub after : S
    pub refusal : Refusal
    pub could_not : CouldNotShut before after refusal

  -- the queue was shut, or found shut; or it couldn't be shut, for this reason
  abbrev pub EndsShutBy : (before after : S) → Option Refusal → Type 0
  EndsShutBy before after None = DidShutOf (known_by_deeds (known before)) (known_by_deeds (known after)) ⊎ FoundShutOf (known_by_deeds (known before)) (known_by_deeds (known after))
  EndsShutBy before after (Some refusal) = CouldNotShut before after refusal

-- the submitter brings back its seat, with the same number: it pushed numbers from 1 on, and then shut the queue, found it
-- shut, or tells why it couldn't
pub record HasGiven {Q S : Type 0} (is_seat : Q → S → Type 0) (known : S → Known) (push_cause shut_cause : Q → S → S → ℕ → Refusal → Type 0) (queue : Q) (most workers : ℕ) (was : S) (given : Given S) : Type 0 where
  pub seat : is_seat queue given.seat
  pub number : (known given.seat).number ≡ (known was).number
  pub last : S
  pub same : (known last).number ≡ (known was).number
  pub offered : HasOffered is_seat known push_cause queue most workers was given.refused last
  pub shut : EndsShutBy is_seat known shut_cause queue last given.seat given.unshut
