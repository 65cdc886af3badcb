-- Texts that are sent one after another.
use Rattle.std.proofs.Common.{◌≡◌, ◌+◌, ℕ, List, [], ◌∷◌, length, ap, arith}
use Rattle.std.specs.Prelude.{None, Some, String}
use Rattle.history.specs.declared.refusals.Refusal.{Refusal}
use Rattle.history.specs.Seats.{Known}
use Rattle.mailbox.specs.declared.office.Office.{Office}
use Rattle.mailbox.specs.declared.sender.Sender.{Sender}
use Rattle.mailbox.specs.Causes.{HasEnded, IsRefusedNext}
use Rattle.mailbox.specs.Posts.{AddsEntries}

-- so many of these texts were sent, and these are left
module _ {Q S Z : Type 0} (is_seat : Q → S → Type 0) (known : S → Known) (cause : Q → S → S → ℕ → Refusal → Type 0) (o : Office Q S) (s last : Sender Q S)
    (texts rest : List (String Z)) (sent : ℕ) (all : sent + length rest ≡ length texts) (added : AddsEntries known s sent last) where
  -- none is left
  pub has_ended-all : rest ≡ [] → HasEnded is_seat known cause o s texts None
  has_ended-all none = record { sent = sent; last = last; added = added; ends = omega (arith, all, ap length none) }

  -- the next one was refused
  pub has_ended-at : (text : String Z) (more : List (String Z)) (refusal : Refusal) → rest ≡ text ∷ more → IsRefusedNext Z is_seat known cause o last refusal
      → HasEnded is_seat known cause o s texts (Some refusal)
  has_ended-at text more refusal split next = record { sent = sent; last = last; added = added; ends = (omega (arith, all, ap length split), next) }
