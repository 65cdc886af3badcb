-- A sender that sent nothing.
use Rattle.std.proofs.Common.{◌≡◌, refl, sym, subst, ℕ, List, [], ◌∷◌, length, Some, arith}
use Rattle.std.specs.Prelude.{None, String}
use Rattle.history.specs.declared.refusals.Refusal.{Refusal}
use Rattle.history.specs.declared.refusals.Refusal.TheVariants.{Memory, BadSize}
use Rattle.history.specs.Seats.{Known}
use Rattle.carriers.specs.DeedsOfNumbers.{known_by_deeds}
use Rattle.carriers.proofs.Learning.{sees_itself}
use Rattle.mailbox.specs.declared.office.Office.{Office}
use Rattle.mailbox.specs.declared.sender.Sender.{Sender}
use Rattle.mailbox.specs.Causes.{HasEnded}

no_body : Refusal → Type 0
no_body BadSize = ⊥
no_body _ = ℕ

module _ {Q S Z : Type 0} (is_seat : Q → S → Type 0) (known : S → Known) (cause : Q → S → S → ℕ → Refusal → Type 0) (o : Office Q S) (s : Sender Q S) where
  -- of no texts it has sent all
  pub unsent_none : (texts : List (String Z)) → length texts ≡ 0 → HasEnded is_seat known cause o s texts None
  unsent_none texts none = record { sent = 0; last = s; added = omega arith; ends = sym none }

  -- else it may have been refused the first one, for want of memory
  pub unsent_some : (texts : List (String Z)) → (length texts ≡ 0 → ⊥) → HasEnded is_seat known cause o s texts (Some Memory)
  unfolding no_body
  unsent_some [] some = absurd (some refl)
  unsent_some (text ∷ texts) some = record {
    sent = 0;
    last = s;
    added = omega arith;
    ends = (omega arith, record { text = text; after = s; nothing = sees_itself (known_by_deeds (known s.seat)); caused = tt; memory = λ _. refl; no_body = λ e. absurd (subst no_body e 0) });
  }
