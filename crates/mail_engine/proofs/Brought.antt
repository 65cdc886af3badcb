-- The letters that were brought are those that were said.
use Rattle.std.proofs.Common.{◌≡◌, ◌∙◌, ◌+◌, ◌-◌, ◌<◌, refl, sym, ap, subst, ℕ, Bool, true, false, cond, nat_eq, List, [], ◌∷◌, length, map, get_or, arith}
use Rattle.std.specs.Prelude.{string_bytes}
use Rattle.std.proofs.lemmas.List.{get_or-map, length-map}
use Rattle.text_io.specs.Numerals.{IsWithin}
use Rattle.mail_engine.specs.declared.letters.Outgoing.{Outgoing}
use Rattle.mail_engine.specs.MailTexts.{SaidLetter, said_letter, said_letters}
use Rattle.mailbox.specs.declared.threads.Task.{Task}
use Rattle.mailbox.specs.declared.receiver.Letter.{Letter}
use Rattle.mailbox.specs.Posts.{BringTexts, texts_in, texts_of}
use Rattle.mail_engine.specs.Posts.{said_by}
use Rattle.mail_engine.specs.Shares.{texts_from, HaveTexts}

said_one : (b : Bool) (l : Outgoing) (said : List SaidLetter) (ls : List Outgoing)
    → map (λ (x : SaidLetter). x.text) said ≡ map (λ (x : Outgoing). string_bytes x.text) ls
    → map (λ (x : SaidLetter). x.text) (cond b (said_letter l ∷ said) said) ≡ map (λ (x : Outgoing). string_bytes x.text) (cond b (l ∷ ls) ls)
said_one true l said ls h = ap (λ ts. string_bytes l.text ∷ ts) h
said_one false l said ls h = h

-- the texts that are said of one sender's letters are those of its letters
said_by-said : (sender : ℕ) (letters : List Outgoing) → said_by sender (said_letters letters) ≡ texts_from sender letters
said_by-said sender [] = refl
said_by-said sender (l ∷ ls) = said_one (nat_eq l.from sender) l _ _ (said_by-said sender ls)

module _ {Q S : Type 0} where
  have_lists : (tasks : List (Task Q S)) (letters : List Outgoing) → HaveTexts tasks letters → (k : ℕ) → k < length tasks → get_or (map texts_in tasks) k [] ≡ texts_from (k + 1) letters
  have_lists [] letters h k short = absurd (omega (arith, short))
  have_lists (t ∷ ts) letters h k short = get_or-map texts_in (t ∷ ts) k t [] short ∙ h k t short

  -- where the texts of the tasks were brought, each sender's are those of its letters
  pub brought : (n : ℕ) (tasks : List (Task Q S)) (letters : List Outgoing) (taken : List Letter) → length tasks ≡ n → HaveTexts tasks letters
      → BringTexts (map texts_in tasks) taken → (sender : ℕ) → IsWithin 1 n sender → texts_of sender taken ≡ said_by sender (said_letters letters)
  brought n tasks letters taken many have bring sender within =
      let low = within.0 in
      let high = within.1 in
      let place : sender ≡ (sender - 1) + 1 = omega (arith, low) in
      let short : sender - 1 < length tasks = omega (arith, low, high, many) in
      let len = length-map tasks texts_in in
      let there : sender - 1 < length (map texts_in tasks) = omega (arith, short, len) in
      subst (λ m. texts_of m taken ≡ said_by m (said_letters letters)) (sym place)
      (bring (sender - 1) there
      ∙ have_lists tasks letters have (sender - 1) short
      ∙ sym (said_by-said ((sender - 1) + 1) letters))
