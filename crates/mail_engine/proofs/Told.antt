-- Letters that were taken, and then told.
use Rattle.std.proofs.Common.{◌≡◌, ◌∙◌, sym, ap, ℕ, List, length, map}
use Rattle.std.specs.List.{All}
use Rattle.std.proofs.lemmas.List.{length-map}
use Rattle.text_io.specs.Numerals.{IsWithin}
use Rattle.history.specs.Seats.{Permit, Known, IsSound}
use Rattle.mail_engine.specs.declared.letters.Outgoing.{Outgoing}
use Rattle.mail_engine.specs.MailTexts.{SaidLetter, said_letter, said_letters}
use Rattle.mailbox.specs.declared.receiver.Letter.{Letter}
use Rattle.mailbox.specs.declared.receiver.Receiver.{Receiver}
use Rattle.mailbox.specs.declared.sender.Sender.{Sender}
use Rattle.mailbox.specs.declared.threads.Task.{Task}
use Rattle.mailbox.specs.Posts.{BringTexts, Delivered, letters_of, texts_in, texts_of}
use Rattle.text_io.specs.Devices.{SinkState}
use Rattle.mail_engine.specs.Rows.{givers_and_taker}
use Rattle.mail_engine.specs.Shares.{HaveTexts}
use Rattle.mail_engine.specs.Posts.{said_by, AreBySender, AreTaken, WritesLetters, BeginsLetters}
use Rattle.mail_engine.proofs.Brought.{brought}
use Rattle.mail_engine.proofs.Within.{senders_within}

-- as many letters as these were taken, each of one of so many senders, with the texts of each sender in its order
pub record AreBrought (senders : ℕ) (letters : List SaidLetter) (taken : List Letter) : Type 0 where
  pub count : length taken ≡ length letters
  pub from : All (λ (l : Letter). IsWithin 1 senders l.from) taken
  pub texts : (sender : ℕ) → IsWithin 1 senders sender → texts_of sender taken ≡ said_by sender letters

-- what the tasks of so many senders sent, which have all letters, and their receiver took
pub are_brought : {Q S : Type 0} {senders : List (Sender Q S)} {seats : List S} {taken : List Letter} {r r' : Receiver Q S}
    (permits : List Permit) (known : S → Known) (n : ℕ) (tasks : List (Task Q S)) (letters : List Outgoing)
    → map (λ s. s.seat) senders ≡ seats → length seats ≡ n → map (λ t. t.sender) tasks ≡ senders → HaveTexts tasks letters → letters_of tasks ≡ length letters
    → length taken ≡ letters_of tasks → BringTexts (map texts_in tasks) taken → permits ≡ givers_and_taker n → IsSound permits (known r'.seat) → Delivered known r taken r'
    → AreBrought n (said_letters letters) taken
are_brought {senders = senders} {seats = seats} {taken = taken} {r = r} {r' = r'} permits known n tasks letters same many each have all few bring row sound told =
    let count = sym (length-map tasks (λ t. t.sender)) ∙ ap length each ∙ sym (length-map senders (λ s. s.seat)) ∙ ap length same ∙ many in
    record {
      count = few ∙ all ∙ sym (length-map letters said_letter);
      from = senders_within permits known n r taken r' row sound told;
      texts = brought n tasks letters taken count have bring;
    }

module _ {senders : ℕ} {letters : List SaidLetter} {taken : List Letter} (are : AreBrought senders letters taken) (a b : SinkState) where
  -- the text of letters that were taken is written
  pub writes_taken : WritesLetters (AreBySender taken) a b → WritesLetters (AreTaken senders letters) a b
  writes_taken w = (w.0, record { taken = taken; count_is = are.count; from = are.from; texts = are.texts; order = w.1 }, w.2)

  -- a prefix of it is
  pub begins_taken : BeginsLetters (AreBySender taken) a b → BeginsLetters (AreTaken senders letters) a b
  begins_taken w = (w.0, record { taken = taken; count_is = are.count; from = are.from; texts = are.texts; order = w.1 }, w.2)
