-- The tasks of the senders of an office.
use Rattle.std.proofs.Common.{◌≡◌, ◌<◌, ℕ, sym, ap, subst, List, length, map, arith}
use Rattle.std.proofs.lemmas.List.{get_or-map, length-map}
use Rattle.std.specs.List.{All}
use Rattle.text_io.specs.Numerals.{IsWithin}
use Rattle.history.specs.Seats.{Permit, Known}
use Rattle.mail_engine.specs.declared.letters.Outgoing.{Outgoing}
use Rattle.mail_engine.specs.MailTexts.{said_letter, said_letters, IsLetter, IsLetterInRange}
use Rattle.mailbox.specs.declared.office.Office.{Office}
use Rattle.mailbox.specs.declared.sender.Sender.{Sender}
use Rattle.mailbox.specs.declared.threads.Task.{Task}
use Rattle.mailbox.specs.Offices.{IsSender}
use Rattle.mailbox.specs.Posts.{IsTask}

-- what holds of each image holds of what it is the image of
pub all_before-map : {X Y : Type 0} (P : Y → Type 0) (f : X → Y) (xs : List X) → All P (map f xs) → All (λ x. P (f x)) xs
all_before-map P f xs all k d short =
    subst P (get_or-map f xs k d (f d) short) (all k (f d) (subst (λ n. k < n) (sym (length-map xs f)) short))

-- the tasks of senders of an office are tasks there
pub tasks_of-senders : {Q S : Type 0} (is_seat : Q → S → Type 0) (permits : Q → List Permit) (known : S → Known) (o : Office Q S) (ss : List (Sender Q S)) (tasks : List (Task Q S))
    → map (λ t. t.sender) tasks ≡ ss → All (IsSender is_seat permits known o) ss → All (IsTask is_seat permits known o) tasks
tasks_of-senders is_seat permits known o ss tasks same all =
    all_before-map (IsSender is_seat permits known o) (λ t. t.sender) tasks (subst (All (IsSender is_seat permits known o)) (sym same) all)

-- letters in range are of the senders of these seats
pub letters_within : {Q S : Type 0} (n : ℕ) (letters : List Outgoing) (senders : List (Sender Q S)) (seats : List S)
    → All (λ l. IsLetter l × IsLetterInRange n l) (said_letters letters) → map (λ s. s.seat) senders ≡ seats → length seats ≡ n
    → All (λ (l : Outgoing). IsWithin 1 (length senders) l.from) letters
letters_within n letters senders seats each same many k d short =
    let is = all_before-map (λ l. IsLetter l × IsLetterInRange n l) said_letter letters each k d short in
    let a = length-map senders (λ s. s.seat) in
    let b = ap length same in
    let high = is.1.0.1 in
    (is.1.0.0, omega (arith, high, a, b, many))
