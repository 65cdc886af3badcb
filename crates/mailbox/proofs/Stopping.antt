-- Letters that were taken, and then none, or a refusal.
use Rattle.std.proofs.Common.{◌≡◌, ◌≢◌, ◌∙◌, ap, refl, subst, inl, inr, ℕ, List}
use Rattle.std.specs.Prelude.{Option, Some, IfSome}
use Rattle.history.specs.declared.refusals.Refusal.{Refusal}
use Rattle.history.specs.declared.refusals.Refusal.TheVariants.{Closed, Lost}
use Rattle.history.specs.Seats.{Known}
use Rattle.history.specs.Answers.{EndsPop}
use Rattle.history.specs.Values.{popped}
use Rattle.shared_queue.proofs.ByEntries.{empty-since, shut_empty-since}
use Rattle.shared_queue.specs.Answers.{ReceivedOf, RecvRefusedOf}
use Rattle.mailbox.specs.declared.office.Office.{Office}
use Rattle.mailbox.specs.declared.parcels.Due.{Due}
use Rattle.mailbox.specs.declared.receiver.Letter.{Letter}
use Rattle.mailbox.specs.declared.receiver.Receiver.{Receiver}
use Rattle.mailbox.specs.Offices.{TookText, TookNothing, Loses, LastIs, RecvAnswers, WaitedInVain}
use Rattle.mailbox.specs.Posts.{Delivered}
use Rattle.mailbox.specs.Causes.{IsItsTurn, TookAllThere, TookUntil}

closed≢lost : Closed ≢ Lost
closed≢lost same = subst EndsPop same tt

module _ {Q S : Type 0} (known : S → Known) (r : Receiver Q S) (letters : List Letter) (last r' : Receiver Q S) (taken : Delivered known r letters last) where
  -- a receiver that made no entry has taken what it had
  taken_still : (known r'.seat).mine ≡ (known last.seat).mine → Delivered known r letters r'
  taken_still same = record { values = taken.values; popped_them = ap popped same ∙ taken.popped_them; senders = taken.senders }

  -- the receiver waited in vain
  pub all_there_open : WaitedInVain known last r' → TookAllThere known r letters r'
  all_there_open none = record { last = last; delivered = taken; none = inl none }

  -- it popped no more then
  pub delivered_open : WaitedInVain known last r' → Delivered known r letters r'
  delivered_open none = taken_still (empty-since (known last.seat) (known r'.seat) none.late none.waited none.empty).1

  -- it found the queue shut and empty
  pub all_there_shut : (Closed ≢ Lost → TookNothing RecvRefusedOf known last Closed r') → TookAllThere known r letters r'
  all_there_shut none = record { last = last; delivered = taken; none = inr (none closed≢lost) }

  -- and popped no more then
  pub delivered_shut : (Closed ≢ Lost → TookNothing RecvRefusedOf known last Closed r') → Delivered known r letters r'
  delivered_shut none = taken_still (shut_empty-since (known last.seat) (known r'.seat) (none closed≢lost).nothing).1

  module _ (o : Office Q S) (senders : ℕ) where
    -- a take was refused
    pub until_refused : (refusal : Refusal) → (refusal ≢ Lost → TookNothing RecvRefusedOf known last refusal r') → (refusal ≡ Lost → Loses ReceivedOf known last r')
        → TookUntil known o senders r refusal r'
    until_refused refusal nothing lost =
        record { letters = letters; last = last; delivered = taken; stops = record { nothing = nothing; lost = λ is. inl (lost is) } }

    -- a letter was taken out of its turn
    pub until_out_of_turn : (answer : Option Letter) (letter : Letter) (due : Option Due) → answer ≡ Some letter → RecvAnswers known o last answer r' → LastIs r' due
        → IfSome due (λ d. IsItsTurn senders letters letter.from d → ⊥) → TookUntil known o senders r Lost r'
    until_out_of_turn answer letter due some answers is out =
        let took : TookText ReceivedOf known o last letter.from letter.text.now r' = subst (λ a. RecvAnswers known o last a r') some answers in
        record {
          letters = letters;
          last = last;
          delivered = taken;
          stops = record { nothing = λ other. absurd (other refl); lost = λ _. inr (record { letter = letter; took = took; due = due; is = is; out = out }) };
        }
