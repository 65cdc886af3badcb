-- Letters that are taken one after another.
use Rattle.std.proofs.Common.{◌≡◌, ◌+◌, ◌∙◌, sym, ap, ℕ, List, [], ◌∷◌, ◌++◌, length, map, append-nil, append_assoc, arith, Some}
use Rattle.std.proofs.lemmas.List.{length-append, length-map, map-append}
use Rattle.std.proofs.lemmas.Grind.{flat_map-append}
use Rattle.history.specs.declared.operations.Entry.TheVariants.{Pop}
use Rattle.history.specs.declared.operations.Taken.{Taken}
use Rattle.history.specs.Seats.{Known}
use Rattle.history.specs.Values.{popped, popped_by}
use Rattle.carriers.specs.Deeds.{Deed}
use Rattle.carriers.specs.Answers.{AddsDeed}
use Rattle.carriers.specs.DeedsOfNumbers.{deed_of, deeds_of, known_by_deeds}
use Rattle.shared_queue.proofs.ByEntries.{taken_from, received-mine}
use Rattle.mailbox.specs.declared.office.Office.{Office}
use Rattle.mailbox.specs.declared.receiver.Receiver.{Receiver}
use Rattle.mailbox.specs.declared.receiver.Letter.{Letter}
use Rattle.mailbox.specs.Offices.{RecvAnswers}
use Rattle.mailbox.specs.Posts.{Delivered}

-- a call that had its effect adds one entry of the seat's own
pub length-adds : (a b : Known) (d : Deed ℕ) → AddsDeed (known_by_deeds a) d (known_by_deeds b) → length b.mine ≡ length a.mine + 1
length-adds a b d h =
    let before = length-map a.mine deed_of in
    let after = length-map b.mine deed_of in
    let more = ap length h.mine ∙ length-append (deeds_of a.mine) (d ∷ []) in
    omega (arith, before, after, more)

module _ {Q S : Type 0} (known : S → Known) (r : Receiver Q S) where
  -- no letters were taken by doing nothing
  pub delivered_none : (letters : List Letter) → letters ≡ [] → Delivered known r letters r
  delivered_none letters none = record { values = []; popped_them = sym (append-nil _); senders = ap (map (λ l. l.from)) none }

  -- letters, and then one more
  pub delivered-then_letter : (office : Office Q S) (letters : List Letter) (letter : Letter) (a b : Receiver Q S) → Delivered known r letters a
      → RecvAnswers known office a (Some letter) b → Delivered known r (letters ++ letter ∷ []) b
  delivered-then_letter office letters letter a b h g =
      let taken : Taken = taken_from g.front in
      record {
        values = h.values ++ taken ∷ [];
        popped_them =
            ap popped (received-mine (known a.seat) (known b.seat) g.front g.popped)
            ∙ flat_map-append popped_by (known a.seat).mine (Pop (known a.seat).number taken ∷ [])
            ∙ ap (λ vs. vs ++ taken ∷ []) h.popped_them
            ∙ append_assoc (popped (known r.seat).mine) h.values (taken ∷ []);
        senders =
            map-append (λ l. l.from) letters (letter ∷ [])
            ∙ (λ i. h.senders i ++ sym g.sender i ∷ [])
            ∙ sym (map-append (λ v. v.from) h.values (taken ∷ []));
      }
