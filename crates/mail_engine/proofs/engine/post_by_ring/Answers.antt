use Rattle.std.proofs.Common.{arith, ◌≡◌, ◌+◌, ◌∷◌, ◌++◌, [], length, subst, sym}
use Rattle.std.proofs.lemmas.List.{length-map}
use Rattle.mail_engine.specs.MailTexts.{said_letter, said_letters}
use Rattle.mail_engine.specs.Rows.{IsMailRing}
use Rattle.mail_engine.proofs.Carried.{IfOk-both}
use Rattle.mail_engine.proofs.engine.post_by_ring.Goals as goal

pub returns-clause-carried : goal.returns-clause-carried
returns-clause-carried g c =
    let letters = length (said_letters c.args.mail.letters.items) in
    let count = length-map c.args.mail.letters.items said_letter in
    let values : 2 + c.from.result + c.len.result ≡ letters + c.args.mail.senders + 2 = omega (arith, c.len.ensures, c.from.ensures, count) in
    let all = c.in_ok-ring.seats.items ++ c.in_ok-ring.receiver ∷ [] in
    IfOk-both c.post_over.result _ _ _ (λ r over by. record {
      seats = all;
      made =
          subst (λ q. IsMailRing (letters + c.args.mail.senders + 2) c.args.mail.senders q all) (sym over)
          (subst (λ n. IsMailRing n c.args.mail.senders c.in_ok-ring.ring all) values c.in_ok-ring.ensures.made);
      carried = by;
    }) c.post_over.ensures.over c.post_over.ensures.carried
