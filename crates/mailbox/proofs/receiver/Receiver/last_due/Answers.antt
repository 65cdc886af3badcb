use Rattle.std.proofs.Common.{◌∙◌, sym, ap, subst}
use Rattle.std.specs.Prelude.{◌≡◌, IfSome, string_bytes}
use Rattle.mailbox.specs.Plans.{Fits}
use Rattle.mailbox.specs.Offices.{marks}
use Rattle.mailbox.proofs.receiver.Receiver.last_due.Goals as goal

pub returns-in-Some-clause-fits : goal.returns-in-Some-clause-fits
returns-in-Some-clause-fits g c index text read =
    let same = subst (λ last. IfSome last (λ w. string_bytes w.value.text ≡ text)) (sym read.is ∙ c.in-Some.is) read.reads in
    subst (Fits (marks c.args.office.now) c.parcel_at.result.now.due) (ap (λ p. string_bytes p.text) c.parcel_at.ensures.value ∙ same) c.parcel_at.ensures.due
