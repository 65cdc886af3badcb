use Rattle.std.proofs.Common.{refl, ◌∙◌, sym, ap, string_bytes}
use Rattle.mailbox.proofs.receiver.Receiver.open.Goals as goal

pub returns-clause-read : goal.returns-clause-read
returns-clause-read g c = record {
  shown = c.in-Ok.shown;
  is = refl;
  here = c.in-Ok.ensures.shown;
  at = c.in-Ok.ensures.at ∙ c.number.ensures.value;
  reads = ap (λ p. string_bytes p.text) (sym c.parcel_at-parcel.ensures.value) ∙ sym c.as_str.ensures.value;
}
