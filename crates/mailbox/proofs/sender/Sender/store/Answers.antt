use Rattle.std.proofs.Common.{refl, ◌∙◌, sym, ap, string_bytes}
use Rattle.mailbox.proofs.sender.Sender.store.Goals as goal

pub returns-in-Some-clause-stored : goal.returns-in-Some-clause-stored
returns-in-Some-clause-stored g c = record {
  shown = c.in-Ok.pushed;
  is = refl;
  here = c.in-Ok.ensures.0.0;
  at = sym c.index-index.ensures ∙ sym c.in-Some.ensures.value;
  reads = ap (λ p. string_bytes p.text) c.in-Ok.ensures.0.1;
}

pub returns-in-None-clause-no_body : goal.returns-in-None-clause-no_body
returns-in-None-clause-no_body g c _ = record {
  seat = refl;
  index = c.index-index.result;
  large = c.in-None.ensures.none.0 refl;
  stored = record {
    shown = c.in-Ok.pushed;
    is = refl;
    here = c.in-Ok.ensures.0.0;
    at = sym c.index-index.ensures;
    reads = ap (λ p. string_bytes p.text) c.in-Ok.ensures.0.1;
  };
}
