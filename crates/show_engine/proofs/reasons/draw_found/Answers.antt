-- Where a write fails, a prefix of the picture is written.
use Rattle.std.proofs.Common.{inl, inr}
use Rattle.std.proofs.lemmas.Result.{IfErr-weaker}
use Rattle.show_engine.proofs.reasons.draw_found.Goals as goal

pub returns-in-Ok-clause-prefix : goal.returns-in-Ok-clause-prefix
returns-in-Ok-clause-prefix g c =
    rw c.in-Impossible.is
    (IfErr-weaker c.send.result _ _ (λ refusal begun write. begun) (rw c.in-Ok.ensures at (rw c.deref.ensures.value at c.send.ensures.prefix)))

pub returns-in-History-clause-prefix : goal.returns-in-History-clause-prefix
returns-in-History-clause-prefix g c =
    elim c.in-History.is [
      | inl placed ↦ rw placed.1 (rw placed.1 at c.tell.ensures.prefix)
      | inr unknown ↦ rw unknown.1 (rw unknown.1 at c.tell.ensures.prefix)
    ]
