use Rattle.std.proofs.Common.{refl}
use Rattle.std.proofs.lemmas.Result.{err_from_is_err_and}
use Rattle.schedule_text.specs.declared.fields.Field.TheVariants.{Bits}
use Rattle.schedule_text.specs.declared.schedules.Version.TheVariants.{Two}
use Rattle.schedule_text.specs.Texts.{number, number_due}
use Rattle.schedule_text.proofs.Joining.{Begins-front, Begins-none}
use Rattle.schedule_text.proofs.readers.bits_at.Goals as goal

pub returns-in_err-bits-in-Two-clause-err : goal.returns-in_err-bits-in-Two-clause-err
returns-in_err-bits-in-Two-clause-err c =
    let p = err_from_is_err_and c.from_residual.result c.from_residual.ensures.1 in
    rw (p.1, p.2) (rw c.in-Two.is (c.in_err-bits-in-Two.ensures.err Two))

pub returns-in_ok-bits-in-Two-clause-text : goal.returns-in_ok-bits-in-Two-clause-text
returns-in_ok-bits-in-Two-clause-text c =
    rw c.in-Two.is
    (Begins-front (number_due Two 24 Bits) (number Bits c.in_ok-bits-in-Two.bits) _ _ _ _ refl (c.in_ok-bits-in-Two.ensures.ok Two) (Begins-none _ _))
