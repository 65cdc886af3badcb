use Rattle.std.proofs.Common.{refl}
use Rattle.std.proofs.lemmas.Result.{err_from_is_err_and}
use Rattle.schedule_text.specs.declared.fields.Field.TheVariants.{Bits}
use Rattle.schedule_text.specs.declared.schedules.Version.TheVariants.{Two}
use Rattle.schedule_text.specs.Streams.{stream}
use Rattle.schedule_text.specs.Texts.{number, number_due}
use Rattle.schedule_text.proofs.StreamedLines.{GaveLines-front, GaveLines-none}
use Rattle.schedule_text.proofs.source_lines.bits_from.Goals as goal

pub returns-in_err-bits-in-Two-clause-err : goal.returns-in_err-bits-in-Two-clause-err
returns-in_err-bits-in-Two-clause-err g c =
    let p = err_from_is_err_and c.from_residual.result c.from_residual.ensures.1 in
    rw (p.1, p.2) (rw c.in-Two.is (c.in_err-bits-in-Two.ensures.err Two))

pub returns-in_ok-bits-in-Two-clause-lines : goal.returns-in_ok-bits-in-Two-clause-lines
returns-in_ok-bits-in-Two-clause-lines g c =
    let last = stream c.number_from.new.ahead (g.R.Source.state c.number_from.new.reader) in
    rw c.in-Two.is
    (GaveLines-front (number_due Two 24 Bits) (number Bits c.in_ok-bits-in-Two.bits) _ _ last last refl (c.in_ok-bits-in-Two.ensures.ok Two) (GaveLines-none _ last))
