use Rattle.text_io.proofs.Numerals.{numeral_decimal}
use Rattle.schedule_text.proofs.printers.push_numeral.Goals as goal

pub returns-clause-digits : goal.returns-clause-digits
returns-clause-digits c = rw (numeral_decimal c.args.number c.ranges.number.fits) c.push_number.ensures.digits
