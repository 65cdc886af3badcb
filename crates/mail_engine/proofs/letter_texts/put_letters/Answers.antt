use Rattle.std.proofs.Common.{◌∙◌}
use Rattle.std.proofs.lemmas.Result.{err_from_is_err_and}
use Rattle.text_io.proofs.Sends.{Puts-refused}
use Rattle.mail_engine.specs.Posts.{letter_text}
use Rattle.mail_engine.proofs.Pieces.{more_lines, stops_at_lines}
use Rattle.mail_engine.proofs.letter_texts.put_letters.Goals as goal

pub returns-in_err-put_letter : goal.returns-in_err-put_letter
returns-in_err-put_letter g c =
    let p = err_from_is_err_and c.from_residual.result c.from_residual.ensures.1 in
    let prefix = stops_at_lines letter_text c.args.letters.now c.loop-letter.letter-index _ _ _ _ _ _ c.loop-letter-test.true
    c.loop-letter.invariant.sends c.in_err-put_letter.ensures.prefix in
    rw (p.1, p.2) (Puts-refused _ _ _ c.loop-letter.invariant.quiet _ _ _ _ c.in_err-put_letter.ensures prefix _)

pub loop-letter-preserved : goal.loop-letter-preserved
loop-letter-preserved g c = record {
  sends = more_lines letter_text c.args.letters.now c.loop-letter.letter-index _ _ _ _ _ _ c.loop-letter-test.true c.loop-letter.invariant.sends
      _ c.in_ok-put_letter.ensures.ok;
  quiet = c.in_ok-put_letter.ensures.quiet ∙ c.loop-letter.invariant.quiet;
}
