use Rattle.std.proofs.Common.{length, refl, ◌∙◌}
use Rattle.std.specs.List.{flat_map}
use Rattle.std.proofs.lemmas.Result.{err_from_is_err_and}
use Rattle.text_io.proofs.Sends.{Writes-held, Writes-refused}
use Rattle.mail_engine.specs.Posts.{count_text, letter_text}
use Rattle.mail_engine.proofs.Pieces.{stops_at_line, stops_at_others, lines_done}
use Rattle.mail_engine.proofs.letter_texts.write_letters.Goals as goal

pub returns-in_err-put : goal.returns-in_err-put
returns-in_err-put g c =
    let p = err_from_is_err_and c.from_residual.result c.from_residual.ensures.1 in
    let t = rw (c.new-block.ensures, c.as_slice.ensures, c.count_line.ensures) at c.in_err-put.ensures.prefix in
    rw (p.1, p.2)
    (Writes-refused _ _ _ refl _ _ _ _ c.in_err-put.ensures
    (stops_at_line (count_text (length c.args.letters.now)) (flat_map letter_text c.args.letters.now) _ _ t))

pub returns-in_err-put_letters : goal.returns-in_err-put_letters
returns-in_err-put_letters g c =
    let p = err_from_is_err_and c.from_residual-in_err-put_letters.result c.from_residual-in_err-put_letters.ensures.1 in
    let s = rw (c.new-block.ensures, c.as_slice.ensures, c.count_line.ensures) at c.in_ok-put.ensures.ok in
    rw (p.1, p.2)
    (Writes-refused _ _ _ c.in_ok-put.ensures.quiet _ _ _ _ c.in_err-put_letters.ensures
    (stops_at_others (count_text (length c.args.letters.now)) (flat_map letter_text c.args.letters.now) _ _ _ _ s
    c.in_err-put_letters.ensures.prefix))

pub returns : goal.returns
returns g c =
    let s = rw (c.new-block.ensures, c.as_slice.ensures, c.count_line.ensures) at c.in_ok-put.ensures.ok in
    let sends = lines_done (count_text (length c.args.letters.now)) (flat_map letter_text c.args.letters.now) _ _ _ _ _ s c.in_ok-put_letters.ensures.ok in
    Writes-held _ _ _ (c.in_ok-put_letters.ensures.quiet ∙ c.in_ok-put.ensures.quiet) _ _ c.finish.result sends c.finish.ensures
