use Rattle.std.proofs.Common.{codes, refl, ◌∙◌}
use Rattle.std.proofs.lemmas.Result.{err_from_is_err_and}
use Rattle.text_io.proofs.Sends.{Puts-refused}
use Rattle.mail_engine.specs.Posts.{sender_text}
use Rattle.mail_engine.proofs.Pieces.{puts_three, stops_at_first, stops_at_second}
use Rattle.mail_engine.proofs.letter_texts.put_letter.Goals as goal

pub returns-in_err-put : goal.returns-in_err-put
returns-in_err-put g c =
    let p = err_from_is_err_and c.from_residual.result c.from_residual.ensures.1 in
    let t = rw (c.as_slice.ensures, c.sender_part.ensures) at c.in_err-put.ensures.prefix in
    rw (p.1, p.2) (Puts-refused _ _ _ refl _ _ _ _ c.in_err-put.ensures (stops_at_first c.args.block.now (sender_text c.args.letter.from) c.args.letter.text.now (codes "\n") _ _ t) _)

pub returns-in_err-put-2 : goal.returns-in_err-put-2
returns-in_err-put-2 g c =
    let p = err_from_is_err_and c.from_residual-in_err-put-2.result c.from_residual-in_err-put-2.ensures.1 in
    let s = rw (c.as_slice.ensures, c.sender_part.ensures) at c.in_ok-put.ensures.ok in
    let t = rw c.as_bytes.ensures.value at c.in_err-put-2.ensures.prefix in
    rw (p.1, p.2)
    (Puts-refused _ _ _ c.in_ok-put.ensures.quiet _ _ _ _ c.in_err-put-2.ensures
    (stops_at_second c.args.block.now (sender_text c.args.letter.from) c.args.letter.text.now (codes "\n") _ _ _ _ s t) _)

pub returns : goal.returns
returns g c =
    let s = rw (c.as_slice.ensures, c.sender_part.ensures) at c.in_ok-put.ensures.ok in
    let t = rw c.as_bytes.ensures.value at c.in_ok-put-2.ensures.ok in
    let quiet = c.in_ok-put-2.ensures.quiet ∙ c.in_ok-put.ensures.quiet in
    puts_three c.args.block.now (sender_text c.args.letter.from) c.args.letter.text.now (codes "\n") _ (g.W.Sink.state c.put.new.sink) _ _ _ _ _ c.put-3.result
    s t quiet c.put-3.ensures
