use Rattle.text_io.proofs.Sends.{Writes-held}
use Rattle.text_io.proofs.short_texts.send.Goals as goal

pub returns : goal.returns
returns g c =
    let s = rw (c.new-block.ensures) at c.in_ok-put.ensures.ok in
    Writes-held _ _ _ c.in_ok-put.ensures.quiet _ _ c.finish.result s c.finish.ensures
