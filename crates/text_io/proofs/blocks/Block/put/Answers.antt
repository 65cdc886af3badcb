use Rattle.std.proofs.Common.{[], refl}
use Rattle.std.proofs.lemmas.Result.{err_from_is_err_and}
use Rattle.text_io.proofs.Sends.{Sends-all, TakesPrefix-longer, Puts-more, Puts-written}
use Rattle.text_io.proofs.blocks.Block.put.Goals as goal

pub returns-in_err-empty : goal.returns-in_err-empty
returns-in_err-empty g c =
    let p = err_from_is_err_and c.from_residual.result c.from_residual.ensures.1 in
    let refused = c.in_err-empty.ensures.written in
    rw (p.1, p.2) (record {
      ok = tt;
      quiet = tt;
      only_write = refused.only_write;
      prefix = TakesPrefix-longer _ _ _ _ refused.prefix;
      cause = refused.cause;
    })

pub returns-then-bytes-gt-BLOCK : goal.returns-then-bytes-gt-BLOCK
returns-then-bytes-gt-BLOCK g c =
    let emptied = c.in_ok-empty.ensures.written in
    let written = Puts-written _ _ _ _ c.write_all.result c.in_ok-empty.ensures.emptied c.write_all.ensures in
    Puts-more _ _ _ emptied.quiet _ [] _ _ c.write_all.result (Sends-all _ _ _ [] refl emptied.ok) written
