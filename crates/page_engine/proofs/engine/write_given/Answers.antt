use Rattle.std.proofs.lemmas.Result.{err_from_is_err_and}
use Rattle.std.proofs.Common.{refl}
use Rattle.page_engine.proofs.Together.{Pages-ended, Pages-gave, Pages-unmade}
use Rattle.page_engine.proofs.engine.write_given.Goals as goal

pub returns-in_err-content : goal.returns-in_err-content
returns-in_err-content g c =
    let p = err_from_is_err_and c.from_residual.result c.from_residual.ensures.1 in
    rw p.1 (Pages-unmade _ _ _ _ _ _ c.in_err-content.field-0.0 p.0 p.2 c.in_err-content.ensures.only_memory refl)

pub returns-in_err-write_page : goal.returns-in_err-write_page
returns-in_err-write_page g c =
    let p = err_from_is_err_and c.from_residual-in_err-write_page.result c.from_residual-in_err-write_page.ensures.1 in
    let content = c.in_ok-content in
    let writes = rw c.as_slice.ensures at c.in_err-write_page.ensures in
    rw p.1 (Pages-gave c.args.frame.now c.args.given.now c.requires content.content.bytes.items content.ensures.ok _ _ _ c.in_err-write_page.field-0.0 p.0 p.2 writes.only_write writes.prefix writes.cause)

pub returns : goal.returns
returns g c =
    let content = c.in_ok-content in
    let writes = rw c.as_slice.ensures at c.in_ok-write_page.ensures in
    Pages-ended c.args.frame.now c.args.given.now c.requires content.content.bytes.items content.ensures.ok _ _ _ c.ended.result c.ended.ensures writes.ok writes.quiet
