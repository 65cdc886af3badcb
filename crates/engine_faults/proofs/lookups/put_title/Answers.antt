use Rattle.std.proofs.Common.{◌++◌, codes, refl, ◌∙◌}
use Rattle.std.proofs.lemmas.Result.{err_from_is_err_and}
use Rattle.text_io.proofs.Sends.{Puts-refused, Sends-none, Sends-trans}
use Rattle.engine_faults.proofs.Titles.{from_first, from_second, from_third, puts_fourth, stops_within}
use Rattle.engine_faults.proofs.lookups.put_title.Goals as goal

pub returns-in_err-put : goal.returns-in_err-put
returns-in_err-put g c =
    let h = c.args.block.now in
    let x = c.args.entry.now.number.now in
    let y = c.args.entry.now.name.now in
    let p = err_from_is_err_and c.from_residual.result c.from_residual.ensures.1 in
    let t = rw c.as_bytes.ensures.value at c.in_err-put.ensures.prefix in
    rw (p.1, p.2)
    (Puts-refused _ _ _ refl _ _ _ _ c.in_err-put.ensures
    (stops_within _ _ _ h h x _ _ (from_first h x (codes " ") y (codes "\n")) (Sends-none _ h) t) _)

pub returns-in_err-put-2 : goal.returns-in_err-put-2
returns-in_err-put-2 g c =
    let h = c.args.block.now in
    let x = c.args.entry.now.number.now in
    let y = c.args.entry.now.name.now in
    let p = err_from_is_err_and c.from_residual-in_err-put-2.result c.from_residual-in_err-put-2.ensures.1 in
    let s = rw c.as_bytes.ensures.value at c.in_ok-put.ensures.ok in
    rw (p.1, p.2)
    (Puts-refused _ _ _ c.in_ok-put.ensures.quiet _ _ _ _ c.in_err-put-2.ensures
    (stops_within _ _ _ (h ++ x) _ (codes " ") _ _ (from_second h x (codes " ") y (codes "\n")) s c.in_err-put-2.ensures.prefix) _)

pub returns-in_err-put-3 : goal.returns-in_err-put-3
returns-in_err-put-3 g c =
    let h = c.args.block.now in
    let x = c.args.entry.now.number.now in
    let y = c.args.entry.now.name.now in
    let p = err_from_is_err_and c.from_residual-in_err-put-3.result c.from_residual-in_err-put-3.ensures.1 in
    let s = rw c.as_bytes.ensures.value at c.in_ok-put.ensures.ok in
    let both = Sends-trans _ _ _ (h ++ x) _ (codes " ") _ s c.in_ok-put-2.ensures.ok in
    let t = rw c.as_bytes-2.ensures.value at c.in_err-put-3.ensures.prefix in
    rw (p.1, p.2)
    (Puts-refused _ _ _ (c.in_ok-put-2.ensures.quiet ∙ c.in_ok-put.ensures.quiet) _ _ _ _ c.in_err-put-3.ensures
    (stops_within _ _ _ (h ++ x ++ codes " ") _ y _ _ (from_third h x (codes " ") y (codes "\n")) both t) _)

pub returns : goal.returns
returns g c =
    let h = c.args.block.now in
    let x = c.args.entry.now.number.now in
    let y = c.args.entry.now.name.now in
    let s = rw c.as_bytes.ensures.value at c.in_ok-put.ensures.ok in
    let both = Sends-trans _ _ _ (h ++ x) _ (codes " ") _ s c.in_ok-put-2.ensures.ok in
    let t = rw c.as_bytes-2.ensures.value at c.in_ok-put-3.ensures.ok in
    let all = Sends-trans _ _ _ (h ++ x ++ codes " ") _ y _ both t in
    let quiet = c.in_ok-put-3.ensures.quiet ∙ (c.in_ok-put-2.ensures.quiet ∙ c.in_ok-put.ensures.quiet) in
    puts_fourth h x (codes " ") y (codes "\n") _ _ _ _ _ c.put-4.result all quiet c.put-4.ensures
