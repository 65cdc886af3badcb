use Rattle.std.proofs.Common.{◌≡◌, length, sym, ap, ◌∙◌, arith}
use Rattle.std.proofs.lemmas.Grind.{common_steps}
use Rattle.std.proofs.lemmas.Bool.{eqb-true}
use Rattle.std.proofs.lemmas.List.{nil_from_length}
use Rattle.std.proofs.lemmas.Result.{err_from_is_err_and}
use Rattle.schedule_text.proofs.Joining.{refused_behind_header, extra_behind, whole_text}
use Rattle.schedule_text.proofs.readers.schedule_of.Goals as goal

pub returns-in_err-events-clause-err : goal.returns-in_err-events-clause-err
returns-in_err-events-clause-err c =
    let p = err_from_is_err_and c.from_residual-in_err-events.result c.from_residual-in_err-events.ensures.1 in
    rw (p.1, p.2) (refused_behind_header c.in_ok-header.header _ _ _ c.in_ok-header.ensures.text c.in_err-events.ensures.err)

pub returns-then-not-is_empty-clause-err : goal.returns-then-not-is_empty-clause-err
returns-then-not-is_empty-clause-err c =
    rw c.header_lines.ensures.count
    (extra_behind c.in_ok-header.header c.in_ok-events.events.items _ _ _ c.in_ok-header.ensures.text c.in_ok-events.ensures.text c.in_ok-events.ensures.count
    (λ none. let long : length c.in_ok-events.rest.now ≡ 0 = ap length none in grind (arith, common_steps)))

pub returns-clause-text : goal.returns-clause-text
returns-clause-text c =
    let empty = nil_from_length _ (eqb-true _ _ (sym c.is_empty.ensures ∙ c.if-not-is_empty.false)) in
    whole_text c.in_ok-header.header c.in_ok-events.events.items _ _ _ c.in_ok-header.ensures.text c.in_ok-events.ensures.text c.in_ok-events.ensures.count empty
