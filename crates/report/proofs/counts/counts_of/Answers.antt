use Rattle.std.proofs.Common.{◌≤◌, unwrap_or, ap, ◌∙◌, arith}
use Rattle.history.specs.declared.operations.Stamped.{Stamped}
use Rattle.report.specs.declared.kinds.Kind.{Kind}
use Rattle.report.proofs.KindCounts.{counted_more, counted_fits}
use Rattle.report.specs.Kinds.{kind_of, same_kind}
use Rattle.report.proofs.SameKind.{same_kind_yes, same_kind_only, equals_is}
use Rattle.report.proofs.counts.counts_of.Goals as goal

-- the kind of an operation
abbrev operation_kind : Stamped → Kind
operation_kind o = kind_of o.reply

pub overflow_add-number : goal.overflow_add-number
overflow_add-number c =
    let fits : c.unwrap_or-number.result ≤ c.loop-operation.operation-index =
    counted_fits operation_kind same_kind same_kind_yes same_kind_only c.args.history.now c.loop-operation.operation-index _ c.kind_of_reply-kind.result _ _ c.loop-operation-test.true equals_is
    c.loop-operation.invariant (c.unwrap_or-number.ensures ∙ ap (λ o. unwrap_or o 0) (c.copied.ensures ∙ c.get.ensures.value)) in
    omega arith

pub loop-operation-preserved : goal.loop-operation-preserved
loop-operation-preserved c =
    counted_more operation_kind same_kind same_kind_yes same_kind_only c.args.history.now c.loop-operation.operation-index c.operation-item.result _
    c.kind_of_reply-kind.result _ _ c.unwrap_or-number.result c.loop-operation-test.true
    c.operation-item.is equals_is c.kind_of_reply-kind.ensures c.loop-operation.invariant
    (c.unwrap_or-number.ensures ∙ ap (λ o. unwrap_or o 0) (c.copied.ensures ∙ c.get.ensures.value)) c.in-Ok.ensures.entries
