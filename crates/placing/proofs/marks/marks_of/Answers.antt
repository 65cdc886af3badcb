use Rattle.std.proofs.Common.{◌≡◌, take_all, refl, sym, subst}
use Rattle.std.proofs.lemmas.List.Elements.{All-nil}
use Rattle.placing.specs.Parts.{all_of, begun}
use Rattle.placing.specs.Reasons.{IsCutOf}
use Rattle.placing.proofs.Marking.{AreMarked, adds_more}
use Rattle.placing.proofs.marks.marks_of.Goals as goal

pub loop-index-init : goal.loop-index-init
loop-index-init c =
    subst (AreMarked c.args.history.now c.args.until 0) (sym c.new-calls.ensures.items)
    (record { all = refl; each = All-nil (IsCutOf c.args.history.now c.args.until) })

pub loop-index-preserved : goal.loop-index-preserved
loop-index-preserved c =
    adds_more c.args.history.now c.args.until c.loop-index.index c.has_at-is_in.result c.index-history-index.result c.loop-index.calls.items
    c.push_call.new.calls.items c.loop-index-test.true c.index-history-index.is c.in_ok-push_call.ensures c.loop-index.invariant

pub returns-clause-all : goal.returns-clause-all
returns-clause-all c =
    subst (λ ops. all_of c.loop-index.calls.items ≡ begun c.args.until ops) (take_all c.loop-index.index c.args.history.now c.loop-index-test.false) c.loop-index.invariant.all
