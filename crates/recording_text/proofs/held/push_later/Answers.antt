use Rattle.std.proofs.Common.{◌<◌, ◌∙◌, ap, length, rules, subst}
use Rattle.recording_text.specs.HeldTexts.{StampsFit, stamped_later}
use Rattle.recording_text.proofs.HeldTexts.{added-more, fit-more}
use Rattle.recording_text.proofs.held.push_later.Goals as goal

pub loop-index-preserved : goal.loop-index-preserved
loop-index-preserved c =
    let ops = c.args.operations.now in
    let index = c.loop-index.index in
    let less : index < length ops = search rules in (
      added-more c.args.count ops index _ c.args.history.now.items c.loop-index.history.items c.push_to.new.operations.items c.in-Some.later less c.loop-index.invariant.0
          (c.in-Some.ensures.0 ∙ ap (stamped_later c.args.count) c.index-operations-index.is)
          c.in_ok-push_to.ensures,
      fit-more c.args.count ops index _ less c.loop-index.invariant.1 (subst (StampsFit c.args.count) c.index-operations-index.is c.in-Some.ensures.1),
    )
