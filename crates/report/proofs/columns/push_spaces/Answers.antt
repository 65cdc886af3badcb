use Rattle.std.proofs.Common.{◌++◌, ap, ◌∙◌}
use Rattle.std.proofs.lemmas.List.{take-replicate}
use Rattle.report.proofs.columns.push_spaces.Goals as goal

pub returns-clause-text : goal.returns-clause-text
returns-clause-text c =
    c.push.ensures.bytes ∙ ap (λ spaces. c.args.line.now ++ spaces) (take-replicate c.args.count 20 32 c.requires.few)
