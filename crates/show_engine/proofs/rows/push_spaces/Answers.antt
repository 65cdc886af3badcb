use Rattle.std.proofs.Common.{◌++◌, ap, ◌∙◌, arith}
use Rattle.std.proofs.lemmas.List.{take-replicate}
use Rattle.show_engine.proofs.rows.push_spaces.Goals as goal

pub returns-clause-text : goal.returns-clause-text
returns-clause-text c =
    c.push.ensures.bytes ∙ ap (λ spaces. c.args.line.now ++ spaces) (take-replicate c.args.count 192 32 (omega (arith, c.requires)))
