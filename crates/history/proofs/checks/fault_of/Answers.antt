use Rattle.std.proofs.Common.{◌≡◌, true, sym, ◌∙◌}
use Rattle.history.specs.History as rule
use Rattle.history.proofs.Placing.{judges_unplaced, judges_new, judges_shared}
use Rattle.history.proofs.checks.fault_of.Goals as goal

pub returns-in_default-clause-fault : goal.returns-in_default-clause-fault
returns-in_default-clause-fault c =
    let o = c.args.operation.now in
    let s : rule.is_shaped o.last o.at o.reply ≡ true = cc in
    let w : rule.lies_within o.first o.last o.at ≡ true = cc in
    judges_unplaced c.args.places.now o s w c.in_default.is

pub returns-in-Ok-None-clause-fault : goal.returns-in-Ok-None-clause-fault
returns-in-Ok-None-clause-fault c =
    let o = c.args.operation.now in
    let s : rule.is_shaped o.last o.at o.reply ≡ true = cc in
    let w : rule.lies_within o.first o.last o.at ≡ true = cc in
    judges_new c.args.places.now c.insert.new.self c.args.operation c.in-Some.at s w c.in-Some.is
    (sym c.in-Ok-None.ensures.old ∙ c.in-Ok-None.field-0-is) c.in-Ok-None.ensures.entries

pub returns-in-Ok-Some-clause-fault : goal.returns-in-Ok-Some-clause-fault
returns-in-Ok-Some-clause-fault c =
    let o = c.args.operation.now in
    let s : rule.is_shaped o.last o.at o.reply ≡ true = cc in
    let w : rule.lies_within o.first o.last o.at ≡ true = cc in
    judges_shared c.args.places.now c.insert.new.self o c.in-Some.at c.in-Ok-Some.field-0-0 s w c.in-Some.is
    (sym c.in-Ok-Some.ensures.old ∙ c.in-Ok-Some.field-0-is)
