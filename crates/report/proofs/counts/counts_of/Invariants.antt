use Rattle.std.proofs.Common.{◌≡◌, map, take}
use Rattle.report.specs.Kinds.{kind_of, same_kind}
use Rattle.report.specs.Counts.{counts}
use Rattle.report.proofs.counts.counts_of.Given as goal

abbrev pub invariant-loop-operation : goal.invariant-loop-operation
invariant-loop-operation l =
    l.counts.entries ≡ counts same_kind (map (λ o. kind_of o.reply) (take l.operation-index l.history))
