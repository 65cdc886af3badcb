use Rattle.std.proofs.Common.{drop}
use Rattle.placing.specs.Reasons.{Cover}
use Rattle.placing.proofs.reasons.cover.Given as goal

abbrev pub invariant-loop-span : goal.invariant-loop-span
invariant-loop-span l = Cover l.next l.last (drop l.span-index l.spans) → Cover l.first l.last l.spans
