use Rattle.std.proofs.Common.{rules}
use Rattle.counted_ref.proofs.Words.{count_fits}
use Rattle.counted_ref.proofs.reference.CountedRefOf.count.Goals as goal

pub returns-clause-range : goal.returns-clause-range
returns-clause-range g c = count_fits g.row.B c.self.invariant c.self.inside.word (search rules)
