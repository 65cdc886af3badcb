use Rattle.std.proofs.Common.{rules, subst}
use Rattle.counted_ref.specs.Ref.{IsRef}
use Rattle.counted_ref.proofs.Words.{holds_ref}
use Rattle.counted_ref.proofs.reference.CountedRefOf.word.Goals as goal

pub returns-clause-in_range : goal.returns-clause-in_range
returns-clause-in_range g c = subst (IsRef g.row.B) c.self.view_is (holds_ref g.row.B c.self.invariant c.self.inside.word (search rules))
