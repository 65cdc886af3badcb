-- The registers with which a call goes on.
use Rattle.std.proofs.Common.{◌≡◌, ap}
use Rattle.line_table.specs.declared.lines.Line.{Line}
use Rattle.free_list.specs.declared.outcomes.RowOutcome.{RowOutcome}
use Rattle.free_list.specs.declared.outcomes.RowOutcome.TheVariants.{Goes, Ends}

registers_or : {A : Type 0} → A → RowOutcome A → A
registers_or d (Goes l a) = a
registers_or d (Ends reply) = d

-- outcomes that are the same go on with the same registers
pub same_registers : {A : Type 0} (l k : Line) (a b : A) → Goes l a ≡ Goes k b → a ≡ b
unfolding registers_or
same_registers l k a b e = ap (registers_or a) e
