-- Outcomes that are the same go on at the same line.
use Rattle.std.proofs.Common.{◌≡◌, ap}
use Rattle.line_table.specs.declared.lines.Line.{Line}
use Rattle.free_list.specs.declared.outcomes.RowOutcome.{RowOutcome}
use Rattle.free_list.specs.declared.outcomes.RowOutcome.TheVariants.{Goes, Ends}
use Rattle.two_lock.specs.Pushes.{Running}

line_or : Line → RowOutcome Running → Line
line_or d (Goes l a) = l
line_or d (Ends reply) = d

pub same_line : (l k : Line) (a b : Running) → Goes l a ≡ Goes k b → l ≡ k
unfolding line_or
same_line l k a b e = ap (line_or l) e
