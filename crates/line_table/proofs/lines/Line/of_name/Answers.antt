use Rattle.line_table.proofs.Names.{line_of-exact, line_of-found, line_of-none}
use Rattle.line_table.proofs.lines.Line.of_name.Goals as goal

pub returns-clause-exact : goal.returns-clause-exact
returns-clause-exact c line = rw c.first_named.ensures (line_of-exact c.args.name.now line)

pub returns-clause-found : goal.returns-clause-found
returns-clause-found c = rw c.first_named.ensures (line_of-found c.args.name.now)

pub returns-clause-none : goal.returns-clause-none
returns-clause-none c = rw c.first_named.ensures (line_of-none c.args.name.now)
