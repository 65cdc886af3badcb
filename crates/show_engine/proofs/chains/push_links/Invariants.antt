use Rattle.std.proofs.Common.{◌≡◌, ◌≤◌, ◌+◌, ◌*◌, ◌-◌, ◌++◌, length}
use Rattle.show_engine.specs.Chains.{links_text}
use Rattle.show_engine.proofs.chains.push_links.Given as goal

-- so many nodes were put, and the others are left
abbrev pub invariant-loop : goal.invariant-loop
invariant-loop g l = record {
  text : l.fn.line ++ links_text g.row.B l.world.shared l.most l.from ≡ l.line ++ links_text g.row.B l.world.shared (l.most - l.counter) l.next;
  short : length l.line ≤ length l.fn.line + 12 * l.counter;
}
