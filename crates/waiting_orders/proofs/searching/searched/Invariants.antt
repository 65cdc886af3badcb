use Rattle.std.proofs.Common.{◌≤◌, ◌+◌, ◌-◌, length}
use Rattle.waiting_orders.specs.Search.{IsCountedSearch, IsSearched}
use Rattle.waiting_orders.specs.Walked.{IsRooted}
use Rattle.waiting_orders.proofs.searching.searched.Given as goal

abbrev pub invariant-loop-node : goal.invariant-loop-node
invariant-loop-node l = IsSearched l.board l.search × (l.search.bytes ≤ l.room) × IsCountedSearch l.board l.search × IsRooted l.board l.search.done.keys l.search.ahead.keys

abbrev pub decreases-loop-node : goal.decreases-loop-node
decreases-loop-node l = length l.search.ahead.keys + (l.room - l.search.bytes)
