use Rattle.std.proofs.Common.{◌≡◌, ◌++◌, List, vec_len}
use Rattle.std.specs.List.{AllByRecursion}
use Rattle.waiting_orders.specs.Nodes.{Spot, IsIn, views, turned}
use Rattle.waiting_orders.specs.Search.{WerePut}
use Rattle.waiting_orders.specs.Walked.{AddsBehind}
use Rattle.waiting_orders.proofs.searching.Search.put_ahead.Given as goal

abbrev pub invariant-loop-node : goal.invariant-loop-node
invariant-loop-node l =
    (before : List Spot) × (l.self.done ≡ l.initial.self.done) × (turned (views l.initial.new.items) ≡ before ++ turned (views l.new.items))
    × WerePut l.room (views l.initial.self.done.keys) (views l.initial.self.ahead.keys) l.initial.self.bytes before (views l.self.ahead.keys) l.self.bytes
    × AllByRecursion (λ u. IsIn u (views l.initial.new.items)) (views l.new.items) × AddsBehind l.initial.self.done.keys (views l.initial.new.items) l.initial.self.ahead.keys l.self.ahead.keys

abbrev pub decreases-loop-node : goal.decreases-loop-node
decreases-loop-node l = vec_len l.new
