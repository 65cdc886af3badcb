-- At first nothing was tried and the start is ahead; at the end nothing is ahead.
use Rattle.std.proofs.Common.{◌≡◌, ◌≤◌, [], IfSome, All, subst, arith, tests}
use Rattle.waiting_orders.specs.Indexed.{indexed, IsOrder}
use Rattle.waiting_orders.specs.Search.{IsOrderOn, WhereOrder}
use Rattle.waiting_orders.specs.Waiting.{IsCall, IsOfQueue}
use Rattle.waiting_orders.proofs.Counting.{counted_first, start_alone, takes_room}
use Rattle.waiting_orders.proofs.Indices.{is_order, where_order}
use Rattle.waiting_orders.proofs.Relabelled.{with_indices}
use Rattle.waiting_orders.proofs.Rooted.{rooted_first}
use Rattle.waiting_orders.proofs.Trying.{begins_so, none_ahead, none_left}
use Rattle.waiting_orders.proofs.searching.searched.Goals as goal

pub returns-then-room-search-clause-room : goal.returns-then-room-search-clause-room
returns-then-room-search-clause-room c = λ e.
    takes_room c.args.history.now c.in_ok-board.board c.args.room c.in_ok-board.ensures
    (start_alone c.in_ok-board.board c.args.room c.in_ok-search.search.bytes c.in_ok-search.ensures.2 (grind (arith, tests, c.if-room-search.true)))

pub loop-node-init : goal.loop-node-init
loop-node-init c = (
  begins_so c.in_ok-board.board c.in_ok-search.search.done.keys c.in_ok-search.search.ahead.keys c.in_ok-search.ensures.0 c.in_ok-search.ensures.1,
  (let less : c.in_ok-search.search.bytes ≤ c.args.room = grind (arith, tests, c.if-room-search.false) in less),
  counted_first c.in_ok-board.board c.in_ok-search.search.done.keys c.in_ok-search.search.ahead.keys c.in_ok-search.search.bytes c.in_ok-search.ensures.0 c.in_ok-search.ensures.1 c.in_ok-search.ensures.2,
  rooted_first c.in_ok-board.board c.in_ok-search.search.done.keys c.in_ok-search.search.ahead.keys c.in_ok-search.ensures.0 c.in_ok-search.ensures.1,
)

pub returns-clause-none : goal.returns-clause-none
returns-clause-none c =
    let none : c.loop-node.search.ahead.keys ≡ [] = none_left c.loop-node.search.ahead.keys c.pop.result c.in_default.is c.pop.ensures.found in
    λ e h. none_ahead (indexed 0 c.args.history.now) c.in_ok-board.board c.loop-node.search.done.keys c.loop-node.search.ahead.keys c.in_ok-board.ensures none c.loop-node.invariant.0 (with_indices c.args.history.now h)

pub returns-in-Some-2-clause-order : goal.returns-in-Some-2-clause-order
returns-in-Some-2-clause-order c =
    let board = c.in_ok-board.board in
    let ops = c.args.history.now in
    where_order c.in-Some-2.found (IsOrderOn board) (λ order. All IsCall ops → IsOfQueue ops × IsOrder ops order) (is_order ops board c.in_ok-board.ensures)
    (subst (λ x. IfSome x (λ found. WhereOrder found (IsOrderOn board))) c.in-Some-2.is c.in_ok-found.ensures.order)
