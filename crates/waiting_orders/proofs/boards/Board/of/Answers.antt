-- The two lists are the history's, by first numbers.
use Rattle.waiting_orders.specs.Indexed.{indexed}
use Rattle.waiting_orders.proofs.ByFirst.{board_is}
use Rattle.waiting_orders.proofs.boards.Board.of.Goals as goal

pub returns : goal.returns
returns c =
    board_is (indexed 0 c.args.history.now) (record { others = c.in_ok-others.others; pushes = c.in_ok-pushes.pushes }) _ _ c.in_ok-calls.ensures.others c.in_ok-calls.ensures.pushes
    c.in_ok-others.ensures.same c.in_ok-pushes.ensures.same c.in_ok-others.ensures.rising c.in_ok-pushes.ensures.rising
