use Rattle.std.specs.Prelude.{◌≡◌, ◌++◌, List, IfSome}
use Rattle.std.specs.List.{All}
use Rattle.mailbox.specs.Refusals.{EndsPost}
use Rattle.mailbox.specs.Threads.{IsOfOffice, ComesBack, TellFirst}
use Rattle.mailbox.proofs.threads.join_all.Given as goal

abbrev pub invariant-loop-thread : goal.invariant-loop-thread
invariant-loop-thread g l =
    let rest = l.thread-iterator.rest.items in
    (done : List _)
    × (done ++ rest ≡ l.fn.threads.items)
    × TellFirst g.Q.Fifo.is_seat g.Q.Fifo.known g.Q.Fifo.push_cause done l.first
    × IfSome l.first EndsPost
    × All (IsOfOffice g.Q.Fifo.is_seat g.Q.Fifo.permits g.Q.Fifo.known l.fn.office) rest
    × ComesBack g.Q.Fifo.is_seat g.Q.Fifo.permits g.Q.Fifo.known l.fn.office done l.back
