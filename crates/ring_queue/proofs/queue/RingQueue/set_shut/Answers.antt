use Rattle.std.proofs.Common.{bit_or, ◌^◌, refl, arith}
use Rattle.ring_queue.specs.Steps.{ShutMade}
use Rattle.ring_queue.specs.Seats.{view}
use Rattle.ring_queue.proofs.Shuts.{shuts_queue}
use Rattle.ring_queue.proofs.Asks.{asks_shut}
use Rattle.ring_queue.proofs.Runs.{ran_shut}
use Rattle.ring_queue.proofs.queue.RingQueue.set_shut.Goals as goal

pub fetch_or-tail-requires : goal.fetch_or-tail-requires
fetch_or-tail-requires g c =
    let q = c.args.self.now in
    let s = c.args.seat.now in
    let sits = c.requires.ready.sits in
    let words = q.laid.words in
    asks_shut q.plan q.table.shared.key q.table.shared.table_id s ShutMade q.laid (λ n. bit_or n (2 ^ 62)) refl sits (omega (arith, words))
    (λ ws seats r is run whole knew. shuts_queue q.plan ws seats r (view s) is run whole knew c.requires.ready.rests c.requires.role)
    (λ n v' k. ran_shut q.plan (view s) n v' k) c.requires.ready.rests
