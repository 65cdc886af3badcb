use Rattle.std.proofs.Common.{bit_or, ◌^◌}
use Rattle.ring_queue.specs.Seats.{view}
use Rattle.ring_queue.proofs.Shuts.{shuts_queue}
use Rattle.ring_queue.proofs.PlacedAsks.{asks_close}
use Rattle.ring_queue.proofs.Runs.{ran_shut}
use Rattle.ring_queue.proofs.queue.RingQueue.shut_words.Goals as goal

pub fetch_or-tail-requires : goal.fetch_or-tail-requires
fetch_or-tail-requires g c =
    let q = c.args.self.now in
    let s = c.args.seat.now in
    let ready = c.requires.seat.ready in
    asks_close q.plan q.table.shared.key q.table.shared.table_id s q.laid c.requires.seat.placed (λ n. bit_or n (2 ^ 62)) ready.sits
    (λ ws seats r is run whole knew. shuts_queue q.plan ws seats r (view s) is run whole knew ready.rests c.requires.role)
    (λ n v' k. ran_shut q.plan (view s) n v' k) ready.rests

pub returns-then-tail-lt-SHUT-clause-said : goal.returns-then-tail-lt-SHUT-clause-said
returns-then-tail-lt-SHUT-clause-said g c =
    let told = c.fetch_or-tail.ensures.2.1 c.if-tail-lt-SHUT.true in
    record { between = told.1.0; deeds = told.1.1 }
