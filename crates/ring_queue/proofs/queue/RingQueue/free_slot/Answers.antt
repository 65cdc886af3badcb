use Rattle.ring_queue.proofs.Handing.{asks_free, freed}
use Rattle.ring_queue.proofs.queue.RingQueue.free_slot.Goals as goal

pub store-requires : goal.store-requires
store-requires g c =
    let q = c.args.self.now in
    asks_free q.plan q.table.shared.key q.table.shared.table_id c.args.seat.now c.args.slot c.flag-flag.result q.laid c.requires.seat c.requires.has c.flag-flag.ensures

pub returns-clause-seat : goal.returns-clause-seat
returns-clause-seat g c =
    let q = c.args.self.now in
    (freed q.plan q.table.shared.table_id c.args.seat.now c.store.new.seat c.args.slot c.requires.seat c.requires.has c.store.ensures).0

pub returns-clause-keeps : goal.returns-clause-keeps
returns-clause-keeps g c =
    let q = c.args.self.now in
    (freed q.plan q.table.shared.table_id c.args.seat.now c.store.new.seat c.args.slot c.requires.seat c.requires.has c.store.ensures).1
