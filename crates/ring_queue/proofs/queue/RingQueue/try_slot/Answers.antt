use Rattle.ring_queue.proofs.Handing.{asks_try, tried}
use Rattle.ring_queue.proofs.queue.RingQueue.try_slot.Goals as goal

pub compare_exchange-requires : goal.compare_exchange-requires
compare_exchange-requires g c =
    let q = c.args.self.now in
    asks_try q.plan q.table.shared.key q.table.shared.table_id c.args.seat.now c.args.slot c.flag-flag.result q.laid c.requires.ready
    c.requires.carries c.requires.none c.requires.slot c.flag-flag.ensures

pub returns-clause-ready : goal.returns-clause-ready
returns-clause-ready g c =
    let q = c.args.self.now in
    (tried q.plan q.table.shared.key q.table.shared.table_id c.args.seat.now c.compare_exchange.new.seat c.args.slot c.flag-flag.result
    c.compare_exchange.result q.laid.key c.requires.ready c.requires.carries c.requires.none c.requires.slot c.flag-flag.ensures
    c.compare_exchange.ensures).0

pub returns-clause-keeps : goal.returns-clause-keeps
returns-clause-keeps g c =
    let q = c.args.self.now in
    (tried q.plan q.table.shared.key q.table.shared.table_id c.args.seat.now c.compare_exchange.new.seat c.args.slot c.flag-flag.result
    c.compare_exchange.result q.laid.key c.requires.ready c.requires.carries c.requires.none c.requires.slot c.flag-flag.ensures
    c.compare_exchange.ensures).1
