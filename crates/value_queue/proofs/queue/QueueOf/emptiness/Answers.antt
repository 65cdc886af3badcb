use Rattle.value_queue.specs.Queues.{arena_of}
use Rattle.value_queue.specs.Sound.{sight, clear}
use Rattle.value_queue.proofs.Learned.{on}
use Rattle.value_queue.proofs.Looked.{found}
use Rattle.value_queue.proofs.queue.QueueOf.emptiness.Goals as goal

pub returns-clause-found : goal.returns-clause-found
returns-clause-found g c =
    let r = arena_of c.args.self.now in
    let s = c.args.seat.now in
    let t = c.emptiness.new.seat in
    let told = c.emptiness.ensures in
    found (sight s) (sight t) (clear r c.args.self.now.carries s c.requires.0.seat) (clear r c.args.self.now.carries t told.ready.seat)
    (on s t (told.values c.args.self.now.carries)) c.emptiness.result told.found
