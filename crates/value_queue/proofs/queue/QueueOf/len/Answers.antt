use Rattle.value_queue.specs.Queues.{arena_of}
use Rattle.value_queue.specs.Sound.{sight, clear}
use Rattle.value_queue.proofs.Learned.{on}
use Rattle.value_queue.proofs.Looked.{long}
use Rattle.value_queue.proofs.queue.QueueOf.len.Goals as goal

pub returns-clause-long : goal.returns-clause-long
returns-clause-long g c =
    let r = arena_of c.args.self.now in
    let s = c.args.seat.now in
    let t = c.len.new.seat in
    let told = c.len.ensures in
    long (sight s) (sight t) (clear r c.args.self.now.carries s c.requires.seat.0.seat) (clear r c.args.self.now.carries t told.ready.seat)
    (on s t (told.values c.args.self.now.carries)) c.len.result told.long
