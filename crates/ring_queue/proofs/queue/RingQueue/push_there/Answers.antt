use mathlib.Core.Bool.{true≢false}
use Rattle.std.proofs.Common.{ap, sym, ◌∙◌, arith}
use Rattle.ring_queue.specs.Seats.{view}
use Rattle.ring_queue.proofs.Moved.{kept_none, gave_slot, gives_then}
use Rattle.ring_queue.proofs.Pushing.{lost_by}
use Rattle.ring_queue.proofs.queue.RingQueue.push_there.Goals as goal

pub returns-then-was-tail-clause-moves : goal.returns-then-was-tail-clause-moves
returns-then-was-tail-clause-moves g c =
    let q = c.args.self.now in
    let s = c.args.seat.now in
    let t = c.claim-was.new.seat in
    let u = c.fill.new.seat in
    let told = c.claim-was.ensures.told.won (c.if-was-tail.true ∙ c.requires.ready.sits.tail) in
    gives_then q.plan q.table.shared.table_id c.args.body s t u (gave_slot q.plan s t _ (view s).number c.args.body c.claim-was.ensures.moves
    told.2.mine) c.claim-was.ensures.seat c.fill.ensures.seat c.fill.ensures.slots (ap (λ k. k.seen) c.fill.ensures.known)

pub returns-then-was-ge-SHUT-clause-moves : goal.returns-then-was-ge-SHUT-clause-moves
returns-then-was-ge-SHUT-clause-moves g c =
    kept_none c.args.self.now.plan c.args.seat.now c.claim-was.new.seat _ c.claim-was.ensures.moves (c.claim-was.ensures.told.shut c.if-was-ge-SHUT.true).mine

pub returns-else-was-ge-SHUT-clause-moves : goal.returns-else-was-ge-SHUT-clause-moves
returns-else-was-ge-SHUT-clause-moves g c =
    let small = c.if-was-ge-SHUT.false in
    let told = c.claim-was.ensures.told.lost (λ e. c.if-was-tail.false (e ∙ sym c.requires.ready.sits.tail)) (omega (arith, small)) in
    kept_none c.args.self.now.plan c.args.seat.now c.claim-was.new.seat _ c.claim-was.ensures.moves told.1.mine

pub returns-else-was-ge-SHUT-clause-says : goal.returns-else-was-ge-SHUT-clause-says
returns-else-was-ge-SHUT-clause-says g c =
    let small = c.if-was-ge-SHUT.false in
    lost_by c.args.self.now.plan c.args.seat.now c.claim-was.new.seat _ _ c.claim-was.ensures.told c.requires.ready.sits.tail c.claim-was.ensures.seat.tail c.if-was-tail.false (omega (arith, small))

pub fill-requires-clause-stored : goal.fill-requires-clause-stored
fill-requires-clause-stored g c placed = absurd (true≢false (sym placed ∙ c.requires.ready.unplaced))
