use Rattle.std.proofs.Common.{ℕ, ◌+◌, ◌*◌, ◌^◌, get_or, ap, arith}
use Rattle.ring_queue.specs.Seats.{view}
use Rattle.ring_queue.proofs.Calls.{fills_there}
use Rattle.ring_queue.proofs.Asks.{asks_fill}
use Rattle.ring_queue.proofs.Placing.{own_slot}
use Rattle.ring_queue.proofs.Runs.{ran_fill}
use Rattle.ring_queue.proofs.queue.RingQueue.fill.Goals as goal

pub store-requires : goal.store-requires
store-requires g c =
    let q = c.args.self.now in
    let s = c.args.seat.now in
    let sits = c.requires.sits in
    let words = q.laid.words in
    let slot = c.slot_of-slot.ensures in
    let within = slot.within in
    let has = c.requires.claimed in
    let i : ℕ = 32 + 2 * c.slot_of-slot.result in
    let w : ℕ = c.parity_of.result * 2 ^ 63 + c.args.payload in
    let whole = asks_fill q.plan q.table.shared.key q.table.shared.table_id s q.laid i w sits (omega (arith, words, within)) (own_slot q.plan c.slot_of-slot.result within)
    (fills_there q.plan (view s) c.args.place has.0 has.1 _ _ has.2 (ap (λ k. 32 + 2 * k) slot.value) (λ i. c.parity_of.ensures i * 2 ^ 63 + has.3 i))
    (λ n v' k. ran_fill q.plan i w (view s) n v' k) c.requires.stored in (
      whole.0,
      whole.1,
      λ state h count mine small.
          let q = whole.2 state h count mine small in
          (q.0, q.1, q.2, q.3, (q.4.0, (get_or state.words i 0, q.4.1), q.4.2, q.4.3)),
    )
