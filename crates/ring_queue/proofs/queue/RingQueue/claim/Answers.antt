use Rattle.std.proofs.Common.{◌≡◌, ℕ, ◌+◌, nat_eq, length, ap, ◌∙◌, sym, subst, arith}
use prog.Atomic.{either}
use Rattle.ring_queue.specs.Steps.{pushes, HasRoom, PlacesClaimed}
use Rattle.ring_queue.specs.Seats.{view}
use Rattle.ring_queue.proofs.Claims.{claims_bodies}
use Rattle.ring_queue.proofs.Calls.{Does, numbered}
use Rattle.ring_queue.proofs.Asks.{asks_all}
use Rattle.ring_queue.specs.Knowledge.{SeatView}
use Rattle.ring_queue.proofs.Runs.{Made, ran_claim}
use Rattle.ring_queue.proofs.queue.RingQueue.claim.Goals as goal

pub compare_exchange-was-requires : goal.compare_exchange-was-requires
compare_exchange-was-requires g c =
    let q = c.args.self.now in
    let s = c.args.seat.now in
    let sits = c.requires.1.0.sits in
    let words = q.laid.words in
    let has = c.requires.1.1.1.1.1.0 in
    let same : length g.pushed ≡ c.args.count = ap length has.0 ∙ sym c.requires.1.1.1.1.0 in
    let at = numbered q.plan q.table.shared.table_id s sits in
    let room : HasRoom q.plan (view s).head (view s).tail (length g.pushed) = subst (λ (y : ℕ × ℕ × ℕ). HasRoom q.plan y.0 y.1 y.2) (λ i. (sits.head i, sits.tail i, sym same i)) c.requires.1.1.1.0 in
    let Claims : ℕ × ℕ → Type 0 = λ y. Does q.plan 0 (view s) (λ n. either (nat_eq n y.0) (y.0 + y.1) n) (pushes (view s).number g.pushed) (PlacesClaimed q.plan g.pushed) in
    asks_all q.plan q.table.shared.key q.table.shared.table_id s (λ y. PlacesClaimed y g.pushed) q.laid 0 (λ n. either (nat_eq n s.tail) (s.tail + c.args.count) n) c.requires.1.0.unplaced sits (omega (arith, words))
    (subst Claims (λ i. (sym sits.tail i, same i)) (λ ws seats r is run whole knew.
    claims_bodies q.plan ws seats r (view s) is run whole knew c.requires.1.0.rests g.pushed room at.0 at.1 has.1 (λ b. c.requires.1.1.0)))
    (subst (λ (y : ℕ × ℕ). (n : ℕ) (v' : SeatView) → PlacesClaimed q.plan g.pushed (view s) n v' → Made q.plan 0 n (either (nat_eq n y.0) (y.0 + y.1) n) (view s) v') (λ i. (sym sits.tail i, same i))
    (λ n v' k. ran_claim q.plan g.pushed (view s) n v' k))
    c.requires.1.1.1.1.1.1
