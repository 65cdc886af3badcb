use Rattle.std.proofs.Common.{◌≡◌, ℕ, ◌+◌, nat_eq, length, ap, ◌∙◌, sym, subst, arith}
use prog.Atomic.{either}
use Rattle.ring_queue.specs.Steps.{pops, FrontsTaken}
use Rattle.ring_queue.specs.Seats.{view}
use Rattle.ring_queue.proofs.Takes.{takes_words}
use Rattle.ring_queue.proofs.Calls.{Does}
use Rattle.ring_queue.proofs.Asks.{asks_all}
use Rattle.ring_queue.specs.Knowledge.{SeatView}
use Rattle.ring_queue.proofs.Runs.{Made, ran_take}
use Rattle.node_arena.proofs.Lifts.{none_hand}
use Rattle.ring_queue.proofs.Moved.{ready_pop}
use Rattle.ring_queue.proofs.queue.RingQueue.raise_head.Goals as goal

pub compare_exchange-was-requires : goal.compare_exchange-was-requires
compare_exchange-was-requires g c =
    let q = c.args.self.now in
    let s = c.args.seat.now in
    let sits = c.requires.1.0.sits in
    let words = q.laid.words in
    let has = c.requires.1.1.1.1.0 in
    let same : length g.taken ≡ c.args.count = ap length has.0 ∙ sym c.requires.1.1.1.1.1.0.0 in
    let Raises : ℕ × ℕ → Type 0 = λ y. Does q.plan 16 (view s) (λ n. either (nat_eq n y.0) (y.0 + y.1) n) (pops (view s).number g.taken) (FrontsTaken q.plan g.taken) in
    asks_all q.plan q.table.shared.key q.table.shared.table_id s (λ y. FrontsTaken y g.taken) q.laid 16 (λ n. either (nat_eq n s.head) (s.head + c.args.count) n) c.requires.1.0.unplaced sits (omega (arith, words))
    (subst Raises (λ i. (sym sits.head i, same i)) (λ ws seats r is run whole knew. takes_words q.plan ws seats r (view s) is run whole knew g.taken has.1 c.requires.1.1.1.0 (λ value. c.requires.1.1.0)))
    (subst (λ (y : ℕ × ℕ). (n : ℕ) (v' : SeatView) → FrontsTaken q.plan g.taken (view s) n v' → Made q.plan 16 n (either (nat_eq n y.0) (y.0 + y.1) n) (view s) v') (λ i. (sym sits.head i, same i))
    (λ n v' k. ran_take q.plan g.taken (view s) n v' k))
    (ready_pop q.plan.carries q.plan.slots (view s).number g.taken s.token.me c.requires.1.1.1.1.1.1.0 (λ carried. none_hand s.token.me.0.hand (c.requires.1.1.1.1.1.1.1 carried).1))
