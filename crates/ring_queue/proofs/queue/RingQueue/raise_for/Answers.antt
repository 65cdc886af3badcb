use Rattle.std.proofs.Common.{ℕ, ◌+◌, nat_eq, [], ◌∷◌, sym, subst, ◌∙◌, arith}
use prog.Atomic.{either}
use Rattle.ring_queue.specs.Steps.{pops, FrontsTaken}
use Rattle.ring_queue.specs.Knowledge.{SeatView}
use Rattle.ring_queue.specs.Seats.{view}
use Rattle.ring_queue.proofs.Takes.{takes_words}
use Rattle.ring_queue.proofs.Calls.{Does}
use Rattle.ring_queue.proofs.PlacedAsks.{asks_take}
use Rattle.ring_queue.proofs.Runs.{Made, ran_take}
use Rattle.ring_queue.proofs.queue.RingQueue.raise_for.Goals as goal

pub compare_exchange-was-requires : goal.compare_exchange-was-requires
compare_exchange-was-requires g c =
    let q = c.args.self.now in
    let s = c.args.seat.now in
    let w : ℕ = g.read.0 in
    let sits = c.requires.1.1.0.sits in
    let Raises : ℕ → Type 0 = λ y. Does q.plan 16 (view s) (λ n. either (nat_eq n y) (y + 1) n) (pops (view s).number (w ∷ [])) (FrontsTaken q.plan (w ∷ [])) in
    asks_take q.plan q.table.shared.key q.table.shared.table_id s q.laid c.requires.1.1.1.0 w g.read.1 c.requires.1.1.1.1.1.1.1 (λ n. either (nat_eq n s.head) (s.head + 1) n) sits
    (subst Raises (sym sits.head) (λ ws seats r is run whole knew. takes_words q.plan ws seats r (view s) is run whole knew (w ∷ []) (omega arith) c.requires.1.1.1.1.1.0 (λ value. c.requires.1.1.1.1.0)))
    (subst (λ (y : ℕ). (n : ℕ) (v' : SeatView) → FrontsTaken q.plan (w ∷ []) (view s) n v' → Made q.plan 16 n (either (nat_eq n y) (y + 1) n) (view s) v') (sym sits.head)
    (λ n v' k. ran_take q.plan (w ∷ []) (view s) n v' k))
    c.requires.1.1.1.1.1.0 c.requires.1.1.1.1.1.1.0

pub returns-clause-took : goal.returns-clause-took
returns-clause-took g c won =
    let told = c.compare_exchange-was.ensures.2.1 (won ∙ c.requires.1.1.0.sits.head) in
    (told.0, told.1, told.2, record { between = told.3.1.0; deeds = told.3.1.1 })
