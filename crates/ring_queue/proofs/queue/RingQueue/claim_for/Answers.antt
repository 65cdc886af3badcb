use Rattle.std.proofs.Common.{ℕ, ◌+◌, ◌<◌, ◌^◌, nat_eq, [], ◌∷◌, sym, subst, ◌∙◌, arith}
use Rattle.std.proofs.lemmas.List.Elements.{All-nil, All-cons}
use prog.Atomic.{either}
use Rattle.ring_queue.specs.Steps.{pushes, AreSmall, HasRoom, PlacesClaimed}
use Rattle.ring_queue.specs.Knowledge.{SeatView}
use Rattle.ring_queue.specs.Seats.{view}
use Rattle.ring_queue.proofs.Claims.{claims_bodies}
use Rattle.ring_queue.proofs.Calls.{Does, numbered}
use Rattle.ring_queue.proofs.PlacedAsks.{asks_claim}
use Rattle.ring_queue.proofs.Runs.{Made, ran_claim}
use Rattle.ring_queue.proofs.queue.RingQueue.claim_for.Goals as goal

pub compare_exchange-was-requires : goal.compare_exchange-was-requires
compare_exchange-was-requires g c =
    let q = c.args.self.now in
    let s = c.args.seat.now in
    let sits = c.requires.1.1.0.sits in
    let at = numbered q.plan q.table.shared.table_id s sits in
    let seen = c.requires.1.1.1.1.1.0 in
    let small : AreSmall (0 ∷ []) = All-cons (λ b. b < 2 ^ 48) 0 [] (omega arith) (All-nil (λ b. b < 2 ^ 48)) in
    let room : HasRoom q.plan (view s).head (view s).tail 1 = subst (λ (y : ℕ × ℕ). HasRoom q.plan y.0 y.1 1) (λ i. (sits.head i, sits.tail i)) (record { some = omega arith; room = omega (arith, seen.0); within = omega (arith, seen.1) }) in
    let Claims : ℕ → Type 0 = λ y. Does q.plan 0 (view s) (λ n. either (nat_eq n y) (y + 1) n) (pushes (view s).number (0 ∷ [])) (PlacesClaimed q.plan (0 ∷ [])) in
    asks_claim q.plan q.table.shared.key q.table.shared.table_id s q.laid c.requires.1.1.1.0 g.pushing c.requires.1.1.1.1.1.1 (λ n. either (nat_eq n s.tail) (s.tail + 1) n) sits
    (subst Claims (sym sits.tail) (λ ws seats r is run whole knew. claims_bodies q.plan ws seats r (view s) is run whole knew c.requires.1.1.0.rests (0 ∷ []) room at.0 at.1 small (λ b. c.requires.1.1.1.1.0)))
    (subst (λ (y : ℕ). (n : ℕ) (v' : SeatView) → PlacesClaimed q.plan (0 ∷ []) (view s) n v' → Made q.plan 0 n (either (nat_eq n y) (y + 1) n) (view s) v') (sym sits.tail)
    (λ n v' k. ran_claim q.plan (0 ∷ []) (view s) n v' k))
    c.requires.1.1.0.rests

pub returns-clause-due : goal.returns-clause-due
returns-clause-due g c won =
    let told = c.compare_exchange-was.ensures.2.1 (won ∙ c.requires.1.1.0.sits.tail) in
    (record { between = told.1.0; deeds = told.1.1 }, told.0)
