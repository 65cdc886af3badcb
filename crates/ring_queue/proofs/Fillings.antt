-- What the places are filled with that a push claimed, one after another.
use Rattle.std.proofs.Common.{◌≡◌, ℕ, zero, suc, ◌+◌, ◌-◌, ◌^◌, ◌<◌, Some, List, [], ◌∷◌, length, map, get_or, drop, sym, refl, ◌∙◌, arith}
use Rattle.std.proofs.lemmas.Grind.{get_or_default_zero}
use Rattle.std.proofs.lemmas.Option.{slice_get_within}
use Rattle.atomic_table.specs.Seated.{TableId}
use Rattle.ring_queue.specs.declared.seats.Seat.{Seat}
use Rattle.ring_queue.specs.Plans.{Layout, IsPlanned}
use Rattle.ring_queue.specs.Steps.{contents}
use Rattle.ring_queue.specs.Seats.{Sits}

drop_map : {A : Type 0} (f : ℕ → A) (xs : List ℕ) (i : ℕ) → i < length xs → drop i (map f xs) ≡ f (get_or xs i 0) ∷ drop (suc i) (map f xs)
drop_map f [] i lt = absurd (let g : i < 0 = lt in omega (arith, g))
drop_map f (x ∷ xs) zero lt = refl
drop_map f (x ∷ xs) (suc i) lt = drop_map f xs i (let g : suc i < suc (length xs) = lt in omega (arith, g))

-- the next of them
pub fillings_at : (n : ℕ) (bodies : List ℕ) (i b : ℕ) → i < length bodies → b ≡ get_or bodies i b
    → drop i (contents n bodies) ≡ Some (record { from = n; body = b }) ∷ drop (i + 1) (contents n bodies)
fillings_at n bodies i b lt is =
    let next : suc i ≡ i + 1 = omega arith in
    let value : get_or bodies i 0 ≡ b = sym (is ∙ get_or_default_zero bodies i b lt) in
    drop_map (λ b. Some (record { from = n; body = b })) bodies i lt ∙ (λ k. Some (record { from = n; body = value k }) ∷ drop (next k) (contents n bodies))

-- a seat's number lies in 15 bits
pub number_small : {T : Type 0} (z : Layout) (t : TableId) (s : Seat T) → IsPlanned z → Sits z t s → s.number < 2 ^ 15
number_small z t s planned h =
    let lt : s.number - 1 < length z.roles = slice_get_within z.roles (s.number - 1) s.role h.role in
    let few = planned.few in
    let from = h.from in
    omega (arith, lt, few, from)
