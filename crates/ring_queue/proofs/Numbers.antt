-- Places, laps and slots, and what a word tells of what it was made of.
use Rattle.std.proofs.Common.{◌≡◌, ℕ, suc, ◌+◌, ◌-◌, ◌*◌, ◌/◌, ◌%◌, ◌^◌, ◌<◌, ◌≤◌, sym, ap, ap₂, ◌∙◌, Option, Some, None, arith, div-add-mod', suc-mul}
use Rattle.std.proofs.Math.Nat.{mul-le-mul_right, add-div_right}
use Rattle.std.proofs.Math.Arith.{digits_div, digits_mod}
use mathlib.Core.Logic.{dite}
use native.Mathlib.Decide.{dec_le}
use Rattle.history.specs.declared.operations.Taken.{Taken}
use Rattle.ring_queue.specs.Words.{payload, parity, face}
use Rattle.ring_queue.specs.Rule.{FitsWord}

-- where a place lies a lap further on
lap_on : (m p q : ℕ) → 0 < m → p % m ≡ q % m → p / m < q / m → p + m ≤ q
lap_on m p q pos same lt =
    let a : ℕ = p / m in
    let b : ℕ = q / m in
    let more : suc a * m ≤ b * m = mul-le-mul_right m (omega arith) in
    omega (arith, div-add-mod' p m, div-add-mod' q m, suc-mul a m, more, same)

-- two places of a slot that lie less than a lap apart are one
pub same_place : (m p q : ℕ) → 0 < m → p % m ≡ q % m → p < q + m → q < p + m → p ≡ q
same_place m p q pos same lt gt =
    dite (dec_le (p / m) (q / m))
    (λ le. dite (dec_le (q / m) (p / m))
    (λ ge. let e : p / m ≡ q / m = omega arith in sym (div-add-mod' p m) ∙ (ap₂ (λ a b. a * m + b) e same ∙ div-add-mod' q m))
    (λ no. absurd (let h : p + m ≤ q = lap_on m p q pos same (omega arith) in omega arith)))
    (λ no. absurd (let h : q + m ≤ p = lap_on m q p pos (sym same) (omega arith) in omega arith))

-- a place and the one a lap before have not one parity
pub parity_turns : (m p : ℕ) → 0 < m → m ≤ p → parity m (p - m) ≡ parity m p → ⊥
parity_turns m p pos le e =
    let q : ℕ = p - m in
    let is : q + m ≡ p = omega arith in
    let laps : p / m ≡ q / m + 1 = ap (λ x. x / m) (sym is) ∙ add-div_right q pos in
    let x : ℕ = q / m in
    let same : x % 2 ≡ (x + 1) % 2 = e ∙ ap (λ y. y % 2) laps in
    omega (arith, same)

-- what fits lies below the bit of the parity
pub payload_below : (x : Option Taken) → FitsWord x → payload x < 2 ^ 63
payload_below None h = omega arith
payload_below (Some v) h = let a = h.0 in let b = h.1 in let c = h.2 in omega arith

-- a word tells its parity and its payload
pub face_parity : (m p : ℕ) (x : Option Taken) → FitsWord x → face m p x / 2 ^ 63 ≡ parity m p
face_parity m p x h = digits_div (parity m p) (payload_below x h)

pub face_payload : (m p : ℕ) (x : Option Taken) → FitsWord x → face m p x % 2 ^ 63 ≡ payload x
face_payload m p x h = digits_mod (parity m p) (payload_below x h)

-- a payload tells the seat and the body of a value, and that there is one
pub payload_some : (x : Option Taken) → FitsWord x → 0 < payload x → x ≡ Some (record { from = payload x / 2 ^ 48; body = payload x % 2 ^ 48 })
payload_some None h lt = absurd (omega arith)
payload_some (Some v) h lt = λ i. Some (record { from = sym (digits_div v.from {m = 2 ^ 48} {r = v.body} h.2) i; body = sym (digits_mod v.from {m = 2 ^ 48} {r = v.body} h.2) i })
