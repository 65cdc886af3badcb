-- What is held of a line, byte by byte.
use Rattle.std.proofs.Common.{◌≡◌, ◌≢◌, ℕ, suc, ◌-◌, ◌<◌, ◌⊎◌, inl, inr, List, [], ◌∷◌, ◌++◌, length, Bool, true, false, ◌∙◌, arith, length-append}
use Rattle.std.proofs.lemmas.List.{append-nil}
use Rattle.schedule_text.specs.ShortLines.{IsDigit, Shortens, nothing, space, early, digit, other, Held, IsHeldBy, IsHeld, IsKept}
use Rattle.schedule_text.proofs.Shortening.{Shortens-append, Shortens-byte}

-- where there was no room for some bytes, there is none for further ones
over_still : (says : List ℕ) (b : ℕ) (old new : List ℕ) (room left : ℕ) → IsHeldBy true old room says → IsHeldBy true new left (says ++ b ∷ [])
over_still says b old new room left held =
    let kept = held.0 in
    let step = Shortens-byte held.1 b in
    (kept ++ step.0, step.1, Shortens-append held.2 step.2, omega (arith, length-append kept step.0, held.3))

-- one more byte of a line, that is kept
held_by : (o n : Bool) (says old new : List ℕ) (b room left : ℕ) → Shortens room (b ∷ []) (b ∷ []) left
    → ((n ≡ o) × (new ≡ old ++ b ∷ [])) ⊎ ((n ≡ true) × (length old ≡ 64)) → IsHeldBy o old room says → IsHeldBy n new left (says ++ b ∷ [])
held_by false false says old new b room left step (inl h) held = rw h.1 (Shortens-append held step)
held_by false false says old new b room left step (inr h) held = absurd cc
held_by false true says old new b room left step (inl h) held = absurd cc
held_by false true says old new b room left step (inr h) held =
    (old ++ b ∷ [], left, Shortens-append held step, omega (arith, length-append old (b ∷ []), h.1))
held_by true true says old new b room left step h held = over_still says b old new room left held
held_by true false says old new b room left step (inl h) held = absurd cc
held_by true false says old new b room left step (inr h) held = absurd cc

-- a space, a byte of a word while there is room in it, and a byte behind that is no digit
pub held_space : (old mid : Held) (says : List ℕ) (b : ℕ) → b ≡ 32 → IsKept b old mid → IsHeld says old → IsHeldBy mid.is_over mid.bytes 21 (says ++ b ∷ [])
held_space old mid says b is kept held = held_by old.is_over mid.is_over says old.bytes mid.bytes b old.room 21 (space is nothing) kept held

pub held_early : (old mid : Held) (says : List ℕ) (b : ℕ) → b ≢ 32 → 0 < old.room → IsKept b old mid → IsHeld says old
    → IsHeldBy mid.is_over mid.bytes (old.room - 1) (says ++ b ∷ [])
held_early old mid says b is some kept held =
    let back : suc (old.room - 1) ≡ old.room = omega arith in
    let step : Shortens (suc (old.room - 1)) (b ∷ []) (b ∷ []) (old.room - 1) = early is nothing in
    held_by old.is_over mid.is_over says old.bytes mid.bytes b old.room (old.room - 1) (rw back at step) kept held

pub held_other : (old new : Held) (says : List ℕ) (b : ℕ) → b ≢ 32 → old.room ≡ 0 → ¬ IsDigit b → new.room ≡ old.room → IsKept b old new → IsHeld says old
    → IsHeld (says ++ b ∷ []) new
held_other old new says b is none not same kept held =
    let step : Shortens 0 (b ∷ []) (b ∷ []) 0 = other is not nothing in
    let later : new.room ≡ 0 = same ∙ none in
    held_by old.is_over new.is_over says old.bytes new.bytes b old.room new.room (rw (none, later) step) kept held

-- a digit behind the bytes that are kept whatever they are
pub held_digit : (h : Held) (says : List ℕ) (b : ℕ) → h.room ≡ 0 → IsDigit b → IsHeld says h → IsHeld (says ++ b ∷ []) h
held_digit h says b none is held = by h.is_over held
  where
    by : (o : Bool) → IsHeldBy o h.bytes h.room says → IsHeldBy o h.bytes h.room (says ++ b ∷ [])
    by false held =
        let step : Shortens 0 (b ∷ []) [] 0 = digit is nothing in
        let at : Shortens h.room (b ∷ []) [] h.room = rw none step in
        rw append-nil at (Shortens-append held at)
    by true held = over_still says b h.bytes h.bytes h.room h.room held

-- a byte outside of the digits is none
pub not_digit : (b : ℕ) → (b < 48) ⊎ (57 < b) → ¬ IsDigit b
not_digit b (inl low) is = omega (arith, low, is.0)
not_digit b (inr high) is = omega (arith, high, is.1)
