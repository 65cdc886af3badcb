-- What a call of a reader or a writer does to its counts and to what it has told.
use Rattle.std.specs.Prelude.{◌≡◌, ℕ, ◌+◌, ◌-◌, ◌^◌, ◌<◌, ◌==◌, Bool, nat_lt, if◌then◌else◌, List, Option, None, Result, Ok, Err, length, take, MatchResult}
use Rattle.std.specs.Io.KnownBytes.{Consumes, IsAtEnd, Keeps}

-- what is known of a source: the bytes left, where they are known; how many calls have answered an error; how many bytes can
-- still be given; and whether the end was told: the last call that had room and didn't fail gave no byte
pub record SourceState : Type 0 where
  pub left : Option (List ℕ)
  pub failures : ℕ
  pub budget : ℕ
  pub has_ended : Bool

-- what is known of a sink: the bytes taken so far, where they are known; how many calls have answered an error; and whether it
-- is full: the last call that was handed bytes and didn't fail took none of them
pub record SinkState : Type 0 where
  pub contents : Option (List ℕ)
  pub failures : ℕ
  pub is_full : Bool

-- the failures after a call: one more where it answered an error, as many as before where it didn't
abbrev pub failures_after : {E : Type 0} → ℕ → Result ℕ E → ℕ
failures_after failures (Ok count) = failures
failures_after failures (Err error) = failures + 1

-- what can still be given falls by the bytes given, and stays at an error
abbrev pub Spends : {E : Type 0} → (old new : SourceState) → Result ℕ E → Type 0
Spends old new r = MatchResult r (λ count. new.budget + count ≡ old.budget) (λ _. new.budget ≡ old.budget)

-- whether the last call that had room and no failure moved no byte: an error and a call with no room leave it
abbrev pub idle_after : {E : Type 0} → Bool → (room : ℕ) → Result ℕ E → Bool
idle_after idle room (Ok count) = if nat_lt 0 room then count == 0 else idle
idle_after idle room (Err error) = idle

-- known bytes, as long as a further failure can be counted
abbrev pub known_below : (failures : ℕ) → Option (List ℕ) → Option (List ℕ)
known_below failures known = if nat_lt failures (2 ^ 64 - 1) then known else None

-- a call consumed the bytes that it gave, none only at the end or with no room; an error consumed none, and only where it
-- was the last one that can be counted what is left may be unknown from then on
abbrev pub Gives : {E : Type 0} → (old new : SourceState) → Result ℕ E → List ℕ → Type 0
Gives old new r into =
    MatchResult r (λ n. Consumes old.left new.left (take n into) × (n ≡ 0 → 0 < length into → IsAtEnd new.left))
    (λ _. new.failures < 2 ^ 64 - 1 → Keeps old.left new.left)
