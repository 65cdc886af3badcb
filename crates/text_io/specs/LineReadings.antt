-- What the reader of a part of a line may answer.
use Rattle.std.specs.Prelude.{◌≡◌, ◌≢◌, ℕ, List, ◌++◌, Option, Some, None, Result, Ok, Err, MatchOption, MatchResult}
use Rattle.history.specs.declared.text_causes.TextCause.{TextCause}
use Rattle.history.specs.declared.text_causes.TextCause.TheVariants.{End, Form, Range, Extra}

-- these bytes are what a value is written as
abbrev pub IsSpelled : {V : Type 0} → (V → List ℕ) → List ℕ → V → Type 0
IsSpelled spelling bytes v = bytes ≡ spelling v

-- a value is kept where it is in range, and else none is
abbrev pub ReadsBack : {V : Type 0} → (V → Type 0) → V → Option V → Type 0
ReadsBack InRange v kept = MatchOption kept (¬ InRange v) (λ x. (x ≡ v) × InRange v)

-- a value was read, and is kept where it is in range; or there is none to be read
abbrev pub Reads : {V : Type 0} → (V → Type 0) → (V → Type 0) → Result (Option V) TextCause → Type 0
Reads {V} IsThere InRange result = MatchResult result
    (λ kept. (v : V) × IsThere v × ReadsBack InRange v kept)
    (λ cause. (cause ≡ Form) × ((v : V) → ¬ IsThere v))

-- a value was read, and is kept in range as what stands for it; or there is none to be read
abbrev pub ReadsAs : {V X : Type 0} → (X → V) → (V → Type 0) → (V → Type 0) → Result (Option X) TextCause → Type 0
ReadsAs {V} view IsThere InRange result = MatchResult result
    (λ kept. (v : V) × IsThere v × MatchOption kept (¬ InRange v) (λ x. (view x ≡ v) × InRange v))
    (λ cause. (cause ≡ Form) × ((v : V) → ¬ IsThere v))

-- what was read of a whole line: `Range` where it isn't kept
abbrev pub kept_or_range : {X : Type 0} → Result (Option X) TextCause → Result X TextCause
kept_or_range (Ok (Some x)) = Ok x
kept_or_range (Ok None) = Err Range
kept_or_range (Err cause) = Err cause

-- the same at the front of the words of a line, of which others are left
abbrev pub ReadsWords : {V : Type 0} → (V → List (List ℕ)) → (V → Type 0) → List (List ℕ) → List (List ℕ) → Result (Option V) TextCause → Type 0
ReadsWords {V} words InRange old new result = MatchResult result
    (λ kept. (v : V) × (old ≡ words v ++ new) × ReadsBack InRange v kept)
    (λ cause. (cause ≡ Form) × ((v : V) (rest : List (List ℕ)) → old ≢ words v ++ rest))

-- what is wrong with a line: it says nothing, or something that is out of range
abbrev pub IsWrong : {V : Type 0} → (V → Type 0) → (V → Type 0) → TextCause → Type 0
IsWrong {V} Says InRange Form = (v : V) → ¬ Says v
IsWrong {V} Says InRange Range = (v : V) × Says v × ¬ InRange v
IsWrong Says InRange End = ⊥
IsWrong Says InRange Extra = ⊥

-- a whole line was read, and what it says is in range; or it is wrong for this cause
abbrev pub ReadsLine : {V : Type 0} → (V → Type 0) → (V → Type 0) → Result V TextCause → Type 0
ReadsLine Says InRange result = MatchResult result (λ v. Says v × InRange v) (IsWrong Says InRange)

-- the same, with what stands for a value
abbrev pub ReadsLineAs : {V X : Type 0} → (X → V) → (V → Type 0) → (V → Type 0) → Result X TextCause → Type 0
ReadsLineAs view Says InRange result = MatchResult result (λ x. Says (view x) × InRange (view x)) (IsWrong Says InRange)
