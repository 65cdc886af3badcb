-- References that a word held once, where the word's count only rises: the one lemma that keeps them apart from what
-- the word holds later.
use Rattle.std.proofs.Common.{◌≡◌, ◌<◌, ◌⊎◌, inl, inr, ap, ◌∙◌, arith}
use Rattle.counted_ref.specs.Ref.{Ref}

-- a word's content becomes another one: it stays, or its count is higher
abbrev pub Rises : (old new : Ref) → Type 0
Rises old new = (new ≡ old) ⊎ (old.count < new.count)

-- what a register holds was in the word before: it is there now, or the word's count is higher
abbrev pub IsCurrentOrStale : (word register : Ref) → Type 0
IsCurrentOrStale word register = (word ≡ register) ⊎ (register.count < word.count)

-- it was in the word before also when the word has changed
pub was_on : (old new register : Ref) → Rises old new → IsCurrentOrStale old register → IsCurrentOrStale new register
was_on old new register (inl e) (inl f) = inl (e ∙ f)
was_on old new register (inl e) (inr g) = let c : new.count ≡ old.count = ap (λ (r : Ref). r.count) e in inr (omega arith)
was_on old new register (inr g) (inl f) = let c : old.count ≡ register.count = ap (λ (r : Ref). r.count) f in inr (omega arith)
was_on old new register (inr g) (inr h) = inr (omega arith)

-- if it is in the word now, the word hasn't changed
pub still_there : (old new register : Ref) → Rises old new → IsCurrentOrStale old register → new ≡ register → new ≡ old
still_there old new register (inl e) w now = e
still_there old new register (inr g) (inl f) now =
    absurd (let a : old.count ≡ register.count = ap (λ (r : Ref). r.count) f in let b : new.count ≡ register.count = ap (λ (r : Ref). r.count) now in omega arith)
still_there old new register (inr g) (inr h) now =
    absurd (let b : new.count ≡ register.count = ap (λ (r : Ref). r.count) now in omega arith)
