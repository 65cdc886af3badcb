-- A whole line by what was kept of it.
use Rattle.std.proofs.Common.{◌≡◌, ℕ, List, [], ◌∷◌, Option, Some, None, subst, sym, arith, inl}
use Rattle.std.specs.Prelude.{Result, Ok, Err}
use Rattle.history.specs.declared.text_causes.TextCause.{TextCause}
use Rattle.std.proofs.lemmas.List.Elements.{All-nil, All-cons}
use Rattle.text_io.specs.Lines.{HasNo, spaced, words_of}
use Rattle.text_io.specs.Numerals.{numeral}
use Rattle.text_io.proofs.Numerals.{HasNo-numeral}
use Rattle.text_io.proofs.Splits.{words_of-spaced}
use Rattle.text_io.specs.LineReadings.{ReadsAs, ReadsLineAs, IsWrong, kept_or_range}

-- what was read of a line's words is kept where it is in range: so the line is read, or it is `Range`; or it says nothing
pub ReadsLine-kept : {V X : Type 0} (view : X → V) (There Says InRange : V → Type 0) → ((v : V) → There v → Says v) → ((v : V) → Says v → There v)
    → (read : Result (Option X) TextCause) → ReadsAs view There InRange read → ReadsLineAs view Says InRange (kept_or_range read)
ReadsLine-kept view There Says InRange says said (Ok None) found = (found.0, says found.0 found.1, found.2)
ReadsLine-kept view There Says InRange says said (Ok (Some x)) found =
    (subst Says (sym found.2.0) (says found.0 found.1), subst InRange (sym found.2.0) found.2.1)
ReadsLine-kept view There Says InRange says said (Err cause) none = subst (IsWrong Says InRange) (sym none.0) (λ v s. none.1 v (said v s))

-- a word, and one number behind it
pub two_words : (word : List ℕ) (n : ℕ) → HasNo 32 word → words_of (spaced (word ∷ numeral n ∷ [])) ≡ word ∷ numeral n ∷ []
two_words word n none =
    words_of-spaced word (numeral n ∷ [])
    (All-cons (HasNo 32) word (numeral n ∷ []) none (All-cons (HasNo 32) (numeral n) [] (HasNo-numeral 32 n (inl (omega arith))) (All-nil (HasNo 32))))
