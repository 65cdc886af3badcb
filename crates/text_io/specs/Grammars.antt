-- Texts in which one line after another is due, and the first faulty line of any text.
use Rattle.std.specs.Prelude.{◌≡◌, ◌≢◌, ℕ, ◌+◌, List, [], ◌∷◌, ◌++◌, length, Bool, true, false}
use Rattle.std.specs.List.{flat_map}
use Rattle.history.specs.declared.text_causes.TextCause.{TextCause}
use Rattle.history.specs.declared.text_causes.TextCause.TheVariants.{End, Form, Range, Extra}
use Rattle.text_io.specs.Lines.{HasNo, line}
use Rattle.text_io.specs.LineReadings.{IsWrong}

-- in each state: whether a line is due, what it may say, which of this is in range, and the state after it
pub record Grammar (S R : Type 0) : Type 1 where
  pub is_due : S → Bool
  pub may_say : S → R → Type 0
  pub in_range : S → R → Type 0
  pub words : R → List ℕ
  pub after : S → R → S

-- a line says this, as it may in this state
pub record Says {S R : Type 0} (g : Grammar S R) (s : S) (says : List ℕ) (r : R) : Type 0 where
  pub may : g.may_say s r
  pub spelled : says ≡ g.words r

-- lines that say this are due one after another, and what they say is in range
abbrev pub AreDue : {S R : Type 0} → Grammar S R → S → List R → Type 0
AreDue g s [] = Unit {0}
AreDue g s (r ∷ rs) = (g.is_due s ≡ true) × g.may_say s r × g.in_range s r × AreDue g (g.after s r) rs

-- the state after these lines
abbrev pub state_after : {S R : Type 0} → Grammar S R → S → List R → S
state_after g s [] = s
state_after g s (r ∷ rs) = state_after g (g.after s r) rs

-- the lines that say this, one after another
abbrev pub lines_of : {S R : Type 0} → Grammar S R → List R → List ℕ
lines_of g rs = flat_map (λ r. line (g.words r)) rs

-- a text begins with lines that are due and say this, and the rest follows them
pub record Begins {S R : Type 0} (g : Grammar S R) (s : S) (rs : List R) (text rest : List ℕ) : Type 0 where
  pub due : AreDue g s rs
  pub spelled : text ≡ lines_of g rs ++ rest

-- a text is those lines, and no further one is due
pub record IsText {S R : Type 0} (g : Grammar S R) (s : S) (rs : List R) (text : List ℕ) : Type 0 where
  pub lines : Begins g s rs text []
  pub done : g.is_due (state_after g s rs) ≡ false

-- the first line of the rest of a text is wrong for this cause
pub record IsWrongLine {S R : Type 0} (g : Grammar S R) (s : S) (rest : List ℕ) (cause : TextCause) : Type 0 where
  pub due : g.is_due s ≡ true
  pub says : List ℕ
  pub later : List ℕ
  pub split : rest ≡ line says ++ later
  pub whole : HasNo 10 says
  pub wrong : IsWrong (Says g s says) (g.in_range s) cause

-- what is wrong with the rest of a text: no line feed where a line is due, a wrong line, or bytes where none is due
abbrev pub IsFault : {S R : Type 0} → Grammar S R → S → List ℕ → TextCause → Type 0
IsFault g s rest End = (g.is_due s ≡ true) × HasNo 10 rest
IsFault g s rest Form = IsWrongLine g s rest Form
IsFault g s rest Range = IsWrongLine g s rest Range
IsFault g s rest Extra = (g.is_due s ≡ false) × (rest ≢ [])

-- the first faulty line of a text, counted from 1, and what is wrong with it
pub record IsFirstFault {S R : Type 0} (g : Grammar S R) (s : S) (text : List ℕ) (number : ℕ) (cause : TextCause) : Type 0 where
  pub before : List R
  pub rest : List ℕ
  pub begins : Begins g s before text rest
  pub counted : number ≡ 1 + length before
  pub fault : IsFault g (state_after g s before) rest cause

-- the words of a line tell what it says, and have no line feed
pub record IsSoundGrammar {S R : Type 0} (g : Grammar S R) : Type 0 where
  pub no_feed : (s : S) (r : R) → g.may_say s r → HasNo 10 (g.words r)
  pub one : (s : S) (r q : R) → g.may_say s r → g.may_say s q → g.words r ≡ g.words q → r ≡ q
