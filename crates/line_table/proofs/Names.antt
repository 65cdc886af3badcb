-- The line of a name, found in the list of all lines.
use Rattle.std.proofs.Common.{◌≡◌, ◌≢◌, ◌↔◌, ℕ, List, [], ◌∷◌, Option, Some, None, IsNone, IfSome, Bool, true, false, cond, refl, sym, subst}
use Rattle.std.specs.List.{find}
use Rattle.std.specs.Str.{bytes_eq}
use Rattle.std.proofs.lemmas.Slice.Eq.{bytes_eq-Decides}
use Rattle.line_table.specs.declared.lines.Line.{Line}
use Rattle.line_table.specs.declared.lines.Line.TheVariants.{N1}
use Rattle.line_table.specs.declared.lines.TheConstants.Line.{ALL}
use Rattle.line_table.specs.Names.{name_of}

-- the first line of this name in the list of all lines
abbrev pub line_of : List ℕ → Option Line
line_of name = find (λ line. bytes_eq (name_of line) name) ALL

-- the name of a line finds it: no earlier line has its name
pub line_of-name_of : (line : Line) → line_of (name_of line) ≡ Some line
line_of-name_of N1 = refl
line_of-name_of _ = refl

-- what is found in a list passes the test
find-passes : {X : Type 0} (p : X → Bool) (xs : List X) → IfSome (find p xs) (λ x. p x ≡ true)
find-passes p [] = tt
find-passes p (y ∷ ys) =
    elim (p y) as (λ b. p y ≡ b → IfSome (cond b (Some y) (find p ys)) (λ x. p x ≡ true)) [
      | true ↦ λ e. e
      | false ↦ λ e. find-passes p ys
    ] refl

-- what follows from a fact of a value follows of the value in an option
IfSome-mapped : {X : Type 0} {P Q : X → Type 0} (o : Option X) → ((x : X) → P x → Q x) → IfSome o P → IfSome o Q
IfSome-mapped None follows holds = tt
IfSome-mapped (Some x) follows holds = follows x holds

-- the line found by a name has that name
pub line_of-found : (name : List ℕ) → IfSome (line_of name) (λ line. name ≡ name_of line)
line_of-found name =
    IfSome-mapped (line_of name) (λ line e. sym ((bytes_eq-Decides (name_of line) name).0 e))
    (find-passes (λ line. bytes_eq (name_of line) name) ALL)

-- a line is found by a name exactly where it is the line's name
pub line_of-exact : (name : List ℕ) (line : Line) → (line_of name ≡ Some line) ↔ (name ≡ name_of line)
line_of-exact name line = (
  λ e. subst (λ (o : Option Line). IfSome o (λ l. name ≡ name_of l)) e (line_of-found name),
  λ same. subst (λ n. line_of n ≡ Some line) (sym same) (line_of-name_of line),
)

-- where no line is found by a name, no line has it
pub line_of-none : (name : List ℕ) → IsNone (line_of name) → (line : Line) → name ≢ name_of line
line_of-none name none line same =
    let absurd_none : IsNone (Some line) = subst (λ (o : Option Line). IsNone o) ((line_of-exact name line).1 same) none in
    cc

-- no two lines have one name
pub name_of-differs : (a b : Line) → name_of a ≡ name_of b → a ≡ b
name_of-differs a b same =
    let found : line_of (name_of a) ≡ Some b = subst (λ n. line_of n ≡ Some b) (sym same) (line_of-name_of b) in
    let e : line_of (name_of a) ≡ Some a = line_of-name_of a in
    cc
