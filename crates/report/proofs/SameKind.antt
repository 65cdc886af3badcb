-- The comparison of kinds tells equal ones.
use Rattle.std.proofs.Common.{◌≡◌, true, refl}
use Rattle.report.specs.declared.kinds.Kind.{Kind}
use Rattle.report.specs.declared.kinds.Kind.TheVariants.{Done, Value, Empty, Refused, Unfinished}
use Rattle.report.specs.contracts.kinds.KindPartialEq.TheImpl as block
use Rattle.report.specs.Kinds.{same_kind}

-- a fact of each kind
by_kind : (P : Kind → Type 0) → P Done → P Value → P Empty → P Refused → P Unfinished → (k : Kind) → P k
by_kind P a b c d e Done = a
by_kind P a b c d e Value = b
by_kind P a b c d e Empty = c
by_kind P a b c d e Refused = d
by_kind P a b c d e Unfinished = e

-- a kind is the same as itself
pub same_kind_yes : (a : Kind) → same_kind a a ≡ true
same_kind_yes = by_kind (λ a. same_kind a a ≡ true) refl refl refl refl refl

-- kinds that are the same are equal
pub same_kind_only : (a b : Kind) → same_kind a b ≡ true → a ≡ b
same_kind_only Done = by_kind (λ b. same_kind Done b ≡ true → Done ≡ b) (λ _. refl) (λ e. cc e) (λ e. cc e) (λ e. cc e) (λ e. cc e)
same_kind_only Value = by_kind (λ b. same_kind Value b ≡ true → Value ≡ b) (λ e. cc e) (λ _. refl) (λ e. cc e) (λ e. cc e) (λ e. cc e)
same_kind_only Empty = by_kind (λ b. same_kind Empty b ≡ true → Empty ≡ b) (λ e. cc e) (λ e. cc e) (λ _. refl) (λ e. cc e) (λ e. cc e)
same_kind_only Refused = by_kind (λ b. same_kind Refused b ≡ true → Refused ≡ b) (λ e. cc e) (λ e. cc e) (λ e. cc e) (λ _. refl) (λ e. cc e)
same_kind_only Unfinished = by_kind (λ b. same_kind Unfinished b ≡ true → Unfinished ≡ b) (λ e. cc e) (λ e. cc e) (λ e. cc e) (λ e. cc e) (λ _. refl)

compared : (a b : Kind) → block.ghosts.eq a b ≡ same_kind a b
compared Done = by_kind (λ b. block.ghosts.eq Done b ≡ same_kind Done b) refl refl refl refl refl
compared Value = by_kind (λ b. block.ghosts.eq Value b ≡ same_kind Value b) refl refl refl refl refl
compared Empty = by_kind (λ b. block.ghosts.eq Empty b ≡ same_kind Empty b) refl refl refl refl refl
compared Refused = by_kind (λ b. block.ghosts.eq Refused b ≡ same_kind Refused b) refl refl refl refl refl
compared Unfinished = by_kind (λ b. block.ghosts.eq Unfinished b ≡ same_kind Unfinished b) refl refl refl refl refl

-- what `==` computes
pub equals_is : block.ghosts.eq ≡ same_kind
equals_is = λ j a b. compared a b j
