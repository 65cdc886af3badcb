-- A history with points: with the stamps that it had, or with others, each number as many numbers in a row.
use Rattle.std.specs.Prelude.{◌≡◌, ◌⊎◌, ◌↔◌, ℕ, ◌+◌, ◌*◌, ◌≤◌, ◌<◌, List, Option, None, Some, IfSome, All, length, slice_get}
use Rattle.std.specs.List.{Contains, AllZip}
use Rattle.std.specs.List.Sorted.{IsStrictlyIncreasing}
use Rattle.history.specs.declared.operations.Stamped.{Stamped}

-- the first numbers of two operations are so related, or the last ones of two that ended
abbrev pub EndsSo : (number_and_stamp : ℕ → ℕ → Type 0) → Option ℕ → Option ℕ → Type 0
EndsSo Last None None = Unit {0}
EndsSo Last None (Some stamp) = ⊥
EndsSo Last (Some number) None = ⊥
EndsSo Last (Some number) (Some stamp) = Last number stamp

-- two operations are the same but for their points, and for stamps that are so related
pub record IsStampedSo (First Last : (number stamp : ℕ) → Type 0) (o p : Stamped) : Type 0 where
  pub actor : p.actor ≡ o.actor
  pub op : p.op ≡ o.op
  pub reply : p.reply ≡ o.reply
  pub first : First o.first p.first
  pub last : EndsSo Last o.last p.last

-- a stamp is the number that it was
abbrev pub IsKept : (number stamp : ℕ) → Type 0
IsKept number stamp = stamp ≡ number

-- two operations are the same but for their points
abbrev pub IsPointed : Stamped → Stamped → Type 0
IsPointed = IsStampedSo IsKept IsKept

-- of the `width` numbers that one of these becomes, from 1 on in their order, this is the first
pub record IsFirstOf (numbers : List ℕ) (width number stamp : ℕ) : Type 0 where
  pub rank : ℕ
  pub there : slice_get numbers rank ≡ Some number
  pub is : stamp ≡ rank * width + 1

-- of the `width` numbers that one of these becomes, from 1 on in their order, this is the last
pub record IsLastOf (numbers : List ℕ) (width number stamp : ℕ) : Type 0 where
  pub rank : ℕ
  pub there : slice_get numbers rank ≡ Some number
  pub is : stamp ≡ rank * width + width

-- two operations are the same but for their points, and the stamps of the second are spread
abbrev pub IsSpreadFrom : (numbers : List ℕ) → (width : ℕ) → Stamped → Stamped → Type 0
IsSpreadFrom numbers width = IsStampedSo (IsFirstOf numbers width) (IsLastOf numbers width)

-- an operation's stamps are among these numbers
pub record IsOfNumbers (numbers : List ℕ) (o : Stamped) : Type 0 where
  pub first : Contains numbers o.first
  pub last : IfSome o.last (Contains numbers)

-- the stamps of an operation are added to numbers
pub record AddsStamps (old new : List ℕ) (o : Stamped) : Type 0 where
  pub stay : (n : ℕ) → Contains old n → Contains new n
  pub added : IsOfNumbers new o
  pub few : length new ≤ length old + 2

-- these numbers rise, are all that a history has as stamps, and each becomes at least one number
pub record SpreadsAll (ops : List Stamped) (numbers : List ℕ) (width : ℕ) : Type 0 where
  pub rises : IsStrictlyIncreasing numbers
  pub wide : 1 ≤ width
  pub used : All (IsOfNumbers numbers) ops

-- as many numbers as these become all together are below 2^64
abbrev pub HasRoom : (numbers : List ℕ) → (width : ℕ) → Type 0
HasRoom numbers width = length numbers * width < 18446744073709551616

-- the stamps of all operations are spread alike
pub record IsSpreadOut (old new : List Stamped) : Type 0 where
  pub numbers : List ℕ
  pub width : ℕ
  pub rises : IsStrictlyIncreasing numbers
  pub wide : 1 ≤ width
  pub each : AllZip (IsSpreadFrom numbers width) old new

-- a history is another one with points, its stamps as they were or spread
abbrev pub IsSpread : (old new : List Stamped) → Type 0
IsSpread old new = AllZip IsPointed old new ⊎ IsSpreadOut old new

-- two numbers are in the order of two others, and equal exactly where these are
abbrev pub AreInOrder : (number other stamp another : ℕ) → Type 0
AreInOrder number other stamp another = (number < other ↔ stamp < another) × (number ≡ other ↔ stamp ≡ another)

-- The first numbers of two operations are in the order of those that the same two had, and so are the last ones; and the
-- one ended before the other began exactly where it did.
pub record KeepsOrder (o p new other : Stamped) : Type 0 where
  pub firsts : AreInOrder o.first p.first new.first other.first
  pub lasts : IfSome o.last (λ n. IfSome p.last (λ m. IfSome new.last (λ x. IfSome other.last (AreInOrder n m x))))
  pub before : IfSome o.last (λ n. IfSome new.last (λ x. n < p.first ↔ x < other.first))

-- any two operations of a history have stamps in the order of those that they had
abbrev pub KeepsEachOrder : (old new : List Stamped) → Type 0
KeepsEachOrder old new = (i j : ℕ) (o p a b : Stamped)
    → slice_get old i ≡ Some o → slice_get old j ≡ Some p → slice_get new i ≡ Some a → slice_get new j ≡ Some b → KeepsOrder o p a b
