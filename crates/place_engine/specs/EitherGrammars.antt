-- Texts in one of two grammars: their first line says in which.
use Rattle.std.specs.Prelude.{ℕ, List, Bool, true}
use Rattle.text_io.specs.Grammars.{Grammar}

-- what is due: the first line of either, or a later one of the one or the other
pub data EitherDue (S T : Type 0) : Type 0 where
  Start : EitherDue S T
  InOne : S → EitherDue S T
  InOther : T → EitherDue S T

-- what a line says: one of the one or the other
pub data EitherLine (R Q : Type 0) : Type 0 where
  OfOne : R → EitherLine R Q
  OfOther : Q → EitherLine R Q

-- whether a line is due: a first one is
abbrev pub is_either_due : {S R T Q : Type 0} → Grammar S R → Grammar T Q → EitherDue S T → Bool
is_either_due g h Start = true
is_either_due g h (InOne s) = g.is_due s
is_either_due g h (InOther t) = h.is_due t

-- what a line may say: first what a first one of either may say, and then what a line of the same may
abbrev pub MaySayEither : {S R T Q : Type 0} → Grammar S R → Grammar T Q → S → T → EitherDue S T → EitherLine R Q → Type 0
MaySayEither g h s t Start (OfOne r) = g.may_say s r
MaySayEither g h s t Start (OfOther q) = h.may_say t q
MaySayEither g h s t (InOne u) (OfOne r) = g.may_say u r
MaySayEither g h s t (InOne u) (OfOther q) = ⊥
MaySayEither g h s t (InOther v) (OfOne r) = ⊥
MaySayEither g h s t (InOther v) (OfOther q) = h.may_say v q

-- which of this is in range
abbrev pub InRangeOfEither : {S R T Q : Type 0} → Grammar S R → Grammar T Q → S → T → EitherDue S T → EitherLine R Q → Type 0
InRangeOfEither g h s t Start (OfOne r) = g.in_range s r
InRangeOfEither g h s t Start (OfOther q) = h.in_range t q
InRangeOfEither g h s t (InOne u) (OfOne r) = g.in_range u r
InRangeOfEither g h s t (InOne u) (OfOther q) = ⊥
InRangeOfEither g h s t (InOther v) (OfOne r) = ⊥
InRangeOfEither g h s t (InOther v) (OfOther q) = h.in_range v q

-- the bytes of a line
abbrev pub bytes_of_either : {S R T Q : Type 0} → Grammar S R → Grammar T Q → EitherLine R Q → List ℕ
bytes_of_either g h (OfOne r) = g.words r
bytes_of_either g h (OfOther q) = h.words q

-- what is due after a line
abbrev pub due_after_either : {S R T Q : Type 0} → Grammar S R → Grammar T Q → S → T → EitherDue S T → EitherLine R Q → EitherDue S T
due_after_either g h s t Start (OfOne r) = InOne (g.after s r)
due_after_either g h s t Start (OfOther q) = InOther (h.after t q)
due_after_either g h s t (InOne u) (OfOne r) = InOne (g.after u r)
due_after_either g h s t (InOne u) (OfOther q) = InOne u
due_after_either g h s t (InOther v) (OfOne r) = InOther v
due_after_either g h s t (InOther v) (OfOther q) = InOther (h.after v q)

-- the grammar of the texts of either, from these states on
abbrev pub either_grammar : {S R T Q : Type 0} → Grammar S R → Grammar T Q → S → T → Grammar (EitherDue S T) (EitherLine R Q)
either_grammar g h s t = record {
  is_due = is_either_due g h;
  may_say = MaySayEither g h s t;
  in_range = InRangeOfEither g h s t;
  words = bytes_of_either g h;
  after = due_after_either g h s t;
}
