-- Texts of a first line that says how many lines follow it, and those lines.
use Rattle.std.specs.Prelude.{◌≡◌, ◌-◌, ℕ, zero, suc, List, ◌∷◌, ◌++◌, length, map, All, Bool, true, false}
use Rattle.std.specs.List.{flat_map}
use Rattle.history.specs.declared.text_causes.TextCause.{TextCause}
use Rattle.text_io.specs.Lines.{HasNo, line}
use Rattle.text_io.specs.Grammars.{Grammar, IsFirstFault}

-- how many lines a first line announces, which first lines are in range, and their bytes; what a line behind it may say, which of this is in range behind that first line, and its bytes
pub record Listing (H I : Type 0) : Type 1 where
  pub count : H → ℕ
  pub header_in_range : H → Type 0
  pub header : H → List ℕ
  pub may_say : I → Type 0
  pub in_range : H → I → Type 0
  pub item : I → List ℕ

-- what a line says: the first one, or one behind it
pub data ListingLine (H I : Type 0) : Type 0 where
  Header : H → ListingLine H I
  Item : I → ListingLine H I

-- what is due: the first line, or so many lines behind a first one
pub data ListingDue (H : Type 0) : Type 0 where
  First : ListingDue H
  After : H → ℕ → ListingDue H

-- whether a line is due
abbrev pub is_due_in : {H : Type 0} → ListingDue H → Bool
is_due_in First = true
is_due_in (After h zero) = false
is_due_in (After h (suc left)) = true

-- what a line may say: first a first line, then one behind it
abbrev pub MaySayIn : {H I : Type 0} → Listing H I → ListingDue H → ListingLine H I → Type 0
MaySayIn l First (Header h) = Unit {0}
MaySayIn l First (Item i) = ⊥
MaySayIn l (After h left) (Header other) = ⊥
MaySayIn l (After h left) (Item i) = l.may_say i

-- which of this is in range
abbrev pub InRangeIn : {H I : Type 0} → Listing H I → ListingDue H → ListingLine H I → Type 0
InRangeIn l First (Header h) = l.header_in_range h
InRangeIn l First (Item i) = ⊥
InRangeIn l (After h left) (Header other) = ⊥
InRangeIn l (After h left) (Item i) = l.in_range h i

-- the bytes of a line
abbrev pub bytes_in : {H I : Type 0} → Listing H I → ListingLine H I → List ℕ
bytes_in l (Header h) = l.header h
bytes_in l (Item i) = l.item i

-- what is due after a line
abbrev pub due_after_in : {H I : Type 0} → Listing H I → ListingDue H → ListingLine H I → ListingDue H
due_after_in l First (Header h) = After h (l.count h)
due_after_in l First (Item i) = First
due_after_in l (After h left) said = After h (left - 1)

-- the grammar of a listing
abbrev pub listing_grammar : {H I : Type 0} → Listing H I → Grammar (ListingDue H) (ListingLine H I)
listing_grammar l = record {
  is_due = is_due_in;
  may_say = MaySayIn l;
  in_range = InRangeIn l;
  words = bytes_in l;
  after = due_after_in l;
}

-- the lines of a first one and those behind it
abbrev pub listing_lines : {H I : Type 0} → H → List I → List (ListingLine H I)
listing_lines h items = Header h ∷ map (λ i. Item i) items

-- the text of a first line and those behind it
abbrev pub listing_text : {H I : Type 0} → Listing H I → H → List I → List ℕ
listing_text l h items = line (l.header h) ++ flat_map (λ i. line (l.item i)) items

-- the first line announces as many lines as follow it, and all that the lines say is in range
pub record IsListing {H I : Type 0} (l : Listing H I) (h : H) (items : List I) : Type 0 where
  pub announced : l.count h ≡ length items
  pub header : l.header_in_range h
  pub each : All (λ i. l.may_say i × l.in_range h i) items

-- a line behind the first one says this
abbrev pub SaysItem : {H I : Type 0} → Listing H I → List ℕ → I → Type 0
SaysItem l says i = l.may_say i × (says ≡ l.item i)

-- a first line says this
abbrev pub SaysHeader : {H I : Type 0} → Listing H I → List ℕ → H → Type 0
SaysHeader l says h = says ≡ l.header h

-- the first faulty line of a text, as one of a listing, has this number, and is wrong for this cause
abbrev pub IsFirstFaultIn : {H I : Type 0} → Listing H I → List ℕ → ℕ → TextCause → Type 0
IsFirstFaultIn l text number cause = IsFirstFault (listing_grammar l) First text number cause

-- the bytes of a line tell what it says, and have no line feed
pub record IsSoundListing {H I : Type 0} (l : Listing H I) : Type 0 where
  pub header_no_feed : (h : H) → HasNo 10 (l.header h)
  pub one_header : (g h : H) → l.header g ≡ l.header h → g ≡ h
  pub item_no_feed : (i : I) → l.may_say i → HasNo 10 (l.item i)
  pub one_item : (i j : I) → l.may_say i → l.may_say j → l.item i ≡ l.item j → i ≡ j
