-- A listing that is read a line at a time.
use Rattle.std.proofs.Common.{◌≡◌, ◌≢◌, ℕ, ◌+◌, ◌<◌, List, [], ◌∷◌, ◌++◌, length, map, Bool, true, false, ◌==◌, refl, sym, ap, ◌∙◌, arith, subst}
use Rattle.std.proofs.lemmas.Bool.{eq-eqb, eqb-true}
use Rattle.std.proofs.lemmas.List.{length-append, length-map, map-append, nil_from_length}
use Rattle.history.specs.declared.text_causes.TextCause.TheVariants.{End, Extra}
use Rattle.text_io.specs.Lines.{HasNo, line}
use Rattle.text_io.specs.Listings.{Listing, listing_text, IsListing, IsFirstFaultIn}
use Rattle.text_io.proofs.Listings.{BeginsListing, BeginsListing-first, BeginsListing-next, fault-end, fault-item, fault-extra, listing-whole}
use Rattle.history.specs.declared.refusals.Refusal.{Refusal}
use Rattle.history.specs.declared.refusals.Refusal.TheVariants.{Memory, Text}
use Rattle.text_io.specs.ListingItems.{IsAfterFirst, AddsItem, IsItemRefusal}
use Rattle.text_io.specs.ListingRefusals.{IsRefusalIn}

-- a list that the test finds not empty
pub not_empty : (rest : List ℕ) (test : Bool) → test ≡ (length rest == 0) → test ≡ false → rest ≢ []
not_empty rest test tests fails empty = let yes : (length rest == 0) ≡ true = eq-eqb (length rest) 0 (ap length empty) in absurd cc

module _ {H I V : Type 0} (l : Listing H I) (said : V → I) (h : H) where
  -- a text begins with this first line and the lines of these items, which are so many of those that are announced
  pub record AreRead (items : List V) (text rest : List ℕ) (place count : ℕ) : Type 0 where
    pub begins : BeginsListing l h (map said items) text rest
    pub counted : length items ≡ place
    pub announced : count ≡ l.count h

  -- the first line is read
  pub AreRead-first : (text rest : List ℕ) (count : ℕ) → IsAfterFirst l text h rest → count ≡ l.count h → AreRead [] text rest 0 count
  AreRead-first text rest count is announced = record { begins = BeginsListing-first l h text rest is.0 is.1; counted = refl; announced = announced }

  -- one more item is read
  pub AreRead-next : (items new : List V) (text rest says later : List ℕ) (place count : ℕ) → AreRead items text rest place count → place < count
      → rest ≡ line says ++ later → AddsItem l said h items new says → AreRead new text later (place + 1) count
  AreRead-next items new text rest says later place count read more split adds =
      let longer = BeginsListing-next l h (map said items) (said adds.0) text rest says later read.begins
      (omega (arith, more, read.counted, read.announced, length-map items said)) split adds.1 adds.2 in
      record {
        begins = subst (λ is. BeginsListing l h is text later) (sym (ap (map said) adds.3 ∙ map-append said items (adds.0 ∷ []))) longer;
        counted = ap length adds.3 ∙ length-append items (adds.0 ∷ []) ∙ ap (λ n. n + 1) read.counted;
        announced = read.announced;
      }

  -- an item is due, and there is no further line feed
  pub refusal-end : (items : List V) (text rest : List ℕ) (place count : ℕ) → AreRead items text rest place count → place < count → HasNo 10 rest
      → IsFirstFaultIn l text (2 + place) End
  refusal-end items text rest place count read more =
      fault-end l h (map said items) text rest place read.begins (length-map items said ∙ read.counted) (omega (arith, more, read.announced))

  -- an item is due, and its line is wrong, or there was no room
  pub refusal-item : (items : List V) (text rest says later : List ℕ) (place count : ℕ) (refusal : Refusal) → AreRead items text rest place count → place < count
      → rest ≡ line says ++ later → HasNo 10 says → IsItemRefusal l h (2 + place) says refusal → IsRefusalIn l text refusal
  refusal-item items text rest says later place count (Text at cause) read more split whole wrong =
      subst (λ at. IsFirstFaultIn l text at cause) (sym wrong.0)
      (fault-item l h (map said items) text rest says later place cause read.begins (length-map items said ∙ read.counted) (omega (arith, more, read.announced)) split whole wrong.1)
  refusal-item items text rest says later place count Memory read more split whole wrong = tt
  refusal-item items text rest says later place count _ read more split whole wrong = absurd wrong

  -- no item is due, and the test finds that bytes follow
  pub refusal-extra : (items : List V) (text rest : List ℕ) (place count : ℕ) (test : Bool) → AreRead items text rest place count → place ≡ count
      → test ≡ (length rest == 0) → test ≡ false → IsFirstFaultIn l text (2 + count) Extra
  refusal-extra items text rest place count test read all tests fails =
      subst (λ n. IsFirstFaultIn l text (2 + n) Extra) (sym read.announced)
      (fault-extra l h (map said items) text rest read.begins (length-map items said ∙ read.counted ∙ all ∙ read.announced) (not_empty rest test tests fails))

  -- no item is due, and the test finds that nothing follows
  pub whole-listing : (items : List V) (text rest : List ℕ) (place count : ℕ) (test : Bool) → AreRead items text rest place count → place ≡ count
      → test ≡ (length rest == 0) → test ≡ true → (text ≡ listing_text l h (map said items)) × IsListing l h (map said items)
  whole-listing items text rest place count test read all tests holds =
      listing-whole l h (map said items) text rest read.begins (length-map items said ∙ read.counted ∙ all ∙ read.announced)
      (nil_from_length rest (eqb-true (length rest) 0 (sym tests ∙ holds)))
