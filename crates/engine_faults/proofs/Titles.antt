-- The lines that name entries, each of which is put into a block in four parts.
use Rattle.std.proofs.Common.{◌≡◌, ℕ, ◌+◌, ◌<◌, List, [], ◌++◌, length, take, drop, get_or, Option, sym, subst, ap, ◌∙◌, append_assoc}
use Rattle.std.specs.Prelude.{Result}
use Rattle.std.specs.List.{flat_map}
use Rattle.std.proofs.lemmas.List.{take_more, flat_map_more}
use Rattle.history.specs.declared.refusals.Refusal.{Refusal}
use Rattle.text_io.specs.Devices.{SinkState}
use Rattle.text_io.specs.Blocks.{Puts, Sends, TakesPrefix}
use Rattle.text_io.proofs.Rows.{rows_rest}
use Rattle.text_io.proofs.Sends.{Puts-more, Sends-trans, TakesPrefix-longer, TakesPrefix-trans}
use Rattle.engine_faults.specs.declared.lookups.Entry.{Entry}
use Rattle.engine_faults.specs.Entries.{title}

-- the sink gave up within a part of a whole text
pub stops_within : (a b c : Option (List ℕ)) (text held part rest whole : List ℕ) → text ++ part ++ rest ≡ whole → Sends a b text held
    → TakesPrefix b c (held ++ part) → TakesPrefix a c whole
stops_within a b c text held part rest whole e s t =
    subst (TakesPrefix a c) e (TakesPrefix-longer a c (text ++ part) rest (TakesPrefix-trans a b c text held part s t))

module _ (h x s y z : List ℕ) where
  -- the text up to the first of four parts, and what comes behind
  pub from_first : h ++ x ++ (s ++ (y ++ z)) ≡ h ++ (x ++ (s ++ (y ++ z)))
  from_first = append_assoc h x (s ++ (y ++ z))

  -- up to the second
  pub from_second : h ++ x ++ s ++ (y ++ z) ≡ h ++ (x ++ (s ++ (y ++ z)))
  from_second = append_assoc (h ++ x) s (y ++ z) ∙ from_first

  -- up to the third
  pub from_third : h ++ x ++ s ++ y ++ z ≡ h ++ (x ++ (s ++ (y ++ z)))
  from_third = append_assoc (h ++ x ++ s) y z ∙ from_second

  -- behind the first three comes what the putting of the fourth answers
  pub puts_fourth : {A : Type 0} (a b c : SinkState) (held after : List ℕ) (result : Result A Refusal) → Sends a.contents b.contents (h ++ x ++ s ++ y) held
      → b.failures ≡ a.failures → Puts b c (held ++ z) after result → Puts a c (h ++ (x ++ (s ++ (y ++ z)))) after result
  puts_fourth a b c held after result sends quiet puts =
      subst (λ text. Puts a c text after result) from_third (Puts-more a b c quiet (h ++ x ++ s ++ y) held z after result sends puts)

module _ (xs : List Entry) (i : ℕ) (d : Entry) (l : i < length xs) where
  -- one more entry
  title_more : [] ++ flat_map title (take i xs) ++ title (get_or xs i d) ≡ [] ++ flat_map title (take (i + 1) xs)
  title_more =
      flat_map_more title [] (take i xs) (get_or xs i d)
      ∙ ap (λ ys. [] ++ flat_map title ys) (sym (take_more xs i d l))

  module _ (a b c : Option (List ℕ)) (held : List ℕ) (u : Sends a b ([] ++ flat_map title (take i xs)) held) where
    -- one more line was handed on
    pub more_titles : (after : List ℕ) → Sends b c (held ++ title (get_or xs i d)) after → Sends a c ([] ++ flat_map title (take (i + 1) xs)) after
    more_titles after s =
        subst (λ text. Sends a c text after) title_more
        (Sends-trans a b c ([] ++ flat_map title (take i xs)) held (title (get_or xs i d)) after u s)

    -- the sink gave up within it
    pub stops_at_titles : TakesPrefix b c (held ++ title (get_or xs i d)) → TakesPrefix a c (flat_map title xs)
    stops_at_titles t =
        let more = subst (TakesPrefix a c) title_more (TakesPrefix-trans a b c ([] ++ flat_map title (take i xs)) held (title (get_or xs i d)) u t) in
        subst (TakesPrefix a c) (rows_rest title [] xs (i + 1)) (TakesPrefix-longer a c _ (flat_map title (drop (i + 1) xs)) more)
