-- The parts of a text that are put into a block one after another.
use Rattle.std.proofs.Common.{◌≡◌, ℕ, ◌+◌, ◌<◌, List, [], ◌∷◌, ◌++◌, length, drop, get_or, Option, refl, sym, subst, ap, ◌∙◌, append_assoc, append-nil, add-one}
use Rattle.std.proofs.Math.Seq.{drop-cons}
use Rattle.std.specs.List.{flat_map}
use Rattle.std.proofs.lemmas.List.Concat.{flat_map-cons}
use Rattle.std.specs.Prelude.{Result}
use Rattle.history.specs.declared.refusals.Refusal.{Refusal}
use Rattle.text_io.specs.Devices.{SinkState}
use Rattle.text_io.specs.Blocks.{Sends, TakesPrefix, Puts}
use Rattle.text_io.proofs.Sends.{Sends-trans, Puts-more}
use Rattle.report.proofs.UnderWay.{IsUnderWay, under_way_first, under_way_more, under_way_stops, under_way_done}

module _ (h x y z : List ℕ) where
  -- the first of three parts was handed on
  after_first : (a b : Option (List ℕ)) (i : List ℕ) → Sends a b (h ++ x) i → IsUnderWay a b (h ++ (x ++ (y ++ z))) i (y ++ z)
  after_first a b i s = under_way_more a a b (h ++ (x ++ (y ++ z))) h x (y ++ z) i (under_way_first a h (x ++ (y ++ z))) s

  -- the sink gave up within the first
  pub stops_at_first : (a b : Option (List ℕ)) → TakesPrefix a b (h ++ x) → TakesPrefix a b (h ++ (x ++ (y ++ z)))
  stops_at_first a b t = under_way_stops a a b (h ++ (x ++ (y ++ z))) h x (y ++ z) (under_way_first a h (x ++ (y ++ z))) t

  -- within the second
  pub stops_at_second : (a b c : Option (List ℕ)) (i : List ℕ) → Sends a b (h ++ x) i → TakesPrefix b c (i ++ y) → TakesPrefix a c (h ++ (x ++ (y ++ z)))
  stops_at_second a b c i s t = under_way_stops a b c (h ++ (x ++ (y ++ z))) i y z (after_first a b i s) t

  -- behind the first two comes what the putting of the third answers
  pub puts_three : {A : Type 0} (a b c d : SinkState) (i j k : List ℕ) (result : Result A Refusal) → Sends a.contents b.contents (h ++ x) i
      → Sends b.contents c.contents (i ++ y) j → c.failures ≡ a.failures → Puts c d (j ++ z) k result → Puts a d (h ++ (x ++ (y ++ z))) k result
  puts_three a b c d i j k result s t quiet puts =
      subst (λ text. Puts a d text k result) (append_assoc (h ++ x) y z ∙ append_assoc h x (y ++ z))
      (Puts-more a c d quiet (h ++ x ++ y) j z k result (Sends-trans a.contents b.contents c.contents (h ++ x) i y j s t) puts)

module _ (x y : List ℕ) where
  -- of a first line and the others, the first was handed on
  after_line : (a b : Option (List ℕ)) (i : List ℕ) → Sends a b x i → IsUnderWay a b (x ++ y) i (y ++ [])
  after_line a b i s =
      subst (IsUnderWay a b (x ++ y) i) (sym (append-nil y))
      (under_way_more a a b (x ++ y) [] x y i (under_way_first a [] (x ++ y)) s)

  -- the sink gave up within the first line
  pub stops_at_line : (a b : Option (List ℕ)) → TakesPrefix a b x → TakesPrefix a b (x ++ y)
  stops_at_line a b t = under_way_stops a a b (x ++ y) [] x y (under_way_first a [] (x ++ y)) t

  -- within the others
  pub stops_at_others : (a b c : Option (List ℕ)) (i : List ℕ) → Sends a b x i → TakesPrefix b c (i ++ y) → TakesPrefix a c (x ++ y)
  stops_at_others a b c i s t = under_way_stops a b c (x ++ y) i y [] (after_line a b i s) t

  all_lines : (a b c : Option (List ℕ)) (i j : List ℕ) → Sends a b x i → Sends b c (i ++ y) j → IsUnderWay a c (x ++ y) j []
  all_lines a b c i j s t = under_way_more a b c (x ++ y) i y [] j (after_line a b i s) t

  -- all of them were handed on
  pub lines_done : (a b c : Option (List ℕ)) (i j : List ℕ) → Sends a b x i → Sends b c (i ++ y) j → Sends a c (x ++ y) j
  lines_done a b c i j s t = under_way_done a c (x ++ y) j (all_lines a b c i j s t)

-- the line of the element at a place, and those after it
lines_from : {X : Type 0} (f : X → List ℕ) (xs : List X) (i : ℕ) (d : X) → i < length xs → flat_map f (drop i xs) ≡ f (get_or xs i d) ++ flat_map f (drop (i + 1) xs)
lines_from f xs i d l =
    let e : drop i xs ≡ get_or xs i d ∷ drop (i + 1) xs = rw (add-one, drop-cons xs i d l) refl in
    ap (flat_map f) e ∙ flat_map-cons f (get_or xs i d) (drop (i + 1) xs)

module _ {X : Type 0} (f : X → List ℕ) (xs : List X) (i : ℕ) (d : X) (a b c : Option (List ℕ)) (whole held : List ℕ) (l : i < length xs) (u : IsUnderWay a b whole held (flat_map f (drop i xs))) where
  -- one more of these lines was handed on
  pub more_lines : (after : List ℕ) → Sends b c (held ++ f (get_or xs i d)) after → IsUnderWay a c whole after (flat_map f (drop (i + 1) xs))
  more_lines after s =
      under_way_more a b c whole held (f (get_or xs i d)) (flat_map f (drop (i + 1) xs)) after
      (subst (IsUnderWay a b whole held) (lines_from f xs i d l) u) s

  -- the sink gave up within one of them
  pub stops_at_lines : TakesPrefix b c (held ++ f (get_or xs i d)) → TakesPrefix a c whole
  stops_at_lines t =
      under_way_stops a b c whole held (f (get_or xs i d)) (flat_map f (drop (i + 1) xs))
      (subst (IsUnderWay a b whole held) (lines_from f xs i d l) u) t
