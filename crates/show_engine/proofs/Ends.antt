-- What is written behind the rows of a picture.
use Rattle.std.proofs.Common.{◌≡◌, ℕ, ◌+◌, ◌<◌, List, [], ◌++◌, Result, append_assoc, get_or, length, take}
use Rattle.std.specs.List.{flat_map}
use Rattle.std.proofs.lemmas.List.{get_or_default}
use Rattle.history.specs.declared.refusals.Refusal.{Refusal}
use Rattle.text_io.specs.Blocks.{Sends, Writes}
use Rattle.text_io.specs.Devices.{SinkState}
use Rattle.text_io.proofs.Rows.{rows_more}
use Rattle.run_engine.specs.Answers.{Tells}
use Rattle.run_engine.proofs.HasTold.{Tells-then, Tells-written}

-- behind what was told of a text, two more texts are written with what is held back
pub Tells-end : {A : Type 0} (a b d : SinkState) (text held x y : List ℕ) (result : Result A Refusal) → Sends a.contents b.contents text held → b.failures ≡ a.failures
    → Writes b d ((held ++ x) ++ y) result → Tells a d ((text ++ x) ++ y) [] result
Tells-end a b d text held x y result sends quiet writes =
    rw (append_assoc text x y)
    (Tells-then a b d text held (x ++ y) [] result sends quiet (Tells-written b d (held ++ (x ++ y)) result (rw (append_assoc held x y) at writes)))

-- one more element, at any default
pub rows_more_at : {X : Type 0} (f : X → List ℕ) (head : List ℕ) (xs : List X) (i : ℕ) (d : X) → i < length xs
    → (head ++ flat_map f (take i xs)) ++ f (get_or xs i d) ≡ head ++ flat_map f (take (i + 1) xs)
rows_more_at f head xs i d within = rows_more f head xs i (get_or xs i d) within (get_or_default xs i d (get_or xs i d) within)
