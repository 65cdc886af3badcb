-- The rows of the operations beside a reason, one after the other.
use Rattle.std.proofs.Common.{◌≡◌, ℕ, ◌+◌, ◌-◌, ◌<◌, ◌≤◌, Bool, List, [], ◌∷◌, ◌++◌, length, get_or, drop, min, Option, Some, refl, sym, ap, ap₂, ◌∙◌}
use Rattle.std.specs.Prelude.{slice_get}
use Rattle.std.specs.Option.{option_map_or}
use Rattle.std.proofs.lemmas.List.{at_drop_more}
use Rattle.std.proofs.lemmas.Option.{slice_get_past}
use Rattle.history.specs.declared.operations.Stamped.{Stamped}
use Rattle.show_engine.specs.declared.scales.Scale.{Scale}
use Rattle.show_engine.specs.Reasons.{earliest, least_of, operation_at, row_beside, rows_beside}
use Rattle.show_engine.specs.PicturesWritten.{is_among}

-- the operation at a place where there is one
pub operation_at-there : (ops : List Stamped) (place : ℕ) (o : Stamped) → slice_get ops (place - 1) ≡ Some o → operation_at ops place ≡ o ∷ []
operation_at-there ops place o there = ap (λ (at : Option Stamped). option_map_or (λ o. o ∷ []) at []) there

-- none where the list has no such place
pub operation_at-past : (ops : List Stamped) (place index : ℕ) → index ≡ place - 1 → length ops ≤ index → operation_at ops place ≡ []
operation_at-past ops place index is past =
    ap (λ (at : Option Stamped). option_map_or (λ o. o ∷ []) at []) (ap (slice_get ops) (sym is) ∙ slice_get_past ops index past)

-- the least number of the operations that are left, of which one is read
pub earliest-drop : (least : ℕ) (ops : List Stamped) (i : ℕ) (o : Stamped) → i < length ops → o ≡ get_or ops i o
    → earliest least (drop i ops) ≡ earliest (min least (least_of o)) (drop (i + 1) ops)
earliest-drop least ops i o within is =
    at_drop_more (earliest least) ops i o within ∙ ap (λ (e : Stamped). earliest (min least (least_of e)) (drop (i + 1) ops)) (sym is)

module _ (s : Scale) (lines : List (List ℕ)) (header : ℕ) where
  -- the rows of the operations that are left, of which one is read
  pub rows_beside-drop : (places : List ℕ) (place : ℕ) (ops : List Stamped) (i : ℕ) (o : Stamped) → i < length ops → o ≡ get_or ops i o
      → rows_beside s lines header places place (drop i ops)
      ≡ row_beside s o (is_among places place) lines (place + header) ++ rows_beside s lines header places (place + 1) (drop (i + 1) ops)
  rows_beside-drop places place ops i o within is =
      at_drop_more (rows_beside s lines header places place) ops i o within
      ∙ ap (λ (e : Stamped). row_beside s e (is_among places place) lines (place + header) ++ rows_beside s lines header places (place + 1) (drop (i + 1) ops)) (sym is)

  -- rows where the same operations are of the reason
  pub rows_beside-same : (a b : List ℕ) → ((number : ℕ) → is_among a number ≡ is_among b number) → (place : ℕ) (ops : List Stamped)
      → rows_beside s lines header a place ops ≡ rows_beside s lines header b place ops
  rows_beside-same a b same place [] = refl
  rows_beside-same a b same place (o ∷ ops) =
      ap₂ (λ (is_of : Bool) (rest : List ℕ). row_beside s o is_of lines (place + header) ++ rest) (same place) (rows_beside-same a b same (place + 1) ops)
