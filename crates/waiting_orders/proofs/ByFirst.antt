-- The operations of a history by first numbers.
use Rattle.std.proofs.Common.{◌≡◌, ℕ, zero, suc, ◌+◌, Bool, true, false, not, cond, Some, List, [], ◌∷◌, ◌++◌, slice_get, take, refl, sym, ap, ◌∙◌, subst, add-one, arith}
use Rattle.std.specs.List.{AllByRecursion, filter}
use Rattle.std.specs.List.Sorted.{IsPermutation}
use Rattle.std.proofs.lemmas.List.{append-nil}
use Rattle.std.proofs.lemmas.List.Elements.{filter-append}
use Rattle.std.proofs.lemmas.List.Sorted.{IsPermutation-trans, IsPermutation-append, IsPermutation-filter_both}
use Rattle.std.proofs.lemmas.Option.{same_Some}
use Rattle.history.specs.declared.operations.Stamped.{Stamped}
use Rattle.waiting_orders.specs.declared.boards.Board.{Board}
use Rattle.waiting_orders.specs.Indexed.{indexed}
use Rattle.waiting_orders.specs.Waiting.{waits}
use Rattle.waiting_orders.specs.Lines.{IsRising}
use Rattle.waiting_orders.specs.Nodes.{IsBoard}
use Rattle.waiting_orders.proofs.Futures.{all_moved}
use Rattle.waiting_orders.proofs.Lists.{all_pass}

pub board_is : (ops : List Stamped) (board : Board) (others pushes : List Stamped) → others ≡ filter (λ o. not (waits o)) ops → pushes ≡ filter waits ops
    → IsPermutation others board.others.items → IsPermutation pushes board.pushes.items → IsRising board.others.items → IsRising board.pushes.items
    → IsBoard ops board
board_is ops board others pushes e f h k r q =
    let no = λ (o : Stamped). not (waits o) in
    let first : IsPermutation (filter no ops) board.others.items = subst (λ l. IsPermutation l board.others.items) e h in
    let second : IsPermutation (filter waits ops) board.pushes.items = subst (λ l. IsPermutation l board.pushes.items) f k in
    record {
      rising = record { others = r; pushes = q };
      all = IsPermutation-trans _ _ _ (IsPermutation-filter_both no waits twice ops) (IsPermutation-append (filter no ops) board.others.items (filter waits ops) board.pushes.items first second);
      others = all_moved (λ o. waits o ≡ false) (filter no ops) board.others.items first (each (filter no ops) (all_pass no ops));
      pushes = all_moved (λ o. waits o ≡ true) (filter waits ops) board.pushes.items second (all_pass waits ops);
    }
  where
    twice : (o : Stamped) → waits o ≡ not (not (waits o))
    twice o = go (waits o)
      where
        go : (b : Bool) → b ≡ not (not b)
        go true = refl
        go false = refl

    off : (b : Bool) → not b ≡ true → b ≡ false
    off true e = absurd cc
    off false e = refl

    each : (xs : List Stamped) → AllByRecursion (λ o. not (waits o) ≡ true) xs → AllByRecursion (λ o. waits o ≡ false) xs
    each [] h = tt
    each (x ∷ xs) h = (off (waits x) h.0, each xs h.1)

-- ---- one more of a history

indexed_next : (ops : List Stamped) (n k : ℕ) (o : Stamped) → slice_get ops k ≡ Some o → indexed n (take (k + 1) ops) ≡ indexed n (take k ops) ++ record o { at = Some (n + k) } ∷ []
indexed_next [] n k o e = absurd cc
indexed_next (x ∷ ops) n zero o e =
    let z : n ≡ n + 0 = omega arith in
    ap (λ m. (let p : Stamped = record x { at = Some m } in p) ∷ []) z ∙ ap (λ y. (let p : Stamped = record y { at = Some (n + 0) } in p) ∷ []) (same_Some x o e)
indexed_next (x ∷ ops) n (suc k) o e =
    let s : suc n + k ≡ n + suc k = omega arith in
    ap (λ m. indexed n (take m (x ∷ ops))) (add-one (suc k)) ∙ ap (λ m. indexed n (x ∷ take m ops)) (sym (add-one k))
    ∙ ap (λ l. record x { at = Some n } ∷ l) (indexed_next ops (suc n) k o e ∙ ap (λ m. indexed (suc n) (take k ops) ++ (let p : Stamped = record o { at = Some m } in p) ∷ []) s)

module _ (test : Stamped → Bool) (ops : List Stamped) (k : ℕ) (o : Stamped) (there : slice_get ops k ≡ Some o) where
  abbrev call : Stamped
  call = record o { at = Some k }

  next : indexed 0 (take (k + 1) ops) ≡ indexed 0 (take k ops) ++ call ∷ []
  next = let z : 0 + k ≡ k = omega arith in indexed_next ops 0 k o there ∙ ap (λ m. indexed 0 (take k ops) ++ (let p : Stamped = record o { at = Some m } in p) ∷ []) z

  one : (b : Bool) → test call ≡ b → filter test (indexed 0 (take (k + 1) ops)) ≡ filter test (indexed 0 (take k ops)) ++ cond b (call ∷ []) []
  one b e = ap (filter test) next ∙ filter-append test (indexed 0 (take k ops)) (call ∷ []) ∙ ap (λ b. filter test (indexed 0 (take k ops)) ++ cond b (call ∷ []) []) e

  pub gathers : test call ≡ true → (items after : List Stamped) → items ≡ filter test (indexed 0 (take k ops)) → after ≡ items ++ call ∷ [] → after ≡ filter test (indexed 0 (take (k + 1) ops))
  gathers e items after h put = put ∙ ap (λ l. l ++ call ∷ []) h ∙ sym (one true e)

  pub passes_by : test call ≡ false → (items after : List Stamped) → items ≡ filter test (indexed 0 (take k ops)) → after ≡ items → after ≡ filter test (indexed 0 (take (k + 1) ops))
  passes_by e items after h same = same ∙ h ∙ sym (append-nil (filter test (indexed 0 (take k ops)))) ∙ sym (one false e)
