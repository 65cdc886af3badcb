-- A token that gathers those of seats that are closed.
use Rattle.std.proofs.Common.{◌≡◌, ◌≢◌, ℕ, ◌<◌, List, [], ◌∷◌, ◌++◌, length, set, sym, refl, ap, ◌∙◌, subst, ⊎_elim}
use mathlib.Core.Option.{some}
use lib.ListN.{get_elem?}
use Rattle.atomic_table.specs.Table.{Joins, Enters}
use Rattle.atomic_table.proofs.Lists.{at_set, set_else}
use Rattle.history.specs.declared.operations.Entry.{Entry}
use Rattle.ring_queue.specs.Plans.{Layout}
use Rattle.ring_queue.specs.Knowledge.{SeatView, View, keeper, gathered, seated, spent, members, knowing}
use Rattle.ring_queue.specs.Rule.{put, Holds}
use Rattle.ring_queue.proofs.Puts.{put_here, put_else}
use Rattle.ring_queue.proofs.Tables.{HoldsWith}
use Rattle.ring_queue.proofs.Deals.{at_end}
use Rattle.ring_queue.proofs.Meets.{views_now}
use Rattle.node_arena.proofs.KnownRuns.{no_one}
use Rattle.node_arena.proofs.KnownRuns as known_runs

-- a token that gathers takes in one of a seat
pub gathers : (z : Layout) (es : List Entry) (id other : ℕ) (vs : List SeatView) (w : SeatView) → Joins {S = ℕ} (HoldsWith z es) id (gathered vs) other (seated w) (gathered (vs ++ w ∷ [])) spent
gathers z es id other vs w s whole at_id ne at_other =
    let h : Holds z s = whole.0 in
    let all : View = gathered (vs ++ w ∷ []) in
    let there : get_elem? s.views other ≡ some (seated w) = sym (set_else s.views id other all ne) ∙ at_other in
    let l : ℕ = length vs in
    let own : ℕ → ℕ × ℕ = put h.owner w.number (id, l) in
    let ow = h.owned other 0 (seated w) w there refl in
    let P : ℕ → ℕ → SeatView → Type 0 = λ j i o. (h.seats o.number ≡ o) × (own o.number ≡ (j, i)) × (o.number < h.dealt) in
    let old : (j i : ℕ) (u : View) (o : SeatView) → j ≢ other → get_elem? s.views j ≡ some u → get_elem? (members u) i ≡ some o → P j i o = λ j i u o far a b.
    let k = h.owned j i u o a b in (h.fits j i u o a b, put_else h.owner w.number o.number (id, l) (λ e. far (ap (λ (y : ℕ × ℕ). y.0) (sym k.0 ∙ (ap h.owner e ∙ ow.0)))) ∙ k.0, k.1) in
    let new : P id l w = (h.fits other 0 (seated w) w there refl, put_here h.owner w.number w.number (id, l) refl, ow.1) in
    let q = views_now z s h (set (set s.views id all) other spent) own
    (λ j i u o a b. ⊎_elim
    (λ (t : (j ≡ other) × (spent ≡ u)). no_one o i (ap (λ (y : View). get_elem? (members y) i) t.1 ∙ b))
    (λ (t : (j ≢ other) × (get_elem? (set s.views id all) j ≡ some u)). ⊎_elim
    (λ (q : (j ≡ id) × (all ≡ u)). subst (λ x. P x i o) (sym q.0) (⊎_elim
    (λ (y : get_elem? vs i ≡ some o). old id i (gathered vs) o (λ e. ne (sym e)) at_id y)
    (λ (y : (i ≡ l) × (w ≡ o)). subst (λ (x : ℕ × SeatView). P id x.0 x.1) (λ c. (sym y.0 c, y.1 c)) new)
    (at_end vs w o i (ap (λ (y : View). get_elem? (members y) i) q.1 ∙ b))))
    (λ (q : (j ≢ id) × (get_elem? s.views j ≡ some u)). old j i u o t.0 q.1 b)
    (at_set s.views id j all u t.1))
    (at_set (set s.views id all) other j spent u a))
    (λ j m n a. ⊎_elim (λ (t : (j ≡ other) × (spent ≡ keeper m n)). let e = t.1 in cc)
    (λ (t : (j ≢ other) × (get_elem? (set s.views id all) j ≡ some (keeper m n))). ⊎_elim
    (λ (q : (j ≡ id) × (all ≡ keeper m n)). let e = q.1 in cc)
    (λ (q : (j ≢ id) × (get_elem? s.views j ≡ some (keeper m n))). h.kept j m n q.1)
    (at_set s.views id j all (keeper m n) t.1))
    (at_set (set s.views id all) other j spent (keeper m n) a))
    (known_runs.gathers knowing s.views id other (gathered vs) all spent w at_id ne there refl) in
    (q.0, q.1 ∙ whole.1)

-- a new token gathers
pub enters_with : (key : Layout) (es : List Entry) (slots word : ℕ) → Enters {S = ℕ} (HoldsWith key es) slots word (λ n w. w ≡ gathered [])
enters_with key es slots word s whole empty fit =
    let h : Holds key s = whole.0 in
    let q = views_now key s h (s.views ++ gathered [] ∷ []) h.owner
    (λ j i u o a b. ⊎_elim
    (λ (t : get_elem? s.views j ≡ some u). let k = h.owned j i u o t b in (h.fits j i u o t b, k.0, k.1))
    (λ (t : (j ≡ length s.views) × (gathered [] ≡ u)). no_one o i (ap (λ (y : View). get_elem? (members y) i) t.1 ∙ b))
    (at_end s.views (gathered []) u j a))
    (λ j m n a. ⊎_elim
    (λ (t : get_elem? s.views j ≡ some (keeper m n)). h.kept j m n t)
    (λ (t : (j ≡ length s.views) × (gathered [] ≡ keeper m n)). let e = t.1 in cc)
    (at_end s.views (gathered []) (keeper m n) j a))
    (known_runs.comes knowing s.views (gathered [])) in
    (gathered [], (q.0, q.1 ∙ whole.1), refl)
