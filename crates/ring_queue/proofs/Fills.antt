-- A push fills its place.
use Rattle.std.proofs.Common.{◌≡◌, ◌≢◌, ℕ, suc, ◌+◌, ◌-◌, ◌%◌, inl, inr, List, [], ◌∷◌, get_or, set, slice_get}
use Rattle.std.proofs.Common.{Option, Some, None, sym, refl, ap, ◌∙◌, subst, arith, append-nil}
use Rattle.std.proofs.lemmas.Option.{none-some}
use Rattle.history.specs.declared.operations.Taken.{Taken}
use Rattle.ring_queue.specs.Words.{face, slot_word}
use Rattle.ring_queue.specs.Plans.{Layout}
use Rattle.ring_queue.specs.Paths.{C4, Event, writing, Step, Ran, accessed, added_by}
use Rattle.ring_queue.specs.Rows.{fills as row_fills}
use Rattle.ring_queue.specs.Knowledge.{standing, claimed, SeatView}
use Rattle.ring_queue.specs.Rule.{Cell, SeatOk, HasClaimed, Stands, put, Ring}
use Rattle.ring_queue.proofs.Puts.{put_else}
use Rattle.ring_queue.specs.Steps.{next_stage, PlaceFilled}
use Rattle.ring_queue.proofs.Keeps.{cell, fills}
use Rattle.ring_queue.proofs.Tables.{Extends, it_fits, runs_on}

-- the others of the places that a seat claimed, once it has filled the first
claimed_next : (p : ℕ) (x : Option Taken) (xs : List (Option Taken)) (q : ℕ) (y : Option Taken) → q ≢ p → HasClaimed (claimed p (x ∷ xs)) q y → HasClaimed (standing (p + 1) xs) q y
claimed_next p x [] q y ne h =
    let low = h.0 in
    absurd (none-some y (ap (slice_get (x ∷ [])) (let e : suc (q - (p + 1)) ≡ q - p = omega (arith, low, ne) in e) ∙ h.1))
claimed_next p x (w ∷ ws) q y ne h =
    let low = h.0 in
    (omega (arith, low, ne), ap (slice_get (x ∷ w ∷ ws)) (let e : suc (q - (p + 1)) ≡ q - p = omega (arith, low, ne) in e) ∙ h.1)

module _ (z : Layout) (words : List ℕ) (seats : ℕ → SeatView) (r : Ring z words seats) (v : SeatView) (is : seats v.number ≡ v)
    (run : List Step) (whole : r.history ≡ added_by run) (knew : Ran run v.number v.ran) where
  abbrev pub fit : SeatOk z r.head r.tail r.log r.cells r.history v.number v
  fit = it_fits z words seats r v is

  -- the first place is filled of those that the seat claimed from one on
  pub fills_place : (p : ℕ) (x : Option Taken) (xs : List (Option Taken)) → v.stage ≡ claimed p (x ∷ xs)
      → (v' : SeatView) × (v'.number ≡ v.number) × (r' : Ring z (set words (slot_word (p % z.slots)) (face z.slots p x)) (put seats v.number v'))
      × Extends run [] r.history v r'.history v' × PlaceFilled z (slot_word (p % z.slots)) (face z.slots p x) v (get_or words (slot_word (p % z.slots)) 0) v'
  fills_place p x xs at =
      let own : (q : ℕ) (y : Option Taken) → HasClaimed (claimed p (x ∷ xs)) q y → (r.cells (q % z.slots) ≡ cell q (Some v.number))
      × (r.log q ≡ y) = subst (Stands z.slots r.head r.tail r.log r.cells v) at fit.stage in
      let mine = own p x (omega arith, ap (slice_get (x ∷ xs)) (let e : p - p ≡ 0 = omega arith in e)) in
      let ev : Event = writing C4 (slot_word (p % z.slots)) (get_or words (slot_word (p % z.slots)) 0) (face z.slots p x) [] in
      let v' : SeatView = record v { stage = standing (p + 1) xs; ran = accessed run v.number ev } in
      let made = fills z words seats r v.number p x v' (λ q y ne h. claimed_next p x xs q y ne (subst (λ st. HasClaimed st q y) (ap (λ (u : SeatView). u.stage) is ∙ at) h)) mine.0 mine.1
      (record { number = refl; behind = fit.behind; under = fit.under; rest = fit.rest; begins = fit.begins; own = fit.own; known = fit.known; noted = fit.noted; stage = stands_next p x xs (accessed run v.number ev) own mine.0 }) in (
        v',
        refl,
        made.0,
        record { added = []; which = inl refl; grown = made.1 ∙ sym (append-nil r.history); own = sym (append-nil v.mine); seen = inr (refl, refl); event = ev; ran = refl },
        (
          accessed run v.number ev,
          ap (λ st. record v { stage = next_stage st; ran = accessed run v.number ev }) (sym at),
          runs_on run v.number v.ran knew ev,
          row_fills (get_or words (slot_word (p % z.slots)) 0) p x xs at refl refl,
        ),
      )
    where
      stands_next : (p : ℕ) (x : Option Taken) (xs : List (Option Taken)) (ran : List Step) → ((q : ℕ) (y : Option Taken) → HasClaimed (claimed p (x ∷ xs)) q y
          → (r.cells (q % z.slots) ≡ cell q (Some v.number)) × (r.log q ≡ y))
          → r.cells (p % z.slots) ≡ cell p (Some v.number) → Stands z.slots r.head r.tail r.log (put r.cells (p % z.slots) (cell p None))
          (record v { stage = standing (p + 1) xs; ran = ran }) (standing (p + 1) xs)
      stands_next p x [] ran own mine = tt
      stands_next p x (y ∷ ys) ran own mine = λ q w h.
          let low = h.0 in
          let t = own q w (omega (arith, low), ap (slice_get (x ∷ y ∷ ys)) (let e : q - p ≡ suc (q - (p + 1)) = omega (arith, low) in e) ∙ h.1) in (
            put_else r.cells (p % z.slots) (q % z.slots) (cell p None) (λ e. absurd
                (let same : q ≡ p = ap (λ (d : Cell). d.place) (sym t.0 ∙ (ap r.cells e ∙ mine)) in omega (arith, same, low))) ∙ t.0,
            t.1,
          )
