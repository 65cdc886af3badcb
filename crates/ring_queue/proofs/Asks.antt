-- What the lines ask of a ring's table.
use Rattle.std.proofs.Common.{◌≡◌, ℕ, ◌<◌, Bool, true, false, if◌then◌else◌, List, [], ◌∷◌, Option, sym, refl, ap, ◌∙◌, subst, arith, ⊎_elim, inl, ◌++◌, ◌^◌, append-nil, append_assoc}
use mathlib.Core.Logic.{dite}
use native.Mathlib.Decide.{dec_le}
use Rattle.atomic_table.specs.Table.{Me, Allows, carried_after}
use Rattle.atomic_table.specs.Seated.{TableId}
use Rattle.history.specs.declared.operations.Entry.{Entry}
use Rattle.history.specs.declared.operations.Entry.TheVariants.{Shut}
use Rattle.node_arena.specs.Deeds.{closed}
use Rattle.ring_queue.specs.declared.seats.Seat.{Seat}
use Rattle.ring_queue.specs.Plans.{Layout, IsTable, words_of}
use Rattle.ring_queue.specs.Knowledge.{SeatView, seated, knows}
use Rattle.ring_queue.specs.Beside.{Beside, EffectBy, HoldsAs, HoldsBy, IsReadyBy, Moves, Stays, TellsBeside, TellsQuiet, placed_of}
use Rattle.ring_queue.specs.Placed.{free, pairs_of, TellsSaid, TellsShut}
use Rattle.ring_queue.specs.Steps.{Rests, PlaceFilled, ShutMade}
use Rattle.ring_queue.specs.PlacedSeats.{HasStored}
use Rattle.ring_queue.specs.Seats.{view, Sits}
use Rattle.ring_queue.proofs.Calls.{Does}
use Rattle.ring_queue.proofs.Lifts.{allows_beside}
use Rattle.ring_queue.proofs.Runs.{Made}
use Rattle.ring_queue.proofs.Placing.{IsOwn}
use Rattle.ring_queue.proofs.PlacedAllows.{allows_quiet, allows_shut}
use Rattle.ring_queue.proofs.PlacedKinds.{quiet_of}
use Rattle.ring_queue.proofs.PlacedAsks.{in_placed, asks_filled}

-- nothing has to be ready for a step that adds nothing
pub ready_none : {T : Type 0} (b : Bool) (slots n : ℕ) (me : Me (Option T) (Beside T)) → IsReadyBy b slots n [] me
ready_none true slots n me = tt
ready_none false slots n me = tt

-- nothing has to be ready where no values are carried
pub ready_numbers : {T : Type 0} (b : Bool) (slots n : ℕ) (all : List Entry) (me : Me (Option T) (Beside T)) → b ≡ false → IsReadyBy b slots n all me
ready_numbers {T} b slots n all me is = subst (λ (c : Bool). IsReadyBy {T = T} c slots n all me) (sym is) tt

-- for a shut nothing has to be ready
pub ready_shut : {T : Type 0} (b : Bool) (slots n : ℕ) (me : Me (Option T) (Beside T)) → IsReadyBy b slots n (Shut n ∷ []) me
ready_shut true slots n me = refl
ready_shut false slots n me = tt

-- a step that may add nothing moves no slot
stays : {T : Type 0} (b : Bool) (me me' : Me (Option T) (Beside T)) → Moves b [] me me' → Stays me me'
stays {T} b me me' moves = go b (subst (λ (fs : List Entry). EffectBy b (knows me.0.plain).number fs me me') (⊎_elim (λ (e : moves.0 ≡ []). e) (λ (e : moves.0 ≡ []). e) moves.1) moves.3)
  where
    go : (c : Bool) → EffectBy c (knows me.0.plain).number [] me me' → Stays me me'
    go true e = record { held = e.0; hand = e.1; between = e.2.0; deeds = e.2.1; said = moves.4 }
    go false e = record { held = e.0; hand = e.1; between = []; deeds = e.2 ∙ sym (append-nil me.0.deeds); said = moves.4 }

-- nor does one that may shut the queue
stays_shut : {T : Type 0} (b : Bool) (n : ℕ) (me me' : Me (Option T) (Beside T)) → Moves b (Shut n ∷ []) me me' → Stays me me'
stays_shut {T} b n me me' moves =
    ⊎_elim
    (λ (e : moves.0 ≡ []). stays b me me' (moves.0, inl e, moves.2, moves.3, moves.4))
    (λ (e : moves.0 ≡ Shut n ∷ []). go b (subst (λ (fs : List Entry). EffectBy b (knows me.0.plain).number fs me me') e moves.3))
    moves.1
  where
    go : (c : Bool) → EffectBy c (knows me.0.plain).number (Shut n ∷ []) me me' → Stays me me'
    go true e = record { held = e.0; hand = e.1; between = e.2.0 ++ closed (knows me.0.plain).number ∷ []; deeds = e.2.1 ∙ append_assoc me.0.deeds e.2.0 (closed (knows me.0.plain).number ∷ []); said = moves.4 }
    go false e = record { held = e.0; hand = e.1; between = []; deeds = e.2 ∙ sym (append-nil me.0.deeds); said = moves.4 }

module _ {T : Type 0} (z about : Layout) (t : TableId) (s : Seat T) (F : Layout → SeatView → ℕ → SeatView → Type 0) (laid : IsTable z about t) where
  -- what a line asks of a table whose values aren't words in their places
  pub asks_all : {all : List Entry} (i : ℕ) (f : ℕ → ℕ) → z.placed ≡ false → Sits z t s → i < words_of z → Does z i (view s) f all (F z)
      → ((n : ℕ) (v' : SeatView) → F z (view s) n v' → Made z i n (f n) (view s) v') → IsReadyBy z.carries z.slots (view s).number all s.token.me
      → (s.token.table_id ≡ t) × (i < t.words) × Allows {S = Option T} (HoldsBy about) t.slots s.token.id s.token.me i f (λ n m. TellsBeside about.carries about all (F about) s.token.me n m)
  asks_all {all} i f unplaced sits within line ran ready =
      let v : SeatView = view s in
      let me = s.token.me in
      let at : Me (Option T) (Beside T) = (record { plain = seated v; deeds = me.0.deeds; hand = me.0.hand; others = me.0.others; tries = me.0.tries; placing = me.0.placing }, me.1) in
      let back : at ≡ me = (λ i. (record { plain = sym sits.seat i; deeds = me.0.deeds; hand = me.0.hand; others = me.0.others; tries = me.0.tries; placing = me.0.placing }, me.1)) in
      let P : Layout × Me (Option T) (Beside T) → Type 0 = λ y. Allows {S = Option T} (HoldsBy y.0) t.slots s.token.id y.1 i f (λ n m. TellsBeside y.0.carries y.0 all (F y.0) y.1 n m) in
      let words = laid.words in (
        sits.table,
        omega (arith, within, words),
        subst P (λ c. (sym laid.key c, back c))
            (subst (λ (b : Bool). Allows {S = Option T} (HoldsAs b z) t.slots s.token.id at i f (λ n m. TellsBeside z.carries z all (F z) at n m)) (sym unplaced)
            (allows_beside z t.slots s.token.id i v me.0.deeds me.0.hand me.0.others me.0.tries me.0.placing me.1 f all (F z) line within ran z.carries unplaced (λ c. laid.slots ∙ ap (λ (b : Bool). if b then z.slots else 0) c)
            (subst (λ (y : Me (Option T) (Beside T)). IsReadyBy z.carries z.slots v.number all y) (sym back) ready))),
      )

  -- the same of a line that adds nothing
  pub asks_plain : (i : ℕ) (f : ℕ → ℕ) → z.placed ≡ false → Sits z t s → i < words_of z → Does z i (view s) f [] (F z) → ((n : ℕ) (v' : SeatView) → F z (view s) n v' → Made z i n (f n) (view s) v')
      → (s.token.table_id ≡ t) × (i < t.words) × Allows {S = Option T} (HoldsBy about) t.slots s.token.id s.token.me i f (λ n m. TellsQuiet about.carries about (F about) s.token.me n m)
  asks_plain i f unplaced sits within line ran =
      let whole = asks_all i f unplaced sits within line ran (ready_none z.carries z.slots (view s).number s.token.me) in (
        whole.0,
        whole.1,
        λ state h count mine small.
            let q = whole.2 state h count mine small in
            (q.0, q.1, q.2, q.3, (q.4.0, q.4.1, stays about.carries s.token.me (q.0, carried_after s.token.me.1 q.1) q.4.2, q.4.3)),
      )

  -- what a line asks that adds nothing, of a seat in no call
  pub asks : (i : ℕ) (f : ℕ → ℕ) → Sits z t s → i < words_of z → IsOwn (pairs_of z) i → Does z i (view s) f [] (F z) → ((n : ℕ) (v' : SeatView) → F z (view s) n v' → Made z i n (f n) (view s) v') → Rests (view s).stage
      → (s.token.table_id ≡ t) × (i < t.words) × Allows {S = Option T} (HoldsBy about) t.slots s.token.id s.token.me i f (λ n m. TellsQuiet about.carries about (F about) s.token.me n m)
  asks i f sits within own line ran rested = go z.placed refl
    where
      go : (b : Bool) → z.placed ≡ b
          → (s.token.table_id ≡ t) × (i < t.words) × Allows {S = Option T} (HoldsBy about) t.slots s.token.id s.token.me i f (λ n m. TellsQuiet about.carries about (F about) s.token.me n m)
      go false e = asks_plain i f e sits within line ran
      go true e = let p = s.token.me.0.placing in in_placed z about t s laid e (λ y n m. TellsQuiet y.carries y (F y) s.token.me n m) i f sits (omega (arith, within)) (λ w k o. TellsSaid (F z) [] free (w, []) k o)
          (allows_quiet z s.token.id (view s) p.deeds p.hand p.others i f (F z) line own ran rested)
          (λ n m told back. quiet_of z (F z) [] free s.token.me n m e (laid.planned.apart e) told back)

  -- the same of a line that may shut the queue
  pub asks_shut : (f : ℕ → ℕ) → (F z ≡ ShutMade z) → Sits z t s → 0 < words_of z → Does z 0 (view s) f (Shut (view s).number ∷ []) (F z) → ((n : ℕ) (v' : SeatView) → F z (view s) n v' → Made z 0 n (f n) (view s) v')
      → Rests (view s).stage
      → (s.token.table_id ≡ t) × (0 < t.words) × Allows {S = Option T} (HoldsBy about) t.slots s.token.id s.token.me 0 f (λ n m. TellsQuiet about.carries about (F about) s.token.me n m)
  asks_shut f is sits within line ran rested = go z.placed refl
    where
      go : (b : Bool) → z.placed ≡ b
          → (s.token.table_id ≡ t) × (0 < t.words) × Allows {S = Option T} (HoldsBy about) t.slots s.token.id s.token.me 0 f (λ n m. TellsQuiet about.carries about (F about) s.token.me n m)
      go false e =
          let whole = asks_all 0 f e sits within line ran (ready_shut z.carries z.slots (view s).number s.token.me) in (
            whole.0,
            whole.1,
            λ state h count mine small.
                let q = whole.2 state h count mine small in
                (q.0, q.1, q.2, q.3, (q.4.0, q.4.1, stays_shut about.carries (view s).number s.token.me (q.0, carried_after s.token.me.1 q.1) q.4.2, q.4.3)),
          )
      go true e = let p = s.token.me.0.placing in in_placed z about t s laid e (λ y n m. TellsQuiet y.carries y (F y) s.token.me n m) 0 f sits (omega (arith, within)) (λ w k o. TellsShut z (w, []) k o)
          (allows_shut z s.token.id (view s) p.deeds p.hand p.others f
          (subst (λ (g : SeatView → ℕ → SeatView → Type 0). Does z 0 (view s) f (Shut (view s).number ∷ []) g) is line)
          (subst (λ (g : SeatView → ℕ → SeatView → Type 0). (n : ℕ) (v' : SeatView) → g (view s) n v' → Made z 0 n (f n) (view s) v') is ran) rested)
          (λ n m told back. subst (λ (g : SeatView → ℕ → SeatView → Type 0). TellsQuiet z.carries z g s.token.me n m) (sym is)
          (dite (dec_le (2 ^ 62) n)
          (λ shut. quiet_of z (ShutMade z) [] free s.token.me n m e (laid.planned.apart e) (told.1 shut) back)
          (λ opened. quiet_of z (ShutMade z) (closed (knows (placed_of s.token.me.0).plain).number ∷ []) free s.token.me n m e (laid.planned.apart e) (told.0 (omega (arith, opened))) back)))

-- C4, whether values lie in their places or not
pub asks_fill : {T : Type 0} (z about : Layout) (t : TableId) (s : Seat T) (laid : IsTable z about t) (i word : ℕ) → Sits z t s → i < words_of z → IsOwn (pairs_of z) i → Does z i (view s) (λ _. word) [] (PlaceFilled z i word)
    → ((n : ℕ) (v' : SeatView) → PlaceFilled z i word (view s) n v' → Made z i n word (view s) v') → (z.placed ≡ true → HasStored z.width s)
    → (s.token.table_id ≡ t) × (i < t.words) × Allows {S = Option T} (HoldsBy about) t.slots s.token.id s.token.me i (λ _. word) (λ n m. TellsQuiet about.carries about (PlaceFilled about i word) s.token.me n m)
asks_fill {T} z about t s laid i word sits within own line ran has = go z.placed refl
  where
    go : (b : Bool) → z.placed ≡ b
        → (s.token.table_id ≡ t) × (i < t.words) × Allows {S = Option T} (HoldsBy about) t.slots s.token.id s.token.me i (λ _. word) (λ n m. TellsQuiet about.carries about (PlaceFilled about i word) s.token.me n m)
    go false e = asks_plain z about t s (λ y. PlaceFilled y i word) laid i (λ _. word) e sits within line ran
    go true e = asks_filled z about t s laid e i word sits within own line ran (has e)
