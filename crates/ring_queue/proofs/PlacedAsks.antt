-- What the lines ask of a table whose values lie in their places, at the names of a call.
use Rattle.std.proofs.Common.{◌≡◌, ℕ, ◌+◌, ◌%◌, ◌^◌, ◌<◌, Bool, true, false, List, [], ◌∷◌, ◌++◌, length, get_or, Option, sym, ap, ◌∙◌, subst, arith, append-nil}
use Rattle.std.proofs.Math.Logic.{∥∥₁_map}
use mathlib.Core.Logic.{dite}
use native.Mathlib.Decide.{ℕ_discrete, dec_le}
use Rattle.atomic_table.specs.Table.{Me, Allows, carried_after}
use Rattle.atomic_table.specs.Seated.{TableId}
use Rattle.history.specs.declared.operations.Entry.{Entry}
use Rattle.history.specs.declared.operations.Entry.TheVariants.{Shut}
use Rattle.history.specs.declared.operations.Taken.{Taken}
use Rattle.node_arena.specs.Deeds.{Deed, Matches, Runs, pushed, popped, closed}
use Rattle.ring_queue.specs.declared.seats.Seat.{Seat}
use Rattle.ring_queue.specs.Plans.{Layout, IsTable, words_of, further_of}
use Rattle.ring_queue.specs.Knowledge.{SeatView, View, seated, claimed, found, knows}
use Rattle.ring_queue.specs.Steps.{Rests, pushes, pops, PlacesClaimed, FrontsTaken, PlaceFilled, ShutMade}
use Rattle.ring_queue.specs.Beside.{Beside, HoldsAs, HoldsBy, KnowsBy, SaidBy, TellsQuiet, placed_of}
use Rattle.ring_queue.specs.Placed.{Hand, HasRead, free, storing, loading, value_word, pairs_of, placed_view, PlacedView, KnowsSaid, TellsSaid, TellsClaimed, TellsTaken, TellsShut, TellsStored, TellsLoaded, with_value}
use Rattle.ring_queue.specs.Seats.{view, Sits}
use Rattle.ring_queue.specs.PlacedSeats.{HasStored, TellsHand, TellsClaim, TellsClose, TellsTake, hand_of}
use Rattle.ring_queue.proofs.Calls.{Does}
use Rattle.ring_queue.proofs.Runs.{Made}
use Rattle.ring_queue.proofs.Placing.{IsOwn, Keeping}
use Rattle.ring_queue.proofs.PlacedAllows.{allows_claim, allows_fill, allows_take, allows_shut, allows_store, allows_load}
use Rattle.ring_queue.proofs.PlacedKinds.{back_to, in_places, quiet_of}

module _ {T : Type 0} (z about : Layout) (t : TableId) (s : Seat T) (laid : IsTable z about t) (placed : z.placed ≡ true) where
  abbrev me : Me (Option T) (Beside T)
  me = s.token.me

  abbrev its : PlacedView
  its = placed_view (seated (view s)) me.0.placing

  numbers : z.carries ≡ false
  numbers = laid.planned.apart placed

  -- what a line asks, by what it tells
  pub in_placed : (Pick : Layout → ℕ → Me (Option T) (Beside T) → Type 0) (i : ℕ) (f : ℕ → ℕ) → Sits z t s → i < words_of z + further_of z → (told : PlacedView → ℕ → Me ℕ PlacedView → Type 0)
      → Keeping z s.token.id its i f (told its)
      → ((n : ℕ) (m : Me (Option T) (Beside T)) → told (placed_of me.0) n (placed_of m.0, []) → m ≡ (back_to z me.0 (placed_of m.0), me.1) → Pick z n m)
      → (s.token.table_id ≡ t) × (i < t.words) × Allows {S = Option T} (HoldsBy about) t.slots s.token.id me i f (Pick about)
  in_placed Pick i f sits within told line tells =
      let line_here : Keeping z s.token.id (placed_of me.0) i f (told (placed_of me.0)) =
      subst (λ (u : View). Keeping z s.token.id (placed_view u me.0.placing) i f (told (placed_view u me.0.placing))) (sym sits.seat) line in
      let words = laid.words in
      let lifted = in_places z t.slots s.token.id i f me.0 me.1 (told (placed_of me.0)) line_here in (
        sits.table,
        omega (arith, within, words),
        subst (λ (y : Layout). Allows {S = Option T} (HoldsBy y) t.slots s.token.id me i f (Pick y)) (sym laid.key)
            (subst (λ (b : Bool). Allows {S = Option T} (HoldsAs b z) t.slots s.token.id me i f (Pick z)) (sym placed)
            (λ state h count mine small. let q = lifted state h count mine small in (q.0, q.1, q.2, q.3, tells _ (q.0, carried_after me.1 q.1) q.4.0 q.4.1))),
      )

  -- C3 for a value
  pub asks_claim : (value : List ℕ) → length value ≡ z.width → (f : ℕ → ℕ) → Sits z t s → Does z 0 (view s) f (pushes (view s).number (0 ∷ [])) (PlacesClaimed z (0 ∷ []))
      → ((n : ℕ) (v' : SeatView) → PlacesClaimed z (0 ∷ []) (view s) n v' → Made z 0 n (f n) (view s) v') → Rests (view s).stage
      → (s.token.table_id ≡ t) × (0 < t.words) × Allows {S = Option T} (HoldsBy about) t.slots s.token.id me 0 f (λ n m. TellsClaim about value me n m)
  asks_claim value wide f sits line ran rested = in_placed (λ y n m. TellsClaim y value me n m) 0 f sits (omega arith) (λ w k o. TellsClaimed z value (w, []) k o)
      (allows_claim z s.token.id (view s) me.0.placing.deeds me.0.placing.hand me.0.placing.others value wide f line ran rested)
      (λ n m told back. dite (ℕ_discrete n (knows me.0.plain).tail)
      (λ won.
      let said = told.0 won in
      let quiet = quiet_of z (PlacesClaimed z (0 ∷ [])) (pushed (knows me.0.plain).number value ∷ []) (storing value 0) me n m placed numbers said back in
      (quiet, λ _. said.2))
      (λ lost.
      let said = told.1 lost in
      let quiet = quiet_of z (PlacesClaimed z (0 ∷ [])) [] free me n m placed numbers said back in
      (quiet, λ e. absurd (lost e))))

  -- P3 of a value that was loaded
  pub asks_take : (word : ℕ) (value : List ℕ) → length value ≡ z.width → (f : ℕ → ℕ) → Sits z t s → Does z 16 (view s) f (pops (view s).number (word ∷ [])) (FrontsTaken z (word ∷ []))
      → ((n : ℕ) (v' : SeatView) → FrontsTaken z (word ∷ []) (view s) n v' → Made z 16 n (f n) (view s) v') → (view s).stage ≡ found (word ∷ []) → hand_of s ≡ loading value
      → (s.token.table_id ≡ t) × (16 < t.words) × Allows {S = Option T} (HoldsBy about) t.slots s.token.id me 16 f (λ n m. TellsTake about word value me n m)
  asks_take word value wide f sits line ran stands has = in_placed (λ y n m. TellsTake y word value me n m) 16 f sits (omega arith) (λ w k o. TellsTaken z word value (w, []) k o)
      (allows_take z s.token.id (view s) me.0.placing.deeds me.0.placing.hand me.0.placing.others word value wide f line ran stands has)
      (λ n m told back. dite (ℕ_discrete n (knows me.0.plain).head)
      (λ won.
      let popped_it = told.0 won in
      let front = popped_it.0 in
      let said = popped_it.3 in
      let quiet = quiet_of z (FrontsTaken z (word ∷ [])) (popped (knows me.0.plain).number front ∷ []) free me n m placed numbers said back in
      (quiet, λ _. (front, popped_it.1, popped_it.2, said.2)))
      (λ lost.
      let said = told.1 lost in
      let quiet = quiet_of z (FrontsTaken z (word ∷ [])) [] free me n m placed numbers said back in
      (quiet, λ e. absurd (lost e))))

  -- S10
  pub asks_close : (f : ℕ → ℕ) → Sits z t s → Does z 0 (view s) f (Shut (view s).number ∷ []) (ShutMade z)
      → ((n : ℕ) (v' : SeatView) → ShutMade z (view s) n v' → Made z 0 n (f n) (view s) v') → Rests (view s).stage
      → (s.token.table_id ≡ t) × (0 < t.words) × Allows {S = Option T} (HoldsBy about) t.slots s.token.id me 0 f (λ n m. TellsClose about me n m)
  asks_close f sits line ran rested = in_placed (λ y n m. TellsClose y me n m) 0 f sits (omega arith) (λ w k o. TellsShut z (w, []) k o)
      (allows_shut z s.token.id (view s) me.0.placing.deeds me.0.placing.hand me.0.placing.others f line ran rested)
      (λ n m told back. dite (dec_le (2 ^ 62) n)
      (λ was. (quiet_of z (ShutMade z) [] free me n m placed numbers (told.1 was) back, λ opened. absurd (omega (arith, opened, was))))
      (λ still.
      let said = told.0 (omega (arith, still)) in
      (quiet_of z (ShutMade z) (closed (knows me.0.plain).number ∷ []) free me n m placed numbers said back, λ opened. said.2)))

  -- C4 of a place in which the value was stored
  pub asks_filled : (i word : ℕ) → Sits z t s → i < words_of z → IsOwn (pairs_of z) i → Does z i (view s) (λ _. word) [] (PlaceFilled z i word)
      → ((n : ℕ) (v' : SeatView) → PlaceFilled z i word (view s) n v' → Made z i n word (view s) v') → HasStored z.width s
      → (s.token.table_id ≡ t) × (i < t.words) × Allows {S = Option T} (HoldsBy about) t.slots s.token.id me i (λ _. word) (λ n m. TellsQuiet about.carries about (PlaceFilled about i word) me n m)
  asks_filled i word sits within own line ran has = in_placed (λ y n m. TellsQuiet y.carries y (PlaceFilled y i word) me n m) i (λ _. word) sits (omega (arith, within)) (λ w k o. TellsSaid (PlaceFilled z i word) [] free (w, []) k o)
      (allows_fill z s.token.id (view s) me.0.placing.deeds me.0.placing.hand me.0.placing.others has.0 has.1 i word has.2 line own ran has.3 has.4)
      (λ n m told back. quiet_of z (PlaceFilled z i word) [] free me n m placed numbers told back)

  -- what a seat knows of the values is so, where it has seen the same
  known_again : (m : Me (Option T) (Beside T)) → Sits z t s → m.0.plain ≡ me.0.plain → m.0.placing.deeds ≡ me.0.placing.deeds → ∥ KnowsBy z.carries z (knows m.0.plain).seen m.0 ∥₁
  known_again m sits plain deeds =
      let known : ∥ SaidBy true (view s).seen me.0 ∥₁ = subst (λ (b : Bool). ∥ SaidBy b (view s).seen me.0 ∥₁) placed (subst (λ (b : Bool). ∥ KnowsBy b z (view s).seen me.0 ∥₁) numbers sits.valued) in
      let again : ∥ SaidBy true (knows m.0.plain).seen m.0 ∥₁ = ∥∥₁_map known (λ (k : KnowsSaid (view s).seen (placed_of me.0)). let r : KnowsSaid (knows m.0.plain).seen (placed_of m.0) = record {
        matches = (let P : List Entry × List (Deed (List ℕ)) → Type 0 = λ y. Matches y.0 y.1 in subst P (λ i. ((knows (sym plain i)).seen, sym deeds i)) k.matches);
        values = k.values;
        shut = k.shut;
        runs = subst (λ (ds : List (Deed (List ℕ))). Runs [] false ds k.values k.shut) (sym deeds) k.runs;
      } in r) in
      subst (λ (b : Bool). ∥ KnowsBy b z (knows m.0.plain).seen m.0 ∥₁) (sym numbers) (subst (λ (b : Bool). ∥ SaidBy b (knows m.0.plain).seen m.0 ∥₁) (sym placed) again)

  -- what a store or a load of a value tells
  hand_told : (h : ℕ → Hand) (n : ℕ) (m : Me (Option T) (Beside T)) → Sits z t s → placed_of m.0 ≡ with_value (placed_of me.0) (h n) → m ≡ (back_to z me.0 (placed_of m.0), me.1) → TellsHand z h me n m
  hand_told h n m sits is back =
      let plain : m.0.plain ≡ me.0.plain = ap (λ (w : PlacedView). w.plain) is in
      let deeds : m.0.placing.deeds ≡ me.0.placing.deeds = ap (λ (w : PlacedView). w.deeds) is in (
        (
          plain ∙ (sits.seat ∙ ap (λ (u : View). seated (knows u)) (sym plain)),
          ap (λ (u : View). knows u) plain,
          record {
            held = ap (λ (y : Me (Option T) (Beside T)). y.1) back;
            hand = ap (λ (y : Me (Option T) (Beside T)). y.0.hand) back;
            between = [];
            deeds = ap (λ (y : Me (Option T) (Beside T)). y.0.deeds) back ∙ sym (append-nil me.0.deeds);
            said = ([], deeds ∙ sym (append-nil me.0.placing.deeds));
          },
          known_again m sits plain deeds,
        ),
        (ap (λ (w : PlacedView). w.hand) is, deeds),
      )

  -- C5: the next word of the value is stored in the place that was claimed for it
  pub asks_store : (value : List ℕ) (part p i n : ℕ) (x : Option Taken) → Sits z t s → (view s).stage ≡ claimed p (x ∷ []) → hand_of s ≡ storing value part → part < z.width
      → n ≡ get_or value part 0 → i ≡ value_word z.slots (p % z.slots) part → i < words_of z + further_of z
      → (s.token.table_id ≡ t) × (i < t.words) × Allows {S = Option T} (HoldsBy about) t.slots s.token.id me i (λ _. n) (λ n m. TellsHand about (λ _. storing value (part + 1)) me n m)
  asks_store value part p i n x sits stands due low is there within = in_placed (λ y n m. TellsHand y (λ _. storing value (part + 1)) me n m) i (λ _. n) sits within (λ w k o. TellsStored value part (w, []) o)
      (subst (λ (j : ℕ × ℕ). Keeping z s.token.id its j.0 (λ _. j.1) (λ k o. TellsStored value part (its, []) o)) (λ k. (sym there k, sym is k))
      (subst (λ (h : Hand). Keeping z s.token.id (record { plain = seated (view s); deeds = me.0.placing.deeds; hand = h; others = me.0.placing.others })
      (value_word z.slots (p % z.slots) part) (λ _. get_or value part 0)
      (λ k o. TellsStored value part (record { plain = seated (view s); deeds = me.0.placing.deeds; hand = h; others = me.0.placing.others }, []) o)) (sym due)
      (allows_store z s.token.id (view s) me.0.placing.deeds value part me.0.placing.others p x stands low)))
      (λ n m told back. hand_told (λ _. storing value (part + 1)) n m sits (ap (λ (y : Me ℕ PlacedView). y.0) told) back)

  -- P6: the next word of the value at the seat's head is loaded
  pub asks_load : (word i : ℕ) (read : List ℕ) → Sits z t s → (view s).stage ≡ found (word ∷ []) → HasRead (hand_of s) read → length read < z.width
      → i ≡ value_word z.slots ((view s).head % z.slots) (length read) → i < words_of z + further_of z
      → (s.token.table_id ≡ t) × (i < t.words) × Allows {S = Option T} (HoldsBy about) t.slots s.token.id me i (λ n. n) (λ n m. TellsHand about (λ n. loading (read ++ n ∷ [])) me n m)
  asks_load word i read sits stands has_read low there within = in_placed (λ y n m. TellsHand y (λ n. loading (read ++ n ∷ [])) me n m) i (λ n. n) sits within (λ w k o. TellsLoaded read (w, []) k o)
      (subst (λ (j : ℕ). Keeping z s.token.id its j (λ n. n) (λ k o. TellsLoaded read (its, []) k o)) (sym there)
      (allows_load z s.token.id (view s) me.0.placing.deeds me.0.placing.hand me.0.placing.others word read stands has_read low))
      (λ n m told back. hand_told (λ n. loading (read ++ n ∷ [])) n m sits (ap (λ (y : Me ℕ PlacedView). y.0) told) back)
