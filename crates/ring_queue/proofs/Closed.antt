-- The end of a ring by all its seats, at the names of a call.
use Rattle.std.proofs.Common.{◌≡◌, ℕ, ◌+◌, ◌-◌, ◌%◌, ◌^◌, ◌≤◌, Bool, true, false, if◌then◌else◌, List, [], length, map, Option, sym, refl, subst, ap, ◌∙◌, arith}
use mathlib.Core.Option.{some, some-ne-none}
use Rattle.atomic_table.proofs.Lists.{at_map}
use Rattle.ring_queue.specs.Plans.{Layout}
use Rattle.std.specs.List.{All}
use Rattle.std.proofs.lemmas.List.{length-map}
use Rattle.atomic_table.specs.Table.{Final, Seen}
use Rattle.history.specs.declared.rests.Rest.{Rest}
use Rattle.history.specs.Rests.{left_of, taken_of, whole_of, was_shut_of}
use Rattle.history.specs.Ends.{Closes}
use Rattle.node_arena.specs.Beside.{AllBegin}
use Rattle.node_arena.specs.Deeds.{Deed}
use Rattle.ring_queue.specs.declared.queue.RingQueue.{RingQueue}
use Rattle.ring_queue.specs.declared.seats.Seat.{Seat}
use Rattle.ring_queue.specs.Plans.{permit_of}
use Rattle.ring_queue.specs.Knowledge.{gathered}
use Rattle.ring_queue.specs.Steps.{Rests}
use Rattle.ring_queue.specs.Beside.{Beside, HoldsBy}
use Rattle.ring_queue.specs.Seats.{known_of, view}
use Rattle.ring_queue.specs.Queues.{IsNumberSeat, IsRingSeat, permits_in}
use Rattle.ring_queue.specs.Moments.{head_in, tail_in}
use Rattle.ring_queue.specs.Remains.{values_from, HasWords, was_shut_in}
use Rattle.ring_queue.specs.Ends.{ClosesValues, EachBegins}
use Rattle.ring_queue.specs.Ends.{ClosesWords, EachSaid}
use Rattle.ring_queue.specs.Placed.{queue_words, pairs_of, beside_from, HasParts, HoldsPlaced}
use Rattle.ring_queue.specs.PlacedSeats.{IsWordSeat}
use Rattle.ring_queue.specs.Beside.{HoldsAs, placed_of, placed_state}
use Rattle.ring_queue.proofs.Placing.{own_tail, own_head, queue_words-get}
use Rattle.ring_queue.proofs.PlacedEnds.{PlacedEnd, placed_end, closes_placed}
use Rattle.ring_queue.proofs.Keeps.{some_slot}
use Rattle.ring_queue.proofs.Alls.{are_all}
use Rattle.ring_queue.proofs.RingEnds.{closes_all, has_words, head_is_low, few_left}
use Rattle.ring_queue.proofs.Tokens.{carries_none, placed_none, ends_alone}
use Rattle.ring_queue.proofs.ValueEnds.{values_end_as, words_there, low_there, room_there, closes_values}

-- words are those of a closed ring with so many slots: the values between Head and Tail have room in a list with room for one of
-- each slot, and where that is told of the end, the ring is closed so
pub record IsClosed (slots : ℕ) (words : List ℕ) (Told : Rest → Type 0) : Type 0 where
  pub there : HasWords slots words
  pub low : slots ≤ head_in words
  pub few : tail_in words - head_in words ≤ slots
  pub closes : (rest : Rest) → left_of rest ≡ values_from slots words (head_in words) (tail_in words - head_in words)
      → taken_of rest + slots ≡ head_in words → whole_of rest ≡ true → was_shut_of rest ≡ was_shut_in words → Told rest

-- a ring of numbers
module _ {T : Type 0} (q : RingQueue T) (seats : List (Seat T)) (ready : All (IsNumberSeat q) seats) (all : length seats ≡ length (permits_in q)) where
  numbers : q.plan.carries ≡ false
  numbers = let roles = length-map q.plan.roles permit_of in let seated = q.laid.planned.seated in carries_none q seats ready (omega (arith, all, roles, seated))

  unplaced : q.plan.placed ≡ false
  unplaced = let roles = length-map q.plan.roles permit_of in let seated = q.laid.planned.seated in placed_none q seats ready (omega (arith, all, roles, seated))

  -- its table has no slots
  pub no_slots : q.table.shared.table_id.slots ≡ 0
  no_slots = q.laid.slots ∙ ap (λ (b : Bool). if b then q.plan.slots else 0) numbers

  -- and is closed by all its seats
  pub numbers_closed : (slots id : ℕ) (w : Beside T) (words : List ℕ) (inside : List (Option T)) → slots ≡ q.plan.slots
      → length words ≡ q.table.shared.table_id.words → w.plain ≡ gathered (map view seats)
      → Final {S = Option T} (Seen (HoldsBy q.table.shared.key) id w) words inside
      → IsClosed slots words (Closes (permits_in q) (map known_of seats))
  numbers_closed slots id w words inside same count is f =
      let end = ends_alone q.plan q.table.shared.key q.table.shared.table_id seats id w words inside q.laid numbers unplaced count is f in
      let rested : All (λ s. Rests (view s).stage) seats = λ k d lt. (ready k d lt).ready.rests in
      let every = are_all q.plan q.table.shared.table_id seats (λ k d lt. (ready k d lt).ready.sits) end.apart all in
      subst (λ (m : ℕ). IsClosed m words (Closes (permits_in q) (map known_of seats))) (sym same) (record {
        there = has_words q.plan words seats end rested every;
        low = head_is_low q.plan words seats end rested every;
        few = few_left q.plan words seats end rested every;
        closes = λ rest left taken whole shut. (closes_all q.plan words seats end rested every rest left taken whole shut).0;
      })

-- a ring that carries values, once what lay in its slots was taken out
module _ {T : Type 0} (q : RingQueue T) (seats : List (Seat T)) (ready : All (IsRingSeat q) seats) (all : length seats ≡ length (permits_in q)) (carries : q.plan.carries ≡ true) where
  pub values_closed : (slots id : ℕ) (w : Beside T) (words kept : List ℕ) (inside came : List (Option T)) → slots ≡ q.plan.slots → kept ≡ words
      → came ≡ inside → w.plain ≡ gathered (map view seats) → ((ds : List (Deed T)) → AllBegin w.others ds → EachBegins seats ds)
      → Final {S = Option T} (Seen (HoldsBy q.table.shared.key) id w) words inside → IsClosed slots kept (λ rest. ClosesValues q seats rest came)
  values_closed slots id w words kept inside came same words_same out is begin f =
      let end = values_end_as q.plan q.table.shared.key seats id w words inside q.laid.key carries is f in
      let rested : All (λ s. Rests (view s).stage) seats = λ k d lt. (ready k d lt).rests in
      let every = are_all q.plan q.table.shared.table_id seats (λ k d lt. (ready k d lt).sits) end.ends.apart all in
      let P : ℕ × List ℕ × List (Option T) → Type 0 = λ y. IsClosed y.0 y.1 (λ rest. ClosesValues q seats rest y.2) in
      subst P (λ i. (sym same i, sym words_same i, sym out i)) (record {
        there = words_there q seats words inside w end rested every;
        low = low_there q seats words inside w end rested every;
        few = room_there q seats words inside w end rested every;
        closes = λ rest left taken whole shut. closes_values q seats words inside w end rested every rest begin left taken whole shut;
      })

-- a ring whose values lie in their places
module _ {T : Type 0} (q : RingQueue T) (seats : List (Seat T)) (ready : All (IsWordSeat q) seats) (all : length seats ≡ length (permits_in q)) (placed : q.plan.placed ≡ true) where
  -- its table has no slots
  pub no_word_slots : q.table.shared.table_id.slots ≡ 0
  no_word_slots = q.laid.slots ∙ ap (λ (b : Bool). if b then q.plan.slots else 0) (q.laid.planned.apart placed)

  -- what is left at its end
  placed_here : (id : ℕ) (w : Beside T) (words : List ℕ) (inside : List (Option T)) → w.plain ≡ gathered (map view seats)
      → Final {S = Option T} (Seen (HoldsBy q.table.shared.key) id w) words inside → PlacedEnd q.plan seats words (placed_of w)
  placed_here id w words inside is f =
      let z = q.plan in
      let holds : HoldsPlaced z (placed_state f.0) = subst (λ (b : Bool). HoldsAs b z f.0) placed (subst (λ (y : Layout). HoldsBy y f.0) q.laid.key f.1.0) in
      placed_end z seats id (placed_of w) words [] is (placed_state f.0, (holds, at_map placed_of f.0.views id w f.1.1), f.2, refl, λ k y e. absurd (some-ne-none (some y) (sym e)))

  -- and is closed by all its seats
  pub words_closed : (slots id : ℕ) (w : Beside T) (words : List ℕ) (inside : List (Option T)) → slots ≡ q.plan.slots → w.plain ≡ gathered (map view seats)
      → ((ds : List (Deed (List ℕ))) → AllBegin w.placing.others ds → EachSaid seats ds)
      → Final {S = Option T} (Seen (HoldsBy q.table.shared.key) id w) words inside
      → IsClosed slots words (λ rest. (width : ℕ) (values : List ℕ) → width ≡ q.plan.width → values ≡ beside_from slots width words (head_in words) (tail_in words - head_in words) → ClosesWords q seats rest values)
  words_closed slots id w words inside same is begin f =
      let z = q.plan in
      let end = placed_here id w words inside is f in
      let rested : All (λ s. Rests (view s).stage) seats = λ k d lt. (ready k d lt).ready.rests in
      let every = are_all z q.table.shared.table_id seats (λ k d lt. (ready k d lt).ready.sits) end.ends.apart all in
      let few = has_words z (queue_words (pairs_of z) words) seats end.ends rested every in
      let long = end.long in
      let low = head_is_low z (queue_words (pairs_of z) words) seats end.ends rested every in
      let room = few_left z (queue_words (pairs_of z) words) seats end.ends rested every in
      let head = queue_words-get (pairs_of z) words 16 (own_head z) in
      let tail : tail_in (queue_words (pairs_of z) words) ≡ tail_in words = ap (λ n. n % 2 ^ 62) (queue_words-get (pairs_of z) words 0 (own_tail z)) in
      subst (λ (m : ℕ). IsClosed m words (λ rest. (width : ℕ) (values : List ℕ) → width ≡ q.plan.width → values ≡ beside_from m width words (head_in words) (tail_in words - head_in words) → ClosesWords q seats rest values)) (sym same) (record {
        there = record { some = few.some; wide = omega (arith, long) };
        low = omega (arith, low, head);
        few = omega (arith, room, head, tail);
        closes = λ rest left taken whole shut width values wide read. closes_placed q seats words (placed_of w) end rested every rest values begin (omega (arith, room, head, tail)) left taken whole shut
            (read ∙ ap (λ (k : ℕ). beside_from z.slots k words (head_in words) (tail_in words - head_in words)) wide);
      })

  -- the words of values lie within its table
  pub words_parted : (slots width id : ℕ) (w : Beside T) (words : List ℕ) (inside : List (Option T)) → slots ≡ q.plan.slots → width ≡ q.plan.width → w.plain ≡ gathered (map view seats)
      → Final {S = Option T} (Seen (HoldsBy q.table.shared.key) id w) words inside → HasParts slots width words
  words_parted slots width id w words inside same wide is f =
      let z = q.plan in
      let end = placed_here id w words inside is f in
      let planned = end.ends.ring.planned in
      let P : ℕ × ℕ → Type 0 = λ y. HasParts y.0 y.1 words in
      subst P (λ i. (sym same i, sym wide i)) (record {
        some = some_slot z (queue_words (pairs_of z) words) end.ends.all end.ends.ring;
        small = planned.small;
        thin = planned.thin;
        wide = end.long;
      })
