-- What a seat does alone: no row asks where others stand, and the words tell all that it asks.
use Rattle.std.proofs.Common.{◌≡◌, ◌≢◌, ⊎_elim, ℕ, ◌+◌, ◌-◌, ◌/◌, ◌%◌, ◌^◌, ◌≤◌, List, [], ◌∷◌, get_or, set, Some, mod-lt, sym, refl, ap, ◌∙◌, subst, arith}
use Rattle.std.proofs.lemmas.List.{set-get_or, get_or-set_other}
use Rattle.ring_queue.specs.Words.{parity, face, slot_word}
use Rattle.ring_queue.specs.Plans.{Layout}
use Rattle.ring_queue.specs.Knowledge.{rests, claimed, found, unfilled, SeatView}
use Rattle.ring_queue.specs.Rows.{Regs, regs, Rests, contents, reads_tail, reads_head, claims, fills, finds_filled, finds_late, takes, finds_end}
use Rattle.ring_queue.specs.Rule.{Cell, Lies, Ring}
use Rattle.ring_queue.specs.Moments.{tail_in, head_in, word_of_place}
use Rattle.ring_queue.specs.Alone.{EndsAlone, push_alone, pop_alone, empty_alone, HaveRoom, IsFrontFilled, IsTailAtHead, OthersHoldUpNoPush}
use Rattle.ring_queue.proofs.Numbers.{parity_turns, face_parity}
use Rattle.ring_queue.proofs.Keeps.{some_slot, next_is_filled}
use Rattle.ring_queue.proofs.Moments.{small, tail_there}

module _ (z : Layout) (words : List ℕ) (me : ℕ) (a : Regs) (rested : Rests a.at) (under : a.tail ≤ tail_in words) (behind : a.head ≤ head_in words) where
  abbrev tail : ℕ
  tail = get_or words 0 0

  abbrev head : ℕ
  head = get_or words 16 0

  -- the word of a place
  abbrev at_place : ℕ → ℕ
  at_place p = word_of_place z words p

  -- words that a seat has read stay as they were
  stays : (i : ℕ) (ws : List ℕ) → ws ≡ words → set ws i (get_or words i 0) ≡ words
  stays i ws e = ap (λ us. set us i (get_or words i 0)) e ∙ set-get_or words i 0

  apart : (j : ℕ) → slot_word j ≢ 0
  apart j e = omega (arith, e)

  pub push_on : (body : ℕ) → HaveRoom z words → EndsAlone z words me a (push_alone z words me body)
  push_on body has =
      let open_yet = has.not_shut in
      let room = has.room in
      let within = has.within in
      let same : tail % 2 ^ 62 ≡ tail = omega (arith, open_yet) in
      let first = set-get_or words 0 0 in
      let second = stays 16 (set words 0 tail) first in
      let third : set (set (set words 0 tail) 16 head) 0 (tail + 1) ≡ set words 0 (tail + 1) = ap (λ us. set us 0 (tail + 1)) second in
      let j : ℕ = tail % z.slots in
      record {
        ended = record { at = rests; head = head; tail = tail + 1 };
        walks = (
          record { at = rests; head = a.head; tail = tail % 2 ^ 62 },
          reads_tail tail rested under refl refl,
          (
            record { at = rests; head = head; tail = tail % 2 ^ 62 },
            reads_head head tt behind refl refl,
            (
              record { at = claimed tail (contents me (body ∷ [])); head = head; tail = tail + 1 },
              claims tail (body ∷ []) tt (record { some = omega arith; room = omega (arith, room, same); within = omega (arith, within, same) }) (sym same) refl refl,
              (
                record { at = rests; head = head; tail = tail + 1 },
                fills (at_place tail) tail (Some (record { from = me; body = body })) [] refl refl refl,
                refl,
              ),
            ),
          ),
        );
        rested = refl;
        found = (
          refl,
          (
            ap (λ us. get_or us 16 0) (sym first),
            (
              ap (λ us. get_or us 0 0) (sym second),
              (sym (get_or-set_other words 0 (slot_word j) (tail + 1) 0 (apart j)) ∙ ap (λ us. get_or us (slot_word j) 0) (sym third), tt),
            ),
          ),
        );
      }

  pub pop_on : IsFrontFilled z words → EndsAlone z words me a (pop_alone z words me a.at)
  pop_on filled =
      let first = set-get_or words 16 0 in
      let second = stays (slot_word (head % z.slots)) (set words 16 head) first in
      record {
        ended = record { at = rests; head = head + 1; tail = a.tail };
        walks = (
          record { at = rests; head = head; tail = a.tail },
          reads_head head rested behind refl refl,
          (
            record { at = found (at_place head ∷ []); head = head; tail = a.tail },
            finds_filled (at_place head) tt filled refl refl,
            (
              record { at = rests; head = head + 1; tail = a.tail },
              takes head (at_place head ∷ []) refl (omega arith) refl refl refl,
              refl,
            ),
          ),
        );
        rested = refl;
        found = (refl, (ap (λ us. get_or us (slot_word (head % z.slots)) 0) (sym first), (ap (λ us. get_or us 16 0) (sym second), tt)));
      }

  pub empty_on : at_place head / 2 ^ 63 ≢ parity z.slots head → IsTailAtHead words → EndsAlone z words me a (empty_alone z words a.at)
  empty_on late ends =
      let first = set-get_or words 16 0 in
      let second = stays (slot_word (head % z.slots)) (set words 16 head) first in
      record {
        ended = record { at = rests; head = head; tail = a.tail };
        walks = (
          record { at = rests; head = head; tail = a.tail },
          reads_head head rested behind refl refl,
          (
            record { at = unfilled; head = head; tail = a.tail },
            finds_late (at_place head) tt late refl refl,
            (
              record { at = rests; head = head; tail = a.tail },
              finds_end tail refl ends refl refl,
              refl,
            ),
          ),
        );
        rested = refl;
        found = (refl, (ap (λ us. get_or us (slot_word (head % z.slots)) 0) (sym first), (ap (λ us. get_or us 0 0) (sym second), tt)));
      }

module _ (z : Layout) (words : List ℕ) (seats : ℕ → SeatView) (r : Ring z words seats) where
  -- Tail is at Head, by the words, where no place is claimed that wasn't taken
  at_head : IsTailAtHead words → r.tail ≡ r.head
  at_head ends =
      let there = tail_there z words seats r in
      let head_is = r.head_is in
      let counted = r.counted in
      let low = small z words seats r in
      ⊎_elim
      (λ e. omega (arith, e, there, head_is, counted, low))
      (λ e. omega (arith, e, there, head_is, counted, low))
      ends

  -- the front place isn't filled then: its slot's word is of the lap before
  pub late : IsTailAtHead words → word_of_place z words (head_in words) / 2 ^ 63 ≢ parity z.slots (head_in words)
  late ends up =
      let e = at_head ends in
      let pos = some_slot z words seats r in
      let ok = r.each_cell (r.tail % z.slots) (mod-lt r.tail pos) in
      let taken = r.taken in
      let lies : get_or words (slot_word (r.tail % z.slots)) 0 ≡ face z.slots (r.tail - z.slots) (r.log (r.tail - z.slots)) =
      subst (λ (c : Cell). Lies z.slots r.head r.log (get_or words (slot_word (r.tail % z.slots)) 0) c.place c.filler) (next_is_filled z words seats r (omega (arith, e, pos))) ok.lies in
      let here : head_in words ≡ r.tail = r.head_is ∙ sym e in
      let was : word_of_place z words (head_in words) / 2 ^ 63 ≡ parity z.slots (r.tail - z.slots) =
      ap (λ w. w / 2 ^ 63) (ap (λ p. get_or words (slot_word (p % z.slots)) 0) here ∙ lies) ∙ face_parity z.slots (r.tail - z.slots) (r.log (r.tail - z.slots)) (r.fits (r.tail - z.slots)) in
      parity_turns z.slots r.tail pos (omega (arith, e, taken)) (sym was ∙ (up ∙ ap (parity z.slots) here))

pub hold_up_no_push : OthersHoldUpNoPush
hold_up_no_push z s h n rested =
    let r = h.ring in
    let seat = r.each_seat n in
    let there = tail_there z s.words h.seats r in
    let head_is = r.head_is in
    let seat_under = seat.under in
    let seat_behind = seat.behind in
    let under : (h.seats n).tail ≤ tail_in s.words = omega (arith, there, seat_under) in
    let behind : (h.seats n).head ≤ head_in s.words = omega (arith, head_is, seat_behind) in
    record {
      pushes_on = push_on z s.words n (regs (h.seats n)) rested under behind;
      pops_on = pop_on z s.words n (regs (h.seats n)) rested under behind;
      finds_none = λ ends. empty_on z s.words n (regs (h.seats n)) rested under behind (late z s.words h.seats r ends) ends;
    }
