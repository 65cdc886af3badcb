-- What a ring is at any moment.
use Rattle.std.proofs.Common.{◌≡◌, ◌≢◌, ◌⊎◌, inl, inr, ⊎_elim, ℕ, ◌+◌, ◌-◌, ◌/◌, ◌%◌, ◌^◌, ◌<◌, ◌≤◌, Bool, true, false, if◌then◌else◌, List, [], ◌∷◌}
use Rattle.std.proofs.Common.{length, get_or, Option, Some, None, slice_get, mod-lt, sym, refl, ap, ◌∙◌, subst, arith}
use Rattle.std.proofs.lemmas.Bool.{lt-ltb, le-ltb}
use mathlib.Core.Logic.{dite}
use native.Mathlib.Decide.{dec_le}
use Rattle.std.proofs.lemmas.Option.{same_Some, none-some}
use Rattle.history.specs.Values.{pushed}
use Rattle.history.specs.declared.operations.Entry.{Entry}
use Rattle.history.specs.declared.operations.Taken.{Taken}
use Rattle.history.proofs.Values.{pushed-Leads}
use Rattle.ring_queue.specs.Words.{face, parity, slot_word, tail_word}
use Rattle.ring_queue.specs.Plans.{Layout}
use Rattle.ring_queue.specs.Knowledge.{Stage, rests, claimed, found, unfilled, head_due, SeatView}
use Rattle.ring_queue.specs.Rule.{Cell, Lies, HasClaimed, Stands, FillerStands, Ring}
use Rattle.ring_queue.proofs.Numbers.{same_place, face_parity}
use Rattle.ring_queue.proofs.Keeps.{cell, some_slot}
use Rattle.ring_queue.specs.Moments.{EachMomentIsLinearizable, tail_in, ShowsQueue, ShowsSlot, IsThere, IsHeld, SlotsAreDetermined, content_of, word_of_place, AreHeldUp, HoldsUp, NamesWhoHoldsUp}

-- the places in the word of Tail
pub tail_is_in : (t : ℕ) (shut : Bool) → t < 2 ^ 62 → tail_word t shut % 2 ^ 62 ≡ t
tail_is_in t true small = omega (arith, small)
tail_is_in t false small = omega (arith, small)

module _ (z : Layout) (words : List ℕ) (seats : ℕ → SeatView) (r : Ring z words seats) where
  pub small : r.tail < 2 ^ 62
  small = let a = r.limited in let b = r.planned in let c = b.limited in omega (arith, a, c)

  pub room : r.tail ≤ r.head + z.slots
  room = let a = r.roomy in let b = r.planned in let c = b.room in omega (arith, a, c)

  -- who stands with a place claimed fills its cell
  pub its_cell : (k p : ℕ) (x : Option Taken) → HasClaimed (seats k).stage p x → r.cells (p % z.slots) ≡ cell p (Some k)
  its_cell k p x h = let seat = r.each_seat k in go (seats k).stage seat.stage h ∙ ap (λ j. cell p (Some j)) seat.number
    where
      go : (st : Stage) → Stands z.slots r.head r.tail r.log r.cells (seats k) st → HasClaimed st p x → r.cells (p % z.slots) ≡ cell p (Some (seats k).number)
      go rests stands has = absurd has
      go (claimed q xs) stands has = (stands p x has).0
      go (found ws) stands has = absurd has
      go unfilled stands has = absurd has
      go head_due stands has = absurd has

  -- there is a value in front
  some_front : r.head < r.tail → (v : Taken) × (vs : List Taken) × (r.values ≡ v ∷ vs)
  some_front lt = split r.values refl
    where
      split : (us : List Taken) → r.values ≡ us → (v : Taken) × (vs : List Taken) × (r.values ≡ v ∷ vs)
      split (v ∷ vs) e = (v, vs, e)
      split [] e = absurd (let c = r.counted in let l : length r.values ≡ 0 = ap length e in omega (arith, c, l, lt))

  pub who_holds_up : AreHeldUp z words → (n : ℕ) × HoldsUp z words seats r.values n
  who_holds_up up =
      let i : ℕ = r.head % z.slots in
      let pos = some_slot z words seats r in
      let near : i < z.slots = mod-lt r.head pos in
      let ok = r.each_cell i near in
      let tail_is : tail_in words ≡ r.tail = ap (λ t. t % 2 ^ 62) r.tail_is ∙ tail_is_in r.tail r.shut small in
      let head_is = r.head_is in
      let up_claimed = up.claimed in
      let lt : r.head < r.tail = omega (arith, up_claimed, tail_is, head_is) in
      let late : get_or words (slot_word i) 0 / 2 ^ 63 ≢ parity z.slots r.head = subst (λ h. get_or words (slot_word (h % z.slots)) 0 / 2 ^ 63 ≢ parity z.slots h) head_is up.unfilled in
      let claimed_at = ok.claimed in
      let last = ok.last in
      let here : (r.cells i).place ≡ r.head = same_place z.slots (r.cells i).place r.head pos ok.slot (omega (arith, claimed_at, room)) (omega (arith, last, lt)) in
      go (r.cells i).place (r.cells i).filler refl here lt late ok.lies (r.filling i near)
    where
      go : (p : ℕ) (f : Option ℕ) → r.cells (r.head % z.slots) ≡ cell p f → p ≡ r.head → r.head < r.tail → get_or words (slot_word (r.head % z.slots)) 0 / 2 ^ 63 ≢ parity z.slots r.head
          → Lies z.slots r.head r.log (get_or words (slot_word (r.head % z.slots)) 0) p f → FillerStands (length z.roles) r.log seats p f → (n : ℕ) × HoldsUp z words seats r.values n
      go p None is here lt late lies fills = absurd (late (ap (λ w. w / 2 ^ 63) lies ∙ (face_parity z.slots p (r.log p) (r.fits p) ∙ ap (parity z.slots) here)))
      go p (Some n) is here lt late lies fills =
          let front = some_front lt in (
            n,
            record {
              from = fills.0;
              to = fills.1;
              front = front.0;
              others = front.1;
              values_are = front.2;
              stands = subst (λ (y : ℕ × Option Taken). HasClaimed (seats n).stage y.0 y.1)
                  (λ c. ((here ∙ sym r.head_is) c, (ap r.log (here ∙ (let q : r.head ≡ r.head + 0 = omega arith in q)) ∙ r.logged 0 front.0 (ap (λ vs. slice_get vs 0) front.2)) c)) fills.2;
              alone = λ k x e. same_Some k n (ap (λ (c : Cell). c.filler) (sym (its_cell k r.head x (subst (λ q. HasClaimed (seats k).stage q x) r.head_is e)) ∙ is));
            },
          )

  -- what each place is filled with, or will be, is what the history says
  content_log : (p : ℕ) → p < r.tail → r.log p ≡ content_of z r.history p
  content_log p lt = dite (dec_le z.slots p)
      (λ le. let e : p ≡ z.slots + (p - z.slots) = omega (arith, le) in
      ap r.log e ∙ (r.in_order (p - z.slots) (omega (arith, le, lt)) ∙ ap (λ b. if b then None else slice_get (pushed r.history) (p - z.slots)) (sym (le-ltb p z.slots le))))
      (λ no. r.first_lap p (omega (arith, no)) ∙ ap (λ b. if b then None else slice_get (pushed r.history) (p - z.slots)) (sym (lt-ltb p z.slots (omega (arith, no)))))

  pub tail_there : tail_in words ≡ r.tail
  tail_there = ap (λ t. t % 2 ^ 62) r.tail_is ∙ tail_is_in r.tail r.shut small

  pub shows_slot : (i : ℕ) → i < z.slots → ShowsSlot z words seats r.history i
  shows_slot i lt =
      let ok = r.each_cell i lt in
      let claimed_at = ok.claimed in
      let last = ok.last in
      let same = tail_there in
      record {
        place = (r.cells i).place;
        its = ok.slot;
        claimed = omega (arith, claimed_at, same);
        last = omega (arith, last, same);
        shows = go (r.cells i).place (r.cells i).filler refl ok.slot claimed_at (subst (λ j. Lies z.slots r.head r.log (get_or words (slot_word j) 0) (r.cells i).place (r.cells i).filler) (sym ok.slot) ok.lies) (r.filling i lt);
      }
    where
      go : (p : ℕ) (f : Option ℕ) → r.cells i ≡ cell p f → p % z.slots ≡ i → p < r.tail
          → Lies z.slots r.head r.log (get_or words (slot_word (p % z.slots)) 0) p f → FillerStands (length z.roles) r.log seats p f
          → IsThere z words seats r.history p ⊎ IsHeld z words seats r.history p
      go p None is its lt lies fills = inl (record {
        word = lies ∙ ap (face z.slots p) (content_log p lt);
        nobody = λ k x e. none-some k (ap (λ (c : Cell). c.filler) (sym is ∙ (ap r.cells (sym its) ∙ its_cell k p x e)));
      })
      go p (Some n) is its lt lies fills =
          let on = lies.1 in
          let waits = lies.2 in
          let head_is = r.head_is in
          inr (record {
            seat = n;
            from = fills.0;
            to = fills.1;
            stands = subst (HasClaimed (seats n).stage p) (content_log p lt) fills.2;
            alone = λ k x e. same_Some k n (ap (λ (c : Cell). c.filler) (sym (its_cell k p x e) ∙ (ap r.cells its ∙ is)));
            waits = omega (arith, waits, head_is);
            word = lies.0 ∙ ap (face z.slots (p - z.slots)) (content_log (p - z.slots) (omega (arith, lt)));
          })

  pub shows_queue : ShowsQueue z words r.shut r.values
  shows_queue = record {
    tail = r.tail_is ∙ ap (λ t. tail_word t r.shut) (sym r.counted ∙ sym (ap (λ h. h + length r.values) r.head_is));
    room = let a = r.roomy in let c = r.counted in omega (arith, a, c);
  }

pub moments : EachMomentIsLinearizable
moments z s h = record {
  seats = h.seats;
  views = h.fits;
  history = h.ring.history;
  shut = h.ring.shut;
  values = h.ring.values;
  leads = h.ring.leads;
  shows = shows_queue z s.words h.seats h.ring;
  slots = shows_slot z s.words h.seats h.ring;
  once = pushed-Leads h.ring.history h.ring.shut h.ring.values h.ring.leads;
  taken = h.ring.head_is ∙ h.ring.taken;
  permitted = h.ring.permitted;
  run = h.run;
  each = λ n. let seat = h.ring.each_seat n in record { rest = seat.rest; prefix = seat.begins; own = seat.own };
}

-- one slot of two moments of one history, of the same seats
slot_same : (z : Layout) (words words' : List ℕ) (seats seats' : ℕ → SeatView) (es es' : List Entry) (p p' : ℕ) → p' ≡ p → es' ≡ es → ((n : ℕ) → seats' n ≡ seats n)
    → (IsThere z words seats es p ⊎ IsHeld z words seats es p) → (IsThere z words' seats' es' p' ⊎ IsHeld z words' seats' es' p') → word_of_place z words' p' ≡ word_of_place z words p
slot_same z words words' seats seats' es es' p p' at history same one other = ⊎_elim
    (λ (a : IsThere z words seats es p). ⊎_elim
    (λ (b : IsThere z words' seats' es' p'). b.word ∙ ((λ i. face z.slots (at i) (content_of z (history i) (at i))) ∙ sym a.word))
    (λ (b : IsHeld z words' seats' es' p'). absurd (a.nobody b.seat (content_of z es p)
    (subst (λ (y : SeatView × (List Entry × ℕ)). HasClaimed y.0.stage y.1.1 (content_of z y.1.0 y.1.1)) (λ i. (same b.seat i, (history i, at i))) b.stands)))
    other)
    (λ (a : IsHeld z words seats es p). ⊎_elim
    (λ (b : IsThere z words' seats' es' p'). absurd (b.nobody a.seat (content_of z es' p')
    (subst (λ (y : SeatView × (List Entry × ℕ)). HasClaimed y.0.stage y.1.1 (content_of z y.1.0 y.1.1)) (λ i. (sym (same a.seat) i, (sym history i, sym at i))) a.stands)))
    (λ (b : IsHeld z words' seats' es' p'). b.word ∙ ((λ i. face z.slots (at i - z.slots) (content_of z (history i) (at i - z.slots))) ∙ sym a.word))
    other)
    one

pub determined : SlotsAreDetermined
determined z s t h k pos history seats tail slot lt =
    let a = h.slots slot lt in
    let b = k.slots slot lt in
    let a_claimed = a.claimed in
    let a_last = a.last in
    let b_claimed = b.claimed in
    let b_last = b.last in
    let at : b.place ≡ a.place = same_place z.slots b.place a.place pos (b.its ∙ sym a.its) (omega (arith, b_claimed, a_last, tail)) (omega (arith, a_claimed, b_last, tail)) in
    ap (λ j. get_or t.words (slot_word j) 0) (sym b.its) ∙ (slot_same z s.words t.words h.seats k.seats h.history k.history a.place b.place at history seats a.shows b.shows
    ∙ ap (λ j. get_or s.words (slot_word j) 0) a.its)

pub held_up : NamesWhoHoldsUp
held_up z s h up = who_holds_up z s.words h.seats h.ring up
