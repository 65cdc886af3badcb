-- A push claims its place.
use Rattle.std.proofs.Common.{append_assoc, ne_eqb, nat_eq, ◌≡◌, ◌≢◌, ⊎_elim, inl, inr, ℕ, zero, suc, ◌+◌, ◌-◌, ◌%◌, ◌^◌, ◌<◌, ◌≤◌, Bool, true, false, List, [], ◌∷◌, ◌++◌}
use Rattle.std.proofs.Common.{length, get_or, set, Some, Option, slice_get, sym, refl, ap, ◌∙◌, subst, arith, append-nil, length-append}
use prog.Atomic.{either}
use Rattle.std.specs.List.{All, count_by}
use Rattle.std.proofs.lemmas.Bool.{eq-eqb}
use Rattle.std.proofs.lemmas.List.{set-get_or}
use Rattle.std.proofs.lemmas.List.Elements.{All-head, All-tail}
use Rattle.std.proofs.lemmas.List.Sums.{sum_by-append}
use Rattle.std.proofs.lemmas.Option.{slice_get_within, none-some}
use Rattle.history.specs.declared.operations.Entry.{Entry}
use Rattle.history.specs.declared.operations.Entry.TheVariants.{Push}
use Rattle.history.specs.declared.operations.Taken.{Taken}
use Rattle.history.specs.Entries.{Leads, LeadsToShut, own_entries, is_pop}
use Rattle.history.specs.Seats.{IsNoted, IsPermitted}
use Rattle.ring_queue.specs.Words.{tail_word}
use Rattle.ring_queue.specs.Plans.{Layout, permits_of}
use Rattle.ring_queue.specs.Paths.{C3, Event, reading, writing, Step, Ran, accessed, added_by}
use Rattle.ring_queue.specs.Rows.{claims as row_claims, loses_place as row_loses}
use Rattle.ring_queue.specs.Knowledge.{rests, claimed, SeatView}
use Rattle.ring_queue.specs.Rule.{HasClaimed, Cell, Log, SeatOk, put, Ring}
use Rattle.ring_queue.specs.Steps.{Rests, contents, pushes, AreSmall, HasRoom, PlacesClaimed}
use Rattle.ring_queue.proofs.Puts.{got_snoc, set_twice, put_twice, same_or_not, put_here, put_else}
use Rattle.history.specs.Values.{pushed, popped}
use Rattle.history.proofs.Values.{pushed-Leads}
use Rattle.ring_queue.proofs.Histories.{own_one, own_other, all_one, all_noted_more, leads_push, noted_shut, all_one_note, pushed_more, popped_count}
use Rattle.ring_queue.proofs.Keeps.{Became, none_claimed, cell, log_before, next_is_filled, claims}
use Rattle.ring_queue.proofs.Tables.{Extends, adds_none, it_fits, notes_stay, saw_all, looks, learns, runs_on, sees_on}

-- the elements before others
got_before : {A : Type 0} (xs : List A) (a : A) (k : ℕ) (b : A) → slice_get xs k ≡ Some b → slice_get (xs ++ a ∷ []) k ≡ Some b
got_before [] a k b e = absurd (none-some b e)
got_before (x ∷ xs) a zero b e = e
got_before (x ∷ xs) a (suc k) b e = got_before xs a k b e

got_first : {A : Type 0} (xs ys : List A) (k : ℕ) → k < length xs → slice_get (xs ++ ys) k ≡ slice_get xs k
got_first [] ys k lt = absurd (omega (arith, lt))
got_first (x ∷ xs) ys zero lt = refl
got_first (x ∷ xs) ys (suc k) lt = got_first xs ys k (omega (arith, lt))

got_last : {A : Type 0} (xs : List A) (a : A) → slice_get (xs ++ a ∷ []) (length xs) ≡ Some a
got_last [] a = refl
got_last (x ∷ xs) a = got_last xs a

-- a ring in which a seat has claimed these places from one on, up to Tail
record Claiming (z : Layout) (words : List ℕ) (seats : ℕ → SeatView) (p : ℕ) (xs : List (Option Taken)) : Type 0 where
  ring : Ring z words seats
  seat : SeatView
  its : seats seat.number ≡ seat
  upto : p + length xs ≡ ring.tail
  all : (q : ℕ) (y : Option Taken) → HasClaimed seat.stage q y → HasClaimed (claimed p xs) q y
  held : (q : ℕ) (y : Option Taken) → HasClaimed (claimed p xs) q y → (ring.cells (q % z.slots) ≡ cell q (Some seat.number)) × (ring.log q ≡ y)
  room : ring.tail + 1 ≤ ring.head + z.most
  within : ring.tail + 1 ≤ z.limit
  from : 1 ≤ seat.number
  to : seat.number ≤ length z.roles
  ran : List Step

module _ (z : Layout) (words : List ℕ) (seats : ℕ → SeatView) (p : ℕ) (xs : List (Option Taken)) (c : Claiming z words seats p xs) where
  abbrev r : Ring z words seats
  r = c.ring

  abbrev v : SeatView
  v = c.seat

  abbrev fit : SeatOk z r.head r.tail r.log r.cells r.history v.number v
  fit = it_fits z words seats r v c.its

  has_room : r.tail < r.head + z.slots
  has_room = let a = c.room in let b = r.planned in let d = b.room in omega (arith, a, d)

  -- the place that is claimed now is behind those
  with_new : (x : Option Taken) → HasClaimed (claimed p (xs ++ x ∷ [])) r.tail x
  with_new x =
      let up = c.upto in
      let at : length xs ≡ r.tail - p = omega (arith, up) in
      (omega (arith, up), subst (λ k. slice_get (xs ++ x ∷ []) k ≡ Some x) at (got_last xs x))

  stays_claimed : (x : Option Taken) (q : ℕ) (y : Option Taken) → q < r.tail → HasClaimed (seats v.number).stage q y → HasClaimed (claimed p (xs ++ x ∷ [])) q y
  stays_claimed x q y lt h =
      let t = c.all q y (subst (λ (u : SeatView). HasClaimed u.stage q y) c.its h) in
      (t.0, got_before xs x (q - p) y t.1)

  holds_more : (x : Option Taken) (q : ℕ) (y : Option Taken) → HasClaimed (claimed p (xs ++ x ∷ [])) q y
      → (put r.cells (r.tail % z.slots) (cell r.tail (Some v.number)) (q % z.slots) ≡ cell q (Some v.number)) × (put r.log r.tail x q ≡ y)
  holds_more x q y h =
      let up = c.upto in
      let low = h.0 in
      ⊎_elim
      (λ (old : slice_get xs (q - p) ≡ Some y).
      let lt : q - p < length xs = slice_get_within xs (q - p) y old in
      let before : q < r.tail = omega (arith, lt, up, low) in
      let t = c.held q y (low, old) in (
        put_else r.cells (r.tail % z.slots) (q % z.slots) (cell r.tail (Some v.number))
            (λ e. none-some v.number (ap (λ (d : Cell). d.filler) (sym (next_is_filled z words seats r has_room) ∙ (ap r.cells (sym e) ∙ t.0)))) ∙
            t.0,
        log_before z words seats r x q before ∙ t.1,
      ))
      (λ (new : (q - p ≡ length xs) × (x ≡ y)).
      let at = new.0 in
      let here : q ≡ r.tail = omega (arith, at, up, low) in (
        put_here r.cells (r.tail % z.slots) (q % z.slots) (cell r.tail (Some v.number)) (ap (λ k. k % z.slots) here) ∙ ap (λ k. cell k (Some v.number)) (sym here),
        put_here r.log r.tail q x here ∙ new.1,
      ))
      (got_snoc xs x y (q - p) h.1)

  -- what the seat knows when it has claimed one more
  abbrev after_push : ℕ → SeatView
  after_push body = record {
    number = v.number;
    stage = claimed p (xs ++ Some (record { from = v.number; body = body }) ∷ []);
    head = v.head;
    tail = r.tail + 1;
    seen = r.history ++ Push v.number body ∷ [];
    mine = v.mine ++ Push v.number body ∷ [];
    notes = v.notes;
    ran = c.ran;
  }

  number_small : v.number < 2 ^ 15
  number_small = let b = r.planned in let few = b.few in let to = c.to in omega (arith, few, to)

  -- up to the last value there are as many places as the first lap has and as were pushed
  pushed_length : z.slots + length (pushed r.history) ≡ r.head + length r.values
  pushed_length =
      let e = ap length (pushed-Leads r.history r.shut r.values r.leads) in
      let long = length-append (popped r.history) r.values in
      let pops = popped_count r.history in
      let taken = r.taken in
      omega (arith, e, long, pops, taken)

  -- a place is claimed for a body
  push_one : (body : ℕ) → r.shut ≡ false → body < 2 ^ 48 → IsPermitted (permits_of z) (Push v.number body)
      → (r' : Ring z (set words 0 (tail_word (r.tail + 1) r.shut)) (put seats v.number (after_push body))) × (r'.tail ≡ r.tail + 1)
      × (r'.shut ≡ r.shut) × (r'.history ≡ r.history ++ Push v.number body ∷ [])
      × (r'.cells ≡ put r.cells (r.tail % z.slots) (cell r.tail (Some v.number))) × (r'.log ≡ put r.log r.tail (Some (record { from = v.number; body = body }))) × (r'.head ≡ r.head)
  push_one body f small permit =
      let val : Taken = record { from = v.number; body = body } in
      let e : Entry = Push v.number body in
      let v' : SeatView = after_push body in
      let values' : List Taken = r.values ++ val ∷ [] in
      let counted = r.counted in
      let l : length values' ≡ length r.values + 1 = length-append r.values (val ∷ []) in
      let own : own_entries v.number (r.history ++ e ∷ []) ≡ v.mine ++ e ∷ [] = own_one v.number r.history e refl ∙ ap (λ es. es ++ e ∷ []) fit.own in
      claims z words seats r v.number v' (Some val) values' (e ∷ []) (stays_claimed (Some val)) c.from c.to (with_new (Some val)) c.room c.within
      (c.from, number_small, small)
      (subst (λ b. Leads (r.history ++ e ∷ []) b values') (sym f) (leads_push r.history r.values v.number body (subst (λ b. Leads r.history b r.values) f r.leads)))
      (all_one (IsPermitted (permits_of z)) r.history e r.permitted permit)
      (omega (arith, counted, l))
      (λ i y at. ⊎_elim
      (λ (old : slice_get r.values i ≡ Some y). let lt : i < length r.values = slice_get_within r.values i y old in log_before z words seats r
      (Some val) (r.head + i) (omega (arith, lt, counted)) ∙ r.logged i y old)
      (λ (new : (i ≡ length r.values) × (val ≡ y)). let at_end = new.0 in put_here r.log r.tail (r.head + i) (Some val) (omega (arith, at_end, counted)) ∙ ap (λ x. Some x) new.1)
      (got_snoc r.values val y i at))
      (λ i lt. same_or_not (z.slots + i) r.tail
      (λ e. put_here r.log r.tail (z.slots + i) (Some val) e ∙
      (sym (got_last (pushed r.history) val) ∙ (let at : length (pushed r.history) ≡ i = (let q = pushed_length in omega (arith, q, e, counted)) in ap (slice_get (pushed r.history ++ val ∷ [])) at ∙ ap (λ vs. slice_get vs i) (sym (pushed_more r.history (Push v.number body ∷ []))))))
      (λ ne. put_else r.log r.tail (z.slots + i) (Some val) ne ∙ (r.in_order i (omega (arith, lt, ne)) ∙
      (sym (got_first (pushed r.history) (val ∷ []) i (let q = pushed_length in omega (arith, q, lt, ne, counted))) ∙ ap (λ vs. slice_get vs i) (sym (pushed_more r.history (Push v.number body ∷ [])))))))
      (λ k ne. own_other k r.history e (λ q. ne (sym q)))
      (sum_by-append _ r.history (e ∷ []) ∙ (let q : count_by is_pop r.history + 0 ≡ count_by is_pop r.history = omega arith in q))
      (record {
        number = refl;
        behind = fit.behind;
        under = omega arith;
        rest = [];
        begins = sym (append-nil (r.history ++ e ∷ []));
        own = own;
        known = own;
        noted = all_noted_more r.history (e ∷ []) v.notes (notes_stay z words seats r v c.its);
        stage = holds_more (Some val);
      })

-- what the ring and the seat are after all these pushes
record Pushes (z : Layout) (words : List ℕ) (seats : ℕ → SeatView) (p : ℕ) (xs : List (Option Taken)) (c : Claiming z words seats p xs) (bodies : List ℕ) : Type 0 where
  seat : SeatView
  number : seat.number ≡ c.seat.number
  head : seat.head ≡ c.seat.head
  tail : seat.tail ≡ c.ring.tail + length bodies
  stage : seat.stage ≡ claimed p (xs ++ contents c.seat.number bodies)
  seen : seat.seen ≡ c.ring.history ++ pushes c.seat.number bodies
  mine : seat.mine ≡ c.seat.mine ++ pushes c.seat.number bodies
  notes : seat.notes ≡ c.seat.notes
  ran : seat.ran ≡ c.ran
  ring : Became z (set words 0 (c.ring.tail + length bodies)) (put seats c.seat.number seat) (c.ring.history ++ pushes c.seat.number bodies)

abbrev IsSmall : ℕ → Type 0
IsSmall b = b < 2 ^ 48

push_all : (bs : List ℕ) (b : ℕ) (z : Layout) (words : List ℕ) (seats : ℕ → SeatView) (p : ℕ) (xs : List (Option Taken))
    (c : Claiming z words seats p xs) → c.ring.shut ≡ false → c.ring.tail + length (b ∷ bs) ≤ c.ring.head + z.most → c.ring.tail + length (b ∷ bs) ≤ z.limit → AreSmall (b ∷ bs)
    → ((body : ℕ) → IsPermitted (permits_of z) (Push c.seat.number body)) → Pushes z words seats p xs c (b ∷ bs)
push_all [] b z words seats p xs c f room within small permit =
    let one = push_one z words seats p xs c b f (All-head IsSmall b [] small) (permit b) in
    record {
      seat = after_push z words seats p xs c b;
      number = refl;
      head = refl;
      tail = refl;
      stage = refl;
      seen = refl;
      mine = refl;
      notes = refl;
      ran = refl;
      ring = subst (λ w. Became z (set words 0 w) (put seats c.seat.number (after_push z words seats p xs c b))
          (c.ring.history ++ pushes c.seat.number (b ∷ []))) (ap (tail_word (c.ring.tail + 1)) f) (one.0, one.3);
    }
push_all (b' ∷ bs) b z words seats p xs c f room within small permit =
    let one = push_one z words seats p xs c b f (All-head IsSmall b (b' ∷ bs) small) (permit b) in
    let n : ℕ = c.seat.number in
    let val : Option Taken = Some (record { from = n; body = b }) in
    let v1 : SeatView = after_push z words seats p xs c b in
    let words1 : List ℕ = set words 0 (tail_word (c.ring.tail + 1) c.ring.shut) in
    let up = c.upto in
    let tail1 = one.1 in
    let l : length (xs ++ val ∷ []) ≡ length xs + 1 = length-append xs (val ∷ []) in
    let many : length (b ∷ b' ∷ bs) ≡ length (b' ∷ bs) + 1 = omega arith in
    let c1 : Claiming z words1 (put seats n v1) p (xs ++ val ∷ []) = record {
      ring = one.0;
      seat = v1;
      its = put_here seats n n v1 refl;
      upto = omega (arith, up, tail1, l);
      all = λ q y h. h;
      held = λ q y h. let t = holds_more z words seats p xs c val q y h in (ap (λ (cs : ℕ → Cell). cs (q % z.slots)) one.4 ∙ t.0, ap (λ (g : Log). g q) one.5 ∙ t.1);
      room = omega (arith, room, many, tail1, one.6);
      within = omega (arith, within, many, tail1);
      from = c.from;
      to = c.to;
      ran = c.ran;
    } in
    let more = push_all bs b' z words1 (put seats n v1) p (xs ++ val ∷ []) c1 (one.2 ∙ f) (omega (arith, room, many, tail1, one.6)) (omega (arith, within, many, tail1)) (All-tail IsSmall b (b' ∷ bs) small) permit in
    let tail = more.tail in
    let onward : one.0.history ++ pushes n (b' ∷ bs) ≡ c.ring.history ++ pushes n (b ∷ b' ∷ bs) =
    ap (λ h. h ++ pushes n (b' ∷ bs)) one.3 ∙ append_assoc c.ring.history (Push n b ∷ []) (pushes n (b' ∷ bs)) in
    record {
      seat = more.seat;
      number = more.number;
      head = more.head;
      tail = omega (arith, tail, tail1, many);
      stage = more.stage ∙ ap (claimed p) (append_assoc xs (val ∷ []) (contents n (b' ∷ bs)));
      seen = more.seen ∙ onward;
      mine = more.mine ∙ append_assoc c.seat.mine (Push n b ∷ []) (pushes n (b' ∷ bs));
      notes = more.notes;
      ran = more.ran;
      ring = subst (λ (y : List ℕ × (ℕ → SeatView) × List Entry). Became z y.0 y.1 y.2)
          (λ i. (
            (set_twice words 0 (tail_word (c.ring.tail + 1) c.ring.shut) (one.0.tail + length (b' ∷ bs)) ∙ ap (set words 0)
                (let q : one.0.tail + length (b' ∷ bs) ≡ c.ring.tail + length (b ∷ b' ∷ bs) = omega (arith, tail1, many) in q)) i,
            put_twice seats n v1 more.seat i,
            onward i,
          ))
          more.ring;
    }

module _ (z : Layout) (words : List ℕ) (seats : ℕ → SeatView) (r : Ring z words seats) (v : SeatView) (is : seats v.number ≡ v)
    (run : List Step) (whole : r.history ≡ added_by run) (knew : Ran run v.number v.ran) (rested : Rests v.stage) where
  abbrev its_fit : SeatOk z r.head r.tail r.log r.cells r.history v.number v
  its_fit = it_fits z words seats r v is

  abbrev n : ℕ
  n = get_or words 0 0

  tail_small : r.tail < 2 ^ 62
  tail_small = let a = r.limited in let b = r.planned in let c = b.limited in omega (arith, a, c)

  abbrev fits_shut : LeadsToShut r.history → All (IsNoted r.history) (v.notes ++ length r.history ∷ [])
  fits_shut h = all_one_note (IsNoted r.history) v.notes (length r.history) (notes_stay z words seats r v is) (noted_shut r.history h)

  -- the word of Tail after an exchange that asks for so many places
  abbrev claimed_to : ℕ → ℕ
  claimed_to count = either (nat_eq (get_or words 0 0) v.tail) (v.tail + count) (get_or words 0 0)

  abbrev Claims : List ℕ → Type 0
  Claims bodies = (v' : SeatView) × (v'.number ≡ v.number) × (r' : Ring z (set words 0 (claimed_to (length bodies))) (put seats v.number v'))
      × Extends run (pushes v.number bodies) r.history v r'.history v' × PlacesClaimed z bodies v n v'

  -- Tail without the bit of the shut
  tail_is : n % 2 ^ 62 ≡ r.tail
  tail_is = go r.shut refl
    where
      go : (b : Bool) → r.shut ≡ b → n % 2 ^ 62 ≡ r.tail
      go true e = let q : n ≡ r.tail + 2 ^ 62 = r.tail_is ∙ ap (tail_word r.tail) e in let t = tail_small in omega (arith, q, t)
      go false e = let q : n ≡ r.tail = r.tail_is ∙ ap (tail_word r.tail) e in let t = tail_small in omega (arith, q, t)

  -- Tail isn't at the seat's tail: nothing is claimed
  loses : (bodies : List ℕ) → HasRoom z v.head v.tail (length bodies) → n ≢ v.tail → Claims bodies
  loses bodies room ne = go r.shut refl
    where
      ev : Event
      ev = reading C3 0 n

      lost : (notes : List ℕ) → All (IsNoted r.history) notes → (n < 2 ^ 62 → notes ≡ v.notes) → (2 ^ 62 ≤ n → (notes ≡ v.notes ++ length r.history ∷ []) × LeadsToShut r.history) → Claims bodies
      lost notes noted quiet shut =
          let v' : SeatView = record { number = v.number; stage = rests; head = v.head; tail = n % 2 ^ 62; seen = r.history; mine = v.mine; notes = notes; ran = accessed run v.number ev } in
          let t = tail_is in
          let under = its_fit.under in
          let ok = saw_all z words seats r v is v' refl refl refl noted its_fit.behind (omega (arith, t)) tt in
          let made : Became z (set words 0 (claimed_to (length bodies))) (put seats v.number v') r.history =
          subst (λ us. Became z us (put seats v.number v') r.history) (sym (ap (λ b. set words 0 (either b (v.tail + length bodies) n)) (ne_eqb n v.tail ne) ∙ set-get_or words 0 0)) (looks z words seats r v is v' rested ok) in
          let ring = made.0 in (
            v',
            refl,
            ring,
            adds_none run (pushes v.number bodies) r.history v ring.history v' ev made.1 refl refl refl,
            record {
              learns = learns z (set words 0 (claimed_to (length bodies))) seats v v' refl ring;
              head = refl;
              won = λ e. absurd (ne e);
              went_won = λ e. absurd (ne e);
              went_lost = λ _. (
                runs_on run v.number v.ran knew ev,
                sym (append-nil v.mine),
                row_loses n (length bodies) rested room ne (omega (arith, t, under)) refl refl,
                λ _. sym (append-nil r.history) ∙ sees_on run r.history whole v.number ev,
              );
              rests = λ _. (tt, refl);
              lost = λ _ small. (omega (arith, t, under, small, ne), record { number = refl; between = its_fit.rest; seen = its_fit.begins; mine = refl; notes = quiet small });
              shut = λ big. let s = shut big in record { number = refl; between = its_fit.rest; seen = its_fit.begins; shut = s.1; mine = refl; notes = s.0 };
            },
          )

      go : (b : Bool) → r.shut ≡ b → Claims bodies
      go true f =
          let is_n : n ≡ r.tail + 2 ^ 62 = r.tail_is ∙ ap (tail_word r.tail) f in
          let leads : LeadsToShut r.history = (r.values, subst (λ b. Leads r.history b r.values) f r.leads) in
          lost (v.notes ++ length r.history ∷ []) (fits_shut leads) (λ small. absurd (omega (arith, is_n, small))) (λ _. (refl, leads))
      go false f =
          let is_n : n ≡ r.tail = r.tail_is ∙ ap (tail_word r.tail) f in
          lost v.notes (notes_stay z words seats r v is) (λ _. refl) (λ big. absurd (let t = tail_small in omega (arith, is_n, t, big)))

  -- Tail is at the seat's tail: places are claimed, one for each body
  wins : (b : ℕ) (bs : List ℕ) → HasRoom z v.head v.tail (length (b ∷ bs)) → 1 ≤ v.number → v.number ≤ length z.roles → AreSmall (b ∷ bs)
      → ((body : ℕ) → IsPermitted (permits_of z) (Push v.number body)) → n ≡ v.tail → Claims (b ∷ bs)
  wins b bs room from to small permit same = go r.shut refl
    where
      count : ℕ
      count = length (b ∷ bs)

      under_62 : v.tail < 2 ^ 62
      under_62 = let u = its_fit.under in let t = tail_small in omega (arith, u, t)

      go : (s : Bool) → r.shut ≡ s → Claims (b ∷ bs)
      go true f = absurd (let q : n ≡ r.tail + 2 ^ 62 = r.tail_is ∙ ap (tail_word r.tail) f in let t = under_62 in omega (arith, q, same, t))
      go false f =
          let is_n : n ≡ r.tail = r.tail_is ∙ ap (tail_word r.tail) f in
          let behind = its_fit.behind in
          let free = room.room in
          let within = room.within in
          let ev : Event = writing C3 0 n (n + count) (pushes v.number (b ∷ bs)) in
          let start : Claiming z words seats r.tail [] = record {
            ring = r;
            seat = v;
            its = is;
            upto = omega arith;
            all = λ q y h. absurd (none_claimed v.stage q y rested h);
            held = λ q y h. absurd (none-some y h.1);
            room = omega (arith, free, is_n, same, behind);
            within = omega (arith, within, is_n, same);
            from = from;
            to = to;
            ran = accessed run v.number ev;
          } in
          let all = push_all bs b z words seats r.tail [] start f (omega (arith, free, is_n, same, behind)) (omega (arith, within, is_n, same)) small permit in
          let word : r.tail + count ≡ claimed_to count = ap (λ x. x + count) (sym is_n ∙ same) ∙ ap (λ b. either b (v.tail + count) n) (sym (eq-eqb n v.tail same)) in
          let made : Became z (set words 0 (claimed_to count)) (put seats v.number all.seat) (r.history ++ pushes v.number (b ∷ bs)) =
          subst (λ w. Became z (set words 0 w) (put seats v.number all.seat) (r.history ++ pushes v.number (b ∷ bs))) word all.ring in
          let ring' = made.0 in
          let stage : all.seat.stage ≡ claimed n (contents v.number (b ∷ bs)) = all.stage ∙ ap (λ q. claimed q (contents v.number (b ∷ bs))) (sym is_n) in
          let tail : all.seat.tail ≡ n + count = all.tail ∙ ap (λ x. x + count) (sym is_n) in (
            all.seat,
            all.number,
            ring',
            record { added = pushes v.number (b ∷ bs); which = inr refl; grown = made.1; own = all.mine; seen = inl (all.seen ∙ sym made.1); event = ev; ran = all.ran },
            record {
              learns = learns z (set words 0 (claimed_to count)) seats v all.seat all.number ring';
              head = all.head;
              won = λ _. (
                stage,
                tail,
                record { number = all.number; between = its_fit.rest; seen = all.seen ∙ ap (λ h. h ++ pushes v.number (b ∷ bs)) its_fit.begins; mine = all.mine; notes = all.notes },
              );
              went_won = λ _. (
                record { before = run; knew = knew; ends = all.ran },
                all.mine,
                row_claims n (b ∷ bs) rested room same refl (λ i. record { at = stage i; head = all.head i; tail = tail i }),
                λ _. all.seen ∙ (sees_on run r.history whole v.number ev ∙ ap added_by (sym all.ran)),
              );
              went_lost = λ ne. absurd (ne same);
              rests = λ ne. absurd (ne same);
              lost = λ ne. absurd (ne same);
              shut = λ big. absurd (let t = under_62 in omega (arith, big, same, t));
            },
          )

  -- a push asks for places for these bodies
  pub claims_bodies : (bodies : List ℕ) → HasRoom z v.head v.tail (length bodies) → 1 ≤ v.number → v.number ≤ length z.roles → AreSmall bodies
      → ((body : ℕ) → IsPermitted (permits_of z) (Push v.number body)) → Claims bodies
  claims_bodies [] room from to small permit = absurd (let f : 1 ≤ 0 = room.some in omega (arith, f))
  claims_bodies (b ∷ bs) room from to small permit = same_or_not n v.tail (wins b bs room from to small permit) (loses (b ∷ bs) room)
