-- Each line, on the ring's words.
use Rattle.std.proofs.Common.{⊎_elim, zero, suc, inr, inl, ◌≡◌, ◌≢◌, ℕ, ◌+◌, ◌-◌, ◌/◌, ◌%◌, ◌^◌, ◌<◌, ◌≤◌, Bool, true, false, List, [], ◌∷◌, ◌++◌}
use Rattle.std.proofs.Common.{append-nil, length, get_or, Option, Some, None, slice_get, mod-lt, sym, refl, ap, ◌∙◌, subst, arith}
use Rattle.std.specs.List.{All, count_by}
use mathlib.Core.Logic.{dite}
use native.Mathlib.Decide.{dec_le}
use Rattle.std.proofs.lemmas.Option.{none-some, same_Some}
use Rattle.std.proofs.Math.Nat.{add-mod_right}
use Rattle.history.specs.declared.operations.Taken.{Taken}
use Rattle.history.specs.Entries.{Leads, LeadsTo, LeadsToShut, is_push, is_pop}
use Rattle.history.specs.Seats.{IsNoted}
use Rattle.history.specs.Answers.{SeesMore, FoundShut, FoundEmpty, FoundShutEmpty}
use Rattle.history.proofs.Sums.{pushes-Leads}
use Rattle.node_arena.specs.Looks.{LeadsToSome}
use Rattle.ring_queue.specs.Words.{face, parity, slot_word, tail_word}
use Rattle.ring_queue.specs.Plans.{Layout}
use Rattle.ring_queue.specs.Paths.{C1, P2, P4, P5, Event, reading, Step, Ran, RunsOn, accessed, added_by}
use Rattle.ring_queue.specs.Rows.{head_line, finds_filled, finds_late, finds_ahead, finds_next, finds_no_next}
use Rattle.ring_queue.specs.Rows.{reads_tail as row_reads_tail, reads_head as row_reads_head, finds_end as row_end}
use Rattle.ring_queue.specs.Knowledge.{Stage, rests, found, unfilled, head_due, SeatView, known_by}
use Rattle.ring_queue.specs.Rule.{IsFilled, Lies, CellOk, SeatOk, Stands, put, Ring}
use Rattle.ring_queue.specs.Steps.{Rests, IsAhead, HoldsSoMany, TailFound, TailSeen, HeadFound, FrontFound, NextFound, EndFound, Learns}
use Rattle.ring_queue.proofs.Numbers.{same_place, parity_turns, face_parity}
use Rattle.ring_queue.proofs.Puts.{same_or_not}
use Rattle.ring_queue.proofs.Histories.{noted_empty, noted_shut, all_one_note}
use Rattle.ring_queue.proofs.Keeps.{Became, some_slot, head_below, cell}
use Rattle.ring_queue.proofs.Puts.{got_snoc}
use Rattle.ring_queue.proofs.Tables.{Extends, adds_none, it_fits, notes_stay, saw_all, looks, learns, runs_on, sees_on}

module _ (z : Layout) (words : List ℕ) (seats : ℕ → SeatView) (r : Ring z words seats) (v : SeatView) (is : seats v.number ≡ v)
    (run : List Step) (whole : r.history ≡ added_by run) (knew : Ran run v.number v.ran) (rested : Rests v.stage) where
  abbrev fit : SeatOk z r.head r.tail r.log r.cells r.history v.number v
  fit = it_fits z words seats r v is

  on : (e : Event) → RunsOn v.number v.ran e (accessed run v.number e)
  on e = runs_on run v.number v.ran knew e

  -- all that took its effect is seen with an access that adds nothing
  saw : (e : Event) → e.adds ≡ [] → r.history ≡ added_by (accessed run v.number e)
  saw e none = sym (append-nil r.history) ∙ (ap (λ es. r.history ++ es) (sym none) ∙ sees_on run r.history whole v.number e)

  -- what the seat knows when it has seen the whole history
  abbrev pub after : Event → Stage → (head tail : ℕ) → (notes : List ℕ) → SeatView
  after ev st head tail notes = record { number = v.number; stage = st; head = head; tail = tail; seen = r.history; mine = v.mine; notes = notes; ran = accessed run v.number ev }

  sees : (ev : Event) (st : Stage) (head tail : ℕ) → SeesMore (known_by v) (known_by (after ev st head tail v.notes))
  sees ev st head tail = record { number = refl; between = fit.rest; seen = fit.begins; mine = refl; notes = refl }

  abbrev one_note : List ℕ
  one_note = v.notes ++ length r.history ∷ []

  finds_shut : (ev : Event) (st : Stage) (head tail : ℕ) → LeadsToShut r.history → FoundShut (known_by v) (known_by (after ev st head tail one_note))
  finds_shut ev st head tail h = record { number = refl; between = fit.rest; seen = fit.begins; shut = h; mine = refl; notes = refl }

  finds_empty : (ev : Event) (st : Stage) (head tail : ℕ) → LeadsTo r.history [] → FoundEmpty (known_by v) (known_by (after ev st head tail one_note))
  finds_empty ev st head tail h = record { number = refl; between = fit.rest; seen = fit.begins; empty = h; mine = refl; notes = refl }

  finds_end : (ev : Event) (st : Stage) (head tail : ℕ) → Leads r.history true [] → FoundShutEmpty (known_by v) (known_by (after ev st head tail one_note))
  finds_end ev st head tail h = record { number = refl; between = fit.rest; seen = fit.begins; empty = h; mine = refl; notes = refl }

  abbrev notes_stay' : All (IsNoted r.history) v.notes
  notes_stay' = notes_stay z words seats r v is

  notes_and_shut : LeadsToShut r.history → All (IsNoted r.history) one_note
  notes_and_shut h = all_one_note (IsNoted r.history) v.notes (length r.history) notes_stay' (noted_shut r.history h)

  notes_and_empty : LeadsTo r.history [] → All (IsNoted r.history) one_note
  notes_and_empty h = all_one_note (IsNoted r.history) v.notes (length r.history) notes_stay' (noted_empty r.history h)

  -- Tail lies below the bit of the shut
  tail_small : r.tail < 2 ^ 62
  tail_small = let a = r.limited in let b = r.planned in let c = b.limited in omega (arith, a, c)

  shut_leads : r.shut ≡ true → LeadsToShut r.history
  shut_leads e = (r.values, subst (λ b. Leads r.history b r.values) e r.leads)

  -- so many places were claimed as there were slots and pushes
  tail_counts : r.tail ≡ z.slots + count_by is_push r.history
  tail_counts = let a = r.counted in let c = r.taken in let d = pushes-Leads r.history r.shut r.values r.leads in omega (arith, a, c, d)

  abbrev Line : (SeatView → ℕ → SeatView → Type 0) → ℕ → Type 0
  Line fact n = (v' : SeatView) × (v'.number ≡ v.number) × (r' : Ring z words (put seats v.number v')) × Extends run [] r.history v r'.history v' × fact v n v'

  -- a line that changes no word: its seat has then seen the whole history, and is told this
  line : (fact : SeatView → ℕ → SeatView → Type 0) (k : ℕ) (ev : Event) (st : Stage) (head tail : ℕ) (notes : List ℕ) → All (IsNoted r.history) notes → head ≤ r.head → tail ≤ r.tail
      → Stands z.slots r.head r.tail r.log r.cells (after ev st head tail notes) st → (Learns z v (after ev st head tail notes) → fact v k (after ev st head tail notes)) → Line fact k
  line fact k ev st head tail notes noted behind under stands tells =
      let v' : SeatView = after ev st head tail notes in
      let made : Became z words (put seats v.number v') r.history = looks z words seats r v is v' rested (saw_all z words seats r v is v' refl refl refl noted behind under stands) in
      (v', refl, made.0, adds_none run [] r.history v made.0.history v' ev made.1 refl refl refl, tells (learns z words seats v v' refl made.0))

  -- what a load of Tail finds
  abbrev n : ℕ
  n = get_or words 0 0

  -- Tail without the bit of the shut
  tail_is : n % 2 ^ 62 ≡ r.tail
  tail_is = go r.shut refl
    where
      go : (b : Bool) → r.shut ≡ b → n % 2 ^ 62 ≡ r.tail
      go true e = let q : n ≡ r.tail + 2 ^ 62 = r.tail_is ∙ ap (tail_word r.tail) e in let t = tail_small in omega (arith, q, t)
      go false e = let q : n ≡ r.tail = r.tail_is ∙ ap (tail_word r.tail) e in let t = tail_small in omega (arith, q, t)

  -- a push reads Tail
  pub reads_tail : Line (TailFound z) (get_or words 0 0)
  reads_tail = go r.shut refl
    where
      ev : Event
      ev = reading C1 0 n

      go : (b : Bool) → r.shut ≡ b → Line (TailFound z) n
      go true e =
          let is_n : n ≡ r.tail + 2 ^ 62 = r.tail_is ∙ ap (tail_word r.tail) e in
          line (TailFound z) n ev rests v.head (n % 2 ^ 62) one_note (notes_and_shut (shut_leads e)) fit.behind (let t = tail_is in omega (arith, t)) tt (λ learned. record {
            learns = learned;
            went = (on (reading C1 0 n), sym (append-nil v.mine), row_reads_tail n rested (let t = tail_is in let u = fit.under in omega (arith, t, u)) refl refl, λ _. saw (reading C1 0 n) refl);
            head = refl;
            tail = refl;
            more = let t = tail_is in let u = fit.under in omega (arith, t, u);
            stage = refl;
            shut = λ big. finds_shut ev rests v.head (n % 2 ^ 62) (shut_leads e);
            sees = λ small. absurd (omega (arith, is_n, small));
            worn = λ small. absurd (omega (arith, is_n, small));
          })
      go false e =
          let is_n : n ≡ r.tail = r.tail_is ∙ ap (tail_word r.tail) e in
          line (TailFound z) n ev rests v.head (n % 2 ^ 62) v.notes notes_stay' fit.behind (let t = tail_is in omega (arith, t)) tt (λ learned. record {
            learns = learned;
            went = (on (reading C1 0 n), sym (append-nil v.mine), row_reads_tail n rested (let t = tail_is in let u = fit.under in omega (arith, t, u)) refl refl, λ _. saw (reading C1 0 n) refl);
            head = refl;
            tail = refl;
            more = let t = tail_is in let u = fit.under in omega (arith, t, u);
            stage = refl;
            shut = λ big. absurd (let t = tail_small in omega (arith, is_n, t, big));
            sees = λ small. sees ev rests v.head (n % 2 ^ 62);
            worn = λ small over. let t = tail_counts in omega (arith, is_n, over, t);
          })

  -- so many places were taken as there were slots and pops
  head_counts : get_or words 16 0 ≡ z.slots + count_by is_pop r.history
  head_counts = r.head_is ∙ r.taken

  -- where Head is below Tail, there is a value
  some_there : r.head < r.tail → LeadsToSome r.history
  some_there lt = go r.values refl
    where
      go : (vs : List Taken) → r.values ≡ vs → LeadsToSome r.history
      go (y ∷ ys) e = record { shut = r.shut; front = y; others = ys; leads = subst (Leads r.history r.shut) e r.leads }
      go [] e = absurd (let c = r.counted in let l : length r.values ≡ 0 = ap length e in omega (arith, c, l, lt))

  -- Head is read
  pub reads_head : Line (HeadFound z) (get_or words 16 0)
  reads_head =
      let ev : Event = reading (head_line v.stage) 16 (get_or words 16 0) in
      let u = fit.under in
      let e = r.head_is in
      line (HeadFound z) (get_or words 16 0) ev rests r.head v.tail v.notes notes_stay' (omega arith) fit.under tt (λ learned. record {
        learns = learned;
        went = (
          on ev,
          sym (append-nil v.mine),
          row_reads_head (get_or words 16 0) rested (let b = fit.behind in omega (arith, b, e)) refl (λ i. record { at = rests; head = sym r.head_is i; tail = v.tail }),
          λ _. saw ev refl,
        );
        head = sym r.head_is;
        more = let b = fit.behind in omega (arith, b, e);
        tail = refl;
        rests = tt;
        sees = sees ev rests r.head v.tail;
        counts = head_counts;
        some = λ lt. some_there (omega (arith, lt, u, e));
        full = λ le. let c = r.counted in record { shut = r.shut; values = r.values; leads = r.leads; full = omega (arith, le, u, e, c) };
      })

  abbrev front_word : ℕ → ℕ
  front_word h = get_or words (slot_word (h % z.slots)) 0

  -- where the word of a slot has the parity of a place's lap that isn't below Head, nor a lap above it, the place is filled, and this is
  -- its word
  place_filled : (q : ℕ) → r.head ≤ q → q < r.head + z.slots → front_word q / 2 ^ 63 ≡ parity z.slots q → IsFilled z.slots r.tail r.log r.cells q (front_word q)
  place_filled q low high same =
      let ok : CellOk z.slots r.head r.tail r.log words (q % z.slots) (r.cells (q % z.slots)) = r.each_cell (q % z.slots) (mod-lt q (some_slot z words seats r)) in
      go (r.cells (q % z.slots)).place (r.cells (q % z.slots)).filler refl ok.slot ok.claimed ok.last ok.lies
    where
      room : r.tail ≤ r.head + z.slots
      room = let a = r.roomy in let b = r.planned in let c = b.room in omega (arith, a, c)

      pos : 0 < z.slots
      pos = some_slot z words seats r

      go : (p : ℕ) (f : Option ℕ) → r.cells (q % z.slots) ≡ cell p f → p % z.slots ≡ q % z.slots → p < r.tail → r.tail ≤ p + z.slots
          → Lies z.slots r.head r.log (front_word q) p f → IsFilled z.slots r.tail r.log r.cells q (front_word q)
      go p None is slot lt last lies = dite (dec_le r.tail q)
          (λ none.
          let back : q ≡ p + z.slots = same_place z.slots q (p + z.slots) pos (sym (add-mod_right p z.slots ∙ slot))
          (omega (arith, high, last, head_below z words seats r)) (omega (arith, lt, none)) in
          absurd (parity_turns z.slots q pos (omega (arith, back))
          (ap (parity z.slots) (let e : q - z.slots ≡ p = omega (arith, back) in e) ∙ (sym (face_parity z.slots p (r.log p) (r.fits p)) ∙ (ap (λ x. x / 2 ^ 63) (sym lies) ∙ same)))))
          (λ some.
          let here : p ≡ q = same_place z.slots p q pos slot (omega (arith, lt, room, low)) (omega (arith, last, some)) in
          (omega (arith, some), lies ∙ ap (λ x. face z.slots x (r.log x)) here, is ∙ ap (λ x. cell x None) here))
      go p (Some j) is slot lt last lies =
          let le = lies.2 in
          let here : p ≡ q = same_place z.slots p q pos slot (omega (arith, lt, room, low)) (omega (arith, le, high)) in
          absurd (parity_turns z.slots p pos lies.1
          (sym (face_parity z.slots (p - z.slots) (r.log (p - z.slots)) (r.fits (p - z.slots))) ∙ (ap (λ x. x / 2 ^ 63) (sym lies.0) ∙ (same ∙ ap (parity z.slots) (sym here)))))

  one_found : v.head ≡ r.head → front_word v.head / 2 ^ 63 ≡ parity z.slots v.head → (i u : ℕ) → slice_get (front_word v.head ∷ []) i ≡ Some u → IsFilled z.slots r.tail r.log r.cells (r.head + i) u
  one_found here same i u at =
      let t = one_at i u at in
      let zero_is = t.0 in
      let pos = some_slot z words seats r in
      let e : v.head ≡ r.head + i = omega (arith, here, zero_is) in
      subst (λ (y : ℕ × ℕ). IsFilled z.slots r.tail r.log r.cells y.0 y.1) (λ k. (e k, t.1 k)) (place_filled v.head (omega (arith, here)) (omega (arith, here, pos)) same)
    where
      one_at : (i u : ℕ) → slice_get (front_word v.head ∷ []) i ≡ Some u → (i ≡ 0) × (front_word v.head ≡ u)
      one_at zero u at = (refl, same_Some (front_word v.head) u at)
      one_at (suc i) u at = absurd (none-some u at)

  -- the word at the place of the seat's head is read
  pub reads_front : Line (FrontFound z) (front_word v.head)
  reads_front = same_or_not (front_word v.head / 2 ^ 63) (parity z.slots v.head)
      (λ same.
      let w : ℕ = front_word v.head in
      line (FrontFound z) (front_word v.head) (reading P2 (slot_word (v.head % z.slots)) (front_word v.head)) (found (w ∷ [])) v.head v.tail v.notes notes_stay' fit.behind fit.under
      (λ here. one_found here same) (λ learned. record {
        learns = learned;
        went = (on (reading P2 (slot_word (v.head % z.slots)) w), sym (append-nil v.mine), finds_filled w rested same refl refl, λ _. saw (reading P2 (slot_word (v.head % z.slots)) w) refl);
        head = refl;
        tail = refl;
        rests = tt;
        sees = sees (reading P2 (slot_word (v.head % z.slots)) (front_word v.head)) (found (w ∷ [])) v.head v.tail;
        filled = λ _. refl;
        late = λ ne. absurd (ne same);
        goes_on = λ ne. absurd (ne same);
      }))
      (λ apart.
      line (FrontFound z) (front_word v.head) (reading P2 (slot_word (v.head % z.slots)) (front_word v.head)) unfilled v.head v.tail v.notes notes_stay' fit.behind fit.under tt (λ learned. record {
        learns = learned;
        goes_on = λ _. refl;
        went = (
          on (reading P2 (slot_word (v.head % z.slots)) (front_word v.head)),
          sym (append-nil v.mine),
          finds_late (front_word v.head) rested apart refl refl,
          λ _. saw (reading P2 (slot_word (v.head % z.slots)) (front_word v.head)) refl,
        );
        head = refl;
        tail = refl;
        rests = tt;
        sees = sees (reading P2 (slot_word (v.head % z.slots)) (front_word v.head)) unfilled v.head v.tail;
        filled = λ e. absurd (apart e);
        late = λ ne. record { words = words; seats = seats; ring = r; history = refl; word = ne };
      }))

  -- where Tail is at a head, the queue is empty
  none_left : r.tail ≤ v.head → r.values ≡ []
  none_left le = go r.values refl
    where
      go : (vs : List Taken) → r.values ≡ vs → r.values ≡ []
      go [] e = e
      go (y ∷ ys) e = absurd (let b = fit.behind in let c = r.counted in let l : length r.values ≡ length (y ∷ ys) = ap length e in omega (arith, b, c, l, le))

  -- Tail is read by a pop
  pub reads_end : v.stage ≡ unfilled → Line (EndFound z) (get_or words 0 0)
  reads_end due = go r.shut refl
    where
      onward : n ≢ v.head → n ≢ v.head + 2 ^ 62 → IsAhead z r.history v.head → Line (EndFound z) n
      onward apart not_end ahead =
          line (EndFound z) n (reading P4 0 n) head_due v.head v.tail v.notes notes_stay' fit.behind fit.under tt (λ learned. record {
            learns = learned;
            went = (on (reading P4 0 n), sym (append-nil v.mine), finds_ahead n due apart not_end refl refl, λ _. saw (reading P4 0 n) refl);
            head = refl;
            tail = refl;
            rests = tt;
            empty = λ e. absurd (apart e);
            closed = λ e. absurd (not_end e);
            due = λ _ _. refl;
            on = λ _ _. (sees (reading P4 0 n) head_due v.head v.tail, ahead);
          })

      go : (b : Bool) → r.shut ≡ b → Line (EndFound z) n
      go true f =
          let is_n : n ≡ r.tail + 2 ^ 62 = r.tail_is ∙ ap (tail_word r.tail) f in
          let small = tail_small in
          let b = fit.behind in
          let below = head_below z words seats r in
          same_or_not n (v.head + 2 ^ 62)
          (λ same.
          let ends : Leads r.history true [] = subst (λ (vs : List Taken). Leads r.history true vs) (none_left (omega (arith, is_n, same))) (subst (λ b. Leads r.history b r.values) f r.leads) in
          line (EndFound z) n (reading P4 0 n) rests v.head v.tail one_note (notes_and_shut ([], ends)) fit.behind fit.under tt (λ learned. record {
            learns = learned;
            went = (on (reading P4 0 n), sym (append-nil v.mine), row_end n due (inr same) refl refl, λ _. saw (reading P4 0 n) refl);
            head = refl;
            tail = refl;
            rests = tt;
            empty = λ e. absurd (omega (arith, e, same));
            closed = λ _. finds_end (reading P4 0 n) rests v.head v.tail ends;
            on = λ _ ne. absurd (ne same);
            due = λ _ ne. absurd (ne same);
          }))
          (λ apart. onward (λ e. omega (arith, e, is_n, small, b, below)) apart (let h = fit.behind in let c = tail_counts in omega (arith, h, c, apart, is_n)))
      go false f =
          let is_n : n ≡ r.tail = r.tail_is ∙ ap (tail_word r.tail) f in
          let small = tail_small in
          same_or_not n v.head
          (λ same.
          let ends : LeadsTo r.history [] = subst (λ (vs : List Taken). Leads r.history false vs) (none_left (omega (arith, is_n, same))) (subst (λ b. Leads r.history b r.values) f r.leads) in
          line (EndFound z) n (reading P4 0 n) rests v.head v.tail one_note (notes_and_empty ends) fit.behind fit.under tt (λ learned. record {
            learns = learned;
            went = (on (reading P4 0 n), sym (append-nil v.mine), row_end n due (inl same) refl refl, λ _. saw (reading P4 0 n) refl);
            head = refl;
            tail = refl;
            rests = tt;
            empty = λ _. finds_empty (reading P4 0 n) rests v.head v.tail ends;
            closed = λ e. absurd (omega (arith, e, same));
            on = λ ne _. absurd (ne same);
            due = λ ne _. absurd (ne same);
          }))
          (λ apart.
          let behind = fit.behind in
          let counted = r.counted in
          let counts = tail_counts in
          onward apart (λ e. omega (arith, e, is_n, small)) (omega (arith, apart, is_n, behind, counted, counts)))

  -- what Tail tells of how many values there are
  holds_so_many : HoldsSoMany z n r.history
  holds_so_many =
      let counted = r.counted in
      let taken = r.taken in
      let t = tail_is in
      record { shut = r.shut; values = r.values; leads = r.leads; places = omega (arith, counted, taken, t); bit = r.tail_is ∙ ap (λ t. tail_word t r.shut) (sym tail_is) }

  -- Tail is read by a seat that looks how many values there are
  pub sees_tail : Line (TailSeen z) (get_or words 0 0)
  sees_tail =
      line (TailSeen z) n (reading C1 0 n) rests v.head (n % 2 ^ 62) v.notes notes_stay' fit.behind (let t = tail_is in omega (arith, t)) tt (λ learned. record {
        learns = learned;
        went = (on (reading C1 0 n), sym (append-nil v.mine), row_reads_tail n rested (let t = tail_is in let u = fit.under in omega (arith, t, u)) refl refl, λ _. saw (reading C1 0 n) refl);
        head = refl;
        tail = refl;
        rests = tt;
        sees = sees (reading C1 0 n) rests v.head (n % 2 ^ 62);
        holds = holds_so_many;
      })

  -- the word at the place behind those that the seat found is read
  pub reads_next : (ws : List ℕ) → v.stage ≡ found ws → length ws < z.slots → Line (NextFound z ws) (front_word (v.head + length ws))
  reads_next ws at few = same_or_not (w / 2 ^ 63) (parity z.slots (v.head + length ws))
      (λ same.
      line (NextFound z ws) (front_word (v.head + length ws)) ev (found (ws ++ w ∷ [])) v.head v.tail v.notes notes_stay' fit.behind fit.under
      (λ here i u got. ⊎_elim
      (λ (old : slice_get ws i ≡ Some u). subst (Stands z.slots r.head r.tail r.log r.cells v) at fit.stage here i u old)
      (λ (new : (i ≡ length ws) × (w ≡ u)).
      let e : v.head + length ws ≡ r.head + i = (let is = new.0 in omega (arith, here, is)) in
      subst (λ (y : ℕ × ℕ). IsFilled z.slots r.tail r.log r.cells y.0 y.1) (λ k. (e k, new.1 k)) (place_filled (v.head + length ws) (omega (arith, here)) (omega (arith, here, few)) same))
      (got_snoc ws w u i got)) (λ learned. record {
        learns = learned;
        went = (on ev, sym (append-nil v.mine), finds_next w ws at same refl refl, λ _. saw ev refl);
        head = refl;
        tail = refl;
        rests = tt;
        sees = sees ev (found (ws ++ w ∷ [])) v.head v.tail;
        filled = λ _. refl;
        late = λ ne. absurd (ne same);
      }))
      (λ apart.
      line (NextFound z ws) (front_word (v.head + length ws)) ev (found ws) v.head v.tail v.notes notes_stay' fit.behind fit.under
      (subst (Stands z.slots r.head r.tail r.log r.cells v) at fit.stage) (λ learned. record {
        learns = learned;
        went = (on ev, sym (append-nil v.mine), finds_no_next w ws at apart refl refl, λ _. saw ev refl);
        head = refl;
        tail = refl;
        rests = tt;
        sees = sees ev (found ws) v.head v.tail;
        filled = λ same. absurd (apart same);
        late = λ _. refl;
      }))
    where
      w : ℕ
      w = front_word (v.head + length ws)

      ev : Event
      ev = reading P5 (slot_word ((v.head + length ws) % z.slots)) w
