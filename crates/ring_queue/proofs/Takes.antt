-- A pop takes the front, or many at one step.
use Rattle.std.proofs.Common.{◌≡◌, ◌≢◌, ℕ, suc, ◌+◌, ◌/◌, ◌%◌, ◌^◌, ◌≤◌, nat_eq, inl, inr, List, [], ◌∷◌, ◌++◌, length, get_or, set, Some, None}
use Rattle.std.proofs.Common.{slice_get, sym, refl, ap, ◌∙◌, subst, arith, append-nil, append_assoc, ne_eqb}
use prog.Atomic.{either}
use Rattle.std.proofs.lemmas.Bool.{eq-eqb}
use Rattle.std.proofs.lemmas.List.{set-get_or}
use Rattle.std.proofs.lemmas.Option.{same_Some}
use Rattle.history.specs.declared.operations.Entry.{Entry}
use Rattle.history.specs.declared.operations.Entry.TheVariants.{Pop}
use Rattle.history.specs.declared.operations.Taken.{Taken}
use Rattle.history.specs.Entries.{own_entries}
use Rattle.history.specs.Seats.{IsPermitted}
use Rattle.ring_queue.specs.Words.{payload, face}
use Rattle.ring_queue.specs.Plans.{Layout, permits_of}
use Rattle.ring_queue.specs.Paths.{P3, Event, reading, writing, Step, Ran, accessed, added_by}
use Rattle.ring_queue.specs.Rows.{takes as row_takes, loses as row_loses}
use Rattle.ring_queue.specs.Knowledge.{rests, found, SeatView}
use Rattle.ring_queue.specs.Rule.{FitsWord, IsFilled, SeatOk, Stands, put, Ring}
use Rattle.ring_queue.specs.Steps.{Rests, taken_in, pops, FrontsTaken}
use Rattle.ring_queue.proofs.Numbers.{face_payload, payload_some}
use Rattle.ring_queue.proofs.Puts.{same_or_not, put_here, set_twice, put_twice}
use Rattle.ring_queue.proofs.Histories.{own_one, all_noted_more}
use Rattle.ring_queue.proofs.Keeps as keeps
use Rattle.ring_queue.proofs.Tables.{Extends, adds_none, it_fits, notes_stay, saw_all, looks, learns, runs_on, sees_on}

-- a ring with a seat that is about to pop the values of these words, which are those of the places from Head on
record Popping (z : Layout) (words : List ℕ) (seats : ℕ → SeatView) (ws : List ℕ) : Type 0 where
  ring : Ring z words seats
  seat : SeatView
  its : seats seat.number ≡ seat
  rested : Rests seat.stage
  ran : List Step
  filled : (i w : ℕ) → slice_get ws i ≡ Some w → IsFilled z.slots ring.tail ring.log ring.cells (ring.head + i) w

-- what the seat is after the first of them
abbrev after_one : {z : Layout} {words : List ℕ} {seats : ℕ → SeatView} {ws : List ℕ} → Popping z words seats ws → ℕ → SeatView
after_one c w = record {
  number = c.seat.number;
  stage = rests;
  head = c.ring.head + 1;
  tail = c.seat.tail;
  seen = c.ring.history ++ Pop c.seat.number (taken_in w) ∷ [];
  mine = c.seat.mine ++ Pop c.seat.number (taken_in w) ∷ [];
  notes = c.seat.notes;
  ran = c.ran;
}

module _ (z : Layout) (words : List ℕ) (seats : ℕ → SeatView) (w : ℕ) (ws : List ℕ) (c : Popping z words seats (w ∷ ws)) where
  abbrev r : Ring z words seats
  r = c.ring

  abbrev v : SeatView
  v = c.seat

  abbrev its_fit : SeatOk z r.head r.tail r.log r.cells r.history v.number v
  its_fit = it_fits z words seats r v c.its

  knows : IsFilled z.slots r.tail r.log r.cells r.head w
  knows = subst (λ p. IsFilled z.slots r.tail r.log r.cells p w) (let e : r.head + 0 ≡ r.head = omega arith in e) (c.filled 0 w refl)

  says : w % 2 ^ 63 ≡ payload (r.log r.head)
  says = ap (λ x. x % 2 ^ 63) knows.1 ∙ face_payload z.slots r.head (r.log r.head) (r.fits r.head)

  -- it says the value that stands in front
  its_value : (y : Taken) → r.log r.head ≡ Some y → Some y ≡ Some (taken_in w)
  its_value y is =
      let fits : FitsWord (Some y) = subst FitsWord is (r.fits r.head) in
      let same : payload (Some y) ≡ w % 2 ^ 63 = sym (says ∙ ap payload is) in
      payload_some (Some y) fits (let from = fits.0 in omega (arith, from)) ∙ ap (λ x. Some (record { from = x / 2 ^ 48; body = x % 2 ^ 48 })) same

  abbrev One : Type 0
  One = (r' : Ring z (set words 16 (r.head + 1)) (put seats v.number (after_one c w))) × (r'.head ≡ r.head + 1) × (r'.tail ≡ r.tail)
      × (r'.history ≡ r.history ++ Pop v.number (taken_in w) ∷ []) × (r'.cells ≡ r.cells) × (r'.log ≡ r.log)

  -- the first value is popped
  pop_one : IsPermitted (permits_of z) (Pop v.number (taken_in w)) → One
  pop_one permit = take r.values refl
    where
      take : (vs : List Taken) → r.values ≡ vs → One
      take [] none = absurd (let l : length r.values ≡ 0 = ap length none in let c = r.counted in let lt = knows.0 in omega (arith, l, c, lt))
      take (y ∷ ys) first =
          let there : r.log r.head ≡ Some y = ap r.log (let q : r.head ≡ r.head + 0 = omega arith in q) ∙ r.logged 0 y (ap (λ vs. slice_get vs 0) first) in
          let front : y ≡ taken_in w = same_Some y (taken_in w) (its_value y there) in
          let e : Entry = Pop v.number (taken_in w) in
          let own : own_entries v.number (r.history ++ e ∷ []) ≡ v.mine ++ e ∷ [] = own_one v.number r.history e refl ∙ ap (λ es. es ++ e ∷ []) its_fit.own in
          keeps.pops z words seats r v.number (after_one c w) (subst (λ (u : SeatView). Rests u.stage) (sym c.its) c.rested) (taken_in w) ys (first ∙ ap (λ x. x ∷ ys) front) knows.2 permit
          (record {
            number = refl;
            behind = omega arith;
            under = its_fit.under;
            rest = [];
            begins = sym (append-nil (r.history ++ e ∷ []));
            own = own;
            known = own;
            noted = all_noted_more r.history (e ∷ []) v.notes (notes_stay z words seats r v c.its);
            stage = tt;
          })

-- what the ring and the seat are after all these pops
record Pops (z : Layout) (words : List ℕ) (seats : ℕ → SeatView) (ws : List ℕ) (c : Popping z words seats ws) : Type 0 where
  seat : SeatView
  number : seat.number ≡ c.seat.number
  stage : seat.stage ≡ rests
  head : seat.head ≡ c.ring.head + length ws
  tail : seat.tail ≡ c.seat.tail
  seen : seat.seen ≡ c.ring.history ++ pops c.seat.number ws
  mine : seat.mine ≡ c.seat.mine ++ pops c.seat.number ws
  notes : seat.notes ≡ c.seat.notes
  ran : seat.ran ≡ c.ran
  ring : keeps.Became z (set words 16 (c.ring.head + length ws)) (put seats c.seat.number seat) (c.ring.history ++ pops c.seat.number ws)

pop_all : (ws : List ℕ) (w : ℕ) (z : Layout) (words : List ℕ) (seats : ℕ → SeatView) (c : Popping z words seats (w ∷ ws))
    → ((value : Taken) → IsPermitted (permits_of z) (Pop c.seat.number value)) → Pops z words seats (w ∷ ws) c
pop_all [] w z words seats c permit =
    let one = pop_one z words seats w [] c (permit (taken_in w)) in
    record { seat = after_one c w; number = refl; stage = refl; head = refl; tail = refl; seen = refl; mine = refl; notes = refl; ran = refl; ring = (one.0, one.3) }
pop_all (w' ∷ ws) w z words seats c permit =
    let one = pop_one z words seats w (w' ∷ ws) c (permit (taken_in w)) in
    let n : ℕ = c.seat.number in
    let v1 : SeatView = after_one c w in
    let head1 = one.1 in
    let many : length (w ∷ w' ∷ ws) ≡ length (w' ∷ ws) + 1 = omega arith in
    let c1 : Popping z (set words 16 (c.ring.head + 1)) (put seats n v1) (w' ∷ ws) = record {
      ring = one.0;
      seat = v1;
      its = put_here seats n n v1 refl;
      rested = tt;
      ran = c.ran;
      filled = λ i u got.
          let old = c.filled (suc i) u got in
          let e : one.0.head + i ≡ c.ring.head + suc i = omega (arith, head1) in
          let lt = old.0 in
          let tail1 = one.2 in (
            omega (arith, lt, e, tail1),
            old.1 ∙ (λ k. face z.slots (sym e k) (sym one.5 k (sym e k))),
            ap (λ q. one.0.cells (q % z.slots)) e ∙ (ap (λ cs. cs ((c.ring.head + suc i) % z.slots)) one.4 ∙ (old.2 ∙ ap (λ q. record { place = q; filler = None }) (sym e))),
          );
    } in
    let more = pop_all ws w' z (set words 16 (c.ring.head + 1)) (put seats n v1) c1 permit in
    let head = more.head in
    let onward : one.0.history ++ pops n (w' ∷ ws) ≡ c.ring.history ++ pops n (w ∷ w' ∷ ws) =
    ap (λ h. h ++ pops n (w' ∷ ws)) one.3 ∙ append_assoc c.ring.history (Pop n (taken_in w) ∷ []) (pops n (w' ∷ ws)) in
    record {
      seat = more.seat;
      number = more.number;
      stage = more.stage;
      head = omega (arith, head, head1, many);
      tail = more.tail;
      seen = more.seen ∙ onward;
      mine = more.mine ∙ append_assoc c.seat.mine (Pop n (taken_in w) ∷ []) (pops n (w' ∷ ws));
      notes = more.notes;
      ran = more.ran;
      ring = subst (λ (y : List ℕ × (ℕ → SeatView) × List Entry). keeps.Became z y.0 y.1 y.2)
          (λ i. (
            (set_twice words 16 (c.ring.head + 1) (one.0.head + length (w' ∷ ws)) ∙ ap (set words 16)
                (let q : one.0.head + length (w' ∷ ws) ≡ c.ring.head + length (w ∷ w' ∷ ws) = omega (arith, head1, many) in q)) i,
            put_twice seats n v1 more.seat i,
            onward i,
          ))
          more.ring;
    }

module _ (z : Layout) (words : List ℕ) (seats : ℕ → SeatView) (r : Ring z words seats) (v : SeatView) (is : seats v.number ≡ v)
    (run : List Step) (whole : r.history ≡ added_by run) (knew : Ran run v.number v.ran) where
  abbrev fit : SeatOk z r.head r.tail r.log r.cells r.history v.number v
  fit = it_fits z words seats r v is

  abbrev h : ℕ
  h = get_or words 16 0

  -- the word of Head after an exchange that asks for so many places
  abbrev raised : ℕ → ℕ
  raised count = either (nat_eq (get_or words 16 0) v.head) (v.head + count) (get_or words 16 0)

  -- Head is raised, or another raised it
  takes_fronts : (w : ℕ) (ws : List ℕ) → v.stage ≡ found (w ∷ ws) → ((value : Taken) → IsPermitted (permits_of z) (Pop v.number value))
      → (v' : SeatView) × (v'.number ≡ v.number) × (r' : Ring z (set words 16 (raised (length (w ∷ ws)))) (put seats v.number v'))
      × Extends run (pops v.number (w ∷ ws)) r.history v r'.history v' × FrontsTaken z (w ∷ ws) v h v'
  takes_fronts w ws at permit = same_or_not h v.head won lost
    where
      count : ℕ
      count = length (w ∷ ws)

      rested : Rests v.stage
      rested = subst Rests (sym at) tt

      won : h ≡ v.head → (v' : SeatView) × (v'.number ≡ v.number) × (r' : Ring z (set words 16 (raised count)) (put seats v.number v'))
          × Extends run (pops v.number (w ∷ ws)) r.history v r'.history v' × FrontsTaken z (w ∷ ws) v h v'
      won same =
          let here : v.head ≡ r.head = sym same ∙ r.head_is in
          let ev : Event = writing P3 16 h (h + count) (pops v.number (w ∷ ws)) in
          let c : Popping z words seats (w ∷ ws) = record {
            ring = r;
            seat = v;
            its = is;
            rested = rested;
            ran = accessed run v.number ev;
            filled =
                subst (Stands z.slots r.head r.tail r.log r.cells v) at fit.stage here;
          } in
          let all = pop_all ws w z words seats c permit in
          let word : r.head + count ≡ raised count = ap (λ x. x + count) (sym here) ∙ ap (λ b. either b (v.head + count) h) (sym (eq-eqb h v.head same)) in
          let made = subst (λ x. keeps.Became z (set words 16 x) (put seats v.number all.seat) (r.history ++ pops v.number (w ∷ ws))) word all.ring in
          let ring' = made.0 in (
            all.seat,
            all.number,
            ring',
            record { added = pops v.number (w ∷ ws); which = inr refl; grown = made.1; own = all.mine; seen = inl (all.seen ∙ sym made.1); event = ev; ran = all.ran },
            record {
              learns = learns z (set words 16 (raised count)) seats v all.seat all.number ring';
              tail = all.tail;
              rests = subst Rests (sym all.stage) tt;
              went_won = λ same. (
                record { before = run; knew = knew; ends = all.ran },
                all.mine,
                row_takes h (w ∷ ws) at (omega arith) same refl
                    (λ i. record { at = all.stage i; head = (all.head ∙ ap (λ x. x + count) (sym r.head_is)) i; tail = all.tail i }),
                λ _. all.seen ∙ (sees_on run r.history whole v.number ev ∙ ap added_by (sym all.ran)),
              );
              went_lost = λ ne. absurd (ne same);
              won = λ _. (
                all.head ∙ ap (λ x. x + count) (sym r.head_is),
                record { number = all.number; between = fit.rest; seen = all.seen ∙ ap (λ es. es ++ pops v.number (w ∷ ws)) fit.begins; mine = all.mine; notes = all.notes },
              );
              lost = λ ne. absurd (ne same);
            },
          )

      lost : h ≢ v.head → (v' : SeatView) × (v'.number ≡ v.number) × (r' : Ring z (set words 16 (raised count)) (put seats v.number v'))
          × Extends run (pops v.number (w ∷ ws)) r.history v r'.history v' × FrontsTaken z (w ∷ ws) v h v'
      lost ne =
          let v' : SeatView = record { number = v.number; stage = rests; head = h; tail = v.tail; seen = r.history; mine = v.mine; notes = v.notes; ran = accessed run v.number (reading P3 16 h) } in
          let ok = saw_all z words seats r v is v' refl refl refl (notes_stay z words seats r v is) (let q = r.head_is in omega (arith, q)) fit.under tt in
          let made : keeps.Became z (set words 16 (raised count)) (put seats v.number v') r.history =
          subst (λ us. keeps.Became z us (put seats v.number v') r.history) (sym (ap (λ b. set words 16 (either b (v.head + count) h))
          (ne_eqb h v.head ne) ∙ set-get_or words 16 0)) (looks z words seats r v is v' rested ok) in
          let ring = made.0 in
          let b = fit.behind in
          let q = r.head_is in (
            v',
            refl,
            ring,
            adds_none run (pops v.number (w ∷ ws)) r.history v ring.history v' (reading P3 16 h) made.1 refl refl refl,
            record {
              learns = learns z (set words 16 (raised count)) seats v v' refl ring;
              tail = refl;
              rests = tt;
              went_won = λ e. absurd (ne e);
              went_lost = λ ne. (
                runs_on run v.number v.ran knew (reading P3 16 h),
                sym (append-nil v.mine),
                row_loses h (w ∷ ws) at ne (omega (arith, b, q)) refl refl,
                λ _. sym (append-nil r.history) ∙ sees_on run r.history whole v.number (reading P3 16 h),
              );
              won = λ e. absurd (ne e);
              lost = λ _. (refl, omega (arith, b, q), record { number = refl; between = fit.rest; seen = fit.begins; mine = refl; notes = refl });
            },
          )

  -- the same of any words, one at least
  pub takes_words : (taken : List ℕ) → 1 ≤ length taken → v.stage ≡ found taken → ((value : Taken) → IsPermitted (permits_of z) (Pop v.number value))
      → (v' : SeatView) × (v'.number ≡ v.number) × (r' : Ring z (set words 16 (raised (length taken))) (put seats v.number v'))
      × Extends run (pops v.number taken) r.history v r'.history v' × FrontsTaken z taken v h v'
  takes_words [] some at permit = absurd (let f : 1 ≤ 0 = some in omega (arith, f))
  takes_words (w ∷ ws) some at permit = takes_fronts w ws at permit
