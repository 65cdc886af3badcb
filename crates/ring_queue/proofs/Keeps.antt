-- Each step on a word keeps the ring's rule.
use Rattle.std.proofs.Common.{◌≡◌, ◌≢◌, ℕ, suc, ◌+◌, ◌-◌, ◌%◌, ◌<◌, ◌≤◌, true, false, List, [], ◌∷◌, ◌++◌, length, get_or, set, slice_get, Option}
use Rattle.std.proofs.Common.{Some, None, sym, refl, ap, ◌∙◌, subst, arith, append_assoc, mod-lt}
use Rattle.std.specs.List.{All, count_by}
use Rattle.std.proofs.lemmas.List.Sums.{sum_by-append}
use Rattle.std.proofs.lemmas.List.{get_or-set_other, get_or-set_same, length-set}
use Rattle.std.proofs.lemmas.Option.{same_Some, none-some}
use Rattle.std.proofs.Math.Nat.{add-mod_right}
use Rattle.history.specs.declared.operations.Entry.{Entry}
use Rattle.history.specs.declared.operations.Entry.TheVariants.{Pop, Shut}
use Rattle.history.specs.declared.operations.Taken.{Taken}
use Rattle.history.specs.Entries.{own_entries, is_pop, Leads}
use Rattle.history.specs.Seats.{IsPermitted}
use Rattle.history.specs.Values.{pushed}
use Rattle.ring_queue.specs.Words.{face, slot_word, tail_word}
use Rattle.ring_queue.specs.Plans.{Layout, permits_of}
use Rattle.ring_queue.specs.Knowledge.{Stage, rests, claimed, found, unfilled, head_due, SeatView}
use Rattle.ring_queue.specs.Rule.{Cell, Log, FitsWord, Lies, CellOk, HasClaimed, IsFilled, Stands, SeatOk, FillerStands, put, Ring}
use Rattle.ring_queue.specs.Steps.{Rests}
use Rattle.ring_queue.proofs.Numbers.{same_place}
use Rattle.ring_queue.proofs.Puts.{same_or_not, put_here, put_else, put_each}
use Rattle.ring_queue.proofs.Histories.{own_other, all_one, leads_pop, leads_shut, pushed_quiet}

-- a cell
abbrev pub cell : ℕ → Option ℕ → Cell
cell p f = record { place = p; filler = f }

-- a seat that took no part in a step still fits
pub seat_stays : (z : Layout) (head tail head' tail' : ℕ) (log log' : Log) (cells cells' : ℕ → Cell) (history es : List Entry) (n : ℕ) (v : SeatView)
    → head ≤ head' → tail ≤ tail' → own_entries n (history ++ es) ≡ own_entries n history
    → (Stands z.slots head tail log cells v v.stage → Stands z.slots head' tail' log' cells' v v.stage)
    → SeatOk z head tail log cells history n v → SeatOk z head' tail' log' cells' (history ++ es) n v
seat_stays z head tail head' tail' log log' cells cells' history es n v le more own stands k =
    let b = k.behind in
    let u = k.under in
    record {
      number = k.number;
      behind = omega (arith, b, le);
      under = omega (arith, u, more);
      rest = k.rest ++ es;
      begins = ap (λ h. h ++ es) k.begins ∙ append_assoc v.seen k.rest es;
      own = own ∙ k.own;
      known = k.known;
      noted = k.noted;
      stage = stands k.stage;
    }

-- a ring of these words and seats, with this history
abbrev pub Became : (z : Layout) (words : List ℕ) (seats : ℕ → SeatView) → List Entry → Type 0
Became z words seats history = (r : Ring z words seats) × (r.history ≡ history)

-- a seat in no call has claimed no place
pub none_claimed : (st : Stage) (p : ℕ) (x : Option Taken) → Rests st → HasClaimed st p x → ⊥
none_claimed rests p x rested h = h
none_claimed (claimed q xs) p x rested h = rested
none_claimed (found ws) p x rested h = h
none_claimed unfilled p x rested h = h
none_claimed head_due p x rested h = h

-- who fills a place still stands there
pub filler_on : (count : ℕ) (log log' : Log) (seats seats' : ℕ → SeatView) (p : ℕ) (f : Option ℕ) → log' p ≡ log p
    → ((k : ℕ) → HasClaimed (seats k).stage p (log p) → HasClaimed (seats' k).stage p (log p))
    → FillerStands count log seats p f → FillerStands count log' seats' p f
filler_on count log log' seats seats' p None same stays h = tt
filler_on count log log' seats seats' p (Some n) same stays h = (h.0, h.1, subst (HasClaimed (seats' n).stage p) (sym same) (stays n h.2))

-- where a seat that has claimed no place changes, those that have stay
claimed_beside : (seats : ℕ → SeatView) (n : ℕ) (v : SeatView) → Rests (seats n).stage → (k p : ℕ) (x : Option Taken) → HasClaimed (seats k).stage p x → HasClaimed (put seats n v k).stage p x
claimed_beside seats n v rested k p x e = same_or_not k n
    (λ same. absurd (none_claimed (seats n).stage p x rested (subst (λ j. HasClaimed (seats j).stage p x) same e)))
    (λ ne. subst (λ (u : SeatView). HasClaimed u.stage p x) (sym (put_else seats n k v ne)) e)

-- where a seat changes that keeps the places before one that it has claimed, all keep them
claimed_before : (seats : ℕ → SeatView) (n tail : ℕ) (v : SeatView) → ((p : ℕ) (x : Option Taken) → p < tail → HasClaimed (seats n).stage p x → HasClaimed v.stage p x)
    → (k p : ℕ) (x : Option Taken) → p < tail → HasClaimed (seats k).stage p x → HasClaimed (put seats n v k).stage p x
claimed_before seats n tail v stays k p x lt e = same_or_not k n
    (λ same. subst (λ (u : SeatView). HasClaimed u.stage p x) (sym (put_here seats n k v same)) (stays p x lt (subst (λ j. HasClaimed (seats j).stage p x) same e)))
    (λ ne. subst (λ (u : SeatView). HasClaimed u.stage p x) (sym (put_else seats n k v ne)) e)

-- what one seat stands for goes on, whatever it is
module _ (m head tail head' tail' : ℕ) (log log' : Log) (cells cells' : ℕ → Cell) (v : SeatView) where
  pub stands_on : ((p : ℕ) (x : Option Taken) → cells (p % m) ≡ cell p (Some v.number) → log p ≡ x → (cells' (p % m) ≡ cell p (Some v.number)) × (log' p ≡ x))
      → ((i w : ℕ) → (v.head ≡ head → IsFilled m tail log cells (head + i) w) → v.head ≡ head' → IsFilled m tail' log' cells' (head' + i) w)
      → (st : Stage) → Stands m head tail log cells v st → Stands m head' tail' log' cells' v st
  stands_on claims finds rests k = tt
  stands_on claims finds unfilled k = tt
  stands_on claims finds head_due k = tt
  stands_on claims finds (claimed p xs) k = λ q x h. let t = k q x h in claims q x t.0 t.1
  stands_on claims finds (found ws) k = λ e i w at. finds i w (λ q. k q i w at) e

module _ (z : Layout) (words : List ℕ) (seats : ℕ → SeatView) (r : Ring z words seats) where
  abbrev m : ℕ
  m = z.slots

  -- there is a slot
  pub some_slot : 0 < m
  some_slot = let p = r.planned in let a = p.room in let b = p.some in omega (arith, a, b)

  -- Head is not above Tail
  pub head_below : r.head ≤ r.tail
  head_below = let c = r.counted in omega (arith, c)

  -- a load, or any step that writes what it found: the words stay, and what the seats know changes
  abbrev pub renewed : (seats' : ℕ → SeatView) → ((k : ℕ) → SeatOk z r.head r.tail r.log r.cells r.history k (seats' k))
      → ((k p : ℕ) (x : Option Taken) → HasClaimed (seats k).stage p x → HasClaimed (seats' k).stage p x)
      → Ring z words seats'
  renewed seats' each stays = record {
    planned = r.planned;
    head = r.head;
    tail = r.tail;
    shut = r.shut;
    values = r.values;
    history = r.history;
    log = r.log;
    cells = r.cells;
    wide = r.wide;
    tail_is = r.tail_is;
    head_is = r.head_is;
    leads = r.leads;
    taken = r.taken;
    permitted = r.permitted;
    counted = r.counted;
    roomy = r.roomy;
    limited = r.limited;
    logged = r.logged;
    first_lap = r.first_lap;
    in_order = r.in_order;
    fits = r.fits;
    each_cell = r.each_cell;
    filling = λ i lt. filler_on (length z.roles) r.log r.log seats seats' (r.cells i).place (r.cells i).filler refl (λ k. stays k (r.cells i).place (r.log (r.cells i).place)) (r.filling i lt);
    each_seat = each;
  }

  -- the view of a seat that has claimed no place changes
  pub watches : (n : ℕ) (v : SeatView) → Rests (seats n).stage → SeatOk z r.head r.tail r.log r.cells r.history n v → Became z words (put seats n v) r.history
  watches n v rested ok = (
    renewed (put seats n v) (λ k. put_each seats n k v (SeatOk z r.head r.tail r.log r.cells r.history) ok (λ ne. r.each_seat k)) (claimed_beside seats n v rested),
    refl,
  )

  -- the slot of the next place had one a lap before
  pub next_on : r.tail ≡ (r.cells (r.tail % m)).place + m
  next_on =
      let c : Cell = r.cells (r.tail % m) in
      let ok : CellOk m r.head r.tail r.log words (r.tail % m) c = r.each_cell (r.tail % m) (mod-lt r.tail some_slot) in
      let a = ok.claimed in
      let b = ok.last in
      same_place m r.tail (c.place + m) some_slot (sym (add-mod_right c.place m ∙ ok.slot)) (omega (arith, b, some_slot)) (omega (arith, a))

  -- the place of the slot of the next place that was claimed last is filled, where there is room
  pub next_is_filled : r.tail < r.head + m → (r.cells (r.tail % m)) ≡ cell (r.tail - m) None
  next_is_filled room =
      let i : ℕ = r.tail % m in
      let c : Cell = r.cells i in
      let ok : CellOk m r.head r.tail r.log words i c = r.each_cell i (mod-lt r.tail some_slot) in
      let is = next_on in
      let place : c.place ≡ r.tail - m = omega (arith, is) in
      go c.place c.filler ok.lies place (omega (arith, is, room))
    where
      go : (p : ℕ) (f : Option ℕ) → Lies m r.head r.log (get_or words (slot_word (r.tail % m)) 0) p f → p ≡ r.tail - m → p < r.head → cell p f ≡ cell (r.tail - m) None
      go p None lies e lt = ap (λ q. cell q None) e
      go p (Some n) lies e lt = absurd (let h = lies.2 in omega (arith, h, lt))

  -- what no place of the log before Tail is changed by
  pub log_before : (x : Option Taken) (p : ℕ) → p < r.tail → put r.log r.tail x p ≡ r.log p
  log_before x p lt = put_else r.log r.tail p x (λ e. omega (arith, e, lt))

  -- the words of slots and of Head are apart from Tail
  slot_after_tail : (w i : ℕ) → get_or (set words 0 w) (slot_word i) 0 ≡ get_or words (slot_word i) 0
  slot_after_tail w i = get_or-set_other words 0 (slot_word i) w 0 (λ e. omega (arith, e))

  -- a cell that isn't that of the place claimed
  cell_beside : (n w i : ℕ) (x : Option Taken) → i ≢ r.tail % m → (c : Cell) → CellOk m r.head r.tail r.log words i c → CellOk m r.head (r.tail + 1) (put r.log r.tail x) (set words 0 w) i c
  cell_beside n w i x ne c ok =
      let a = ok.claimed in
      let b = ok.last in
      record {
        slot = ok.slot;
        claimed = omega (arith, a);
        last = same_or_not r.tail (c.place + m)
            (λ e. absurd (ne (sym ok.slot ∙ (sym (add-mod_right c.place m) ∙ ap (λ q. q % m) (sym e)))))
            (λ apart. omega (arith, b, apart));
        lies = go c.place c.filler a ok.lies;
      }
    where
      go : (p : ℕ) (f : Option ℕ) → p < r.tail → Lies m r.head r.log (get_or words (slot_word i) 0) p f → Lies m r.head (put r.log r.tail x) (get_or (set words 0 w) (slot_word i) 0) p f
      go p None lt lies = slot_after_tail w i ∙ (lies ∙ ap (face m p) (sym (log_before x p lt)))
      go p (Some j) lt lies = (slot_after_tail w i ∙ (lies.0 ∙ ap (face m (p - m)) (sym (log_before x (p - m) (omega (arith, lt))))), lies.1, lies.2)

  -- the cell of the place claimed
  cell_claimed : (n w : ℕ) (x : Option Taken) → r.tail < r.head + m → CellOk m r.head (r.tail + 1) (put r.log r.tail x) (set words 0 w) (r.tail % m) (cell r.tail (Some n))
  cell_claimed n w x room =
      let i : ℕ = r.tail % m in
      let is = next_is_filled room in
      let ok : CellOk m r.head r.tail r.log words i (cell (r.tail - m) None) = subst (CellOk m r.head r.tail r.log words i) is (r.each_cell i (mod-lt r.tail some_slot)) in
      let lt = ok.claimed in
      let b = head_below in
      let pos = some_slot in
      let next = next_on in
      let on : m ≤ r.tail = omega (arith, next) in
      record {
        slot = refl;
        claimed = omega arith;
        last = omega (arith, pos);
        lies = (slot_after_tail w i ∙ (ok.lies ∙ ap (face m (r.tail - m)) (sym (log_before x (r.tail - m) (omega (arith, lt))))), on, b);
      }

  -- what others stand for while a place is claimed
  others_claim : (n : ℕ) (x : Option Taken) (k : ℕ) (v : SeatView) → v.number ≡ k → k ≢ n → r.tail < r.head + m
      → (st : Stage) → Stands m r.head r.tail r.log r.cells v st
      → Stands m r.head (r.tail + 1) (put r.log r.tail x) (put r.cells (r.tail % m) (cell r.tail (Some n))) v st
  others_claim n x k v is ne room st old =
      stands_on m r.head r.tail r.head (r.tail + 1) r.log (put r.log r.tail x) r.cells (put r.cells (r.tail % m) (cell r.tail (Some n))) v
      (λ p y mine filled.
      let lt : p < r.tail = place_claimed p (Some v.number) mine in (
        put_else r.cells (r.tail % m) (p % m) (cell r.tail (Some n)) (λ e. none-some v.number (ap (λ (c : Cell). c.filler) (sym (next_is_filled room) ∙ (ap r.cells (sym e) ∙ mine)))) ∙ mine,
        log_before x p lt ∙ filled,
      ))
      (λ i w knows e.
      let t = knows e in
      let lt = t.0 in (
        omega (arith, lt),
        t.1 ∙ ap (face m (r.head + i)) (sym (log_before x (r.head + i) lt)),
        put_else r.cells (r.tail % m) ((r.head + i) % m) (cell r.tail (Some n)) (λ same. absurd (
            let one : r.head + i ≡ r.tail = same_place m (r.head + i) r.tail some_slot same (omega (arith, lt, some_slot)) (omega (arith, room)) in omega (arith, one, lt))) ∙ t.2,
      ))
      st old
    where
      place_claimed : (p : ℕ) (f : Option ℕ) → r.cells (p % m) ≡ cell p f → p < r.tail
      place_claimed p f is = subst (λ (c : Cell). c.place < r.tail) is (r.each_cell (p % m) (mod-lt p some_slot)).claimed

  -- a place is claimed
  pub claims : (n : ℕ) (v : SeatView) (x : Option Taken) (values' : List Taken) (es : List Entry)
      → ((p : ℕ) (y : Option Taken) → p < r.tail → HasClaimed (seats n).stage p y → HasClaimed v.stage p y)
      → 1 ≤ n → n ≤ length z.roles → HasClaimed v.stage r.tail x
      → r.tail + 1 ≤ r.head + z.most → r.tail + 1 ≤ z.limit → FitsWord x
      → Leads (r.history ++ es) r.shut values' → All (IsPermitted (permits_of z)) (r.history ++ es)
      → r.head + length values' ≡ r.tail + 1
      → ((i : ℕ) (u : Taken) → slice_get values' i ≡ Some u → put r.log r.tail x (r.head + i) ≡ Some u)
      → ((i : ℕ) → z.slots + i < r.tail + 1 → put r.log r.tail x (z.slots + i) ≡ slice_get (pushed (r.history ++ es)) i)
      → ((k : ℕ) → k ≢ n → own_entries k (r.history ++ es) ≡ own_entries k r.history) → count_by is_pop (r.history ++ es) ≡ count_by is_pop r.history
      → SeatOk z r.head (r.tail + 1) (put r.log r.tail x) (put r.cells (r.tail % m) (cell r.tail (Some n))) (r.history ++ es) n v
      → (r' : Ring z (set words 0 (tail_word (r.tail + 1) r.shut)) (put seats n v)) × (r'.tail ≡ r.tail + 1) × (r'.shut ≡ r.shut) × (r'.history ≡ r.history ++ es)
      × (r'.cells ≡ put r.cells (r.tail % m) (cell r.tail (Some n))) × (r'.log ≡ put r.log r.tail x) × (r'.head ≡ r.head)
  claims n v x values' es rested from to stands roomy within fit leads permitted counted logged ordered others keep ok =
      let w : ℕ = tail_word (r.tail + 1) r.shut in
      let wide = r.wide in
      let planned = r.planned in
      let slots = planned.room in
      let room : r.tail < r.head + m = omega (arith, roomy, slots) in (
        record {
          planned = r.planned;
          head = r.head;
          tail = r.tail + 1;
          shut = r.shut;
          values = values';
          history = r.history ++ es;
          log = put r.log r.tail x;
          cells = put r.cells (r.tail % m) (cell r.tail (Some n));
          wide = length-set words 0 w ∙ wide;
          tail_is = get_or-set_same words 0 w 0 (omega (arith, wide));
          head_is = get_or-set_other words 0 16 w 0 (λ e. omega (arith, e)) ∙ r.head_is;
          leads = leads;
          taken = r.taken ∙ ap (λ k. m + k) (sym keep);
          permitted = permitted;
          counted = counted;
          roomy = roomy;
          limited = within;
          logged = logged;
          first_lap = λ p lt. (let on = next_on in put_else r.log r.tail p x (λ e. omega (arith, e, lt, on)) ∙ r.first_lap p lt);
          in_order = ordered;
          fits = λ p. put_each r.log r.tail p x (λ q y. FitsWord y) fit (λ ne. r.fits p);
          each_cell = λ i lt. put_each r.cells (r.tail % m) i (cell r.tail (Some n)) (CellOk m r.head (r.tail + 1) (put r.log r.tail x) (set words 0 w))
              (cell_claimed n w x room) (λ ne. cell_beside n w i x ne (r.cells i) (r.each_cell i lt));
          filling = λ i lt. put_each r.cells (r.tail % m) i (cell r.tail (Some n)) (λ j (c : Cell). FillerStands (length z.roles) (put r.log r.tail x) (put seats n v) c.place c.filler) (
            from,
            to,
            subst (λ (u : SeatView). HasClaimed u.stage r.tail (put r.log r.tail x r.tail)) (sym (put_here seats n n v refl))
                (subst (HasClaimed v.stage r.tail) (sym (put_here r.log r.tail r.tail x refl)) stands),
          )
              (λ ne. filler_on (length z.roles) r.log (put r.log r.tail x) seats (put seats n v) (r.cells i).place (r.cells i).filler
              (log_before x (r.cells i).place (r.each_cell i lt).claimed) (λ k. claimed_before seats n r.tail v rested k (r.cells i).place
              (r.log (r.cells i).place) (r.each_cell i lt).claimed) (r.filling i lt));
          each_seat = λ k. put_each seats n k v (SeatOk z r.head (r.tail + 1) (put r.log r.tail x) (put r.cells (r.tail % m) (cell r.tail (Some n))) (r.history ++ es)) ok
              (λ ne. seat_stays z r.head r.tail r.head (r.tail + 1) r.log (put r.log r.tail x) r.cells
              (put r.cells (r.tail % m) (cell r.tail (Some n))) r.history es k (seats k)
              (omega arith) (omega arith) (others k ne) (others_claim n x k (seats k) (r.each_seat k).number ne room (seats k).stage) (r.each_seat k));
        },
        refl,
        refl,
        refl,
        refl,
        refl,
        refl,
      )

  -- where the slot of a place lies
  slot_within : (p : ℕ) → slot_word (p % m) < length words
  slot_within p = let lt : p % m < m = mod-lt p some_slot in let w = r.wide in omega (arith, lt, w)

  -- a place is filled by the seat that claimed it
  pub fills : (n p : ℕ) (x : Option Taken) (v : SeatView) → ((q : ℕ) (y : Option Taken) → q ≢ p → HasClaimed (seats n).stage q y
      → HasClaimed v.stage q y) → r.cells (p % m) ≡ cell p (Some n) → r.log p ≡ x
      → SeatOk z r.head r.tail r.log (put r.cells (p % m) (cell p None)) r.history n v
      → Became z (set words (slot_word (p % m)) (face m p x)) (put seats n v) r.history
  fills n p x v left mine filled ok =
      let i : ℕ = p % m in
      let w : ℕ = face m p x in
      let cells' : ℕ → Cell = put r.cells i (cell p None) in
      let words' : List ℕ = set words (slot_word i) w in
      let near : i < m = mod-lt p some_slot in
      let old : CellOk m r.head r.tail r.log words i (cell p (Some n)) = subst (CellOk m r.head r.tail r.log words i) mine (r.each_cell i near) in (
        record {
          planned = r.planned;
          head = r.head;
          tail = r.tail;
          shut = r.shut;
          values = r.values;
          history = r.history;
          log = r.log;
          cells = cells';
          wide = length-set words (slot_word i) w ∙ r.wide;
          tail_is = get_or-set_other words (slot_word i) 0 w 0 (λ e. omega (arith, e)) ∙ r.tail_is;
          head_is = get_or-set_other words (slot_word i) 16 w 0 (λ e. omega (arith, e)) ∙ r.head_is;
          leads = r.leads;
          taken = r.taken;
          permitted = r.permitted;
          counted = r.counted;
          roomy = r.roomy;
          limited = r.limited;
          logged = r.logged;
          first_lap = r.first_lap;
          in_order = r.in_order;
          fits = r.fits;
          each_cell = λ j lt. put_each r.cells i j (cell p None) (CellOk m r.head r.tail r.log words')
              (record { slot = old.slot; claimed = old.claimed; last = old.last; lies = get_or-set_same words (slot_word i) w 0 (slot_within p) ∙ ap (face m p) (sym filled) })
              (λ ne. cell_apart i j w ne (r.cells j) (r.each_cell j lt));
          filling = λ j lt. put_each r.cells i j (cell p None) (λ q (c : Cell). FillerStands (length z.roles) r.log (put seats n v) c.place c.filler) tt
              (λ ne. filler_on (length z.roles) r.log r.log seats (put seats n v) (r.cells j).place (r.cells j).filler refl
              (claimed_apart n v j lt left ne) (r.filling j lt));
          each_seat = λ k. put_each seats n k v (SeatOk z r.head r.tail r.log cells' r.history) ok
              (λ ne. let g = r.each_seat k in record {
                number = g.number;
                behind = g.behind;
                under = g.under;
                rest = g.rest;
                begins = g.begins;
                own = g.own;
                known = g.known;
                noted = g.noted;
                stage = others_fill k (seats k) g.number ne (seats k).stage g.stage;
              });
        },
        refl,
      )
    where
      claimed_apart : (n : ℕ) (v : SeatView) (j : ℕ) (lt : j < m) → ((q : ℕ) (y : Option Taken) → q ≢ p → HasClaimed (seats n).stage q y → HasClaimed v.stage q y) → j ≢ p % m
          → (k : ℕ) → HasClaimed (seats k).stage (r.cells j).place (r.log (r.cells j).place) → HasClaimed (put seats n v k).stage (r.cells j).place (r.log (r.cells j).place)
      claimed_apart n v j lt left ne k e =
          let q : ℕ = (r.cells j).place in
          let far : q ≢ p = λ is. ne (sym (r.each_cell j lt).slot ∙ ap (λ y. y % m) is) in
          same_or_not k n
          (λ same. subst (λ (u : SeatView). HasClaimed u.stage q (r.log q)) (sym (put_here seats n k v same)) (left q (r.log q) far (subst (λ i. HasClaimed (seats i).stage q (r.log q)) same e)))
          (λ apart. subst (λ (u : SeatView). HasClaimed u.stage q (r.log q)) (sym (put_else seats n k v apart)) e)

      cell_apart : (i j w : ℕ) → j ≢ i → (c : Cell) → CellOk m r.head r.tail r.log words j c → CellOk m r.head r.tail r.log (set words (slot_word i) w) j c
      cell_apart i j w ne c k = record {
        slot = k.slot;
        claimed = k.claimed;
        last = k.last;
        lies = subst (λ (y : ℕ). Lies m r.head r.log y c.place c.filler) (sym (get_or-set_other words (slot_word i) (slot_word j) w 0 (λ e. ne (omega (arith, e))))) k.lies;
      }

      others_fill : (k : ℕ) (u : SeatView) → u.number ≡ k → k ≢ n → (st : Stage) → Stands m r.head r.tail r.log r.cells u st
          → Stands m r.head r.tail r.log (put r.cells (p % m) (cell p None)) u st
      others_fill k u is ne st before =
          stands_on m r.head r.tail r.head r.tail r.log r.log r.cells (put r.cells (p % m) (cell p None)) u
          (λ q y theirs lies.
          (put_else r.cells (p % m) (q % m) (cell p None) (λ e. ne (sym is ∙ same_Some _ _ (ap (λ (c : Cell). c.filler) (sym theirs ∙ (ap r.cells e ∙ mine))))) ∙ theirs, lies))
          (λ i w knows e.
          let t = knows e in
          (t.0, t.1, put_else r.cells (p % m) ((r.head + i) % m) (cell p None) (λ e. none-some n (ap (λ (c : Cell). c.filler) (sym t.2 ∙ (ap r.cells e ∙ mine)))) ∙ t.2))
          st before

  -- the first value is popped: Head is one more
  pub pops : (n : ℕ) (v : SeatView) → Rests (seats n).stage → (y : Taken) (ys : List Taken) → r.values ≡ y ∷ ys → r.cells (r.head % m) ≡ cell r.head None
      → IsPermitted (permits_of z) (Pop n y)
      → SeatOk z (r.head + 1) r.tail r.log r.cells (r.history ++ Pop n y ∷ []) n v
      → (r' : Ring z (set words 16 (r.head + 1)) (put seats n v)) × (r'.head ≡ r.head + 1) × (r'.tail ≡ r.tail) × (r'.history ≡ r.history ++ Pop n y ∷ []) × (r'.cells ≡ r.cells) × (r'.log ≡ r.log)
  pops n v rested y ys is front permit ok =
      let w : ℕ = r.head + 1 in
      let words' : List ℕ = set words 16 w in
      let wide = r.wide in
      let lengths : length r.values ≡ length ys + 1 = ap length is ∙ (let e : suc (length ys) ≡ length ys + 1 = omega arith in e) in
      let a = r.roomy in
      let c = r.counted in (
        record {
          planned = r.planned;
          head = r.head + 1;
          tail = r.tail;
          shut = r.shut;
          values = ys;
          history = r.history ++ Pop n y ∷ [];
          log = r.log;
          cells = r.cells;
          wide = length-set words 16 w ∙ wide;
          tail_is = get_or-set_other words 16 0 w 0 (λ e. omega (arith, e)) ∙ r.tail_is;
          head_is = get_or-set_same words 16 w 0 (omega (arith, wide, some_slot));
          taken = ap (λ k. k + 1) r.taken ∙ (let e : (m + count_by is_pop r.history) + 1 ≡ m + (count_by is_pop r.history + 1) = omega arith in e) ∙
              ap (λ k. m + k) (sym (sum_by-append _ r.history (Pop n y ∷ [])));
          leads = leads_pop r.history r.shut y ys n (subst (Leads r.history r.shut) is r.leads);
          permitted = all_one (IsPermitted (permits_of z)) r.history (Pop n y) r.permitted permit;
          counted = omega (arith, c, lengths);
          roomy = omega (arith, a);
          limited = r.limited;
          logged = λ i u at. let e : r.head + 1 + i ≡ r.head + suc i = omega arith in ap r.log e ∙ r.logged (suc i) u (ap (λ vs. slice_get vs (suc i)) is ∙ at);
          first_lap = r.first_lap;
          in_order = λ i lt. r.in_order i lt ∙ ap (λ vs. slice_get vs i) (sym (pushed_quiet r.history (Pop n y) refl));
          fits = r.fits;
          each_cell = λ j lt. cell_on w j (r.cells j) refl (r.each_cell j lt);
          filling = λ j lt. filler_on (length z.roles) r.log r.log seats (put seats n v) (r.cells j).place (r.cells j).filler refl
              (λ k. claimed_beside seats n v rested k (r.cells j).place (r.log (r.cells j).place)) (r.filling j lt);
          each_seat = λ k. put_each seats n k v (SeatOk z (r.head + 1) r.tail r.log r.cells (r.history ++ Pop n y ∷ [])) ok
              (λ ne. seat_stays z r.head r.tail (r.head + 1) r.tail r.log r.log r.cells r.cells r.history (Pop n y ∷ []) k (seats k)
              (omega arith) (omega arith) (own_other k r.history (Pop n y) (λ e. ne (sym e))) (others_pop (seats k) (r.each_seat k).behind (seats k).stage) (r.each_seat k));
        },
        refl,
        refl,
        refl,
        refl,
        refl,
      )
    where
      cell_on : (w j : ℕ) (d : Cell) → r.cells j ≡ d → CellOk m r.head r.tail r.log words j d → CellOk m (r.head + 1) r.tail r.log (set words 16 w) j d
      cell_on w j d at k = record {
        slot = k.slot;
        claimed = k.claimed;
        last = k.last;
        lies = subst (λ (y : ℕ). Lies m (r.head + 1) r.log y d.place d.filler) (sym (get_or-set_other words 16 (slot_word j) w 0 (λ e. omega (arith, e))))
            (go d.place d.filler k.slot at k.lies);
      }
        where
          go : (p : ℕ) (f : Option ℕ) → p % m ≡ j → r.cells j ≡ cell p f → Lies m r.head r.log (get_or words (slot_word j) 0) p f → Lies m (r.head + 1) r.log (get_or words (slot_word j) 0) p f
          go p None slot is lies = lies
          go p (Some i) slot is lies =
              let le = lies.2 in
              let apart : p ≢ r.head = λ e. none-some i (ap (λ (c : Cell). c.filler) (sym front ∙ (ap (λ q. r.cells (q % m)) (sym e) ∙ (ap r.cells slot ∙ is)))) in
              (lies.0, lies.1, omega (arith, le, apart))

      others_pop : (u : SeatView) → u.head ≤ r.head → (st : Stage) → Stands m r.head r.tail r.log r.cells u st
          → Stands m (r.head + 1) r.tail r.log r.cells u st
      others_pop u behind st before =
          stands_on m r.head r.tail (r.head + 1) r.tail r.log r.log r.cells r.cells u
          (λ q x theirs lies. (theirs, lies))
          (λ i w knows e. absurd (omega (arith, behind, e)))
          st before

  -- the queue is shut
  pub shuts : (n : ℕ) (v : SeatView) → Rests (seats n).stage → r.shut ≡ false → IsPermitted (permits_of z) (Shut n)
      → SeatOk z r.head r.tail r.log r.cells (r.history ++ Shut n ∷ []) n v
      → Became z (set words 0 (tail_word r.tail true)) (put seats n v) (r.history ++ Shut n ∷ [])
  shuts n v rested unshut permit ok =
      let w : ℕ = tail_word r.tail true in
      let wide = r.wide in (
        record {
          planned = r.planned;
          head = r.head;
          tail = r.tail;
          shut = true;
          values = r.values;
          history = r.history ++ Shut n ∷ [];
          log = r.log;
          cells = r.cells;
          wide = length-set words 0 w ∙ wide;
          tail_is = get_or-set_same words 0 w 0 (omega (arith, wide));
          head_is = get_or-set_other words 0 16 w 0 (λ e. omega (arith, e)) ∙ r.head_is;
          taken = r.taken ∙ ap (λ k. m + k) ((let e : count_by is_pop r.history ≡ count_by is_pop r.history + 0 = omega arith in e) ∙ sym (sum_by-append _ r.history (Shut n ∷ [])));
          leads = leads_shut r.history r.values n (subst (λ b. Leads r.history b r.values) unshut r.leads);
          permitted = all_one (IsPermitted (permits_of z)) r.history (Shut n) r.permitted permit;
          counted = r.counted;
          roomy = r.roomy;
          limited = r.limited;
          logged = r.logged;
          first_lap = r.first_lap;
          in_order = λ i lt. r.in_order i lt ∙ ap (λ vs. slice_get vs i) (sym (pushed_quiet r.history (Shut n) refl));
          fits = r.fits;
          each_cell = λ j lt. let k = r.each_cell j lt in record {
            slot = k.slot;
            claimed = k.claimed;
            last = k.last;
            lies = subst (λ (y : ℕ). Lies m r.head r.log y (r.cells j).place (r.cells j).filler) (sym (slot_after_tail w j)) k.lies;
          };
          filling = λ j lt. filler_on (length z.roles) r.log r.log seats (put seats n v) (r.cells j).place (r.cells j).filler refl
              (λ k. claimed_beside seats n v rested k (r.cells j).place (r.log (r.cells j).place)) (r.filling j lt);
          each_seat = λ k. put_each seats n k v (SeatOk z r.head r.tail r.log r.cells (r.history ++ Shut n ∷ [])) ok
              (λ ne. seat_stays z r.head r.tail r.head r.tail r.log r.log r.cells r.cells r.history (Shut n ∷ []) k (seats k)
              (omega arith) (omega arith) (own_other k r.history (Shut n) (λ e. ne (sym e))) (λ s. s) (r.each_seat k));
        },
        refl,
      )
