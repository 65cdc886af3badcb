-- The end of a ring that carries values: those left are what the history of values leads to.
use Rattle.std.proofs.Common.{◌≡◌, ℕ, zero, suc, ◌+◌, ◌-◌, ◌*◌, ◌%◌, ◌^◌, ◌<◌, ◌≤◌, true, false, Bool, nat_le, IsTrue, List}
use Rattle.std.proofs.Common.{[], ◌∷◌, map, length, take, mod-lt, Option, Some, sym, refl, ap, subst, ◌∙◌, append-nil, arith}
use Rattle.std.specs.List.{All}
use Rattle.std.proofs.lemmas.List.{get_or-take}
use mathlib.Core.Option.{some}
use lib.ListN.{get_elem?}
use Rattle.atomic_table.specs.Table.{Final, Seen}
use Rattle.atomic_table.proofs.Lists.{at_map}
use Rattle.history.specs.declared.operations.Entry.{Entry}
use Rattle.history.specs.declared.operations.Taken.{Taken}
use Rattle.history.specs.declared.rests.Rest.{Rest}
use Rattle.history.specs.Queue.{Queue, empty}
use Rattle.history.specs.Entries.{Leads}
use Rattle.history.specs.Rests.{left_of, taken_of, whole_of, was_shut_of}
use Rattle.history.specs.Ends.{AreAll}
use Rattle.node_arena.specs.Deeds.{Deed, Runs, Matches}
use Rattle.node_arena.specs.Slots.{Lying, Place, queued, item_of}
use Rattle.node_arena.specs.ValueHistories.{number_of}
use Rattle.node_arena.specs.Beside.{AllBegin}
use Rattle.node_arena.specs.ValuesLeft.{values_of, all_lie}
use Rattle.node_arena.proofs.Riding.{plays_on}
use Rattle.node_arena.proofs.Lying.{Lie, LieApart, values-number_of, all_lie-number_of}
use Rattle.ring_queue.specs.declared.queue.RingQueue.{RingQueue}
use Rattle.ring_queue.specs.declared.seats.Seat.{Seat}
use Rattle.ring_queue.specs.Words.{slot_word}
use Rattle.ring_queue.specs.Plans.{Layout, words_of, permits_of}
use Rattle.ring_queue.specs.Knowledge.{View, gathered}
use Rattle.ring_queue.specs.Steps.{Rests, taken_in}
use Rattle.ring_queue.specs.Beside.{Beside, plain_of, Carried, CarriedBy, HoldsBy}
use Rattle.ring_queue.specs.Seats.{known_of, view}
use Rattle.ring_queue.specs.Moments.{head_in, tail_in}
use Rattle.ring_queue.specs.Remains.{word_of, values_from, HasWords, was_shut_in}
use Rattle.ring_queue.specs.Ends.{ClosesValues, EachBegins}
use Rattle.ring_queue.proofs.PlacedKinds.{slotted}
use Rattle.ring_queue.proofs.RingEnds.{Ends, got_map, closes_all, has_words, head_is_low, few_left}

-- what is left at the end of a table whose words and slots were these, by a token that gathered seats: the numbers left are those of
-- slots in which the values lie to which the deeds lead, and what each seat had seen begins these
pub record ValuesEnd {T : Type 0} (z : Layout) (seats : List (Seat T)) (words : List ℕ) (slots : List (Option T)) (w : Beside T) : Type 0 where
  pub ends : Ends z seats (take (words_of z) words)
  pub deeds : List (Deed T)
  pub q : List (Lying T)
  pub shut : Bool
  pub leads : Leads ends.ring.history shut (map number_of q)
  pub runs : Runs [] false deeds (map item_of q) shut
  pub matches : Matches ends.ring.history deeds
  pub lie : Lie slots q
  pub apart : LieApart q
  pub others : AllBegin w.others deeds
  pub long : words_of z + z.slots ≤ length words

-- which pop will take what lies in a slot
pop_of : Place → ℕ
pop_of (queued p) = p
pop_of place = 0

values_end : {T : Type 0} (z : Layout) (seats : List (Seat T)) (id : ℕ) (w : Beside T) (words : List ℕ) (slots : List (Option T)) → z.carries ≡ true
    → w.plain ≡ gathered (map view seats) → Final {S = Option T} (Seen (HoldsBy z) id w) words slots → ValuesEnd z seats words slots w
unfolding pop_of
values_end {T} z seats id w words slots carries is f =
    let s = f.0 in
    let h = slotted z carries s f.1.0 in
    let c : Carried z h.base.ring.history s = subst (λ (b : Bool). CarriedBy b z h.base.ring.history s) carries h.values in
    let u : View = gathered (map view seats) in
    let at_id : get_elem? (map plain_of s.views) id ≡ some u = at_map plain_of s.views id w f.1.1 ∙ ap some is in
    let place = c.rides.slotted.place in
    subst (λ (ws : List ℕ). ValuesEnd z seats ws slots w) f.2 (record {
      ends = record {
        all = h.base.seats;
        ring = h.base.ring;
        fits = λ k x got. h.base.fits id k u (view x) at_id (got_map view seats k x got);
        apart = λ k l a b x y e. ap (λ (q : ℕ × ℕ). q.1) (sym (h.base.owned id k u (view a) at_id (got_map view seats k a x)).0 ∙
            (ap h.base.owner e ∙ (h.base.owned id l u (view b) at_id (got_map view seats l b y)).0));
      };
      deeds = c.rides.deeds;
      q = c.rides.q;
      shut = c.rides.shut;
      leads = c.rides.leads;
      runs = c.rides.runs;
      matches = c.rides.matches;
      lie = λ m l got. f.4 l.slot (Some l.value) (c.rides.slotted.lies m l got).2;
      apart = λ m n k l a b at_one.
          let p : c.rides.pops + m ≡ c.rides.pops + n = ap pop_of (sym (c.rides.slotted.lies m k a).1 ∙ ap place at_one ∙ (c.rides.slotted.lies n l b).1) in
          omega (arith, p);
      others = (c.known id w f.1.1).others;
      long = c.long;
    })

-- the same at the names of a call
pub values_end_as : {T : Type 0} (z key : Layout) (seats : List (Seat T)) (id : ℕ) (w : Beside T) (words : List ℕ) (slots : List (Option T)) → key ≡ z
    → z.carries ≡ true → w.plain ≡ gathered (map view seats) → Final {S = Option T} (Seen (HoldsBy key) id w) words slots
    → ValuesEnd z seats words slots w
values_end_as z key seats id w words slots same carries is f = subst (λ (y : Layout). ValuesEnd y seats words slots w) same
    (values_end key seats id w words slots (ap (λ (y : Layout). y.carries) same ∙ carries) is f)

-- a history leads to one list of values, shut or not
pub leads_one : (es : List Entry) (s t : Bool) (us vs : List Taken) → Leads es s us → Leads es t vs → (us ≡ vs) × (s ≡ t)
leads_one es s t us vs h k =
    let e = plays_on empty _ _ es [] h (subst (λ (xs : List Entry). Leads xs t vs) (sym (append-nil es)) k) in
    (ap (λ (y : Queue). y.values) e, ap (λ (y : Queue). y.shut) e)

-- the values from a place on are told by the words of the queue alone
first_values : (slots : ℕ) (words : List ℕ) → 0 < slots → (place k : ℕ) → values_from slots (take (32 + 2 * slots) words) place k ≡ values_from slots words place k
first_values slots words some_slot place zero = refl
first_values slots words some_slot place (suc k) =
    let lt = mod-lt place some_slot in
    let one : word_of slots (take (32 + 2 * slots) words) place ≡ word_of slots words place = get_or-take (32 + 2 * slots) words (slot_word (place % slots)) 0 (omega (arith, lt)) in
    (λ i. taken_in (one i) ∷ first_values slots words some_slot (place + 1) k i)

-- there are no more of them than places
few_values : (slots : ℕ) (words : List ℕ) (place k : ℕ) → length (values_from slots words place k) ≤ k
few_values slots words place zero = omega arith
few_values slots words place (suc k) = let few = few_values slots words (place + 1) k in omega (arith, few)

module _ {T : Type 0} (q : RingQueue T) (seats : List (Seat T)) (words : List ℕ) (slots : List (Option T)) (w : Beside T)
    (e : ValuesEnd q.plan seats words slots w) (at_rest : All (λ s. Rests (view s).stage) seats)
    (every : AreAll (permits_of q.plan) (map known_of seats)) where
  abbrev z : Layout
  z = q.plan

  abbrev first : List ℕ
  first = take (words_of z) words

  few : HasWords z.slots first
  few = has_words z first seats e.ends at_rest every

  pub words_there : HasWords z.slots words
  words_there = let some_slot = few.some in let long = e.long in record { some = some_slot; wide = omega (arith, long) }

  head_same : head_in first ≡ head_in words
  head_same = get_or-take (words_of z) words 16 0 (omega arith)

  tail_same : tail_in first ≡ tail_in words
  tail_same = ap (λ n. n % 2 ^ 62) (get_or-take (words_of z) words 0 0 (omega arith))

  shut_same : was_shut_in first ≡ was_shut_in words
  shut_same = ap (nat_le (2 ^ 62)) (get_or-take (words_of z) words 0 0 (omega arith))

  values_same : values_from z.slots first (head_in first) (tail_in first - head_in first) ≡ values_from z.slots words (head_in words) (tail_in words - head_in words)
  values_same = (λ i. values_from z.slots first (head_same i) (tail_same i - head_same i)) ∙ first_values z.slots words few.some (head_in words) (tail_in words - head_in words)

  pub low_there : z.slots ≤ head_in words
  low_there = let low = head_is_low z first seats e.ends at_rest every in omega (arith, low, head_same)

  pub room_there : tail_in words - head_in words ≤ z.slots
  room_there = let room = few_left z first seats e.ends at_rest every in omega (arith, room, head_same, tail_same)

  -- the ring is closed by these seats, where that is told of its end
  pub closes_values : (rest : Rest) → ((ds : List (Deed T)) → AllBegin w.others ds → EachBegins seats ds)
      → left_of rest ≡ values_from z.slots words (head_in words) (tail_in words - head_in words) → taken_of rest + z.slots ≡ head_in words
      → whole_of rest ≡ true → was_shut_of rest ≡ was_shut_in words
      → ClosesValues q seats rest slots
  closes_values rest begin left taken whole shut =
      let c = closes_all z first seats e.ends at_rest every rest (left ∙ sym values_same) (taken ∙ sym head_same) whole (shut ∙ sym shut_same) in
      let numbers = leads_one c.0.history e.shut (was_shut_of rest) (map number_of e.q) (left_of rest) (subst (λ (es : List Entry). Leads es e.shut (map number_of e.q)) (sym c.1) e.leads) c.0.leads in
      record {
        closes = c.0;
        deeds = e.deeds;
        matches = subst (λ (es : List Entry). Matches es e.deeds) (sym c.1) e.matches;
        runs = subst (λ (y : List Taken × Bool). Runs [] false e.deeds (values_of slots y.0) y.1) (λ i. (numbers.0 i, numbers.1 i))
            (subst (λ vs. Runs [] false e.deeds vs e.shut) (sym (values-number_of slots e.q e.lie e.apart)) e.runs);
        begins = begin e.deeds e.others;
        few = let count = ap length left in let few = few_values z.slots words (head_in words) (tail_in words - head_in words) in let room = room_there in omega (arith, count, few, room);
        lie = subst (λ (ts : List Taken). IsTrue (all_lie slots ts)) numbers.0 (all_lie-number_of slots e.q e.lie e.apart);
      }
