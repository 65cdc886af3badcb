-- The end of an arena that carries values: those left are what the history of values leads to.
use Rattle.std.proofs.Common.{◌≡◌, ℕ, ◌+◌, ◌≤◌, true, false, Bool, if◌then◌else◌, IsTrue, nat_lt, List, [], map, length, take, Option, Some, sym, ap, subst, ◌∙◌, append-nil, arith}
use Rattle.std.proofs.lemmas.List.{length-map}
use mathlib.Core.Option.{some}
use Rattle.atomic_table.specs.Table.{Final, Seen}
use Rattle.atomic_table.specs.Seated.{TableId}
use Rattle.atomic_table.proofs.Lists.{at_map}
use Rattle.counted_ref.specs.Ref.{IsSplit}
use Rattle.history.specs.declared.operations.Entry.{Entry}
use Rattle.history.specs.declared.operations.Taken.{Taken}
use Rattle.history.specs.declared.rests.Rest.{Rest}
use Rattle.history.specs.Queue.{Queue, empty}
use Rattle.history.specs.Entries.{Leads}
use Rattle.history.specs.Rests.{left_of, was_shut_of}
use Rattle.history.specs.Ends.{pushes_of, pops_of, shuts_of}
use Rattle.line_steps.specs.declared.actors.Setup.{Setup}
use Rattle.step_machine.proofs.Reached.{reached_in_range}
use Rattle.node_arena.specs.declared.leftovers.LeftValues.{LeftValues}
use Rattle.node_arena.specs.declared.seats.Seat.{Seat}
use Rattle.node_arena.specs.Arenas.{Arena}
use Rattle.node_arena.specs.Traces.{Traced}
use Rattle.node_arena.specs.Knowledge.{gathered}
use Rattle.node_arena.specs.Places.{shared_words}
use Rattle.node_arena.specs.Plans.{Layout, IsTable, slots_of}
use Rattle.node_arena.specs.Deeds.{Deed, Runs, Matches}
use Rattle.node_arena.specs.Slots.{Lying, Place, queued, item_of}
use Rattle.node_arena.specs.ValueHistories.{number_of}
use Rattle.node_arena.specs.Beside.{Beside, words_of, plain_of, plain_state, HoldsFor, Carried, CarriedBy, AllBegin}
use Rattle.node_arena.specs.ValuesLeft.{values_of, all_lie}
use Rattle.node_arena.specs.Ends.{EachBegins}
use Rattle.node_arena.specs.Leftovers.{rest_in, slots_in, ClosesValues}
use Rattle.node_arena.specs.Remains.{IsQueue}
use Rattle.node_arena.specs.Seats.{view, known_of}
use Rattle.node_arena.proofs.Tracing.{traced_reached}
use Rattle.node_arena.proofs.Riding.{plays_on}
use Rattle.node_arena.proofs.Lying.{Lie, LieApart, values-number_of, all_lie-number_of}
use Rattle.node_arena.proofs.ArenaEnds.{Ends, Rests, ends_in, queue_at_end, leads_at_end, closes_at_end}
use Rattle.node_arena.proofs.Longer.{shared_first, queue_up, rests_down}

-- what is left at the end of a table whose words and slots were these, by a token that gathered seats: the numbers left are
-- those of slots in which the values lie to which the deeds lead, and what each seat had seen begins these
pub record ValuesEnd {T : Type 0} (z : Layout) (seats : List (Seat T)) (words : List ℕ) (slots : List (Option T)) (w : Beside T) : Type 0 where
  pub ends : Ends z seats (shared_words (take (words_of z) words))
  pub deeds : List (Deed T)
  pub q : List (Lying T)
  pub shut : Bool
  pub leads : Leads ends.trace.history shut (map number_of q)
  pub runs : Runs [] false deeds (map item_of q) shut
  pub matches : Matches ends.trace.history deeds
  pub lie : Lie slots q
  pub apart : LieApart q
  pub others : AllBegin w.others deeds

-- which pop will take what lies in a slot
pop_of : Place → ℕ
pop_of (queued p) = p
pop_of place = 0

values_end : {T : Type 0} (z : Layout) (seats : List (Seat T)) (id : ℕ) (w : Beside T) (words : List ℕ) (slots : List (Option T)) → z.carries ≡ true
    → w.plain ≡ gathered (map view seats) → Final {S = Option T} (Seen (HoldsFor z) id w) words slots → ValuesEnd z seats words slots w
unfolding pop_of
values_end {T} z seats id w words slots carries is f =
    let s = f.0 in
    let h = f.1.0 in
    let c : Carried z h.base.trace.history s = subst (λ (b : Bool). CarriedBy b z h.base.trace.history s) carries h.values in
    let e = ends_in z seats id (plain_state (words_of z) s) h.base (take (words_of z) words) (at_map plain_of s.views id w f.1.1 ∙ ap some is) (ap (take (words_of z)) f.2) in
    let same : h.base.trace.history ≡ e.0.trace.history = ap (λ (t : Traced). t.history) (sym e.1) in
    let place = c.rides.slotted.place in
    record {
      ends = e.0;
      deeds = c.rides.deeds;
      q = c.rides.q;
      shut = c.rides.shut;
      leads = subst (λ es. Leads es c.rides.shut (map number_of c.rides.q)) same c.rides.leads;
      runs = c.rides.runs;
      matches = subst (λ es. Matches es c.rides.deeds) same c.rides.matches;
      lie = λ m l got. f.4 l.slot (Some l.value) (c.rides.slotted.lies m l got).2;
      apart = λ m n k l a b at_one.
          let p : c.rides.pops + m ≡ c.rides.pops + n = ap pop_of (sym (c.rides.slotted.lies m k a).1 ∙ ap place at_one ∙ (c.rides.slotted.lies n l b).1) in
          omega (arith, p);
      others = (c.known id w f.1.1).others;
    }

-- the same at the names of a call
pub values_end_as : {T : Type 0} (z key : Layout) (seats : List (Seat T)) (id : ℕ) (w : Beside T) (words : List ℕ) (slots : List (Option T)) → key ≡ z
    → z.carries ≡ true → w.plain ≡ gathered (map view seats) → Final {S = Option T} (Seen (HoldsFor key) id w) words slots
    → ValuesEnd z seats words slots w
values_end_as z key seats id w words slots same carries is f = subst (λ (y : Layout). ValuesEnd y seats words slots w) same
    (values_end key seats id w words slots (ap (λ (y : Layout). y.carries) same ∙ carries) is f)

-- a history leads to one list of values, shut or not
leads_one : (es : List Entry) (s t : Bool) (us vs : List Taken) → Leads es s us → Leads es t vs → (us ≡ vs) × (s ≡ t)
leads_one es s t us vs h k =
    let e = plays_on empty _ _ es [] h (subst (λ (xs : List Entry). Leads xs t vs) (sym (append-nil es)) k) in
    (ap (λ (y : Queue). y.values) e, ap (λ (y : Queue). y.shut) e)

module _ {T : Type 0} (z : Layout) (seats : List (Seat T)) (words : List ℕ) (slots : List (Option T)) (w : Beside T) (e : ValuesEnd z seats words slots w) where
  split_then : IsSplit z.setup.bits
  split_then = subst (λ (y : Setup). IsSplit y.bits) e.ends.setup (reached_in_range e.ends.trace.world (traced_reached e.ends.trace e.ends.reached)).sized.split

  -- the words are those of a queue, with the flags behind them
  pub queue_with_flags : (most : ℕ) → z.setup.size ≤ most → IsQueue z.setup.bits (shared_words words) most
  queue_with_flags most room = queue_up z.setup.bits _ _ (shared_first (words_of z) words) most (queue_at_end z seats _ most room e.ends)

  -- what is told by all words is so by those of the queue
  rests_then : (pushes pops : ℕ) (shut : Bool) (rest : Rest) → Rests z.setup.bits (shared_words words) pushes pops shut rest
      → Rests z.setup.bits (shared_words (take (words_of z) words)) pushes pops shut rest
  rests_then pushes pops shut rest h = rests_down z.setup.bits _ _ (shared_first (words_of z) words) z.setup.size
      (queue_at_end z seats _ z.setup.size (omega arith) e.ends) split_then pushes pops shut rest h

  -- the numbers left are those of the slots in which the values lie
  numbers_then : (pushes pops : ℕ) (shut : Bool) (rest : Rest) → Rests z.setup.bits (shared_words words) pushes pops shut rest → (map number_of e.q ≡ left_of rest) × (e.shut ≡ was_shut_of rest)
  numbers_then pushes pops shut rest h = leads_one e.ends.trace.history e.shut (was_shut_of rest) (map number_of e.q) (left_of rest) e.leads
      (leads_at_end z seats _ rest e.ends (rests_then pushes pops shut rest h).left).0

  pub all_lie_then : (pushes pops : ℕ) (shut : Bool) (rest : Rest) → Rests z.setup.bits (shared_words words) pushes pops shut rest → IsTrue (all_lie slots (left_of rest))
  all_lie_then pushes pops shut rest h = subst (λ (ts : List Taken). IsTrue (all_lie slots ts)) (numbers_then pushes pops shut rest h).0 (all_lie-number_of slots e.q e.lie e.apart)

  -- so the history of values leads to those left
  runs_then : (pushes pops : ℕ) (shut : Bool) (rest : Rest) → Rests z.setup.bits (shared_words words) pushes pops shut rest → Runs [] false e.deeds (values_of slots (left_of rest)) (was_shut_of rest)
  runs_then pushes pops shut rest h =
      let same = numbers_then pushes pops shut rest h in
      subst (λ (y : List Taken × Bool). Runs [] false e.deeds (values_of slots y.0) y.1) (λ i. (same.0 i, same.1 i))
      (subst (λ vs. Runs [] false e.deeds vs e.shut) (sym (values-number_of slots e.q e.lie e.apart)) e.runs)

  -- there are no more of them than nodes
  few_then : (pushes pops : ℕ) (shut : Bool) (rest : Rest) → Rests z.setup.bits (shared_words words) pushes pops shut rest → length (values_of slots (left_of rest)) ≤ z.setup.size
  few_then pushes pops shut rest h =
      let numbers = (numbers_then pushes pops shut rest h).0 in
      let few = (leads_at_end z seats _ rest e.ends (rests_then pushes pops shut rest h).left).1 in
      let values : values_of slots (left_of rest) ≡ map item_of e.q = ap (values_of slots) (sym numbers) ∙ values-number_of slots e.q e.lie e.apart in
      omega (arith, ap length values, length-map e.q item_of, length-map e.q number_of, ap length numbers, few)

-- an arena that carries values is closed by seats, where that is told of its end
pub closes_values : {T : Type 0} (r : Arena) (seats : List (Seat T)) (words : List ℕ) (slots : List (Option T)) (w : Beside T)
    (e : ValuesEnd r.plan seats words slots w) (pushes pops : ℕ) (shut : Bool) (rest : Rest) (left : LeftValues T)
    → ((ds : List (Deed T)) → AllBegin w.others ds → EachBegins seats ds) → pushes ≡ pushes_of (map known_of seats)
    → pops ≡ pops_of (map known_of seats) → shut ≡ nat_lt 0 (shuts_of (map known_of seats))
    → Rests r.plan.setup.bits (shared_words words) pushes pops shut rest → rest_in left ≡ rest → slots_in left ≡ slots → ClosesValues r seats left
closes_values {T} r seats words slots w e pushes pops shut rest left begin pushed popped shuts h is lies =
    let told : Rests r.plan.setup.bits (shared_words words) pushes pops shut (rest_in left) = subst (Rests r.plan.setup.bits (shared_words words) pushes pops shut) (sym is) h in
    let c = closes_at_end r seats _ pushes pops shut (rest_in left) e.ends pushed popped shuts (rests_then r.plan seats words slots w e pushes pops shut (rest_in left) told) in
    record {
      closes = c.0;
      deeds = e.deeds;
      matches = subst (λ (es : List Entry). Matches es e.deeds) (sym c.1) e.matches;
      runs = subst (λ (xs : List (Option T)). Runs [] false e.deeds (values_of xs (left_of (rest_in left))) (was_shut_of (rest_in left))) (sym lies)
          (runs_then r.plan seats words slots w e pushes pops shut (rest_in left) told);
      begins = begin e.deeds e.others;
      few = subst (λ (xs : List (Option T)). length (values_of xs (left_of (rest_in left))) ≤ r.plan.setup.size) (sym lies)
          (few_then r.plan seats words slots w e pushes pops shut (rest_in left) told);
    }

-- a table with a slot a node has no more slots than that
pub slots_within : (z key : Layout) (t : TableId) (most : ℕ) → IsTable z key t → z.carries ≡ true → z.setup.size ≤ most → t.slots ≤ most
slots_within z key t most table carries room = let all : slots_of z ≡ z.setup.size = ap (λ (b : Bool). if b then z.setup.size else 0) carries in omega (arith, table.slots, all, room)
