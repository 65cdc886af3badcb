-- The end of an arena: its words are those of a traced world, to which each seat handed in fits.
use Rattle.std.proofs.Common.{◌≡◌, ℕ, ◌+◌, ◌*◌, ◌<◌, ◌≤◌, ◌↔◌, IsTrue, zero, suc, List, [], ◌∷◌, length, map, take, slice_get, slice_index, Option}
use Rattle.std.proofs.Common.{Some, refl, sym, ap, subst, ◌∙◌, arith, true, false, Bool, nat_lt, nat_eq, inl, inr, eq-eqb, ne_eqb, if◌then◌else◌}
use Rattle.std.specs.List.{All, count_by, sum_by}
use Rattle.std.proofs.lemmas.List.{length-map}
use Rattle.std.proofs.lemmas.List.Elements.{All-nil, All-cons, All-head, All-tail, All-weaker}
use Rattle.std.proofs.lemmas.List.Sums.{sum_by-cons}
use Rattle.std.proofs.lemmas.Option.{none-some, same_Some}
use mathlib.Core.List.{IsPrefix}
use mathlib.Core.Option.{some}
use lib.ListN.{get_elem?}
use Rattle.atomic_table.specs.Table.{State, Me, Final, Seen}
use Rattle.atomic_table.specs.Seated.{TableId}
use Rattle.node_arena.specs.Beside.{Beside, words_of, HoldsFor}
use Rattle.node_arena.proofs.Lifts.{take_full, lift_final}
use Rattle.counted_ref.specs.Ref.{Ref, IsSplit, reserved_node}
use Rattle.counted_ref.proofs.Words.{span_least}
use Rattle.std.proofs.lemmas.Bool.{ltb-true, ltb-false, lt-ltb}
use Rattle.history.specs.declared.rests.Rest.{Rest}
use Rattle.history.specs.Queue.{empty}
use Rattle.history.specs.Entries.{is_push, is_pop, is_shut, own_entries, Plays, Leads}
use Rattle.history.specs.declared.operations.Entry.{Entry}
use Rattle.history.specs.Seats.{Permit, Known, IsPermitted}
use Rattle.history.specs.Rests.{left_of, taken_of, whole_of, was_shut_of}
use Rattle.history.specs.Ends.{pushes_of, pops_of, shuts_of, Closes}
use Rattle.history.proofs.Sums.{AreApart, closes, theirs, made-le, pushes-Leads, shut_by_one}
use Rattle.line_steps.specs.declared.actors.Setup.{Setup}
use Rattle.line_steps.specs.Memory.{Shared, Head, Next, Value_of, node_at}
use Rattle.step_machine.specs.Machine.{World, IsReached}
use Rattle.step_machine.specs.Words.{memory_words}
use Rattle.step_machine.specs.Tables.{SharedFits}
use Rattle.step_machine.specs.Range.{WorldInRange}
use Rattle.step_machine.specs.Places.{IsEnd, IsQueueChain}
use Rattle.step_machine.specs.Chains.{values_of, queue_values, is_shut_chain}
use Rattle.step_machine.specs.EachQueue.{HasItsPlaces}
use Rattle.step_machine.proofs.Reached.{reached_in_range, few_nodes}
use Rattle.step_machine.proofs.Fits.{shared_fits}
use Rattle.step_machine.proofs.Words.{reading}
use Rattle.step_machine.proofs.Chains.{no_end, chain_some}
use Rattle.step_machine.proofs.PlaceOf.{few}
use Rattle.step_machine.proofs.EitherQueue.{head_some, have_their_places}
use Rattle.node_arena.specs.Arenas.{Arena}
use Rattle.node_arena.specs.declared.seats.Seat.{Seat}
use Rattle.node_arena.specs.Traces.{Traced, IsTraced}
use Rattle.node_arena.specs.Knowledge.{View, gathered}
use Rattle.node_arena.specs.Places.{shared_words}
use Rattle.node_arena.specs.Plans.{Layout, RolesPermit, IsTable, slots_of}
use Rattle.node_arena.specs.Rule.{Fits, Holds}
use Rattle.node_arena.specs.Seats.{IsReady, HasNoSlot, view, known_of, permits_of}
use Rattle.node_arena.specs.Ends.{HasToken, CountsItsOwn}
use Rattle.line_steps.specs.Words.{value_of}
use Rattle.node_arena.specs.Remains.{ref_at, end_of, front_of, HasNode, HaveValues, AreLeft, IsQueue}
use Rattle.node_arena.proofs.There.{length-node_words}
use Rattle.node_arena.proofs.Tracing.{traced_reached}
use Rattle.node_arena.proofs.Histories.{history_plays, counts_pops}
use Rattle.node_arena.proofs.Reading.{read_back, value_parts}
use Rattle.node_arena.proofs.Lefts.{same_values}

-- the number at a chain's end is that by whether it is a closed end
ended : (bits : ℕ) → IsSplit bits → (n : ℕ) → IsEnd bits n → n ≡ end_of bits (nat_eq n (reserved_node bits))
ended bits split n (inl none) = none ∙ ap (end_of bits) (sym (ne_eqb n (reserved_node bits) (λ e. omega (arith, none, e, span_least bits split))))
ended bits split n (inr closed) = closed ∙ ap (end_of bits) (sym (eq-eqb n (reserved_node bits) closed))

-- the words of a memory whose contents fit
module _ (bits : ℕ) (split : IsSplit bits) (m : Shared) (fits : SharedFits bits m) (few : length m.nodes < reserved_node bits) where
  long : length (memory_words bits m) ≡ 6 + 2 * length m.nodes
  long = omega (arith, length-node_words bits m.nodes)

  head_is : ref_at bits (memory_words bits m) 2 ≡ m.head
  head_is = read_back bits split m.head (slice_index (memory_words bits m) 2) (fits Head) refl

  has_head : 2 < length (memory_words bits m)
  has_head = omega (arith, long)

  module _ (n : ℕ) (low : 1 ≤ n) (high : n ≤ length m.nodes) where
    next_is : ref_at bits (memory_words bits m) (4 + 2 * n) ≡ (node_at m n).next
    next_is = read_back bits split (node_at m n).next (slice_index (memory_words bits m) (4 + 2 * n)) (fits (Next n)) (reading bits m (Next n) (low, high))

    has_node : HasNode (memory_words bits m) n
    has_node = omega (arith, long, high)

    value_is : (node_at m n).value ≡ value_of (slice_index (memory_words bits m) (5 + 2 * n))
    value_is =
        let p = value_parts (node_at m n).value (slice_index (memory_words bits m) (5 + 2 * n)) (fits (Value_of n)) (reading bits m (Value_of n) (low, high)) in
        λ i. record { from = p.0 i; body = p.1 i }

  -- the nodes behind one of the queue's chain have their values, and the chain's end says whether it is shut
  chain_values : (front : ℕ) (ns : List ℕ) → IsQueueChain bits m.nodes (node_at m front).next.node ns
      → HaveValues bits (memory_words bits m) (is_shut_chain bits m (front ∷ ns)) (node_at m front).next.node (values_of m ns)
  chain_values front [] c = ended bits split (node_at m front).next.node c
  chain_values front (k ∷ ks) c =
      let more : HaveValues bits (memory_words bits m) (is_shut_chain bits m (k ∷ ks)) (ref_at bits (memory_words bits m) (4 + 2 * k)).node (values_of m ks) =
      subst (λ (r : Ref). HaveValues bits (memory_words bits m) (is_shut_chain bits m (k ∷ ks)) r.node (values_of m ks)) (sym (next_is k c.1 c.2)) (chain_values k ks c.3) in
      subst (λ j. HaveValues bits (memory_words bits m) (is_shut_chain bits m (k ∷ ks)) j (values_of m (k ∷ ks))) (sym c.0)
      (c.1, (let most = c.2 in omega (arith, most, few)), has_node k c.1 c.2, value_is k c.1 c.2, more)

-- the words of a world have the values of its queue, of which there are no more than nodes
record Left (w : World) : Type 0 where
  queue : List ℕ
  chain : IsQueueChain w.setup.bits w.shared.nodes w.shared.head.node queue
  head : 2 < length (memory_words w.setup.bits w.shared)
  dummy : HasNode (memory_words w.setup.bits w.shared) (ref_at w.setup.bits (memory_words w.setup.bits w.shared) 2).node
  values : AreLeft w.setup.bits (memory_words w.setup.bits w.shared) (is_shut_chain w.setup.bits w.shared queue) (queue_values w.shared queue)
  few : length (queue_values w.shared queue) ≤ w.setup.size
  long : length (memory_words w.setup.bits w.shared) ≡ 6 + 2 * w.setup.size

left_in : (w : World) → IsReached w → Left w
left_in w r =
    let m : Shared = w.shared in
    let range : WorldInRange w = reached_in_range w r in
    let split : IsSplit w.setup.bits = range.sized.split in
    let fits : SharedFits w.setup.bits m = shared_fits w range in
    let small : length m.nodes < reserved_node w.setup.bits = few_nodes w r in
    let all : length m.nodes ≡ w.setup.size = range.shared.all_nodes in
    let fresh : m.fresh ≤ w.setup.size = range.shared.fresh in
    let low : 1 ≤ m.head.node = head_some w r in
    let high : m.head.node ≤ length m.nodes = let h = range.shared.head.node in omega arith in
    let p : HasItsPlaces w = have_their_places w r in
    let used : length p.0 ≤ m.fresh = few w p.0 p.1 p.2 1 (omega arith) in
    let at = chain_some (IsEnd w.setup.bits) m.nodes m.head.node p.0 (no_end w.setup.bits m.head.node low (λ e. omega (arith, e, high, small))) p.2.queue_chain in
    let c : IsQueueChain w.setup.bits m.nodes m.head.node (m.head.node ∷ at.0) = subst (IsQueueChain w.setup.bits m.nodes m.head.node) at.1 p.2.queue_chain in
    let front : front_of w.setup.bits (memory_words w.setup.bits m) ≡ (node_at m m.head.node).next.node =
    ap (λ (x : Ref). (ref_at w.setup.bits (memory_words w.setup.bits m) (4 + 2 * x.node)).node) (head_is w.setup.bits split m fits small) ∙ ap
    (λ (x : Ref). x.node) (next_is w.setup.bits split m fits small m.head.node low high) in
    record {
      queue = m.head.node ∷ at.0;
      chain = c;
      head = has_head w.setup.bits split m fits small;
      dummy = subst (λ (x : Ref). HasNode (memory_words w.setup.bits m) x.node) (sym (head_is w.setup.bits split m fits small)) (has_node w.setup.bits split m fits small m.head.node low high);
      values = subst (λ n. HaveValues w.setup.bits (memory_words w.setup.bits m) (is_shut_chain w.setup.bits m (m.head.node ∷ at.0)) n
          (values_of m at.0)) (sym front) (chain_values w.setup.bits split m fits small m.head.node at.0 c.3);
      few = omega (arith, used, fresh, ap length at.1, length-map at.0 (λ n. (node_at m n).value));
      long = omega (arith, long w.setup.bits split m fits small, all);
    }

-- at the end there is a traced world with these words; each seat handed in fits to it, and no two of them have one number
pub record Ends {T : Type 0} (z : Layout) (seats : List (Seat T)) (words : List ℕ) : Type 0 where
  pub trace : Traced
  pub reached : IsTraced trace
  pub setup : trace.world.setup ≡ z.setup
  pub words_are : words ≡ memory_words z.setup.bits trace.world.shared
  pub permitted : All (RolesPermit z.roles) trace.history
  pub fits : (k : ℕ) (s : Seat T) → slice_get seats k ≡ Some s → Fits trace (view s)
  pub apart : (k l : ℕ) (s t : Seat T) → slice_get seats k ≡ Some s → slice_get seats l ≡ Some t → (view s).number ≡ (view t).number → k ≡ l

got_map : {A B : Type 0} (f : A → B) (xs : List A) (k : ℕ) (x : A) → slice_get xs k ≡ Some x → get_elem? (map f xs) k ≡ some (f x)
got_map f [] k x e = cc
got_map f (y ∷ ys) zero x e = let same : y ≡ x = cc in ap (λ z. some (f z)) same
got_map f (y ∷ ys) (suc k) x e = got_map f ys k x e

-- at a state by the rule of the queue alone, whose own traced world that is
pub ends_in : {T : Type 0} (z : Layout) (seats : List (Seat T)) (id : ℕ) (s : State ℕ View) (h : Holds z s) (words : List ℕ)
    → get_elem? s.views id ≡ some (gathered (map view seats)) → s.words ≡ words → (e : Ends z seats (shared_words words)) × (e.trace ≡ h.trace)
ends_in z seats id s h words at_id are =
    let u : View = gathered (map view seats) in (
      record {
        trace = h.trace;
        reached = h.reached;
        setup = h.setup;
        words_are = ap shared_words (sym are) ∙ h.words;
        permitted = h.permitted;
        fits = λ k s got. h.fits id k u (view s) at_id (got_map view seats k s got);
        apart = λ k l a b x y e. ap (λ (q : ℕ × ℕ). q.1) (sym (h.owned id k u (view a) at_id (got_map view seats k a x)).0 ∙
            (ap h.owner e ∙ (h.owned id l u (view b) at_id (got_map view seats l b y)).0));
      },
      refl,
    )

-- the same of a table whose words are the queue's alone, at the names of a call
pub ends : {T : Type 0} (z key : Layout) (seats : List (Seat T)) (id : ℕ) (me : Me (Option T) (Beside T)) (words : List ℕ) (slots : List (Option T))
    → key ≡ z → length words ≡ words_of key → me.0.plain ≡ gathered (map view seats) → Final {S = Option T} (Seen (HoldsFor key) id me.0) words slots
    → Ends z seats (shared_words words)
ends z key seats id me words slots same long is t =
    let f = lift_final key id me.0 words slots t in
    let e = ends_in key seats id f.0 f.1.0 (take (words_of key) words) (f.1.1 ∙ ap some is) f.2 in
    subst (λ (y : Layout). Ends y seats (shared_words words)) same (subst (λ (ws : List ℕ). Ends key seats (shared_words ws)) (take_full (words_of key) words long) e.0)

-- the words of a table that carries no values are the queue's alone
pub words_alone : (z key : Layout) (t : TableId) (n : ℕ) → IsTable z key t → z.carries ≡ false → n ≡ t.words → n ≡ words_of key
words_alone z key t n table none is = let no_slots : slots_of z ≡ 0 = ap (λ (b : Bool). if b then z.setup.size else 0) none in omega
    (arith, is, table.words, no_slots, ap (λ (y : Layout). y.setup.size) table.key)

-- it has no slots
pub slots_none : (z key : Layout) (t : TableId) → IsTable z key t → z.carries ≡ false → t.slots ≡ 0
slots_none z key t table none = table.slots ∙ ap (λ (b : Bool). if b then z.setup.size else 0) none

-- the words are those of a queue
pub queue_at_end : {T : Type 0} (z : Layout) (seats : List (Seat T)) (words : List ℕ) (most : ℕ) → z.setup.size ≤ most → Ends z seats words → IsQueue z.setup.bits words most
queue_at_end z seats words most room e =
    let l : Left e.trace.world = left_in e.trace.world (traced_reached e.trace e.reached) in
    let b : ℕ = e.trace.world.setup.bits in
    let words_are : words ≡ memory_words b e.trace.world.shared = e.words_are ∙ ap (λ (y : Setup). memory_words y.bits e.trace.world.shared) (sym e.setup) in
    subst (λ (y : Setup). IsQueue y.bits words most) e.setup
    (subst (λ ws. IsQueue b ws most) (sym words_are)
    (record {
      head = l.head;
      dummy = l.dummy;
      behind = record {
        shut = is_shut_chain b e.trace.world.shared l.queue;
        values = queue_values e.trace.world.shared l.queue;
        chain = l.values;
        room = omega (arith, l.few, ap (λ x. x.size) e.setup, room);
        few = omega (arith, l.few, l.long);
      };
    }))

-- each seat's own entries are those that it knows
own_each : {T : Type 0} (t : Traced) (seats : List (Seat T)) → ((k : ℕ) (s : Seat T) → slice_get seats k ≡ Some s → Fits t (view s))
    → All (λ k. own_entries k.number t.history ≡ k.mine) (map known_of seats)
own_each t [] f = All-nil (λ (k : Known). own_entries k.number t.history ≡ k.mine)
own_each t (s ∷ ss) f = All-cons (λ (k : Known). own_entries k.number t.history ≡ k.mine) (known_of s) (map known_of ss) (f 0 s refl).own (own_each t ss (λ k. f (suc k)))

-- and begin the history with what they have seen
begins_each : {T : Type 0} (t : Traced) (seats : List (Seat T)) → ((k : ℕ) (s : Seat T) → slice_get seats k ≡ Some s → Fits t (view s)) → All (λ k. IsPrefix k.seen t.history) (map known_of seats)
begins_each t [] f = All-nil (λ (k : Known). IsPrefix k.seen t.history)
begins_each t (s ∷ ss) f = All-cons (λ (k : Known). IsPrefix k.seen t.history) (known_of s) (map known_of ss) ((f 0 s refl).rest, sym (f 0 s refl).begins) (begins_each t ss (λ k. f (suc k)))

seat_at : {T : Type 0} (seats : List (Seat T)) (i : ℕ) (k : Known) → slice_get (map known_of seats) i ≡ Some k → (s : Seat T) × (slice_get seats i ≡ Some s) × (known_of s ≡ k)
seat_at [] i k e = absurd (none-some k e)
seat_at (s ∷ ss) zero k e = (s, refl, same_Some (known_of s) k e)
seat_at (s ∷ ss) (suc i) k e = seat_at ss i k e

numbers_apart : {T : Type 0} (z : Layout) (seats : List (Seat T)) (words : List ℕ) → Ends z seats words → AreApart (map known_of seats)
numbers_apart z seats words e i j k l a b same =
    let s = seat_at seats i k a in
    let t = seat_at seats j l b in
    e.apart i j s.0 t.0 s.1 t.1 (ap (λ x. x.number) s.2 ∙ same ∙ ap (λ x. x.number) (sym t.2))

-- what is told of the rest, by the words and by what the seats made
pub record Rests (bits : ℕ) (words : List ℕ) (pushes pops : ℕ) (shut : Bool) (rest : Rest) : Type 0 where
  pub left : AreLeft bits words (was_shut_of rest) (left_of rest)
  pub taken : taken_of rest ≡ (ref_at bits words 2).count
  pub whole : IsTrue (whole_of rest) ↔ ((pops ≡ taken_of rest) × (pushes ≡ taken_of rest + length (left_of rest)) × (IsTrue (was_shut_of rest) → IsTrue shut))

-- the history then leads to the values left, of which there are no more than nodes
pub leads_at_end : {T : Type 0} (z : Layout) (seats : List (Seat T)) (words : List ℕ) (rest : Rest) (e : Ends z seats words)
    → AreLeft z.setup.bits words (was_shut_of rest) (left_of rest) → Leads e.trace.history (was_shut_of rest) (left_of rest)
    × (length (left_of rest) ≤ z.setup.size)
leads_at_end z seats words rest e there =
    let t : Traced = e.trace in
    let b : ℕ = t.world.setup.bits in
    let words_are : words ≡ memory_words b t.world.shared = e.words_are ∙ ap (λ (y : Setup). memory_words y.bits t.world.shared) (sym e.setup) in
    let range = reached_in_range t.world (traced_reached t e.reached) in
    let l : Left t.world = left_in t.world (traced_reached t e.reached) in
    let told : AreLeft b (memory_words b t.world.shared) (was_shut_of rest) (left_of rest) =
    subst (λ ws. AreLeft b ws (was_shut_of rest) (left_of rest)) words_are (subst
    (λ (y : Setup). AreLeft y.bits words (was_shut_of rest) (left_of rest)) (sym e.setup) there) in
    let same = same_values b range.sized.split (memory_words b t.world.shared) (is_shut_chain b t.world.shared l.queue) (was_shut_of rest)
    (front_of b (memory_words b t.world.shared)) _ _ l.values told in (
      subst (Plays empty t.history) (λ i. record { values = same.0 i; shut = same.1 i }) (history_plays t e.reached l.queue l.chain),
      omega (arith, ap length same.0, l.few, ap (λ (y : Setup). y.size) e.setup),
    )

-- Head's count is then that of the pops
pub counted_at_end : {T : Type 0} (z : Layout) (seats : List (Seat T)) (words : List ℕ) (e : Ends z seats words) → (ref_at z.setup.bits words 2).count ≡ count_by is_pop e.trace.history
counted_at_end z seats words e =
    let t : Traced = e.trace in
    let b : ℕ = t.world.setup.bits in
    let range = reached_in_range t.world (traced_reached t e.reached) in
    let head : ref_at b (memory_words b t.world.shared) 2 ≡ t.world.shared.head =
    head_is b range.sized.split t.world.shared (shared_fits t.world range) (few_nodes t.world (traced_reached t e.reached)) in
    ap (λ (y : Setup). (ref_at y.bits words 2).count) (sym e.setup) ∙ ap (λ ws. (ref_at b ws 2).count)
    (e.words_are ∙ ap (λ (y : Setup). memory_words y.bits t.world.shared) (sym e.setup)) ∙ ap (λ (x : Ref). x.count) head ∙ counts_pops t
    e.reached

-- what is told of an arena that is closed by seats, whose own history that is
closes_in : (permits : List Permit) (ks : List Known) (rest : Rest) (es : List Entry) → Leads es (was_shut_of rest) (left_of rest)
    → All (IsPermitted permits) es → All (λ k. IsPrefix k.seen es) ks → All (λ k. own_entries k.number es ≡ k.mine) ks → AreApart ks
    → taken_of rest ≡ count_by is_pop es
    → (IsTrue (whole_of rest) ↔ ((pops_of ks ≡ taken_of rest) × (pushes_of ks ≡ taken_of rest + length (left_of rest))
    × (IsTrue (was_shut_of rest) → 1 ≤ shuts_of ks))) → (c : Closes permits ks rest) × (c.history ≡ es)
closes_in permits ks rest es leads permitted begins own apart counted whole = (
  record {
    history = es;
    leads = leads;
    permitted = permitted;
    begins = begins;
    own = own;
    counted = counted;
    whole = whole;
    theirs = λ t. let h = whole.0 t in theirs ks es apart own (h.0 ∙ counted) (let pushed =
        pushes-Leads es (was_shut_of rest) (left_of rest) leads in omega (arith, h.1, counted, pushed))
        (one_shut (was_shut_of rest) _ _ (shut_by_one es (was_shut_of rest) (left_of rest) leads) (made-le ks es apart own is_shut) h.2);
    all = (closes permits ks rest es leads permitted begins own apart counted whole).all;
  },
  refl,
)
  where
    one_shut : (shut : Bool) (made all : ℕ) → all ≡ (if shut then 1 else 0) → made ≤ all → (IsTrue shut → 1 ≤ made) → made ≡ all
    one_shut true made all e low one = omega (arith, e, low, one refl)
    one_shut false made all e low one = omega (arith, e, low)

-- an arena is closed by seats, where that is told of its end
pub closes_at_end : {T : Type 0} (r : Arena) (seats : List (Seat T)) (words : List ℕ) (pushes pops : ℕ) (shut : Bool) (rest : Rest)
    (e : Ends r.plan seats words) → pushes ≡ pushes_of (map known_of seats) → pops ≡ pops_of (map known_of seats)
    → shut ≡ nat_lt 0 (shuts_of (map known_of seats)) → Rests r.plan.setup.bits words pushes pops shut rest
    → (c : Closes (permits_of r) (map known_of seats) rest) × (c.history ≡ e.trace.history)
closes_at_end r seats words pushes pops shut rest e pushed popped shuts h =
    closes_in (permits_of r) (map known_of seats) rest e.trace.history (leads_at_end r.plan seats words rest e h.left).0 e.permitted
    (begins_each e.trace seats e.fits) (own_each e.trace seats e.fits) (numbers_apart r.plan seats words e)
    (h.taken ∙ counted_at_end r.plan seats words e) (
      λ w. let x = h.whole.0 w in (sym popped ∙ x.0, sym pushed ∙ x.1, λ was. ltb-true 0 (shuts_of (map known_of seats)) (sym shuts ∙ x.2 was)),
      λ x. h.whole.1 (popped ∙ x.0, pushed ∙ x.1, λ was. shuts ∙ lt-ltb 0 (shuts_of (map known_of seats)) (x.2 was)),
    )

-- each seat of an arena brings a token of its table, and its own counts
pub have_tokens : {T : Type 0} (r : Arena) (seats : List (Seat T)) → All (IsReady r) seats → All HasNoSlot seats → All (HasToken r.id) seats
have_tokens r seats ready apart = λ k d lt. let h = ready k d lt in record { table = h.seat.sits.table; seat = h.seat.sits.seat; none_out = apart k d lt }

pub count_own : {T : Type 0} (r : Arena) (seats : List (Seat T)) → All (IsReady r) seats → All CountsItsOwn seats
count_own r = All-weaker (IsReady r) CountsItsOwn (λ s h. record { pushes = h.seat.sits.pushes; pops = h.seat.sits.pops; shut = h.seat.sits.shut })

-- the sums of their counts are those of what they know
pub sum_by-pushes : {T : Type 0} (seats : List (Seat T)) → All CountsItsOwn seats → sum_by (λ (s : Seat T). s.pushes) seats ≡ pushes_of (map known_of seats)
sum_by-pushes [] h = refl
sum_by-pushes (s ∷ ss) h =
    omega (
      arith,
      sum_by-cons (λ (x : Seat _). x.pushes) s ss,
      sum_by-cons (λ (k : Known). count_by is_push k.mine) (known_of s) (map known_of ss),
      (All-head CountsItsOwn s ss h).pushes,
      sum_by-pushes ss (All-tail CountsItsOwn s ss h),
    )

pub sum_by-pops : {T : Type 0} (seats : List (Seat T)) → All CountsItsOwn seats → sum_by (λ (s : Seat T). s.pops) seats ≡ pops_of (map known_of seats)
sum_by-pops [] h = refl
sum_by-pops (s ∷ ss) h =
    omega (
      arith,
      sum_by-cons (λ (x : Seat _). x.pops) s ss,
      sum_by-cons (λ (k : Known). count_by is_pop k.mine) (known_of s) (map known_of ss),
      (All-head CountsItsOwn s ss h).pops,
      sum_by-pops ss (All-tail CountsItsOwn s ss h),
    )

-- their shuts are those of what they know
pub sum_by-shuts : {T : Type 0} (seats : List (Seat T)) → sum_by (λ (s : Seat T). count_by is_shut (view s).mine) seats ≡ shuts_of (map known_of seats)
sum_by-shuts [] = refl
sum_by-shuts (s ∷ ss) =
    omega (arith, sum_by-cons (λ (x : Seat _). count_by is_shut (view x).mine) s ss, sum_by-cons (λ (k : Known). count_by is_shut k.mine) (known_of s) (map known_of ss), sum_by-shuts ss)

-- a seat more leaves it so that one made a shut where there was one, or the seat made one
pub shut_more : (before now : Bool) (n k m : ℕ) → before ≡ nat_lt 0 n → now ≡ nat_lt 0 k → m ≡ n + k → (if now then true else before) ≡ nat_lt 0 m
shut_more before true n k m was is sum = sym (lt-ltb 0 m (let some = ltb-true 0 k (sym is) in omega (arith, some, sum)))
shut_more before false n k m was is sum = was ∙ ap (nat_lt 0) (let none = ltb-false 0 k (sym is) in omega (arith, none, sum))

-- the same at the bits of a type
pub queue_as : (a b : ℕ) (words : List ℕ) (most : ℕ) → a ≡ b → IsQueue a words most → IsQueue b words most
queue_as a b words most same = subst (λ c. IsQueue c words most) same

pub rests_as : (a b : ℕ) (words : List ℕ) (pushes pops : ℕ) (shut : Bool) (rest : Rest) → a ≡ b → Rests b words pushes pops shut rest → Rests a words pushes pops shut rest
rests_as a b words pushes pops shut rest same = subst (λ c. Rests c words pushes pops shut rest) (sym same)
