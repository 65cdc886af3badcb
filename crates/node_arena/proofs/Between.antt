-- Between D4 and D5: what an actor found behind Head's node stays so, or Head was moved. A closed end in any node says that
-- the history left the queue shut.
use Rattle.std.proofs.Common.{◌≡◌, ◌≢◌, ◌⊎◌, inl, inr, ⊎_elim, ℕ, ◌+◌, ◌<◌, Bool, true, false, if◌then◌else◌, Option, Some, None, IfSome, List, []}
use Rattle.std.proofs.Common.{◌∷◌, ◌++◌, length, take, set, slice_index_or, replicate, zero, suc, nat_eq, ◌-◌, ◌≤◌, refl, sym, ap, subst, ◌∙◌, arith}
use Rattle.std.proofs.Common.{append-nil}
use Rattle.std.specs.List.{count_by}
use Rattle.std.proofs.lemmas.Option.{none-some, same_Some}
use Rattle.std.proofs.lemmas.List.{length-append, take-append-le}
use Rattle.std.proofs.Math.Seq.{take-append_seam}
use Rattle.std.proofs.lemmas.List.Sums.{sum_by-append}
use Rattle.counted_ref.specs.Ref.{Ref, ref, reserved_node, null, same_ref, shut_ref}
use Rattle.counted_ref.proofs.Words.{span_least}
use Rattle.line_table.specs.declared.lines.Kind.{Kind}
use Rattle.line_table.specs.declared.lines.Kind.TheVariants.{TwoLock, NonBlocking}
use Rattle.line_table.specs.declared.lines.Line.{Line}
use Rattle.line_table.specs.declared.lines.Line.TheVariants.{N1, N4, N5, F1, F2, F3, E2, E3, E5, E9, E13, E17, D2, D4, D10, D13, A1, A2, A3, A5, B1, S1, S4, S5, S6, S8}
use Rattle.history.specs.declared.operations.Entry.{Entry}
use Rattle.history.specs.declared.operations.Op.{Op}
use Rattle.history.specs.declared.operations.Op.TheVariants.{Enq, Deq, Shut}
use Rattle.history.specs.declared.operations.Reply.{Reply}
use Rattle.history.specs.declared.operations.Entry.TheVariants.{Shut as ShutEntry}
use Rattle.history.specs.Entries.{is_pop, is_shut as is_shut_entry, Leads, LeadsToShut}
use Rattle.line_steps.specs.Actors.{Actor}
use Rattle.line_steps.specs.declared.actors.Held.{Held}
use Rattle.line_steps.specs.Outcomes.{Outcome}
use Rattle.line_steps.specs.Actors.{Node}
use Rattle.history.specs.declared.operations.Taken.{Taken}
use Rattle.line_steps.specs.Memory.{Shared, Next, Value_of, blank, node_at, put}
use Rattle.line_steps.specs.Lines.{with_node, dequeues, gives_up, busy_or, to_pocket, raised, raised_end}
use Rattle.line_steps.specs.Calls.{is_call, begun, from_pocket}
use Rattle.step_machine.specs.declared.actors.Move.TheVariants.{Begin, Step, Give}
use Rattle.step_machine.specs.Machine.{World, actor_of, rested, entry_or, with_actor, after_outcome, begins, steps, given, gives, may_rest, rests}
use Rattle.step_machine.specs.Machine.{moved, rest_of, AnyMove, made, Rest, next_any, IsSized}
use Rattle.step_machine.proofs.StaleReferences.{IsCurrentOrStale}
use Rattle.step_machine.specs.Range.{WorldInRange, RegistersInRange}
use Rattle.step_machine.proofs.Reached.{some_of, below_closed, reached_in_range, actor_in_range}
use Rattle.step_machine.proofs.EitherQueue.{have_their_places}
use Rattle.step_machine.proofs.StampsInvariants.{actor_cases}
use Rattle.step_machine.proofs.TwoLockInvariant as two_lock_sound
use Rattle.step_machine.proofs.NonBlockingLaws as non_blocking
use Rattle.node_arena.specs.Traces.{Event, Traced, IsTraced, LeftNothing, StaysFound, KeepsWhatD4Found, actor_at, event_at, entries_at, step_at}
use Rattle.node_arena.specs.Traces.{traced_move, traced_next, traced_on, trace, first_trace}
use Rattle.node_arena.proofs.Tracing.{traced_reached, traced_moves, traced_step_is, changed_here, changed_else}
use Rattle.node_arena.proofs.Histories.{history_plays, counts_pops}
use Rattle.node_arena.proofs.Known.{known}
use Rattle.node_arena.proofs.Told.{raised_names}
use Rattle.node_arena.proofs.Noted.{leaves_nothing, leaves_shut}
use Rattle.node_arena.proofs.Shuts.{shut_by_count, stays_shut}

-- the last of some events
last_of : Event → List Event → Event
last_of d [] = d
last_of d (e ∷ es) = last_of e es

last_of-snoc : (d : Event) (es : List Event) (e : Event) → last_of d (es ++ e ∷ []) ≡ e
unfolding last_of
last_of-snoc d [] e = refl
last_of-snoc d (x ∷ es) e = last_of-snoc x es e

pub same_last : (es fs : List Event) (e f : Event) → es ++ e ∷ [] ≡ fs ++ f ∷ [] → e ≡ f
same_last es fs e f h = sym (last_of-snoc e es e) ∙ ap (last_of e) h ∙ last_of-snoc e fs f

-- an actor has the same registers `head` and `next`
abbrev LooksSame : Actor → Actor → Type 0
LooksSame a b = (b.head ≡ a.head) × (b.next ≡ a.next)

begun_same : (kind : Kind) (me : ℕ) (op : Op) (a : Actor) → LooksSame a (begun kind me op a)
begun_same kind me (Enq body) a = go a.pocket
  where
    go : (p : Option Held) → LooksSame a (from_pocket (with_node kind) p (record a { line = Some N1; op = Enq body; val = record { from = me; body = body }; due = None; entry = None }))
    go None = (refl, refl)
    go (Some held) = (refl, refl)
begun_same kind me Deq a = go a.pocket
  where
    go : (p : Option Held) → LooksSame a (from_pocket F1 p (record a { line = Some (dequeues kind); op = Deq; due = None; entry = None }))
    go None = (refl, refl)
    go (Some held) = (refl, refl)
begun_same kind me Shut a = (refl, refl)

given_same : (now : ℕ) (a : Actor) (l : Line) → IfSome (gives_up now a l) (λ o. LooksSame a o.actor)
given_same now a N1 = (refl, refl)
given_same now a F1 = go a.due
  where
    go : (due : Option Reply) → IfSome (busy_or now due (to_pocket a)) (λ o. LooksSame a o.actor)
    go None = (refl, refl)
    go (Some reply) = (refl, refl)
given_same now a E5 = (refl, refl)
given_same now a D2 = (refl, refl)
given_same now a A3 = (refl, refl)
given_same now a B1 = (refl, refl)
given_same now a S1 = (refl, refl)
given_same now a S6 = (refl, refl)
given_same now a _ = tt

-- an actor's path stays with its registers, or is one line longer, of which this holds
abbrev Stays : (t u : Traced) → (you : ℕ) → Actor → Type 0
Stays t u you b = (a : Actor) × (actor_of t.world you ≡ Some a) × LooksSame a b × (u.paths you ≡ t.paths you)

abbrev Looks : (t u : Traced) → (you : ℕ) → Actor → Type 0
Looks t u you b = (last : Event) × (u.paths you ≡ t.paths you ++ last ∷ []) × (last.line ≡ D4 → StaysFound u b last.entries)

-- a closed end follows a node
abbrev IsClosedAt : (bits : ℕ) → Shared → ℕ → Type 0
IsClosedAt bits m n = (node_at m n).next.node ≡ reserved_node bits

-- a closed end in any node says that the history left the queue shut
abbrev pub ShutsByEnds : Traced → Type 0
ShutsByEnds t = (n : ℕ) → IsClosedAt t.world.setup.bits t.world.shared n → LeadsToShut t.history

-- at the start no node has one
first_open : (size j : ℕ) → (slice_index_or (replicate size blank) j blank).next.node ≡ 0
first_open zero j = refl
first_open (suc size) zero = refl
first_open (suc size) (suc j) = first_open size j

-- what a move does to the history, to each actor, and to the ends of chains: a new closed end is that of a shut
record Turns (t u : Traced) : Type 0 where
  more : List Entry
  history : u.history ≡ t.history ++ more
  each : (you : ℕ) (b : Actor) → actor_of u.world you ≡ Some b → Stays t u you b ⊎ Looks t u you b
  setup : u.world.setup ≡ t.world.setup
  ends : (n : ℕ) → IsClosedAt t.world.setup.bits u.world.shared n → IsClosedAt t.world.setup.bits t.world.shared n ⊎ (1 ≤ count_by is_shut_entry more)

-- what an actor found before stays so: Head's count only rises, and the first entries stay
left_since : (t u : Traced) (a b : Actor) (k : ℕ) → IsTraced t → IsTraced u → (m : Turns t u) → LooksSame a b → StaysFound t a k → StaysFound u b k
left_since t u a b k r q m same h =
    record {
      some = omega (arith, h.some, ap length m.history, length-append t.history m.more);
      empty = λ e. since false (h.empty (next ∙ e));
      closed = λ e. since true (h.closed (next ∙ e ∙ end));
      shut = λ e. subst LeadsToShut (sym first) (h.shut (next ∙ e ∙ end));
    }
  where
    end : reserved_node u.world.setup.bits ≡ reserved_node t.world.setup.bits
    end = ap (λ z. reserved_node z.bits) m.setup

    next : a.next.node ≡ b.next.node
    next = ap (λ (x : Ref). x.node) (sym same.1)

    first : take k u.history ≡ take k t.history
    first = ap (take k) m.history ∙ take-append-le k t.history m.more h.some

    since : (shut : Bool) → LeftNothing t a shut k → LeftNothing u b shut k
    since shut = ⊎_elim
        (λ (less : a.head.count < t.world.shared.head.count). inl (omega (
          arith,
          less,
          ap (λ (x : Ref). x.count) same.0,
          counts_pops t r,
          counts_pops u q,
          ap (count_by is_pop) m.history,
          sum_by-append (λ e. if is_pop e then 1 else 0) t.history m.more,
        )))
        (λ (leads : Leads (take k t.history) shut []). inr (subst (λ es. Leads es shut []) (sym first) leads))

keeps : (t u : Traced) → IsTraced t → IsTraced u → Turns t u → KeepsWhatD4Found t → KeepsWhatD4Found u
keeps t u r q m h me b before last is path line = ⊎_elim stays looks (m.each me b is)
  where
    stays : Stays t u me b → StaysFound u b last.entries
    stays s = left_since t u s.0 b last.entries r q m s.2 (h me s.0 before last s.1 (sym s.3 ∙ path) line)

    looks : Looks t u me b → StaysFound u b last.entries
    looks s =
        let same : s.0 ≡ last = same_last (t.paths me) before s.0 last (sym s.1 ∙ path) in
        subst (λ (e : Event). StaysFound u b e.entries) same (s.2 (ap (λ (e : Event). e.line) same ∙ line))

-- a move that is no step: one actor has another state, with the same registers
stutters : (t : Traced) (w : World) (me : ℕ) (a b : Actor) → actor_of t.world me ≡ Some a
    → ((you : ℕ) → actor_of w you ≡ actor_of (with_actor t.world me b) you) → w.shared ≡ t.world.shared → w.setup ≡ t.world.setup → LooksSame a b
    → Turns t (record t { world = w })
stutters t w me a b is same words setup looks =
    record {
      ends = λ n e. inl (ap (λ (m : Shared). (node_at m n).next.node) (sym words) ∙ e);
      more = [];
      setup = setup;
      history = sym (append-nil t.history);
      each = λ you c got. ⊎_elim
          (λ (q : (you ≡ me) × (b ≡ c)). inl (a, ap (actor_of t.world) q.0 ∙ is, (ap (λ (x : Actor). x.head) (sym q.1) ∙ looks.0, ap (λ (x : Actor). x.next) (sym q.1) ∙ looks.1), refl))
          (λ (q : (you ≢ me) × (actor_of t.world you ≡ Some c)). inl (c, q.1, (refl, refl), refl))
          (actor_cases t.world me a b is you c (sym (same you) ∙ got));
    }

all_first : (es : List Entry) → take (length es) es ≡ es
all_first es = ap (take (length es)) (sym (append-nil es)) ∙ take-append_seam es []

-- a list with one element written has that one there, and else what it had
set_or : (nodes : List Node) (i j : ℕ) (x : Node) → ((j ≡ i) × (slice_index_or (set nodes i x) j blank ≡ x)) ⊎ (slice_index_or (set nodes i x) j blank ≡ slice_index_or nodes j blank)
set_or [] i j x = inr refl
set_or (y ∷ ys) zero zero x = inl (refl, refl)
set_or (y ∷ ys) zero (suc j) x = inr refl
set_or (y ∷ ys) (suc i) zero x = inr refl
set_or (y ∷ ys) (suc i) (suc j) x = ⊎_elim (λ (q : (j ≡ i) × (slice_index_or (set ys i x) j blank ≡ x)). inl (ap suc q.0, q.1))
    (λ (e : slice_index_or (set ys i x) j blank ≡ slice_index_or ys j blank). inr e) (set_or ys i j x)

-- a word that isn't a `next` written leaves the closed ends
either_kept : (bits : ℕ) (b : Bool) (m m' : Shared) (n : ℕ) → m'.nodes ≡ m.nodes → IsClosedAt bits (if b then m' else m) n → IsClosedAt bits m n
either_kept bits true m m' n same e = ap (λ ns. (slice_index_or ns (n - 1) blank).next.node) (sym same) ∙ e
either_kept bits false m m' n same e = e

-- a value written leaves them
put_value : (bits : ℕ) (m : Shared) (k n : ℕ) (v : Taken) → IsClosedAt bits (put (Value_of k) v m) n → IsClosedAt bits m n
put_value bits m k n v e = ⊎_elim
    (λ (q : (n - 1 ≡ k - 1) × (slice_index_or (set m.nodes (k - 1) (record (node_at m k) { value = v })) (n - 1) blank ≡ record (node_at m k) { value = v })).
    ap (λ j. (slice_index_or m.nodes j blank).next.node) q.0 ∙ ap (λ (x : Node). x.next.node) (sym q.1) ∙ e)
    (λ (q : slice_index_or (set m.nodes (k - 1) (record (node_at m k) { value = v })) (n - 1) blank ≡ slice_index_or m.nodes (n - 1) blank). ap (λ (x : Node). x.next.node) (sym q) ∙ e)
    (set_or m.nodes (k - 1) (n - 1) (record (node_at m k) { value = v }))

-- so does a `next` written that is no closed end
put_next : (bits : ℕ) (m : Shared) (k n : ℕ) (c : Ref) → c.node ≢ reserved_node bits → IsClosedAt bits (put (Next k) c m) n → IsClosedAt bits m n
put_next bits m k n c other e = ⊎_elim
    (λ (q : (n - 1 ≡ k - 1) × (slice_index_or (set m.nodes (k - 1) (record (node_at m k) { next = c })) (n - 1) blank ≡ record (node_at m k) { next = c })).
    absurd (other (ap (λ (x : Node). x.next.node) (sym q.1) ∙ e)))
    (λ (q : slice_index_or (set m.nodes (k - 1) (record (node_at m k) { next = c })) (n - 1) blank ≡ slice_index_or m.nodes (n - 1) blank). ap (λ (x : Node). x.next.node) (sym q) ∙ e)
    (set_or m.nodes (k - 1) (n - 1) (record (node_at m k) { next = c }))

either_next : (bits : ℕ) (b : Bool) (m : Shared) (k n : ℕ) (c : Ref) → c.node ≢ reserved_node bits → IsClosedAt bits (if b then put (Next k) c m else m) n → IsClosedAt bits m n
either_next bits true m k n c other e = put_next bits m k n c other e
either_next bits false m k n c other e = e

-- a step writes a closed end only where it adds a shut
module _ (t : Traced) (me : ℕ) (a : Actor) (r : IsTraced t) (is : actor_of t.world me ≡ Some a) where
  abbrev Ends : Line → ℕ → Type 0
  Ends l n = IsClosedAt t.world.setup.bits t.world.shared n ⊎ (1 ≤ count_by is_shut_entry (entries_at t.world.setup t me a l))

  range : WorldInRange t.world
  range = reached_in_range t.world (traced_reached t r)

  registers : RegistersInRange t.world.setup t.world.shared.fresh (length t.world.actors) a
  registers = (actor_in_range t.world me a range is).registers

  own : a.node ≢ reserved_node t.world.setup.bits
  own = below_closed t.world a.node range registers.node

  ends_at : (l : Line) → a.line ≡ Some l → (n : ℕ) → IsClosedAt t.world.setup.bits (step_at t me a l).world.shared n → Ends l n
  ends_at N4 here n e = inl (either_kept t.world.setup.bits (same_ref t.world.shared.free a.top) t.world.shared _ n refl e)
  ends_at N5 here n e = inl (either_kept t.world.setup.bits (nat_eq t.world.shared.fresh a.f) t.world.shared _ n refl e)
  ends_at F2 here n e = inl (put_next t.world.setup.bits t.world.shared a.node n (ref a.top.node a.mark) (below_closed t.world a.top.node range registers.top.node) e)
  ends_at F3 here n e = inl (either_kept t.world.setup.bits (same_ref t.world.shared.free a.top) t.world.shared _ n refl e)
  ends_at E2 here n e = inl (put_value t.world.setup.bits t.world.shared a.node n a.val e)
  ends_at E3 here n e = inl (put_next t.world.setup.bits t.world.shared a.node n (record (node_at t.world.shared a.node).next { node = 0 })
      (λ f. omega (arith, f, span_least t.world.setup.bits range.sized.split)) e)
  ends_at E9 here n e =
      let below = (known t.world (traced_reached t r) me a E9 is here).room in
      let to : (raised t.world.setup a.next a.node).node ≡ a.node = raised_names t.world a.next a.node range registers.node (λ f. omega (arith, below, f)) in
      inl (either_next t.world.setup.bits (same_ref (node_at t.world.shared a.tail.node).next a.next) t.world.shared a.tail.node n (raised t.world.setup a.next a.node) (λ f. own (sym to ∙ f)) e)
  ends_at E13 here n e = inl (either_kept t.world.setup.bits (same_ref t.world.shared.tail a.tail) t.world.shared _ n refl e)
  ends_at E17 here n e = inl (either_kept t.world.setup.bits (same_ref t.world.shared.tail a.tail) t.world.shared _ n refl e)
  ends_at D10 here n e = inl (either_kept t.world.setup.bits (same_ref t.world.shared.tail a.tail) t.world.shared _ n refl e)
  ends_at D13 here n e = inl (either_kept t.world.setup.bits (same_ref t.world.shared.head a.head) t.world.shared _ n refl e)
  ends_at A1 here n e = inl (put_value t.world.setup.bits t.world.shared a.node n a.val e)
  ends_at A2 here n e = inl (put_next t.world.setup.bits t.world.shared a.node n (record (node_at t.world.shared a.node).next { node = 0 })
      (λ f. omega (arith, f, span_least t.world.setup.bits range.sized.split)) e)
  ends_at A3 here n e = inl (either_kept t.world.setup.bits (nat_eq t.world.shared.tail_lock 0) t.world.shared _ n refl e)
  ends_at A5 here n e = inl (either_next t.world.setup.bits (same_ref (node_at t.world.shared a.tail.node).next null) t.world.shared a.tail.node n (ref a.node 0) own e)
  ends_at B1 here n e = inl (either_kept t.world.setup.bits (nat_eq t.world.shared.head_lock 0) t.world.shared _ n refl e)
  ends_at S4 here n e = go (same_ref (node_at t.world.shared a.tail.node).next a.next) e
    where
      go : (b : Bool) → IsClosedAt t.world.setup.bits (if b then put (Next a.tail.node) (raised_end t.world.setup a.next) t.world.shared else t.world.shared) n
          → IsClosedAt t.world.setup.bits t.world.shared n ⊎ (1 ≤ count_by is_shut_entry (if b then ShutEntry me ∷ [] else []))
      go true f = inr (omega arith)
      go false f = inl f
  ends_at S5 here n e = inl (either_kept t.world.setup.bits (same_ref t.world.shared.tail a.tail) t.world.shared _ n refl e)
  ends_at S6 here n e = inl (either_kept t.world.setup.bits (nat_eq t.world.shared.tail_lock 0) t.world.shared _ n refl e)
  ends_at S8 here n e = go (same_ref (node_at t.world.shared a.tail.node).next null) e
    where
      go : (b : Bool) → IsClosedAt t.world.setup.bits (if b then put (Next a.tail.node) (shut_ref t.world.setup.bits 0) t.world.shared else t.world.shared) n
          → IsClosedAt t.world.setup.bits t.world.shared n ⊎ (1 ≤ count_by is_shut_entry (if b then ShutEntry me ∷ [] else []))
      go true f = inr (omega arith)
      go false f = inl f
  ends_at _ here n e = inl e

-- D4 reads what follows the node of its register; where Head is that register still, this is the whole queue
pub at_d4 : (t : Traced) (me : ℕ) (a : Actor) → IsTraced t → ShutsByEnds t → actor_of t.world me ≡ Some a → a.line ≡ Some D4
    → StaysFound (step_at t me a D4) (actor_at t.world.setup t me a D4) (event_at t.world.setup t me a D4).entries
at_d4 t me a r ends is here =
    record {
      some = omega arith;
      empty = λ e. found false (λ h. leaves_nothing t r (at_head 0 h e)) (runs t.world.setup.kind refl);
      closed = λ e. found true (λ h. leaves_shut t r (at_head (reserved_node t.world.setup.bits) h e)) (runs t.world.setup.kind refl);
      shut = λ e. subst LeadsToShut (sym whole) (ends a.head.node e);
    }
  where
    whole : take (length (t.history ++ [])) (t.history ++ []) ≡ t.history
    whole = all_first (t.history ++ []) ∙ append-nil t.history

    at_head : (end : ℕ) → t.world.shared.head ≡ a.head → (node_at t.world.shared a.head.node).next.node ≡ end → (node_at t.world.shared t.world.shared.head.node).next.node ≡ end
    at_head end h e = subst (λ (x : Ref). (node_at t.world.shared x.node).next.node ≡ end) (sym h) e

    found : (shut : Bool) → (t.world.shared.head ≡ a.head → Leads t.history shut []) → IsCurrentOrStale t.world.shared.head a.head
        → (a.head.count < t.world.shared.head.count) ⊎ Leads (take (length (t.history ++ [])) (t.history ++ [])) shut []
    found shut leads (inl e) = inr (subst (λ es. Leads es shut []) (sym whole) (leads e))
    found shut leads (inr less) = inl less

    runs : (k : Kind) → t.world.setup.kind ≡ k → IsCurrentOrStale t.world.shared.head a.head
    runs TwoLock k = absurd (two_lock_sound.nodes_at t.world (traced_reached t r) k me a D4 is here).0
    runs NonBlocking k =
        let at : non_blocking.AtLine t.world me a D4 = non_blocking.at_line t.world (traced_reached t r) k me a D4 is here in
        at.knows.0

-- a step of an actor
steps_turn : (t : Traced) (me : ℕ) (a : Actor) (l : Line) → IsTraced t → ShutsByEnds t → actor_of t.world me ≡ Some a → a.line ≡ Some l → Turns t (step_at t me a l)
steps_turn t me a l r ends is here =
    record {
      ends = ends_at t me a r is l here;
      more = entries_at t.world.setup t me a l;
      history = refl;
      setup = refl;
      each = λ you c got. ⊎_elim
          (λ (q : (you ≡ me) × (actor_at t.world.setup t me a l ≡ c)). inr (event_at t.world.setup t me a l, own you q.0, looks c q.1))
          (λ (q : (you ≢ me) × (actor_of t.world you ≡ Some c)). inl (c, q.1, (refl, refl), changed_else t.paths me _ you q.0))
          (actor_cases t.world me a (actor_at t.world.setup t me a l) is you c got);
    }
  where
    own : (you : ℕ) → you ≡ me → (step_at t me a l).paths you ≡ t.paths you ++ event_at t.world.setup t me a l ∷ []
    own you e = subst (λ k. (step_at t me a l).paths k ≡ t.paths k ++ event_at t.world.setup t me a l ∷ []) (sym e) (changed_here t.paths me _)

    looks : (c : Actor) → actor_at t.world.setup t me a l ≡ c → l ≡ D4 → StaysFound (step_at t me a l) c (event_at t.world.setup t me a l).entries
    looks c e at =
        subst (λ x. StaysFound (step_at t me a l) x (event_at t.world.setup t me a l).entries) e
        (subst (λ k. a.line ≡ Some k → StaysFound (step_at t me a k) (actor_at t.world.setup t me a k) (event_at t.world.setup t me a k).entries) (sym at) (at_d4 t me a r ends is) here)

-- every move
turns : (t : Traced) (m : AnyMove) → IsTraced t → ShutsByEnds t → IfSome (next_any t.world m) (λ w. Turns t (traced_move t m w))
turns t (made (Begin me op)) r ends = go (actor_of t.world me) refl
  where
    call : (b : Bool) (a : Actor) → actor_of t.world me ≡ Some a → IfSome (if b then Some (with_actor t.world me (begun t.world.setup.kind me op a)) else None) (λ w. Turns t (record t { world = w }))
    call true a is = stutters t (with_actor t.world me (begun t.world.setup.kind me op a)) me a (begun t.world.setup.kind me op a) is (λ you. refl) refl refl (begun_same t.world.setup.kind me op a)
    call false a is = tt

    at : (a : Actor) (l : Option Line) → actor_of t.world me ≡ Some a → IfSome (begins t.world me op a l) (λ w. Turns t (record t { world = w }))
    at a None is = call (is_call op) a is
    at a (Some l) is = tt

    go : (o : Option Actor) → actor_of t.world me ≡ o → IfSome (moved t.world (Begin me op) o) (λ w. Turns t (record t { world = w }))
    go None is = tt
    go (Some a) is = at a a.line is
turns t (made (Step me)) r ends = go (actor_of t.world me) refl
  where
    at : (a : Actor) (l : Option Line) → actor_of t.world me ≡ Some a → a.line ≡ l → IfSome (steps t.world me a l) (λ w. Turns t (traced_move t (made (Step me)) w))
    at a None is here = tt
    at a (Some l) is here = subst (Turns t) (sym (traced_step_is t me a l is here)) (steps_turn t me a l r ends is here)

    go : (o : Option Actor) → actor_of t.world me ≡ o → IfSome (moved t.world (Step me) o) (λ w. Turns t (traced_move t (made (Step me)) w))
    go None is = tt
    go (Some a) is = at a a.line is refl
turns t (made (Give me)) r ends = go (actor_of t.world me) refl
  where
    up : (a : Actor) (l : Line) (o : Option Outcome) → actor_of t.world me ≡ Some a → IfSome o (λ p. LooksSame a p.actor) → IfSome (given t.world me a o) (λ w. Turns t (record t { world = w }))
    up a l None is h = tt
    up a l (Some o) is h = stutters t (after_outcome t.world me a t.world.shared o) me a (record o.actor { entry = Some (entry_or a.entry (length t.world.operations)) }) is (λ you. refl) refl refl h

    at : (a : Actor) (l : Option Line) → actor_of t.world me ≡ Some a → IfSome (gives t.world me a l) (λ w. Turns t (record t { world = w }))
    at a None is = tt
    at a (Some l) is = up a l (gives_up (t.world.steps + 1) a l) is (given_same (t.world.steps + 1) a l)

    go : (o : Option Actor) → actor_of t.world me ≡ o → IfSome (moved t.world (Give me) o) (λ w. Turns t (record t { world = w }))
    go None is = tt
    go (Some a) is = at a a.line is
turns t (Rest me) r ends = go (actor_of t.world me) refl
  where
    may : (b : Bool) (a : Actor) → actor_of t.world me ≡ Some a → IfSome (if b then Some (with_actor t.world me (rested a)) else None) (λ w. Turns t (record t { world = w }))
    may true a is = stutters t (with_actor t.world me (rested a)) me a (rested a) is (λ you. refl) refl refl (refl, refl)
    may false a is = tt

    at : (a : Actor) (l : Option Line) → actor_of t.world me ≡ Some a → IfSome (rests t.world me a l) (λ w. Turns t (record t { world = w }))
    at a None is = tt
    at a (Some l) is = may (may_rest l) a is

    go : (o : Option Actor) → actor_of t.world me ≡ o → IfSome (rest_of t.world me o) (λ w. Turns t (record t { world = w }))
    go None is = tt
    go (Some a) is = at a a.line is

-- what stays so on a trace
abbrev Keeps : Traced → Type 0
Keeps t = ShutsByEnds t × KeepsWhatD4Found t

keeps_ends : (t u : Traced) → IsTraced u → Turns t u → ShutsByEnds t → ShutsByEnds u
keeps_ends t u q m h n e = ⊎_elim
    (λ (old : IsClosedAt t.world.setup.bits t.world.shared n). stays_shut u q t.history m.more m.history (h n old))
    (λ (new : 1 ≤ count_by is_shut_entry m.more).
    let p = have_their_places u.world (traced_reached u q) in
    shut_by_count u.history _ (history_plays u q p.0 p.2.queue_chain)
    (omega (arith, new, ap (count_by is_shut_entry) m.history, sum_by-append (λ x. if is_shut_entry x then 1 else 0) t.history m.more)))
    (m.ends n (e ∙ ap (λ z. reserved_node z.bits) m.setup))

traced_keeps : (ms : List AnyMove) (t u : Traced) → IsTraced t → Keeps t → trace ms t ≡ Some u → Keeps u
traced_keeps [] t u r h e = subst Keeps (same_Some t u e) h
traced_keeps (m ∷ ms) t u r h e = go (next_any t.world m) refl e (λ v. traced_keeps ms v u)
  where
    go : (o : Option World) → next_any t.world m ≡ o → traced_on (trace ms) (traced_next t m o) ≡ Some u → ((v : Traced) → IsTraced v → Keeps v → trace ms v ≡ Some u → Keeps u) → Keeps u
    go None f g each = absurd (none-some u g)
    go (Some w) f g each =
        let q : IsTraced (traced_move t m w) = traced_moves t m w r f in
        let n : Turns t (traced_move t m w) = some_of (λ v. Turns t (traced_move t m v)) (next_any t.world m) w f (turns t m r h.0) in
        each (traced_move t m w) q (keeps_ends t (traced_move t m w) q n h.0, keeps t (traced_move t m w) r q n h.1) g

-- of every trace
kept : (t : Traced) → IsTraced t → Keeps t
kept t r =
    traced_keeps r.moves (first_trace t.world.setup r.actors) t (record { actors = r.actors; moves = []; sized = r.sized; led = refl }) (
      λ n e. absurd (none_open r.sized n e),
      λ me a before last is path. absurd (let e = ap length path in let f = length-append before (last ∷ []) in omega arith),
    ) r.led
  where
    none_open : IsSized t.world.setup r.actors → (n : ℕ) → IsClosedAt t.world.setup.bits (first_trace t.world.setup r.actors).world.shared n → ⊥
    none_open sized n e = omega (arith, sym (first_open t.world.setup.size (n - 1)) ∙ e, span_least t.world.setup.bits sized.split)

-- between D4 and D5 Head's count is above the actor's, or what D4 found stays noted
pub keeps_what_d4_found : (t : Traced) → IsTraced t → KeepsWhatD4Found t
keeps_what_d4_found t r = (kept t r).1

-- a closed end in any node says that the history left the queue shut
pub shuts_by_ends : (t : Traced) → IsTraced t → ShutsByEnds t
shuts_by_ends t r = (kept t r).0
