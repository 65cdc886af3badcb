-- Each step of a seat at a line keeps the rule: one lemma for all lines and all forms of access.
use Rattle.std.proofs.Common.{inr, ◌≡◌, ◌≢◌, ℕ, ◌-◌, ◌<◌, ◌≤◌, Bool, true, false, if◌then◌else◌, nat_eq, bit_and, Option, Some, List, [], ◌∷◌}
use Rattle.std.proofs.Common.{◌++◌, length, get_or, set, slice_get, sym, refl, ap, ◌∙◌, subst, ⊎_elim, arith, append-nil, append_assoc}
use Rattle.std.specs.List.{All, count_by}
use Rattle.std.proofs.lemmas.List.{set-get_or}
use Rattle.std.proofs.lemmas.List.Elements.{All-append, All-weaker, filter-append}
use Rattle.std.proofs.lemmas.List.Sums.{sum_by-append}
use mathlib.Core.Option.{some}
use prog.Atomic.{either}
use lib.ListN.{get_elem?}
use Rattle.atomic_table.specs.Table.{State, keeps, Allows}
use Rattle.atomic_table.proofs.Lists.{at_set}
use Rattle.step_machine.proofs.StampsLists.{same_or_not}
use Rattle.line_table.specs.declared.lines.Line.{Line}
use Rattle.history.specs.declared.operations.Entry.{Entry}
use Rattle.history.specs.Entries.{seat_of, own_entries, is_pop}
use Rattle.history.specs.Seats.{IsNoted}
use Rattle.line_steps.specs.Actors.{Actor}
use Rattle.line_steps.specs.declared.actors.Setup.{Setup}
use Rattle.line_steps.specs.Memory.{word, found}
use Rattle.line_steps.specs.Lines.{action}
use Rattle.step_machine.specs.Words.{memory_words, IsWord}
use Rattle.step_machine.specs.Tables.{WordStep, load_at, store_at, and_at, exchange_at, word_index, word_step, table_after}
use Rattle.step_machine.specs.Machine.{actor_of, AnyMove}
use Rattle.step_machine.proofs.Words.{reading}
use Rattle.step_machine.proofs.Reached.{mover_in_range}
use Rattle.step_machine.proofs.Tables.{place-word_step}
use Rattle.step_machine.proofs.AccessesNameWords.{accesses_are_one_step, each_access_names_a_word}
use Rattle.node_arena.specs.declared.roles.Role.{Role}
use Rattle.node_arena.specs.Traces.{Traced, IsTraced, step_at, actor_at, outcome_at, event_at, entries_at, number_at, sees, made_by, LeadsBy}
use Rattle.node_arena.specs.Prologues.{Prologue, after_prologue, CanStart}
use Rattle.node_arena.specs.Knowledge.{SeatView, View, keeper, seated, members}
use Rattle.node_arena.specs.Places.{place, shared_words}
use Rattle.node_arena.specs.Plans.{Layout, RolesPermit, PermitsLine}
use Rattle.node_arena.specs.Rule.{knowing, Ran, IsRunTo, RunsOn, SawAt, Fits, IsNew, Holds, notes_of, SaysOfSeen, Steps, Tells, line_or_first}
use Rattle.node_arena.proofs.Placed.{length-shared_words, get_or-shared_words, shared_words-set}
use Rattle.node_arena.proofs.There.{words_there, index_within}
use Rattle.node_arena.proofs.Tracing.{traced_reached, step_here, step_else, step_count, changed_here, changed_else}
use Rattle.node_arena.proofs.PrologueTraces.{Led, prologue_traced, leads_then, leads_reached, one_step, ran_more, ran_all}
use Rattle.node_arena.proofs.KnownRuns.{one_of, set_there, other_there}
use Rattle.node_arena.proofs.Keeping.{run_to}
use Rattle.node_arena.proofs.Histories.{counts_pops}
use Rattle.node_arena.proofs.Empties.{noted_more, saw_later, saw_led, saw_after, says_after, noted_after}
use Rattle.node_arena.proofs.Entering.{own_added, none_added, permitted_added}
use Rattle.node_arena.proofs.Seens.{silent, later, begins_by, between, seen_is, whole_by, stays_by, known_by}

-- what a word becomes by a step on its place, where it was n
abbrev pub becomes : WordStep → ℕ → ℕ
becomes (load_at p) n = n
becomes (store_at p w) n = w
becomes (and_at p mask) n = bit_and n mask
becomes (exchange_at p old new) n = either (nat_eq n old) new n

table_after-set : (x : WordStep) (ws : List ℕ) → table_after x ws ≡ set ws (word_index x) (becomes x (get_or ws (word_index x) 0))
table_after-set (load_at p) ws = sym (set-get_or ws p 0)
table_after-set (store_at p w) ws = refl
table_after-set (and_at p mask) ws = refl
table_after-set (exchange_at p old new) ws = go (nat_eq (get_or ws p 0) old)
  where
    go : (b : Bool) → (if b then set ws p new else ws) ≡ set ws p (either b new (get_or ws p 0))
    go true = refl
    go false = sym (set-get_or ws p 0)

abbrev pub apart : (z : Layout) (s : State ℕ View) (h : Holds z s) (id : ℕ) (v : SeatView) → get_elem? s.views id ≡ some (seated v)
    → (j i : ℕ) (u : View) (o : SeatView) → j ≢ id → get_elem? s.views j ≡ some u → get_elem? (members u) i ≡ some o → o.number ≢ v.number
apart z s h id v mine j i u o ne there which same = ne (ap (λ (y : ℕ × ℕ). y.0) (sym (h.owned j i u o there which).0 ∙ (ap h.owner same ∙ (h.owned id 0 (seated v) v mine refl).0)))

-- one seat's view goes from v to v', and the traced world to t
pub record Goes (z : Layout) (s : State ℕ View) (h : Holds z s) (v v' : SeatView) (words : List ℕ) (t : Traced) : Type 0 where
  pub reached : IsTraced t
  pub setup : t.world.setup ≡ z.setup
  pub actors : length t.world.actors ≡ length z.roles
  pub words' : shared_words words ≡ memory_words z.setup.bits t.world.shared
  pub permitted : All (RolesPermit z.roles) t.history
  pub number : v'.number ≡ v.number
  pub me : Fits t v'
  pub others : (o : SeatView) → o.number ≢ v.number → Fits h.trace o → Fits t o
  pub new : (n : ℕ) → n ≢ v.number → IsNew h.trace n → IsNew t n
  pub actors' : reached.actors ≡ h.reached.actors
  pub own : List AnyMove
  pub moves : reached.moves ≡ h.reached.moves ++ own
  pub by_own : All (λ m. made_by m ≡ v.number) own
  pub ran : v'.ran ≡ reached.moves

abbrev pub one_seat : (z : Layout) (s : State ℕ View) (h : Holds z s) (id : ℕ) (v v' : SeatView) (words : List ℕ) (t : Traced) → get_elem? s.views id ≡ some (seated v) → Goes z s h v v' words t
    → Holds z record { words = words; homes = s.homes; views = set s.views id (seated v') }
one_seat z s h id v v' words t mine g =
    let P : ℕ → ℕ → SeatView → Type 0 = λ j i u. Fits t u × (h.owner u.number ≡ (j, i)) × (u.number < h.dealt) in
    let here : P id 0 v' = let o = h.owned id 0 (seated v) v mine refl in (g.me, ap h.owner g.number ∙ o.0, subst (λ (k : ℕ). k < h.dealt) (sym g.number) o.1) in
    let all : (j i : ℕ) (u : View) (o : SeatView) → get_elem? (set s.views id (seated v')) j ≡ some u → get_elem? (members u) i ≡ some o → P j i o = λ j i u o there which.
    ⊎_elim
    (λ (q : (j ≡ id) × (seated v' ≡ u)).
    let one = one_of v' o i (ap (λ (y : View). get_elem? (members y) i) q.1 ∙ which) in subst (λ (y : ℕ × ℕ × SeatView). P y.0 y.1 y.2) (λ c. (sym q.0 c, sym one.0 c, one.1 c)) here)
    (λ (q : (j ≢ id) × (get_elem? s.views j ≡ some u)).
    let own = h.owned j i u o q.1 which in (g.others o (apart z s h id v mine j i u o q.0 q.1 which) (h.fits j i u o q.1 which), own.0, own.1))
    (at_set s.views id j (seated v') u there) in
    let more : (n : ℕ) (ran : List AnyMove) → n ≢ v.number → Ran h.reached.moves n ran → Ran g.reached.moves n ran = λ n ran ne r.
    subst (λ ms. Ran ms n ran) (sym g.moves) (ran_more h.reached.moves g.own n v.number ran ne g.by_own r) in
    record {
      sized = h.sized;
      trace = t;
      reached = g.reached;
      setup = g.setup;
      actors = g.actors;
      words = g.words';
      permitted = g.permitted;
      dealt = h.dealt;
      home = h.home;
      owner = h.owner;
      fits = λ j i u o a b. (all j i u o a b).0;
      owned = λ j i u o a b. let q = all j i u o a b in (q.1, q.2);
      kept = λ j n there. ⊎_elim (λ (q : (j ≡ id) × (seated v' ≡ keeper n)). cc)
          (λ (q : (j ≢ id) × (get_elem? s.views j ≡ some (keeper n))). h.kept j n q.1) (at_set s.views id j (seated v') (keeper n) there);
      undealt = λ n over within. g.new n (λ e. let lt = (h.owned id 0 (seated v) v mine refl).1 in omega arith) (h.undealt n over within);
      peopled = g.actors' ∙ h.peopled;
      ran = λ j i u o there which. ⊎_elim
          (λ (q : (j ≡ id) × (seated v' ≡ u)).
          let one = one_of v' o i (ap (λ (y : View). get_elem? (members y) i) q.1 ∙ which) in
          subst (λ (y : SeatView). Ran g.reached.moves y.number y.ran) one.1 (subst (λ ms. Ran g.reached.moves v'.number ms) (sym g.ran) (ran_all g.reached.moves v'.number)))
          (λ (q : (j ≢ id) × (get_elem? s.views j ≡ some u)). more o.number o.ran (apart z s h id v mine j i u o q.0 q.1 which) (h.ran j i u o q.1 which))
          (at_set s.views id j (seated v') u there);
      unmoved = λ n over. more n [] (λ e. let lt = (h.owned id 0 (seated v) v mine refl).1 in omega arith) (h.unmoved n over);
      there = λ n. ⊎_elim
          (λ (e : n ≡ v.number). inr (v', (id, 0, seated v', set_there s.views id (seated v) (seated v') mine, refl), g.number ∙ sym e))
          (λ (ne : n ≢ v.number). other_there knowing s.views id v v' mine h.reached.moves g.reached.moves n ne (more n [] ne) (h.there n))
          (same_or_not n v.number);
    }

-- the seat's step at a line, where its actor is led there
module _ (z : Layout) (s : State ℕ View) (h : Holds z s) (id : ℕ) (v : SeatView) (mine : get_elem? s.views id ≡ some (seated v)) (prologue : Prologue) (l : Line)
    (can : CanStart prologue v.actor) (line : (after_prologue z.setup v.number prologue v.actor).line ≡ Some l) (role : Role)
    (its : slice_get z.roles (v.number - 1) ≡ Some role) (permits : PermitsLine role l) where
  abbrev pub a : Actor
  a = after_prologue z.setup v.number prologue v.actor

  abbrev pub fit : Fits h.trace v
  fit = h.fits id 0 (seated v) v mine refl

  abbrev pub led_there : (u : Traced) × IsTraced u × Led h.trace u v.number a × LeadsBy v.number 2 h.trace u
  led_there = let g = prologue_traced h.trace v.number v.actor prologue h.reached fit.actor can in
      (g.0, g.1, subst (λ x. Led h.trace g.0 v.number (after_prologue x v.number prologue v.actor)) h.setup g.2, g.3)

  abbrev pub u : Traced
  u = led_there.0

  abbrev pub f : Led h.trace u v.number a
  f = led_there.2

  abbrev pub t : Traced
  t = step_at u v.number a l

  pub setup : u.world.setup ≡ z.setup
  setup = f.setup ∙ h.setup

  -- the moves of its actor that lead from the world of the rule to that after its step
  abbrev pub own_moves : LeadsBy v.number 3 h.trace t
  own_moves = leads_then v.number 2 1 3 h.trace u t (omega arith) led_there.3 (one_step u v.number a l f.here line)

  abbrev pub reached : IsTraced t
  reached = leads_reached v.number 3 h.trace t h.reached f.setup own_moves

  abbrev pub es : List Entry
  es = entries_at z.setup u v.number a l

  pub history_is : t.history ≡ h.trace.history ++ es
  history_is = (λ i. f.history i ++ entries_at (setup i) u v.number a l)

  abbrev pub v' : SeatView
  v' = record {
    number = v.number;
    actor = actor_at z.setup u v.number a l;
    path = v.path ++ event_at z.setup u v.number a l ∷ [];
    seen =
        if sees l then t.history else v.seen;
    mine = v.mine ++ es;
    notes = v.notes ++ notes_of (outcome_at z.setup u v.number a l).reply
        (if sees l then t.history else v.seen);
    ran = reached.moves;
  }

  pub here : actor_of t.world v.number ≡ Some v'.actor
  here = step_here u v.number a l f.here ∙ ap (λ x. Some (actor_at x u v.number a l)) setup

  pub path_before : u.paths v.number ≡ v.path
  path_before = ap (λ p. p v.number) f.paths ∙ fit.path

  pub quiet : sees l ≡ false → es ≡ []
  quiet = silent z.setup v.number a l (found (action z.setup v.number a l) u.world.shared)

  pub parts : t.history ≡ (v.seen ++ fit.rest) ++ es
  parts = history_is ∙ ap (λ hs. hs ++ es) fit.begins

  pub own : own_entries v.number t.history ≡ v.mine ++ es
  own = ap (own_entries v.number) history_is ∙ (filter-append (λ e. nat_eq (seat_of e) v.number) h.trace.history es ∙ (λ i. fit.own i ++ own_added z.setup u v.number a l i))

  pub whole : sees l ≡ true → v'.seen ≡ t.history
  whole = whole_by v.seen fit.rest es t.history parts (sees l)

  pub stays : sees l ≡ false → v'.seen ≡ v.seen
  stays = stays_by v.seen fit.rest es t.history parts (sees l)

  pub seen : v'.seen ≡ v.seen ++ (between v.seen fit.rest es t.history parts (sees l) ++ es)
  seen = seen_is v.seen fit.rest es t.history parts (sees l) quiet ∙ append_assoc v.seen (between v.seen fit.rest es t.history parts (sees l)) es

  -- what the actor found before its step, in what its seat has seen after it
  pub saw : sees l ≡ false → SawAt u v'.seen a (Some l) a.due
  saw e = subst (λ (y : List Entry × Option Line). SawAt u y.0 a y.1 a.due) (λ i. (sym (stays e) i, line i))
      (saw_led h.trace u v.seen z.setup v.number prologue v.actor (let c = ap (λ m. m.head.count) f.shared in omega arith) f.setup fit.saw)

  -- what its reply says of the queue
  pub says : SaysOfSeen l (outcome_at u.world.setup u v.number a l).reply v'.seen
  says = says_after u v.number a v'.seen l led_there.1 f.here line whole saw

  pub noted : All (IsNoted v'.seen) v'.notes
  noted =
      All-append (IsNoted v'.seen) v.notes _
      (subst (λ es. All (IsNoted es) v.notes) (sym seen) (All-weaker (IsNoted v.seen) _ (noted_more v.seen _) v.notes fit.noted))
      (subst (λ s. All (IsNoted v'.seen) (notes_of (outcome_at s u v.number a l).reply v'.seen)) setup (noted_after u v.number a v'.seen l says))

  pub me : Fits t v'
  me = record {
    actor = here;
    path = changed_here u.paths v.number _ ∙ (λ i. path_before i ++ event_at (setup i) u v.number a l ∷ []);
    rest = later v.seen fit.rest es t.history parts (sees l);
    begins = begins_by v.seen fit.rest es t.history parts (sees l);
    own = own;
    known = known_by v.seen fit.rest es t.history parts v.number v.mine (sees l) quiet own fit.known;
    noted = noted;
    saw = subst (λ s. SawAt t v'.seen (actor_at s u v.number a l) (actor_at s u v.number a l).line (actor_at s u v.number a l).due) setup
        (saw_after u v.number a l led_there.1 f.here line v'.seen whole);
  }

  -- Head's count doesn't fall
  pub rises : h.trace.world.shared.head.count ≤ t.world.shared.head.count
  rises = omega (arith, counts_pops h.trace h.reached, counts_pops t reached, ap (count_by is_pop) history_is, sum_by-append (λ e. if is_pop e then 1 else 0) h.trace.history es)

  pub others : (o : SeatView) → o.number ≢ v.number → Fits h.trace o → Fits t o
  others o ne g = record {
    actor = step_else u v.number a l o.number f.here ne ∙ (f.others o.number ne ∙ g.actor);
    path = changed_else u.paths v.number _ o.number ne ∙ (ap (λ p. p o.number) f.paths ∙ g.path);
    rest = g.rest ++ es;
    begins = history_is ∙ (ap (λ hs. hs ++ es) g.begins ∙ append_assoc o.seen g.rest es);
    own = ap (own_entries o.number) history_is ∙ (filter-append (λ e. nat_eq (seat_of e) o.number) h.trace.history es ∙
        (ap (λ ys. own_entries o.number h.trace.history ++ ys) (none_added z.setup u v.number o.number a l ne) ∙
        (append-nil (own_entries o.number h.trace.history) ∙ g.own)));
    known = g.known;
    noted = g.noted;
    saw = saw_later h.trace t o.seen o.actor o.actor.line o.actor.due rises f.setup g.saw;
  }

  pub new : (n : ℕ) → n ≢ v.number → IsNew h.trace n → IsNew t n
  new n ne g = record {
    actor = step_else u v.number a l n f.here ne ∙ (f.others n ne ∙ g.actor);
    path = changed_else u.paths v.number _ n ne ∙ (ap (λ p. p n) f.paths ∙ g.path);
    own = ap (own_entries n) history_is ∙ (filter-append (λ e. nat_eq (seat_of e) n) h.trace.history es ∙ (λ i. g.own i ++ none_added z.setup u v.number n a l ne i));
  }

  pub permitted : All (RolesPermit z.roles) t.history
  permitted = subst (All (RolesPermit z.roles)) (sym history_is) (All-append (RolesPermit z.roles) h.trace.history es h.permitted
      (permitted_added z.setup z.roles u v.number a l role (mover_in_range u.world v.number a f.here).0 its permits))

  pub same_words : memory_words z.setup.bits u.world.shared ≡ shared_words s.words
  same_words = ap (memory_words z.setup.bits) f.shared ∙ sym h.words

  pub words_after : (x : WordStep) → word_step z.setup.bits (action z.setup v.number a l) ≡ x
      → memory_words z.setup.bits t.world.shared ≡ set (shared_words s.words) (word_index x)
      (becomes x (get_or (shared_words s.words) (word_index x) 0))
  words_after x is =
      ap (λ (y : Setup). memory_words y.bits t.world.shared) (sym setup) ∙
      accesses_are_one_step u.world (traced_reached u led_there.1) (each_access_names_a_word u.world (traced_reached u led_there.1)) v.number a l f.here line ∙
      (λ i. table_after (word_step (setup i).bits (action (setup i) v.number a l)) ((ap (λ (y : Setup). memory_words y.bits u.world.shared) setup ∙ same_words) i)) ∙
      ap (λ y. table_after y (shared_words s.words)) is ∙
      table_after-set x (shared_words s.words)

  -- the access is that of a word, which is read and written at its place
  pub in_table : (x : WordStep) → word_step z.setup.bits (action z.setup v.number a l) ≡ x → word_index x < length s.words - 42
  in_table x is =
      let named = index_within z v.number a l (record { trace = u; reached = led_there.1; setup = setup; here = f.here; line = line }) in
      omega (arith, named, ap word_index is, words_there z s h, length-shared_words s.words)

  pub read : (x : WordStep) → word_step z.setup.bits (action z.setup v.number a l) ≡ x → get_or (shared_words s.words) (word_index x) 0 ≡ get_or s.words (place (word_index x)) 0
  read x is = get_or-shared_words s.words (word_index x) (in_table x is)

  pub written : (x : WordStep) → word_step z.setup.bits (action z.setup v.number a l) ≡ x
      → shared_words (set s.words (place (word_index x)) (becomes x (get_or s.words (place (word_index x)) 0))) ≡ memory_words z.setup.bits
      t.world.shared
  written x is =
      shared_words-set s.words (word_index x) _ (in_table x is) ∙
      (ap (λ n. set (shared_words s.words) (word_index x) (becomes x n)) (sym (read x is)) ∙
      sym (words_after x is))

  pub goes : (x : WordStep) → word_step z.setup.bits (action z.setup v.number a l) ≡ x → Goes z s h v v' (set s.words (place (word_index x)) (becomes x (get_or s.words (place (word_index x)) 0))) t
  goes x is = record {
    reached = reached;
    setup = setup;
    actors = step_count u v.number a l ∙ (f.count ∙ h.actors);
    words' = written x is;
    permitted = permitted;
    number = refl;
    me = me;
    others = others;
    new = new;
    actors' = refl;
    own = own_moves.moves;
    moves = refl;
    by_own = own_moves.alone;
    ran = refl;
  }

  -- what the seat knows of the run goes on
  pub runs : RunsOn z v v' u t
  runs =
      let before : Ran h.reached.moves v.number v.ran = h.ran id 0 (seated v) v mine refl in
      record {
        others = before.rest;
        by_others = before.others;
        sets_out = led_there.3.moves;
        by_own = led_there.3.alone;
        few = led_there.3.few;
        ran = ap (λ ms. ms ++ own_moves.moves) before.begins ∙ append_assoc v.ran before.rest own_moves.moves;
        sets = subst (λ ms. IsRunTo z ms u) (ap (λ ms. ms ++ led_there.3.moves) before.begins ∙ append_assoc v.ran before.rest led_there.3.moves)
            (run_to z (leads_reached v.number 2 h.trace u h.reached f.setup led_there.3) setup h.peopled);
        led = run_to z reached setup h.peopled;
      }

  -- what was found is what the actor's access finds
  pub found_is : (x : WordStep) → word_step z.setup.bits (action z.setup v.number a l) ≡ x → get_or s.words (place (word_index x)) 0 ≡ number_at z.setup u v.number a l
  found_is x is =
      sym (read x is) ∙
      (λ i. get_or (sym same_words i) (word_index (sym is i)) 0) ∙
      ap (λ p. get_or (memory_words z.setup.bits u.world.shared) p 0) (place-word_step z.setup.bits (action z.setup v.number a l)) ∙
      reading z.setup.bits u.world.shared (word (action z.setup v.number a l)) (subst (λ y. IsWord u.world.shared (word (action y v.number a l)))
      setup (each_access_names_a_word u.world (traced_reached u led_there.1) v.number a l f.here line))

  abbrev pub steps_told : (x : WordStep) → word_step z.setup.bits (action z.setup v.number a l) ≡ x → Steps z prologue l (get_or s.words (place (word_index x)) 0) v v'
  steps_told x is = record {
    sized = h.sized;
    was = u;
    reached = led_there.1;
    setup = setup;
    peopled = f.count ∙ h.actors;
    before = f.here;
    line = line;
    path_before = path_before;
    reaches = reached;
    after = here;
    path_after = me.path;
    found = found_is x is;
    number = refl;
    actor = refl;
    path = refl;
    rest = between v.seen fit.rest es t.history parts (sees l);
    seen = seen_is v.seen fit.rest es t.history parts (sees l) quiet;
    whole = whole;
    stays = stays;
    mine = refl;
    notes = refl;
    says = subst (λ s. SaysOfSeen l (outcome_at s u v.number a l).reply v'.seen) setup says;
    fits = me;
    permitted = permitted;
    runs = runs;
  }

-- every line and every form of access at once
pub allows_seated : (z : Layout) (id : ℕ) (v : SeatView) (prologue : Prologue) (l : Line) (x : WordStep) (role : Role) → CanStart prologue v.actor
    → (after_prologue z.setup v.number prologue v.actor).line ≡ Some l → slice_get z.roles (v.number - 1) ≡ Some role → PermitsLine role l
    → word_step z.setup.bits (action z.setup v.number (after_prologue z.setup v.number prologue v.actor) l) ≡ x
    → Allows {S = ℕ} (Holds z) 0 id (seated v, []) (place (word_index x)) (becomes x) (λ n m. Tells z prologue (seated v, []) n m)
allows_seated z id v prologue l x role can line its permits is s h empty mine small = (
  seated (v' z s h id v mine prologue l can line role its permits),
  keeps,
  tt,
  one_seat z s h id v (v' z s h id v mine prologue l can line role its permits)
      (set s.words (place (word_index x)) (becomes x (get_or s.words (place (word_index x)) 0)))
      (t z s h id v mine prologue l can line role its permits) mine (goes z s h id v mine prologue l can line role its permits x is),
  (
    refl,
    subst (λ (k : Line). Steps z prologue k (get_or s.words (place (word_index x)) 0) v
        (v' z s h id v mine prologue l can line role its permits)) (sym (ap line_or_first line))
        (steps_told z s h id v mine prologue l can line role its permits x is),
  ),
)
