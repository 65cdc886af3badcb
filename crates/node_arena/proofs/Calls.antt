-- What the step calls ask of the table, and what they answer.
use Rattle.std.proofs.Common.{◌≡◌, ◌≢◌, ℕ, ◌+◌, ◌-◌, ◌*◌, ◌<◌, Bool, nat_lt, List, [], length, Option, Some, slice_get, sym, refl, ap, ◌∙◌, subst, arith}
use Rattle.std.specs.List.{count_by}
use Rattle.std.specs.Coded.{le_prop}
use Rattle.std.proofs.Math.Logic.{∥∥₁_elim}
use Rattle.std.proofs.lemmas.List.Sums.{sum_by-append}
use Rattle.atomic_table.specs.Table.{Me, Allows}
use Rattle.atomic_table.specs.declared.shared.Seat.{Seat as Token}
use Rattle.line_table.specs.declared.lines.Line.{Line}
use Rattle.history.specs.declared.operations.Entry.{Entry}
use Rattle.line_steps.specs.Actors.{Actor}
use Rattle.line_steps.specs.Lines.{action}
use Rattle.step_machine.specs.Tables.{WordStep, load_at, store_at, and_at, exchange_at, word_index, word_step}
use Rattle.node_arena.specs.Beside.{Beside, plain_me, words_of, HoldsFor, slots_in, EffectBy, Moves, KnowsNow, TellsBeside, TellsNoneBeside}
use Rattle.node_arena.specs.Arenas.{Arena}
use Rattle.node_arena.specs.declared.seats.Seat.{Seat}
use Rattle.node_arena.specs.Traces.{entries_at, number_at, step_at}
use Rattle.node_arena.specs.Prologues.{Prologue, after_prologue}
use Rattle.node_arena.specs.Knowledge.{View, seated, knows}
use Rattle.node_arena.specs.Places.{place}
use Rattle.node_arena.specs.Plans.{Layout}
use Rattle.node_arena.specs.Rule.{Steps, Fitted, Tells, line_or_first}
use Rattle.history.specs.Entries.{is_push, is_pop, is_shut}
use Rattle.node_arena.specs.Seats.{MayStep, DidStep, DidSome, view, pocket_of, shut_by, counting}
use Rattle.node_arena.proofs.Placed.{place_there}
use Rattle.node_arena.proofs.There.{stood, index_within}
use Rattle.node_arena.proofs.StepsPreserve.{becomes}
use Rattle.node_arena.proofs.Lifting.{allows_as}
use Rattle.node_arena.proofs.Counting.{Counts, loads_nothing, clears_nothing, stores_counted, wins_counted, loses_nothing}

-- the index of a step is that of one of the words
names_a_word : {T : Type 0} (r : Arena) (s : Seat T) (prologue : Prologue) (l : Line) (x : WordStep) → MayStep r s prologue l x → word_index x < 6 + 2 * r.plan.setup.size
names_a_word r s prologue l x may =
    ∥∥₁_elim may.seat.sits.fitted le_prop (λ fitted.
    let h = index_within r.plan (view s).number (after_prologue r.plan.setup (view s).number prologue (view s).actor) l (stood r.plan (view s) prologue l fitted may.leads may.line) in
    omega (arith, h, ap word_index may.access))

-- what a step on a word asks of the table
pub asks : {T : Type 0} (r : Arena) (s : Seat T) (prologue : Prologue) (l : Line) (x : WordStep) → MayStep r s prologue l x
    → (s.token.table_id ≡ r.id) × (place (word_index x) < r.id.words)
    × Allows {S = Option T} (HoldsFor r.key) r.id.slots s.token.id s.token.me (place (word_index x)) (becomes x) (λ n m. TellsBeside r.key prologue s.token.me n m)
asks r s prologue l x may = (
  may.seat.sits.table,
  there,
  allows_as r.plan r.key r.id.slots s.token.id s.token.me prologue l x s.role may.seat.arena.key may.seat.arena.slots may.seat.sits.seat may.leads may.line
      (subst (λ n. slice_get r.plan.roles (n - 1) ≡ Some s.role) may.seat.sits.number may.seat.sits.role) may.permits may.access
      (omega (
        arith,
        names_a_word r s prologue l x may,
        place_there (words_of r.plan) (word_index x)
            (omega (arith, names_a_word r s prologue l x may)),
      )) may.loaded,
)
  where
    there : place (word_index x) < r.id.words
    there = place_there r.id.words (word_index x) (omega (arith, names_a_word r s prologue l x may, may.seat.arena.words))

-- a store is told nothing
pub asks_store : {T : Type 0} (r : Arena) (s : Seat T) (prologue : Prologue) (l : Line) (p n : ℕ) → MayStep r s prologue l (store_at p n)
    → (s.token.table_id ≡ r.id) × (place p < r.id.words)
    × Allows {S = Option T} (HoldsFor r.key) r.id.slots s.token.id s.token.me (place p) (λ _. n) (λ _ m. TellsNoneBeside r.key prologue s.token.me m)
asks_store r s prologue l p n may =
    let h = asks r s prologue l (store_at p n) may in
    (h.0, h.1, λ st holds size mine fit. let q = h.2 st holds size mine fit in (q.0, q.1, q.2, q.3, (_, q.4)))

-- what a seat is told of its step
steps_at : {T : Type 0} (r : Arena) (s : Seat T) (me : Me ℕ View) (prologue : Prologue) (l : Line) (x : WordStep) (n : ℕ) → MayStep r s prologue l x
    → Tells r.key prologue (plain_me s.token.me) n me → Steps r.plan prologue l n (view s) (knows me.0)
steps_at r s me prologue l x n may tells =
    subst (λ (k : Line). Steps r.plan prologue k n (view s) (knows me.0)) (ap line_or_first may.line)
    (subst (λ (z : Layout). Steps z prologue (line_or_first (after_prologue z.setup (view s).number prologue (view s).actor).line) n (view s) (knows me.0)) may.seat.arena.key tells.1)

-- the seat after its step, which counts what the step added
module _ {T : Type 0} (r : Arena) (s : Seat T) (t : Token (Option T) (Beside T)) (prologue : Prologue) (l : Line) (x : WordStep) (n : ℕ)
    (may : MayStep r s prologue l x) (same : t.table_id ≡ s.token.table_id) (tells : TellsBeside r.key prologue s.token.me n t.me) where
  abbrev steps : Steps r.plan prologue l n (view s) (knows t.me.0.plain)
  steps = steps_at r s (plain_me t.me) prologue l x n may tells.0

  moves : Moves r.plan s.token.me t.me
  moves = subst (λ (z : Layout). Moves z s.token.me t.me) may.seat.arena.key tells.1

  known : KnowsNow r.plan t.me.0
  known = subst (λ (z : Layout). KnowsNow z t.me.0) may.seat.arena.key tells.2

  abbrev a : Actor
  a = after_prologue r.plan.setup (view s).number prologue (view s).actor

  abbrev es : List Entry
  es = entries_at r.plan.setup steps.was (view s).number a l

  did : (u : Seat T) → u.token ≡ t → u.number ≡ s.number → u.role ≡ s.role → u.keeps ≡ s.keeps → pocket_of u ≡ pocket_of s → u.failed ≡ s.failed
      → u.pushes ≡ s.pushes + count_by is_push es → u.pops ≡ s.pops + count_by is_pop es
      → u.shut ≡ nat_lt 0 (count_by is_shut (view s).mine + count_by is_shut es) → DidStep r s u prologue l n
  did u token number role keeps pocket failed pushes pops shut = record {
    seat = record {
      arena = may.seat.arena;
      sits = record {
        table = ap (λ y. y.table_id) token ∙ (same ∙ may.seat.sits.table);
        seat = ap (λ y. y.me.0.plain) token ∙ (ap (λ (y : Me ℕ View). y.0) tells.0.0 ∙ ap (λ y. seated (knows y.me.0.plain)) (sym token));
        none_out = λ c. let none_before = may.seat.sits.none_out c in let stay =
            subst (λ (b : Bool). EffectBy b (view s).number moves.0 s.token.me t.me) c moves.2 in (
              ap (λ y. length y.me.1) token ∙ (ap length stay.0 ∙ none_before.0),
              ap (λ y. slots_in y.me.0.hand) token ∙
                  (ap slots_in stay.1 ∙ none_before.1),
            );
        number = number ∙ (may.seat.sits.number ∙ (sym steps.number ∙ ap (λ y. (knows y.me.0.plain).number) (sym token)));
        role = subst (λ q. slice_get r.plan.roles (q - 1) ≡ Some u.role) (sym number) (may.seat.sits.role ∙ ap (λ y. Some y) (sym role));
        pushes = pushes ∙ (ap (λ k. k + count_by is_push es) may.seat.sits.pushes ∙
            (sym (sum_by-append _ (view s).mine es) ∙ (ap (count_by is_push) (sym steps.mine) ∙ ap (λ y. count_by is_push (knows y.me.0.plain).mine)
            (sym token))));
        shut = shut ∙ ap (nat_lt 0) (sym (sum_by-append _ (view s).mine es) ∙ (ap (count_by is_shut) (sym steps.mine) ∙ ap (λ y. count_by is_shut (knows y.me.0.plain).mine) (sym token)));
        fitted = subst (λ y. ∥ Fitted r.plan (knows y.me.0.plain) ∥₁) (sym token) ∣ record {
          trace = step_at steps.was (view s).number a l;
          run = steps.runs.led;
          reached =
              steps.reaches;
          setup = steps.setup;
          permitted = steps.permitted;
          fits = steps.fits;
        } ∣₁;
        valued = subst (λ y. ∥ KnowsNow r.plan y.me.0 ∥₁) (sym token) ∣ known ∣₁;
        pops = pops ∙ (ap (λ k. k + count_by is_pop es) may.seat.sits.pops ∙ (sym (sum_by-append _ (view s).mine es) ∙
            (ap (count_by is_pop) (sym steps.mine) ∙ ap (λ y. count_by is_pop (knows y.me.0.plain).mine) (sym token))));
      };
    };
    stored = record { number = number; role = role; keeps = keeps; pocket = pocket; failed = failed };
    moves = subst (λ y. Moves r.plan s.token.me y.me) (sym token) moves;
    valued = subst (λ y. KnowsNow r.plan y.me.0) (sym token) known;
    told = subst (λ y. Steps r.plan prologue l n (view s) (knows y.me.0.plain)) (sym token) steps;
  }

  abbrev stepped : Seat T
  stepped = record s { token = t }

  did_nothing : es ≡ [] → DidStep r s stepped prologue l n
  did_nothing e = did stepped refl refl refl refl refl refl (let h : count_by is_push es ≡ 0 = ap (count_by is_push) e in omega arith)
      (let h : count_by is_pop es ≡ 0 = ap (count_by is_pop) e in omega arith)
      (may.seat.sits.shut ∙ ap (nat_lt 0) (let h : count_by is_shut es ≡ 0 = ap (count_by is_shut) e in let k : count_by is_shut
      (view s).mine ≡ count_by is_shut (view s).mine + count_by is_shut es = omega arith in k))

  did_counted : Counts l es → DidStep r s (counting stepped l) prologue l n
  did_counted c = did (counting stepped l) refl refl refl refl refl refl (ap (λ k. s.pushes + k) (sym c.pushes)) (ap (λ k. s.pops + k) (sym c.pops))
      (ap (shut_by l) may.seat.sits.shut ∙ c.shut (count_by is_shut (view s).mine))

-- the seat's actor, as it stands before the step
abbrev led_actor : {T : Type 0} → Arena → Seat T → Prologue → Actor
led_actor r s prologue = after_prologue r.plan.setup (view s).number prologue (view s).actor

-- what a load, a fetch_and, a store, and an exchange that is won or lost answer
pub loaded : {T : Type 0} (r : Arena) (s : Seat T) (t : Token (Option T) (Beside T)) (prologue : Prologue) (l : Line) (p n : ℕ)
    → MayStep r s prologue l (load_at p) → (t.table_id ≡ s.token.table_id) × (t.id ≡ s.token.id) × TellsBeside r.key prologue s.token.me n t.me
    → DidStep r s (record s { token = t }) prologue l n
loaded r s t prologue l p n may told = did_nothing r s t prologue l (load_at p) n may told.0 told.2 (loads_nothing r.plan.setup (view s).number (led_actor r s prologue) l p _ may.access)

pub cleared : {T : Type 0} (r : Arena) (s : Seat T) (t : Token (Option T) (Beside T)) (prologue : Prologue) (l : Line) (p mask n : ℕ)
    → MayStep r s prologue l (and_at p mask) → (t.table_id ≡ s.token.table_id) × (t.id ≡ s.token.id) × TellsBeside r.key prologue s.token.me n t.me
    → DidStep r s (record s { token = t }) prologue l n
cleared r s t prologue l p mask n may told = did_nothing r s t prologue l (and_at p mask) n may told.0 told.2
    (clears_nothing r.plan.setup (view s).number (led_actor r s prologue) l p mask _ may.access)

pub stored : {T : Type 0} (r : Arena) (s : Seat T) (t : Token (Option T) (Beside T)) (prologue : Prologue) (l : Line) (p n : ℕ)
    → MayStep r s prologue l (store_at p n) → (t.table_id ≡ s.token.table_id) × (t.id ≡ s.token.id) × TellsNoneBeside r.key prologue s.token.me t.me
    → DidSome r s (counting (record s { token = t }) l) prologue l
stored r s t prologue l p n may told = (
  told.2.0,
  did_counted r s t prologue l (store_at p n) told.2.0 may told.0 told.2.1
      (stores_counted r.plan.setup (view s).number (led_actor r s prologue) l p n _ may.access),
)

module _ {T : Type 0} (r : Arena) (s : Seat T) (t : Token (Option T) (Beside T)) (prologue : Prologue) (l : Line) (p old new n : ℕ)
    (may : MayStep r s prologue l (exchange_at p old new)) (told : (t.table_id ≡ s.token.table_id) × (t.id ≡ s.token.id)
    × TellsBeside r.key prologue s.token.me n t.me) where
  abbrev at : Steps r.plan prologue l n (view s) (knows t.me.0.plain)
  at = steps_at r s (plain_me t.me) prologue l (exchange_at p old new) n may told.2.0

  pub won : n ≡ old → DidStep r s (counting (record s { token = t }) l) prologue l n
  won e = did_counted r s t prologue l (exchange_at p old new) n may told.0 told.2
      (subst (λ z. word_step z.bits (action z (view s).number (led_actor r s prologue) l) ≡ exchange_at p old new
      → number_at z at.was (view s).number (led_actor r s prologue) l ≡ old → Counts l
      (entries_at z at.was (view s).number (led_actor r s prologue) l)) at.setup
      (wins_counted at.was (view s).number (led_actor r s prologue) p old new at.reached at.before l at.line) may.access (sym at.found ∙ e))

  pub lost : n ≢ old → DidStep r s (record s { token = t }) prologue l n
  lost ne = did_nothing r s t prologue l (exchange_at p old new) n may told.0 told.2
      (subst (λ z. word_step z.bits (action z (view s).number (led_actor r s prologue) l) ≡ exchange_at p old new
      → number_at z at.was (view s).number (led_actor r s prologue) l ≢ old → entries_at z at.was (view s).number (led_actor r s prologue) l ≡ [])
      at.setup
      (loses_nothing at.was (view s).number (led_actor r s prologue) p old new at.reached at.before l at.line) may.access (λ e. ne (at.found ∙ e)))
