-- Which slots a step moved, and what it added to the history of values, by what it added to the seat's own entries.
use Rattle.std.proofs.Common.{◌≡◌, ◌≢◌, ℕ, ◌<◌, Bool, true, List, [], ◌∷◌, ◌++◌, length, append_assoc, Option, Some, None, sym, ap, ◌∙◌, subst}
use Rattle.std.specs.Coded.{le_prop}
use Rattle.std.proofs.Math.Logic.{∥∥₁_elim}
use mathlib.Core.Option.{some}
use Rattle.history.specs.declared.operations.Entry.{Entry}
use Rattle.history.specs.declared.operations.Entry.TheVariants.{Push, Pop, Shut}
use Rattle.history.specs.declared.operations.Taken.{Taken}
use Rattle.line_table.specs.declared.lines.Line.{Line}
use Rattle.node_arena.specs.declared.seats.Seat.{Seat}
use Rattle.node_arena.specs.Arenas.{Arena}
use Rattle.node_arena.specs.Prologues.{Prologue, after_prologue}
use Rattle.node_arena.specs.Deeds.{item, pushed, popped, closed}
use Rattle.line_table.specs.declared.lines.Line.TheVariants.{E9, D13}
use Rattle.line_steps.specs.Actors.{Actor}
use Rattle.line_steps.specs.Lines.{action}
use Rattle.step_machine.specs.Tables.{exchange_at, word_step}
use Rattle.node_arena.specs.Traces.{entries_at, number_at}
use Rattle.node_arena.specs.Beside.{slots_in, KnowsBy, HasLoaded, Effect, EffectBy}
use Rattle.node_arena.specs.Seats.{IsSeat, DidStep, KeepsSlots, HasNoSlot, carries_of, deeds_of, view}
use Rattle.node_arena.specs.Hands.{HasSlot, HasValue, AddsOwn}
use Rattle.node_arena.proofs.Lifts.{none_held}
use Rattle.node_arena.proofs.Counting.{wins_push, wins_pop, loses_nothing}

same_rest : (xs es fs : List Entry) → xs ++ es ≡ xs ++ fs → es ≡ fs
same_rest [] es fs e = e
same_rest (x ∷ xs) es fs e = same_rest xs es fs (ap rest_of e)
  where
    rest_of : List Entry → List Entry
    rest_of [] = []
    rest_of (y ∷ ys) = ys

-- the slot that is out with a seat is one of the table's
pub hand_there : {T : Type 0} (r : Arena) (s : Seat T) (i : ℕ) → IsSeat r s → carries_of r ≡ true → s.token.me.0.hand ≡ some i → i < r.plan.setup.size
hand_there r s i is carries e = ∥∥₁_elim is.sits.valued le_prop (λ k. (subst (λ (b : Bool). KnowsBy b r.plan (view s).seen s.token.me.0) carries k).there i e)

module _ {T : Type 0} (r : Arena) (s t : Seat T) (prologue : Prologue) (l : Line) (n : ℕ) (did : DidStep r s t prologue l n) (carries : carries_of r ≡ true) where
  pub effect : (es : List Entry) → (view t).mine ≡ (view s).mine ++ es → Effect (view s).number es s.token.me.0 s.token.me.1 t.token.me.0 t.token.me.1
  effect es is =
      let added : did.moves.0 ≡ es = same_rest (view s).mine did.moves.0 es (sym did.moves.1 ∙ is) in
      let P : List Entry × Bool → Type 0 = λ y. EffectBy y.1 (view s).number y.0 s.token.me t.token.me in
      subst P (λ i. (added i, carries i)) did.moves.2

  -- a step that added nothing moved no slot
  pub moved_nothing : (view t).mine ≡ (view s).mine ++ [] → KeepsSlots s t
  moved_nothing is = let e = effect [] is in record { same = e.0; hand = e.1; tries = did.moves.3; number = did.told.number; more = record { between = e.2.0; deeds = e.2.1 } }

  -- a push gave the slot of its body, in which the value lay
  pub moved_push : (me b : ℕ) (x : T) → (view t).mine ≡ (view s).mine ++ Push me b ∷ [] → HasSlot r s b (Some x) → HasNoSlot t × AddsOwn s t (pushed (view s).number x)
  moved_push me b x is has =
      let e = effect (Push me b ∷ []) is in
      let same : e.0 ≡ x = value_in e.0 (sym e.1 ∙ has.out) in
      ((ap length e.2, ap slots_in e.3), record { between = e.4.0; deeds = e.4.1 ∙ ap (λ y. (s.token.me.0.deeds ++ e.4.0) ++ pushed (view s).number y ∷ []) same })
    where
      value_or : List (ℕ × Option T) → T
      value_or [] = x
      value_or ((i, None) ∷ xs) = x
      value_or ((i, Some y) ∷ xs) = y

      value_in : (y : T) → ◌≡◌ {A = List (ℕ × Option T)} ((b, Some y) ∷ []) ((b, Some x) ∷ []) → y ≡ x
      value_in y q = ap value_or q

  -- a pop took the slot of its value's number, with the value that was pushed
  pub moved_pop : (me : ℕ) (v : Taken) → (view t).mine ≡ (view s).mine ++ Pop me v ∷ [] → HasNoSlot s → (x : T) × HasSlot r t v.body (Some x) × AddsOwn s t (popped (view s).number (item v.from x))
  moved_pop me v is none_out =
      let e = effect (Pop me v ∷ []) is in (
        e.0,
        record {
          carries = carries;
          there = hand_there r t v.body did.seat carries e.2;
          out = e.1 ∙ ap (λ held. (v.body, Some e.0) ∷ held)
              (none_held s.token.me.1 none_out.0);
          hand = e.2;
        },
        record { between = e.3.0; deeds = e.3.1 },
      )

  -- a shut moved no slot
  pub moved_shut : (me : ℕ) → (view t).mine ≡ (view s).mine ++ Shut me ∷ [] → KeepsSlots s t × AddsOwn s t (closed (view s).number)
  moved_shut me is =
      let e = effect (Shut me ∷ []) is in (
        record {
          same = e.0;
          hand = e.1;
          tries = did.moves.3;
          number = did.told.number;
          more = record {
            between = e.2.0 ++ closed (view s).number ∷ [];
            deeds =
                e.2.1 ∙ append_assoc (deeds_of s) e.2.0 (closed (view s).number ∷ []);
          };
        },
        record { between = e.2.0; deeds = e.2.1 },
      )

-- what an exchange at a line adds to the seat's own entries
module _ {T : Type 0} (r : Arena) (s t : Seat T) (prologue : Prologue) where
  abbrev led : Actor
  led = after_prologue r.plan.setup (view s).number prologue (view s).actor

  -- one that is won at E9 is a push
  pub won_push : (p old new n : ℕ) → led.line ≡ Some E9 → word_step r.plan.setup.bits (action r.plan.setup (view s).number led E9) ≡ exchange_at p old
      new → DidStep r s t prologue E9 n → n ≡ old → (view t).mine ≡ (view s).mine ++ Push (view s).number led.val.body ∷ []
  won_push p old new n line access did won =
      let told = did.told in
      told.mine ∙ ap (λ es. (view s).mine ++ es)
      (subst (λ z. word_step z.bits (action z (view s).number led E9) ≡ exchange_at p old new → number_at z told.was (view s).number led E9 ≡ old
      → entries_at z told.was (view s).number led E9 ≡ Push (view s).number led.val.body ∷ []) told.setup
      (wins_push told.was (view s).number led p old new told.reached told.before line) access (sym told.found ∙ won))

  -- one that is won at D13 is a pop
  pub won_pop : (p old new n : ℕ) → led.line ≡ Some D13 → word_step r.plan.setup.bits (action r.plan.setup (view s).number led D13) ≡ exchange_at p
      old new → DidStep r s t prologue D13 n → n ≡ old → (view t).mine ≡ (view s).mine ++ Pop (view s).number led.val ∷ []
  won_pop p old new n line access did won =
      let told = did.told in
      told.mine ∙ ap (λ es. (view s).mine ++ es)
      (subst (λ z. word_step z.bits (action z (view s).number led D13) ≡ exchange_at p old new → number_at z told.was (view s).number led D13 ≡ old
      → entries_at z told.was (view s).number led D13 ≡ Pop (view s).number led.val ∷ []) told.setup
      (wins_pop told.was (view s).number led p old new told.reached told.before line) access (sym told.found ∙ won))

  -- one that is lost adds nothing
  pub lost_adds : (l : Line) (p old new n : ℕ) → led.line ≡ Some l → word_step r.plan.setup.bits (action r.plan.setup (view s).number led l) ≡
      exchange_at p old new → DidStep r s t prologue l n → n ≢ old → (view t).mine ≡ (view s).mine ++ []
  lost_adds l p old new n line access did lost =
      let told = did.told in
      told.mine ∙ ap (λ es. (view s).mine ++ es)
      (subst (λ z. word_step z.bits (action z (view s).number led l) ≡ exchange_at p old new → number_at z told.was (view s).number led l ≢ old
      → entries_at z told.was (view s).number led l ≡ []) told.setup
      (loses_nothing told.was (view s).number led p old new told.reached told.before l line) access (λ e. lost (told.found ∙ e)))

-- a slot with a value in it is loaded for a line that pushes its number
pub loaded_by : {T : Type 0} (r : Arena) (s : Seat T) (b : ℕ) → HasValue r s b → HasLoaded r.plan b s.token.me
loaded_by r s b has carries = (has.0, has.1.out, has.1.hand, has.1.there)

-- a slot stays where no slot moved
pub kept_slot : {T : Type 0} (r : Arena) (s t : Seat T) (b : ℕ) (inside : Option T) → KeepsSlots s t → HasSlot r s b inside → HasSlot r t b inside
kept_slot r s t b inside kept has = record { carries = has.carries; there = has.there; out = kept.same ∙ has.out; hand = kept.hand ∙ has.hand }

-- a slot had what it has, where no slot moved
pub had_slot : {T : Type 0} (r : Arena) (s t : Seat T) (b : ℕ) (inside : Option T) → KeepsSlots s t → HasSlot r t b inside → HasSlot r s b inside
had_slot r s t b inside kept has = record { carries = has.carries; there = has.there; out = sym kept.same ∙ has.out; hand = sym kept.hand ∙ has.hand }

-- a slot has one value
pub one_value : {T : Type 0} (r : Arena) (s : Seat T) (b : ℕ) (x y : T) → HasSlot r s b (Some x) → HasSlot r s b (Some y) → x ≡ y
one_value {T} r s b x y h k = ap value_or (sym h.out ∙ k.out)
  where
    value_or : List (ℕ × Option T) → T
    value_or [] = x
    value_or ((i, None) ∷ xs) = x
    value_or ((i, Some z) ∷ xs) = z
