-- Which slots a step moved, and what it added to the history of values, by what it added to the seat's own entries; and the same of
-- steps in a row.
use Rattle.std.proofs.Common.{◌≡◌, ℕ, ◌<◌, Bool, true, false, List, [], ◌∷◌, ◌++◌, suc, length, Option, Some, None, Result, Ok, Err, OnOk, IfErr, sym}
use Rattle.std.proofs.Common.{refl, ap, ◌∙◌, subst, arith, append-nil, append_assoc, length-append}
use Rattle.std.proofs.Math.Logic.{∥∥₁_elim}
use Rattle.std.proofs.Math.Nat.{ℕ_set}
use Rattle.std.proofs.lemmas.List.{append_cancel_left}
use Rattle.std.specs.Coded.{le_prop}
use mathlib.Core.Option.{some, none}
use Rattle.atomic_table.specs.Table.{Me}
use Rattle.atomic_table.specs.Seated.{TableId}
use Rattle.history.specs.declared.operations.Entry.{Entry}
use Rattle.history.specs.declared.operations.Entry.TheVariants.{Push, Pop}
use Rattle.history.specs.declared.operations.Taken.{Taken}
use Rattle.history.specs.declared.refusals.Refusal.{Refusal}
use Rattle.node_arena.specs.Deeds.{Deed, item, pushed, popped}
use Rattle.node_arena.specs.Beside.{slots_in}
use Rattle.node_arena.proofs.Lifts.{none_held}
use Rattle.node_arena.proofs.Loads.{length-matches}
use Rattle.ring_queue.specs.declared.pops.Turn.{Turn}
use Rattle.ring_queue.specs.declared.pops.Turn.TheVariants.{Took, Empty, Closed, Failed}
use Rattle.ring_queue.specs.declared.seats.Seat.{Seat}
use Rattle.ring_queue.specs.Plans.{Layout}
use Rattle.ring_queue.specs.Steps.{pushes, pops}
use Rattle.ring_queue.specs.Beside.{Beside, EffectBy, IsReadyBy, KnowsBy, Moves, StoodFirst}
use Rattle.ring_queue.specs.Seats.{Sits, HasNoSlot, KeepsSlots, deeds_of, view}
use Rattle.ring_queue.specs.Hands.{AddsOwn, GivesSlot, HasSlot, IsLoaded, PopMoves, TakesSlot, TurnMoves}

-- the slot of what is pushed is ready
pub ready_push : {T : Type 0} (b : Bool) (slots n body : ℕ) (me : Me (Option T) (Beside T))
    → (b ≡ true → (x : T) × (me.1 ≡ (body, Some x) ∷ []) × (me.0.hand ≡ some body) × (body < slots)) → IsReadyBy b slots n (pushes n (body ∷ [])) me
ready_push true slots n body me l = let q = l refl in (refl, (q.0, q.1, q.2, q.3))
ready_push false slots n body me l = tt

-- for a pop nothing has to be ready, but that it is one
pub ready_pop : {T : Type 0} (b : Bool) (slots n : ℕ) (words : List ℕ) (me : Me (Option T) (Beside T)) → (b ≡ true → length words ≡ 1) → (b ≡ true → me.0.hand ≡ none) → IsReadyBy b slots n (pops n words) me
ready_pop true slots n [] me one empty = tt
ready_pop true slots n (w ∷ []) me one empty = (refl, empty refl)
ready_pop true slots n (w ∷ x ∷ ws) me one empty = absurd (let e : suc (suc (length ws)) ≡ 1 = one refl in omega (arith, e))
ready_pop false slots n words me one empty = tt

-- what is as long as before is the same
pub nothing_between : {T : Type 0} (ds es : List (Deed T)) → length (ds ++ es) ≡ length ds → ds ++ es ≡ ds
nothing_between ds [] e = append-nil ds
nothing_between ds (x ∷ xs) e = absurd (omega (arith, e, length-append ds (x ∷ xs)))

module _ {T : Type 0} where
  -- no slot moved over two steps
  pub stays_on : (s t u : Seat T) → KeepsSlots s t → KeepsSlots t u → KeepsSlots s u
  stays_on s t u f g =
      record {
        held = g.held ∙ f.held;
        hand = g.hand ∙ f.hand;
        between = f.between ++ g.between;
        deeds = g.deeds ∙ (ap (λ ds. ds ++ g.between) f.deeds ∙ append_assoc (deeds_of s) f.between g.between);
        said = (f.said.0 ++ g.said.0, g.said.1 ∙ (ap (λ ds. ds ++ g.said.0) f.said.1 ∙ append_assoc s.token.me.0.placing.deeds f.said.0 g.said.0));
      }

  -- nor did one at no step
  pub stays_here : (s : Seat T) → KeepsSlots s s
  stays_here s = record { held = refl; hand = refl; between = []; deeds = sym (append-nil (deeds_of s)); said = ([], sym (append-nil s.token.me.0.placing.deeds)) }

  -- so no slot is out that wasn't
  pub none_stays : (s t : Seat T) → KeepsSlots s t → HasNoSlot s → HasNoSlot t
  none_stays s t k none_out = (ap length k.held ∙ none_out.0, ap slots_in k.hand ∙ none_out.1)

  -- where values are carried
  pub none_still : {b : Bool} (s t : Seat T) → KeepsSlots s t → (b ≡ true → HasNoSlot s) → b ≡ true → HasNoSlot t
  none_still s t k none_out carried = none_stays s t k (none_out carried)

  -- a deed behind steps that add none, and before such that see nothing
  abbrev then_adds : (s t u : Seat T) (d d' : Deed T) → d ≡ d' → KeepsSlots s t → AddsOwn t u d → AddsOwn s u d'
  then_adds s t u d d' same k adds =
      record {
        between = k.between ++ adds.between;
        deeds = adds.deeds ∙ (λ i. (k.deeds i ++ adds.between) ++ same i ∷ []) ∙ ap (λ ds. ds ++ d' ∷ []) (append_assoc (deeds_of s) k.between adds.between);
      }

-- a call that was refused behind steps that move none moves none
pub kept_after : {T : Type 0} (s t u : Seat T) (out : Result (Unit {0}) Refusal) → KeepsSlots s t → IfErr out (λ _. KeepsSlots t u) → IfErr out (λ _. KeepsSlots s u)
kept_after s t u (Ok x) k kept = tt
kept_after s t u (Err e) k kept = stays_on s t u k kept

module _ {T : Type 0} (z : Layout) where
  -- what a step moved that added these
  effect : (s t : Seat T) (all es : List Entry) → Moves z.carries all s.token.me t.token.me → (view t).mine ≡ (view s).mine ++ es → EffectBy z.carries (view s).number es s.token.me t.token.me
  effect s t all es m is = subst (λ (xs : List Entry). EffectBy z.carries (view s).number xs s.token.me t.token.me) (append_cancel_left (view s).mine m.0 es (sym m.2 ∙ is)) m.3

  -- one that added nothing moved no slot
  pub kept_none : (s t : Seat T) (all : List Entry) → Moves z.carries all s.token.me t.token.me → (view t).mine ≡ (view s).mine → KeepsSlots s t
  kept_none s t all m is = go z.carries (effect s t all [] m (is ∙ sym (append-nil (view s).mine)))
    where
      go : (b : Bool) → EffectBy b (view s).number [] s.token.me t.token.me → KeepsSlots s t
      go true e = record { held = e.0; hand = e.1; between = e.2.0; deeds = e.2.1; said = m.4 }
      go false e = record { held = e.0; hand = e.1; between = []; deeds = e.2 ∙ sym (append-nil (deeds_of s)); said = m.4 }

  -- one that pushed gave the seat's slot
  pub gave_slot : (s t : Seat T) (all : List Entry) (me body : ℕ) → Moves z.carries all s.token.me t.token.me → (view t).mine ≡ (view s).mine ++ Push me body ∷ [] → GivesSlot z body s t
  gave_slot s t all me body m is carried =
      let e = subst (λ (b : Bool). EffectBy b (view s).number (Push me body ∷ []) s.token.me t.token.me) carried (effect s t all (Push me body ∷ []) m is) in
      ((ap length e.2, ap slots_in e.3), (e.0, e.1, record { between = e.4.0; deeds = e.4.1 }))

  -- one that popped took the slot that its number names
  pub took_slot : (s t : Seat T) (all : List Entry) (me : ℕ) (v : Taken) → Moves z.carries all s.token.me t.token.me → (view t).mine ≡ (view s).mine ++ Pop me v ∷ [] → TakesSlot z v s t
  took_slot s t all me v m is carried =
      let e = subst (λ (b : Bool). EffectBy b (view s).number (Pop me v ∷ []) s.token.me t.token.me) carried (effect s t all (Pop me v ∷ []) m is) in
      (e.0, e.1, e.2, record { adds = record { between = e.3.0; deeds = e.3.1 }; stood = e.3.2 })

  -- behind steps that move none
  pub then_gives : (body : ℕ) (s t u : Seat T) → (view t).number ≡ (view s).number → KeepsSlots s t → GivesSlot z body t u → GivesSlot z body s u
  then_gives body s t u number k gives carried =
      let e = gives carried in
      (e.0, (e.1.0, sym k.held ∙ e.1.1, then_adds s t u (pushed (view t).number e.1.0) (pushed (view s).number e.1.0) (ap (λ n. pushed n e.1.0) number) k e.1.2))

  pub then_takes : (v : Taken) (s t u : Seat T) → (view t).number ≡ (view s).number → KeepsSlots s t → TakesSlot z v t u → TakesSlot z v s u
  then_takes v s t u number k takes carried =
      let e = takes carried in
      let front = item v.from e.0 in (
        e.0,
        e.1 ∙ ap (λ held. (v.body, Some e.0) ∷ held) k.held,
        e.2,
        record {
          adds = then_adds s t u (popped (view t).number front) (popped (view s).number front) (ap (λ n. popped n front) number) k e.3.adds;
          stood = subst (λ ds. StoodFirst ds front) (ap (λ ds. ds ++ e.3.adds.between) k.deeds ∙ append_assoc (deeds_of s) k.between e.3.adds.between) e.3.stood;
        },
      )

  -- a turn of a pop, and what it answers
  pub turn_moves : (s t u : Seat T) (turn : Turn) → (view t).number ≡ (view s).number → KeepsSlots s t → TurnMoves z t u turn → TurnMoves z s u turn
  turn_moves s t u (Took v) number k m = then_takes v s t u number k m
  turn_moves s t u Empty number k m = stays_on s t u k m
  turn_moves s t u Closed number k m = stays_on s t u k m
  turn_moves s t u Failed number k m = stays_on s t u k m

  pub then_moves : (s t u : Seat T) (out : Option Taken) → (view t).number ≡ (view s).number → KeepsSlots s t → PopMoves z t u out → PopMoves z s u out
  then_moves s t u (Some v) number k m = then_takes v s t u number k m
  then_moves s t u None number k m = stays_on s t u k m

  -- the slot stays loaded
  pub still_loaded : (body : ℕ) (s t : Seat T) → KeepsSlots s t → IsLoaded z body s → IsLoaded z body t
  still_loaded body s t k loaded carried = let l = loaded carried in (l.0, k.held ∙ l.1, k.hand ∙ l.2, l.3)

  -- a push behind steps that move none
  pub gives_after : (body : ℕ) (s t u : Seat T) (out : Result (Unit {0}) Refusal) → (view t).number ≡ (view s).number → KeepsSlots s t
      → OnOk out (GivesSlot z body t u) → OnOk out (GivesSlot z body s u)
  gives_after body s t u (Ok x) number k gives = then_gives body s t u number k gives
  gives_after body s t u (Err e) number k gives = tt

  module _ (id : TableId) where
    -- a seat of a ring that carries values has seen as many deeds as entries
    length-deeds : (s : Seat T) → Sits z id s → z.carries ≡ true → length (deeds_of s) ≡ length (view s).seen
    length-deeds s is carried = ∥∥₁_elim is.valued (ℕ_set (length (deeds_of s)) (length (view s).seen))
        (λ k. length-matches (view s).seen (deeds_of s) (subst (λ (b : Bool). KnowsBy b z (view s).seen s.token.me.0) carried k).matches)

    -- where nothing more is seen of the queue, nothing more is seen of its values
    same_deeds : (s t : Seat T) → Sits z id s → Sits z id t → z.carries ≡ true → KeepsSlots s t → (view t).seen ≡ (view s).seen → deeds_of t ≡ deeds_of s
    same_deeds s t is it carried k same =
        let long : length (deeds_of s ++ k.between) ≡ length (deeds_of s) = sym (ap length k.deeds) ∙ (length-deeds t it carried ∙ (ap length same ∙ sym (length-deeds s is carried))) in
        k.deeds ∙ nothing_between (deeds_of s) k.between long

    -- before steps that see nothing
    pub gives_then : (body : ℕ) (s t u : Seat T) → GivesSlot z body s t → Sits z id t → Sits z id u → KeepsSlots t u → (view u).seen ≡ (view t).seen → GivesSlot z body s u
    gives_then body s t u gives it iu k same carried =
        let e = gives carried in
        let adds = e.1.2 in
        ((ap length k.held ∙ e.0.0, ap slots_in k.hand ∙ e.0.1), (e.1.0, e.1.1, record { between = adds.between; deeds = same_deeds t u it iu carried k same ∙ adds.deeds }))

    -- a slot that is out with a seat is one of the table's
    hand_there : (s : Seat T) (i : ℕ) → Sits z id s → z.carries ≡ true → s.token.me.0.hand ≡ some i → i < z.slots
    hand_there s i is carried e = ∥∥₁_elim is.valued le_prop (λ k. (subst (λ (b : Bool). KnowsBy b z (view s).seen s.token.me.0) carried k).there i e)

    -- a seat that had no slot has that of the value that it popped
    pub has_taken : (v : Taken) (s t : Seat T) → Sits z id t → HasNoSlot s → (carried : z.carries ≡ true) → (takes : TakesSlot z v s t) → HasSlot z t v.body (Some (takes carried).0)
    has_taken v s t it none_out carried takes =
        let e = takes carried in
        record { carries = carried; there = hand_there t v.body it carried e.2; out = e.1 ∙ ap (λ held. (v.body, Some e.0) ∷ held) (none_held s.token.me.1 none_out.0); hand = e.2 }
