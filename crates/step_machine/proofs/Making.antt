-- What the calls of a world need of it, and what they keep: registers that can be used, room, and the list of moves.
use Rattle.std.proofs.Common.{◌≡◌, ◌≢◌, ℕ, ◌+◌, ◌-◌, ◌^◌, ◌<◌, ◌≤◌, ◌⊎◌, inl, inr, Option, Some, None, IfSome, List, length, get_or, map, set}
use Rattle.std.proofs.Common.{slice_get, vec_capacity, min, refl, sym, ap, ◌∙◌, subst, arith}
use Rattle.std.proofs.lemmas.Option.{slice_get_within}
use Rattle.line_steps.specs.Ready.{IsCounted}
use Rattle.line_steps.specs.Rooms.{Memory, grown}
use Rattle.step_machine.specs.Below.{reserved_node, Line, N1, D12, B4, Op, Stamped, Setup, Actor, Outcome, aside_after, begun, room_after, RegistersFit, ReadsFit}
use Rattle.counted_ref.proofs.Words.{span_most}
use Rattle.step_machine.specs.declared.actors.Move.{Move}
use Rattle.step_machine.specs.declared.world.WorldOf.TheInside.{Inside}
use Rattle.step_machine.specs.Machine.{World, actor_of, with_operation, next, IsMade, made as made_by}
use Rattle.step_machine.specs.Stored.{world, StoredInvariant}
use Rattle.step_machine.specs.Views.{wants_node, unrecorded, HasNodes, HasEntry}
use Rattle.step_machine.specs.Range.{WorldInRange, ActorInRange}
use Rattle.step_machine.specs.ProgramCounters.{NonNullAt}
use Rattle.step_machine.specs.Stamps.{makers}
use Rattle.step_machine.proofs.EachMove.{kept_after}
use Rattle.step_machine.proofs.StampsInvariants.{StampsInvariant, OperationAt}
use Rattle.step_machine.proofs.Giving.{GaveUp, begun_looks}
use Rattle.step_machine.proofs.Growth.{Settles, given_settles}
use Rattle.step_machine.proofs.Reached.{actor_in_range, made_next, made_reached, made_in_range, actor_stands, same_actor}
use Rattle.step_machine.proofs.EitherQueue.{stands_at}
use Rattle.step_machine.proofs.Rooms.{has_entry, begin_nodes, begin_entries, step_nodes, step_entries, room_after_within}

-- there is room for all nodes that were used
fresh_room : (w : World) (room : ℕ) → WorldInRange w → HasNodes w.setup.size w.shared.fresh room w.actors → w.shared.fresh ≤ room
fresh_room w room h (inl full) = let g : w.shared.fresh ≤ w.setup.size = h.shared.fresh in omega arith
fresh_room w room h (inr some) = omega arith

-- the registers of an actor of a made world can be used
ready : (w : World) (room me : ℕ) (a : Actor) → IsMade w → actor_of w me ≡ Some a → room ≤ w.setup.size → HasNodes w.setup.size w.shared.fresh room w.actors → RegistersFit w.setup room a
ready w room me a made at within nodes =
    let h : WorldInRange w = made_in_range w made in
    let some : w.shared.fresh ≤ room = fresh_room w room h nodes in
    let first : 1 ≤ w.shared.fresh = h.shared.some_fresh in
    let all : w.shared.fresh ≤ w.setup.size = h.shared.fresh in
    let r : ActorInRange w.setup w.shared.fresh (length w.actors) a = actor_in_range w me a h at in
    record {
      some = omega arith;
      few = within;
      f = omega (arith, r.registers.f);
      node = omega (arith, r.registers.node);
      mark = r.registers.mark;
      top_node = omega (arith, r.registers.top.node);
      top_count = r.registers.top.count;
      tail_node = omega (arith, r.registers.tail.node);
      tail_count = r.registers.tail.count;
      head_node = omega (arith, r.registers.head.node);
      head_count = r.registers.head.count;
      next_count = r.registers.next.count;
    }

-- where a line reads through the register `next`, it names a node
reads : (w : World) (room me : ℕ) (a : Actor) (l : Line) → IsMade w → actor_of w me ≡ Some a → a.line ≡ Some l → HasNodes w.setup.size w.shared.fresh room w.actors → ReadsFit l room a
reads w room me a l made at here nodes = go l (stands_at w (made_reached w made) me a l at here).1
  where
    h : WorldInRange w
    h = made_in_range w made

    is_node : (a.next.node ≤ w.shared.fresh) ⊎ (a.next.node ≡ reserved_node w.setup.bits) → a.next.node ≢ reserved_node w.setup.bits → a.next.node ≤ room
    is_node (inl low) other = let some : w.shared.fresh ≤ room = fresh_room w room h nodes in omega arith
    is_node (inr end) other = absurd (other end)

    go : (l : Line) → NonNullAt w.setup.bits l a → ReadsFit l room a
    go D12 n = is_node (actor_in_range w me a h at).registers.next.node n.2
    go B4 n = is_node (actor_in_range w me a h at).registers.next.node n.2
    go _ n = tt

-- where an actor's operation stands, there is one
entry_within : (w : World) (me : ℕ) (a : Actor) (l : Line) → IsMade w → actor_of w me ≡ Some a → a.line ≡ Some l → IfSome a.entry (λ e. e < length w.operations)
entry_within w me a l made at here =
    let K : List ℕ = makers (map made_by made.moves) in
    let h : StampsInvariant (Unit {0}) K w = kept_after w.setup made.actors (map made_by made.moves) w made.led in
    go a.entry (subst (λ o. OperationAt (Unit {0}) K w.operations me o a.entry a.due a.empty_at) here (h.actors me a at))
  where
    go : (entry : Option ℕ) → OperationAt (Unit {0}) (makers (map made_by made.moves)) w.operations me (Some l) entry a.due a.empty_at → IfSome entry (λ e. e < length w.operations)
    go None k = tt
    go (Some e) k = slice_get_within w.operations e k.0 k.1.here

-- there is room for the entry of an actor that has a call
entry_room : (w : World) (capacity me : ℕ) (a : Actor) (l : Line) → IsMade w → actor_of w me ≡ Some a → a.line ≡ Some l
    → length w.operations + unrecorded w.actors ≤ capacity → HasEntry a.entry (length w.operations) capacity
entry_room w capacity me a l made at here h = has_entry (length w.operations) capacity w.actors (me - 1) a l (actor_stands w me a at).1 here (entry_within w me a l made at here) h

-- the same of the actor as it is stored, among operations that are counted
pub entry_room_as : (bits : ℕ) (i : Inside bits) → StoredInvariant bits i → (me count : ℕ) (a b : Actor) (l : Line) → actor_of (world bits i) me ≡ Some a
    → a.line ≡ Some l → b ≡ a → count ≡ length i.operations.items → HasEntry b.entry count (vec_capacity i.operations)
entry_room_as bits i h me count a b l at here same counted =
    rw (same, counted) (entry_room (world bits i) (vec_capacity i.operations) me a l h.made at here h.entries)

-- what a step asks of the setup, and of the registers and the operation of the actor that the list lends
pub can_step : (bits : ℕ) (i : Inside bits) → StoredInvariant bits i → (me count : ℕ) (a b : Actor) (l : Line) → actor_of (world bits i) me ≡ Some a
    → a.line ≡ Some l → b ≡ get_or i.actors.items (me - 1) b → count ≡ length i.operations.items
    → IsCounted i.setup × (RegistersFit i.setup i.memory.room b × (ReadsFit l i.memory.room b × HasEntry b.entry count (vec_capacity i.operations)))
can_step bits i h me count a b l at here lent counted =
    let w = world bits i in
    let same : b ≡ a = same_actor w me a b at lent in
    let sized = (made_in_range w h.made).sized in (
      record { split = sized.split; size = sized.numbered; limit = sized.counted },
      (
        subst (RegistersFit i.setup i.memory.room) (sym same) (ready w i.memory.room me a h.made at h.within h.nodes),
        (
          subst (ReadsFit l i.memory.room) (sym same) (reads w i.memory.room me a l h.made at here h.nodes),
          entry_room_as bits i h me count a b l at here same counted,
        ),
      ),
    )

-- the room still serves after an actor was told an outcome
pub record Rooms (size fresh room capacity : ℕ) (actors : List Actor) (operations : List Stamped) : Type 0 where
  pub nodes : HasNodes size fresh room actors
  pub entries : length operations + unrecorded actors ≤ capacity

-- a move keeps what holds of each world, while step numbers are left and the room serves
pub kept_by : (bits : ℕ) (i j : Inside bits) (m : Move) → StoredInvariant bits i → next (world bits i) m ≡ Some (world bits j) → j.setup ≡ i.setup
    → j.steps < 2 ^ 64 → j.memory.room ≤ j.setup.size
    → Rooms j.setup.size j.memory.words.fresh j.memory.room (vec_capacity j.operations) j.actors.items j.operations.items → StoredInvariant bits j
kept_by bits i j m h moves same numbers within rooms =
    record {
      made = made_next (world bits i) (world bits j) m h.made moves;
      split = ap (λ (s : Setup). s.bits) same ∙ h.split;
      numbers = numbers;
      within = within;
      nodes = rooms.nodes;
      entries = rooms.entries;
    }

pub settled_rooms : (w : World) (room capacity more me : ℕ) (a : Actor) (l : Line) (o : Outcome) (fresh e : ℕ) (xs : List Actor) (ops : List Stamped) (new : Stamped) (change : Stamped → Stamped)
    → actor_of w me ≡ Some a → a.line ≡ Some l → fresh + wants_node o.actor.line ≤ w.shared.fresh + wants_node (Some l)
    → xs ≡ set w.actors (me - 1) (record o.actor { entry = Some e }) → ops ≡ with_operation a.entry new change w.operations
    → HasNodes w.setup.size w.shared.fresh room w.actors → length w.operations + unrecorded w.actors ≤ capacity → capacity ≤ more
    → Rooms w.setup.size fresh room more xs ops
settled_rooms w room capacity more me a l o fresh e xs ops new change at here grown actors operations nodes entries grows =
    let b : Actor = record o.actor { entry = Some e } in
    let i : slice_get w.actors (me - 1) ≡ Some a = (actor_stands w me a at).1 in
    let grown : fresh + wants_node o.actor.line ≤ w.shared.fresh + wants_node a.line = subst (λ k. fresh + wants_node o.actor.line ≤ w.shared.fresh + wants_node k) (sym here) grown in
    let n : HasNodes w.setup.size fresh room (set w.actors (me - 1) b) = step_nodes w.setup.size w.shared.fresh fresh room w.actors (me - 1) a b i grown nodes in
    let k : length (with_operation a.entry new change w.operations) + unrecorded (set w.actors (me - 1) b) ≤ more =
    step_entries w.operations new change capacity more w.actors (me - 1) a b l e i here refl entries grows in
    record {
      nodes = subst (HasNodes w.setup.size fresh room) (sym actors) n;
      entries = subst (λ ys. length ops + unrecorded ys ≤ more) (sym actors) (subst (λ zs. length zs + unrecorded (set w.actors (me - 1) b) ≤ more) (sym operations) k);
    }

-- after an actor gave up the room still serves
pub given_rooms : (bits : ℕ) (i : Inside bits) → StoredInvariant bits i → (more me : ℕ) (a : Actor) (l : Line) (o : Outcome) (m : Memory) (xs : List Actor)
    (ops : List Stamped) → actor_of (world bits i) me ≡ Some a → a.line ≡ Some l → GaveUp (world bits i) me (i.steps + 1) a l o xs ops
    → m ≡ record i.memory { aside = aside_after i.memory.aside o.aside } → vec_capacity i.operations ≤ more
    → Rooms i.setup.size m.words.fresh m.room more xs ops
given_rooms bits i h more me a l o m xs ops at here gave left enough =
    let settles : IfSome (Some o) (Settles (wants_node (Some l)) a.node) =
    subst (λ p. IfSome p (Settles (wants_node (Some l)) a.node)) gave.up (given_settles (i.steps + 1) a l) in
    let looks : wants_node o.actor.line ≤ wants_node (Some l) = settles.looks in
    let used : m.words.fresh ≡ i.memory.words.fresh = ap (λ (n : Memory). n.words.fresh) left in
    subst (λ n. Rooms i.setup.size m.words.fresh n more xs ops) (sym (ap (λ (n : Memory). n.room) left))
    (settled_rooms (world bits i) i.memory.room (vec_capacity i.operations) more me a l o m.words.fresh _ xs ops _ _ at here (omega arith)
    gave.actors_are gave.operations_are h.nodes h.entries enough)

begun_rooms : (w : World) (room more_room enough capacity me : ℕ) (a b : Actor) (fresh : ℕ) (xs : List Actor) (ops : List Stamped) → actor_of w me ≡ Some a
    → a.line ≡ None → (wants_node b.line ≡ 0) ⊎ (enough ≡ w.shared.fresh + length w.actors) → room ≤ w.setup.size → fresh ≡ w.shared.fresh
    → more_room ≡ room_after w.setup.size enough room → xs ≡ set w.actors (me - 1) b → length ops + length w.actors ≤ capacity
    → HasNodes w.setup.size w.shared.fresh room w.actors → Rooms w.setup.size fresh more_room capacity xs ops
begun_rooms w room more_room enough capacity me a b fresh xs ops at none looks within same kept actors fits nodes =
    let ys : List Actor = set w.actors (me - 1) b in
    let n : HasNodes w.setup.size w.shared.fresh (room_after w.setup.size enough room) ys =
    begin_nodes w.setup.size w.shared.fresh room enough w.actors (me - 1) a b within (actor_stands w me a at).1 (ap wants_node none) looks nodes in
    record {
      nodes =
          subst (HasNodes w.setup.size fresh more_room) (sym actors)
          (subst (λ k. HasNodes w.setup.size k more_room ys) (sym same) (subst (λ k. HasNodes w.setup.size w.shared.fresh k ys) (sym kept) n));
      entries = subst (λ zs. length ops + unrecorded zs ≤ capacity) (sym actors) (begin_entries (length ops) capacity w.actors (me - 1) b fits);
    }

-- an actor that began a call looks for no node, or room is wanted for those used and one for each actor
begun_wants : (w : World) (me wanted fresh actors : ℕ) (op : Op) (a b : Actor) → WorldInRange w → b ≡ begun w.setup.kind me op a → fresh ≡ w.shared.fresh
    → actors ≡ length w.actors → (b.line ≡ Some N1 → wanted ≡ min (fresh + actors) (2 ^ 64 - 1))
    → (wants_node b.line ≡ 0) ⊎ (wanted ≡ w.shared.fresh + length w.actors)
begun_wants w me wanted fresh actors op a b range made used counted wants =
    let few : w.shared.fresh + length w.actors < 2 ^ 64 - 1 = omega (arith, range.shared.fresh, range.sized.numbered, range.sized.few_actors, span_most w.setup.bits range.sized.split) in
    elim (subst (λ c. (wants_node c.line ≡ 0) ⊎ (c.line ≡ Some N1)) (sym made) (begun_looks w.setup.kind me op a)) [
      | inl none ↦ inl none
      | inr first ↦ inr (let h : wanted ≡ min (fresh + actors) (2 ^ 64 - 1) = wants first in omega (arith, h, few, used, counted))
    ]

-- after an actor began a call there is room for the nodes that it and the others may look for, and for one more entry each
pub begun_serves : (bits : ℕ) (i : Inside bits) → StoredInvariant bits i → (me : ℕ) (op : Op) (a b : Actor) (wanted fresh actors capacity : ℕ) (m : Memory)
    (xs : List Actor) (ops : List Stamped) → actor_of (world bits i) me ≡ Some a → a.line ≡ None → b ≡ begun i.setup.kind me op a
    → fresh ≡ i.memory.words.fresh → actors ≡ length i.actors.items → (b.line ≡ Some N1 → wanted ≡ min (fresh + actors) (2 ^ 64 - 1))
    → m ≡ grown wanted i.memory → xs ≡ set i.actors.items (me - 1) b → length ops + length i.actors.items ≤ capacity
    → (m.room ≤ i.setup.size) × Rooms i.setup.size m.words.fresh m.room capacity xs ops
begun_serves bits i h me op a b wanted fresh actors capacity m xs ops at none begins used counted wants grew kept fits =
    let w = world bits i in
    let range = made_in_range w h.made in
    let room : m.room ≡ room_after i.setup.size wanted i.memory.room =
    ap (λ (n : Memory). n.room) grew ∙ ap (λ n. room_after n wanted i.memory.room) range.shared.all_nodes in (
      subst (λ n. n ≤ i.setup.size) (sym room) (room_after_within i.setup.size wanted i.memory.room h.within),
      begun_rooms w i.memory.room m.room wanted capacity me a b m.words.fresh xs ops at none
          (begun_wants w me wanted fresh actors op a b range begins used counted wants) h.within (ap (λ (n : Memory). n.words.fresh) grew) room kept fits h.nodes,
    )
