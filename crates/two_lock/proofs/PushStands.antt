-- Where each line of a push leads.
use Rattle.std.proofs.Common.{◌≡◌, ℕ, ◌+◌, Bool, true, false, nat_eq, if◌then◌else◌, Option, Some, None, [], ◌∷◌, sym, refl, ap, ◌∙◌}
use Rattle.counted_ref.specs.Ref.{ref_of, null, same_ref}
use Rattle.line_table.specs.declared.lines.Line.{Line}
use Rattle.line_table.specs.declared.lines.Line.TheVariants.{A1, A2, A3, A4, A5, A6, A7}
use Rattle.node_arena.specs.Machine.{Actor, Outcome, node_at, goes, empties_hand, left_with_node}
use Rattle.node_arena.specs.Traces.{outcome_at, entries_at}
use Rattle.history.specs.declared.operations.Entry.TheVariants.{Push}
use Rattle.history.specs.declared.operations.Reply.TheVariants as reply
use Rattle.history.specs.declared.refusals.Refusal.TheVariants.{Closed}
use Rattle.node_arena.specs.Prologues.{Prologue, continues, after_prologue}
use Rattle.node_arena.specs.Arenas.{Arena}
use Rattle.node_arena.specs.declared.seats.Seat.{Seat}
use Rattle.node_arena.specs.Seats.{DidStep, view}
use Rattle.node_arena.proofs.Known.{empty_before}
use Rattle.node_arena.proofs.Paths.{settled, goes_on}
use Rattle.free_list.specs.declared.outcomes.Reply.TheVariants.{Done, Refused as IsRefused}
use Rattle.two_lock.specs.Pushes.{Running, in_hand, told_by, HasNode, AgreesAt, CallIsAt}
use Rattle.two_lock.proofs.PushSteps.{ref_a4, ref_a5}

module _ {T : Type 0} (r : Arena) (s t : Seat T) (prologue : Prologue) (n : ℕ) (a : Running) where
  abbrev b : Actor
  b = after_prologue r.plan.setup (view s).number prologue (view s).actor

  -- what the machine makes of the step
  abbrev out_at : (l : Line) → DidStep r s t prologue l n → Outcome
  out_at l d = outcome_at r.plan.setup d.told.was (view s).number b l

  -- a step with this outcome leads on to a line
  leads : (l : Line) (d : DidStep r s t prologue l n) (o : Outcome) → out_at l d ≡ o → (k : Line) (c : Running) → o.actor.line ≡ Some k
      → HasNode o.actor c → ((x : Option ℕ) → AgreesAt k (record o.actor { entry = x }) c) → CallIsAt r t continues k c
  leads l d o e k c line hand knows =
      record {
        before = goes_on r s t prologue l n d o e k line;
        hand = settled r s t prologue l n d o e (λ x. HasNode x c) (λ x. hand);
        knows = settled r s t prologue l n d o e (λ x. AgreesAt k x c) knows;
      }

  pub after_a1 : CallIsAt r s prologue A1 a → DidStep r s t prologue A1 n → CallIsAt r t continues A2 a
  after_a1 h d = leads A1 d (out_at A1 d) refl A2 a refl h.hand (λ x. tt)

  pub after_a2 : CallIsAt r s prologue A2 a → DidStep r s t prologue A2 n → CallIsAt r t continues A3 a
  after_a2 h d = leads A2 d (out_at A2 d) refl A3 a refl h.hand (λ x. tt)

  module _ (h : CallIsAt r s prologue A3 a) (d : DidStep r s t prologue A3 n) where
    abbrev third : Bool → Outcome
    third p = if p then goes A4 b else goes A3 b

    went : (p : Bool) → nat_eq n 0 ≡ p → out_at A3 d ≡ third p
    went p e = ap third (ap (λ k. nat_eq k 0) (sym d.told.found) ∙ e)

    pub won_a3 : nat_eq n 0 ≡ true → CallIsAt r t continues A4 a
    won_a3 e = leads A3 d (third true) (went true e) A4 a refl h.hand (λ x. tt)

    pub lost_a3 : nat_eq n 0 ≡ false → CallIsAt r t continues A3 a
    lost_a3 e = leads A3 d (third false) (went false e) A3 a refl h.hand (λ x. tt)

  pub after_a4 : CallIsAt r s prologue A4 a → DidStep r s t prologue A4 n → CallIsAt r t continues A5 (record a { tail = ref_of r.plan.setup.bits n })
  after_a4 h d = leads A4 d (out_at A4 d) refl A5 (record a { tail = ref_of r.plan.setup.bits n }) refl h.hand (λ x. sym (ref_a4 r s t prologue n d))

  module _ (h : CallIsAt r s prologue A5 a) (d : DidStep r s t prologue A5 n) where
    abbrev fifth : Bool → Outcome
    fifth p =
        if p then record (goes A6 (empties_hand (record b { due = Some reply.Done }))) { at = Some (d.told.was.world.steps + 1) } else goes A7 (record b { due = Some (reply.Refused Closed) })

    test : (p : Bool) → same_ref (ref_of r.plan.setup.bits n) null ≡ p → same_ref (node_at d.told.was.world.shared b.tail.node).next null ≡ p
    test p e = ap (λ k. same_ref k null) (sym (ref_a5 r s t prologue n d)) ∙ e

    -- the node was linked
    pub won_a5 : same_ref (ref_of r.plan.setup.bits n) null ≡ true → CallIsAt r t continues A6 (record a { due = Some Done })
        × (entries_at r.plan.setup d.told.was (view s).number b A5 ≡ Push (view s).number b.val.body ∷ [])
    won_a5 e = (
      leads A5 d (fifth true) (ap fifth (test true e)) A6 (record a { due = Some Done }) refl h.hand (λ x. refl),
      ap (λ q. if q then Push (view s).number b.val.body ∷ [] else []) (test true e),
    )

    -- the queue was found shut
    pub lost_a5 : same_ref (ref_of r.plan.setup.bits n) null ≡ false → CallIsAt r t continues A7 (record a { due = Some (IsRefused Closed) })
        × (entries_at r.plan.setup d.told.was (view s).number b A5 ≡ [])
    lost_a5 e = (
      leads A5 d (fifth false) (ap fifth (test false e)) A7 (record a { due = Some (IsRefused Closed) }) refl h.hand (λ x. refl),
      ap (λ q. if q then Push (view s).number b.val.body ∷ [] else []) (test false e),
    )

  pub after_a6 : CallIsAt r s prologue A6 a → DidStep r s t prologue A6 n → CallIsAt r t continues A7 a
  after_a6 h d = leads A6 d (out_at A6 d) refl A7 a refl h.hand (λ x. h.knows)

  -- the lock was let go after a push
  pub after_a7 : CallIsAt r s prologue A7 a → (d : DidStep r s t prologue A7 n) → a.due ≡ Some Done → ((view t).actor.line ≡ None)
      × ((view t).actor.pocket ≡ None) × ((out_at A7 d).reply ≡ Some reply.Done)
  after_a7 h d due =
      let is : out_at A7 d ≡ left_with_node (d.told.was.world.steps + 1) (Some reply.Done) b = ap (λ q. left_with_node (d.told.was.world.steps + 1) q b) (h.knows ∙ ap told_by due) in
      let over = settled r s t prologue A7 n d _ is (λ x. (x.line ≡ None) × (x.pocket ≡ None)) (λ x. (refl, empty_before r s prologue A7 h.before)) in
      (over.0, over.1, ap (λ o. o.reply) is)

  -- and where the queue was found shut: the node is in the pocket
  pub shut_a7 : CallIsAt r s prologue A7 a → (d : DidStep r s t prologue A7 n) → a.due ≡ Some (IsRefused Closed) → ((view t).actor.line ≡ None)
      × ((view t).actor.pocket ≡ Some (in_hand a)) × ((out_at A7 d).reply ≡ Some (reply.Refused Closed))
  shut_a7 h d due =
      let is : out_at A7 d ≡ left_with_node (d.told.was.world.steps + 1) (Some (reply.Refused Closed)) b = ap (λ q. left_with_node (d.told.was.world.steps + 1) q b) (h.knows ∙ ap told_by due) in
      let over = settled r s t prologue A7 n d _ is (λ x. (x.line ≡ None) × (x.pocket ≡ Some (in_hand a))) (λ x. (refl, λ i. Some (record { node = h.hand.node i; mark = h.hand.mark i }))) in
      (over.0, over.1, ap (λ o. o.reply) is)
