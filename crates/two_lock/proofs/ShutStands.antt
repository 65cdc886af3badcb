-- Where each line of a shut leads.
use Rattle.std.proofs.Common.{◌≡◌, ℕ, ◌+◌, Bool, true, false, nat_eq, if◌then◌else◌, Option, Some, None, List, [], ◌∷◌, sym, refl, ap, ◌∙◌}
use Rattle.counted_ref.specs.Ref.{ref_of, null, same_ref}
use Rattle.line_table.specs.declared.lines.Line.{Line}
use Rattle.line_table.specs.declared.lines.Line.TheVariants.{S6, S7, S8, S9}
use Rattle.history.specs.declared.operations.Entry.{Entry}
use Rattle.history.specs.declared.operations.Entry.TheVariants.{Shut}
use Rattle.history.specs.declared.operations.Reply as replies
use Rattle.history.specs.declared.operations.Reply.TheVariants as reply
use Rattle.history.specs.declared.refusals.Refusal.TheVariants.{Closed}
use Rattle.node_arena.specs.Machine.{Actor, Outcome, WordTail, WordNext, node_at, goes, left}
use Rattle.node_arena.specs.Traces.{outcome_at, entries_at}
use Rattle.node_arena.specs.Prologues.{Prologue, after_prologue, continues}
use Rattle.node_arena.specs.Arenas.{Arena}
use Rattle.node_arena.specs.declared.seats.Seat.{Seat}
use Rattle.node_arena.specs.Seats.{DidStep, view}
use Rattle.node_arena.proofs.Paths.{settled, goes_on}
use Rattle.node_arena.proofs.Reading.{read_back}
use Rattle.node_arena.proofs.Told.{was_fits}
use Rattle.free_list.specs.declared.outcomes.Reply.TheVariants.{Done, Refused as IsRefused}
use Rattle.two_lock.specs.Pushes.{told_by}
use Rattle.two_lock.specs.Shuts.{Running, AgreesAt, KeepsPocket, CallIsAt}

module _ {T : Type 0} (r : Arena) (s t : Seat T) (prologue : Prologue) (n : ℕ) (a : Running) where
  abbrev b : Actor
  b = after_prologue r.plan.setup (view s).number prologue (view s).actor

  -- what the machine makes of the step
  abbrev out_at : (l : Line) → DidStep r s t prologue l n → Outcome
  out_at l d = outcome_at r.plan.setup d.told.was (view s).number b l

  -- a step leaves the pocket as it is
  kept : (l : Line) → CallIsAt r s prologue l a → DidStep r s t prologue l n → KeepsPocket t b
  kept l h d = h.pocket ∙ sym d.stored.pocket

  -- a step with this outcome leads on to a line
  leads : (l : Line) → CallIsAt r s prologue l a → (d : DidStep r s t prologue l n) (o : Outcome) → out_at l d ≡ o → (k : Line) (c : Running)
      → o.actor.line ≡ Some k → o.actor.pocket ≡ b.pocket → ((x : Option ℕ) → AgreesAt k (record o.actor { entry = x }) c)
      → CallIsAt r t continues k c
  leads l h d o e k c line pocket knows =
      record {
        before = goes_on r s t prologue l n d o e k line;
        pocket = settled r s t prologue l n d o e (KeepsPocket t) (λ x. pocket ∙ kept l h d);
        knows = settled r s t prologue l n d o e (λ x. AgreesAt k x c) knows;
      }

  module _ (h : CallIsAt r s prologue S6 a) (d : DidStep r s t prologue S6 n) where
    abbrev sixth : Bool → Outcome
    sixth p = if p then goes S7 b else goes S6 b

    went : (p : Bool) → nat_eq n 0 ≡ p → out_at S6 d ≡ sixth p
    went p e = ap sixth (ap (λ k. nat_eq k 0) (sym d.told.found) ∙ e)

    pub won_s6 : nat_eq n 0 ≡ true → (c : Running) → CallIsAt r t continues S7 c
    won_s6 e c = leads S6 h d (sixth true) (went true e) S7 c refl refl (λ x. tt)

    pub lost_s6 : nat_eq n 0 ≡ false → CallIsAt r t continues S6 a
    lost_s6 e = leads S6 h d (sixth false) (went false e) S6 a refl refl (λ x. tt)

  pub after_s7 : CallIsAt r s prologue S7 a → DidStep r s t prologue S7 n → CallIsAt r t continues S8 (record a { tail = ref_of r.plan.setup.bits n })
  after_s7 h d =
      leads S7 h d (out_at S7 d) refl S8 (record a { tail = ref_of r.plan.setup.bits n }) refl refl
      (λ x. sym (read_back r.plan.setup.bits d.told.sized.split d.told.was.world.shared.tail n (was_fits r.plan prologue S7 n (view s) (view t) d.told WordTail) d.told.found))

  module _ (h : CallIsAt r s prologue S8 a) (d : DidStep r s t prologue S8 n) where
    abbrev eighth : Bool → Outcome
    eighth p =
        if p then record (goes S9 (record b { due = Some reply.Done })) { at = Some (d.told.was.world.steps + 1) } else goes S9 (record b { due = Some (reply.Refused Closed) })

    test : (p : Bool) → same_ref (ref_of r.plan.setup.bits n) null ≡ p → same_ref (node_at d.told.was.world.shared b.tail.node).next null ≡ p
    test p e = ap (λ k. same_ref k null) (sym (read_back r.plan.setup.bits d.told.sized.split (node_at d.told.was.world.shared b.tail.node).next n
        (was_fits r.plan prologue S8 n (view s) (view t) d.told (WordNext b.tail.node)) d.told.found)) ∙ e

    abbrev added_there : List Entry
    added_there = entries_at r.plan.setup d.told.was (view s).number b S8

    -- a closed end was put behind the last node
    pub won_s8 : same_ref (ref_of r.plan.setup.bits n) null ≡ true → CallIsAt r t continues S9 (record a { due = Some Done }) × (added_there ≡ Shut (view s).number ∷ [])
    won_s8 e = (
      leads S8 h d (eighth true) (ap eighth (test true e)) S9 (record a { due = Some Done }) refl refl (λ x. refl),
      ap (λ q. if q then Shut (view s).number ∷ [] else []) (test true e),
    )

    -- the queue was found shut
    pub lost_s8 : same_ref (ref_of r.plan.setup.bits n) null ≡ false → CallIsAt r t continues S9 (record a { due = Some (IsRefused Closed) }) × (added_there ≡ [])
    lost_s8 e = (
      leads S8 h d (eighth false) (ap eighth (test false e)) S9 (record a { due = Some (IsRefused Closed) }) refl refl (λ x. refl),
      ap (λ q. if q then Shut (view s).number ∷ [] else []) (test false e),
    )

  -- the lock was let go, with a reply that `left` gives for what is due
  module _ (h : CallIsAt r s prologue S9 a) (d : DidStep r s t prologue S9 n) where
    abbrev ninth : Option replies.Reply → Outcome
    ninth due = left (d.told.was.world.steps + 1) due b

    ends : (due : Option replies.Reply) → b.due ≡ due → (ninth due).actor.line ≡ None → (ninth due).actor.pocket ≡ b.pocket → ((view t).actor.line ≡ None) × KeepsPocket t (view t).actor
    ends due is line pocket = settled r s t prologue S9 n d (ninth due) (ap ninth is) (λ x. (x.line ≡ None) × KeepsPocket t x) (λ x. (line, pocket ∙ kept S9 h d))

    -- done
    pub done_s9 : a.due ≡ Some Done → ((view t).actor.line ≡ None) × KeepsPocket t (view t).actor × ((out_at S9 d).reply ≡ Some reply.Done)
    done_s9 due =
        let is : b.due ≡ Some reply.Done = h.knows ∙ ap told_by due in
        let over = ends (Some reply.Done) is refl refl in
        (over.0, over.1, ap (λ q. (ninth q).reply) is)

    -- or refused
    pub shut_s9 : a.due ≡ Some (IsRefused Closed) → ((view t).actor.line ≡ None) × KeepsPocket t (view t).actor × ((out_at S9 d).reply ≡ Some (reply.Refused Closed))
    shut_s9 due =
        let is : b.due ≡ Some (reply.Refused Closed) = h.knows ∙ ap told_by due in
        let over = ends (Some (reply.Refused Closed)) is refl refl in
        (over.0, over.1, ap (λ q. (ninth q).reply) is)
