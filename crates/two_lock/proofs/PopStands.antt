-- Where each line of a pop leads.
use Rattle.std.proofs.Common.{◌≡◌, ℕ, ◌+◌, Bool, true, false, nat_eq, if◌then◌else◌, Option, Some, sym, refl, ap, ◌∙◌, subst}
use Rattle.counted_ref.specs.Ref.{Ref, ref_of, is_null, is_shut}
use Rattle.line_table.specs.declared.lines.Line.{Line}
use Rattle.line_table.specs.declared.lines.Line.TheVariants.{B1, B2, B3, B4, B5, B6}
use Rattle.history.specs.declared.operations.Reply.TheVariants as reply
use Rattle.history.specs.declared.operations.Taken.{Taken}
use Rattle.history.specs.declared.refusals.Refusal.TheVariants.{WornOut, Closed}
use Rattle.history.specs.declared.refusals.WornWord.TheVariants.{Head as OfHead}
use Rattle.node_arena.specs.Machine.{Actor, Outcome, goes}
use Rattle.node_arena.specs.Traces.{outcome_at}
use Rattle.node_arena.specs.Prologues.{Prologue, continues, after_prologue}
use Rattle.node_arena.specs.Arenas.{Arena}
use Rattle.node_arena.specs.declared.seats.Seat.{Seat}
use Rattle.node_arena.specs.Seats.{IsBefore, DidStep, view}
use Rattle.node_arena.proofs.Paths.{settled, goes_on}
use Rattle.node_arena.specs.Machine.{value_of}
use Rattle.free_list.specs.declared.outcomes.RowOutcome.{RowOutcome}
use Rattle.free_list.specs.declared.outcomes.RowOutcome.TheVariants.{Goes, Ends}
use Rattle.free_list.specs.declared.outcomes.Reply.{Reply}
use Rattle.free_list.specs.declared.outcomes.Reply.TheVariants.{Value as IsValue, Empty as IsEmpty, Refused as IsRefused}
use Rattle.two_lock.specs.Pops.{Running, told_by, KnowsDue, AgreesAt, CallIsAt, Follows, follow}
use Rattle.two_lock.proofs.PopSteps.{ref_b2, ref_b3, value_b4}

-- where an outcome goes on, the seat stands there
abbrev pub StandsAt : {T : Type 0} → Arena → Seat T → RowOutcome Running → Type 0
StandsAt r t (Goes l a) = CallIsAt r t continues l a
StandsAt r t (Ends reply) = Unit {0}

-- a seat that stands where registers say nothing stands there with any registers
pub stands_b1 : {T : Type 0} (r : Arena) (t : Seat T) (prologue : Prologue) (a : Running) → IsBefore r t prologue B1 → CallIsAt r t prologue B1 a
stands_b1 r t prologue a h = record { before = h; knows = tt }

pub stands_b2 : {T : Type 0} (r : Arena) (t : Seat T) (a : Running) → IsBefore r t continues B2 → CallIsAt r t continues B2 a
stands_b2 r t a h = record { before = h; knows = tt }

module _ {T : Type 0} (r : Arena) (s t : Seat T) (prologue : Prologue) (n : ℕ) (a : Running) where
  abbrev b : Actor
  b = after_prologue r.plan.setup (view s).number prologue (view s).actor

  -- what the machine makes of the step
  abbrev out_at : (l : Line) → DidStep r s t prologue l n → Outcome
  out_at l d = outcome_at r.plan.setup d.told.was (view s).number b l

  -- a step with this outcome leads on to a line
  leads : (l : Line) (d : DidStep r s t prologue l n) (o : Outcome) → out_at l d ≡ o → (k : Line) (c : Running) → o.actor.line ≡ Some k
      → ((x : Option ℕ) → AgreesAt k (record o.actor { entry = x }) c) → CallIsAt r t continues k c
  leads l d o e k c line knows = record { before = goes_on r s t prologue l n d o e k line; knows = settled r s t prologue l n d o e (λ x. AgreesAt k x c) knows }

  module _ (h : CallIsAt r s prologue B1 a) (d : DidStep r s t prologue B1 n) where
    abbrev first : Bool → Outcome
    first p = if p then goes B2 b else goes B1 b

    went : (p : Bool) → nat_eq n 0 ≡ p → out_at B1 d ≡ first p
    went p e = ap first (ap (λ k. nat_eq k 0) (sym d.told.found) ∙ e)

    pub won_b1 : nat_eq n 0 ≡ true → IsBefore r t continues B2
    won_b1 e = goes_on r s t prologue B1 n d (first true) (went true e) B2 refl

    pub lost_b1 : nat_eq n 0 ≡ false → IsBefore r t continues B1
    lost_b1 e = goes_on r s t prologue B1 n d (first false) (went false e) B1 refl

  pub after_b2 : CallIsAt r s prologue B2 a → DidStep r s t prologue B2 n → CallIsAt r t continues B3 (record a { head = ref_of r.plan.setup.bits n })
  after_b2 h d = leads B2 d (out_at B2 d) refl B3 (record a { head = ref_of r.plan.setup.bits n }) refl (λ x. sym (ref_b2 r s t prologue n d))

  -- what is due is no value
  no_value : (x : Actor) (c : Running) (due : Reply) → ((word : ℕ) → Some due ≡ Some (IsValue word) → ⊥) → x.due ≡ told_by (Some due) → KnowsDue x c (Some due)
  no_value x c due other told = record { told = told; node = λ word f. absurd (other word f); mark = λ word f. absurd (other word f) }

  pub after_b3 : CallIsAt r s prologue B3 a → (d : DidStep r s t prologue B3 n) → StandsAt r t (follow r.plan.setup a B3 n)
  after_b3 h d = go (is_null (ref_of r.plan.setup.bits n)) (is_shut r.plan.setup.bits (ref_of r.plan.setup.bits n)) refl refl
    where
      third : Ref → (p q : Bool) → Outcome
      third next p q =
          let x = record b { next = next; empty_at = d.told.was.world.steps + 1 } in
          if p then goes B6 (record x { due = Some reply.Empty }) else if q then goes B6 (record x { due = Some (reply.Refused Closed) }) else goes B4 x

      went : (p q : Bool) → is_null (ref_of r.plan.setup.bits n) ≡ p → is_shut r.plan.setup.bits (ref_of r.plan.setup.bits n) ≡ q → out_at B3 d ≡ third (ref_of r.plan.setup.bits n) p q
      went p q e f = ap (λ x. third x (is_null x) (is_shut r.plan.setup.bits x)) (sym (ref_b3 r s t prologue n d)) ∙ (λ i. third (ref_of r.plan.setup.bits n) (e i) (f i))

      go : (p q : Bool) → is_null (ref_of r.plan.setup.bits n) ≡ p → is_shut r.plan.setup.bits (ref_of r.plan.setup.bits n) ≡ q
          → StandsAt r t (let c = record a { next = ref_of r.plan.setup.bits n } in if p then Goes B6 (record c { due = Some IsEmpty }) else if q then
          Goes B6 (record c { due = Some (IsRefused Closed) }) else Goes B4 c)
      go true q e f = leads B3 d (third (ref_of r.plan.setup.bits n) true q) (went true q e f) B6
          (record a { next = ref_of r.plan.setup.bits n; due = Some IsEmpty }) refl (λ x. no_value _ _ IsEmpty (λ word g. cc) refl)
      go false true e f = leads B3 d (third (ref_of r.plan.setup.bits n) false true) (went false true e f) B6
          (record a { next = ref_of r.plan.setup.bits n; due = Some (IsRefused Closed) }) refl
          (λ x. no_value _ _ (IsRefused Closed) (λ word g. cc) refl)
      go false false e f = leads B3 d (third (ref_of r.plan.setup.bits n) false false) (went false false e f) B4 (record a { next = ref_of r.plan.setup.bits n }) refl (λ x. (h.knows, refl))

  pub after_b4 : CallIsAt r s prologue B4 a → (d : DidStep r s t prologue B4 n) → StandsAt r t (follow r.plan.setup a B4 n)
  after_b4 h d = go (nat_eq a.head.count r.plan.setup.limit) refl
    where
      fourth : Taken → Bool → Outcome
      fourth v p = let x = record b { val = v } in if p then goes B6 (record x { due = Some (reply.Refused (WornOut OfHead)) }) else goes B5 x

      went : (p : Bool) → nat_eq a.head.count r.plan.setup.limit ≡ p → out_at B4 d ≡ fourth (value_of n) p
      went p e = ap (λ v. fourth v (nat_eq b.head.count r.plan.setup.limit)) (value_b4 r s t prologue n d) ∙ ap (fourth (value_of n))
          (ap (λ (x : Ref). nat_eq x.count r.plan.setup.limit) h.knows.0 ∙ e)

      go : (p : Bool) → nat_eq a.head.count r.plan.setup.limit ≡ p → StandsAt r t
          (let c = record a { val = n } in if p then Goes B6 (record c { due = Some (IsRefused (WornOut OfHead)) }) else Goes B5 c)
      go true e = leads B4 d (fourth (value_of n) true) (went true e) B6 (record a { val = n; due = Some (IsRefused (WornOut OfHead)) }) refl
          (λ x. no_value _ _ (IsRefused (WornOut OfHead)) (λ word f. cc) refl)
      go false e = leads B4 d (fourth (value_of n) false) (went false e) B5 (record a { val = n }) refl (λ x. (h.knows.0, h.knows.1, refl))

  pub after_b5 : CallIsAt r s prologue B5 a → DidStep r s t prologue B5 n → CallIsAt r t continues B6 (record a { node = a.head.node; mark = a.next.count; due = Some (IsValue a.val) })
  after_b5 h d =
      leads B5 d (out_at B5 d) refl B6 (record a { node = a.head.node; mark = a.next.count; due = Some (IsValue a.val) }) refl
      (λ x. record { told = ap (λ v. Some (reply.Value v)) h.knows.2; node = λ word f. ap (λ (y : Ref). y.node) h.knows.0; mark = λ word f. ap (λ (y : Ref). y.count) h.knows.1 })

-- the lines under the lock but its last one
abbrev pub IsUnderLock : Line → Type 0
IsUnderLock B2 = Unit {0}
IsUnderLock B3 = Unit {0}
IsUnderLock B4 = Unit {0}
IsUnderLock B5 = Unit {0}
IsUnderLock l = ⊥

-- a line under the lock leads on to where its outcome says
pub stands_next : {T : Type 0} (r : Arena) (s t : Seat T) (l k : Line) (a c : Running) → CallIsAt r s continues l a
    → Follows r s t continues l a (Goes k c) → IsUnderLock l → CallIsAt r t continues k c
stands_next r s t B2 k a c h f under = subst (StandsAt r t) (sym f.leads_to) (after_b2 r s t continues f.found a h f.did)
stands_next r s t B3 k a c h f under = subst (StandsAt r t) (sym f.leads_to) (after_b3 r s t continues f.found a h f.did)
stands_next r s t B4 k a c h f under = subst (StandsAt r t) (sym f.leads_to) (after_b4 r s t continues f.found a h f.did)
stands_next r s t B5 k a c h f under = subst (StandsAt r t) (sym f.leads_to) (after_b5 r s t continues f.found a h f.did)
stands_next r s t _ k a c h f under = absurd under
