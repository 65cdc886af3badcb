-- One push and one pop of a value by hand, by the laws of the arena's steps.
use Rattle.std.proofs.Common.{◌≡◌, ◌≢◌, ℕ, [], ◌∷◌, ◌++◌, true, length, Some, sym, ap, ◌∙◌, subst}
use Rattle.line_table.specs.declared.lines.Line.TheVariants.{E9, D13}
use Rattle.step_machine.specs.Tables.{WordStep, exchange_at}
use Rattle.node_arena.specs.declared.seats.Seat.{Seat}
use Rattle.node_arena.specs.Arenas.{Arena}
use Rattle.node_arena.specs.Prologues.{Prologue, after_prologue}
use Rattle.node_arena.specs.Deeds.{Deed}
use Rattle.history.specs.declared.operations.Entry.TheVariants.{Push}
use Rattle.node_arena.specs.Beside.{slots_in, HasLoaded}
use Rattle.node_arena.specs.Seats.{MayStep, DidStep, KeepsSlots, HasNoSlot, carries_of, view}
use Rattle.node_arena.specs.Hands.{HasSlot, HasValue, KeepsKnown, AddsOwn, SeesMoreDeeds}
use Rattle.node_arena.proofs.Moved.{moved_nothing, moved_push, moved_pop, won_push, won_pop, lost_adds, loaded_by}
use Rattle.worked_runs.specs.Steps.{MayPush, MayPop, PushedIt, PoppedIt}

module _ {T : Type 0} (r : Arena) (s : Seat T) (prologue : Prologue) (b : ℕ) where
  pub push_step : (x : WordStep) → MayPush r s prologue b x → HasValue r s b → MayStep r s prologue E9 x
  push_step x may has =
      record {
        seat = may.seat;
        leads = may.leads;
        line = may.line;
        access = may.access;
        permits = may.permits;
        loaded = subst (λ (k : ℕ). HasLoaded r.plan k s.token.me) (sym may.carried) (loaded_by r s b has);
      }

  pub pop_step : (x : WordStep) → MayPop r s prologue b x → HasNoSlot s → MayStep r s prologue D13 x
  pop_step x may none_out = record { seat = may.seat; leads = may.leads; line = may.line; access = may.access; permits = may.permits; loaded = λ _. none_out }

  pub pushed_it : (t : Seat T) (p old new n : ℕ) → MayPush r s prologue b (exchange_at p old new) → HasValue r s b → DidStep r s t prologue E9 n → n ≡ old → HasNoSlot t × PushedIt r s t b
  pushed_it t p old new n may has did won =
      let added = won_push r s t prologue p old new n may.line may.access did won in
      let at = subst (λ (k : ℕ). (view t).mine ≡ (view s).mine ++ Push (view s).number k ∷ []) may.carried added in
      let moved = moved_push r s t prologue E9 n did has.1.carries (view s).number b has.0 at has.1 in
      (moved.0, (has.0, has.1, moved.1))

  pub kept_it : (t : Seat T) (p old new n : ℕ) → MayPush r s prologue b (exchange_at p old new) → HasValue r s b → DidStep r s t prologue E9 n → n ≢ old → KeepsSlots s t
  kept_it t p old new n may has did lost = moved_nothing r s t prologue E9 n did has.1.carries (lost_adds r s t prologue E9 p old new n may.line may.access did lost)

  pub popped_it : (t : Seat T) (p old new n : ℕ) → MayPop r s prologue b (exchange_at p old new) → HasNoSlot s → carries_of r ≡ true
      → DidStep r s t prologue D13 n → n ≡ old → (x : T) × HasSlot r t b (Some x) × PoppedIt s t x
  popped_it t p old new n may none_out carries did won =
      let added = won_pop r s t prologue p old new n may.line may.access did won in
      let a = after_prologue r.plan.setup (view s).number prologue (view s).actor in
      let moved = moved_pop r s t prologue D13 n did carries (view s).number a.val added none_out in
      (moved.0, subst (λ (k : ℕ). HasSlot r t k (Some moved.0)) may.carried moved.1, (a.val.from, moved.2))

  pub missed_it : (t : Seat T) (p old new n : ℕ) → MayPop r s prologue b (exchange_at p old new) → HasNoSlot s → carries_of r ≡ true
      → DidStep r s t prologue D13 n → n ≢ old → HasNoSlot t × SeesMoreDeeds s t
  missed_it t p old new n may none_out carries did lost =
      let kept = moved_nothing r s t prologue D13 n did carries (lost_adds r s t prologue D13 p old new n may.line may.access did lost) in
      ((ap length kept.same ∙ none_out.0, ap slots_in kept.hand ∙ none_out.1), kept.more)

-- a deed stands where the slot was emptied and given back since
pub adds_still : {T : Type 0} (s t u w : Seat T) (d : Deed T) → AddsOwn s t d → KeepsKnown t u → KeepsKnown u w → AddsOwn s w d
adds_still s t u w d a k l = record { between = a.between; deeds = l.deeds ∙ (k.deeds ∙ a.deeds) }

pub sees_still : {T : Type 0} (s t u w : Seat T) → SeesMoreDeeds s t → KeepsKnown t u → KeepsKnown u w → SeesMoreDeeds s w
sees_still s t u w a k l = record { between = a.between; deeds = l.deeds ∙ (k.deeds ∙ a.deeds) }
