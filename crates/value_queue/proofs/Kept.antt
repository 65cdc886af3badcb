-- What was told of a seat is so of one that stores and knows the same.
use Rattle.std.proofs.Common.{◌≡◌, ℕ, ◌+◌, Option, length, drop, sym, ap, subst, ◌∙◌, IfSome, IsSomeAnd}
use Rattle.history.specs.declared.refusals.Refusal.{Refusal}
use Rattle.history.specs.declared.refusals.Refusal.TheVariants.{WornOut, Busy, Closed}
use Rattle.history.specs.declared.refusals.WornWord.{WornWord}
use Rattle.node_arena.specs.Machine.{Held}
use Rattle.node_arena.specs.Arenas.{Arena}
use Rattle.node_arena.specs.declared.seats.Seat.{Seat}
use Rattle.node_arena.specs.Knowledge.{SeatView}
use Rattle.node_arena.specs.Hands.{KeepsKnown}
use Rattle.node_arena.specs.Seats.{KeepsName, SeesMoreDeeds, view}
use Rattle.node_arena.specs.Paths.{ExtendsPath, FindsShut, StopsAPush, FailedAt, EndedAt, IsRefusedAt, MetCause, added}
use Rattle.node_arena.specs.Turns.{failed_turns}
use Rattle.arena_queue.specs.Answers.{KeepsNode, PushWithNodeCaused}

module _ {T : Type 0} (s x y : Seat T) (k : KeepsKnown x y) where
  -- what was added to its path
  pub added_still : added s y ≡ added s x
  added_still = ap (λ (v : SeatView). drop (length (view s).path) v.path) k.view

  -- its name
  pub name_still : KeepsName s x → KeepsName s y
  name_still name = record { number = k.stored.number ∙ name.number; role = k.stored.role ∙ name.role; keeps = k.stored.keeps ∙ name.keeps }

  -- what it had seen of values goes on
  pub more_still : SeesMoreDeeds s x → SeesMoreDeeds s y
  more_still more = record { between = more.between; deeds = k.deeds ∙ more.deeds }

  -- the cause that its last step met
  met_still : (r : Arena) (refusal : Refusal) → MetCause r s x refusal → MetCause r s y refusal
  met_still r refusal f = subst (λ (v : SeatView). EndedAt r s v.ran (drop (length (view s).path) v.path) (IsRefusedAt r.plan.setup (view s).number refusal)) (sym k.view) f

  -- a push that was refused
  pub stops_still : (refusal : Refusal) → StopsAPush s x refusal → StopsAPush s y refusal
  stops_still Closed f = subst (λ (v : SeatView). FindsShut (view s) v (drop (length (view s).path) v.path)) (sym k.view) f
  stops_still _ f = subst (λ (v : SeatView). ExtendsPath (view s) v (drop (length (view s).path) v.path)) (sym k.view) f

  -- and its cause
  pub cause_still : (worn : WornWord → Option Held → Type 0) (r : Arena) (node spent turns : ℕ) (refusal : Refusal)
      → PushWithNodeCaused worn r s x node spent turns refusal → PushWithNodeCaused worn r s y node spent turns refusal
  cause_still worn r node spent turns Busy f =
      subst (λ es. (spent + failed_turns es ≡ turns) × FailedAt es × KeepsNode y node) (sym added_still)
      (f.0, f.1, subst (λ pocket. IsSomeAnd pocket (λ h. h.node ≡ node)) (sym k.stored.pocket) f.2)
  cause_still worn r node spent turns (WornOut word) f = (
    met_still r (WornOut word) f.0,
    subst (worn word) (sym k.stored.pocket) f.1,
    subst (λ pocket. IfSome pocket (λ h. h.node ≡ node)) (sym k.stored.pocket) f.2,
  )
  cause_still worn r node spent turns Closed f = (met_still r Closed f.0, subst (λ pocket. IsSomeAnd pocket (λ h. h.node ≡ node)) (sym k.stored.pocket) f.1)
  cause_still worn r node spent turns _ f = absurd f
