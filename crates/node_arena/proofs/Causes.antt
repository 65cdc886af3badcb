-- A step that takes a node, or loses it, isn't refused.
use Rattle.std.proofs.Common.{◌≡◌, Bool, true, false, if◌then◌else◌, nat_eq, ℕ, Option, Some, None, refl, sym, ap, ◌∙◌, subst, ⊎_elim}
use Rattle.counted_ref.specs.Ref.{same_ref}
use Rattle.line_table.specs.declared.lines.Line.{Line}
use Rattle.line_table.specs.declared.lines.Line.TheVariants.{N4, N5}
use Rattle.history.specs.declared.operations.Reply.{Reply}
use Rattle.history.specs.declared.operations.Reply.TheVariants.{Refused}
use Rattle.history.specs.declared.refusals.Refusal.TheVariants.{NoNode}
use Rattle.line_steps.specs.declared.actors.Setup.{Setup}
use Rattle.line_steps.specs.Actors.{Actor}
use Rattle.line_steps.specs.Outcomes.{Outcome}
use Rattle.node_arena.specs.Traces.{Traced, outcome_at}
use Rattle.node_arena.specs.Arenas.{Arena}
use Rattle.node_arena.specs.declared.seats.Seat.{Seat}
use Rattle.node_arena.specs.Seats.{view}
use Rattle.node_arena.specs.Paths.{MetCause}
use Rattle.node_arena.specs.Causes.{EndsAt, TakersMeetNoCause}
use Rattle.node_arena.proofs.Between.{same_last}

-- neither of two outcomes replies
neither : (b : Bool) (x y : Outcome) → x.reply ≡ None → y.reply ≡ None → (if b then x else y).reply ≡ None
neither true x y p q = p
neither false x y p q = q

silent_n4 : (z : Setup) (t : Traced) (me : ℕ) (a : Actor) → (outcome_at z t me a N4).reply ≡ None
silent_n4 z t me a = neither (same_ref t.world.shared.free a.top) _ _ refl refl

silent_n5 : (z : Setup) (t : Traced) (me : ℕ) (a : Actor) → (outcome_at z t me a N5).reply ≡ None
silent_n5 z t me a = neither (nat_eq t.world.shared.fresh a.f) _ _ refl refl

-- the step of a cause was made at the line where the call ended
made_there : {T : Type 0} (r : Arena) (s t : Seat T) (l : Line) → EndsAt s t l → (m : MetCause r s t NoNode) → (outcome_at r.plan.setup m.was (view s).number m.actor l).reply ≡ Some (Refused NoNode)
made_there r s t l e m =
    let line : m.line ≡ l = ap (λ x. x.line) (same_last m.before e.before _ e.last (sym m.path ∙ e.path)) ∙ e.at in
    subst (λ k. (outcome_at r.plan.setup m.was (view s).number m.actor k).reply ≡ Some (Refused NoNode)) line m.held.0

no_reply : (reply : Option Reply) → reply ≡ None → reply ≡ Some (Refused NoNode) → ⊥
no_reply reply none some = let e : None ≡ Some (Refused NoNode) = sym none ∙ some in cc

pub takers_meet_no_cause : {T : Type 0} → TakersMeetNoCause T
takers_meet_no_cause r s t ends m =
    ⊎_elim
    (λ e. no_reply _ (silent_n4 r.plan.setup m.was (view s).number m.actor) (made_there r s t N4 e m))
    (λ e. no_reply _ (silent_n5 r.plan.setup m.was (view s).number m.actor) (made_there r s t N5 e m))
    ends
