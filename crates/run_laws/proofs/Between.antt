-- Between two moments of a seat its failed turns are paid: moves lead from the one world of its run to the other.
use Rattle.std.proofs.Common.{◌≡◌, ℕ, ◌+◌, ◌≤◌, List, ◌++◌, length, Some, refl, sym, ap, ◌∙◌, subst, arith}
use Rattle.std.specs.Coded.{le_prop}
use Rattle.std.proofs.Math.Logic.{∥∥₁_elim}
use Rattle.std.proofs.lemmas.List.{append_cancel_left}
use Rattle.std.proofs.lemmas.Option.{same_Some}
use Rattle.step_machine.specs.Below.{NonBlocking, Setup}
use Rattle.step_machine.specs.Machine.{actor_of, AnyMove}
use Rattle.node_arena.specs.Traces.{Traced, IsTraced, trace, first_trace}
use Rattle.node_arena.specs.Turns.{failed_turns}
use Rattle.node_arena.specs.Plans.{Layout}
use Rattle.node_arena.specs.Rule.{Fitted, IsRunTo}
use Rattle.node_arena.specs.Arenas.{Arena}
use Rattle.node_arena.specs.declared.seats.Seat.{Seat}
use Rattle.node_arena.specs.Seats.{IsReady, IsSeat, view}
use Rattle.node_arena.specs.Paths.{IsLater, added}
use Rattle.node_arena.proofs.PrologueTraces.{trace_rest}
use Rattle.node_arena.proofs.Keeping.{run_traced}
use Rattle.run_laws.specs.Others.{paid}
use Rattle.run_laws.specs.Turns.{AreMomentsPaid}
use Rattle.run_laws.proofs.Amounts.{has_of, has_least, amount_ready}
use Rattle.run_laws.proofs.Moves.{has, Goes}
use Rattle.run_laws.proofs.Paid.{run_goes}

module _ {T : Type 0} (r : Arena) (s t : Seat T) (was now : Traced) (kind : r.plan.setup.kind ≡ NonBlocking) (ready : IsReady r s) (seat : IsSeat r t)
    (number : (view t).number ≡ (view s).number) (later : IsLater s t) (from : IsRunTo r.plan (view s).ran was) (to : IsRunTo r.plan (view t).ran now) where
  abbrev z : Layout
  z = r.plan

  abbrev pub me : ℕ
  me = (view s).number

  before : IsTraced was × (was.world.setup ≡ z.setup)
  before = run_traced z ready.seat.arena.sized (view s).ran was from

  abbrev more : List AnyMove
  more = later.run.0

  led : trace more was ≡ Some now
  led = trace_rest (view s).ran more (first_trace z.setup (length z.roles)) was now from (subst (λ ms. IsRunTo z ms now) (sym later.run.1) to)

  pub goes : Goes me was now
  goes = run_goes me more was now before.0 (ap (λ (x : Setup). x.kind) before.1 ∙ kind) led

  -- the lines that it went through are those that were added
  lines_are : Fitted z (view s) → Fitted z (view t) → goes.lines ≡ added s t
  lines_are f g =
      let first : was.paths me ≡ (view s).path = ap (λ (x : Traced). x.paths me) (same_Some was f.trace (sym from ∙ f.run)) ∙ f.fits.path in
      let last : now.paths me ≡ (view t).path = ap (λ (x : Traced). x.paths me) (same_Some now g.trace (sym to ∙ g.run)) ∙ (ap g.trace.paths (sym number) ∙ g.fits.path) in
      append_cancel_left (view s).path goes.lines (added s t) (ap (λ p. p ++ goes.lines) (sym first) ∙ (sym goes.path ∙ (last ∙ later.path)))

  -- and it had not much before it
  had : Fitted z (view s) → has me was ≤ 2
  had f =
      let here : actor_of was.world me ≡ Some (view s).actor = ap (λ (x : Traced). actor_of x.world me) (same_Some was f.trace (sym from ∙ f.run)) ∙ f.fits.actor in
      omega (arith, ap (has_of was.world.setup was.world.shared) here, amount_ready was.world.setup was.world.shared (view s).actor (view s).actor.line refl ready.free)

  pub turns : failed_turns (added s t) ≤ 1 + paid 2 1 1 me goes.entries goes.nodes
  turns =
      ∥∥₁_elim ready.seat.sits.fitted le_prop (λ f.
      ∥∥₁_elim seat.sits.fitted le_prop (λ g.
      omega (arith, goes.falls, ap failed_turns (lines_are f g), had f, has_least now.world.setup now.world.shared (actor_of now.world me))))

pub moments_paid : {T : Type 0} → AreMomentsPaid 1 2 1 1 T
moments_paid r s t was now kind ready seat number later from to =
    let g = goes r s t was now kind ready seat number later from to in
    record { entries = g.entries; history = g.history; nodes = g.nodes; taken = g.taken; turns = turns r s t was now kind ready seat number later from to }
