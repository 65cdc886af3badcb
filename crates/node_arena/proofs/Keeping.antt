-- What a seat knows of the run of the machine leads to a world.
use Rattle.std.proofs.Common.{◌≡◌, ℕ, Option, Some, None, List, [], ◌∷◌, length, refl, sym, ap, ◌∙◌, subst}
use Rattle.std.proofs.lemmas.Option.{none-some, same_Some}
use mathlib.Core.List.{IsPrefix}
use Rattle.atomic_table.specs.Table.{State}
use Rattle.step_machine.specs.Machine.{World, AnyMove, next_any, IsSized}
use Rattle.step_machine.proofs.Reached.{setup-next_any}
use Rattle.line_steps.specs.declared.actors.Setup.{Setup}
use Rattle.node_arena.specs.Traces.{Traced, IsTraced, traced_move, traced_next, traced_on, trace, first_trace}
use Rattle.node_arena.specs.Knowledge.{SeatView, View}
use Rattle.node_arena.specs.Plans.{Layout, IsPlanned}
use Rattle.node_arena.specs.Rule.{Ran, IsRunTo, LearnsRun, Holds}
use Rattle.node_arena.proofs.Tracing.{world-traced_move}

-- the moves that a world was reached by lead to it from the opening one of the plan
pub run_to : (z : Layout) {t : Traced} (r : IsTraced t) → t.world.setup ≡ z.setup → r.actors ≡ length z.roles → IsRunTo z r.moves t
run_to z {t} r setup peopled = subst (λ n. trace r.moves (first_trace z.setup n) ≡ Some t) peopled (subst (λ (s : Setup). trace r.moves (first_trace s r.actors) ≡ Some t) setup r.led)

-- no move changes the setup
setup_on : (ms : List AnyMove) (t u : Traced) → trace ms t ≡ Some u → u.world.setup ≡ t.world.setup
setup_on [] t u e = ap (λ (x : Traced). x.world.setup) (sym (same_Some t u e))
setup_on (m ∷ ms) t u e = go (next_any t.world m) refl e (λ x. setup_on ms x u)
  where
    go : (o : Option World) → next_any t.world m ≡ o → traced_on (trace ms) (traced_next t m o) ≡ Some u → ((x : Traced) → trace ms x ≡ Some u → u.world.setup ≡ x.world.setup) → u.world.setup ≡ t.world.setup
    go None f g each = absurd (none-some u g)
    go (Some w) f g each = each (traced_move t m w) g ∙ (ap (λ (x : World). x.setup) (world-traced_move t m w) ∙ setup-next_any t.world w m f)

-- a world that a seat's run leads to is one that moves lead to, of the plan's setup
pub run_traced : (z : Layout) → IsPlanned z → (ran : List AnyMove) (t : Traced) → IsRunTo z ran t → IsTraced t × (t.world.setup ≡ z.setup)
run_traced z sized ran t e =
    let same : t.world.setup ≡ z.setup = setup_on ran (first_trace z.setup (length z.roles)) t e in (
      record {
        actors = length z.roles;
        moves = ran;
        sized = subst (λ (s : Setup). IsSized s (length z.roles)) (sym same) sized;
        led = subst (λ (s : Setup). trace ran (first_trace s (length z.roles)) ≡ Some t) (sym same) e;
      },
      same,
    )

-- a seat that learns all moves of the world of the rule
pub learns_run : (z : Layout) (s : State ℕ View) (h : Holds z s) (v : SeatView) → Ran h.reached.moves v.number v.ran → LearnsRun z v h.reached.moves h.trace
learns_run z s h v r = record { others = r.rest; by_others = r.others; goes_on = r.begins; led = run_to z h.reached h.setup h.peopled }

-- what a seat knew of the run begins what it has learned
pub learned_more : (z : Layout) (v : SeatView) (ran : List AnyMove) (t : Traced) → LearnsRun z v ran t → IsPrefix v.ran ran
learned_more z v ran t f = (f.others, sym f.goes_on)
