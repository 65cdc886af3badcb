-- A trace follows its world, and any move leads from a trace that moves lead to on to one.
use Rattle.std.proofs.Common.{◌≡◌, ◌≢◌, ℕ, ◌-◌, if◌then◌else◌, Option, Some, None, List, [], ◌∷◌, ◌++◌, length, refl, sym, ap, subst, ◌∙◌, eq-eqb, ne_eqb}
use Rattle.std.proofs.Math.ListN.{length-set}
use Rattle.std.proofs.lemmas.Option.{none-some}
use Rattle.line_table.specs.declared.lines.Line.{Line}
use Rattle.line_steps.specs.Actors.{Actor}
use Rattle.step_machine.specs.declared.actors.Move.TheVariants.{Begin, Step, Give}
use Rattle.step_machine.specs.Machine.{World, actor_of, moved, steps, stepped, next, AnyMove, made, Rest, next_any, run_on, run, IsSized, IsReached}
use Rattle.step_machine.proofs.Reached.{setup-next_any, mover_in_range}
use Rattle.step_machine.proofs.CompletionSteps.{actor_same, actor_other}
use Rattle.node_arena.specs.Traces.{Traced, changed, actor_at, step_at, traced_at, traced_step, traced_move, traced_next, traced_on, trace, first_trace, IsTraced}

world_of : Option Traced → Option World
world_of None = None
world_of (Some t) = Some t.world

pub world-traced_move : (t : Traced) (m : AnyMove) (w : World) → (traced_move t m w).world ≡ w
world-traced_move t (made (Begin me op)) w = refl
world-traced_move t (made (Step me)) w = go (actor_of t.world me)
  where
    line : (a : Actor) (l : Option Line) → (traced_at t me a l w).world ≡ w
    line a None = refl
    line a (Some l) = refl

    go : (a : Option Actor) → (traced_step t me a w).world ≡ w
    go None = refl
    go (Some a) = line a a.line
world-traced_move t (made (Give me)) w = refl
world-traced_move t (Rest me) w = refl

pub world-trace : (ms : List AnyMove) (t u : Traced) → trace ms t ≡ Some u → run ms t.world ≡ Some u.world
unfolding world_of
world-trace [] t u e = ap world_of e
world-trace (m ∷ ms) t u e = go (next_any t.world m) e (λ v. world-trace ms v u)
  where
    go : (o : Option World) → traced_on (trace ms) (traced_next t m o) ≡ Some u → ((v : Traced) → trace ms v ≡ Some u → run ms v.world ≡ Some u.world) → run_on (run ms) o ≡ Some u.world
    go None f each = absurd (none-some u f)
    go (Some w) f each = subst (λ v. run ms v ≡ Some u.world) (world-traced_move t m w) (each (traced_move t m w) f)

-- the world of a trace that moves lead to is one that they lead to
pub traced_reached : (t : Traced) → IsTraced t → IsReached t.world
traced_reached t r = record { actors = r.actors; moves = r.moves; sized = r.sized; led = world-trace r.moves (first_trace t.world.setup r.actors) t r.led }

-- one move more at the end of a list
trace_more : (ms : List AnyMove) (m : AnyMove) (t : Traced) → trace (ms ++ m ∷ []) t ≡ traced_on (λ v. traced_next v m (next_any v.world m)) (trace ms t)
trace_more [] m t = last (traced_next t m (next_any t.world m))
  where
    last : (o : Option Traced) → traced_on (trace []) o ≡ o
    last None = refl
    last (Some v) = refl
trace_more (k ∷ ks) m t = along (traced_next t k (next_any t.world k)) (trace_more ks m)
  where
    along : (o : Option Traced) → ((v : Traced) → trace (ks ++ m ∷ []) v ≡ traced_on (λ u. traced_next u m (next_any u.world m)) (trace ks v))
        → traced_on (trace (ks ++ m ∷ [])) o ≡ traced_on (λ u. traced_next u m (next_any u.world m)) (traced_on (trace ks) o)
    along None each = refl
    along (Some v) each = each v

-- any move leads from a trace that moves lead to on to one
pub traced_moves : (t : Traced) (m : AnyMove) (w : World) → IsTraced t → next_any t.world m ≡ Some w → IsTraced (traced_move t m w)
traced_moves t m w r e =
    let same : (traced_move t m w).world.setup ≡ t.world.setup = ap (λ v. v.setup) (world-traced_move t m w) ∙ setup-next_any t.world w m e in
    let ends : trace (r.moves ++ m ∷ []) (first_trace t.world.setup r.actors) ≡ Some (traced_move t m w) =
    trace_more r.moves m (first_trace t.world.setup r.actors) ∙ ap (traced_on (λ v. traced_next v m (next_any v.world m))) r.led ∙ ap (traced_next t m) e in
    record {
      actors = r.actors;
      moves = r.moves ++ m ∷ [];
      sized = subst (λ s. IsSized s r.actors) (sym same) r.sized;
      led = subst (λ s. trace (r.moves ++ m ∷ []) (first_trace s r.actors) ≡ Some (traced_move t m w)) (sym same) ends;
    }

-- the move of a step, by its parts
step_move : (w : World) (me : ℕ) (a : Actor) (l : Line) → actor_of w me ≡ Some a → a.line ≡ Some l → next w (Step me) ≡ Some (stepped w me a l)
step_move w me a l at here = ap (moved w (Step me)) at ∙ ap (steps w me a) here

pub traced_step_is : (t : Traced) (me : ℕ) (a : Actor) (l : Line) → actor_of t.world me ≡ Some a → a.line ≡ Some l → traced_move t (made (Step me)) (stepped t.world me a l) ≡ step_at t me a l
traced_step_is t me a l at here = ap (λ o. traced_step t me o (stepped t.world me a l)) at ∙ ap (λ o. traced_at t me a o (stepped t.world me a l)) here

-- an actor's step leads from a trace that moves lead to on to one
pub step_traced : (t : Traced) (me : ℕ) (a : Actor) (l : Line) → IsTraced t → actor_of t.world me ≡ Some a → a.line ≡ Some l → IsTraced (step_at t me a l)
step_traced t me a l r at here = subst IsTraced (traced_step_is t me a l at here) (traced_moves t (made (Step me)) (stepped t.world me a l) r (step_move t.world me a l at here))

pub changed_here : {X : Type 0} (f : ℕ → X) (n : ℕ) (x : X) → changed f n x n ≡ x
changed_here f n x = ap (λ b. if b then x else f n) (eq-eqb n n refl)

pub changed_else : {X : Type 0} (f : ℕ → X) (n : ℕ) (x : X) (m : ℕ) → m ≢ n → changed f n x m ≡ f m
changed_else f n x m ne = ap (λ b. if b then x else f m) (ne_eqb m n ne)

-- the step's actor, and the others
pub step_here : (t : Traced) (me : ℕ) (a : Actor) (l : Line) → actor_of t.world me ≡ Some a → actor_of (step_at t me a l).world me ≡ Some (actor_at t.world.setup t me a l)
step_here t me a l at = actor_same t.world me a (actor_at t.world.setup t me a l) at

pub step_else : (t : Traced) (me : ℕ) (a : Actor) (l : Line) (n : ℕ) → actor_of t.world me ≡ Some a → n ≢ me → actor_of (step_at t me a l).world n ≡ actor_of t.world n
step_else t me a l n at ne = actor_other t.world me n (actor_at t.world.setup t me a l) (mover_in_range t.world me a at).0 ne

pub step_count : (t : Traced) (me : ℕ) (a : Actor) (l : Line) → length (step_at t me a l).world.actors ≡ length t.world.actors
step_count t me a l = length-set t.world.actors (me - 1) (actor_at t.world.setup t me a l)
