-- While fewer pushes begin, fewer take effect, and fewer nodes are taken: so what these leave is left.
use Rattle.std.proofs.Common.{◌≡◌, ℕ, ◌+◌, ◌*◌, ◌<◌, ◌≤◌, List, [], ◌∷◌, length, Option, Some, None, sym, subst, arith}
use Rattle.std.specs.List.{sum_by}
use Rattle.std.proofs.lemmas.List.Sums.{sum_by-cons}
use Rattle.step_machine.specs.Below.{Line, N1, Actor, Setup}
use Rattle.step_machine.specs.Machine.{World}
use Rattle.node_arena.specs.Traces.{Traced, IsTraced, trace, first_trace}
use Rattle.node_arena.specs.Plans.{Layout}
use Rattle.node_arena.specs.Rule.{IsRunTo}
use Rattle.node_arena.specs.Seats.{view}
use Rattle.node_arena.proofs.PrologueTraces.{trace_rest}
use Rattle.node_arena.proofs.Keeping.{run_traced}
use Rattle.arena_queue.specs.PushesLeft.{pushes_left, GoesOn, TakesFewer, Lasts}
use Rattle.arena_queue.proofs.Lasting.{each_lasts}
use Rattle.run_laws.specs.Begun.{pushes_begun, has_no_node, has_no_effect, without_node, under_way}
use Rattle.run_laws.specs.PushesLeft.{BeginFewer, LastsFor, EachLasts, MomentsLast, EachLeftLasts}
use Rattle.run_laws.proofs.Begun.{Goes, run_goes}

-- a push that has no node yet has not taken effect
no_more : (l : Option Line) → has_no_node l ≤ has_no_effect l
no_more None = omega arith
no_more (Some N1) = omega arith
no_more (Some l) = omega arith

no_more_all : (actors : List Actor) → sum_by (λ a. has_no_node a.line) actors ≤ sum_by (λ a. has_no_effect a.line) actors
no_more_all [] = omega arith
no_more_all (a ∷ rest) = omega (arith, sum_by-cons (λ (c : Actor). has_no_node c.line) a rest, sum_by-cons (λ (c : Actor). has_no_effect c.line) a rest, no_more a.line, no_more_all rest)

few_nodes : (w : World) → without_node w ≤ under_way w
few_nodes w = no_more_all w.actors

module _ (was : Traced) (r : IsTraced was) (pushes : ℕ) where
  module _ (t : Traced) (h : BeginFewer 1 was t pushes) where
    goes : Goes was t (pushes_begun h.moves)
    goes = run_goes h.moves was t r h.led

    goes_on : GoesOn was t pushes
    goes_on = record { reached = goes.reached; setup = goes.setup; more = goes.entries; history = goes.history; fewer = omega (arith, h.fewer, goes.by_effect) }

    takes_fewer : TakesFewer was t pushes
    takes_fewer = record { reached = goes.reached; setup = goes.setup; more = goes.nodes; taken = goes.taken; fewer = omega (arith, h.fewer, goes.by_node, few_nodes was.world) }

  pub lasts_for : Lasts was pushes → LastsFor 1 was pushes
  lasts_for h =
      record {
        free = λ t few. h.free t (takes_fewer t few);
        tail = λ t few. h.tail t (goes_on t few);
        head = λ t few. h.head t (goes_on t few);
      }

pub each_lasts_for : EachLasts 1 pushes_left
each_lasts_for was free tail head r leaves = lasts_for was r (pushes_left was.world.setup.size free tail head) (each_lasts was free tail head r leaves)

-- from one moment of a seat to another
pub moments_last : {T : Type 0} → MomentsLast 1 pushes_left T
moments_last r s t was now free tail head seat later from to leaves few =
    let z : Layout = r.plan in
    let before = run_traced z seat.arena.sized (view s).ran was from in
    let led : trace later.run.0 was ≡ Some now =
    trace_rest (view s).ran later.run.0 (first_trace z.setup (length z.roles)) was now from (subst (λ ms. IsRunTo z ms now) (sym later.run.1) to) in
    let begun : BeginFewer 1 was now (pushes_left was.world.setup.size free tail head) = record {
      moves = later.run.0;
      led = led;
      fewer = subst (λ (x : Setup). pushes_begun later.run.0 + 1 * under_way was.world < pushes_left x.size free tail head) (sym before.1) few;
    } in
    let h = each_lasts_for was free tail head before.0 leaves in (h.free now begun, h.tail now begun, h.head now begun)

pub left_lasts : EachLeftLasts 1
left_lasts z k k' left h = lasts_for h.free.was h.free.reached left.pushes h.lasts
