-- How soon an actor of the non-blocking queue ends its call, where no other one makes a move: within what it has before it,
-- which each of its steps lowers.
use Rattle.std.proofs.Common.{◌≡◌, ℕ, zero, suc, ◌+◌, ◌≤◌, Bool, length, replicate, Option, Some, None, IfSome, IsSomeAnd, refl, sym, ap, ◌∙◌, subst, arith}
use Rattle.step_machine.specs.Below.{Kind, NonBlocking, Line, N1, F1, E2, Op, Enq, Deq, Shut, Reply, Held, Setup, Actor, Shared, performed, found, action, outcome, begun, from_pocket}
use Rattle.step_machine.specs.declared.actors.Move.TheVariants.{Begin, Step}
use Rattle.step_machine.specs.Machine.{World, actor_of, with_actor, entry_or, stepped, steps, moved, AnyMove, made, next, next_any, run, run_on, IsReached}
use Rattle.step_machine.specs.Calls.{IsIdle}
use Rattle.step_machine.specs.Solo.{EndsWithin, most_steps, EndsAlone, EachEndsAlone}
use Rattle.step_machine.specs.NonBlocking.{OfNonBlockingWorlds}
use Rattle.step_machine.specs.Prices.{Prices, if_so, by_due, of_pocket, call_steps}
use Rattle.step_machine.specs.Amounts.{tail_lags, own, amount_at}
use Rattle.step_machine.proofs.AnyMoves.{after_move}
use Rattle.step_machine.proofs.Reached.{some_of, reached_next, setup-next}
use Rattle.step_machine.proofs.CompletionSteps.{actor_same}
use Rattle.step_machine.proofs.Others.{if_so_most, for_tail}
use Rattle.step_machine.proofs.Mover.{IsEnough, step_lowers}

-- the prices are enough
pub call_enough : IsEnough call_steps
call_enough = record { node = omega arith; link = omega arith; pop = omega arith; idle = omega arith; kept = omega arith }

-- where its operation stands says nothing of what an actor has before it
pub entry_left : (p : Prices) (s : Setup) (m : Shared) (a : Actor) (entry : Option ℕ) (l : Option Line) → amount_at p s m (record a { entry = entry }) l ≡ amount_at p s m a l
entry_left p s m a entry None = refl
entry_left p s m a entry (Some N1) = refl
entry_left p s m a entry (Some _) = refl

-- a call that has ended
pub over : (k me : ℕ) (w : World) (a : Actor) → actor_of w me ≡ Some a → a.line ≡ None → EndsWithin k w me
over k me w a here line = (0, omega arith, subst (λ o. IsSomeAnd o (λ b. b.line ≡ None)) (sym here) line)

-- a call that ends after one step more
pub one_more : (k me : ℕ) (w v : World) → next w (Step me) ≡ Some v → EndsWithin k v me → EndsWithin (suc k) w me
one_more k me w v e h =
    let few : h.0 ≤ k = h.1 in
    (suc h.0, omega arith, subst (λ o. IsSomeAnd (run_on (run (replicate h.0 (made (Step me)))) o) (λ u. IsIdle u me)) (sym e) h.2)

-- an actor that has so much left ends its call in as many steps, where no other one moves
pub ends_in : (k me : ℕ) (w : World) (a : Actor) → IsReached w → w.setup.kind ≡ NonBlocking → actor_of w me ≡ Some a → amount_at call_steps w.setup w.shared a a.line ≤ k → EndsWithin k w me
ends_in zero me w a r e is few = go a.line refl few
  where
    go : (l : Option Line) → a.line ≡ l → amount_at call_steps w.setup w.shared a l ≤ 0 → EndsWithin 0 w me
    go None at h = over 0 me w a is at
    go (Some l) at h = absurd (omega (arith, h, (step_lowers call_steps call_enough w r e me a l is at).mine))
ends_in (suc k) me w a r e is few = go (ends_in k me) a.line refl few
  where
    go : ((v : World) (b : Actor) → IsReached v → v.setup.kind ≡ NonBlocking → actor_of v me ≡ Some b → amount_at call_steps v.setup v.shared b b.line ≤ k → EndsWithin k v me)
        → (l : Option Line) → a.line ≡ l → amount_at call_steps w.setup w.shared a l ≤ suc k → EndsWithin (suc k) w me
    go after None at h = over (suc k) me w a is at
    go after (Some l) at h =
        let moves_on : next w (Step me) ≡ Some (stepped w me a l) = ap (moved w (Step me)) is ∙ ap (steps w me a) at in
        let f = step_lowers call_steps call_enough w r e me a l is at in
        let o = outcome w.setup (w.steps + 1) me a l (found (action w.setup me a l) w.shared) in
        one_more k me w (stepped w me a l) moves_on
        (after (stepped w me a l) (record o.actor { entry = Some (entry_or a.entry (length w.operations)) }) (reached_next w (stepped w me a l) (made (Step me)) r moves_on) e
        (actor_same w me a (record o.actor { entry = Some (entry_or a.entry (length w.operations)) }) is)
        (omega (arith, h, f.mine, entry_left call_steps w.setup (performed (action w.setup me a l) w.shared) o.actor (Some (entry_or a.entry (length w.operations))) o.actor.line)))

-- prices of steps, with so much kept for a lagging Tail and for a pocket
abbrev pub by_steps : (idle kept : ℕ) → Prices
by_steps i k = record { step = 1; turn = 0; node = 4; link = 8; pop = 6; idle = i; kept = k }

pub nothing_kept : (q : Option Held) → of_pocket call_steps q ≡ 0
nothing_kept None = refl
nothing_kept (Some held) = refl

module _ (i k : ℕ) (few : i ≤ 4) where
  -- a dequeue that has a node to give back first
  pub first_most : (due : Option Reply) (b : Bool) → by_due due 9 0 + for_tail (by_steps i k) due b ≤ 14
  first_most None b = omega (arith, if_so_most b 4)
  first_most (Some reply) b = omega (arith, if_so_most b i, few)

-- from a begin on: the bounds of an actor alone, by the same table
module _ (s : Setup) (m : Shared) where
  pocket_most : (k : ℕ) (l : Line) (q : Option Held) (b : Actor) → amount_at call_steps s m b b.line ≤ k
      → ((x : Actor) → x.due ≡ b.due → own call_steps s m x l ≤ k) → amount_at call_steps s m (from_pocket l q b) (from_pocket l q b).line ≤ k
  pocket_most k l None b h g = h
  pocket_most k l (Some held) b h g = omega (arith, g (from_pocket l (Some held) b) refl)

  pub begun_most : (kind : Kind) (me : ℕ) (op : Op) (a : Actor) → kind ≡ NonBlocking → amount_at call_steps s m (begun kind me op a) (begun kind me op a).line ≤ most_steps op
  begun_most kind me op a e = subst (λ k. amount_at call_steps s m (begun k me op a) (begun k me op a).line ≤ most_steps op) (sym e) (go op (λ k. if_so_most (tail_lags s m) k))
    where
      go : (op : Op) → ((k : ℕ) → if_so (tail_lags s m) k ≤ k) → amount_at call_steps s m (begun NonBlocking me op a) (begun NonBlocking me op a).line ≤ most_steps op
      go (Enq body) u = pocket_most 15 E2 a.pocket _ (omega (arith, u 4, nothing_kept a.pocket)) (λ x e. omega (arith, u 4))
      go Deq u = pocket_most 17 F1 a.pocket _ (omega (arith, u 5, nothing_kept a.pocket)) (λ x e. omega (arith, first_most 0 0 (omega arith) x.due (tail_lags s m)))
      go Shut u = omega (arith, u 4, nothing_kept a.pocket)

-- the world after a begin, if it is reached
abbrev AfterBegin : AnyMove → World → Type 0
AfterBegin (made (Begin me op)) v = IsReached v → EndsAlone v me op
AfterBegin _ v = Unit {0}

after_begin : (w : World) (m : AnyMove) → IfSome (next_any w m) (AfterBegin m)
after_begin w =
    after_move w AfterBegin
    (record {
      began = λ me op a is at call r e. ends_in (most_steps op) me (with_actor w me (begun w.setup.kind me op a)) (begun w.setup.kind me op a) r e
          (actor_same w me a (begun w.setup.kind me op a) is) (begun_most w.setup w.shared w.setup.kind me op a e);
      step = λ me a l is at. tt;
      gave_up = λ me a l o is at given. tt;
      at_rest = λ me a l is at may. tt;
    })

-- an actor that begins a call and alone takes steps ends it soon
pub ends_alone : (w v : World) (me : ℕ) (op : Op) → next w (Begin me op) ≡ Some v → IsReached v → EndsAlone v me op
ends_alone w v me op e = some_of (AfterBegin (made (Begin me op))) (next w (Begin me op)) v e (after_begin w (made (Begin me op)))

pub each_ends_alone : OfNonBlockingWorlds EachEndsAlone
each_ends_alone w r e me op v began =
    ends_alone w v me op began (reached_next w v (made (Begin me op)) r began) (ap (λ (s : Setup). s.kind) (setup-next w v (Begin me op) began) ∙ e)
