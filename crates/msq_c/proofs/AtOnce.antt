-- What pushes and pops of many values at one step of a ring tell.
use Rattle.std.proofs.Common.{◌≡◌, ℕ, ◌≤◌, List, [], length, take, sym, subst, Result, Ok, Err, IfOk, IfErr}
use Rattle.history.specs.declared.operations.Taken.{Taken}
use Rattle.history.specs.declared.refusals.Refusal.{Refusal}
use Rattle.history.specs.Answers.{StopsPush, StopsPop, PushRefused, PopRefused}
use Rattle.ring_queue.specs.declared.queue.RingQueue.{RingQueue}
use Rattle.ring_queue.specs.declared.seats.Seat.{Seat}
use Rattle.ring_queue.specs.Seats.{known_of}
use Rattle.ring_queue.specs.Steps.{PushedAll}
use Rattle.ring_queue.specs.Many.{AreEnough}
use Rattle.ring_queue.specs.Queues.{push_causes, pop_causes}
use Rattle.ring_queue.specs.Batches as ring
use Rattle.picked.specs.Either.{second_of, as_second}
use Rattle.msq_c.specs.Queues.{Queue, SeatOf}
use Rattle.msq_c.specs.Batches.{TellsPush, AnswersPop}
use Rattle.msq_c.proofs.Batches.{some_pushed, some_popped}

-- a queue that is a ring, and its seat before and after
module _ (r : RingQueue (Unit {0})) (s t : Seat (Unit {0})) (q : Queue) (x : SeatOf) (is : q ≡ second_of r) (at : x ≡ as_second s) (turns : ℕ) where
  on_ring : (P : Queue → SeatOf → Type 0) → P (second_of r) (as_second s) → P q x
  on_ring P p = subst (λ (y : SeatOf). P q y) (sym at) (subst (λ (z : Queue). P z (as_second s)) (sym is) p)

  -- a push of many by a ring tells what one at a step does
  pub tells_push : (bodies : List ℕ) (out : Result ℕ Refusal) → 1 ≤ length bodies
      → IfOk out (AreEnough r.plan t bodies) → IfOk out (λ count. PushedAll (known_of s) (take count bodies) (known_of t))
      → IfErr out (λ refusal. PushRefused (known_of s) refusal (known_of t)) → IfErr out StopsPush → IfErr out (λ refusal. push_causes r s t turns refusal)
      → TellsPush bodies turns q x out (as_second t)
  tells_push bodies (Ok count) some same f refused stops caused = on_ring (λ z y. TellsPush bodies turns z y (Ok count) (as_second t))
      (some_pushed (known_of s) (known_of t) count bodies (same.some some) same.few f)
  tells_push bodies (Err refusal) some same f refused stops caused = on_ring (λ z y. TellsPush bodies turns z y (Err refusal) (as_second t)) (stops, refused, caused)

  -- so does a pop
  pub tells_pop : (most : ℕ) (before after : List Taken) (out : Result ℕ Refusal) → before ≡ []
      → IfOk out (λ count. ring.PopsSome (known_of s) most before after (known_of t) count)
      → IfErr out (λ refusal. PopRefused (known_of s) refusal (known_of t)) → IfErr out StopsPop → IfErr out (λ refusal. pop_causes r s t turns refusal)
      → AnswersPop most turns q x after out (as_second t)
  tells_pop most before after (Ok count) none f refused stops caused = on_ring (λ z y. AnswersPop most turns z y after (Ok count) (as_second t))
      (some_popped (known_of s) (known_of t) most count before after none f)
  tells_pop most before after (Err refusal) none f refused stops caused = on_ring (λ z y. AnswersPop most turns z y after (Err refusal) (as_second t)) (stops, refused, caused)
