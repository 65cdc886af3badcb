-- What a push tells by its turns.
use Rattle.std.proofs.Common.{◌≡◌, ◌≢◌, ℕ, ◌<◌, ◌^◌, List, take, sym, ◌∙◌, arith}
use Rattle.history.specs.declared.operations.Entry.{Entry}
use Rattle.history.specs.declared.refusals.Refusal.{Refusal}
use Rattle.history.specs.declared.refusals.Refusal.TheVariants.{NoNode, WornOut, Busy, Closed}
use Rattle.history.specs.Answers.{SeesMore, StopsPush}
use Rattle.history.proofs.Learning.{sees_then, push_refused_then}
use Rattle.ring_queue.specs.declared.pushes.PushTurn.{PushTurn}
use Rattle.ring_queue.specs.declared.pushes.PushTurn.TheVariants.{Done, Stopped, Failed}
use Rattle.ring_queue.specs.declared.push_batches.ManyTurn.{ManyTurn}
use Rattle.ring_queue.specs.declared.push_batches.ManyTurn.TheVariants.{Done as DoneMany, Stopped as StoppedMany, Failed as FailedMany}
use Rattle.ring_queue.specs.declared.seats.Seat.{Seat}
use Rattle.ring_queue.specs.Plans.{Layout}
use Rattle.ring_queue.specs.Causes.{PushStops, PushCaused}
use Rattle.ring_queue.specs.Looks.{FoundRoom}
use Rattle.ring_queue.specs.Pushes.{IsStopped, HasLost, PushSays, PushMoves, ManySays}
use Rattle.ring_queue.specs.Seats.{KeepsSlots, known_of, view}
use Rattle.ring_queue.proofs.Moved.{stays_on, then_gives}
use Rattle.ring_queue.specs.Paths.{C3, reading}
use Rattle.ring_queue.specs.Steps.{PlacesClaimed}
use Rattle.ring_queue.proofs.Tries.{tried_one, tried_then, failed_place}
use Rattle.ring_queue.proofs.Turns.{pushed_after, pushed_all_after}

module _ {T : Type 0} (z : Layout) (s t u : Seat T) (sees : SeesMore (known_of s) (known_of t)) where
  -- a push that stops after its seat saw more
  pub stopped_after : (refusal : Refusal) → IsStopped z t u refusal → IsStopped z s u refusal
  stopped_after refusal h = record { refused = push_refused_then (known_of s) (known_of t) (known_of u) refusal sees h.refused; cause = h.cause }

-- a turn failed where others had claimed places, in a queue that wasn't shut
pub lost_by : {T : Type 0} (z : Layout) (s t : Seat T) (bodies : List ℕ) (n : ℕ) → PlacesClaimed z bodies (view s) n (view t) → s.tail ≡ (view s).tail → t.tail ≡ (view t).tail
    → n ≢ s.tail → n < 2 ^ 62 → HasLost s t
lost_by z s t bodies n k was is ne small =
    let apart : n ≢ (view s).tail = λ e. ne (e ∙ sym was) in
    let l = k.lost apart small in
    let up = l.0 in
    record { sees = l.1; more = omega (arith, up, was, is); tried = tried_one s t (reading C3 0 n) 1 k.learns.number (k.went_lost apart).0 (failed_place n) }

-- a turn that failed after its seat found room
lost_after : {T : Type 0} (z : Layout) (s t u : Seat T) → FoundRoom z s t → HasLost t u → HasLost s u
lost_after z s t u f h = record {
  sees = sees_then (known_of s) (known_of t) (known_of u) f.sees h.sees;
  more = let a = f.more in let b = h.more in omega (arith, a, b);
  tried = tried_then s t u 0 1 f.tried h.tried;
}

-- a turn after its seat found room
pub push_after : {T : Type 0} (z : Layout) (s t u : Seat T) (body : ℕ) (turn : PushTurn) → FoundRoom z s t → PushSays z t u body turn → PushSays z s u body turn
push_after z s t u body Done f says = pushed_after (known_of s) (known_of t) (known_of u) body f.sees says
push_after z s t u body (Stopped refusal) f says = stopped_after z s t u f.sees refusal says
push_after z s t u body Failed f says = lost_after z s t u f says

pub moves_after : {T : Type 0} (z : Layout) (s t u : Seat T) (body : ℕ) (turn : PushTurn) → (view t).number ≡ (view s).number → KeepsSlots s t → PushMoves z t u body turn → PushMoves z s u body turn
moves_after z s t u body Done number k m = then_gives z body s t u number k m
moves_after z s t u body (Stopped refusal) number k m = stays_on s t u k m
moves_after z s t u body Failed number k m = stays_on s t u k m

pub many_after : {T : Type 0} (z : Layout) (s t u : Seat T) (bodies : List ℕ) (turn : ManyTurn) → FoundRoom z s t → ManySays z t u bodies turn → ManySays z s u bodies turn
many_after z s t u bodies (DoneMany count) f says = (says.0, pushed_all_after (known_of s) (known_of t) (known_of u) (take count bodies) f.sees says.1)
many_after z s t u bodies (StoppedMany refusal) f says = stopped_after z s t u f.sees refusal says
many_after z s t u bodies FailedMany f says = lost_after z s t u f says

-- a push stops for one of its refusals
pub stops_push : (z : Layout) (seen : List Entry) (refusal : Refusal) → PushStops z seen refusal → StopsPush refusal
stops_push z seen NoNode h = tt
stops_push z seen (WornOut word) h = tt
stops_push z seen Closed h = tt
stops_push z seen Busy h = tt
stops_push z seen _ h = absurd h

-- and that is its cause
pub push_caused : {T : Type 0} (z : Layout) (s t : Seat T) (turns : ℕ) (refusal : Refusal) → PushStops z (view t).seen refusal → PushCaused z s t turns refusal
push_caused z s t turns Busy h = absurd h
push_caused z s t turns _ h = h

-- it isn't Busy
pub never_busy : (z : Layout) (seen : List Entry) (refusal : Refusal) → PushStops z seen refusal → refusal ≡ Busy → ⊥
never_busy z seen Busy h e = h
never_busy z seen _ h e = cc
