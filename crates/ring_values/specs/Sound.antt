-- What a seat of a ring that carries values knows of them is sound.
use Rattle.std.proofs.Common.{◌≡◌, Bool, true, false, [], subst}
use Rattle.std.specs.Coded.{×_prop}
use Rattle.std.proofs.Math.Logic.{∥∥₁_elim}
use Rattle.std.proofs.Props.{props}
use Rattle.carriers.specs.Knowledge.{IsSoundOf}
use Rattle.carriers.specs.DeedsOfNumbers.{Matches}
use Rattle.ring_queue.specs.declared.queue.RingQueue.{RingQueue}
use Rattle.ring_queue.specs.declared.seats.Seat.{Seat}
use Rattle.ring_queue.specs.Beside.{KnowsBy}
use Rattle.ring_queue.specs.Seats.{deeds_of, view}
use Rattle.ring_queue.specs.Queues.{IsRingSeat, permits_in}
use Rattle.ring_queue.specs.OneProof.{IsReady-prop}
use Rattle.value_queue.specs.Runs.{CanRun, CanRun-prop, CanRun-Runs, Matches-told}
use Rattle.value_queue.specs.Matched.{Matches-prop}
use Rattle.value_queue.specs.Sights.{IsClear}
use Rattle.value_queue.specs.Sound.{sound-values}
use Rattle.ring_values.specs.declared.queue.RingValues.{RingValues}
use Rattle.ring_values.specs.Carried.{carries_of}
use Rattle.ring_values.specs.ValuesSeen.{seen_by, known_by, sight}
use Rattle.ring_values.specs.Queues.{IsQueueSeat}

module _ {T : Type 0} (r : RingQueue T) (carries : carries_of r ≡ true) (s : Seat T) (is : IsRingSeat r s) where
  facts : CanRun [] false (deeds_of s) × Matches (view s).seen (seen_by s)
  facts =
      ∥∥₁_elim is.sits.valued (×_prop (CanRun-prop [] false (deeds_of s)) (Matches-prop (view s).seen (seen_by s)))
      (λ k. let known = subst (λ (b : Bool). KnowsBy b r.plan (view s).seen s.token.me.0) carries k in (
        CanRun-Runs [] false (deeds_of s) known.values known.shut known.runs,
        Matches-told [] false (view s).seen (deeds_of s) known.values known.shut known.runs known.matches,
      ))

  -- what it has seen of values goes with the entries that it has seen
  pub clear : IsClear (sight s)
  clear = record { can = facts.0; matches = facts.1; own = is.sits.sound.own }

  -- what it knows of values is sound
  pub sound-seat : IsSoundOf (permits_in r) (known_by s)
  sound-seat = sound-values (sight s) clear (permits_in r) is.sits.sound

-- that a seat is a queue's has at most one proof
pub IsQueueSeat-prop : {T : Type 0} (q : RingValues T) (s : Seat T) → IsProp (IsQueueSeat q s)
IsQueueSeat-prop q s = hlevel (props, IsReady-prop)
