-- What a call of a ring tells its seat of values: what it tells of any table with slots.
use Rattle.std.proofs.Common.{◌≡◌, true, Result, Ok, Err, OnOk, IfErr, sym, subst}
use Rattle.history.specs.declared.refusals.Refusal.{Refusal}
use Rattle.history.specs.declared.refusals.Refusal.TheVariants.{Closed}
use Rattle.history.specs.Answers as numbers
use Rattle.carriers.specs.Answers.{PushRefusedOf, MeetsOf, DidShutOf}
use Rattle.ring_queue.specs.declared.queue.RingQueue.{RingQueue}
use Rattle.ring_queue.specs.declared.seats.Seat.{Seat}
use Rattle.ring_queue.specs.Causes.{ShutCaused}
use Rattle.ring_queue.specs.Hands.{MeetsValues}
use Rattle.ring_queue.specs.Seats.{KeepsSlots, known_of}
use Rattle.ring_queue.specs.Queues.{IsRingSeat}
use Rattle.value_queue.specs.Sights.{GoesOn}
use Rattle.value_queue.proofs.Learned.{shut-deed, shut-deeds, meets-deeds}
use Rattle.ring_values.specs.Carried.{carries_of}
use Rattle.ring_values.specs.ValuesSeen.{known_by, sight}
use Rattle.ring_values.specs.Sound.{clear}

-- what a seat has seen goes on where no slot moved
pub on : {T : Type 0} (s t : Seat T) → KeepsSlots s t → GoesOn (sight s) (sight t)
on s t k = record { between = k.between; deeds = k.deeds }

-- two seats met
pub meets-values : {T : Type 0} (r : RingQueue T) (s t s' t' : Seat T) → carries_of r ≡ true → IsRingSeat r s → IsRingSeat r t → IsRingSeat r s'
    → IsRingSeat r t' → MeetsValues s t s' t' → numbers.Meets (known_of s) (known_of t) (known_of s') (known_of t')
    → MeetsOf (known_by s) (known_by t) (known_by s') (known_by t')
meets-values r s t s' t' carries is it is' it' values m =
    meets-deeds (sight s) (sight t) (sight s') (sight t') (clear r carries s is) (clear r carries t it) (clear r carries s' is') (clear r carries t' it') values.same
    (record { between = values.first.0; deeds = values.first.1 }) (record { between = values.second.0; deeds = values.second.1 }) m.first m.second

-- a shut
module _ {T : Type 0} (r : RingQueue T) (carries : carries_of r ≡ true) (s t : Seat T) (is : IsRingSeat r s) (it : IsRingSeat r t) (k : KeepsSlots s t) where
  pub shut_done : (out : Result (Unit {0}) Refusal) → OnOk out (numbers.DidShut (known_of s) (known_of t)) → OnOk out (DidShutOf (known_by s) (known_by t))
  shut_done (Ok x) did = shut-deed (sight s) (sight t) (clear r carries s is) (clear r carries t it) (on s t k) did
  shut_done (Err refusal) did = tt

  pub shut_refused : (out : Result (Unit {0}) Refusal) → IfErr out (λ refusal. (refusal ≡ Closed) × numbers.FoundShut (known_of s) (known_of t))
      → IfErr out (λ refusal. PushRefusedOf (known_by s) refusal (known_by t))
  shut_refused (Ok x) was = tt
  shut_refused (Err refusal) was =
      subst (λ q. PushRefusedOf (known_by s) q (known_by t)) (sym was.0) (shut-deeds (sight s) (sight t) (clear r carries s is) (clear r carries t it) (on s t k) was.1)

  pub shut_caused : (out : Result (Unit {0}) Refusal) → IfErr out (λ refusal. (refusal ≡ Closed) × numbers.FoundShut (known_of s) (known_of t)) → IfErr out (λ refusal. ShutCaused s t refusal)
  shut_caused (Ok x) was = tt
  shut_caused (Err refusal) was = subst (ShutCaused s t) (sym was.0) was.1.shut
