-- What a pop of a value answers, by what its parts do.
use Rattle.std.proofs.Common.{◌≡◌, true, [], sym, subst}
use Rattle.history.specs.declared.operations.Entry.TheVariants.{Pop}
use Rattle.history.specs.declared.operations.Taken.{Taken}
use Rattle.history.specs.Answers.{Popped}
use Rattle.carriers.specs.declared.items.ItemOf.{ItemOf}
use Rattle.carriers.specs.Deeds.{own_deeds, did_pop}
use Rattle.carriers.specs.Answers.{AddsDeed, PoppedOf}
use Rattle.node_arena.specs.Deeds.{item}
use Rattle.ring_queue.specs.declared.queue.RingQueue.{RingQueue}
use Rattle.ring_queue.specs.declared.seats.Seat.{Seat}
use Rattle.ring_queue.specs.Hands.{HasValue, KeepsKnown, TakesSlot}
use Rattle.ring_queue.specs.Seats.{HasNoSlot, known_of, view}
use Rattle.ring_queue.specs.Queues.{IsRingSeat}
use Rattle.ring_queue.proofs.Moved.{has_taken}
use Rattle.value_queue.specs.ValuesSeen.{told}
use Rattle.value_queue.specs.Runs.{as_item}
use Rattle.ring_values.specs.Carried.{carries_of}
use Rattle.ring_values.specs.ValuesSeen.{known_by, sight}
use Rattle.ring_values.specs.Pops.{TakesOut}
use Rattle.value_queue.proofs.Learned.{pop-deed}
use Rattle.ring_values.specs.Sound.{clear}
use Rattle.ring_values.proofs.Pushed.{value_is}

-- a seat knows the same of values
known_still : {T : Type 0} (x y : Seat T) → KeepsKnown x y → known_by y ≡ known_by x
known_still x y k = (λ i. record { number = (k.view i).number; seen = told [] (k.deeds i); mine = own_deeds (k.view i).number (told [] (k.deeds i)); notes = (k.view i).notes })

module _ {T : Type 0} (r : RingQueue T) (carries : carries_of r ≡ true) (s x : Seat T) (is : IsRingSeat r s) (it : IsRingSeat r x)
    (none : HasNoSlot s) (taken : Taken) (takes : TakesSlot r.plan taken s x) where
  -- the slot of what was popped is out with the seat, with a value in it
  pub pop_slot : HasValue r.plan x taken.body
  pop_slot = ((takes carries).0, has_taken r.plan r.table.shared.table_id taken s x it.sits none carries takes)

  -- the value was taken out of it
  pub pop_value : (y : Seat T) (front : ItemOf T) → Popped (known_of s) taken (known_of x) → TakesOut r x y taken front → PoppedOf (known_by s) front (known_by y)
  pop_value y front adds t =
      let took = takes carries in
      let value : took.0 ≡ front.value = value_is x.token.me.1 taken.body took.0 front.value (has_taken r.plan r.table.shared.table_id taken s x it.sits none carries takes).out t.value.out in
      let its : as_item (item taken.from took.0) ≡ front = (λ i. record { from = sym t.from i; value = value i }) in
      let deed : AddsDeed (known_by s) (did_pop (view s).number (as_item (item taken.from took.0))) (known_by x) =
      pop-deed (sight s) (sight x) (clear r carries s is) (clear r carries x it) (Pop (view s).number taken) (item taken.from took.0) took.3.adds.between took.3.adds.deeds
      took.3.stood.0 took.3.stood.1 took.3.stood.2 adds in
      subst (λ q. AddsDeed (known_by s) (did_pop (view s).number front) q) (sym (known_still x y t.keeps)) (subst (λ q. AddsDeed (known_by s) (did_pop (view s).number q) (known_by x)) its deed)
