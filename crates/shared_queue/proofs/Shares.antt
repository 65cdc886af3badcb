-- Seats with their shares.
use Rattle.std.proofs.Common.{◌≡◌, ℕ, ◌-◌, ◌≤◌, IsTrue, refl, sym, subst, List, Option, None, Some, IsSomeAnd, slice_get}
use Rattle.std.proofs.Math.Logic.{∥∥₁_elim}
use mathlib.Core.HLevel.{×_prop}
use denote.Struct.Props.{props}
use Rattle.history.specs.Seats.{Permit, MayPush, MayPop}
use Rattle.carriers.specs.declared.queues.Carrier.{Ghosts}
use Rattle.shared_queue.specs.declared.queue.SharedQueue.{SharedQueue}
use Rattle.shared_queue.specs.Queues.{queue_of}
use Rattle.shared_queue.specs.declared.sender.Sender.{Sender}
use Rattle.shared_queue.specs.declared.receiver.Receiver.{Receiver}
use Rattle.shared_queue.specs.declared.closers.Closer.{Closer}
use Rattle.shared_queue.specs.Handles.{sender_queue, receiver_queue}
use Rattle.shared_queue.specs.declared.share.Share.{Share}
use Rattle.shared_queue.specs.declared.stepped.SteppedQueue.{SteppedQueue}
use Rattle.shared_queue.specs.Seats.{IsGiver, IsTaker, IsBoth}
use Rattle.shared_queue.specs.Stepped.{stepped_queue}

-- whether what is there is so has at most one proof
there_prop : {X : Type 0} (P : X → Type 0) → ((x : X) → IsProp (P x)) → (o : Option X) → IsProp (IsSomeAnd o P)
there_prop P prop (Some x) = prop x
there_prop P prop None = λ a b. absurd a

-- that a seat may push has at most one proof
pub may_push-prop : (permits : List Permit) (n : ℕ) → IsProp (MayPush permits n)
may_push-prop permits n =
    let least : IsProp (1 ≤ n) = hlevel props in
    ×_prop least (there_prop (λ (p : Permit). IsTrue p.pushes) (λ p. hlevel props) (slice_get permits (n - 1)))

-- and that it may pop
pub may_pop-prop : (permits : List Permit) (n : ℕ) → IsProp (MayPop permits n)
may_pop-prop permits n =
    let least : IsProp (1 ≤ n) = hlevel props in
    ×_prop least (there_prop (λ (p : Permit). IsTrue p.pops) (λ p. hlevel props) (slice_get permits (n - 1)))

-- three facts of which each has at most one proof have at most one proof together
triple_prop : {X Y Z : Type 0} → IsProp X → IsProp Y → IsProp Z → IsProp (X × Y × Z)
triple_prop p q r x y = λ i. (p x.0 y.0 i, q x.1 y.1 i, r x.2 y.2 i)

module _ {C A S : Type 0} {carrier : Ghosts C A S} (prop : (q : C) (s : S) → IsProp (carrier.is_seat q s)) where
  -- the seat of a sender of this queue is the queue's, and may push
  pub sender_in : (b : SharedQueue C) (h : Sender C A S carrier) → b ≡ h.queue.value → IsGiver carrier.is_seat carrier.permits carrier.known (queue_of b) h.seat
  sender_in b h e =
      let q = queue_of h.queue.value in
      subst (λ x. IsGiver carrier.is_seat carrier.permits carrier.known (queue_of x) h.seat) (sym e)
      (∥∥₁_elim h.sits (×_prop (prop q h.seat) (may_push-prop (carrier.permits q) (carrier.known h.seat).number)) (λ x. x))

  -- the seat of a receiver of this queue is the queue's, and may pop
  pub receiver_in : (b : SharedQueue C) (h : Receiver C A S carrier) → b ≡ h.queue.value → IsTaker carrier.is_seat carrier.permits carrier.known (queue_of b) h.seat
  receiver_in b h e =
      let q = queue_of h.queue.value in
      subst (λ x. IsTaker carrier.is_seat carrier.permits carrier.known (queue_of x) h.seat) (sym e)
      (∥∥₁_elim h.sits (×_prop (prop q h.seat) (may_pop-prop (carrier.permits q) (carrier.known h.seat).number)) (λ x. x))

  -- a sender's seat after a call that leaves it the queue's, with its number, is so too
  pub sender_stays : (b : SharedQueue C) (h : Sender C A S carrier) → b ≡ h.queue.value → (after : S) → carrier.is_seat (queue_of b) after
      → (carrier.known after).number ≡ (carrier.known h.seat).number
      → ∥ IsGiver carrier.is_seat carrier.permits carrier.known (queue_of h.queue.value) after ∥₁
  sender_stays b h e after here same =
      ∣ subst (λ x. IsGiver carrier.is_seat carrier.permits carrier.known (queue_of x) after) e
      (here, subst (λ n. MayPush (carrier.permits (queue_of b)) n) (sym same) (sender_in b h e).1) ∣₁

  -- a receiver's seat after a call that leaves it the queue's, with its number, is so too
  pub receiver_stays : (b : SharedQueue C) (h : Receiver C A S carrier) → b ≡ h.queue.value → (after : S) → carrier.is_seat (queue_of b) after
      → (carrier.known after).number ≡ (carrier.known h.seat).number
      → ∥ IsTaker carrier.is_seat carrier.permits carrier.known (queue_of h.queue.value) after ∥₁
  receiver_stays b h e after here same =
      ∣ subst (λ x. IsTaker carrier.is_seat carrier.permits carrier.known (queue_of x) after) e
      (here, subst (λ n. MayPop (carrier.permits (queue_of b)) n) (sym same) (receiver_in b h e).1) ∣₁

  -- the seat of a sender of this queue, whichever its share, is the queue's, and may push
  pub sender_of : (q : C) (h : Sender C A S carrier) → sender_queue h ≡ q → IsGiver carrier.is_seat carrier.permits carrier.known q h.seat
  sender_of q h e = subst (λ x. IsGiver carrier.is_seat carrier.permits carrier.known x h.seat) e (sender_in h.queue.value h refl)

  -- and that of a receiver is, and may pop
  pub receiver_of : (q : C) (h : Receiver C A S carrier) → receiver_queue h ≡ q → IsTaker carrier.is_seat carrier.permits carrier.known q h.seat
  receiver_of q h e = subst (λ x. IsTaker carrier.is_seat carrier.permits carrier.known x h.seat) e (receiver_in h.queue.value h refl)

  -- and a sender's is so after a call of this queue that leaves it there, with its number
  pub sender_after : (q : C) (h : Sender C A S carrier) → sender_queue h ≡ q → (after : S) → carrier.is_seat q after → (carrier.known after).number ≡ (carrier.known h.seat).number
      → ∥ IsGiver carrier.is_seat carrier.permits carrier.known (queue_of h.queue.value) after ∥₁
  sender_after q h e after here same =
      ∣ subst (λ x. IsGiver carrier.is_seat carrier.permits carrier.known x after) (sym e)
      (here, subst (λ n. MayPush (carrier.permits q) n) (sym same) (sender_of q h e).1) ∣₁

  -- the seat of a closer of this queue is the queue's, and may push
  pub shuts_in : (b : SharedQueue C) (c : Closer C A S carrier) → b ≡ c.queue.value → IsGiver carrier.is_seat carrier.permits carrier.known (queue_of b) c.seat
  shuts_in b c e =
      let q = queue_of c.queue.value in
      subst (λ x. IsGiver carrier.is_seat carrier.permits carrier.known (queue_of x) c.seat) (sym e)
      (∥∥₁_elim c.sits (×_prop (prop q c.seat) (may_push-prop (carrier.permits q) (carrier.known c.seat).number)) (λ x. x))

  -- the seat of a share of this queue is the queue's, and may push and pop
  pub share_in : (b : SteppedQueue C) (h : Share C A S carrier) → b ≡ h.queue.value → IsBoth carrier.is_seat carrier.permits carrier.known (stepped_queue b) h.seat
  share_in b h e =
      let q = stepped_queue h.queue.value in let n = (carrier.known h.seat).number in
      subst (λ x. IsBoth carrier.is_seat carrier.permits carrier.known (stepped_queue x) h.seat) (sym e)
      (∥∥₁_elim h.sits (triple_prop (prop q h.seat) (may_push-prop (carrier.permits q) n) (may_pop-prop (carrier.permits q) n)) (λ x. x))

  -- a share's seat after a call that leaves it the queue's, with its number, is so too
  pub share_stays : (b : SteppedQueue C) (h : Share C A S carrier) → b ≡ h.queue.value → (after : S) → carrier.is_seat (stepped_queue b) after
      → (carrier.known after).number ≡ (carrier.known h.seat).number
      → ∥ IsBoth carrier.is_seat carrier.permits carrier.known (stepped_queue h.queue.value) after ∥₁
  share_stays b h e after here same =
      let was = share_in b h e in let q = stepped_queue b in
      ∣ subst (λ x. IsBoth carrier.is_seat carrier.permits carrier.known (stepped_queue x) after) e
      (here, subst (λ n. MayPush (carrier.permits q) n) (sym same) was.1, subst (λ n. MayPop (carrier.permits q) n) (sym same) was.2) ∣₁
