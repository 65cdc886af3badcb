-- The seats of an office, of its senders and of its receivers.
use Rattle.std.proofs.Common.{◌≡◌, ◌∙◌, refl, sym, ap, subst, List, [], ◌∷◌, ◌++◌, map, get_or}
use Rattle.std.specs.List.{All}
use Rattle.std.proofs.Math.Logic.{∥∥₁_elim}
use mathlib.Core.HLevel.{×_prop}
use Rattle.std.proofs.lemmas.List.Elements.{All-map, All-append, All-cons, All-nil}
use Rattle.history.specs.Seats.{MayPush}
use Rattle.carriers.specs.declared.queues.Carrier.{Ghosts}
use Rattle.shared_queue.specs.declared.queue.SharedQueue.{SharedQueue}
use Rattle.shared_queue.specs.Queues.{queue_of}
use Rattle.shared_queue.specs.declared.sender.Sender.{Sender}
use Rattle.shared_queue.specs.declared.receiver.Receiver.{Receiver}
use Rattle.shared_queue.specs.Handles.{sender_queue, sender_seat, receiver_queue, receiver_seat}
use Rattle.shared_queue.specs.Seats.{IsGiver}
use Rattle.shared_queue.proofs.Shares.{may_push-prop, sender_of, receiver_of}
use Rattle.post_office.specs.declared.offices.PostOffice.{PostOffice}
use Rattle.post_office.specs.Offices.{office_queue, office_seat, seats_of}

module _ {C A S : Type 0} {carrier : Ghosts C A S} (prop : (q : C) (s : S) → IsProp (carrier.is_seat q s)) where
  -- the seat of an office of this queue is the queue's, and may push
  pub office_in : (b : SharedQueue C) (o : PostOffice C A S carrier) → b ≡ o.queue.value → IsGiver carrier.is_seat carrier.permits carrier.known (queue_of b) o.seat
  office_in b o e =
      let q = queue_of o.queue.value in
      subst (λ x. IsGiver carrier.is_seat carrier.permits carrier.known (queue_of x) o.seat) (sym e)
      (∥∥₁_elim o.sits (×_prop (prop q o.seat) (may_push-prop (carrier.permits q) (carrier.known o.seat).number)) (λ x. x))

  -- and is so after a call that leaves it the queue's, with its number
  pub office_stays : (b : SharedQueue C) (o : PostOffice C A S carrier) → b ≡ o.queue.value → (after : S) → carrier.is_seat (queue_of b) after
      → (carrier.known after).number ≡ (carrier.known o.seat).number
      → ∥ IsGiver carrier.is_seat carrier.permits carrier.known (queue_of o.queue.value) after ∥₁
  office_stays b o e after here same =
      ∣ subst (λ x. IsGiver carrier.is_seat carrier.permits carrier.known (queue_of x) after) e
      (here, subst (λ n. MayPush (carrier.permits (queue_of b)) n) (sym same) (office_in b o e).1) ∣₁

  -- each of the seats of an office, its senders and its receivers is the queue's
  pub all_sit : (o : PostOffice C A S carrier) (ss : List (Sender C A S carrier)) (rs : List (Receiver C A S carrier)) (q : C) → office_queue o ≡ q
      → All (λ h. sender_queue h ≡ office_queue o) ss → All (λ h. receiver_queue h ≡ office_queue o) rs → All (carrier.is_seat q) (seats_of o ss rs)
  all_sit o ss rs q mine senders receivers =
      let is = carrier.is_seat q in
      let own = subst (λ x. carrier.is_seat x o.seat) mine (office_in o.queue.value o refl).0 in
      All-append is _ (office_seat o ∷ [])
      (All-append is (map sender_seat ss) (map receiver_seat rs)
      (All-map is sender_seat ss (λ k d low. (sender_of prop q (get_or ss k d) (senders k d low ∙ mine)).0))
      (All-map is receiver_seat rs (λ k d low. (receiver_of prop q (get_or rs k d) (receivers k d low ∙ mine)).0)))
      (All-cons is (office_seat o) [] own (All-nil is))

-- the seats of senders, then those of receivers and then that of the office, put in a list that was empty
pub seats_put : {C A S : Type 0} {carrier : Ghosts C A S} (o : PostOffice C A S carrier) (ss : List (Sender C A S carrier)) (rs : List (Receiver C A S carrier)) {none some more all : List S}
    → none ≡ [] → some ≡ none ++ map sender_seat ss → more ≡ some ++ map receiver_seat rs → all ≡ more ++ office_seat o ∷ [] → all ≡ seats_of o ss rs
seats_put o ss rs a b c d =
    d ∙ ap (λ l. l ++ office_seat o ∷ []) (c ∙ ap (λ l. l ++ map receiver_seat rs) (b ∙ ap (λ l. l ++ map sender_seat ss) a))
