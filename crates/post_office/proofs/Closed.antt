-- An office that is closed by a list of seats: those of its senders, of its receivers, and its own.
use Rattle.std.proofs.Common.{◌≡◌, sym, subst, List, ◌++◌, map}
use Rattle.std.specs.Prelude.{IsTrue, nat_eq}
use Rattle.std.specs.List.{All, IsDistinct}
use Rattle.std.specs.List.Sorted.{IsPermutation}
use Rattle.carriers.specs.declared.queues.Carrier.{Ghosts}
use Rattle.carriers.specs.declared.rests.RestOf.{RestOf}
use Rattle.carriers.specs.Knowledge.{KnownOf}
use Rattle.carriers.specs.Ends.{ClosesOf}
use Rattle.carriers.specs.Rests.{left_in, was_shut_in, whole_in}
use Rattle.carriers.specs.Delivered.{DeliversOf}
use Rattle.carriers.specs.Together.{pushed_by, popped_by}
use Rattle.carriers.proofs.Delivering.{all-deliver}
use Rattle.carriers.proofs.Together.{handed_over_once}
use Rattle.shared_queue.specs.declared.sender.Sender.{Sender}
use Rattle.shared_queue.specs.declared.receiver.Receiver.{Receiver}
use Rattle.shared_queue.specs.Handles.{sender_queue, receiver_queue}
use Rattle.post_office.specs.declared.offices.PostOffice.{PostOffice}
use Rattle.post_office.specs.Offices.{office_queue, seats_of, known_by}
use Rattle.post_office.proofs.Shares.{all_sit}

module _ {C A S : Type 0} {carrier : Ghosts C A S} (o : PostOffice C A S carrier) (ss : List (Sender C A S carrier)) (rs : List (Receiver C A S carrier))
    {q : C} {all : List S} (same : q ≡ office_queue o) (put : all ≡ seats_of o ss rs) where
  -- each of them is the queue's
  pub each_sits : ((q : C) (s : S) → IsProp (carrier.is_seat q s)) → All (λ h. sender_queue h ≡ office_queue o) ss → All (λ h. receiver_queue h ≡ office_queue o) rs → All (carrier.is_seat q) all
  each_sits prop senders receivers = subst (All (carrier.is_seat q)) (sym put) (all_sit prop o ss rs q (sym same) senders receivers)

  -- what an end asks of the office's queue, and of what the handles know, holds of these
  pub asks_so : (asks : C → List (KnownOf A) → Type 0) → asks (office_queue o) (known_by o ss rs) → asks q (map carrier.known all)
  asks_so asks h = subst (λ x. asks x (map carrier.known all)) (sym same) (subst (λ l. asks (office_queue o) (map carrier.known l)) (sym put) h)

  -- the office and its seats come back where it isn't closed
  pub comes_back : ((q : C) (s : S) → IsProp (carrier.is_seat q s)) → All (λ h. sender_queue h ≡ office_queue o) ss → All (λ h. receiver_queue h ≡ office_queue o) rs
      → (q ≡ office_queue o) × (all ≡ seats_of o ss rs) × All (carrier.is_seat q) all
  comes_back prop senders receivers = (same, put, each_sits prop senders receivers)

  module _ (rest : RestOf A) (closes : ClosesOf (carrier.permits q) (map carrier.known all) rest) where
    -- the office is closed so where these seats are
    closed : ClosesOf (carrier.permits (office_queue o)) (known_by o ss rs) rest
    closed = subst (λ x. ClosesOf (carrier.permits x) (known_by o ss rs) rest) same (subst (λ l. ClosesOf (carrier.permits q) (map carrier.known l) rest) put closes)

    -- each handle sent what was taken of it, and then what is left of it
    pub delivers : All (λ giver. DeliversOf giver (known_by o ss rs) (left_in rest)) (known_by o ss rs)
    delivers = all-deliver (known_by o ss rs) closed.history (was_shut_in rest) (left_in rest) closed.runs closed.own

    -- and where the rest is whole, each letter once
    pub each_once : IsTrue (whole_in rest) → IsDistinct nat_eq (map (λ (k : KnownOf A). k.number) (known_by o ss rs))
        → IsPermutation (pushed_by (known_by o ss rs)) (popped_by (known_by o ss rs) ++ left_in rest)
    each_once = handed_over_once (carrier.permits (office_queue o)) (known_by o ss rs) rest closed
