-- The senders and the receiver of a new office.
use Rattle.std.proofs.Common.{◌≡◌, ◌<◌, sym, subst, List, map}
use Rattle.std.proofs.lemmas.List.{get_or-map, length-map}
use Rattle.std.specs.List.{All}
use Rattle.history.specs.Seats.{Permit, Known}
use Rattle.mailbox.specs.declared.office.Office.{Office}
use Rattle.mailbox.specs.declared.sender.Sender.{Sender}
use Rattle.mailbox.specs.Offices.{IsSender, queue_in}
use Rattle.mailbox.specs.Openings.{CanSend}

-- what holds of each image holds of what it is the image of
all_before-map : {X Y : Type 0} (P : Y → Type 0) (f : X → Y) (xs : List X) → All P (map f xs) → All (λ x. P (f x)) xs
all_before-map P f xs all k d short =
    subst P (get_or-map f xs k d (f d) short) (all k (f d) (subst (λ n. k < n) (sym (length-map xs f)) short))

module _ {Q S : Type 0} (is_seat : Q → S → Type 0) (permits : Q → List Permit) (known : S → Known) (o : Office Q S) where
  -- senders whose seats may send are senders of the office over that queue
  pub senders_of-seats : (queue : Q) → queue_in o ≡ queue → (seats : List S) (ss : List (Sender Q S)) → map (λ s. s.seat) ss ≡ seats
      → All (CanSend is_seat permits known queue) seats → All (IsSender is_seat permits known o) ss
  senders_of-seats queue its seats ss same all k d short =
      let here = subst (λ q. All (CanSend is_seat permits known q) seats) (sym its) all in
      let can = all_before-map (CanSend is_seat permits known (queue_in o)) (λ s. s.seat) ss (subst (All (CanSend is_seat permits known (queue_in o))) (sym same) here) k d short in
      record { seat = can.seat; role = can.role }
