-- Seats with their shares, and without.
use Rattle.std.proofs.Common.{◌≡◌, List, [], ◌∷◌, ◌++◌, map, get_or, ap, ◌∙◌, sym, subst}
use Rattle.std.specs.List.{All}
use Rattle.std.proofs.Math.Logic.{∥∥₁_elim}
use mathlib.Core.List.{map-map}
use Rattle.std.proofs.lemmas.List.{map-append}
use Rattle.std.proofs.lemmas.List.Elements.{All-map, All-append, All-cons, All-nil, All-head, All-tail}
use Rattle.carriers.specs.declared.queues.Carrier.{Ghosts}
use Rattle.owned.specs.declared.seats.OwnedSeat.{OwnedSeat}
use Rattle.owned.specs.Owned.{queue_of, seat_of}

-- what holds of what a list is mapped to
pub All-unmap : {A B : Type 0} (P : B → Type 0) (f : A → B) (xs : List A) → All P (map f xs) → All (λ x. P (f x)) xs
All-unmap P f [] a = All-nil (λ x. P (f x))
All-unmap P f (x ∷ xs) a = All-cons (λ x. P (f x)) x xs (All-head P (f x) (map f xs) a) (All-unmap P f xs (All-tail P (f x) (map f xs) a))

module _ {C A S : Type 0} {carrier : Ghosts C A S} (prop : (q : C) (s : S) → IsProp (carrier.is_seat q s)) where
  -- a seat with its share is its queue's
  pub sits : (s : OwnedSeat C A S carrier) → carrier.is_seat (queue_of s) (seat_of s)
  sits s = ∥∥₁_elim s.sits (prop (queue_of s) (seat_of s)) (λ x. x)

  -- the seat of one with a share of this queue is the queue's
  pub sits_in : (q : C) (s : OwnedSeat C A S carrier) → queue_of s ≡ q → carrier.is_seat q (seat_of s)
  sits_in q s e = subst (λ p. carrier.is_seat p (seat_of s)) e (sits s)

module _ {C A S : Type 0} {carrier : Ghosts C A S} (others : List (OwnedSeat C A S carrier)) (one : OwnedSeat C A S carrier) (seats : List S) (e : seats ≡ map seat_of others ++ seat_of one ∷ []) where
  -- what holds of each seat with a share holds of each without
  pub all_seats : (P : S → Type 0) → All (λ s. P (seat_of s)) others → P (seat_of one) → All P seats
  all_seats P all p = subst (All P) (sym e)
      (All-append P (map seat_of others) (seat_of one ∷ []) (All-map P seat_of others all) (All-cons P (seat_of one) [] p (All-nil P)))

  -- seats of one queue, without their shares, are each that queue's
  pub all_sit : ((q : C) (s : S) → IsProp (carrier.is_seat q s)) → (q : C) → queue_of one ≡ q → All (λ s. queue_of s ≡ queue_of one) others → All (carrier.is_seat q) seats
  all_sit prop q mine theirs = all_seats (carrier.is_seat q) (λ k d l. sits_in prop q (get_or others k d) (theirs k d l ∙ mine)) (sits_in prop q one mine)

  -- what the seats know is what those with shares know
  pub all_known : {K : Type 0} (known : S → K) → map known seats ≡ map (λ (s : OwnedSeat C A S carrier). known (seat_of s)) (others ++ one ∷ [])
  all_known known = ap (map known) e ∙ map-append known (map seat_of others) (seat_of one ∷ []) ∙
      ap (λ ks. ks ++ known (seat_of one) ∷ []) (map-map known seat_of others) ∙
      sym (map-append (λ (s : OwnedSeat C A S carrier). known (seat_of s)) others (one ∷ []))
