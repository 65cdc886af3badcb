-- The seats of a new ring, in words of queues.
use Rattle.std.proofs.Common.{true, false, ◌≡◌, ℕ, suc, ◌+◌, List, [], ◌∷◌, length, map, Option, Some, None, Result, Ok, Err, IfOk, option_map, slice_get, refl, sym, ap, ◌∙◌}
use Rattle.std.specs.List.{All}
use Rattle.std.proofs.lemmas.List.{length-map}
use Rattle.std.proofs.lemmas.List.Elements.{All-nil, All-cons}
use Rattle.std.proofs.lemmas.Option.{slice_get-map, none-some, same_Some}
use Rattle.history.specs.Seats.{Known}
use Rattle.history.specs.Openings.{AreNew, newcomer}
use Rattle.ring_queue.specs.declared.roles.Role.{Role}
use Rattle.ring_queue.specs.declared.queue.RingQueue.{RingQueue}
use Rattle.ring_queue.specs.declared.seats.Seat.{Seat}
use Rattle.ring_queue.specs.Plans.{permit_of, permits_by}
use Rattle.ring_queue.specs.Knowledge.{known_by}
use Rattle.ring_queue.specs.Seats.{known_of}
use Rattle.ring_queue.specs.Queues.{IsNumberSeat, permits_in}
use Rattle.ring_queue.specs.NewRings.{IsMade, IsMadeOf}
use Rattle.ring_queue.specs.PlacedSeats.{IsWordSeat}

-- what holds at each place of a list holds of all
all_places : {A : Type 0} (P : A → Type 0) (xs : List A) → ((k : ℕ) (x : A) → slice_get xs k ≡ Some x → P x) → All P xs
all_places P [] h = All-nil P
all_places P (x ∷ xs) h = All-cons P x xs (h 0 x refl) (all_places P xs (λ k y e. h (suc k) y e))

-- what holds of an answer, and so another
pub ok_on : {X E : Type 0} (P Q : X → Type 0) → ((x : X) → P x → Q x) → (out : Result X E) → IfOk out P → IfOk out Q
ok_on P Q f (Ok x) h = f x h
ok_on P Q f (Err e) h = tt

module _ {T : Type 0} (most limit : ℕ) (roles : List Role) (q : RingQueue T) (seats : List (Seat T)) (m : IsMade most limit roles q seats) where
  -- each seat of a new ring may begin a call
  pub made_ready : All (IsNumberSeat q) seats
  made_ready = all_places (IsNumberSeat q) seats (λ k s e. (m.each k s e).ready)

  -- a new ring permits what its roles do
  pub made_permits : permits_in q ≡ permits_by roles
  made_permits = ap permits_by m.deals

  new_at : (k : ℕ) (c : Known) (o : Option (Seat T)) → slice_get seats k ≡ o → option_map known_of o ≡ Some c → c ≡ newcomer (k + 1)
  new_at k c None e h = absurd (none-some c h)
  new_at k c (Some s) e h = sym (same_Some (known_of s) c h) ∙ ap known_by (m.each k s e).view

  -- and its seats are all that it has, none of which has made a call
  pub made_new : AreNew (permits_in q) (map known_of seats)
  made_new =
      record {
        count = length-map seats known_of ∙ m.count ∙ sym (length-map roles permit_of) ∙ ap length (sym made_permits);
        each = λ k c e. new_at k c (slice_get seats k) refl (sym (slice_get-map known_of seats k) ∙ e);
      }

-- each seat of a new ring whose values lie in their places may begin a call
pub made_words : {T : Type 0} (width most limit : ℕ) (roles : List Role) (q : RingQueue T) (seats : List (Seat T)) → IsMadeOf false true width most limit roles q seats → All (IsWordSeat q) seats
made_words width most limit roles q seats m = all_places (IsWordSeat q) seats (λ k s e. record { ready = (m.each k s e).ready; placed = m.words })
