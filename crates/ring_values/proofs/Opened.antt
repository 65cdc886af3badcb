-- The seats of a new queue of values.
use Rattle.std.proofs.Common.{◌≡◌, ℕ, suc, ◌+◌, ◌*◌, ◌^◌, ◌<◌, ◌≤◌, true, List, [], ◌∷◌, length, map, Option, Some, None, option_map, slice_get, refl, sym, ap, subst, ◌∙◌, arith}
use Rattle.std.specs.List.{All}
use Rattle.std.proofs.lemmas.List.{length-map}
use Rattle.std.proofs.lemmas.List.Elements.{All-nil, All-cons}
use Rattle.std.proofs.lemmas.Option.{slice_get-map, none-some, same_Some}
use Rattle.history.specs.Seats.{Permit}
use Rattle.carriers.specs.Deeds.{own_deeds}
use Rattle.carriers.specs.Knowledge.{KnownOf}
use Rattle.ring_queue.specs.declared.queue.RingQueue.{RingQueue}
use Rattle.ring_queue.specs.declared.roles.Role.{Role}
use Rattle.ring_queue.specs.declared.seats.Seat.{Seat}
use Rattle.ring_queue.specs.Plans.{permit_of, permits_by}
use Rattle.ring_queue.specs.NewRings.{IsDealt, IsMadeFor}
use Rattle.ring_queue.specs.Queues.{permits_in}
use Rattle.value_queue.specs.ValuesSeen.{told}
use Rattle.value_queue.specs.Queues.{AreNewOf, newcomer}
use Rattle.ring_values.specs.declared.queue.RingValues.{RingValues}
use Rattle.ring_values.specs.ValuesSeen.{known_by}
use Rattle.ring_values.specs.Carried.{slots_in}
use Rattle.ring_values.specs.Queues.{ring_of, IsQueueSeat}

-- what holds at each place of a list holds of all
all_places : {A : Type 0} (P : A → Type 0) (xs : List A) → ((k : ℕ) (x : A) → slice_get xs k ≡ Some x → P x) → All P xs
all_places P [] h = All-nil P
all_places P (x ∷ xs) h = All-cons P x xs (h 0 x refl) (all_places P xs (λ k y e. h (suc k) y e))

-- seats that know nothing are those of a new queue
module _ {S A : Type 0} (known : S → KnownOf A) (roles : List Role) (seats : List S) (each : (k : ℕ) (s : S) → slice_get seats k ≡ Some s → known s ≡ newcomer (k + 1)) where
  new_at : (k : ℕ) (c : KnownOf A) (o : Option S) → slice_get seats k ≡ o → option_map known o ≡ Some c → c ≡ newcomer (k + 1)
  new_at k c None e h = absurd (none-some c h)
  new_at k c (Some s) e h = sym (same_Some (known s) c h) ∙ each k s e

  pub all_new : (permits : List Permit) → permits ≡ permits_by roles → length seats ≡ length roles → AreNewOf permits (map known seats)
  all_new permits made count =
      record {
        count = length-map seats known ∙ count ∙ sym (length-map roles permit_of) ∙ ap length (sym made);
        each = λ k c e. new_at k c (slice_get seats k) refl (sym (slice_get-map known seats k) ∙ e);
      }

-- each seat of a new queue may begin a call, and has no slot
pub made_seats : {T : Type 0} (most limit : ℕ) (roles : List Role) (q : RingValues T) (seats : List (Seat T))
    → IsMadeFor true most limit roles (ring_of q) seats → All (IsQueueSeat q) seats
made_seats most limit roles q seats m = all_places (IsQueueSeat q) seats (λ k s e. let new = m.each k s e in record { ready = new.ready; none_out = new.none_out })

module _ {T : Type 0} (most limit : ℕ) (roles : List Role) (r : RingQueue T) (seats : List (Seat T)) (m : IsMadeFor true most limit roles r seats) where
  -- a new ring permits what its roles do
  pub made_permits : permits_in r ≡ permits_by roles
  made_permits = ap permits_by m.deals

  -- the numbers of its slots are those of bodies
  pub made_narrow : most ≤ 4294967295 → slots_in r ≤ 2 ^ 48
  made_narrow few_values =
      let few : length roles < 2 ^ 15 = subst (λ (rs : List Role). length rs < 2 ^ 15) m.deals r.laid.planned.few in
      let close : r.plan.slots < 2 * (most + length roles) = m.slots.close in
      omega (arith, few_values, few, close)

  knows_none : (n : ℕ) (s : Seat T) → IsDealt r.plan r.table.shared.table_id n s → known_by s ≡ newcomer n
  knows_none n s new = (λ i. record { number = (new.view i).number; seen = told [] (new.none_done i); mine = own_deeds (new.view i).number (told [] (new.none_done i)); notes = (new.view i).notes })

  -- and its seats are all that it has, none of which has made a call
  pub made_new : AreNewOf (permits_in r) (map known_by seats)
  made_new = all_new known_by roles seats (λ k s e. knows_none (k + 1) s (m.each k s e)) (permits_in r) made_permits m.count
