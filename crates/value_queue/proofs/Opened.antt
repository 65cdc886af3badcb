-- The seats of a new queue of values.
use Rattle.std.proofs.Common.{◌≡◌, ℕ, suc, ◌+◌, List, [], ◌∷◌, length, map, Option, Some, None, option_map, slice_get, refl, sym, ap, ◌∙◌}
use Rattle.std.specs.List.{All}
use Rattle.std.proofs.lemmas.List.{length-map}
use Rattle.std.proofs.lemmas.List.Elements.{All-nil, All-cons}
use Rattle.std.proofs.lemmas.Option.{slice_get-map, none-some, same_Some}
use Rattle.carriers.specs.Deeds.{own_deeds}
use Rattle.carriers.specs.Knowledge.{KnownOf}
use Rattle.node_arena.specs.Arenas.{Arena}
use Rattle.node_arena.specs.declared.seats.Seat.{Seat}
use Rattle.node_arena.specs.Plans.{Layout, permit_of}
use Rattle.node_arena.specs.NewArenas.{IsMade, IsNewSeat}
use Rattle.node_arena.specs.Seats.{IsReady, HasNoSlot, permits_of}
use Rattle.node_arena.proofs.Openings.{made_permits}
use Rattle.value_queue.specs.ValuesSeen.{told, known_by}
use Rattle.value_queue.specs.Queues.{AreNewOf, newcomer}

-- what holds at each place of a list holds of all
all_places : {A : Type 0} (P : A → Type 0) (xs : List A) → ((k : ℕ) (x : A) → slice_get xs k ≡ Some x → P x) → All P xs
all_places P [] h = All-nil P
all_places P (x ∷ xs) h = All-cons P x xs (h 0 x refl) (all_places P xs (λ k y e. h (suc k) y e))

module _ {T : Type 0} (z : Layout) (r : Arena) (seats : List (Seat T)) (m : IsMade z r seats) where
  -- each seat may begin a call, and has no slot
  pub made_seats : All (λ s. IsReady r s × HasNoSlot s) seats
  made_seats = all_places (λ s. IsReady r s × HasNoSlot s) seats (λ k s e. let new = m.each k s e in (new.ready, new.none_out))

  knows_none : (n : ℕ) (s : Seat T) → IsNewSeat r n s → known_by s ≡ newcomer n
  knows_none n s new = (λ i. record { number = (new.view i).number; seen = told [] (new.deeds i); mine = own_deeds (new.view i).number (told [] (new.deeds i)); notes = (new.view i).notes })

  new_at : (k : ℕ) (c : KnownOf T) (o : Option (Seat T)) → slice_get seats k ≡ o → option_map known_by o ≡ Some c → c ≡ newcomer (k + 1)
  new_at k c None e h = absurd (none-some c h)
  new_at k c (Some s) e h = sym (same_Some (known_by s) c h) ∙ knows_none (k + 1) s (m.each k s e)

  -- and these are all that the queue has, none of which has made a call
  pub made_new : AreNewOf (permits_of r) (map known_by seats)
  made_new =
      record {
        count = length-map seats known_by ∙ m.count ∙ sym (length-map z.roles permit_of) ∙ ap length (sym (made_permits z r seats m));
        each = λ k c e. new_at k c (slice_get seats k) refl (sym (slice_get-map known_by seats k) ∙ e);
      }
