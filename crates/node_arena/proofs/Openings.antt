-- The seats of a new arena, in words of queues.
use Rattle.std.proofs.Common.{◌≡◌, ℕ, suc, ◌+◌, List, [], ◌∷◌, length, map, Option, Some, None, option_map, slice_get, refl, sym, ap, ◌∙◌}
use Rattle.std.specs.List.{All}
use Rattle.std.proofs.lemmas.List.{length-map}
use Rattle.std.proofs.lemmas.List.Elements.{All-nil, All-cons}
use Rattle.std.proofs.lemmas.Option.{slice_get-map, none-some, same_Some}
use Rattle.history.specs.Seats.{Known}
use Rattle.history.specs.Openings.{AreNew, newcomer}
use Rattle.node_arena.specs.Arenas.{Arena}
use Rattle.node_arena.specs.declared.seats.Seat.{Seat}
use Rattle.node_arena.specs.Plans.{Layout, permit_of, permits_by}
use Rattle.node_arena.specs.NewArenas.{IsMade}
use Rattle.node_arena.specs.Knowledge.{known_by}
use Rattle.node_arena.specs.Seats.{IsReady, permits_of, known_of}

-- what holds at each place of a list holds of all
all_places : {A : Type 0} (P : A → Type 0) (xs : List A) → ((k : ℕ) (x : A) → slice_get xs k ≡ Some x → P x) → All P xs
all_places P [] h = All-nil P
all_places P (x ∷ xs) h = All-cons P x xs (h 0 x refl) (all_places P xs (λ k y e. h (suc k) y e))

module _ {T : Type 0} (z : Layout) (r : Arena) (seats : List (Seat T)) (m : IsMade z r seats) where
  -- each seat of a new arena may begin a call
  pub made_ready : All (IsReady r) seats
  made_ready = all_places (IsReady r) seats (λ k s e. (m.each k s e).ready)

  -- a new arena permits what its roles do
  pub made_permits : permits_of r ≡ permits_by z.roles
  made_permits = ap (λ p. permits_by p.roles) m.plan

  new_at : (k : ℕ) (c : Known) (o : Option (Seat T)) → slice_get seats k ≡ o → option_map known_of o ≡ Some c → c ≡ newcomer (k + 1)
  new_at k c None e h = absurd (none-some c h)
  new_at k c (Some s) e h = sym (same_Some (known_of s) c h) ∙ ap known_by (m.each k s e).view

  -- and its seats are all that it has, none of which has made a call
  pub made_new : AreNew (permits_of r) (map known_of seats)
  made_new =
      record {
        count = length-map seats known_of ∙ m.count ∙ sym (length-map z.roles permit_of) ∙ ap length (sym made_permits);
        each = λ k c e. new_at k c (slice_get seats k) refl (sym (slice_get-map known_of seats k) ∙ e);
      }
