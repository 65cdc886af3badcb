-- The seats of handles whose queue of words is closed.
use Rattle.std.proofs.Common.{◌≡◌, ◌+◌, Bool, List, [], ◌∷◌, ◌++◌, length, map, ap, ◌∙◌, sym, subst, true, Some, Result, Ok, Err, IfOk, arith}
use Rattle.std.specs.List.{All}
use Rattle.std.proofs.lemmas.List.{length-append, length-map}
use Rattle.std.proofs.lemmas.List.Elements.{All-map, All-pop, All-weaker}
use mathlib.Core.List.{map-map}
use Rattle.carriers.specs.declared.queues.Carrier.{Ghosts}
use Rattle.carriers.specs.Ends.{ClosesOf}
use Rattle.carriers.specs.declared.rests.RestOf.{RestOf}
use Rattle.node_arena.specs.declared.ended.Ended.{Ended}
use Rattle.node_arena.specs.declared.seats.Seat.{Seat}
use Rattle.value_queue.specs.Ends.{LeavesValues}
use Rattle.value_queue.specs.ValuesSeen.{known_by}
use Rattle.picked.specs.declared.kind_values.AnyValues.{AnyValues}
use Rattle.picked.specs.AnyValues.{arena_of, permits_of}
use Rattle.owned.specs.Owned.{queue_of, seat_of}
use Rattle.owned.proofs.SeatShares.{All-unmap}
use Rattle.msq_c.specs.declared.troubles.Trouble.{Trouble}
use Rattle.msq_c.specs.WordBlocks.{Owned, Own, owned_in, queue_in}
use Rattle.msq_c.specs.WordSeats.{known_at, queue_at}
use Rattle.msq_c.specs.WordEnds.{AreFull, AreOfOne, KeepSeats, owned_at, HasAnyRoom, HasRoomOf, ClosesHandles, WordRoom}

module _ {H T : Type 0} {g : Ghosts (AnyValues T) T (Seat T)} (holds : H → Bool) (own : H → Own T g) where
  -- the seats with their shares, where handles keep them
  pub same_owned : (slots slots' : List H) → KeepSeats holds own slots slots' → map (owned_at own) slots' ≡ map (owned_at own) slots
  same_owned slots slots' k = sym (map-map owned_in own slots') ∙ ap (map owned_in) k.seats ∙ map-map owned_in own slots

  -- a seat with its share is one of this queue
  abbrev pub IsOf : AnyValues T → Owned T g → Type 0
  IsOf q s = queue_of s ≡ q

  all_of : (q : AnyValues T) (slots : List H) → AreFull holds slots → All (λ h. holds h ≡ true → queue_at own h ≡ q) slots → All (IsOf q) (map (owned_at own) slots)
  all_of q slots full one = All-map (IsOf q) (owned_at own) slots (λ k d l. one k d l (full k d l))

  -- the seats of full handles of one queue, the last one and others
  module _ (slots : List H) (full : AreFull holds slots) (of_one : AreOfOne holds own slots)
      (all others : List (Owned T g)) (last : Owned T g) (taken : all ≡ map (owned_at own) slots) (popped : all ≡ others ++ last ∷ []) where
    both : All (IsOf of_one.queue) others × IsOf of_one.queue last
    both = All-pop (IsOf of_one.queue) all others (Some last) popped (subst (All (IsOf of_one.queue)) (sym taken) (all_of of_one.queue slots full of_one.one))

    pub others_one : All (λ s. queue_of s ≡ queue_of last) others
    others_one = All-weaker (IsOf of_one.queue) (λ s. queue_of s ≡ queue_of last) (λ s e. e ∙ sym both.1) others both.0

    known : map (λ (s : Owned T g). known_by (seat_of s)) (others ++ last ∷ []) ≡ map (known_at own) slots
    known = ap (map (λ (s : Owned T g). known_by (seat_of s))) (sym popped ∙ taken) ∙ map-map (λ (s : Owned T g). known_by (seat_of s)) (owned_at own) slots

    -- room for the end of the queue of the handles is room for that of the last seat
    module _ (slots' : List H) (keeps : KeepSeats holds own slots slots') where
      one_less : length slots' ≡ length others + 1
      one_less = omega (arith, ap length keeps.seats, length-map slots' own, length-map slots own, ap length (sym popped ∙ taken), length-append others (last ∷ []), length-map slots (owned_at own))

      all_there : All (λ h. queue_at own h ≡ queue_of last) slots'
      all_there = All-unmap (λ s. queue_in s ≡ queue_of last) own slots' (subst (All (λ s. queue_in s ≡ queue_of last)) (sym keeps.seats)
          (All-map (λ s. queue_in s ≡ queue_of last) own slots (λ k d l. of_one.one k d l (full k d l) ∙ sym both.1)))

      pub room_for : (room : WordRoom T) → HasRoomOf holds own slots' room → HasAnyRoom (queue_of last) (length others) room
      room_for room has = has (queue_of last) (length others) one_less (λ k d l f. all_there k d l)

    -- what was closed by these seats was closed by the handles
    pub closed_if : (out : Result (RestOf T × Ended T) Trouble)
        → IfOk out (λ r. ClosesOf (permits_of (queue_of last)) (map (λ (s : Owned T g). known_by (seat_of s)) (others ++ last ∷ [])) r.0)
        → IfOk out (λ r. LeavesValues (arena_of (queue_of last)) r.1 r.0)
        → IfOk out (λ r. ClosesHandles own slots r.0 r.1)
    closed_if (Ok r) c e = record {
      queue = of_one.queue;
      one = λ k d l. of_one.one k d l (full k d l);
      closes = subst (λ q. ClosesOf (permits_of q) (map (known_at own) slots) r.0) both.1
          (subst (λ ks. ClosesOf (permits_of (queue_of last)) ks r.0) known c);
      ends = subst (λ q. LeavesValues (arena_of q) r.1 r.0) both.1 e;
    }
    closed_if (Err refusal) c e = tt
