-- The seats of handles whose queue is closed.
use Rattle.std.proofs.Common.{◌≡◌, ℕ, ◌+◌, List, [], ◌∷◌, ◌++◌, length, map, ap, ◌∙◌, sym, subst, true, Some, Result, Ok, Err, IfOk, arith}
use Rattle.std.specs.List.{All}
use Rattle.std.proofs.lemmas.List.{length-append, length-map}
use Rattle.std.proofs.lemmas.List.Elements.{All-map, All-pop, All-weaker}
use mathlib.Core.List.{map-map}
use Rattle.history.specs.Ends.{Closes}
use Rattle.history.specs.Seats.{Known}
use Rattle.history.specs.declared.rests.Rest.{Rest}
use Rattle.node_arena.specs.Ended.{HasRoomFor}
use Rattle.picked.specs.Picked.{picked_arena_of}
use Rattle.owned.specs.Owned.{seat_of}
use Rattle.owned.proofs.SeatShares.{all_known}
use Rattle.ring_queue.specs.Ends as ring
use Rattle.ring_queue.specs.Queues.{permits_in}
use Rattle.picked.specs.declared.either.EitherQueue.TheVariants.{First, Second}
use Rattle.picked.specs.EitherEnds.{HasEitherRoom, EitherAsks}
use Rattle.msq_c.specs.declared.seat_blocks.EndRoom.{EndRoom}
use Rattle.msq_c.specs.declared.handles.MsqSeat.{MsqSeat}
use Rattle.msq_c.specs.declared.troubles.Trouble.{Trouble}
use Rattle.msq_c.specs.Queues.{Queue, SeatOf, EndOf, known_of, permits_of, EndsWith, IsEnough}
use Rattle.msq_c.specs.Blocks.{Owned, queue_of, owned_in}
use Rattle.msq_c.specs.Seats.{is_full, block_at, known_at, queue_at}
use Rattle.msq_c.specs.Ends.{AreFull, AreOfOne, KeepSeats, owned_at, HasAnyRoom, HasRest, RestRoom, HasRoomOf, ClosesHandles}

-- the seats with their shares, where handles keep them
pub same_owned : (slots slots' : List MsqSeat) → KeepSeats slots slots' → map owned_at slots' ≡ map owned_at slots
same_owned slots slots' k = sym (map-map owned_in block_at slots') ∙ ap (map owned_in) k.seats ∙ map-map owned_in block_at slots

-- a seat with its share is one of this queue
abbrev pub IsOf : Queue → Owned → Type 0
IsOf q s = queue_of s ≡ q

all_of : (q : Queue) (slots : List MsqSeat) → AreFull slots → All (λ h. is_full h ≡ true → queue_at h ≡ q) slots → All (IsOf q) (map owned_at slots)
all_of q slots full one = All-map (IsOf q) owned_at slots (λ k d l. one k d l (full k d l))

-- the seats of full handles of one queue, the last one and others
module _ (slots : List MsqSeat) (full : AreFull slots) (of_one : AreOfOne slots)
    (all others : List Owned) (last : Owned) (taken : all ≡ map owned_at slots) (popped : all ≡ others ++ last ∷ []) where
  both : All (IsOf of_one.queue) others × IsOf of_one.queue last
  both = All-pop (IsOf of_one.queue) all others (Some last) popped (subst (All (IsOf of_one.queue)) (sym taken) (all_of of_one.queue slots full of_one.one))

  pub others_one : All (λ s. queue_of s ≡ queue_of last) others
  others_one = All-weaker (IsOf of_one.queue) (λ s. queue_of s ≡ queue_of last) (λ s e. e ∙ sym both.1) others both.0

  known : map (λ (s : Owned). known_of (seat_of s)) (others ++ last ∷ []) ≡ map known_at slots
  known = ap (map (λ (s : Owned). known_of (seat_of s))) (sym popped ∙ taken) ∙ map-map (λ (s : Owned). known_of (seat_of s)) owned_at slots

  one_less : length slots ≡ length others + 1
  one_less = omega (arith, ap length (sym popped ∙ taken), length-append others (last ∷ []), length-map slots owned_at)

  -- room for the end of the queue of the handles is room for that of the last seat
  pub room_for : (room : EndRoom) → HasRoomOf slots room → HasAnyRoom (queue_of last) (length others + 1) room
  room_for room has = has (queue_of last) (length others) one_less (λ k d l f. of_one.one k d l f ∙ sym both.1)

  -- what was closed by these seats was closed by the handles
  pub closed_if : (out : Result (Rest × EndOf) Trouble)
      → IfOk out (λ r. Closes (permits_of (queue_of last)) (map (λ (s : Owned). known_of (seat_of s)) (others ++ last ∷ [])) r.0)
      → IfOk out (λ r. EndsWith (queue_of last) r.1 r.0)
      → IfOk out (λ r. ClosesHandles slots r.0 r.1)
  closed_if (Ok r) c e = record {
    queue = of_one.queue;
    one = λ k d l. of_one.one k d l (full k d l);
    closes = subst (λ q. Closes (permits_of q) (map known_at slots) r.0) both.1
        (subst (λ ks. Closes (permits_of (queue_of last)) ks r.0) known c);
    ends = subst (λ q. EndsWith q r.1 r.0) both.1 e;
  }
  closed_if (Err refusal) c e = tt

-- so many seats are enough for an end of a queue, whatever they know
asks_so : (q : Queue) (ks : List Known) → IsEnough q (length ks) → EitherAsks (λ p x. Unit {0}) (λ r x. length x ≡ length (permits_in r)) q ks
asks_so (First p) ks enough = tt
asks_so (Second r) ks enough = enough

-- seats of a queue, without their shares, and room for its end by as many
module _ (p q : Queue) (same : q ≡ p) (seats : List SeatOf) (room : RestRoom) (has : HasRest p (length seats) room) where
  pub room_by_all : HasEitherRoom (λ p. HasRoomFor (picked_arena_of p)) ring.HasRoomFor q (length seats) room
  room_by_all = subst (λ (x : Queue). HasEitherRoom (λ p. HasRoomFor (picked_arena_of p)) ring.HasRoomFor x (length seats) room) (sym same) has.room

  pub asked_by_all : EitherAsks (λ p x. Unit {0}) (λ r x. length x ≡ length (permits_in r)) q (map known_of seats)
  asked_by_all = asks_so q (map known_of seats) (subst (λ (x : Queue). IsEnough x (length (map known_of seats))) (sym same) (subst (IsEnough p) (sym (length-map seats known_of)) has.enough))

-- the seats of a queue without their shares, the last one and others, and room for its end
module _ (last : Owned) (others : List Owned) (q : Queue) (seats : List SeatOf) (same : q ≡ queue_of last) (those : seats ≡ map seat_of others ++ seat_of last ∷ []) (room : EndRoom)
    (has : HasAnyRoom (queue_of last) (length others + 1) room) where
  many : length seats ≡ length others + 1
  many = omega (arith, ap length those, length-append (map seat_of others) (seat_of last ∷ []), length-map others seat_of)

  all_rest : HasRest (queue_of last) (length seats) room.rest
  all_rest = subst (λ (n : ℕ). HasRest (queue_of last) n room.rest) (sym many) has.rest

  pub rest_room : HasEitherRoom (λ p. HasRoomFor (picked_arena_of p)) ring.HasRoomFor q (length seats) room.rest
  rest_room = room_by_all (queue_of last) q same seats room.rest all_rest

  pub asked : EitherAsks (λ p x. Unit {0}) (λ r x. length x ≡ length (permits_in r)) q (map known_of seats)
  asked = asked_by_all (queue_of last) q same seats room.rest all_rest

  pub closes : (rest : Rest) → Closes (permits_of q) (map known_of seats) rest → Closes (permits_of (queue_of last)) (map (λ (s : Owned). known_of (seat_of s)) (others ++ last ∷ [])) rest
  closes rest c = subst (λ (ks : List Known). Closes (permits_of (queue_of last)) ks rest) (all_known others last seats those known_of)
      (subst (λ (p : Queue). Closes (permits_of p) (map known_of seats) rest) same c)

  pub ends : (rest : Rest) (end : EndOf) → EndsWith q end rest → EndsWith (queue_of last) end rest
  ends rest end e = subst (λ (p : Queue). EndsWith p end rest) same e
