-- The handles of a queue whose calls are stepped, as it is closed.
use Rattle.std.proofs.Common.{◌≡◌, ℕ, ◌+◌, ◌≤◌, Bool, List, [], ◌∷◌, ◌++◌, length, map, ap, ◌∙◌, sym, refl, subst, true, Some, Result, Ok, Err, IfOk, arith}
use Rattle.std.specs.List.{All}
use Rattle.std.proofs.lemmas.List.{length-append, length-map, map-append}
use Rattle.std.proofs.lemmas.List.Elements.{All-map, All-pop, All-push, All-weaker}
use mathlib.Core.List.{map-map}
use Rattle.carriers.specs.declared.queues.Carrier.{Ghosts}
use Rattle.owned.proofs.SeatShares.{All-unmap}
use Rattle.shared_queue.specs.declared.share.Share.{Share}
use Rattle.shared_queue.specs.declared.stepped.SteppedQueue.{SteppedQueue}
use Rattle.shared_queue.specs.Sharing.{stepped_at, share_queue, share_seat}
use Rattle.shared_queue.specs.Stepped.{stepped_queue}
use Rattle.msq_c.specs.declared.share_blocks.ShareBlock.{ShareBlock}
use Rattle.msq_c.specs.declared.troubles.Trouble.{Trouble}
use Rattle.msq_c.specs.NewShares.{share_at}
use Rattle.msq_c.specs.ShareEnds.{AreOfOne, KeepSeats, HasRoomOf, ClosesHandles, IsWith, queue_at, seat_at}
use Rattle.msq_c.specs.WordEnds.{AreFull}

module _ {H C A S : Type 0} {g : Ghosts C A S} (holds : H → Bool) (own : H → ShareBlock C A S g) where
  -- a block's share is of this queue
  abbrev IsIn : SteppedQueue C → ShareBlock C A S g → Type 0
  IsIn q b = stepped_at b.share ≡ q

  -- and that of a handle
  abbrev IsOf : SteppedQueue C → H → Type 0
  IsOf q h = IsIn q (own h)

  -- full handles of one queue, which kept their seats: the last one and others
  module _ (slots : List H) (full : AreFull holds slots) (of_one : AreOfOne holds own slots) (slots' others : List H) (last : H)
      (keeps : KeepSeats holds own slots slots') (popped : slots' ≡ others ++ last ∷ []) where
    all_there : All (IsOf of_one.queue) slots'
    all_there = All-unmap (IsIn of_one.queue) own slots' (subst (All (IsIn of_one.queue)) (sym keeps.seats)
        (All-map (IsIn of_one.queue) own slots (λ k d l. of_one.one k d l (full k d l))))

    both : All (IsOf of_one.queue) others × IsOf of_one.queue last
    both = All-pop (IsOf of_one.queue) slots' others (Some last) popped all_there

    both_full : All (λ h. holds h ≡ true) others × (holds last ≡ true)
    both_full = All-pop (λ h. holds h ≡ true) slots' others (Some last) popped keeps.full

    pub others_full : AreFull holds others
    others_full = both_full.0

    pub last_full : holds last ≡ true
    last_full = both_full.1

    pub others_one : All (IsWith own last) others
    others_one = All-weaker (IsOf of_one.queue) (IsWith own last) (λ h e. e ∙ sym both.1) others both.0

    one_less : length slots ≡ length others + 1
    one_less = omega (arith, ap length keeps.seats, length-map slots' own, length-map slots own, ap length popped, length-append others (last ∷ []))

    -- memory for as many seats is enough
    pub some_for : (capacity : ℕ) → length slots ≤ capacity → length others + 1 ≤ capacity
    some_for capacity enough = omega (arith, one_less, enough)

    -- room for the end of the queue of the handles is room for that of the last one
    pub room_for : {R : Type 0} (has_room : C → ℕ → R → Type 0) (room : R) → HasRoomOf holds own has_room slots room → has_room (queue_at own last) (length others + 1) room
    room_for has_room room has = has (queue_at own last) (length others) one_less (λ k d l f. ap (λ (s : SteppedQueue C). stepped_queue s) (of_one.one k d l f ∙ sym both.1))

    those : map (seat_at own) (others ++ last ∷ []) ≡ map (seat_at own) slots
    those = ap (map (seat_at own)) (sym popped) ∙ sym (map-map (λ (b : ShareBlock C A S g). share_seat b.share) own slots')
        ∙ ap (map (λ (b : ShareBlock C A S g). share_seat b.share)) keeps.seats ∙ map-map (λ (b : ShareBlock C A S g). share_seat b.share) own slots

    same : queue_at own last ≡ stepped_queue of_one.queue
    same = ap (λ (s : SteppedQueue C). stepped_queue s) both.1

    -- what was closed by these was closed by all
    pub closed_if : {R E : Type 0} (closes : C → List S → R → Type 0) (ends : C → E → R → Type 0) (out : Result (R × E) Trouble)
        → IfOk out (λ r. closes (queue_at own last) (map (seat_at own) (others ++ last ∷ [])) r.0)
        → IfOk out (λ r. ends (queue_at own last) r.1 r.0)
        → IfOk out (λ r. ClosesHandles own closes ends slots r.0 r.1)
    closed_if closes ends (Ok r) c e = record {
      queue = stepped_queue of_one.queue;
      one = λ k d l. ap (λ (s : SteppedQueue C). stepped_queue s) (of_one.one k d l (full k d l));
      closes = subst (λ (q : C). closes q (map (seat_at own) slots) r.0) same
          (subst (λ (ss : List S). closes (queue_at own last) ss r.0) those c);
      ends = subst (λ (q : C). ends q r.1 r.0) same e;
    }
    closed_if closes ends (Err refusal) c e = tt

-- the last handle's queue out of its share, and the seats of all without theirs
module _ {H C A S : Type 0} {g : Ghosts C A S} (own : H → ShareBlock C A S g) (others : List H) (last : H) (share : Share C A S g) (its : share ≡ share_at own last)
    (stepped : SteppedQueue C) (was : stepped ≡ stepped_at share) (q : C) (inner : q ≡ stepped_queue stepped) where
  queue_so : q ≡ queue_at own last
  queue_so = inner ∙ ap stepped_queue (was ∙ ap (λ (s : Share C A S g). stepped_at s) its)

  pub end_ends : {R E : Type 0} (ends : C → E → R → Type 0) (rest : R) (end : E) → ends q end rest → ends (queue_at own last) end rest
  end_ends ends rest end e = subst (λ (x : C). ends x end rest) queue_so e

  module _ (seat : S) (sits : seat ≡ share_seat share) (seats : List S) (all : seats ≡ map (seat_at own) others ++ seat ∷ []) where
    those_so : seats ≡ map (seat_at own) (others ++ last ∷ [])
    those_so = all ∙ ap (λ (s : S). map (seat_at own) others ++ s ∷ []) (sits ∙ ap (λ (s : Share C A S g). share_seat s) its) ∙ sym (map-append (seat_at own) others (last ∷ []))

    as_many : length seats ≡ length others + 1
    as_many = omega (arith, ap length those_so, length-append others (last ∷ []), length-map (others ++ last ∷ []) (seat_at own))

    -- each sits in that queue
    pub end_seats : g.is_seat (share_queue share) seat → All (IsWith own last) others
        → ((x : C) → g.is_seat x seat → All (λ h. share_queue (share_at own h) ≡ x) others → All (g.is_seat x) seats)
        → All (g.is_seat q) seats
    end_seats here one sit = subst (λ (x : C). All (g.is_seat x) seats) (sym queue_so)
        (sit (queue_at own last) (subst (λ (s : Share C A S g). g.is_seat (share_queue s) seat) its here) (λ k d l. ap stepped_queue (one k d l)))

    -- room for an end by the handles is room for one by the seats
    pub end_room : {R : Type 0} (has_room : C → ℕ → R → Type 0) (room : R) → has_room (queue_at own last) (length others + 1) room → has_room q (length seats) room
    end_room has_room room has = subst (λ (n : ℕ). has_room q n room) (sym as_many) (subst (λ (x : C). has_room x (length others + 1) room) (sym queue_so) has)

    -- what was closed by the seats was closed by the handles
    pub end_closes : {R : Type 0} (closes : C → List S → R → Type 0) (rest : R) → closes q seats rest → closes (queue_at own last) (map (seat_at own) (others ++ last ∷ [])) rest
    end_closes closes rest c = subst (λ (ss : List S). closes (queue_at own last) ss rest) those_so (subst (λ (x : C). closes x seats rest) queue_so c)

-- seats of handles sit in their queue, and so does one more
pub sit_more : {H C A S : Type 0} {g : Ghosts C A S} (own : H → ShareBlock C A S g) (seats : List S) (before : List H) (h : H) (seat : S)
    → ((q : C) → All (λ h. share_queue (share_at own h) ≡ q) before → All (g.is_seat q) seats)
    → g.is_seat (share_queue (share_at own h)) seat
    → (q : C) → All (λ h. share_queue (share_at own h) ≡ q) (before ++ h ∷ []) → All (g.is_seat q) (seats ++ seat ∷ [])
sit_more {g = g} own seats before h seat sit here = λ q all.
    let split = All-pop (λ h. share_queue (share_at own h) ≡ q) (before ++ h ∷ []) before (Some h) refl all in
    All-push (g.is_seat q) seats seat (sit q split.0) (subst (λ x. g.is_seat x seat) split.1 here)
