-- Seats with their shares that were put into handles.
use Rattle.std.proofs.Common.{◌≡◌, ℕ, List, map, length, refl, ap, ◌∙◌, sym, subst, Result, Ok, Err, IfOk}
use Rattle.std.specs.List.{All}
use mathlib.Core.List.{map-map}
use Rattle.std.proofs.lemmas.List.{length-map}
use Rattle.line_table.specs.declared.lines.Kind.{Kind}
use Rattle.history.specs.Openings.{AreNew}
use Rattle.node_arena.specs.declared.roles.Role.{Role}
use Rattle.node_arena.specs.declared.seats.Seat.{Seat}
use Rattle.node_arena.specs.Seats as arena
use Rattle.node_arena.specs.NewArenas.{IsMade}
use Rattle.picked.specs.declared.picked.PickedQueue.{PickedQueue}
use Rattle.picked.specs.Picked.{picked_arena_of, picked_permits_of}
use Rattle.owned.specs.Owned.{seat_of}
use Rattle.owned.proofs.SeatShares.{All-unmap}
use Rattle.ring_queue.specs.declared.queue.RingQueue.{RingQueue}
use Rattle.ring_queue.specs.declared.roles.Role.{Role as RingRole}
use Rattle.ring_queue.specs.declared.seats.Seat.{Seat as RingSeat}
use Rattle.ring_queue.specs.NewRings as ring
use Rattle.ring_queue.specs.Queues.{permits_in}
use Rattle.ring_queue.specs.Seats as rings
use Rattle.picked.specs.declared.either.EitherQueue.TheVariants.{First, Second}
use Rattle.picked.specs.Either.{first_of, second_of, as_first, as_second}
use Rattle.msq_c.specs.Queues.{Queue, SeatOf, known_of, permits_of}
use Rattle.msq_c.specs.declared.seat_blocks.SeatBlock.{SeatBlock}
use Rattle.msq_c.specs.declared.handles.MsqSeat.{MsqSeat}
use Rattle.msq_c.specs.Blocks.{Owned, queue_of, owned_in}
use Rattle.msq_c.specs.Seats.{is_full, block_at, known_at}
use Rattle.msq_c.specs.WordEnds.{ArePut}
use Rattle.msq_c.specs.Made.{IsNew, AreUnused, AreAsked, plan_for, places_for, kind_number, role_number, ring_role_number, seat_at}

-- a new queue of nodes, and its seats, as those of one of any kind
module _ (kind nodes limit : ℕ) (numbers : List ℕ) (k : Kind) (roles : List Role) (kinds : kind_number k ≡ kind) (those : map role_number roles ≡ numbers)
    (p : PickedQueue) (within : List (Seat (Unit {0}))) (q : Queue) (seats : List SeatOf) (is : q ≡ first_of p) (are : seats ≡ map as_first within) where
  pub linked_new : IsMade (plan_for k nodes limit roles) (picked_arena_of p) within → IsNew kind nodes limit numbers q seats
  linked_new made = subst (λ (x : Queue). IsNew kind nodes limit numbers x seats) (sym is)
      (record { layout = plan_for k nodes limit roles; of_kind = kinds; of_roles = those; planned = refl; within = within; those = are; made = made })

  pub linked_unused : AreNew (picked_permits_of p) (map arena.known_of within) → AreNew (permits_of q) (map known_of seats)
  linked_unused new = subst (λ (x : Queue). AreNew (permits_of x) (map known_of seats)) (sym is)
      (subst (AreNew (picked_permits_of p)) (sym (ap (map known_of) are ∙ map-map known_of as_first within)) new)

-- a new ring, and its seats
module _ (values limit : ℕ) (numbers : List ℕ) (roles : List RingRole) (those : map ring_role_number roles ≡ numbers)
    (r : RingQueue (Unit {0})) (within : List (RingSeat (Unit {0}))) (q : Queue) (seats : List SeatOf) (is : q ≡ second_of r) (are : seats ≡ map as_second within) where
  pub ring_new : ring.IsMade values (places_for values limit) roles r within → IsNew 2 values limit numbers q seats
  ring_new made = subst (λ (x : Queue). IsNew 2 values limit numbers x seats) (sym is)
      (refl, record { roles = roles; of_roles = those; within = within; those = are; made = made })

  pub ring_unused : AreNew (permits_in r) (map rings.known_of within) → AreNew (permits_of q) (map known_of seats)
  ring_unused new = subst (λ (x : Queue). AreNew (permits_of x) (map known_of seats)) (sym is)
      (subst (AreNew (permits_in r)) (sym (ap (map known_of) are ∙ map-map known_of as_second within)) new)

-- as many seats as numbers of roles
pub many_new : (kind nodes limit : ℕ) (numbers : List ℕ) (q : Queue) (seats : List SeatOf) → IsNew kind nodes limit numbers q seats → length seats ≡ length numbers
many_new kind nodes limit numbers (First p) seats n =
    ap length n.those ∙ length-map n.within as_first ∙ n.made.count ∙ sym (length-map n.layout.roles role_number) ∙ ap length n.of_roles
many_new kind nodes limit numbers (Second r) seats n =
    ap length n.1.those ∙ length-map n.1.within as_second ∙ n.1.made.count ∙ sym (length-map n.1.roles ring_role_number) ∙ ap length n.1.of_roles

module _ (kind nodes limit : ℕ) (numbers : List ℕ) where
  -- the seats of a new queue, each with a share
  pub unused_of : (q : Queue) (seats : List SeatOf) (owned : List Owned) → All (λ s. queue_of s ≡ q) owned → map seat_of owned ≡ seats
      → IsNew kind nodes limit numbers q seats → AreNew (permits_of q) (map known_of seats) → AreUnused kind nodes limit numbers owned
  unused_of q seats owned one e made new = record {
    queue = q;
    made = subst (IsNew kind nodes limit numbers q) (sym e) made;
    one = one;
    unused = subst (λ ks. AreNew (permits_of q) ks) (ap (map known_of) (sym e) ∙ map-map known_of seat_of owned) new;
  }

  all_asked : (owned : List Owned) (seats : List SeatBlock) (slots : List MsqSeat)
      → map owned_in seats ≡ owned → AreUnused kind nodes limit numbers owned → ArePut is_full block_at seats slots → AreAsked kind nodes limit numbers slots
  all_asked owned seats slots e u p =
      let same : owned ≡ map (λ (h : MsqSeat). owned_in (block_at h)) slots =
      sym e ∙ ap (map owned_in) (sym p.those) ∙ map-map owned_in block_at slots in
      let known : map (λ (s : Owned). known_of (seat_of s)) owned ≡ map known_at slots =
      ap (map (λ (s : Owned). known_of (seat_of s))) same ∙ map-map (λ (s : Owned). known_of (seat_of s)) (λ (h : MsqSeat). owned_in (block_at h)) slots in
      let sat : map seat_of owned ≡ map seat_at slots = ap (map seat_of) same ∙ map-map seat_of (λ (h : MsqSeat). owned_in (block_at h)) slots in
      record {
        queue = u.queue;
        made = subst (IsNew kind nodes limit numbers u.queue) sat u.made;
        full = p.full;
        one = All-unmap (λ s. queue_of s ≡ u.queue) (λ (h : MsqSeat). owned_in (block_at h)) slots (subst (All (λ s. queue_of s ≡ u.queue)) same u.one);
        unused = subst (λ ks. AreNew (permits_of u.queue) ks) known u.unused;
      }

  -- handles that blocks with the seats of a new queue were put into
  pub asked_if : {V E B : Type 0} (out : Result V E) (items : V → List MsqSeat) (value : B → SeatBlock) (boxes : List B) (owned : List Owned)
      → map (λ b. owned_in (value b)) boxes ≡ owned → AreUnused kind nodes limit numbers owned → IfOk out (λ v. ArePut is_full block_at (map value boxes) (items v))
      → IfOk out (λ v. AreAsked kind nodes limit numbers (items v))
  asked_if (Ok v) items value boxes owned e u p = all_asked owned (map value boxes) (items v) (map-map owned_in value boxes ∙ e) u p
  asked_if (Err refusal) items value boxes owned e u p = tt

  -- as many as there are roles
  pub len_if : {V E : Type 0} (out : Result V E) (items : V → List MsqSeat)
      → IfOk out (λ v. AreAsked kind nodes limit numbers (items v)) → IfOk out (λ v. length (items v) ≡ length numbers)
  len_if (Ok v) items m = sym (length-map (items v) seat_at) ∙ many_new kind nodes limit numbers m.queue (map seat_at (items v)) m.made
  len_if (Err refusal) items m = tt
