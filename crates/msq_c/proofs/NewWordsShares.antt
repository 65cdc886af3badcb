-- The shares of a new queue of three words, each of which pushes and pops.
use Rattle.std.proofs.Common.{◌≡◌, ◌∙◌, refl, sym, ap, subst, ℕ, ◌+◌, ◌<◌, List, map, length, Some, option_map, get_or, slice_get}
use Rattle.std.specs.List.{All}
use Rattle.std.specs.Prelude.{true}
use mathlib.Core.List.{map-map}
use Rattle.std.proofs.lemmas.List.{length-map}
use Rattle.std.proofs.lemmas.Option.{slice_get-get_or, slice_get-map}
use Rattle.history.specs.Seats.{Permit, MayPush, MayPop}
use Rattle.carriers.specs.Knowledge.{KnownOf}
use Rattle.line_table.specs.declared.lines.Kind.{Kind}
use Rattle.node_arena.specs.declared.roles.Role.{Role}
use Rattle.node_arena.specs.declared.seats.Seat.{Seat}
use Rattle.node_arena.specs.NewArenas.{IsMade}
use Rattle.node_arena.specs.Plans.{Layout, permit_of, permits_by}
use Rattle.value_queue.specs.Queues.{AreNewOf}
use Rattle.value_queue.specs.ValuesSeen as arena
use Rattle.picked.specs.declared.either.EitherQueue.TheVariants.{First, Second}
use Rattle.picked.specs.declared.kind_values.AnyValues.{AnyValues}
use Rattle.picked.specs.AnyValues as any
use Rattle.picked.specs.Either.{as_first, as_second}
use Rattle.picked.proofs.Within.{each_made}
use Rattle.ring_queue.specs.declared.roles.Role.{Role as RingRole}
use Rattle.ring_queue.specs.declared.seats.Seat.{Seat as RingSeat}
use Rattle.ring_queue.specs.NewRings as rings
use Rattle.ring_queue.specs.Plans as ring_plans
use Rattle.ring_values.specs.declared.queue.RingValues.{RingValues}
use Rattle.ring_values.specs.Queues as ring
use Rattle.ring_values.specs.ValuesSeen as ring_seen
use Rattle.shared_queue.specs.Seats.{IsBoth}
use Rattle.msq_c.specs.declared.words.MsqWords.{MsqWords}
use Rattle.msq_c.specs.Made.{kind_number, role_number, ring_role_number}
use Rattle.msq_c.specs.NewShares.{all_both}
use Rattle.msq_c.specs.NewWordsShares.{IsNew, places_for}
use Rattle.msq_c.specs.WordMade.{plan_for}
use Rattle.msq_c.specs.WordsQueues.{WordsQueue, WordsSeat, words, known_of, permits_of, IsSeat, AreUnused}
use Rattle.msq_c.proofs.NewShares.{AllowsBoth, role_both, ring_role_both, permits_both, may_both}

-- a new queue of nodes, and its seats, as those of one of any kind
module _ (p : AnyValues MsqWords) (within : List (Seat MsqWords)) (seats : List WordsSeat) (are : seats ≡ map as_first within) where
  pub nodes_sit : All (any.IsQueueSeat p) within → All (IsSeat (First p)) seats
  nodes_sit all = each_made (λ (s : Seat MsqWords). as_first {T = RingSeat MsqWords} s) within are (IsSeat (First p)) all

  pub nodes_unused : AreNewOf (any.permits_of p) (map arena.known_by within) → AreUnused (First p) seats
  nodes_unused new = subst (AreNewOf (any.permits_of p)) (sym (ap (map known_of) are ∙ map-map known_of as_first within)) new

  pub nodes_new : (kind nodes limit : ℕ) (numbers : List ℕ) (k : Kind) (roles : List Role) → kind_number k ≡ kind → map role_number roles ≡ numbers
      → IsMade (plan_for k nodes limit roles) (any.arena_of p) within → IsNew kind nodes limit numbers (First p) seats
  nodes_new kind nodes limit numbers k roles kinds those made = record {
    layout = plan_for k nodes limit roles;
    of_kind = kinds;
    of_roles = those;
    planned = refl;
    within = within;
    those = are;
    made = made;
  }

-- a new ring, and its seats
module _ (r : RingValues MsqWords) (within : List (RingSeat MsqWords)) (seats : List WordsSeat) (are : seats ≡ map as_second within) where
  pub ring_sit : All (ring.IsQueueSeat r) within → All (IsSeat (Second r)) seats
  ring_sit all = each_made (λ (s : RingSeat MsqWords). as_second {S = Seat MsqWords} s) within are (IsSeat (Second r)) all

  pub ring_unused : AreNewOf (ring.permits_of r) (map ring_seen.known_by within) → AreUnused (Second r) seats
  ring_unused new = subst (AreNewOf (ring.permits_of r)) (sym (ap (map known_of) are ∙ map-map known_of as_second within)) new

  pub ring_new : (values limit : ℕ) (numbers : List ℕ) (roles : List RingRole) → map ring_role_number roles ≡ numbers
      → rings.IsMadeFor true values (places_for values limit (length numbers)) roles (ring.ring_of r) within → IsNew 2 values limit numbers (Second r) seats
  ring_new values limit numbers roles those made = (refl, record { roles = roles; of_roles = those; within = within; those = are; made = made })

-- as many seats as numbers of roles
pub many_new : (kind nodes limit : ℕ) (numbers : List ℕ) (q : WordsQueue) (seats : List WordsSeat) → IsNew kind nodes limit numbers q seats → length seats ≡ length numbers
many_new kind nodes limit numbers (First p) seats n =
    ap length n.those ∙ length-map n.within as_first ∙ n.made.count ∙ sym (length-map n.layout.roles role_number) ∙ ap length n.of_roles
many_new kind nodes limit numbers (Second r) seats n =
    ap length n.1.those ∙ length-map n.1.within as_second ∙ n.1.made.count ∙ sym (length-map n.1.roles ring_role_number) ∙ ap length n.1.of_roles

-- each seat of such a queue may push and pop
queue_both : (kind nodes limit n : ℕ) (q : WordsQueue) (seats : List WordsSeat) → IsNew kind nodes limit (all_both n) q seats → All AllowsBoth (permits_of q)
queue_both kind nodes limit n (First p) seats new =
    subst (λ (z : Layout). All AllowsBoth (permits_by z.roles)) (sym new.made.plan) (permits_both role_number permit_of role_both new.layout.roles n new.of_roles)
queue_both kind nodes limit n (Second r) seats new =
    subst (λ (rs : List RingRole). All AllowsBoth (ring_plans.permits_by rs)) (sym new.1.made.deals) (permits_both ring_role_number ring_plans.permit_of ring_role_both new.1.roles n new.1.of_roles)

-- and these seats are those of shares of it
pub may_share : (kind nodes limit n : ℕ) (q : WordsQueue) (seats : List WordsSeat) → IsNew kind nodes limit (all_both n) q seats → AreUnused q seats → All (IsSeat q) seats
    → All (IsBoth words.is_seat words.permits words.known q) seats
may_share kind nodes limit n q seats new unused seated =
    let all = may_both (λ (s : WordsSeat). (known_of s).number) (permits_of q) seats (queue_both kind nodes limit n q seats new) (sym unused.count ∙ length-map seats known_of) (λ k d short.
    let s = get_or seats k d in
    let known : slice_get (map known_of seats) k ≡ Some (known_of s) = slice_get-map known_of seats k ∙ ap (option_map known_of) (slice_get-get_or seats k d short) in
    ap (λ (x : KnownOf MsqWords). x.number) (unused.each k (known_of s) known)) in
    λ k d short. (seated k d short, (all k d short).0, (all k d short).1)
