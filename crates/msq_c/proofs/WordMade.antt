-- Seats of a queue of words, with their shares, that were put into handles.
use Rattle.std.proofs.Common.{◌≡◌, ℕ, ◌+◌, ◌≤◌, ◌<◌, ◌^◌, Bool, List, [], ◌∷◌, ◌++◌, map, length, refl, ap, ◌∙◌, sym, subst, Result, Ok, Err, IfOk}
use Rattle.std.specs.List.{All}
use mathlib.Core.List.{map-map}
use Rattle.std.proofs.lemmas.List.{length-map, length_push, map_push}
use Rattle.line_table.specs.declared.lines.Kind.{Kind}
use Rattle.history.specs.Limits.{actor_bits}
use Rattle.carriers.specs.declared.queues.Carrier.{Ghosts}
use Rattle.node_arena.specs.declared.roles.Role.{Role}
use Rattle.node_arena.specs.declared.seats.Seat.{Seat}
use Rattle.node_arena.specs.Plans.{Layout, IsPlanned}
use Rattle.node_arena.specs.NewArenas.{IsMade}
use Rattle.value_queue.specs.Queues.{AreNewOf}
use Rattle.value_queue.specs.ValuesSeen.{known_by}
use Rattle.picked.specs.declared.kind_values.AnyValues.{AnyValues}
use Rattle.picked.specs.AnyValues.{arena_of, permits_of}
use Rattle.owned.specs.Owned.{queue_of, seat_of}
use Rattle.owned.proofs.SeatShares.{All-unmap}
use Rattle.msq_c.proofs.Sizes.{is_split, enough, some_count, few_counts}
use Rattle.msq_c.specs.WordBlocks.{Owned, Own, owned_in}
use Rattle.msq_c.specs.WordSeats.{known_at}
use Rattle.msq_c.specs.Made.{Asks, kind_number, role_number}
use Rattle.msq_c.specs.WordEnds.{ArePut}
use Rattle.msq_c.specs.WordMade.{AreUnused, AreMade, AreAsked, plan_for, seat_at}

-- a block more was put into a handle
module _ {H O B : Type 0} (own : H → O) (was now : List H) (h : H) (more : now ≡ was ++ h ∷ []) (boxes : List B) (b : B) where
  pub put_one : (value : B → O) → own h ≡ value b → map own was ≡ map value boxes → map own now ≡ map value (boxes ++ b ∷ [])
  put_one value e those = ap (map own) more ∙ map_push own was h ∙ ap (λ xs. xs ++ own h ∷ []) those ∙ ap (λ x. map value boxes ++ x ∷ []) e ∙ sym (map_push value boxes b)

  pub one_longer : length was ≡ length boxes → length now ≡ length (boxes ++ b ∷ [])
  one_longer same = ap length more ∙ length_push was h ∙ ap (λ n. n + 1) same ∙ sym (length_push boxes b)

-- the seats of a new queue of a plan, each with a share
pub unused_of : {T : Type 0} {g : Ghosts (AnyValues T) T (Seat T)} (z : Layout) (q : AnyValues T) (seats : List (Seat T)) (owned : List (Owned T g))
    → All (λ s. queue_of s ≡ q) owned → map seat_of owned ≡ seats → IsMade z (arena_of q) seats → AreNewOf (permits_of q) (map known_by seats) → AreUnused z owned
unused_of z q seats owned one e made new = record {
  queue = q;
  made = subst (IsMade z (arena_of q)) (sym e) made;
  one = one;
  unused = subst (λ ks. AreNewOf (permits_of q) ks) (ap (map known_by) (sym e) ∙ map-map known_by seat_of owned) new;
}

module _ {H T : Type 0} {g : Ghosts (AnyValues T) T (Seat T)} (holds : H → Bool) (own : H → Own T g) where
  -- handles that these seats were put into
  all_made : (owned : List (Owned T g)) (seats : List (Own T g)) (slots : List H)
      → map owned_in seats ≡ owned → (z : Layout) → AreUnused z owned → ArePut holds own seats slots → AreMade holds own z slots
  all_made owned seats slots e z u p =
      let same : owned ≡ map (λ (h : H). owned_in (own h)) slots =
      sym e ∙ ap (map owned_in) (sym p.those) ∙ map-map owned_in own slots in
      let known : map (λ (s : Owned T g). known_by (seat_of s)) owned ≡ map (known_at own) slots =
      ap (map (λ (s : Owned T g). known_by (seat_of s))) same ∙ map-map (λ (s : Owned T g). known_by (seat_of s)) (λ (h : H). owned_in (own h)) slots in
      let sat : map seat_of owned ≡ map (seat_at own) slots = ap (map seat_of) same ∙ map-map seat_of (λ (h : H). owned_in (own h)) slots in
      record {
        queue = u.queue;
        made = subst (IsMade z (arena_of u.queue)) sat u.made;
        full = p.full;
        one = All-unmap (λ s. queue_of s ≡ u.queue) (λ (h : H). owned_in (own h)) slots (subst (All (λ s. queue_of s ≡ u.queue)) same u.one);
        unused = subst (λ ks. AreNewOf (permits_of u.queue) ks) known u.unused;
      }

  -- handles that blocks with the seats of a new queue were put into
  pub made_if : {V E B : Type 0} (out : Result V E) (items : V → List H) (value : B → Own T g) (boxes : List B) (owned : List (Owned T g))
      → map (λ b. owned_in (value b)) boxes ≡ owned → (z : Layout) → AreUnused z owned
      → IfOk out (λ v. ArePut holds own (map value boxes) (items v)) → IfOk out (λ v. AreMade holds own z (items v))
  made_if (Ok v) items value boxes owned e z u p = all_made owned (map value boxes) (items v) (map-map owned_in value boxes ∙ e) z u p
  made_if (Err refusal) items value boxes owned e z u p = tt

-- what was asked for, by the numbers of kind and roles
module _ (kind nodes limit : ℕ) (numbers : List ℕ) (k : Kind) (roles : List Role) (kinds : kind_number k ≡ kind) (those : map role_number roles ≡ numbers) where
  many : length numbers ≡ length roles
  many = ap length (sym those) ∙ length-map roles role_number

  -- its sizes are in their ranges
  pub planned_of : Asks kind nodes limit numbers → IsPlanned (plan_for k nodes limit roles)
  planned_of a = record {
    split = is_split nodes;
    nodes = a.sizes.some_nodes;
    numbered = enough nodes a.sizes.numbered;
    counts = some_count nodes limit a.sizes.counts;
    counted = few_counts nodes limit;
    some_actors = subst (λ n. 1 ≤ n) many a.sizes.some_seats;
    few_actors = subst (λ n. n < 2 ^ actor_bits) many a.sizes.few_seats;
  }

  module _ {H T : Type 0} {g : Ghosts (AnyValues T) T (Seat T)} (holds : H → Bool) (own : H → Own T g) where
    -- and handles with its seats are as they were asked for
    pub asked_if : {V E : Type 0} (out : Result V E) (items : V → List H)
        → IfOk out (λ v. AreMade holds own (plan_for k nodes limit roles) (items v)) → IfOk out (λ v. AreAsked holds own kind nodes limit numbers (items v))
    asked_if (Ok v) items m = record { layout = plan_for k nodes limit roles; of_kind = kinds; of_roles = those; planned = refl; made = m }
    asked_if (Err refusal) items m = tt

    -- as many as there are roles
    pub len_if : {V E : Type 0} (out : Result V E) (items : V → List H)
        → IfOk out (λ v. AreMade holds own (plan_for k nodes limit roles) (items v)) → IfOk out (λ v. length (items v) ≡ length numbers)
    len_if (Ok v) items m = sym (length-map (items v) (seat_at own)) ∙ m.made.count ∙ sym many
    len_if (Err refusal) items m = tt
