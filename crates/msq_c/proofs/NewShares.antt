-- The shares of a new queue, each of which pushes and pops.
use Rattle.std.proofs.Common.{◌≡◌, Bool, ◌∙◌, inl, inr, ◌+◌, ◌-◌, ◌<◌, ◌≤◌, ◌^◌, sym, refl, ap, subst, ℕ, List, map, length, Option, Some, Result, Ok, Err, IfOk, IsTrue, IsSomeAnd, slice_get, get_or, option_map, arith, true}
use Rattle.std.specs.List.{All}
use Rattle.std.proofs.lemmas.List.{length-map, length-replicate}
use Rattle.std.proofs.lemmas.List.Elements.{All-map, All-replicate, All-weaker}
use Rattle.std.proofs.lemmas.Option.{slice_get-get_or, slice_get-map}
use mathlib.Core.List.{map-map}
use Rattle.history.specs.Seats.{Permit, Known, MayPush, MayPop}
use Rattle.history.specs.Openings.{AreNew}
use Rattle.node_arena.specs.declared.roles.Role.{Role}
use Rattle.node_arena.specs.declared.roles.Role.TheVariants.{Giver, Taker, Both}
use Rattle.node_arena.specs.Plans.{Layout, permit_of, permits_by}
use Rattle.ring_queue.specs.declared.roles.Role.{Role as RingRole}
use Rattle.ring_queue.specs.declared.roles.Role.TheVariants as ring
use Rattle.ring_queue.specs.Plans as rings
use Rattle.picked.specs.declared.either.EitherQueue.TheVariants.{First, Second}
use Rattle.picked.specs.Either.{IsEitherSeat}
use Rattle.picked.specs.Picked.{IsPickedSeat}
use Rattle.ring_queue.specs.Queues.{IsNumberSeat}
use Rattle.carriers.specs.declared.numbered.Numbers.{Numbers}
use Rattle.carriers.specs.declared.queues.Carrier.{Ghosts}
use Rattle.carriers.specs.Numbers.{fifo_of}
use Rattle.owned.proofs.SeatShares.{All-unmap}
use Rattle.shared_queue.specs.declared.share.Share.{Share}
use Rattle.shared_queue.specs.declared.stepped.SteppedQueue.{SteppedQueue}
use Rattle.shared_queue.specs.Seats.{IsBoth}
use Rattle.shared_queue.specs.Sharing.{stepped_at, share_seat}
use Rattle.shared_queue.specs.Stepped.{stepped_queue, capacity_of}
use Rattle.msq_c.specs.Blocks.{numbers}
use Rattle.msq_c.specs.Made.{Asks, IsNew, IsOutOfRange, role_number, ring_role_number}
use Rattle.msq_c.specs.NewShares.{AsksShares, AreNewOf, HasNodes, RefusesShares, RefusesFilling, all_both}
use Rattle.msq_c.specs.WordEnds.{AreEmpty, ArePut}
use Rattle.msq_c.specs.declared.troubles.Trouble.{Trouble}
use Rattle.msq_c.specs.declared.troubles.Trouble.TheVariants.{Refused, BadSize, NoHandle, NoRole, InUse, Raced}
use Rattle.msq_c.specs.Queues.{Queue, SeatOf, known_of, permits_of}

-- a permit allows pushes and pops
abbrev pub AllowsBoth : Permit → Type 0
AllowsBoth p = IsTrue p.pushes × IsTrue p.pops

pub role_both : (r : Role) → role_number r ≡ 3 → AllowsBoth (permit_of r)
role_both Both e = (refl, refl)
role_both Giver e = absurd (omega (arith, e))
role_both Taker e = absurd (omega (arith, e))

pub ring_role_both : (r : RingRole) → ring_role_number r ≡ 3 → AllowsBoth (rings.permit_of r)
ring_role_both ring.Both e = (refl, refl)
ring_role_both ring.Giver e = absurd (omega (arith, e))
ring_role_both ring.Taker e = absurd (omega (arith, e))

-- where each role has that number, each permit allows both
module _ {R : Type 0} (number : R → ℕ) (permit : R → Permit) (both : (r : R) → number r ≡ 3 → AllowsBoth (permit r)) where
  pub permits_both : (roles : List R) (n : ℕ) → map number roles ≡ all_both n → All AllowsBoth (map permit roles)
  permits_both roles n e = All-map AllowsBoth permit roles (All-weaker (λ (r : R). number r ≡ 3) (λ (r : R). AllowsBoth (permit r)) both roles
      (All-unmap (λ (m : ℕ). m ≡ 3) number roles (subst (All (λ (m : ℕ). m ≡ 3)) (sym e) (All-replicate (λ (m : ℕ). m ≡ 3) n 3 refl))))

-- each seat of such a queue may push and pop
queue_both : (kind nodes limit n : ℕ) (q : Queue) (seats : List SeatOf) → IsNew kind nodes limit (all_both n) q seats → All AllowsBoth (permits_of q)
queue_both kind nodes limit n (First p) seats new =
    subst (λ (z : Layout). All AllowsBoth (permits_by z.roles)) (sym new.made.plan) (permits_both role_number permit_of role_both new.layout.roles n new.of_roles)
queue_both kind nodes limit n (Second r) seats new =
    subst (λ (rs : List RingRole). All AllowsBoth (rings.permits_by rs)) (sym new.1.made.deals) (permits_both ring_role_number rings.permit_of ring_role_both new.1.roles n new.1.of_roles)

may_at : (R : Permit → Type 0) (permits : List Permit) (p : Permit) (n k : ℕ) → n - 1 ≡ k → slice_get permits k ≡ Some p → R p → IsSomeAnd (slice_get permits (n - 1)) R
may_at R permits p n k e at so = subst (λ (o : Option Permit). IsSomeAnd o R) (sym (ap (slice_get permits) e ∙ at)) so

-- new seats of a queue that allows both to all may do both, as they are numbered from 1 on
module _ {S : Type 0} (number : S → ℕ) (permits : List Permit) (seats : List S) (all : All AllowsBoth permits) (count : length permits ≡ length seats)
    (each : (k : ℕ) (d : S) → k < length seats → number (get_or seats k d) ≡ k + 1) where
  pub may_both : All (λ (s : S). MayPush permits (number s) × MayPop permits (number s)) seats
  may_both = λ k d short.
      let n = number (get_or seats k d) in
      let some : Permit = record { pushes = true; pops = true } in
      let is : n ≡ k + 1 = each k d short in
      let few : k < length permits = omega (arith, short, count) in
      let at = slice_get-get_or permits k some few in
      let one : 1 ≤ n = omega (arith, is) in
      let place : n - 1 ≡ k = omega (arith, is) in
      let both = all k some few in (
        (one, may_at (λ (p : Permit). IsTrue p.pushes) permits (get_or permits k some) n k place at both.0),
        (one, may_at (λ (p : Permit). IsTrue p.pops) permits (get_or permits k some) n k place at both.1),
      )

new_both : (permits : List Permit) (seats : List SeatOf) → All AllowsBoth permits → AreNew permits (map known_of seats)
    → All (λ (s : SeatOf). MayPush permits (known_of s).number × MayPop permits (known_of s).number) seats
new_both permits seats all new = may_both (λ (s : SeatOf). (known_of s).number) permits seats all (sym new.count ∙ length-map seats known_of) (λ k d short.
    let s = get_or seats k d in
    let known : slice_get (map known_of seats) k ≡ Some (known_of s) = slice_get-map known_of seats k ∙ ap (option_map known_of) (slice_get-get_or seats k d short) in
    ap (λ (x : Known). x.number) (new.each k (known_of s) known))

-- and these seats are those of shares of it
pub may_share : (kind nodes limit n : ℕ) (within : Numbers Queue) (q : Queue) (seats : List SeatOf) → fifo_of within ≡ q → IsNew kind nodes limit (all_both n) q seats
    → AreNew (permits_of q) (map known_of seats) → All (IsEitherSeat IsPickedSeat IsNumberSeat q) seats
    → All (IsBoth numbers.is_seat numbers.permits numbers.known within) seats
may_share kind nodes limit n within q seats e new unused seated =
    let all = new_both (permits_of q) seats (queue_both kind nodes limit n q seats new) unused in
    λ k d short.
    let m = (known_of (get_or seats k d)).number in
    subst (λ (x : Queue). IsEitherSeat IsPickedSeat IsNumberSeat x (get_or seats k d) × MayPush (permits_of x) m × MayPop (permits_of x) m) (sym e) (seated k d short, (all k d short).0, (all k d short).1)

-- what is out of its range isn't asked for
not_asked : (kind nodes limit : ℕ) (roles : List ℕ) → IsOutOfRange kind nodes limit roles → Asks kind nodes limit roles → ⊥
not_asked kind nodes limit roles (inl above) a = let of = a.of_kind in omega (arith, above, of)
not_asked kind nodes limit roles (inr (inl not)) a = not a.of_roles
not_asked kind nodes limit roles (inr (inr (inl (inl (inl few))))) a = let so = a.sizes.some_nodes in omega (arith, few, so)
not_asked kind nodes limit roles (inr (inr (inl (inl (inr many))))) a = let so = a.sizes.numbered in omega (arith, many, so)
not_asked kind nodes limit roles (inr (inr (inl (inr (inl (inl low)))))) a = let so = a.sizes.counts in omega (arith, low, so)
not_asked kind nodes limit roles (inr (inr (inl (inr (inl (inr high)))))) a = let so = a.sizes.counted in omega (arith, high, so)
not_asked kind nodes limit roles (inr (inr (inl (inr (inr (inl none)))))) a = let so = a.sizes.some_seats in omega (arith, none, so)
not_asked kind nodes limit roles (inr (inr (inl (inr (inr (inr more)))))) a = let so = a.sizes.few_seats in omega (arith, more, so)
not_asked kind nodes limit roles (inr (inr (inr ring))) a = let so = a.few_of_ring ring.0 in let many = ring.1 in omega (arith, many, so)

-- a queue has just so many nodes
same_nodes : (kind capacity calls n m : ℕ) → HasNodes kind capacity calls n → HasNodes kind capacity calls m → n ≡ m
same_nodes kind capacity calls n m (inl a) (inl b) = a.1 ∙ sym b.1
same_nodes kind capacity calls n m (inl a) (inr b) = absurd (b.0 a.0)
same_nodes kind capacity calls n m (inr a) (inl b) = absurd (a.0 b.0)
same_nodes kind capacity calls n m (inr a) (inr b) = a.1 ∙ sym b.1

module _ (kind capacity limit calls : ℕ) where
  -- where a number is out of its range, there are no such shares
  pub no_shares : (nodes : ℕ) (roles : List ℕ) → HasNodes kind capacity calls nodes → roles ≡ all_both calls → IsOutOfRange kind nodes limit roles
      → AsksShares kind capacity limit calls → ⊥
  no_shares nodes roles sized those out a =
      not_asked kind nodes limit (all_both calls) (subst (IsOutOfRange kind nodes limit) those out)
      (subst (λ (n : ℕ). Asks kind n limit (all_both calls)) (same_nodes kind capacity calls a.nodes nodes a.sized sized) a.asks)

  -- nor where there would be too many nodes
  pub no_nodes : (kind ≡ 2 → ⊥) → 2 ^ 32 ≤ capacity + calls + 1 → AsksShares kind capacity limit calls → ⊥
  no_nodes other many a =
      let is : a.nodes ≡ capacity + calls + 1 = same_nodes kind capacity calls a.nodes (capacity + calls + 1) a.sized (inr (other, refl)) in
      let few = a.asks.sizes.numbered in omega (arith, few, is, many)

  -- nor where there is to be room for none
  pub no_room : capacity ≡ 0 → AsksShares kind capacity limit calls → ⊥
  no_room none a = let some = a.some in omega (arith, none, some)

-- the shares of a new queue, and as many as there are handles
module _ {C A S : Type 0} {g : Ghosts C A S} (New : (kind nodes limit : ℕ) (roles : List ℕ) → C → List S → Type 0) (kind capacity limit calls nodes : ℕ) (roles : List ℕ)
    (those : roles ≡ all_both calls) (seats : List S) (shares : List (Share C A S g)) (their : map share_seat shares ≡ seats) where
  pub are_new : (within : C) (s : SteppedQueue C) → 1 ≤ capacity → HasNodes kind capacity calls nodes → Asks kind nodes limit roles
      → stepped_queue s ≡ within → capacity_of s ≡ capacity → New kind nodes limit roles within seats
      → All (λ (h : Share C A S g). stepped_at h ≡ s) shares → AreNewOf New kind capacity limit calls shares
  are_new within s some sized asks inner room new one =
      let made : New kind nodes limit (all_both calls) within seats = subst (λ (rs : List ℕ). New kind nodes limit rs within seats) those new in
      let of : New kind nodes limit (all_both calls) (stepped_queue s) seats = subst (λ (x : C). New kind nodes limit (all_both calls) x seats) (sym inner) made in
      record {
        asked = record { some = some; nodes = nodes; sized = sized; asks = subst (Asks kind nodes limit) those asks };
        queue = s;
        room = room;
        new = subst (New kind nodes limit (all_both calls) (stepped_queue s)) (sym their) of;
        one = one;
      }

  pub as_many : length seats ≡ length roles → length shares ≡ calls
  as_many many = sym (length-map shares share_seat) ∙ ap length their ∙ many ∙ ap length those ∙ length-replicate calls 3

-- handles that are full of these blocks have their shares
module _ {H B Sh V W : Type 0} (holds : H → Bool) (own : H → B) (share_of : B → Sh) (items : V → List H) (value : W → B) (boxes : List W) (shares : List Sh)
    (those : map (λ (b : W). share_of (value b)) boxes ≡ shares) where
  pub sealed_new : (Made : List Sh → Type 0) (out : Result V Trouble) → Made shares
      → IfOk out (λ h. ArePut holds own (map value boxes) (items h)) → IfOk out (λ h. Made (map (λ (x : H). share_of (own x)) (items h)))
  sealed_new Made (Ok h) new put =
      subst Made (sym (sym (map-map share_of own (items h)) ∙ ap (map share_of) put.those ∙ map-map share_of value boxes ∙ those)) new
  sealed_new Made (Err refusal) new put = tt

  pub sealed_many : (calls : ℕ) (out : Result V Trouble) → length shares ≡ calls
      → IfOk out (λ h. length (items h) ≡ length boxes) → IfOk out (λ h. length (items h) ≡ calls)
  sealed_many calls (Ok h) many same = same ∙ sym (length-map boxes (λ (b : W). share_of (value b))) ∙ ap length those ∙ many
  sealed_many calls (Err refusal) many same = tt

-- why handles are not filled that are all empty
pub not_filled : {H : Type 0} (holds : H → Bool) (kind capacity limit : ℕ) (hs : List H) (refusal : Trouble) → AreEmpty holds hs → RefusesShares kind capacity limit (length hs) refusal
    → RefusesFilling holds kind capacity limit hs refusal
not_filled holds kind capacity limit hs BadSize empty why = (empty, why)
not_filled holds kind capacity limit hs (Refused refusal) empty why = (empty, why)
not_filled holds kind capacity limit hs NoHandle empty why = absurd why
not_filled holds kind capacity limit hs NoRole empty why = absurd why
not_filled holds kind capacity limit hs InUse empty why = absurd why
not_filled holds kind capacity limit hs Raced empty why = absurd why
