-- The seats of a new queue, that of a giver behind those of takers, are a crew's.
use Rattle.std.proofs.Common.{◌≡◌, ◌∙◌, ◌+◌, ◌-◌, ◌<◌, sym, refl, ap, subst, ℕ, zero, suc, List, [], ◌∷◌, map, length, replicate, Some, IsSomeAnd, IsTrue, slice_get, option_map, length-append, arith}
use Rattle.std.specs.List.{All}
use Rattle.std.proofs.lemmas.List.{length-map, length-replicate}
use Rattle.std.proofs.lemmas.Option.{slice_get-map}
use Rattle.history.specs.Seats.{Permit, MayPush, MayPop}
use Rattle.carriers.specs.Knowledge.{KnownOf}
use Rattle.node_arena.specs.declared.roles.Role.TheVariants.{Giver, Taker}
use Rattle.node_arena.specs.Plans.{permit_of, permits_by}
use Rattle.value_queue.specs.Queues.{newcomer, AreNewOf}
use Rattle.tasks.specs.Pools.{IsCrewOf}
use Rattle.tasks.specs.Roles.{pool_roles}

taker_at : (w k : ℕ) → k < w → slice_get (permits_by (pool_roles w)) k ≡ Some (permit_of Taker)
taker_at zero k low = absurd (omega (arith, low))
taker_at (suc w) zero low = refl
taker_at (suc w) (suc k) low = taker_at w k (omega (arith, low))

giver_at : (w : ℕ) → slice_get (permits_by (pool_roles w)) w ≡ Some (permit_of Giver)
giver_at zero = refl
giver_at (suc w) = giver_at w

long : (w : ℕ) → length (permits_by (pool_roles w)) ≡ w + 1
long w =
    let m = length-map (pool_roles w) permit_of in
    let a = length-append (replicate w Taker) (Giver ∷ []) in
    let r = length-replicate w Taker in
    omega (arith, m, a, r)

module _ {Q S N : Type 0} (is_seat : Q → S → Type 0) (permits : Q → List Permit) (known : S → KnownOf N) (q : Q) (seats : List S) (w : ℕ)
    (row : permits q ≡ permits_by (pool_roles w)) (each : All (is_seat q) seats) (new : AreNewOf (permits q) (map known seats)) where
  pub many : length seats ≡ w + 1
  many = sym (length-map seats known) ∙ new.count ∙ ap length row ∙ long w

  is_new : (k : ℕ) (s : S) → slice_get seats k ≡ Some s → known s ≡ newcomer (k + 1)
  is_new k s at = new.each k (known s) (slice_get-map known seats k ∙ ap (option_map known) at)

  may_pop : (k : ℕ) → k + 1 < length seats → MayPop (permits q) (k + 1)
  may_pop k low =
      let m = many in
      let few : k < w = omega (arith, low, m) in
      let same : k + 1 - 1 ≡ k = omega arith in
      (omega arith, subst (λ o. IsSomeAnd o (λ (p : Permit). IsTrue p.pops)) (sym (ap (slice_get (permits q)) same ∙ ap (λ ps. slice_get ps k) row ∙ taker_at w k few)) refl)

  may_push : MayPush (permits q) (length seats)
  may_push =
      let m = many in
      let same : length seats - 1 ≡ w = omega (arith, m) in
      (omega (arith, m), subst (λ o. IsSomeAnd o (λ (p : Permit). IsTrue p.pushes)) (sym (ap (slice_get (permits q)) same ∙ ap (λ ps. slice_get ps w) row ∙ giver_at w)) refl)

  pub crew_of : IsCrewOf is_seat permits known q seats
  crew_of =
      let m = many in
      record {
        each = each;
        count = sym (length-map seats known) ∙ new.count;
        some = omega (arith, m);
        unused = λ k s at. (ap (λ (x : KnownOf N). x.number) (is_new k s at), ap (λ (x : KnownOf N). x.mine) (is_new k s at));
        takers = may_pop;
        giver = may_push;
      }
