-- The seats of a new queue, each of which may push and pop, are a line's.
use Rattle.std.proofs.Common.{◌≡◌, ◌∙◌, ◌+◌, ◌-◌, ◌<◌, sym, refl, ap, subst, ℕ, zero, suc, List, map, length, replicate, Some, IsSomeAnd, IsTrue, slice_get, option_map, arith}
use Rattle.std.specs.List.{All}
use Rattle.std.proofs.lemmas.List.{length-map, length-replicate}
use Rattle.std.proofs.lemmas.Option.{slice_get-map}
use Rattle.history.specs.Seats.{Permit, MayPush, MayPop}
use Rattle.carriers.specs.Knowledge.{KnownOf}
use Rattle.node_arena.specs.declared.roles.Role.TheVariants.{Both}
use Rattle.node_arena.specs.Plans.{permit_of, permits_by}
use Rattle.value_queue.specs.Queues.{newcomer, AreNewOf}
use Rattle.tasks.specs.FedPools.{IsLineOf}

both_at : (n k : ℕ) → k < n → slice_get (permits_by (replicate n Both)) k ≡ Some (permit_of Both)
both_at zero k low = absurd (omega (arith, low))
both_at (suc n) zero low = refl
both_at (suc n) (suc k) low = both_at n k (omega (arith, low))

long : (n : ℕ) → length (permits_by (replicate n Both)) ≡ n
long n = length-map (replicate n Both) permit_of ∙ length-replicate n Both

module _ {Q S N : Type 0} (is_seat : Q → S → Type 0) (permits : Q → List Permit) (known : S → KnownOf N) (q : Q) (seats : List S) (n : ℕ)
    (row : permits q ≡ permits_by (replicate n Both)) (each : All (is_seat q) seats) (new : AreNewOf (permits q) (map known seats)) where
  pub many : length seats ≡ n
  many = sym (length-map seats known) ∙ new.count ∙ ap length row ∙ long n

  is_new : (k : ℕ) (s : S) → slice_get seats k ≡ Some s → known s ≡ newcomer (k + 1)
  is_new k s at = new.each k (known s) (slice_get-map known seats k ∙ ap (option_map known) at)

  may_both : (k : ℕ) → k < length seats → MayPush (permits q) (k + 1) × MayPop (permits q) (k + 1)
  may_both k low =
      let m = many in
      let few : k < n = omega (arith, low, m) in
      let same : k + 1 - 1 ≡ k = omega arith in
      let at = ap (slice_get (permits q)) same ∙ ap (λ ps. slice_get ps k) row ∙ both_at n k few in
      ((omega arith, subst (λ o. IsSomeAnd o (λ (p : Permit). IsTrue p.pushes)) (sym at) refl), (omega arith, subst (λ o. IsSomeAnd o (λ (p : Permit). IsTrue p.pops)) (sym at) refl))

  pub line : 0 < n → IsLineOf is_seat permits known q seats
  line some =
      let m = many in
      record {
        each = each;
        count = sym (length-map seats known) ∙ new.count;
        some = omega (arith, m, some);
        unused = λ k s at. (ap (λ (x : KnownOf N). x.number) (is_new k s at), ap (λ (x : KnownOf N). x.mine) (is_new k s at));
        both = may_both;
      }
