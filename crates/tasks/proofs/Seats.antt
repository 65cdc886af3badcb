-- The seats of a new queue, as those of its takers and its giver.
use Rattle.std.proofs.Common.{◌≡◌, ◌+◌, inl, sym, refl, ap, subst, ℕ, List, [], ◌∷◌, ◌++◌, length, Some, slice_get, length-append, arith}
use Rattle.std.specs.List.{All}
use Rattle.history.specs.Seats.{Permit, MayPush, MayPop}
use Rattle.carriers.specs.Knowledge.{KnownOf}
use Rattle.tasks.proofs.Lying.{Lies, lies-left, lies-right, lies-all, all-lies, place_of, place_low, place-left, place-last}
use Rattle.tasks.specs.Crews.{IsTaker, AreTakers}
use Rattle.tasks.specs.Pools.{IsCrewOf}

module _ {Q S N : Type 0} (is_seat : Q → S → Type 0) (permits : Q → List Permit) (known : S → KnownOf N) (queue : Q)
    (seats takers : List S) (giver : S) (split : seats ≡ takers ++ giver ∷ []) (crew : IsCrewOf is_seat permits known queue seats) where
  -- there is one seat more than takers
  pub count : length seats ≡ length takers + 1
  count =
      let s = ap length split in
      let l = length-append takers (giver ∷ []) in
      omega (arith, s, l)

  unused_at : (k : ℕ) (s : S) → slice_get (takers ++ giver ∷ []) k ≡ Some s → ((known s).number ≡ k + 1) × ((known s).mine ≡ [])
  unused_at k s at = crew.unused k s (subst (λ ss. slice_get ss k ≡ Some s) (sym split) at)

  seat_in_all : (s : S) → Lies s (takers ++ giver ∷ []) → is_seat queue s
  seat_in_all s lies = lies-all (is_seat queue) s (takers ++ giver ∷ []) (subst (All (is_seat queue)) split crew.each) lies

  -- each taker may pop
  pub takers_are : AreTakers is_seat permits known queue takers
  takers_are =
      all-lies (IsTaker is_seat permits known queue) takers (λ s lies.
      let p = place_of s takers lies in
      let low = place_low takers p.0 s p.1 in
      let c = count in
      let n = (unused_at p.0 s (place-left takers (giver ∷ []) p.0 s p.1)).0 in
      (seat_in_all s (lies-left s takers (giver ∷ []) lies), subst (MayPop (permits queue)) (sym n) (crew.takers p.0 (omega (arith, low, c)))))

  -- the giver is the queue's
  pub giver_is : is_seat queue giver
  giver_is = seat_in_all giver (lies-right giver takers (giver ∷ []) (inl refl))

  -- and may push
  pub giver_may : MayPush (permits queue) (known giver).number
  giver_may =
      let c = count in
      let n = (unused_at (length takers) giver (place-last takers giver)).0 in
      let same : length seats ≡ (known giver).number = omega (arith, c, n) in
      subst (MayPush (permits queue)) same crew.giver
