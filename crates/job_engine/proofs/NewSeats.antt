-- The seats of a new queue that has a role for each worker and one for the submitter.
use Rattle.std.proofs.Common.{◌≡◌, ℕ, zero, suc, ◌+◌, ◌-◌, ◌<◌, IsTrue, List, [], ◌∷◌, length, map, replicate, Some, IsSomeAnd, option_map, slice_get, refl, sym, ap, ◌∙◌, subst, arith}
use Rattle.std.specs.List.{All}
use Rattle.std.proofs.lemmas.List.{length-append, length-map, length-replicate}
use Rattle.std.proofs.lemmas.List.Elements.{All-get_or}
use Rattle.std.proofs.lemmas.Option.{slice_get-map, slice_get_within, get_or_from_slice_get}
use Rattle.history.specs.Seats.{Permit, Known}
use Rattle.history.specs.Openings.{AreNew}
use Rattle.job_engine.specs.Crews.{crew_of, IsCrew}

-- what holds of all of a list holds at each place
at_place : {A : Type 0} (P : A → Type 0) (xs : List A) (k : ℕ) (x : A) → All P xs → slice_get xs k ≡ Some x → P x
at_place P xs k x h e = subst P (get_or_from_slice_get xs k x x e) (All-get_or P xs k x (slice_get_within xs k x e) h)

-- what a crew's roles permit
pub map-crew_of : {A B : Type 0} (f : A → B) (taker giver : A) (workers : ℕ) → map f (crew_of taker giver workers) ≡ crew_of (f taker) (f giver) workers
map-crew_of f taker giver zero = refl
map-crew_of f taker giver (suc workers) = ap (λ xs. f taker ∷ xs) (map-crew_of f taker giver workers)

module _ (taker giver : Permit) (pops : IsTrue taker.pops) (pushes : IsTrue giver.pushes) where
  -- the seat of each worker may pop
  pops_at : (workers k : ℕ) → k < workers → IsSomeAnd (slice_get (crew_of taker giver workers) k) (λ p. IsTrue p.pops)
  pops_at zero k l = absurd (omega (arith, l))
  pops_at (suc workers) zero l = pops
  pops_at (suc workers) (suc k) l = pops_at workers k (omega (arith, l))

  -- the last seat may push
  pushes_at : (workers : ℕ) → IsSomeAnd (slice_get (crew_of taker giver workers) workers) (λ p. IsTrue p.pushes)
  pushes_at zero = pushes
  pushes_at (suc workers) = pushes_at workers

-- so many roles
length-crew_of : {A : Type 0} (taker giver : A) (workers : ℕ) → length (crew_of taker giver workers) ≡ workers + 1
length-crew_of taker giver workers = length-append (replicate workers taker) (giver ∷ []) ∙ ap (λ n. n + 1) (length-replicate workers taker)

-- the place of a number
back : (k : ℕ) → k + 1 - 1 ≡ k
back k = omega arith

module _ {Q S : Type 0} (is_seat : Q → S → Type 0) (permits : Q → List Permit) (known : S → Known) (queue : Q) (seats : List S) (workers : ℕ) where
  -- the number of a new seat
  numbered : AreNew (permits queue) (map known seats) → (k : ℕ) (s : S) → slice_get seats k ≡ Some s → (known s).number ≡ k + 1
  numbered new k s e = ap (λ (c : Known). c.number) (new.each k (known s) (slice_get-map known seats k ∙ ap (option_map known) e))

  -- the seats of a new queue whose seats may do this
  pub crew-new : (taker giver : Permit) → IsTrue taker.pops → IsTrue giver.pushes → permits queue ≡ crew_of taker giver workers → All (is_seat queue) seats → AreNew (permits queue) (map known seats)
      → IsCrew is_seat permits known queue workers seats
  crew-new taker giver pops pushes allowed all new =
      record {
        count = sym (length-map seats known) ∙ new.count ∙ ap length allowed ∙ length-crew_of taker giver workers;
        takers = λ k s e l. (at_place (is_seat queue) seats k s all e, rw (numbered new k s e, allowed, back k) (omega arith, pops_at taker giver pops pushes workers k l));
        giver = λ s e. (at_place (is_seat queue) seats workers s all e, rw (numbered new workers s e, allowed, back workers) (omega arith, pushes_at taker giver pops pushes workers));
      }
