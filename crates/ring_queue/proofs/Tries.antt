-- How many turns failed, by the path.
use Rattle.std.proofs.Common.{sym, append-nil, ◌≡◌, ◌≢◌, if◌then◌else◌, List, ℕ, ◌+◌, [], ◌∷◌, ◌++◌, refl, ap, ◌∙◌, arith, append_assoc}
use Rattle.std.proofs.lemmas.Bool.{eq-eqb}
use Rattle.std.proofs.lemmas.List.Sums.{sum_by-append}
use Rattle.ring_queue.specs.declared.pops.Turn.{Turn}
use Rattle.ring_queue.specs.declared.pops.Turn.TheVariants.{Took, Empty, Closed, Failed}
use Rattle.ring_queue.specs.declared.seats.Seat.{Seat}
use Rattle.ring_queue.specs.Paths.{C3, P3, Event, reading, RunsOn, own_path}
use Rattle.ring_queue.specs.Plans.{Layout}
use Rattle.ring_queue.specs.Steps.{FrontsTaken}
use Rattle.ring_queue.specs.Knowledge.{path_of}
use Rattle.ring_queue.specs.Seats.{view}
use Rattle.ring_queue.proofs.Runs.{own_on}
use Rattle.ring_queue.specs.Turns.{failed_turns, Tried, TurnTried}

-- by one access
pub tried_one : {T : Type 0} (s t : Seat T) (e : Event) (count : ℕ) → (view t).number ≡ (view s).number → RunsOn (view s).number (view s).ran e (view t).ran → failed_turns (e ∷ []) ≡ count → Tried s t count
tried_one s t e count number run failed = record {
  accesses = e ∷ [];
  path = ap (λ n. own_path n (view t).ran) number ∙ own_on (view s).number (view s).ran e (view t).ran run;
  failed = failed;
}

-- an exchange that was lost ends a failed turn
pub failed_place : (n : ℕ) → failed_turns (reading C3 0 n ∷ []) ≡ 1
failed_place n = ap (λ b. 0 + (if b then 1 else 0)) (eq-eqb n n refl)

failed_front : (n : ℕ) → failed_turns (reading P3 16 n ∷ []) ≡ 1
failed_front n = ap (λ b. 0 + (if b then 1 else 0)) (eq-eqb n n refl)

-- by one exchange of Head that was lost
pub tried_front : {T : Type 0} (z : Layout) (s t : Seat T) (ws : List ℕ) (n : ℕ) → FrontsTaken z ws (view s) n (view t) → n ≢ (view s).head → Tried s t 1
tried_front z s t ws n k ne = tried_one s t (reading P3 16 n) 1 k.learns.number (k.went_lost ne).0 (failed_front n)

-- by more
pub tried_then : {T : Type 0} (s t u : Seat T) (a b : ℕ) → Tried s t a → Tried t u b → Tried s u (a + b)
tried_then s t u a b f g = record {
  accesses = f.accesses ++ g.accesses;
  path = g.path ∙ (ap (λ es. es ++ g.accesses) f.path ∙ append_assoc (path_of (view s)) f.accesses g.accesses);
  failed = (let x = f.failed in let y = g.failed in let z : failed_turns (f.accesses ++ g.accesses) ≡ failed_turns f.accesses + failed_turns g.accesses = sum_by-append _ f.accesses g.accesses in omega (arith, x, y, z));
}

-- behind accesses of no failed turn
pub turn_tried : {T : Type 0} (s t u : Seat T) (turn : Turn) → Tried s t 0 → TurnTried t u turn → TurnTried s u turn
turn_tried s t u (Took value) f g = tt
turn_tried s t u Empty f g = tt
turn_tried s t u Closed f g = tt
turn_tried s t u Failed f g = tried_then s t u 0 1 f g

-- by none
pub tried_same : {T : Type 0} (s : Seat T) → Tried s s 0
tried_same s = record { accesses = []; path = sym (append-nil (path_of (view s))); failed = refl }
