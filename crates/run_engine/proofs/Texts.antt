-- The text of moves, one after another.
use Rattle.std.proofs.Common.{◌≡◌, ℕ, ◌+◌, ◌-◌, ◌<◌, List, [], ◌∷◌, ◌++◌, length, drop, get_or, Option, Some, None, refl, sym, ap, subst, ◌∙◌, append_assoc, arith}
use Rattle.std.specs.Prelude.{IsSome, replicate}
use Rattle.std.proofs.lemmas.List.{append-nil, drop_more, replicate-append-replicate}
use Rattle.std.proofs.lemmas.List.Concat.{flat_map-cons}
use Rattle.schedule_text.specs.declared.schedules.Event.{Event}
use Rattle.schedule_text.specs.Schedules.{moves_of, moves_of_event}
use Rattle.step_machine.specs.declared.actors.Move.{Move}
use Rattle.step_machine.specs.Machine.{World, next, run_on}
use Rattle.run_engine.specs.Runs.{world_after}
use Rattle.run_engine.proofs.Moves.{world_after-append}
use Rattle.run_engine.specs.Pieces.{text_on, moves_text}

-- no value is none
pub no_some : (A : Type 0) → IsSome {T = A} None → ⊥
no_some A e = absurd cc

module _ (each : World → World → Move → List ℕ) where
  -- the text of moves, and then of more of them
  pub moves_text-append : (xs ys : List Move) (w v : World) → world_after xs w ≡ Some v → moves_text each (xs ++ ys) w ≡ moves_text each xs w ++ moves_text each ys v
  moves_text-append [] ys w v led = let same : w ≡ v = cc in ap (moves_text each ys) same
  moves_text-append (x ∷ xs) ys w v led =
      (elim (next w x) as (λ (o : Option World). run_on (world_after xs) o ≡ Some v
      → text_on (λ u. each w u x ++ moves_text each (xs ++ ys) u) o ≡ text_on (λ u. each w u x ++ moves_text each xs u) o ++ moves_text each ys v) [
        | None ↦ λ e. absurd cc
        | Some u ↦ λ e. ap (λ (t : List ℕ). each w u x ++ t) (moves_text-append xs ys u v e)
            ∙ sym (append_assoc (each w u x) (moves_text each xs u) (moves_text each ys v))
      ]) led

  -- the text of one move
  pub moves_text-one : (m : Move) (w v : World) → next w m ≡ Some v → moves_text each (m ∷ []) w ≡ each w v m
  moves_text-one m w v made = rw made (append-nil (each w v m))

-- where moves can be made, the first of them can
pub first_moves : (xs ys : List Move) (w : World) → IsSome (world_after (xs ++ ys) w) → (v : World) × (world_after xs w ≡ Some v)
first_moves xs ys w can = by (world_after xs w) (subst (λ (o : Option World). IsSome o) (world_after-append xs ys w) can)
  where
    by : (o : Option World) → IsSome (run_on (world_after ys) o) → (v : World) × (o ≡ Some v)
    by None can = absurd (no_some World can)
    by (Some v) can = (v, refl)

-- and so can the others
pub later_moves : (xs ys : List Move) (w v : World) → world_after xs w ≡ Some v → IsSome (world_after (xs ++ ys) w) → IsSome (world_after ys v)
later_moves xs ys w v led can =
    subst (λ (o : Option World). IsSome (run_on (world_after ys) o)) led (subst (λ (o : Option World). IsSome o) (world_after-append xs ys w) can)

-- one copy, and the others
pub replicate-first : {A : Type 0} (count i : ℕ) (x : A) → i < count → replicate (count - i) x ≡ (x ∷ []) ++ replicate (count - (i + 1)) x
replicate-first count i x few =
    let one : count - i ≡ 1 + (count - (i + 1)) = omega (arith, few) in
    ap (λ (n : ℕ). replicate n x) one ∙ sym (replicate-append-replicate 1 (count - (i + 1)) x)

-- where copies of a move can be made, the next one can
pub can_next : (count i : ℕ) (m : Move) (w : World) → i < count → IsSome (world_after (replicate (count - i) m) w) → IsSome (next w m)
can_next count i m w few can =
    let first = first_moves (m ∷ []) (replicate (count - (i + 1)) m) w (subst (λ (ms : List Move). IsSome (world_after ms w)) (replicate-first count i m few) can) in
    by (next w m) first.0 first.1
  where
    by : (o : Option World) (v : World) → run_on (world_after []) o ≡ Some v → IsSome o
    by None v e = absurd cc
    by (Some u) v e = refl

-- the moves of an event, and of those after it
pub moves_of-drop : (events : List Event) (i : ℕ) (event : Event) → i < length events → event ≡ get_or events i event
    → moves_of (drop i events) ≡ moves_of_event event ++ moves_of (drop (i + 1) events)
moves_of-drop events i event within is =
    ap moves_of (drop_more events i event within ∙ ap (λ (e : Event). e ∷ drop (i + 1) events) (sym is)) ∙ flat_map-cons moves_of_event event (drop (i + 1) events)
