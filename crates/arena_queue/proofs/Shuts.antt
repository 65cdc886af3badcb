-- What a shut tells its seat.
use Rattle.std.proofs.Common.{ℕ, Result, Ok, Err, IfErr}
use Rattle.history.specs.declared.refusals.Refusal.{Refusal}
use Rattle.history.specs.Answers.{PushRefused}
use Rattle.node_arena.specs.Arenas.{Arena}
use Rattle.node_arena.specs.declared.seats.Seat.{Seat}
use Rattle.node_arena.specs.Seats.{known_of}
use Rattle.arena_queue.specs.Answers.{AnswersShut}
use Rattle.arena_queue.proofs.Pushes.{learns}

-- what its seat knows after a shut that was refused
pub shut_learns : {T : Type 0} (worn : Type 0) (r : Arena) (s t : Seat T) (turns : ℕ) (out : Result (Unit {0}) Refusal)
    → AnswersShut worn r s t turns out → IfErr out (λ refusal. PushRefused (known_of s) refusal (known_of t))
shut_learns worn r s t turns (Ok u) h = tt
shut_learns worn r s t turns (Err refusal) h = learns s t refusal h.refused.0
