-- How many turns failed on the lines of a turn: none before its last line, and that one failed or went on.
use Rattle.std.proofs.Common.{◌≡◌, ℕ, Option, List, [], ◌∷◌, ◌++◌, ap, ◌∙◌, arith}
use Rattle.line_table.specs.declared.lines.Line.{Line}
use Rattle.node_arena.specs.Traces.{Event}
use Rattle.node_arena.specs.Prologues.{continues}
use Rattle.node_arena.specs.Arenas.{Arena}
use Rattle.node_arena.specs.declared.seats.Seat.{Seat}
use Rattle.node_arena.specs.Seats.{DidStep, view}
use Rattle.node_arena.specs.Turns.{failed_at, failed_turns}
use Rattle.node_arena.specs.Paths.{FailedAt}
use Rattle.node_arena.proofs.Paths.{failed_snoc, event, to_is, failed_last}

module _ {T : Type 0} (r : Arena) (s t : Seat T) (l : Line) (n : ℕ) (d : DidStep r s t continues l n) (before : List Event) (o : Option Line) (to : (view t).actor.line ≡ o) where
  -- as many as the last line, by where it went
  pub turns_then : failed_turns before ≡ 0 → failed_turns (before ++ event r s t continues l n d ∷ []) ≡ failed_at l o
  turns_then never = let f = failed_snoc before (event r s t continues l n d) in let z = ap (failed_at l) (to_is r s t continues l n d ∙ to) in omega arith

  -- and the last of them failed, where this one did
  pub fails_last : failed_at l o ≡ 1 → FailedAt (before ++ event r s t continues l n d ∷ [])
  fails_last one = failed_last r s t continues l n d before (ap (failed_at l) to ∙ one)
