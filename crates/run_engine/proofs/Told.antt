-- The line that a step is told at.
use Rattle.std.proofs.Common.{◌≡◌, ℕ, ◌⊎◌, inl, inr, Option, Some, None, refl, ap}
use Rattle.history.specs.declared.operations.Reply.{Reply}
use Rattle.line_table.specs.declared.lines.Line.{Line}
use Rattle.line_steps.specs.Actors.{Actor}
use Rattle.step_machine.specs.declared.actors.Stepped.{Stepped}
use Rattle.step_machine.specs.declared.actors.Stepped.TheVariants.{Began, Went, Ended}
use Rattle.step_machine.specs.Calls.{line_of, step_answer, stepped_at}
use Rattle.step_machine.specs.Machine.{World}

-- the line that is told
abbrev pub line_in : Stepped → Option Line
line_in Began = None
line_in (Went line) = Some line
line_in (Ended line reply) = Some line

line_in-stepped_at : (line : Line) (reply : Option Reply) (s : Stepped) → Some (stepped_at line reply) ≡ Some s → line_in s ≡ Some line
line_in-stepped_at line None s e = let same : stepped_at line None ≡ s = cc in rw (← same) refl
line_in-stepped_at line (Some reply) s e = let same : stepped_at line (Some reply) ≡ s = cc in rw (← same) refl

line_in_of : (w : World) (me : ℕ) (a : Actor) (s : Stepped) (line : Option Line) → step_answer w me (Some (record a { line = line })) ≡ Some s → line_in s ≡ line
line_in_of w me a s None e = absurd cc
line_in_of w me a s (Some line) e = line_in-stepped_at line _ s e

-- a step is told at the line before which the actor stood
pub line_in_step : (w : World) (me : ℕ) (o : Option Actor) (s : Stepped) → step_answer w me o ≡ Some s → line_in s ≡ line_of o
line_in_step w me None s e = absurd cc
line_in_step w me (Some a) s e = line_in_of w me a s a.line e

-- what is told of a step that goes on, or ends a call
pub line_in_either : (s : Stepped) (line : Line) → (s ≡ Went line) ⊎ ((reply : Reply) × (s ≡ Ended line reply)) → line_in s ≡ Some line
line_in_either s line (inl went) = ap line_in went
line_in_either s line (inr ended) = ap line_in ended.1
