-- Who is told of a shut.
use Rattle.std.specs.Prelude.{Result, Ok, Err}
use Rattle.history.specs.declared.refusals.Refusal.{Refusal}
use Rattle.history.specs.declared.refusals.Refusal.TheVariants.{Closed}

-- this is so where an answer to a shut leaves the queue shut: it was done, or the queue was shut before
abbrev pub IfShut : Result (Unit {0}) Refusal → Type 0 → Type 0
IfShut (Ok done) P = P
IfShut (Err Closed) P = P
IfShut (Err refusal) P = Unit {0}
