-- What a seat answers that is told whether to keep its nodes.
use Rattle.std.specs.Prelude.{◌≡◌, Bool, Result, OnOk, IfErr}
use Rattle.node_arena.specs.Seats.{told_to_keep}
use Rattle.picked.specs.declared.either.EitherSeat.TheVariants.{First, Second}
use Rattle.picked.specs.Either.{as_first, as_second}
use Rattle.msq_c.specs.declared.handles.MsqSeat.{MsqSeat}
use Rattle.msq_c.specs.declared.troubles.Trouble.{Trouble}
use Rattle.msq_c.specs.declared.troubles.Trouble.TheVariants.{NoHandle}
use Rattle.msq_c.specs.Queues.{SeatOf}
use Rattle.msq_c.specs.Blocks.{seat_in}
use Rattle.msq_c.specs.Seats.{block_at, KeepsHandle, NeedsHandle}

-- a seat of a queue of nodes was told so, and nothing else of it changed; one of a ring is as it was
abbrev pub TellsKeeps : Bool → SeatOf → SeatOf → Type 0
TellsKeeps keeps (First s) t = t ≡ as_first (told_to_keep s keeps)
TellsKeeps keeps (Second s) t = t ≡ as_second s

-- what a seat by a handle answers that is told so: it is refused exactly where the handle is empty, with no change
pub record AnswersKeep (h h' : MsqSeat) (keeps : Bool) (out : Result (Unit {0}) Trouble) : Type 0 where
  pub same : KeepsHandle h h'
  pub empty : NeedsHandle h out
  pub told : OnOk out (TellsKeeps keeps (seat_in (block_at h)) (seat_in (block_at h')))
  pub refused : IfErr out (λ refusal. (refusal ≡ NoHandle) × (h' ≡ h))
