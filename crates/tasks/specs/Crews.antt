-- A submitter and its workers.
use Rattle.std.specs.Prelude.{◌≡◌, List, length}
use Rattle.std.specs.List.{All}
use Rattle.history.specs.Seats.{Permit, MayPush, MayPop}
use Rattle.carriers.specs.Knowledge.{KnownOf}
use Rattle.tasks.specs.declared.runs.Numbered.{Numbered}
use Rattle.tasks.specs.Gathers.{slots_in}
use Rattle.tasks.specs.declared.pools.Batch.{Batch}

-- a seat is the queue's, in no call, and may pop
abbrev pub IsTaker : {Q S N : Type 0} → (Q → S → Type 0) → (Q → List Permit) → (S → KnownOf N) → Q → S → Type 0
IsTaker is_seat permits known queue seat = is_seat queue seat × MayPop (permits queue) (known seat).number

-- and so is each of these
abbrev pub AreTakers : {Q S N : Type 0} → (Q → S → Type 0) → (Q → List Permit) → (S → KnownOf N) → Q → List S → Type 0
AreTakers is_seat permits known queue seats = All (IsTaker is_seat permits known queue) seats

-- tasks are to be offered by a seat that is the queue's, in no call, and may push; each has a slot
pub record IsBatch {Q S T A : Type 0} (is_seat : Q → S → Type 0) (permits : Q → List Permit) (known : S → KnownOf (Numbered T)) (queue : Q) (batch : Batch S T A) : Type 0 where
  pub seat : is_seat queue batch.giver
  pub role : MayPush (permits queue) (known batch.giver).number
  pub slots : length (slots_in batch.gather) ≡ length batch.tasks.items
