-- Seats that may make every call of their queue of values.
use Rattle.std.specs.Prelude.{List}
use Rattle.history.specs.Seats.{Permit, MayPush, MayPop}
use Rattle.carriers.specs.Knowledge.{KnownOf}

-- a seat is the queue's, in no call, and may push and pop
pub record MayCall {Q S A : Type 0} (is_seat : Q → S → Type 0) (permits : Q → List Permit) (known : S → KnownOf A) (q : Q) (s : S) : Type 0 where
  pub seat : is_seat q s
  pub push : MayPush (permits q) (known s).number
  pub pop : MayPop (permits q) (known s).number
