-- Which seats push, and which pop.
use Rattle.std.specs.Prelude.{List}
use Rattle.history.specs.Seats.{Permit, Known, MayPush, MayPop}

module _ {Q S : Type 0} (is_seat : Q → S → Type 0) (permits : Q → List Permit) (known : S → Known) where
  -- the seat is the queue's, in no call, and may push
  pub record IsGiver (q : Q) (s : S) : Type 0 where
    pub seat : is_seat q s
    pub pushes : MayPush (permits q) (known s).number

  -- the seat is the queue's, in no call, and may pop
  pub record IsTaker (q : Q) (s : S) : Type 0 where
    pub seat : is_seat q s
    pub pops : MayPop (permits q) (known s).number

  -- both may push
  pub record AreGivers (q : Q) (first second : S) : Type 0 where
    pub one : IsGiver q first
    pub other : IsGiver q second

  -- the first two may push, the third may pop
  pub record AreThree (q : Q) (first second third : S) : Type 0 where
    pub one : IsGiver q first
    pub other : IsGiver q second
    pub taker : IsTaker q third
