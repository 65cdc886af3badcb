-- The registers of a running call, by their numbers.
use Rattle.std.specs.Prelude.{ℕ}
use Rattle.counted_ref.specs.Ref.{Ref}

-- the registers of a running call
pub record Running : Type 0 where
  pub f : ℕ
  pub top : Ref
  pub next : Ref
  pub node : ℕ
  pub mark : ℕ
