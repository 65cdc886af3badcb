-- What one step makes of its actor and of its operation.
use Rattle.std.specs.Prelude.{ℕ, Option, Some, None}
use Rattle.history.specs.declared.operations.Reply.{Reply}
use Rattle.history.specs.declared.operations.Stamped.{Stamped}
use Rattle.line_steps.specs.Actors.{Actor}
use Rattle.line_steps.specs.declared.actors.Told.{Told}

-- the actor after the step, the number at which the operation takes effect, where this step settles it, the reply, where
-- the call ends, and the node set aside
pub record Outcome : Type 0 where
  pub actor : Actor
  pub at : Option ℕ
  pub reply : Option Reply
  pub aside : Option ℕ

-- what is told of an outcome beside its actor
abbrev pub told_of : Outcome → Told
told_of o = record { at = o.at; reply = o.reply; aside = o.aside }

-- an actor and what was told, as an outcome
abbrev pub settled : Actor → Told → Outcome
settled a t = record { actor = a; at = t.at; reply = t.reply; aside = t.aside }

-- the last number of an operation that ends now, where it has a reply
abbrev pub last_of : (now : ℕ) → Option Reply → Option ℕ
last_of now None = None
last_of now (Some reply) = Some now

-- what is settled now, and else what was settled before
abbrev pub latest_point : Option ℕ → Option ℕ → Option ℕ
latest_point None before = before
latest_point (Some now) before = Some now

-- an operation that is told the outcome of a step
abbrev pub with_outcome : (now : ℕ) → Outcome → Stamped → Stamped
with_outcome now o s = record s { last = last_of now o.reply; at = latest_point o.at s.at; reply = o.reply }

-- an operation that is told this of a step
abbrev pub with_told : (now : ℕ) → Told → Stamped → Stamped
with_told now t s = record s { last = last_of now t.reply; at = latest_point t.at s.at; reply = t.reply }
