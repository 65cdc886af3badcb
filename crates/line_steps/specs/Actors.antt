-- What a step is made of, by its numbers: a node, and an actor with its registers.
use Rattle.std.specs.Prelude.{ℕ, Bool, Option}
use Rattle.counted_ref.specs.Ref.{Ref}
use Rattle.line_table.specs.declared.lines.Line.{Line}
use Rattle.history.specs.declared.operations.Op.{Op}
use Rattle.history.specs.declared.operations.Reply.{Reply}
use Rattle.history.specs.declared.operations.Taken.{Taken}
use Rattle.line_steps.specs.declared.actors.Held.{Held}

-- a node of the queue or of the free list
pub record Node : Type 0 where
  pub next : Ref
  pub value : Taken

-- an actor: its call, its next line, and its registers
pub record Actor : Type 0 where
  pub line : Option Line
  pub holds : Bool
  pub f : ℕ
  pub node : ℕ
  pub op : Op
  pub top : Ref
  pub mark : ℕ
  pub tail : Ref
  pub head : Ref
  pub next : Ref
  pub val : Taken
  pub empty_at : ℕ
  pub due : Option Reply
  pub pocket : Option Held
  pub entry : Option ℕ
