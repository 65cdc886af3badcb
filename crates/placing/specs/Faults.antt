-- Operations that are wrong by themselves.
use Rattle.std.specs.Prelude.{◌⊎◌}
use Rattle.history.specs.declared.operations.Stamped.{Stamped}
use Rattle.placing.specs.declared.kinds.Fault.{Fault}
use Rattle.placing.specs.declared.kinds.Fault.TheVariants.{Shape, Span, Reply}
use Rattle.placing.specs.Reasons.{IsMisshapen, EndsTooSoon, IsToldAmiss}

-- an operation has a fault
abbrev pub HasFault : Stamped → Fault → Type 0
HasFault o Shape = IsMisshapen o
HasFault o Span = EndsTooSoon o
HasFault o Reply = IsToldAmiss o

-- an operation has a last step exactly where it has a reply, not before its first one, and a reply that such a call may be told
abbrev pub IsFaultless : Stamped → Type 0
IsFaultless o = (IsMisshapen o ⊎ (EndsTooSoon o ⊎ IsToldAmiss o)) → ⊥
