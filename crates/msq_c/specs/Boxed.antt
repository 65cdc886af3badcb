-- What a handle owns: the box behind it, where it is full.
use Rattle.std.specs.Prelude.{Bool, true, false}
use base.Fml.{Fml, ftrue}
use mir.Syntax.{Ty}
use denote.RattleType.{RattleType}
use denote.RawPtr.{Ptr}
use Rattle.std.specs.Box.Ownership.{box_owns}
use Rattle.std.specs.contracts.impls.GlobalAllocator.TheImpl.{ghosts}

-- the right to free a block of the C library's heap
abbrev pub heap_token : Ty → Ptr → Fml
heap_token = ghosts.dealloc_token (record { memory = record { seal = tt } })

-- a handle owns the box behind it where it is full, and nothing else
abbrev pub box_if : (R : RattleType) → Bool → Ptr → R.Denot → Fml
box_if R true p x = box_owns heap_token R p x
box_if R false p x = ftrue
