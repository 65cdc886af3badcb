-- Which words stop a push or a pop of the two-lock queue where they are worn out, and whether Tail stops a shut.
use Rattle.std.specs.Prelude.{Option}
use Rattle.history.specs.declared.refusals.WornWord.{WornWord}
use Rattle.history.specs.declared.refusals.WornWord.TheVariants.{Head as OfHead}
use Rattle.node_arena.specs.Machine.{Held}

-- a push that has its node: none
abbrev pub push_worn : WornWord → Option Held → Type 0
push_worn word pocket = ⊥

-- a pop: Head alone
abbrev pub pop_worn : WornWord → Type 0
pop_worn OfHead = Unit {0}
pop_worn _ = ⊥

-- a shut: Tail doesn't
abbrev pub shut_worn : Type 0
shut_worn = ⊥
