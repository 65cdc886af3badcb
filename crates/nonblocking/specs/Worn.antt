-- Which words stop a push or a pop of the non-blocking queue where they are worn out, and whether Tail stops a shut.
use Rattle.std.specs.Prelude.{◌≡◌, Option, None, IsSome}
use Rattle.history.specs.declared.refusals.WornWord.{WornWord}
use Rattle.history.specs.declared.refusals.WornWord.TheVariants.{Next as OfNext, Tail as OfTail}
use Rattle.node_arena.specs.Machine.{Held}

-- a push: Tail, and the node is then in the pocket, or the node's own next, and the pocket is empty
abbrev pub push_worn : WornWord → Option Held → Type 0
push_worn OfTail pocket = IsSome pocket
push_worn OfNext pocket = pocket ≡ None
push_worn _ pocket = ⊥

-- a pop: Tail alone
abbrev pub pop_worn : WornWord → Type 0
pop_worn OfTail = Unit {0}
pop_worn _ = ⊥

-- a shut: Tail does
abbrev pub shut_worn : Type 0
shut_worn = Unit {0}
