-- When a push that found no node finds one again.
use Rattle.std.specs.Prelude.{◌≡◌, ℕ, ◌+◌, ◌*◌, ◌^◌, Some}
use Rattle.counted_ref.specs.Ref.{IsSplit, count_bits}
use Rattle.line_table.specs.declared.lines.Line.TheVariants.{F3}
use Rattle.history.specs.declared.refusals.Refusal.{Refusal}
use Rattle.history.specs.declared.refusals.Refusal.TheVariants.{NoNode}
use Rattle.history.specs.declared.refusals.WornWord.TheVariants.{Free as OfFree}
use Rattle.line_steps.specs.Actors.{Actor}
use Rattle.step_machine.specs.Machine.{actor_of}
use Rattle.step_machine.specs.EachQueue.{IsWornOut, HasCause}
use Rattle.node_arena.specs.Traces.{Traced, step_at, IsTraced}
use Rattle.node_arena.specs.Arenas.{Arena}
use Rattle.node_arena.specs.declared.seats.Seat.{Seat}
use Rattle.node_arena.specs.Paths.{MetCause}

-- a number is twice another one, and so much: 1 for the odd ones, 0 for the even ones
abbrev pub IsTwiceAnd : (rest : ℕ) → ℕ → Type 0
IsTwiceAnd rest n = (half : ℕ) × (n ≡ 2 * half + rest)

-- in a traced world of such a limit in which a push has cause to be refused for want of a node, Free isn't worn out
abbrev pub FindsFreeUnworn : (rest : ℕ) → Type 0
FindsFreeUnworn rest =
    (t : Traced) → IsTraced t → IsTwiceAnd rest t.world.setup.limit → HasCause t.world NoNode → IsWornOut t.world OfFree → ⊥

-- nor is it in the traced world in which a call of an arena of such a limit met that cause
abbrev pub MeetsFreeUnworn : (rest : ℕ) → Type 0 → Type 0
MeetsFreeUnworn rest T =
    (r : Arena) (s t : Seat T) (met : MetCause r s t NoNode) → IsTwiceAnd rest r.plan.setup.limit → IsWornOut met.was.world OfFree → ⊥

-- in the world after a step that gives a node back to the free list there is no cause for this refusal
abbrev pub GiveBackEnds : Refusal → Type 0
GiveBackEnds refusal =
    (t : Traced) (you : ℕ) (a : Actor) → IsTraced t → actor_of t.world you ≡ Some a → a.line ≡ Some F3 → t.world.shared.free ≡ a.top →
    HasCause (step_at t you a F3).world refusal → ⊥

-- the greatest count of each split is such a number
abbrev pub GreatestIsTwiceAnd : (rest : ℕ) → Type 0
GreatestIsTwiceAnd rest = (bits count : ℕ) → IsSplit bits → count + 1 ≡ 2 ^ count_bits bits → IsTwiceAnd rest count
