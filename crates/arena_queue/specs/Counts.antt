-- What the counts of a queue's words count.
use Rattle.std.specs.Prelude.{◌≡◌, ℕ, ◌+◌, ◌-◌, ◌*◌, ◌≤◌, List, length, Option}
use Rattle.std.specs.List.{sum_by, count_by, range_with_len}
use Rattle.line_table.specs.declared.lines.Kind.TheVariants.{NonBlocking}
use Rattle.line_table.specs.declared.lines.Line.{Line}
use Rattle.line_table.specs.declared.lines.Line.TheVariants.{N4}
use Rattle.history.specs.Entries.{is_push}
use Rattle.step_machine.specs.Places.{IsChain}
use Rattle.node_arena.specs.Traces.{Event, Traced, IsTraced}
use Rattle.node_arena.specs.Turns.{at_n1}

-- a fact of all traced worlds
abbrev pub OfTraces : (Traced → Type 0) → Type 0
OfTraces P = (t : Traced) → IsTraced t → P t

-- 1 for a node that was taken from the free list at a line, by where it went: a won N4
abbrev pub takes_at : Line → Option Line → ℕ
takes_at N4 to = 1 - at_n1 to
takes_at l to = 0

-- how many nodes were taken from the free list on a path
abbrev pub takes_on : List Event → ℕ
takes_on es = sum_by (λ e. takes_at e.line e.to) es

-- how many all seats took from it
abbrev pub nodes_taken : Traced → ℕ
nodes_taken t = sum_by (λ n. takes_on (t.paths n)) (range_with_len 1 (length t.world.actors))

-- Free's count is so much for each node taken from the free list, and the number of those that are in it
abbrev pub FreeCountsNodes : (each : ℕ) → Traced → Type 0
FreeCountsNodes each t =
    (free : List ℕ) → IsChain t.world.shared.nodes t.world.shared.free.node free → t.world.shared.free.count ≡ each * nodes_taken t + length free

-- Tail's count, in the non-blocking queue, is the number of pushes, or of all but so many
abbrev pub TailCountsPushes : (behind : ℕ) → Traced → Type 0
TailCountsPushes behind t =
    t.world.setup.kind ≡ NonBlocking →
    (t.world.shared.tail.count ≤ count_by is_push t.history) × (count_by is_push t.history ≤ t.world.shared.tail.count + behind)
