-- The pushes that begin, and what they take: a node of the free list each, and an effect.
use Rattle.std.specs.Prelude.{◌≡◌, ℕ, ◌+◌, ◌*◌, ◌≤◌, Bool, true, false, nat_eq, List, Option, Some, None}
use Rattle.std.specs.List.{sum_by, count_by}
use Rattle.line_table.specs.declared.lines.Line.{Line}
use Rattle.line_table.specs.declared.lines.Line.TheVariants.{N1, N2, N3, N4, N5, E2, E3, E5, E6, E7, E9, E13, A1, A2, A3, A4, A5}
use Rattle.history.specs.declared.operations.Op.TheVariants.{Enq}
use Rattle.history.specs.Entries.{is_push}
use Rattle.line_steps.specs.Actors.{Actor}
use Rattle.step_machine.specs.declared.actors.Move.TheVariants.{Begin}
use Rattle.step_machine.specs.Machine.{World, actor_of, AnyMove, made}
use Rattle.node_arena.specs.Traces.{Traced, trace, IsTraced}
use Rattle.arena_queue.specs.Counts.{takes_on, nodes_taken}

-- whether a move begins a push
abbrev pub begins_push : AnyMove → Bool
begins_push (made (Begin me (Enq body))) = true
begins_push m = false

-- whether a move begins a push of this seat
abbrev pub begins_push_of : (seat : ℕ) → AnyMove → Bool
begins_push_of seat (made (Begin me (Enq body))) = nat_eq me seat
begins_push_of seat m = false

-- how many moves begin a push
abbrev pub pushes_begun : List AnyMove → ℕ
pushes_begun ms = count_by begins_push ms

-- 1 for an actor before a line of a push that has no node yet
abbrev pub has_no_node : Option Line → ℕ
has_no_node (Some N1) = 1
has_no_node (Some N2) = 1
has_no_node (Some N3) = 1
has_no_node (Some N4) = 1
has_no_node (Some N5) = 1
has_no_node l = 0

-- 1 for an actor before a line of a push that has not taken effect yet
abbrev pub has_no_effect : Option Line → ℕ
has_no_effect (Some N1) = 1
has_no_effect (Some N2) = 1
has_no_effect (Some N3) = 1
has_no_effect (Some N4) = 1
has_no_effect (Some N5) = 1
has_no_effect (Some E2) = 1
has_no_effect (Some E3) = 1
has_no_effect (Some E5) = 1
has_no_effect (Some E6) = 1
has_no_effect (Some E7) = 1
has_no_effect (Some E9) = 1
has_no_effect (Some E13) = 1
has_no_effect (Some A1) = 1
has_no_effect (Some A2) = 1
has_no_effect (Some A3) = 1
has_no_effect (Some A4) = 1
has_no_effect (Some A5) = 1
has_no_effect l = 0

-- what an actor that may be there counts by its line
abbrev pub of_line : (Option Line → ℕ) → Option Actor → ℕ
of_line f None = 0
of_line f (Some a) = f a.line

-- how much all actors of a world count by their lines
abbrev pub sum_of_lines : (Option Line → ℕ) → World → ℕ
sum_of_lines f w = sum_by (λ a. f a.line) w.actors

-- how many pushes of a world have no node yet
abbrev pub without_node : World → ℕ
without_node w = sum_of_lines has_no_node w

-- how many pushes of a world have begun and not taken effect yet
abbrev pub under_way : World → ℕ
under_way w = sum_of_lines has_no_effect w

-- a fact of a traced world, of moves, and of the traced world that they lead to from there
abbrev pub OfRuns : (Traced → List AnyMove → Traced → Type 0) → Type 0
OfRuns P = (was t : Traced) (moves : List AnyMove) → IsTraced was → trace moves was ≡ Some t → P was moves t

-- the nodes that each seat took from the free list meanwhile are at most so many for each push that it began, and where it had
-- begun one before and had no node yet
abbrev pub EachTakesNodes : (each before : ℕ) → Traced → List AnyMove → Traced → Type 0
EachTakesNodes each before was moves t =
    (seat : ℕ) →
    takes_on (t.paths seat)
    ≤ takes_on (was.paths seat) + each * count_by (begins_push_of seat) moves + before * of_line has_no_node (actor_of was.world seat)

-- the nodes that all seats took meanwhile are at most so many for each push that began, and for each that had begun before and
-- had no node yet
abbrev pub TakeNodes : (each before : ℕ) → Traced → List AnyMove → Traced → Type 0
TakeNodes each before was moves t =
    nodes_taken t ≤ nodes_taken was + each * pushes_begun moves + before * without_node was.world

-- the pushes that took effect meanwhile are at most so many for each that began, and for each that had begun before and not
-- taken effect yet
abbrev pub TakeEffect : (each before : ℕ) → Traced → List AnyMove → Traced → Type 0
TakeEffect each before was moves t =
    count_by is_push t.history ≤ count_by is_push was.history + each * pushes_begun moves + before * under_way was.world
