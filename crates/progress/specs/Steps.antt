-- How many steps operations take together, and how many operations that are complete there are at least for so many steps.
use Rattle.std.specs.Prelude.{◌≡◌, ℕ, ◌+◌, ◌*◌, ◌≤◌, List, length, Some, IfSome}
use Rattle.std.specs.List.{sum_by}
use Rattle.step_machine.specs.Below.{Kind, TwoLock, NonBlocking, Actor, Setup}
use Rattle.step_machine.specs.Machine.{World, opening, AnyMove, run, IsSized}
use Rattle.step_machine.specs.Prices.{all_steps}
use Rattle.step_machine.specs.Amounts.{has}
use Rattle.step_machine.specs.Pairs.{pair, pairs, stage_of}
use Rattle.progress.specs.Moves.{steps_unheld, rests, completed}

-- what two actors may yet cost each other
abbrev pub cost_of_pair : Actor → Actor → ℕ
cost_of_pair a b = pair (stage_of a.due a.line a.entry) (stage_of b.due b.line b.entry)

-- the steps that all actors of a world have before them at most
abbrev pub left : World → ℕ
left w = sum_by (λ a. has all_steps w.setup w.shared a a.entry) w.actors + pairs cost_of_pair w.actors

-- so many for each actor, and so many more
abbrev pub linear : (each more actors : ℕ) → ℕ
linear each more k = each * k + more

-- a world's steps are at most so many for each operation that its history has
abbrev pub IsFew : (each more : ℕ) → World → Type 0
IsFew each more w = w.steps ≤ linear each more (length w.actors) * length w.operations

-- the steps of any moves from a world on are at most those left, and so many for each operation that began meanwhile
abbrev pub IsFewLater : (each more : ℕ) → World → Type 0
IsFewLater each more w =
    (ms : List AnyMove) (v : World) → run ms w ≡ Some v →
    v.steps + linear each more (length w.actors) * length w.operations ≤ w.steps + left w + linear each more (length w.actors) * length v.operations

-- a fact of each list of moves of a queue, of any size, limit and number of actors in range, and of the world it leads to
abbrev pub OfRuns : Kind → ((actors : ℕ) → List AnyMove → (u v : World) → Type 0) → Type 0
OfRuns kind P =
    (s : Setup) (actors : ℕ) (moves : List AnyMove) → IsSized s actors → s.kind ≡ kind →
    IfSome (run moves (opening s actors)) (P actors moves (opening s actors))

-- in the two-lock queue the steps that find no lock held are at most so many for each operation
abbrev pub FewFindNoLockHeld : (each more : ℕ) → Type 0
FewFindNoLockHeld each more =
    OfRuns TwoLock (λ actors moves u v. steps_unheld moves u ≤ linear each more actors * length v.operations)

-- lock freedom of the non-blocking queue: the steps of any moves are at most so many for each operation that is complete,
-- for each actor and for each rest
abbrev pub KeepsCompleting : (each more : ℕ) → Type 0
KeepsCompleting each more =
    OfRuns NonBlocking (λ actors moves u v. v.steps ≤ linear each more actors * (completed v + actors + rests moves))

-- the same of the two-lock queue, of the steps that find no lock held
abbrev pub KeepsCompletingUnheld : (each more : ℕ) → Type 0
KeepsCompletingUnheld each more =
    OfRuns TwoLock (λ actors moves u v. steps_unheld moves u ≤ linear each more actors * (completed v + actors + rests moves))
