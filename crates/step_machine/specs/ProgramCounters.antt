-- Before which lines the actors of a world stand, and which registers hold nodes there.
use Rattle.std.specs.Prelude.{◌≡◌, ◌≢◌, ℕ, ◌≤◌, Option, Some, None, IfSome}
use Rattle.step_machine.specs.Below.{reserved_node, Kind, TwoLock, NonBlocking, Line, N1, N2, N3, N4, N5, F1, F2, F3, E2, E3, E5, E6, E7, E9, E13, E17, D2, D3}
use Rattle.step_machine.specs.Below.{D4, D5, D10, D12, D13, A1, A2, A3, A4, A5, A6, A7, B1, B2, B3, B4, B5, B6, S1, S2, S3, S4, S5, S6, S7, S8, S9, Section}
use Rattle.step_machine.specs.Below.{section_of, Reply, Value, Refused, Actor, word}
use Rattle.line_table.specs.declared.lines.Section.TheVariants.{NewNode, Free, Enqueue, Dequeue, LockedEnqueue, LockedDequeue, Shut, LockedShut}
use Rattle.step_machine.specs.Words.{IsWord}
use Rattle.step_machine.specs.Machine.{World, actor_of}
use Rattle.step_machine.specs.Tables.{IsOneStep, OfEachNextAccess}

-- a section of the line table is one that a queue runs
abbrev pub IsRunBy : Section → Kind → Type 0
IsRunBy NewNode kind = Unit {0}
IsRunBy Free kind = Unit {0}
IsRunBy Enqueue NonBlocking = Unit {0}
IsRunBy Enqueue TwoLock = ⊥
IsRunBy Dequeue NonBlocking = Unit {0}
IsRunBy Dequeue TwoLock = ⊥
IsRunBy LockedEnqueue NonBlocking = ⊥
IsRunBy LockedEnqueue TwoLock = Unit {0}
IsRunBy LockedDequeue NonBlocking = ⊥
IsRunBy LockedDequeue TwoLock = Unit {0}
IsRunBy Shut NonBlocking = Unit {0}
IsRunBy Shut TwoLock = ⊥
IsRunBy LockedShut NonBlocking = ⊥
IsRunBy LockedShut TwoLock = Unit {0}

-- a call that lets the head lock go has a node to free, unless its reply is settled and no value
abbrev pub HasNodeToFree : Option Reply → (node : ℕ) → Type 0
HasNodeToFree None node = 1 ≤ node
HasNodeToFree (Some (Value v)) node = 1 ≤ node
HasNodeToFree _ node = Unit {0}

-- a call that lets the tail lock go has its node still, where it is refused
abbrev pub HasNodeAfter : Option Reply → (node : ℕ) → Type 0
HasNodeAfter (Some (Refused refusal)) node = 1 ≤ node
HasNodeAfter _ node = Unit {0}

-- the registers that hold nodes before a line, and not null
abbrev pub NonNullAt : (bits : ℕ) → Line → Actor → Type 0
NonNullAt bits N1 a = Unit {0}
NonNullAt bits N2 a = Unit {0}
NonNullAt bits N3 a = 1 ≤ a.top.node
NonNullAt bits N4 a = 1 ≤ a.top.node
NonNullAt bits N5 a = Unit {0}
NonNullAt bits F1 a = 1 ≤ a.node
NonNullAt bits F2 a = 1 ≤ a.node
NonNullAt bits F3 a = 1 ≤ a.node
NonNullAt bits E2 a = 1 ≤ a.node
NonNullAt bits E3 a = 1 ≤ a.node
NonNullAt bits E5 a = 1 ≤ a.node
NonNullAt bits E6 a = (1 ≤ a.node) × (1 ≤ a.tail.node)
NonNullAt bits E7 a = (1 ≤ a.node) × (1 ≤ a.tail.node)
NonNullAt bits E9 a = (1 ≤ a.node) × (1 ≤ a.tail.node)
NonNullAt bits E13 a = (1 ≤ a.node) × (1 ≤ a.tail.node) × (1 ≤ a.next.node) × (a.next.node ≢ reserved_node bits)
NonNullAt bits E17 a = (1 ≤ a.node) × (1 ≤ a.tail.node)
NonNullAt bits D2 a = Unit {0}
NonNullAt bits D3 a = 1 ≤ a.head.node
NonNullAt bits D4 a = (1 ≤ a.head.node) × (1 ≤ a.tail.node)
NonNullAt bits D5 a = (1 ≤ a.head.node) × (1 ≤ a.tail.node)
NonNullAt bits D10 a = (1 ≤ a.tail.node) × (1 ≤ a.next.node) × (a.next.node ≢ reserved_node bits)
NonNullAt bits D12 a = (1 ≤ a.head.node) × (1 ≤ a.next.node) × (a.next.node ≢ reserved_node bits)
NonNullAt bits D13 a = (1 ≤ a.head.node) × (1 ≤ a.next.node) × (a.next.node ≢ reserved_node bits)
NonNullAt bits A1 a = 1 ≤ a.node
NonNullAt bits A2 a = 1 ≤ a.node
NonNullAt bits A3 a = 1 ≤ a.node
NonNullAt bits A4 a = 1 ≤ a.node
NonNullAt bits A5 a = (1 ≤ a.node) × (1 ≤ a.tail.node)
NonNullAt bits A6 a = 1 ≤ a.node
NonNullAt bits A7 a = HasNodeAfter a.due a.node
NonNullAt bits B1 a = Unit {0}
NonNullAt bits B2 a = Unit {0}
NonNullAt bits B3 a = 1 ≤ a.head.node
NonNullAt bits B4 a = (1 ≤ a.head.node) × (1 ≤ a.next.node) × (a.next.node ≢ reserved_node bits)
NonNullAt bits B5 a = (1 ≤ a.head.node) × (1 ≤ a.next.node) × (a.next.node ≢ reserved_node bits)
NonNullAt bits B6 a = HasNodeToFree a.due a.node
NonNullAt bits S1 a = Unit {0}
NonNullAt bits S2 a = 1 ≤ a.tail.node
NonNullAt bits S3 a = 1 ≤ a.tail.node
NonNullAt bits S4 a = 1 ≤ a.tail.node
NonNullAt bits S5 a = (1 ≤ a.tail.node) × (1 ≤ a.next.node) × (a.next.node ≢ reserved_node bits)
NonNullAt bits S6 a = Unit {0}
NonNullAt bits S7 a = Unit {0}
NonNullAt bits S8 a = 1 ≤ a.tail.node
NonNullAt bits S9 a = Unit {0}

-- an actor's next line is one of its queue, and the registers that it uses as nodes hold nodes
abbrev pub IsAtLine : (bits : ℕ) → Kind → Actor → Option Line → Type 0
IsAtLine bits kind a None = Unit {0}
IsAtLine bits kind a (Some l) = IsRunBy (section_of l) kind × NonNullAt bits l a

-- an actor's pocket is empty or has a node, and it stands at its line
abbrev pub PcIsValid : (bits : ℕ) → Kind → Actor → Type 0
PcIsValid bits kind a = record { pocket : IfSome a.pocket (λ held. 1 ≤ held.node); line : IsAtLine bits kind a a.line }

-- each actor that has a call stands before a line of its queue
abbrev pub EachRunsItsQueue : World → Type 0
EachRunsItsQueue w =
    (me : ℕ) (a : Actor) (l : Line) → actor_of w me ≡ Some a → a.line ≡ Some l → IsRunBy (section_of l) w.setup.kind

-- the next access of each actor names a word of the table
abbrev pub EachNamesAWord : World → Type 0
EachNamesAWord w = OfEachNextAccess w (λ a. IsWord w.shared (word a))

-- the next access of each actor is one atomic step on the place of its word
abbrev pub EachIsOneStep : World → Type 0
EachIsOneStep w = OfEachNextAccess w (IsOneStep w.setup.bits w.shared)
