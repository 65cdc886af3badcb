-- The words of an arena, by name.
use Rattle.std.specs.Prelude.{◌≡◌, ℕ, ◌+◌, ◌*◌, ◌≤◌}
use Rattle.line_table.specs.declared.lines.Line.{Line}
use Rattle.node_arena.specs.Machine.{Word as MachineWord, WordFresh, WordFree, WordHead, WordTail, WordTailLock, WordHeadLock, WordNext, WordValue, word, action}
use Rattle.node_arena.specs.Prologues.{Prologue, after_prologue}
use Rattle.node_arena.specs.Arenas.{Arena}
use Rattle.node_arena.specs.declared.seats.Seat.{Seat}
use Rattle.node_arena.specs.Seats.{view}
use Rattle.free_list.specs.declared.words.Word.{Word}
use Rattle.free_list.specs.declared.words.Word.TheVariants.{Fresh, Free, Head, Tail, TailLock, HeadLock, Next, Value}

-- the index of a word among those of an arena
abbrev pub index_of : Word → ℕ
index_of Fresh = 0
index_of Free = 1
index_of Head = 2
index_of Tail = 3
index_of TailLock = 4
index_of HeadLock = 5
index_of (Next n) = 4 + 2 * n
index_of (Value n) = 5 + 2 * n

-- a word of a node is that of node 1 or a later one
abbrev pub HasPlace : Word → Type 0
HasPlace (Next n) = 1 ≤ n
HasPlace (Value n) = 1 ≤ n
HasPlace w = Unit {0}

-- the machine's word of that name
abbrev pub machine_word : Word → MachineWord
machine_word Fresh = WordFresh
machine_word Free = WordFree
machine_word Head = WordHead
machine_word Tail = WordTail
machine_word TailLock = WordTailLock
machine_word HeadLock = WordHeadLock
machine_word (Next n) = WordNext n
machine_word (Value n) = WordValue n

-- the access of a seat's next move, at a line, is of this word
abbrev pub Accesses : {T : Type 0} → Arena → Seat T → Prologue → Line → Word → Type 0
Accesses r s prologue l w =
    word (action r.plan.setup (view s).number (after_prologue r.plan.setup (view s).number prologue (view s).actor) l) ≡ machine_word w
