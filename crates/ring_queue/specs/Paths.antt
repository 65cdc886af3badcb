-- The run of all seats, access by access; the path of one: the accesses that it made; and what a list of accesses leaves in words.
use Rattle.std.specs.Prelude.{◌≡◌, ℕ, Bool, true, false, if◌then◌else◌, nat_eq, List, [], ◌∷◌, ◌++◌, slice_index_or, slice_set}
use Rattle.node_arena.specs.KnownRuns as known_runs
use Rattle.history.specs.declared.operations.Entry.{Entry}

-- the lines: C1 to C4 of a push, P1 to P5 of a pop, and S10 of a shut; a look at how many values there are makes C1 and C2
pub data Line : Type 0 where
  C1 : Line
  C2 : Line
  C3 : Line
  C4 : Line
  P1 : Line
  P2 : Line
  P3 : Line
  P4 : Line
  P5 : Line
  S10 : Line

-- an access: at a line, to a word, which held a number and was left with one; and what took its effect with it
pub record Event : Type 0 where
  pub line : Line
  pub word : ℕ
  pub found : ℕ
  pub left : ℕ
  pub adds : List Entry

-- one that leaves the word as it found it
abbrev pub reading : Line → (word found : ℕ) → Event
reading l i n = record { line = l; word = i; found = n; left = n; adds = [] }

-- one that writes
abbrev pub writing : Line → (word found left : ℕ) → List Entry → Event
writing l i n m es = record { line = l; word = i; found = n; left = m; adds = es }

-- an access of a seat, by its number
pub record Step : Type 0 where
  pub by : ℕ
  pub event : Event

-- what accesses, one after another, leave in words
abbrev pub left_by : List ℕ → List Step → List ℕ
left_by words [] = words
left_by words (e ∷ es) = left_by (slice_set words e.event.word e.event.left) es

-- each found in its word what this held then
abbrev pub AreFound : List ℕ → List Step → Type 0
AreFound words [] = Unit {0}
AreFound words (e ∷ es) = (e.event.found ≡ slice_index_or words e.event.word 0) × AreFound (slice_set words e.event.word e.event.left) es

-- those of one seat
abbrev pub own_path : ℕ → List Step → List Event
own_path n [] = []
own_path n (e ∷ es) = if nat_eq e.by n then e.event ∷ own_path n es else own_path n es

-- accesses begin with those that a seat knows of, and those that follow are of other seats
abbrev pub Ran : (run : List Step) → (me : ℕ) → (ran : List Step) → Type 0
Ran run me ran = known_runs.Ran (λ (e : Step). e.by) run me ran

-- whether a seat sees the whole history with its access at a line: each but that which fills a place, as this reads nothing
abbrev pub sees : Line → Bool
sees C4 = false
sees l = true

-- a run with one access more
abbrev pub accessed : List Step → (me : ℕ) → Event → List Step
accessed run me e = run ++ record { by = me; event = e } ∷ []

-- a seat that knew of some accesses knows of all that had been made before its own next one, and of that: others made those between
pub record RunsOn (me : ℕ) (ran : List Step) (e : Event) (ran' : List Step) : Type 0 where
  pub before : List Step
  pub knew : Ran before me ran
  pub ends : ran' ≡ accessed before me e

-- what took its effect with them
abbrev pub added_by : List Step → List Entry
added_by [] = []
added_by (e ∷ es) = e.event.adds ++ added_by es

-- a try at a slot's flag, and what this held
pub record Try : Type 0 where
  pub slot : ℕ
  pub found : ℕ
