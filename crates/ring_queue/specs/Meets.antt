-- Two seats that met.
use Rattle.std.specs.Prelude.{◌≡◌, ℕ, List, []}
use Rattle.atomic_table.specs.Table.{Me}
use Rattle.history.specs.declared.operations.Entry.{Entry}
use Rattle.history.specs.Answers.{SeesMore}
use Rattle.ring_queue.specs.Plans.{Layout}
use Rattle.ring_queue.specs.Knowledge.{SeatView, View, paired, known_by}
use Rattle.ring_queue.specs.Paths.{Step, Ran, added_by}
use Rattle.ring_queue.specs.Steps.{Learns}

-- what a seat knows, once it has seen the whole history and knows of all accesses
abbrev pub learned : List Entry → List Step → SeatView → SeatView
learned es run v = record v { seen = es; ran = run }

-- two seats that are one have seen one history, which begins with what each had seen, and know of one run, which begins with what
-- each knew, and goes on by others; nothing else changed
pub record Met (z : Layout) (v w : SeatView) (m : Me ℕ View) : Type 0 where
  pub all : List Entry
  pub run : List Step
  pub seats : m ≡ (paired (learned all run v) (learned all run w), [])
  pub whole : all ≡ added_by run
  pub first_run : Ran run v.number v.ran
  pub second_run : Ran run w.number w.ran
  pub first : SeesMore (known_by v) (known_by (learned all run v))
  pub second : SeesMore (known_by w) (known_by (learned all run w))
  pub first_learns : Learns z v (learned all run v)
  pub second_learns : Learns z w (learned all run w)
