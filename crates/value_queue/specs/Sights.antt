-- What a seat of any table with slots has seen, of entries and of deeds, and what it knows of values by these.
use Rattle.std.specs.Prelude.{◌≡◌, false, List, [], ◌++◌}
use Rattle.history.specs.Entries.{own_entries}
use Rattle.history.specs.Seats.{Known}
use Rattle.carriers.specs.Deeds.{Deed, own_deeds}
use Rattle.carriers.specs.DeedsOfNumbers.{Matches}
use Rattle.carriers.specs.Knowledge.{KnownOf}
use Rattle.node_arena.specs.Deeds as slots
use Rattle.value_queue.specs.ValuesSeen.{told}
use Rattle.value_queue.specs.Runs.{CanRun}

-- what a seat knows of numbers, and the deeds that it has seen
pub record Sight (T : Type 0) : Type 0 where
  pub known : Known
  pub deeds : List (slots.Deed T)

module _ {T : Type 0} where
  -- the history of values that it has seen
  abbrev pub values_seen : Sight T → List (Deed T)
  values_seen s = told [] s.deeds

  -- what it knows of values
  abbrev pub values_known : Sight T → KnownOf T
  values_known s = record { number = s.known.number; seen = values_seen s; mine = own_deeds s.known.number (values_seen s); notes = s.known.notes }

  -- what it has seen of values can be run, and goes one by one with the entries that it has seen, of which those of its number are its own
  pub record IsClear (s : Sight T) : Type 0 where
    pub can : CanRun [] false s.deeds
    pub matches : Matches s.known.seen (values_seen s)
    pub own : own_entries s.known.number s.known.seen ≡ s.known.mine

  -- what it has seen of values goes on
  pub record GoesOn (s t : Sight T) : Type 0 where
    pub between : List (slots.Deed T)
    pub deeds : t.deeds ≡ s.deeds ++ between

-- of seats that show so much: what one knows of numbers, and of values
module _ {T S : Type 0} (sight : S → Sight T) where
  abbrev pub numbers_by : S → Known
  numbers_by s = (sight s).known

  abbrev pub values_by : S → KnownOf T
  values_by s = values_known (sight s)
