-- Small histories of deeds, worked out by hand: some are runs, and others aren't. The values are numbers.
use Rattle.std.specs.Prelude.{ℕ, List, [], ◌∷◌}
use Rattle.carriers.specs.Deeds.{Deed, did_push, did_pop, did_shut, item}

-- seats 1 and 2 push, seat 2 pops the first value, seat 1 shuts the queue, and pops the second one
abbrev pub handed_over : List (Deed ℕ)
handed_over = did_push 1 5 ∷ did_push 2 7 ∷ did_pop 2 (item 1 5) ∷ did_shut 1 ∷ did_pop 1 (item 2 7) ∷ []

-- two seats push the same value, and that of the first one is popped
abbrev pub told_apart : List (Deed ℕ)
told_apart = did_push 2 5 ∷ did_push 1 5 ∷ did_pop 1 (item 2 5) ∷ []

-- a value is popped before nothing was pushed
abbrev pub popped_from_nothing : List (Deed ℕ)
popped_from_nothing = did_pop 1 (item 1 5) ∷ did_push 1 5 ∷ []

-- a value is popped that stands behind another
abbrev pub popped_from_behind : List (Deed ℕ)
popped_from_behind = did_push 1 5 ∷ did_push 1 7 ∷ did_pop 2 (item 1 7) ∷ []

-- another value is popped than was pushed
abbrev pub popped_another : List (Deed ℕ)
popped_another = did_push 1 5 ∷ did_pop 2 (item 1 6) ∷ []

-- the value is popped as one that another seat pushed
abbrev pub popped_as_anothers : List (Deed ℕ)
popped_as_anothers = did_push 1 5 ∷ did_pop 2 (item 2 5) ∷ []

-- a value is popped twice
abbrev pub popped_twice : List (Deed ℕ)
popped_twice = did_push 1 5 ∷ did_pop 1 (item 1 5) ∷ did_pop 2 (item 1 5) ∷ []

-- a value is pushed behind a shut
abbrev pub pushed_behind_a_shut : List (Deed ℕ)
pushed_behind_a_shut = did_push 1 5 ∷ did_shut 2 ∷ did_push 1 7 ∷ []

-- the queue is shut twice
abbrev pub shut_twice : List (Deed ℕ)
shut_twice = did_shut 1 ∷ did_shut 2 ∷ []
