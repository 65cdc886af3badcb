-- What workers brought back, and what it tells.
use Rattle.std.specs.Prelude.{◌≡◌, ℕ, ◌+◌, ◌<◌, ◌≤◌, List, [], map, length, replicate, Option, None, vec_capacity}
use Rattle.std.specs.Global.{Vec}
use Rattle.std.specs.List.{All, flat_map}
use Rattle.carriers.specs.declared.items.ItemOf.{ItemOf}
use Rattle.tasks.specs.declared.answers.Done.{Done}
use Rattle.tasks.specs.declared.answers.Outcome.{Outcome}
use Rattle.tasks.specs.declared.runs.Numbered.{Numbered}
use Rattle.tasks.specs.declared.turns.End.{End}
use Rattle.tasks.specs.declared.turns.Worked.{Worked}
use Rattle.tasks.specs.Gathers.{slots_in, fills, told_done, told_left, IsFilled}
use Rattle.tasks.specs.declared.parts.Parts.{Parts}
use Rattle.tasks.specs.declared.pools.Space.{Space}

module _ {S D : Type 0} where
  -- the seat that a worker brought back
  abbrev pub seat_in : Worked S D → S
  seat_in w = w.seat

  -- what it did
  abbrev pub done_in : Worked S D → D
  done_in w = w.done

  -- how it ended
  abbrev pub end_in : Worked S D → End
  end_in w = w.end

  -- there is room for what so many more workers bring back
  pub record HasRoom (n : ℕ) (parts : Parts S D) : Type 0 where
    pub seats : length parts.seats.items + n ≤ vec_capacity parts.seats
    pub dones : length parts.dones.items + n ≤ vec_capacity parts.dones
    pub ends : length parts.ends.items + n ≤ vec_capacity parts.ends

  -- there is room for what so many workers bring back, and nothing is there yet
  pub record IsNew (n : ℕ) (parts : Parts S D) : Type 0 where
    pub no_seats : parts.seats.items ≡ []
    pub no_dones : parts.dones.items ≡ []
    pub no_ends : parts.ends.items ≡ []
    pub room : HasRoom n parts

-- there is room for so many tasks and so many workers, and nothing is there yet
pub record IsSpace {S T A : Type 0} (tasks seats : ℕ) (space : Space S T A) : Type 0 where
  pub slots : slots_in space.gather ≡ replicate tasks None
  pub none : space.workers.items ≡ []
  pub room : seats ≤ vec_capacity space.workers
  pub parts : IsNew seats space.parts

-- each of these results is of one of so many tasks
abbrev pub AreWithin : {A : Type 0} → ℕ → List (Vec (Done A)) → Type 0
AreWithin n dones = All (λ ds. All (λ d. d.number < n) ds.items) dones

module _ {T A : Type 0} where
  -- what the results of workers tell
  abbrev pub tells_of : List (Vec (Done A)) → List (ℕ × Outcome T A)
  tells_of dones = flat_map (λ ds. map told_done ds.items) dones

  -- the slots, once the results of workers are put into them, and the tasks that are left
  abbrev pub told_of : List (Option (Outcome T A)) → List (Vec (Done A)) → List (ItemOf (Numbered T)) → List (Option (Outcome T A))
  told_of slots dones left = fills (fills slots (tells_of dones)) (map told_left left)

  -- results and tasks left have numbers of slots, and fill each slot
  pub record CanTell (slots : List (Option (Outcome T A))) (dones : List (Vec (Done A))) (left : List (ItemOf (Numbered T))) : Type 0 where
    pub dones_within : AreWithin (length slots) dones
    pub left_within : All (λ x. x.value.number < length slots) left
    pub filled : All IsFilled (told_of slots dones left)
