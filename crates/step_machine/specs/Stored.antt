-- What the fields of a world stand for, and what holds of each world.
use Rattle.std.specs.Prelude.{◌≡◌, ℕ, ◌+◌, ◌^◌, ◌<◌, ◌≤◌, length, vec_capacity}
use Rattle.step_machine.specs.Machine.{World, IsMade}
use Rattle.step_machine.specs.Views.{HasNodes, unrecorded}
use Rattle.step_machine.specs.declared.world.WorldOf.TheInside.{Inside}

-- the world that these fields stand for
abbrev pub world : (bits : ℕ) → Inside bits → World
world bits w =
    record {
      setup = w.setup;
      steps = w.steps;
      shared = w.memory.words;
      actors = w.actors.items;
      aside = w.memory.aside;
      operations = w.operations.items;
    }

-- the world is one that calls lead to, and has room for the nodes and entries that its calls may still need
pub record StoredInvariant (bits : ℕ) (w : Inside bits) : Type 0 where
  pub made : IsMade (world bits w)
  pub split : w.setup.bits ≡ bits
  pub numbers : w.steps < 2 ^ 64
  pub within : w.memory.room ≤ w.setup.size
  pub nodes : HasNodes w.setup.size w.memory.words.fresh w.memory.room w.actors.items
  pub entries : length w.operations.items + unrecorded w.actors.items ≤ vec_capacity w.operations
