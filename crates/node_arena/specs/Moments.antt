-- What the rule of the table says of one moment, in words of the machine.
use Rattle.std.specs.Prelude.{◌≡◌, ℕ, List, length, slice_index, Some}
use mathlib.Core.List.{IsPrefix}
use mathlib.Core.Option.{some}
use lib.ListN.{get_elem?}
use Rattle.atomic_table.specs.Table.{State}
use Rattle.history.specs.Entries.{own_entries}
use Rattle.history.specs.History.{Placement, IsLegal}
use Rattle.history.specs.Linearizability.{IsLinearizable}
use Rattle.step_machine.specs.Words.{memory_words}
use Rattle.step_machine.specs.Entries.{entries}
use Rattle.step_machine.specs.Machine.{World, AnyMove, run, opening, actor_of, IsSized}
use Rattle.node_arena.specs.Traces.{Traced, IsTraced}
use Rattle.node_arena.specs.Knowledge.{SeatView, View, members}
use Rattle.node_arena.specs.Places.{shared_words}
use Rattle.node_arena.specs.Plans.{Layout}
use Rattle.node_arena.specs.Rule.{Holds}

-- a list of moves leads from the opening world to one with exactly the shared words that lie in the table, in which the actor of each seat is as the
-- seat says; of the pushes, pops and shuts of its operations a seat has seen the first ones, and just those by its actor are the
-- seat's own; its history is placed and legal, and linearizable
pub record IsLinearizableMoment (z : Layout) (s : State ℕ View) : Type 0 where
  pub actors : ℕ
  pub sized : IsSized z.setup actors
  pub moves : List AnyMove
  pub world : World
  pub led : run moves (opening z.setup actors) ≡ Some world
  pub count : length world.actors ≡ length z.roles
  pub words : shared_words s.words ≡ memory_words z.setup.bits world.shared
  pub seats : (j i : ℕ) (u : View) (v : SeatView) → get_elem? s.views j ≡ some u → get_elem? (members u) i ≡ some v → actor_of world v.number ≡ Some v.actor
  pub own : (j i : ℕ) (u : View) (v : SeatView) → get_elem? s.views j ≡ some u → get_elem? (members u) i ≡ some v → own_entries v.number (entries world) ≡ v.mine
  pub begins : (j i : ℕ) (u : View) (v : SeatView) → get_elem? s.views j ≡ some u → get_elem? (members u) i ≡ some v → IsPrefix v.seen (entries world)
  pub placed : Placement world.operations
  pub legal : IsLegal world.operations
  pub linearizable : IsLinearizable world.operations

-- a word of the table may hold this number: it does in some traced world that moves lead to from the opening one of this
-- plan, of whichever moment
pub record WasWord (z : Layout) (word n : ℕ) : Type 0 where
  pub was : Traced
  pub reached : IsTraced was
  pub setup : was.world.setup ≡ z.setup
  pub peopled : length was.world.actors ≡ length z.roles
  pub held : n ≡ slice_index (memory_words z.setup.bits was.world.shared) word

-- whatever the rule holds of is such a moment
abbrev pub EachMomentIsLinearizable : Type 0
EachMomentIsLinearizable = (z : Layout) (s : State ℕ View) → Holds z s → IsLinearizableMoment z s
