-- What a look of a seat tells, and what looks one after another say of the queue.
use Rattle.std.specs.Prelude.{◌≡◌, ℕ, ◌+◌, ◌<◌, ◌≤◌, Bool, true, false, List, [], ◌∷◌, ◌++◌, length, slice_index}
use Rattle.std.specs.List.{count_by}
use mathlib.Core.List.{IsPrefix}
use Rattle.history.specs.declared.operations.Entry.{Entry}
use Rattle.history.specs.declared.operations.Taken.{Taken}
use Rattle.history.specs.Entries.{is_pop, Leads, LeadsTo}
use Rattle.history.specs.Seats.{Known}
use Rattle.history.specs.Answers.{SeesMore}
use Rattle.step_machine.specs.Words.{memory_words}
use Rattle.step_machine.specs.Machine.{AnyMove}
use Rattle.node_arena.specs.declared.emptiness.Emptiness.{Emptiness}
use Rattle.node_arena.specs.declared.emptiness.Emptiness.TheVariants.{Empty, ShutEmpty, Holds, Moved}
use Rattle.node_arena.specs.declared.lengths.Len.{Len}
use Rattle.node_arena.specs.declared.seats.Seat.{Seat}
use Rattle.node_arena.specs.Arenas.{Arena}
use Rattle.node_arena.specs.Traces.{Traced, IsTraced}
use Rattle.node_arena.specs.Knowledge.{SeatView}
use Rattle.node_arena.specs.Plans.{Layout}
use Rattle.node_arena.specs.Rule.{LearnsRun}
use Rattle.node_arena.specs.Seats.{IsReady, KeepsStored, KeepsSlots, SeesMoreDeeds, carries_of, view}

-- a look tells: there was a traced world, to which what the seat knew of the run goes on by moves of others, and whose history
-- goes on from what the seat had seen; it now knows both, and this word held this number there. Nothing else that it knows changed
pub record LooksAt (z : Layout) (word n : ℕ) (v v' : SeatView) : Type 0 where
  pub was : Traced
  pub reached : IsTraced was
  pub setup : was.world.setup ≡ z.setup
  pub held : n ≡ slice_index (memory_words z.setup.bits was.world.shared) word
  pub rest : List Entry
  pub begins : was.history ≡ v.seen ++ rest
  pub ran : List AnyMove
  pub run : LearnsRun z v ran was
  pub knows : v' ≡ record v { seen = was.history; ran = ran }

-- a seat looked at a word of its arena, and found this number: no slot moved, and what it has seen of values goes on
pub record Looks {T : Type 0} (r : Arena) (s s' : Seat T) (word n : ℕ) : Type 0 where
  pub ready : IsReady r s'
  pub stored : KeepsStored s s'
  pub told : LooksAt r.plan word n (view s) (view s')
  pub slots : KeepsSlots s s'
  pub values : carries_of r ≡ true → SeesMoreDeeds s s'

-- a history no older than what a seat had seen before a call: it begins with that, and what the seat has seen after the call
-- begins with it
pub record WasMeanwhile (k : Known) (now : List Entry) (k' : Known) : Type 0 where
  pub more : SeesMore k k'
  pub begins : IsPrefix k.seen now
  pub ends : IsPrefix now k'.seen

-- entries lead from the empty queue to one with a value at least
pub record LeadsToSome (es : List Entry) : Type 0 where
  pub shut : Bool
  pub front : Taken
  pub others : List Taken
  pub leads : Leads es shut (front ∷ others)

-- pops took effect since before a call
pub record SawPops (k k' : Known) : Type 0 where
  pub more : SeesMore k k'
  pub pops : count_by is_pop k.seen < count_by is_pop k'.seen

-- the queue was found so: after a history no older than what the seat had seen it was empty and not shut, empty and shut, or
-- held a value; or, where Head moved, pops took effect
abbrev pub FoundSo : Known → Emptiness → Known → Type 0
FoundSo k Empty k' = (now : List Entry) × WasMeanwhile k now k' × LeadsTo now []
FoundSo k ShutEmpty k' = (now : List Entry) × WasMeanwhile k now k' × Leads now true []
FoundSo k Holds k' = (now : List Entry) × WasMeanwhile k now k' × LeadsToSome now
FoundSo k Moved k' = SawPops k k'

-- how many nodes stand behind Tail's, at least and at most, by whether Tail stayed, and null or a closed end was read there
abbrev pub behind_tail : (stays none shut : Bool) → ℕ × ℕ
behind_tail false none shut = (0, 1)
behind_tail true true shut = (0, 0)
behind_tail true false true = (0, 0)
behind_tail true false false = (1, 1)

-- the queue's length was between these bounds after a history no older than what the seat had seen; they are no further apart
-- than the pops that took effect meanwhile, and one
pub record WasSoLong (k : Known) (len : Len) (k' : Known) : Type 0 where
  pub now : List Entry
  pub meanwhile : WasMeanwhile k now k'
  pub shut : Bool
  pub values : List Taken
  pub leads : Leads now shut values
  pub least : len.least ≤ length values
  pub most : length values ≤ len.most
  pub near : len.most + count_by is_pop k.seen ≤ len.least + 1 + count_by is_pop k'.seen
