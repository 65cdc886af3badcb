-- The entries of a world: the pushes, the pops and the shut of its operations that had their effect.
use Rattle.std.specs.Prelude.{ℕ, ◌+◌, ◌<◌, ◌≤◌, List, [], ◌∷◌, Option, Some}
use Rattle.std.specs.List.{count_by, flat_map}
use Rattle.step_machine.specs.Below.{Op, Enq, Deq, Shut, Reply, Done, Value, Stamped, Entry, Push, ShutEntry, Pop, empty, is_push, is_pop, Plays, by_point}
use Rattle.step_machine.specs.Machine.{World}
use Rattle.step_machine.specs.Places.{IsQueueChain}
use Rattle.step_machine.specs.Chains.{queue_in}
use Rattle.step_machine.specs.Completion.{completion}

-- the entry of an enqueue or of a shut that is done
abbrev pub pushed_by : (me : ℕ) → Op → List Entry
pushed_by me (Enq body) = Push me body ∷ []
pushed_by me Deq = []
pushed_by me Shut = ShutEntry me ∷ []

-- the entry of an operation with a reply: the push or the shut of one that is done, the pop of one that got a value, and else none
abbrev pub entry_with : (me : ℕ) → Op → Option Reply → List Entry
entry_with me op (Some Done) = pushed_by me op
entry_with me op (Some (Value v)) = Pop me v ∷ []
entry_with me op _ = []

-- the same of a stamped operation
abbrev pub entry_of : Stamped → List Entry
entry_of o = entry_with o.actor o.op o.reply

-- the entries of all operations that had their effect, by rising place, with the replies that their calls have earned
abbrev pub entries : World → List Entry
entries w = flat_map entry_of (by_point (completion w))

-- the entries lead from the empty queue to the one that the chain from Head holds
abbrev pub PlaysToItsValues : World → Type 0
PlaysToItsValues w =
    (queue : List ℕ) → IsQueueChain w.setup.bits w.shared.nodes w.shared.head.node queue → Plays empty (entries w) (queue_in w.setup.bits w.shared queue)

-- the pops are at most as many as the greatest count, and the pushes fewer than the pops and the nodes together
abbrev pub AreFew : World → Type 0
AreFew w =
    (count_by is_pop (entries w) ≤ w.setup.limit) × (count_by is_push (entries w) < count_by is_pop (entries w) + w.setup.size)
