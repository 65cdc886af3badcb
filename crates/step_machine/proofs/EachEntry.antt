-- Each step of a world that is reached, and each giving up, adds the entries that its outcome gains, in both queues.
use Rattle.std.proofs.Common.{◌≡◌, ◌+◌, ℕ, Some, sym, subst}
use Rattle.step_machine.specs.Below.{Line, section_of, empty, Plays, Actor, Outcome, found, performed, action, outcome, gives_up}
use Rattle.step_machine.specs.Machine.{World, actor_of, after_outcome, stepped, IsReached}
use Rattle.step_machine.specs.Chains.{queue_in}
use Rattle.step_machine.specs.Histories.{OfEachWorld}
use Rattle.step_machine.specs.Entries.{PlaysToItsValues}
use Rattle.step_machine.proofs.Fixed.{Runs}
use Rattle.step_machine.proofs.Gains.{completion_entries, Gains}
use Rattle.step_machine.proofs.Legal.{SimulationRelation, WasEmpty}
use Rattle.step_machine.proofs.Completion.{entries_booked}
use Rattle.step_machine.proofs.Invariant.{step_moving, give_moving}
use Rattle.step_machine.proofs.EitherQueue.{queue_of_kind, steps_of_kind, is_of_kind, reached_either, same_queue, fixed_at}
use Rattle.step_machine.proofs.EachLegal.{IsSimulated, carried, reached_simulation, moving_gains}

pub each_step_gains : (w : World) (me : ℕ) (a : Actor) (l : Line) → IsReached w → actor_of w me ≡ Some a → a.line ≡ Some l
    → Gains w (stepped w me a l) me a (outcome w.setup (w.steps + 1) me a l (found (action w.setup me a l) w.shared))
each_step_gains w me a l r is at =
    moving_gains w me a (performed (action w.setup me a l) w.shared) _
    (step_moving (queue_of_kind w.setup.kind) (steps_of_kind w.setup.kind) SimulationRelation WasEmpty carried w me a l r (is_of_kind w.setup.kind) is
    at (reached_either SimulationRelation WasEmpty carried w r))

pub each_give_gains : (w : World) (me : ℕ) (a : Actor) (l : Line) (o : Outcome) → IsReached w → actor_of w me ≡ Some a → a.line ≡ Some l
    → gives_up (w.steps + 1) a l ≡ Some o → Gains w (after_outcome w me a w.shared o) me a o
each_give_gains w me a l o r is at given =
    moving_gains w me a w.shared o
    (give_moving (queue_of_kind w.setup.kind) (steps_of_kind w.setup.kind) SimulationRelation WasEmpty carried w me a l o r (is_of_kind w.setup.kind)
    is at given (reached_either SimulationRelation WasEmpty carried w r))

-- an actor before a line is in the call that the line is of
pub each_call : (w : World) (me : ℕ) (a : Actor) (l : Line) → IsReached w → actor_of w me ≡ Some a → a.line ≡ Some l → Runs (section_of l) me a.op a.val
each_call w me a l r is at = (fixed_at w r me a l is at).call

-- the entries of each world lead to its values
pub plays_to_the_values : OfEachWorld PlaysToItsValues
plays_to_the_values w r queue chain =
    let h : IsSimulated w = reached_simulation w r in
    subst (λ es. Plays empty es (queue_in w.setup.bits w.shared queue)) (sym (entries_booked w))
    (subst (λ ns. Plays empty (completion_entries w) (queue_in w.setup.bits w.shared ns)) (same_queue w r h.queue queue h.chain chain) h.fact.plays)
