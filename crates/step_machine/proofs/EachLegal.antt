-- The histories of both queues are legal: the operations of each world by rising place, and Head's count.
use Rattle.std.proofs.Common.{◌≡◌, replicate, ℕ, ◌+◌, ◌<◌, ◌≤◌, List, ◌∷◌, refl, sym, ap, ◌∙◌, subst, arith}
use Rattle.std.proofs.lemmas.Option.{none-some}
use Rattle.step_machine.specs.Below.{reserved_node, empty, blank, IsLegal, Actor, Outcome, Shared, begun}
use Rattle.step_machine.specs.Machine.{World, rested, after_outcome}
use Rattle.step_machine.specs.Places.{IsQueueChain}
use Rattle.step_machine.specs.Chains.{queue_in}
use Rattle.step_machine.specs.Stamps.{makers}
use Rattle.step_machine.specs.EachQueue.{ReplaysToItsValues, CountsValuesTaken}
use Rattle.step_machine.specs.Histories.{OfEachWorld}
use Rattle.step_machine.proofs.StampsInvariants.{OperationAt, StampsInvariant}
use Rattle.step_machine.proofs.Chains.{next_in, ended_at, null_ended}
use Rattle.step_machine.proofs.Beginnings.{blank_leads}
use Rattle.step_machine.proofs.Counting.{holds, elsewhere, elsewhere_one}
use Rattle.step_machine.proofs.CompletionSteps.{Simulates, simulates}
use Rattle.step_machine.proofs.Legal.{SimulationRelation, WasEmpty, AfterStep, after_step, after_gains, after_plays, empty_now}
use Rattle.step_machine.proofs.Gains.{Gains}
use Rattle.step_machine.proofs.LegalMoves.{calls_settled, kept_reached, simulation_with, book_begun, book_rested, begun_entry}
use Rattle.step_machine.proofs.Completion.{legal_book, replays_promises, replayed_promises, taken_promises}
use Rattle.step_machine.proofs.Carrying.{NumberedMove, Carried, Carries, Moving}
use Rattle.step_machine.proofs.Invariant.{ReachedInvariant}
use Rattle.step_machine.proofs.EitherQueue.{queue_of_kind, reached_either, same_queue}

module _ (w : World) (me : ℕ) (a : Actor) (m' : Shared) (o : Outcome) (front : ℕ) (rest queue' : List ℕ)
    (n : NumberedMove (WasEmpty w) w me a m' o front rest queue') (ac : SimulationRelation w (front ∷ rest)) where
  kept : StampsInvariant (Unit {0}) (makers n.reached.moves) w
  kept = kept_reached w n.reached

  mine : (i : ℕ) → holds i a ≤ elsewhere w i
  mine i = elsewhere_one w me a i n.here

  -- what a numbered move does with the book
  told_books : Simulates w (after_outcome w me a m' o) me a o
  told_books =
      simulates (makers n.reached.moves) w me a m' n.line o kept n.here n.stamps n.fixed.earned
      (subst (λ x. OperationAt (Unit {0}) (makers n.reached.moves) w.operations me x a.entry a.due a.empty_at) n.at (kept.actors me a n.here))
      (λ e s entry got. ac.calls me e a n.line s n.here n.at entry got)

  -- it carries the accounts along
  simulation_after_outcome : Carried SimulationRelation WasEmpty w (after_outcome w me a m' o) (front ∷ rest) queue'
  simulation_after_outcome =
      record {
        fact =
            record {
              replays = st.replays;
              list = st.list;
              plays = after_plays w me a m' o front rest n.free n.shape n.writes mine told_books ac queue' n.linearizes;
              counted = st.counted;
              calls = calls_settled (makers n.reached.moves) w me a n.line m' o kept n.here n.at n.same_call ac.calls;
            };
        keeps = λ k z. (let low : k ≤ w.steps = z.0 in omega arith, st.still k (let low : k ≤ w.steps = z.0 in omega arith) z.1);
        finds = λ e. (omega arith, st.still (w.steps + 1) (omega arith) (empty_now w me a m' o front rest n.free n.shape n.writes mine told_books ac e));
      }
    where
      st : AfterStep w (after_outcome w me a m' o) queue'
      st = after_step w me a m' o front rest n.free n.shape n.writes mine told_books ac queue' n.linearizes

  -- and adds the entries that its outcome gains
  told_gains : Gains w (after_outcome w me a m' o) me a o
  told_gains = after_gains w me a m' o front rest n.free n.shape n.writes mine told_books ac queue' n.linearizes

-- at the start the chain holds the empty queue
opening_queue : (bits size : ℕ) → size < reserved_node bits → empty ≡ ended_at bits (next_in (replicate size blank) 1)
opening_queue bits size low = sym (ap (ended_at bits) (blank_leads size) ∙ null_ended bits size low)

-- the moves carry the accounts along
pub carried : Carries SimulationRelation WasEmpty
carried =
    record {
      told = λ w me a m' o front rest queue' n ac. simulation_after_outcome w me a m' o front rest queue' n ac;
      began = λ w me op a queue r is at ac.
          simulation_with w me a (begun w.setup.kind me op a) queue is (book_begun (makers r.moves) w me a (begun w.setup.kind me op a) (kept_reached w r) is at)
          (λ l e line entry. none-some e (sym (begun_entry w.setup.kind me op a) ∙ entry)) ac;
      at_rest = λ w me a l queue r is at may ac.
          simulation_with w me a (rested a) queue is (book_rested w me a (rested a) is refl) (λ k e line entry. none-some k line) ac;
      starts = λ s actors sized. record {
        replays = tt;
        list = opening_queue s.bits s.size sized.numbered;
        plays = opening_queue s.bits s.size sized.numbered;
        counted = refl;
        calls = λ me e a l s is line entry got. absurd (none-some s got);
      };
    }

-- a world has the chain from Head, and its accounts
pub record IsSimulated (w : World) : Type 0 where
  pub queue : List ℕ
  pub chain : IsQueueChain w.setup.bits w.shared.nodes w.shared.head.node queue
  pub fact : SimulationRelation w queue

-- each world that is reached has both
pub reached_simulation : OfEachWorld IsSimulated
reached_simulation w r =
    let p : ReachedInvariant (queue_of_kind w.setup.kind) SimulationRelation WasEmpty w = reached_either SimulationRelation WasEmpty carried w r in
    record { queue = p.front ∷ p.rest; chain = p.sound.shape.queue_chain; fact = p.fact }

pub histories_are_legal : OfEachWorld (λ w. IsLegal w.operations)
histories_are_legal w r = legal_book w (reached_simulation w r).fact.replays

pub replay_to_the_values : OfEachWorld ReplaysToItsValues
replay_to_the_values w r queue chain =
    let h : IsSimulated w = reached_simulation w r in (
      replays_promises w h.fact.replays,
      replayed_promises w ∙ h.fact.list ∙ ap (λ q. queue_in w.setup.bits w.shared q) (same_queue w r h.queue queue h.chain chain),
    )

pub head_counts_values_taken : OfEachWorld CountsValuesTaken
head_counts_values_taken w r = (reached_simulation w r).fact.counted ∙ taken_promises w

-- a numbered move adds the entries that its outcome gains
pub moving_gains : (w : World) (me : ℕ) (a : Actor) (m' : Shared) (o : Outcome) → Moving SimulationRelation WasEmpty w me a m' o → Gains w (after_outcome w me a m' o) me a o
moving_gains w me a m' o v = told_gains w me a m' o v.front v.rest v.queue' v.move v.fact
