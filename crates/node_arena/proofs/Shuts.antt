-- A queue that is shut: a history with a shut leaves it so, and so does that of a world with a closed end in any node.
use Rattle.std.proofs.Common.{◌≡◌, ℕ, ◌≤◌, Bool, true, false, if◌then◌else◌, Some, List, ◌++◌, refl, ap, subst, arith}
use Rattle.std.specs.List.{count_by}
use Rattle.std.proofs.lemmas.List.Sums.{sum_by-append}
use Rattle.line_table.specs.declared.lines.Kind.{Kind}
use Rattle.line_table.specs.declared.lines.Kind.TheVariants.{TwoLock, NonBlocking}
use Rattle.line_table.specs.declared.lines.Line.{Line}
use Rattle.history.specs.declared.operations.Entry.{Entry}
use Rattle.history.specs.declared.operations.Reply.TheVariants.{Refused}
use Rattle.history.specs.declared.refusals.Refusal.TheVariants.{Closed}
use Rattle.history.specs.Queue.{Queue, empty}
use Rattle.history.specs.Entries.{is_shut as is_shut_entry, Plays, LeadsToShut}
use Rattle.history.proofs.Sums.{shuts-Leads}
use Rattle.line_steps.specs.Actors.{Actor}
use Rattle.step_machine.specs.Machine.{actor_of}
use Rattle.step_machine.specs.Chains.{queue_values}
use Rattle.step_machine.specs.EachQueue.{HasCause, HasCauseFor}
use Rattle.step_machine.proofs.TwoLockLaws as two_lock
use Rattle.step_machine.proofs.NonBlockingLaws as non_blocking
use Rattle.step_machine.proofs.EitherQueue.{have_their_places}
use Rattle.node_arena.specs.Traces.{Traced, IsTraced, outcome_at}
use Rattle.node_arena.proofs.Tracing.{traced_reached}
use Rattle.node_arena.proofs.Histories.{history_plays}

-- a legal history with a shut leaves the queue shut
pub shut_by_count : (es : List Entry) (q : Queue) → Plays empty es q → 1 ≤ count_by is_shut_entry es → LeadsToShut es
shut_by_count es q h some = go q.shut refl
  where
    go : (b : Bool) → q.shut ≡ b → LeadsToShut es
    go true e = (q.values, subst (λ c. Plays empty es (record { values = q.values; shut = c })) e h)
    go false e =
        let none = shuts-Leads es false q.values (subst (λ c. Plays empty es (record { values = q.values; shut = c })) e h) in
        absurd (omega (arith, none, some))

-- one that leaves it shut has a shut
pub count_of_shut : (es : List Entry) → LeadsToShut es → 1 ≤ count_by is_shut_entry es
count_of_shut es h = let one = shuts-Leads es true h.0 h.1 in omega (arith, one)

-- so in a traced world a history that goes on from one that left it shut does so too
pub stays_shut : (t : Traced) → IsTraced t → (es more : List Entry) → t.history ≡ es ++ more → LeadsToShut es → LeadsToShut t.history
stays_shut t r es more is h =
    let p = have_their_places t.world (traced_reached t r) in
    shut_by_count t.history _ (history_plays t r p.0 p.2.queue_chain)
    (omega (arith, count_of_shut es h, ap (count_by is_shut_entry) is, sum_by-append (λ e. if is_shut_entry e then 1 else 0) es more))

-- where a world has the cause to answer Closed, its history leaves the queue shut
pub shut_by_cause : (t : Traced) → IsTraced t → HasCause t.world Closed → LeadsToShut t.history
shut_by_cause t r c =
    (queue_values t.world.shared c.0, subst (λ b. Plays empty t.history (record { values = queue_values t.world.shared c.0; shut = b })) c.2 (history_plays t r c.0 c.1))

-- and a step that answers it has the cause
pub shut_by_reply : (t : Traced) (me : ℕ) (a : Actor) (l : Line) → IsTraced t → actor_of t.world me ≡ Some a → a.line ≡ Some l
    → (outcome_at t.world.setup t me a l).reply ≡ Some (Refused Closed) → LeadsToShut t.history
shut_by_reply t me a l r is here e = shut_by_cause t r (go t.world.setup.kind refl)
  where
    go : (k : Kind) → t.world.setup.kind ≡ k → HasCause t.world Closed
    go TwoLock k = subst (HasCauseFor t.world) e (two_lock.refuse_with_cause t.world (traced_reached t r) k me a l is here)
    go NonBlocking k = subst (HasCauseFor t.world) e (non_blocking.refuse_with_cause t.world (traced_reached t r) k me a l is here)
