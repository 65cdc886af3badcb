-- What holds of each world that is reached, whichever queue it runs.
use Rattle.std.proofs.Common.{◌≡◌, ℕ, zero, suc, ◌≤◌, ◌<◌, List, [], ◌∷◌, length, get_or, Some, refl, sym, subst, arith}
use Rattle.std.proofs.lemmas.Option.{IfSome_then}
use Rattle.step_machine.specs.Below.{Kind, TwoLock, NonBlocking, Line, section_of, Actor}
use Rattle.step_machine.specs.Machine.{World, actor_of, IsReached}
use Rattle.step_machine.specs.ProgramCounters.{IsRunBy, NonNullAt, IsAtLine, EachRunsItsQueue}
use Rattle.step_machine.specs.Places.{IsNull, IsEnd, IsChain, IsQueueChain, times}
use Rattle.step_machine.specs.EachQueue.{HasItsPlaces, KeepsQueueAndFreeApart}
use Rattle.step_machine.specs.Locks.{MarksAreCounts}
use Rattle.step_machine.specs.Histories.{OfEachWorld}
use Rattle.step_machine.proofs.Chains.{one_if_same, null_apart, ends_apart, chain_same, null_times}
use Rattle.step_machine.proofs.Reached.{few_nodes}
use Rattle.step_machine.proofs.Counting.{used_within, used_above, used_most, elsewhere}
use Rattle.step_machine.proofs.Effects.{Shape}
use Rattle.step_machine.proofs.Fixed.{FixedAt}
use Rattle.step_machine.proofs.Assertions.{Queue, Steps}
use Rattle.step_machine.proofs.Carrying.{Carries, nothing}
use Rattle.step_machine.proofs.Invariant.{ReachedInvariant, reached_with}
use Rattle.step_machine.proofs.TwoLockAtLines.{two_lock}
use Rattle.step_machine.proofs.TwoLockLines.{two_lock_steps}
use Rattle.step_machine.proofs.NonBlockingAtLines.{non_blocking}
use Rattle.step_machine.proofs.NonBlockingSteps.{non_blocking_steps}

-- the queue of a kind, with the steps of its own lines
abbrev pub queue_of_kind : Kind → Queue
queue_of_kind TwoLock = two_lock
queue_of_kind NonBlocking = non_blocking

pub steps_of_kind : (kind : Kind) → Steps (queue_of_kind kind)
steps_of_kind TwoLock = two_lock_steps
steps_of_kind NonBlocking = non_blocking_steps

pub is_of_kind : (kind : Kind) → kind ≡ (queue_of_kind kind).kind
is_of_kind TwoLock = refl
is_of_kind NonBlocking = refl

-- each world that is reached has its chains, with what is carried along
pub reached_either : (L : World → List ℕ → Type 0) (Z : World → ℕ → Type 0) → Carries L Z → (w : World) → IsReached w → ReachedInvariant (queue_of_kind w.setup.kind) L Z w
reached_either L Z carries w r = reached_with (queue_of_kind w.setup.kind) (steps_of_kind w.setup.kind) L Z carries w r (is_of_kind w.setup.kind)

-- each world that is reached has its chains
abbrev pub HasChains : World → Type 0
HasChains w = ReachedInvariant (queue_of_kind w.setup.kind) (λ w q. Unit {0}) (λ w k. Unit {0}) w

pub reached_chains : (w : World) → IsReached w → HasChains w
reached_chains = reached_either (λ w q. Unit {0}) (λ w k. Unit {0}) nothing

-- Head holds a node
pub head_some : (w : World) → IsReached w → 1 ≤ w.shared.head.node
head_some w r = (reached_chains w r).sound.ends.head

-- the chain from Head is the only one, and so is the one from Free
pub same_queue : (w : World) → IsReached w → (ns ms : List ℕ) → IsQueueChain w.setup.bits w.shared.nodes w.shared.head.node ns
    → IsQueueChain w.setup.bits w.shared.nodes w.shared.head.node ms → ns ≡ ms
same_queue w r ns ms = chain_same (IsEnd w.setup.bits) w.shared.nodes ns ms w.shared.head.node (ends_apart w.setup.bits w.shared.nodes (few_nodes w r))

pub same_free : (w : World) → (ns ms : List ℕ) → IsChain w.shared.nodes w.shared.free.node ns → IsChain w.shared.nodes w.shared.free.node ms → ns ≡ ms
same_free w ns ms = chain_same IsNull w.shared.nodes ns ms w.shared.free.node (null_apart w.shared.nodes)

-- an actor stands before a line of its queue, with nodes in the registers that the line uses so
pub stands_at : (w : World) → IsReached w → (me : ℕ) (a : Actor) (l : Line) → actor_of w me ≡ Some a → a.line ≡ Some l → IsRunBy (section_of l) w.setup.kind × NonNullAt w.setup.bits l a
stands_at w r me a l is at = subst (IsAtLine w.setup.bits w.setup.kind a) at ((reached_chains w r).sound.actors me a is).stands.line

pub each_runs_its_queue : (w : World) → IsReached w → EachRunsItsQueue w
each_runs_its_queue w r me a l is at = (stands_at w r me a l is at).0

-- what its registers have
pub fixed_at : (w : World) → IsReached w → (me : ℕ) (a : Actor) (l : Line) → actor_of w me ≡ Some a → a.line ≡ Some l → FixedAt w.setup.limit me a (Some l)
fixed_at w r me a l is at = subst (FixedAt w.setup.limit me a) at ((reached_chains w r).sound.actors me a is).fixed

-- each node stands in one place
pub have_their_places : OfEachWorld HasItsPlaces
have_their_places w r =
    let p : HasChains w = reached_chains w r in (
      p.front ∷ p.rest,
      p.free,
      record {
        queue_chain = p.sound.shape.queue_chain;
        free_chain = p.sound.shape.free_chain;
        touched = λ n some low. omega (arith, p.sound.shape.once n some, used_within n w.shared.fresh low);
        untouched = λ n above. omega (arith, p.sound.shape.once n (omega arith), used_above n w.shared.fresh above);
      },
    )

-- what a list contains stands in it
pub contained : (n : ℕ) (ns : List ℕ) (k : ℕ) → k < length ns → get_or ns k n ≡ n → 1 ≤ times n ns
contained n [] k low e = absurd (omega arith)
contained n (x ∷ xs) zero low e = omega (arith, one_if_same n x (sym e))
contained n (x ∷ xs) (suc k) low e = omega (arith, contained n xs k (omega arith) e)

pub queue_and_free_apart : OfEachWorld KeepsQueueAndFreeApart
queue_and_free_apart w r n queued free =
    let p : HasChains w = reached_chains w r in
    let q : 1 ≤ times n (p.front ∷ p.rest) = subst (λ ns. 1 ≤ times n ns) (same_queue w r queued.0 (p.front ∷ p.rest) queued.1
    p.sound.shape.queue_chain) (contained n queued.0 queued.2.0 queued.2.1 queued.2.2) in
    let f : 1 ≤ times n p.free = subst (λ ns. 1 ≤ times n ns) (same_free w free.0 p.free free.1 p.sound.shape.free_chain) (contained n free.0 free.2.0 free.2.1 free.2.2) in
    go n (p.front ∷ p.rest) p.free q f p.sound.shape
  where
    go : (n : ℕ) (queue free : List ℕ) → 1 ≤ times n queue → 1 ≤ times n free → Shape w.setup.bits w.shared (elsewhere w) queue free → ⊥
    go zero qs fs q f sh = let none : times 0 qs ≡ 0 = null_times (IsEnd w.setup.bits) w.shared.nodes qs w.shared.head.node sh.queue_chain in omega arith
    go (suc n) qs fs q f sh = omega (arith, sh.once (suc n) (omega arith), used_most (suc n) w.shared.fresh)

-- the mark of a node in a pocket is the count of the node's `next`
pub marks_are_counts : OfEachWorld MarksAreCounts
marks_are_counts w r me a is = IfSome_then a.pocket ((reached_chains w r).sound.actors me a is).marked.pocket (λ h mark. sym mark.1)
