-- The laws of the two-lock queue on Tail, counts and refusals.
use Rattle.std.proofs.Common.{◌≡◌, ◌≢◌, ℕ, ◌+◌, ◌-◌, ◌≤◌, ◌<◌, nat_eq, if◌then◌else◌, ◌∷◌, length, get_or, Option, Some, None, refl, sym, ap, ◌∙◌, subst, arith, ◌⊎◌, inl, inr}
use Rattle.std.specs.Prelude.{slice_get}
use Rattle.std.proofs.lemmas.Bool.{ne_eqb}
use Rattle.std.proofs.lemmas.Option.{slice_get-get_or}
use Rattle.step_machine.specs.Below.{reserved_node, null, is_null, is_shut, same_ref, TwoLock, Line, E9, A1, A2, A3, A4, A5, A6, A7, B1, B2, B3, B4}
use Rattle.step_machine.specs.Below.{B5, B6, S4, S6, S7, S8, S9, section_of, WornWord, OfFree, OfNext, OfTail, OfHead, NoNode, WornOut, Closed, Reply}
use Rattle.step_machine.specs.Below.{Done, Value, Empty, Refused, Actor, node_at, found, action, outcome, unlocked, left, left_with_node}
use Rattle.step_machine.specs.Machine.{World, idle, actor_of, IsReached}
use Rattle.step_machine.specs.Range.{ActorInRange, WorldInRange}
use Rattle.step_machine.specs.ProgramCounters.{IsRunBy}
use Rattle.step_machine.specs.Chains.{last_node}
use Rattle.step_machine.specs.EachQueue.{RaisesBelowTheLimit, IsShut, HasCauseFor, RefusesWithCause}
use Rattle.step_machine.specs.TwoLock.{OfTwoLockWorlds, HasTailMoved, TailNamesTheLast}
use Rattle.step_machine.specs.Locks.{IsOfFreeOrHead, FindsFreeOrHeadWornOut, RefusedForFreeOrHead}
use Rattle.step_machine.proofs.Choices.{either}
use Rattle.step_machine.proofs.Chains.{shut_alone, closed_shut}
use Rattle.step_machine.proofs.Reached.{reached_in_range, few_nodes, actor_in_range}
use Rattle.step_machine.proofs.StampsLists.{same_or_not}
use Rattle.step_machine.proofs.Fixed.{FixedAt, DecidedUnlocking, DecidedLeaving}
use Rattle.step_machine.proofs.Assertions.{Owns, has_tail, IsOwnOf}
use Rattle.step_machine.proofs.Invariant.{LocalInvariant}
use Rattle.step_machine.proofs.EitherQueue.{same_queue, fixed_at}
use Rattle.step_machine.proofs.Causes.{CauseOf, CauseOfReply, Caused, caused, raises_below, each_reply}
use Rattle.step_machine.proofs.TwoLockAtLines.{InvariantAt, Leaves, Unlocks, two_lock}
use Rattle.step_machine.proofs.TwoLockInvariant.{ReachedInvariant, nodes_at, reached_invariant}

-- nothing more is carried along
abbrev Invariant : World → Type 0
Invariant w = ReachedInvariant (λ w q. Unit {0}) (λ w k. Unit {0}) w

-- an actor that has the tail lock and hasn't linked finds that Tail names the last node
holder_knows : (w : World) (last t : ℕ) (c : Actor) (l : Option Line) → c.line ≡ l → l ≢ Some A6 → w.shared.tail_lock ≡ t
    → Owns w.shared.tail_lock t (has_tail l) → InvariantAt (λ k. Unit {0}) w.setup w.shared last c l → w.shared.tail.node ≡ last
holder_knows w last t c (Some A4) at moved lock owns knows = sym knows.1
holder_knows w last t c (Some A5) at moved lock owns knows = sym knows.1
holder_knows w last t c (Some A6) at moved lock owns knows = absurd (moved refl)
holder_knows w last t c (Some A7) at moved lock owns knows = sym knows.0
holder_knows w last t c (Some S7) at moved lock owns knows = sym knows
holder_knows w last t c (Some S8) at moved lock owns knows = sym knows.0
holder_knows w last t c (Some S9) at moved lock owns knows = sym knows.0
holder_knows w last t c _ at moved lock owns knows = absurd (owns lock)

-- the holder of the tail lock is an actor
holder : (w : World) (t : ℕ) → 1 ≤ t → t ≤ length w.actors → (c : Actor) × (actor_of w t ≡ Some c)
holder w t some low =
    let at : slice_get w.actors (t - 1) ≡ Some (get_or w.actors (t - 1) idle) = slice_get-get_or w.actors (t - 1) idle (omega arith) in
    let ne : t ≢ 0 = omega arith in
    (get_or w.actors (t - 1) idle, ap (λ b. if b then None else slice_get w.actors (t - 1)) (ne_eqb t 0 ne) ∙ at)

tail_last : (w : World) (p : Invariant w) → HasTailMoved w → w.shared.tail_lock ≤ length w.actors → w.shared.tail.node ≡ last_node (p.front ∷ p.rest)
tail_last w p moved low = go (same_or_not w.shared.tail_lock 0)
  where
    go : (w.shared.tail_lock ≡ 0) ⊎ (w.shared.tail_lock ≢ 0) → w.shared.tail.node ≡ last_node (p.front ∷ p.rest)
    go (inl none) = sym (p.sound.words.tail_last none)
    go (inr taken) =
        let h : (c : Actor) × (actor_of w w.shared.tail_lock ≡ Some c) = holder w w.shared.tail_lock (omega arith) low in
        let k : LocalInvariant two_lock (λ k. Unit {0}) w.setup w.shared (last_node (p.front ∷ p.rest)) w.shared.tail_lock h.0 = p.sound.actors w.shared.tail_lock h.0 h.1 in
        holder_knows w (last_node (p.front ∷ p.rest)) w.shared.tail_lock h.0 h.0.line refl (moved w.shared.tail_lock h.0 h.1) refl k.owns.0 k.knows

pub tail_names_the_last : OfTwoLockWorlds TailNamesTheLast
tail_names_the_last w r e moved queue chain =
    let p : Invariant w = reached_invariant w r e in
    let g : WorldInRange w = reached_in_range w r in
    tail_last w p moved g.shared.tail_lock
    ∙ ap last_node (same_queue w r (p.front ∷ p.rest) queue p.sound.shape.queue_chain chain)

pub raise_below_the_limit : OfTwoLockWorlds RaisesBelowTheLimit
raise_below_the_limit w r e me a l is at =
    let c : ActorInRange w.setup w.shared.fresh (length w.actors) a = actor_in_range w me a (reached_in_range w r) is in
    raises_below w.setup w.shared.fresh (length w.actors) a l c.registers (fixed_at w r me a l is at).room
    (not_here (nodes_at w r e me a l is at).0)
  where
    not_here : IsRunBy (section_of l) TwoLock → (l ≡ E9) ⊎ (l ≡ S4) → a.next.count < w.setup.limit
    not_here runs (inl e) = absurd (subst (λ j. IsRunBy (section_of j) TwoLock) e runs)
    not_here runs (inr e) = absurd (subst (λ j. IsRunBy (section_of j) TwoLock) e runs)

-- why a step finds a word of the queue's own worn out
abbrev Own : World → WornWord → Type 0
Own w OfHead = w.shared.head.count ≡ w.setup.limit
Own w _ = ⊥

-- where the closed end follows the dummy, or the last node, the queue is shut
shut_first : (w : World) → IsReached w → Invariant w → (node_at w.shared w.shared.head.node).next.node ≡ reserved_node w.setup.bits → IsShut w
shut_first w r p end = (
  p.front ∷ p.rest,
  p.sound.shape.queue_chain,
  shut_alone w.setup.bits w.shared w.shared.head.node p.front p.rest (few_nodes w r) p.sound.shape.queue_chain (ap (λ n. (node_at w.shared n).next.node) (sym p.sound.shape.queue_chain.0) ∙ end),
)

shut_last : (w : World) (p : Invariant w) → (node_at w.shared (last_node (p.front ∷ p.rest))).next.node ≡ reserved_node w.setup.bits → IsShut w
shut_last w p end = (p.front ∷ p.rest, p.sound.shape.queue_chain, ap (λ n. nat_eq n (reserved_node w.setup.bits)) end ∙ closed_shut w.setup.bits)

module _ (w : World) (r : IsReached w) (p : Invariant w) where
  unlocked_caused : (now : ℕ) (empty_at : ℕ) (due : Option Reply) (a : Actor) → DecidedUnlocking due
      → Unlocks w.setup.bits (λ k. Unit {0}) w.setup.limit w.shared empty_at due → Caused (Own w) w (unlocked now due a)
  unlocked_caused now empty_at None a h k = absurd h
  unlocked_caused now empty_at (Some Done) a h k = absurd h
  unlocked_caused now empty_at (Some (Value v)) a h k = record { cause = tt }
  unlocked_caused now empty_at (Some Empty) a h k = record { cause = tt }
  unlocked_caused now empty_at (Some (Refused refusal)) a (inl h) k =
      record { cause = subst (CauseOf (Own w) w) (sym h) (subst (λ x. Unlocks w.setup.bits (λ k. Unit {0}) w.setup.limit w.shared empty_at (Some (Refused x))) h k) }
  unlocked_caused now empty_at (Some (Refused refusal)) a (inr h) k =
      record { cause = subst (CauseOf (Own w) w) (sym h) (shut_first w r p (subst (λ x. Unlocks w.setup.bits (λ k. Unit {0}) w.setup.limit w.shared empty_at (Some (Refused x))) h k).1) }

  left_caused : (now : ℕ) (due : Option Reply) (a : Actor) → DecidedLeaving due → Leaves w.setup.bits w.shared (last_node (p.front ∷ p.rest)) due → Caused (Own w) w (left now due a)
  left_caused now (Some Done) a h k = record { cause = tt }
  left_caused now (Some (Refused refusal)) a h k = record { cause = subst (CauseOf (Own w) w) (sym h) (shut_last w p k) }
  left_caused now _ a h k = absurd h

  left_with_node_caused : (now : ℕ) (due : Option Reply) (a : Actor) → DecidedLeaving due → Leaves w.setup.bits w.shared (last_node (p.front ∷ p.rest)) due
      → Caused (Own w) w (left_with_node now due a)
  left_with_node_caused now (Some Done) a h k = record { cause = tt }
  left_with_node_caused now (Some (Refused refusal)) a h k = record { cause = subst (CauseOf (Own w) w) (sym h) (shut_last w p k) }
  left_with_node_caused now _ a h k = absurd h

  own_caused : (now me : ℕ) (a : Actor) (l : Line) → FixedAt w.setup.limit me a (Some l)
      → InvariantAt (λ k. Unit {0}) w.setup w.shared (last_node (p.front ∷ p.rest)) a (Some l) → IsOwnOf (section_of l) TwoLock
      → Caused (Own w) w (outcome w.setup now me a l (found (action w.setup me a l) w.shared))
  own_caused now me a A1 f k i = record { cause = tt }
  own_caused now me a A2 f k i = record { cause = tt }
  own_caused now me a A3 f k i = either (Caused (Own w) w) (nat_eq w.shared.tail_lock 0) (λ e. record { cause = tt }) (λ e. record { cause = tt })
  own_caused now me a A4 f k i = record { cause = tt }
  own_caused now me a A5 f k i = either (Caused (Own w) w) (same_ref (node_at w.shared a.tail.node).next null) (λ e. record { cause = tt }) (λ e. record { cause = tt })
  own_caused now me a A6 f k i = record { cause = tt }
  own_caused now me a A7 f k i = left_with_node_caused now a.due a f.earned k.1
  own_caused now me a B1 f k i = either (Caused (Own w) w) (nat_eq w.shared.head_lock 0) (λ e. record { cause = tt }) (λ e. record { cause = tt })
  own_caused now me a B2 f k i = record { cause = tt }
  own_caused now me a B3 f k i =
      either (Caused (Own w) w) (is_null (node_at w.shared a.head.node).next) (λ e. record { cause = tt })
      (λ e. either (Caused (Own w) w) (is_shut w.setup.bits (node_at w.shared a.head.node).next) (λ c. record { cause = tt }) (λ c. record { cause = tt }))
  own_caused now me a B4 f k i = either (Caused (Own w) w) (nat_eq a.head.count w.setup.limit) (λ e. record { cause = tt }) (λ e. record { cause = tt })
  own_caused now me a B5 f k i = record { cause = tt }
  own_caused now me a B6 f k i = unlocked_caused now a.empty_at a.due a f.earned k
  own_caused now me a S6 f k i = either (Caused (Own w) w) (nat_eq w.shared.tail_lock 0) (λ e. record { cause = tt }) (λ e. record { cause = tt })
  own_caused now me a S7 f k i = record { cause = tt }
  own_caused now me a S8 f k i = either (Caused (Own w) w) (same_ref (node_at w.shared a.tail.node).next null) (λ e. record { cause = tt }) (λ e. record { cause = tt })
  own_caused now me a S9 f k i = left_caused now a.due a f.earned k.1
  own_caused now me a l f k i = absurd i

why_of : (w : World) → IsReached w → w.setup.kind ≡ TwoLock → (me : ℕ) (a : Actor) (l : Line) → actor_of w me ≡ Some a → a.line ≡ Some l
    → CauseOfReply (Own w) w (outcome w.setup (w.steps + 1) me a l (found (action w.setup me a l) w.shared)).reply
why_of w r e me a l is at =
    let g : WorldInRange w = reached_in_range w r in
    let p : Invariant w = reached_invariant w r e in
    let c : ActorInRange w.setup w.shared.fresh (length w.actors) a = actor_in_range w me a g is in
    let f : FixedAt w.setup.limit me a (Some l) = fixed_at w r me a l is at in
    (caused (Own w) w TwoLock (w.steps + 1) me a l g c.registers (nodes_at w r e me a l is at).0 f
    (own_caused w r p (w.steps + 1) me a l f (subst (InvariantAt (λ k. Unit {0}) w.setup w.shared (last_node (p.front ∷ p.rest)) a) at (p.sound.actors me a is).knows))).cause

has_cause : (w : World) (reply : Option Reply) → CauseOfReply (Own w) w reply → HasCauseFor w reply
has_cause w (Some (Refused NoNode)) h = h
has_cause w (Some (Refused (WornOut OfFree))) h = h
has_cause w (Some (Refused (WornOut OfHead))) h = h
has_cause w (Some (Refused Closed)) h = h
has_cause w (Some (Refused _)) h = absurd h
has_cause w _ h = tt

pub refuse_with_cause : OfTwoLockWorlds RefusesWithCause
refuse_with_cause w r e me a l is at = has_cause w _ (why_of w r e me a l is at)

-- a call is worn out by Free or Head alone
free_or_head : (w : World) (reply : Option Reply) → CauseOfReply (Own w) w reply → IsOfFreeOrHead reply
free_or_head w (Some (Refused (WornOut OfNext))) h = h
free_or_head w (Some (Refused (WornOut OfTail))) h = h
free_or_head w _ h = tt

pub find_free_or_head : OfTwoLockWorlds FindsFreeOrHeadWornOut
find_free_or_head w r e me a l is at = free_or_head w _ (why_of w r e me a l is at)

pub refused_for_free_or_head : OfTwoLockWorlds RefusedForFreeOrHead
refused_for_free_or_head = each_reply TwoLock IsOfFreeOrHead tt (λ v. tt) find_free_or_head
