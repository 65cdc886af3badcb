-- What a step tells of the world that it was made in.
use Rattle.std.proofs.Common.{◌≡◌, ◌≢◌, ℕ, zero, suc, ◌+◌, ◌-◌, ◌<◌, ◌≤◌, true, if◌then◌else◌, nat_eq, Some, IsSomeAnd, List, [], ◌∷◌, slice_index_or}
use Rattle.std.proofs.Common.{length, Contains, inl, inr, refl, sym, ap, subst, ◌∙◌, arith}
use Rattle.std.specs.List.{All}
use Rattle.std.proofs.lemmas.Bool.Decides.{leb_tells}
use Rattle.std.proofs.lemmas.List.Elements.{All-head, All-tail}
use Rattle.line_table.specs.declared.lines.Kind.{Kind}
use Rattle.line_table.specs.declared.lines.Kind.TheVariants.{TwoLock, NonBlocking}
use Rattle.counted_ref.specs.Ref.{Ref}
use Rattle.line_table.specs.declared.lines.Line.{Line}
use Rattle.history.specs.declared.refusals.Refusal.{Refusal}
use Rattle.history.specs.declared.refusals.Refusal.TheVariants.{WornOut}
use Rattle.history.specs.declared.refusals.WornWord.TheVariants.{Free as OfFree, Next as OfNext, Tail as OfTail, Head as OfHead}
use Rattle.history.specs.declared.operations.Reply.TheVariants.{Refused}
use Rattle.line_steps.specs.declared.actors.Setup.{Setup}
use Rattle.line_steps.specs.Actors.{Actor}
use Rattle.line_steps.specs.Actors.{Node}
use Rattle.line_steps.specs.Memory.{blank, node_at, found}
use Rattle.line_steps.specs.Lines.{action, outcome, raised}
use Rattle.step_machine.specs.Machine.{World, actor_of, IsReached}
use Rattle.step_machine.specs.Tables.{SharedFits}
use Rattle.step_machine.specs.Range.{WorldInRange, ActorInRange}
use Rattle.step_machine.specs.Places.{IsNull, IsFree, times, held, in_hand, one_if}
use Rattle.step_machine.specs.EachQueue.{HasItsPlaces, HasCause, HasCauseFor}
use Rattle.step_machine.proofs.Reached.{below_closed, reached_in_range, actor_in_range}
use Rattle.step_machine.proofs.LinearizationSteps.{raised_node}
use Rattle.step_machine.proofs.Fits.{shared_fits}
use Rattle.step_machine.proofs.Chains.{one_if_same, chain_some}
use Rattle.step_machine.proofs.Counting.{holds as holds_of, held_one}
use Rattle.step_machine.proofs.StampsInvariants.{actor_stands}
use Rattle.step_machine.proofs.TwoLockLaws as two_lock
use Rattle.step_machine.proofs.EitherQueue.{contained, same_queue, same_free, have_their_places}
use Rattle.step_machine.proofs.TwoLockCounts.{count_nothing}
use Rattle.step_machine.proofs.NonBlockingLaws as non_blocking
use Rattle.node_arena.specs.Traces.{outcome_at}
use Rattle.node_arena.specs.Prologues.{Prologue, after_prologue}
use Rattle.node_arena.specs.Knowledge.{SeatView}
use Rattle.node_arena.specs.Plans.{Layout}
use Rattle.node_arena.specs.Rule.{Steps}
use Rattle.node_arena.specs.Paths.{HasOwnCause, IsSole}
use Rattle.node_arena.proofs.Tracing.{traced_reached}

module _ (z : Layout) (prologue : Prologue) (l : Line) (n : ℕ) (v v' : SeatView) (h : Steps z prologue l n v v') where
  -- its numbers are in range
  pub was_in_range : WorldInRange h.was.world
  was_in_range = reached_in_range h.was.world (traced_reached h.was h.reached)

  -- its contents fit their words
  pub was_fits : SharedFits z.setup.bits h.was.world.shared
  was_fits = subst (λ (y : Setup). SharedFits y.bits h.was.world.shared) h.setup (shared_fits h.was.world was_in_range)

  -- the actor's registers are in range
  pub actor_was_in_range : ActorInRange h.was.world.setup h.was.world.shared.fresh (length h.was.world.actors) (after_prologue z.setup v.number prologue v.actor)
  actor_was_in_range = actor_in_range h.was.world v.number (after_prologue z.setup v.number prologue v.actor) was_in_range h.before

-- a step that is refused has its cause in that world, in either queue
pub has_cause : (z : Layout) (prologue : Prologue) (l : Line) (n : ℕ) (v v' : SeatView) (h : Steps z prologue l n v v') (refusal : Refusal)
    → (outcome_at z.setup h.was v.number (after_prologue z.setup v.number prologue v.actor) l).reply ≡ Some (Refused refusal)
    → HasCause h.was.world refusal
has_cause z prologue l n v v' h refusal e = go h.was.world.setup.kind refl (ap
    (λ s. (outcome s (h.was.world.steps + 1) v.number (after_prologue z.setup v.number prologue v.actor) l
    (found (action s v.number (after_prologue z.setup v.number prologue v.actor) l) h.was.world.shared)).reply) h.setup ∙ e)
  where
    go : (k : Kind) → h.was.world.setup.kind ≡ k → (outcome h.was.world.setup (h.was.world.steps + 1) v.number
        (after_prologue z.setup v.number prologue v.actor) l (found (action h.was.world.setup v.number
        (after_prologue z.setup v.number prologue v.actor) l) h.was.world.shared)).reply ≡ Some (Refused refusal) → HasCause h.was.world refusal
    go TwoLock k reply = subst (HasCauseFor h.was.world) reply (two_lock.refuse_with_cause h.was.world (traced_reached h.was h.reached) k v.number
        (after_prologue z.setup v.number prologue v.actor) l h.before h.line)
    go NonBlocking k reply = subst (HasCauseFor h.was.world) reply (non_blocking.refuse_with_cause h.was.world (traced_reached h.was h.reached) k
        v.number (after_prologue z.setup v.number prologue v.actor) l h.before h.line)

-- no `next` of the queue with locks has a count
none_counted : (nodes : List Node) (i : ℕ) → All (λ n. n.next.count ≡ 0) nodes → (slice_index_or nodes i blank).next.count ≡ 0
none_counted [] i h = refl
none_counted (n ∷ ns) zero h = All-head (λ (x : Node). x.next.count ≡ 0) n ns h
none_counted (n ∷ ns) (suc i) h = none_counted ns i (All-tail (λ (x : Node). x.next.count ≡ 0) n ns h)

-- and where a `next` is worn out, it is that of the actor's own node
pub has_own_cause : (z : Layout) (prologue : Prologue) (l : Line) (n : ℕ) (v v' : SeatView) (h : Steps z prologue l n v v') (refusal : Refusal)
    → (outcome_at z.setup h.was v.number (after_prologue z.setup v.number prologue v.actor) l).reply ≡ Some (Refused refusal)
    → HasOwnCause h.was.world v.number refusal
has_own_cause z prologue l n v v' h refusal e = by_cause refusal e (has_cause z prologue l n v v' h refusal e)
  where
    a : Actor
    a = after_prologue z.setup v.number prologue v.actor

    w : World
    w = h.was.world

    worn : (k : Kind) → w.setup.kind ≡ k → (outcome w.setup (w.steps + 1) v.number a l (found (action w.setup v.number a l) w.shared)).reply ≡ Some
        (Refused (WornOut OfNext)) → HasCause w (WornOut OfNext) → (node_at w.shared a.node).next.count ≡ w.setup.limit
    worn TwoLock k f c = absurd (let x = none_counted w.shared.nodes (c.0 - 1) (count_nothing w (traced_reached h.was h.reached) k).1 in let y =
        (reached_in_range w (traced_reached h.was h.reached)).sized.counts in let q = c.1 in omega arith)
    worn NonBlocking k f c = non_blocking.own_next_is_worn w (traced_reached h.was h.reached) k v.number a l h.before h.line f

    by_cause : (refusal : Refusal) → (outcome_at z.setup h.was v.number a l).reply ≡ Some (Refused refusal) → HasCause w refusal → HasOwnCause w v.number refusal
    by_cause (WornOut OfNext) f c = subst (λ o. IsSomeAnd o (λ b. (node_at w.shared b.node).next.count ≡ w.setup.limit)) (sym h.before)
        (worn w.setup.kind refl (ap (λ s. (outcome s (w.steps + 1) v.number a l (found (action s v.number a l) w.shared)).reply) h.setup ∙ f) c)
    by_cause (WornOut OfFree) f c = c
    by_cause (WornOut OfTail) f c = c
    by_cause (WornOut OfHead) f c = c
    by_cause _ f c = c

-- a node in an actor's hand is nobody else's, and in no chain
pub sole : (w : World) (me : ℕ) (a : Actor) → IsReached w → actor_of w me ≡ Some a → a.holds ≡ true → 1 ≤ a.node → IsSole w me a.node
sole w me a r there holds some =
    let p : HasItsPlaces w = have_their_places w r in
    let h : in_hand a.node a ≡ 1 = ap (λ b. if b then one_if (nat_eq a.node a.node) else 0) holds ∙ one_if_same a.node a.node refl in
    let least : holds_of a.node a ≤ held a.node w.actors = held_one a.node w.actors (me - 1) a (actor_stands w me a there).1 in
    let used : a.node ≤ w.shared.fresh = used_node a.node (held a.node w.actors) w.shared.fresh (omega arith) (λ lt. let e = p.2.untouched a.node lt in omega arith) in
    let e = p.2.touched a.node some used in
    record {
      holder = subst (λ o. IsSomeAnd o (λ b. in_hand a.node b ≡ 1)) (sym there) h;
      once = omega arith;
      not_queued = λ q. let t = subst (λ ns. 1 ≤ times a.node ns) (same_queue w r q.0 p.0 q.1 p.2.queue_chain) (contained a.node q.0 q.2.0 q.2.1 q.2.2) in omega arith;
      not_free = λ q. let t = subst (λ ns. 1 ≤ times a.node ns) (same_free w q.0 p.1 q.1 p.2.free_chain) (contained a.node q.0 q.2.0 q.2.1 q.2.2) in omega arith;
    }
  where
    used_node : (n h fresh : ℕ) → 1 ≤ h → (fresh < n → h ≡ 0) → n ≤ fresh
    used_node n h fresh some none = elim (leb_tells n fresh) [
      | inl t ↦ t.1
      | inr f ↦ (let no = f.1 in let z = none (omega arith) in absurd (omega arith))
    ]

-- the node that Free names is free
pub first_is_free : (w : World) → IsReached w → 1 ≤ w.shared.free.node → IsFree w w.shared.free.node
first_is_free w r some =
    let p : HasItsPlaces w = have_their_places w r in
    let c = chain_some IsNull w.shared.nodes w.shared.free.node p.1 (λ null. omega (arith, some, null)) p.2.free_chain in
    (p.1, p.2.free_chain, subst (λ ns. Contains ns w.shared.free.node) (sym c.1) (0, omega arith, refl))

-- a raised reference names the other node, one that was used, below the limit
pub raised_names : (w : World) (x : Ref) (to : ℕ) → WorldInRange w → to ≤ w.shared.fresh → x.count ≢ w.setup.limit → (raised w.setup x to).node ≡ to
raised_names w x to h low = raised_node w.setup x to (below_closed w to h low)

-- no step of the non-blocking queue is refused since Head is worn out
pub head_is_not_worn : (z : Layout) (prologue : Prologue) (l : Line) (n : ℕ) (v v' : SeatView) → z.setup.kind ≡ NonBlocking
    → (h : Steps z prologue l n v v') → (outcome_at z.setup h.was v.number (after_prologue z.setup v.number prologue v.actor) l).reply ≢ Some
    (Refused (WornOut OfHead))
head_is_not_worn z prologue l n v v' kind h worn =
    non_blocking.head_is_never_worn h.was.world (traced_reached h.was h.reached) (ap (λ s. s.kind) h.setup ∙ kind) v.number (after_prologue z.setup v.number prologue v.actor) l h.before h.line
    (ap (λ s. (outcome s (h.was.world.steps + 1) v.number (after_prologue z.setup v.number prologue v.actor) l
    (found (action s v.number (after_prologue z.setup v.number prologue v.actor) l) h.was.world.shared)).reply) h.setup ∙ worn)
