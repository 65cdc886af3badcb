-- In the two-lock queue an actor that finds its lock free, or has it, ends its call alone; the holder of a lock does, and
-- where no lock is held each actor that has a call.
use Rattle.std.proofs.Common.{◌≡◌, ◌≢◌, ℕ, zero, suc, ◌+◌, ◌≤◌, nat_eq, nat_lt, length, Option, Some, None, refl, sym, ap, ◌∙◌, subst, arith, ◌⊎◌, inl, inr}
use Rattle.std.proofs.lemmas.Bool.{eq-eqb, true≢false}
use Rattle.std.specs.Prelude.{IsSome, IsTrue}
use Rattle.step_machine.specs.Below.{null, is_null, is_shut, same_ref, Kind, TwoLock, Line, N1, N2, N3, N4, N5, F1, F2, F3, A1, A2, A3, A4, A5, A6}
use Rattle.step_machine.specs.Below.{A7, B1, B2, B3, B4, B5, B6, S6, S7, S8, S9, section_of, Reply, Done, Value, Empty, Refused, Actor, Outcome}
use Rattle.step_machine.specs.Below.{Shared, performed, found, put, Free, action, outcome, raised, empties_hand, sets_aside, freed, unlocked, left}
use Rattle.step_machine.specs.Below.{left_with_node, with_node, dequeues}
use Rattle.step_machine.specs.declared.actors.Move.TheVariants.{Step}
use Rattle.step_machine.specs.Machine.{World, actor_of, entry_or, stepped, steps, moved, made, next, IsReached}
use Rattle.step_machine.specs.Solo.{EndsWithin}
use Rattle.step_machine.specs.ProgramCounters.{IsRunBy}
use Rattle.step_machine.specs.TwoLock.{OfTwoLockWorlds}
use Rattle.step_machine.specs.Locks.{has_tail_lock, has_head_lock}
use Rattle.step_machine.proofs.Choices.{both, tried}
use Rattle.step_machine.proofs.Reached.{reached_next}
use Rattle.step_machine.proofs.StampsLists.{same_or_not}
use Rattle.step_machine.proofs.CompletionSteps.{actor_same}
use Rattle.step_machine.proofs.Assertions.{OwnsAt}
use Rattle.step_machine.proofs.EitherQueue.{each_runs_its_queue}
use Rattle.step_machine.proofs.TwoLockInvariant.{reached_invariant}
use Rattle.step_machine.proofs.Locks.{locks_name_their_holders, locks_are_of_actors}
use Rattle.step_machine.specs.Prices.{if_so}
use Rattle.progress.specs.Locked.{unheld}
use Rattle.progress.specs.Ends.{EndsItsCall, SomeEndsItsCall}
use Rattle.step_machine.proofs.Others.{unless_most, due_most}
use Rattle.step_machine.proofs.Alone.{over, one_more}
use Rattle.progress.proofs.LockedMover.{locked_at, step_lowers_unheld}
use Rattle.progress.proofs.LockedSteps.{entry_unheld}

-- a lock is free, or it is this actor's
abbrev Open : (lock me : ℕ) → Type 0
Open lock me = (lock ≡ 0) ⊎ (lock ≡ me)

-- the lock that a call may take yet is open: of a dequeue the head lock, of any other call the tail lock
abbrev ClearAt : Shared → (me : ℕ) → Option Line → Type 0
ClearAt m me None = Unit {0}
ClearAt m me (Some F1) = Open m.head_lock me
ClearAt m me (Some F2) = Open m.head_lock me
ClearAt m me (Some F3) = Open m.head_lock me
ClearAt m me (Some B1) = Open m.head_lock me
ClearAt m me (Some B2) = Open m.head_lock me
ClearAt m me (Some B3) = Open m.head_lock me
ClearAt m me (Some B4) = Open m.head_lock me
ClearAt m me (Some B5) = Open m.head_lock me
ClearAt m me (Some B6) = Open m.head_lock me
ClearAt m me (Some _) = Open m.tail_lock me

-- so its step finds no lock held
counts_one : (m : Shared) (me : ℕ) (l : Line) → ClearAt m me (Some l) → OwnsAt m me (Some l) → unheld m l ≡ 1
counts_one m me A3 (inl free) owns = ap (λ b. if_so b 1) (eq-eqb m.tail_lock 0 free)
counts_one m me A3 (inr mine) owns = absurd (owns.0 mine)
counts_one m me S6 (inl free) owns = ap (λ b. if_so b 1) (eq-eqb m.tail_lock 0 free)
counts_one m me S6 (inr mine) owns = absurd (owns.0 mine)
counts_one m me B1 (inl free) owns = ap (λ b. if_so b 1) (eq-eqb m.head_lock 0 free)
counts_one m me B1 (inr mine) owns = absurd (owns.1 mine)
counts_one m me _ c owns = refl

module _ (m : Shared) (me : ℕ) where
  freed_clear : (kind : Kind) (now : ℕ) (due : Option Reply) (b : Actor) → kind ≡ TwoLock → Open m.head_lock me → ClearAt m me (freed kind now due b).actor.line
  freed_clear kind now None b e h = subst (λ k. ClearAt m me (Some (dequeues k))) (sym e) h
  freed_clear kind now (Some reply) b e h = tt

  aside_clear : (kind : Kind) (now : ℕ) (due : Option Reply) (b : Actor) → kind ≡ TwoLock → Open m.head_lock me → ClearAt m me (sets_aside (freed kind now due b)).actor.line
  aside_clear kind now None b e h = subst (λ k. ClearAt m me (Some (dequeues k))) (sym e) h
  aside_clear kind now (Some reply) b e h = tt

  unlocked_clear : (now : ℕ) (due : Option Reply) (b : Actor) → m.head_lock ≡ 0 → ClearAt m me (unlocked now due b).actor.line
  unlocked_clear now None b h = inl h
  unlocked_clear now (Some Done) b h = tt
  unlocked_clear now (Some (Value v)) b h = inl h
  unlocked_clear now (Some Empty) b h = tt
  unlocked_clear now (Some (Refused refusal)) b h = tt

  left_clear : (now : ℕ) (due : Option Reply) (b : Actor) → ClearAt m me (left now due b).actor.line
  left_clear now (Some (Refused refusal)) b = tt
  left_clear now _ b = tt

  left_with_clear : (now : ℕ) (due : Option Reply) (b : Actor) → ClearAt m me (left_with_node now due b).actor.line
  left_with_clear now (Some (Refused refusal)) b = tt
  left_with_clear now _ b = tt

module _ (w : World) (e : w.setup.kind ≡ TwoLock) (me : ℕ) (a : Actor) where
  abbrev Stays : Shared → Outcome → Type 0
  Stays m' o = ClearAt m' me o.actor.line

  -- its own steps keep its lock open
  clear_kept : (l : Line) → IsRunBy (section_of l) TwoLock → ClearAt w.shared me (Some l)
      → Stays (performed (action w.setup me a l) w.shared) (outcome w.setup (w.steps + 1) me a l (found (action w.setup me a l) w.shared))
  clear_kept N1 _ c = c
  clear_kept N2 _ c = both (Stays w.shared) (is_null w.shared.free) (both (Stays w.shared) (nat_lt a.f w.setup.size) c tt) (both (Stays w.shared) (nat_eq w.shared.free.count w.setup.limit) tt c)
  clear_kept N3 _ c = c
  clear_kept N4 _ c = tried Stays (same_ref w.shared.free a.top) (λ i. subst (λ k. Open w.shared.tail_lock me → ClearAt w.shared me (Some (with_node k))) (sym e) (λ h. h) c) (λ i. c)
  clear_kept N5 _ c = tried Stays (nat_eq w.shared.fresh a.f) (λ i. subst (λ k. Open w.shared.tail_lock me → ClearAt w.shared me (Some (with_node k))) (sym e) (λ h. h) c) (λ i. c)
  clear_kept F1 _ c = both (Stays w.shared) (nat_eq w.shared.free.count w.setup.limit) (aside_clear w.shared me w.setup.kind (w.steps + 1) a.due (record a { top = w.shared.free }) e c) c
  clear_kept F2 _ c = c
  clear_kept F3 _ c = tried Stays (same_ref w.shared.free a.top) (λ i. freed_clear (put Free (raised w.setup a.top a.node) w.shared) me w.setup.kind (w.steps + 1) a.due (empties_hand a) e c) (λ i. c)
  clear_kept A1 _ c = c
  clear_kept A2 _ c = c
  clear_kept A3 _ c = tried Stays (nat_eq w.shared.tail_lock 0) (λ i. inr refl) (λ i. c)
  clear_kept A4 _ c = c
  clear_kept A5 _ c = tried Stays (same_ref (found (action w.setup me a A5) w.shared) null) (λ i. c) (λ i. c)
  clear_kept A6 _ c = c
  clear_kept A7 _ c = left_with_clear (performed (action w.setup me a A7) w.shared) me (w.steps + 1) a.due a
  clear_kept B1 _ c = tried Stays (nat_eq w.shared.head_lock 0) (λ i. inr refl) (λ i. c)
  clear_kept B2 _ c = c
  clear_kept B3 _ c = both (Stays w.shared) (is_null (found (action w.setup me a B3) w.shared)) c (both (Stays w.shared) (is_shut w.setup.bits (found (action w.setup me a B3) w.shared)) c c)
  clear_kept B4 _ c = both (Stays w.shared) (nat_eq a.head.count w.setup.limit) c c
  clear_kept B5 _ c = c
  clear_kept B6 _ c = unlocked_clear (performed (action w.setup me a B6) w.shared) me (w.steps + 1) a.due a refl
  clear_kept S6 _ c = tried Stays (nat_eq w.shared.tail_lock 0) (λ i. inr refl) (λ i. c)
  clear_kept S7 _ c = c
  clear_kept S8 _ c = tried Stays (same_ref (found (action w.setup me a S8) w.shared) null) (λ i. c) (λ i. c)
  clear_kept S9 _ c = left_clear (performed (action w.setup me a S9) w.shared) me (w.steps + 1) a.due a
  clear_kept l runs c = absurd runs

-- an actor has at most so much before it
unheld_most : (m : Shared) (a : Actor) (l : Line) → locked_at m a (Some l) ≤ 14
unheld_most m a N2 = omega (arith, unless_most (nat_eq m.fresh a.f) 4)
unheld_most m a N3 = omega (arith, unless_most (same_ref m.free a.top) 4)
unheld_most m a N4 = omega (arith, unless_most (same_ref m.free a.top) 4)
unheld_most m a N5 = omega (arith, unless_most (nat_eq m.fresh a.f) 4)
unheld_most m a F1 = omega (arith, due_most a.due 9 0)
unheld_most m a F2 = omega (arith, due_most a.due 9 0, unless_most (same_ref m.free a.top) 3)
unheld_most m a F3 = omega (arith, due_most a.due 9 0, unless_most (same_ref m.free a.top) 3)
unheld_most m a _ = omega arith

owns_at : (w : World) (r : IsReached w) (e : w.setup.kind ≡ TwoLock) (me : ℕ) (a : Actor) (l : Line) → actor_of w me ≡ Some a → a.line ≡ Some l → OwnsAt w.shared me (Some l)
owns_at w r e me a l is at = subst (OwnsAt w.shared me) at ((reached_invariant w r e).sound.actors me a is).owns

-- the step of an actor whose lock is open lowers what is left by 1
one_less : (w : World) (r : IsReached w) (e : w.setup.kind ≡ TwoLock) (me : ℕ) (a : Actor) (l : Line) (is : actor_of w me ≡ Some a)
    (at : a.line ≡ Some l) → ClearAt w.shared me (Some l) → locked_at (performed (action w.setup me a l) w.shared)
    (outcome w.setup (w.steps + 1) me a l (found (action w.setup me a l) w.shared)).actor
    (outcome w.setup (w.steps + 1) me a l (found (action w.setup me a l) w.shared)).actor.line + 1 ≤ locked_at w.shared a (Some l)
one_less w r e me a l is at c = omega (arith, (step_lowers_unheld w r e me a l is at).mine, counts_one w.shared me l c (owns_at w r e me a l is at))

pub ends_in : (k me : ℕ) (w : World) (a : Actor) → IsReached w → w.setup.kind ≡ TwoLock → actor_of w me ≡ Some a → ClearAt w.shared me a.line → locked_at w.shared a a.line ≤ k → EndsWithin k w me
ends_in zero me w a r e is clear few = go a.line refl clear few
  where
    go : (l : Option Line) → a.line ≡ l → ClearAt w.shared me l → locked_at w.shared a l ≤ 0 → EndsWithin 0 w me
    go None at c h = over 0 me w a is at
    go (Some l) at c h = absurd (omega (arith, h, one_less w r e me a l is at c))
ends_in (suc k) me w a r e is clear few = go (ends_in k me) a.line refl clear few
  where
    go : ((v : World) (b : Actor) → IsReached v → v.setup.kind ≡ TwoLock → actor_of v me ≡ Some b → ClearAt v.shared me b.line
        → locked_at v.shared b b.line ≤ k → EndsWithin k v me) → (l : Option Line) → a.line ≡ l → ClearAt w.shared me l
        → locked_at w.shared a l ≤ suc k → EndsWithin (suc k) w me
    go after None at c h = over (suc k) me w a is at
    go after (Some l) at c h =
        let moves_on : next w (Step me) ≡ Some (stepped w me a l) = ap (moved w (Step me)) is ∙ ap (steps w me a) at in
        let o = outcome w.setup (w.steps + 1) me a l (found (action w.setup me a l) w.shared) in
        one_more k me w (stepped w me a l) moves_on
        (after (stepped w me a l) (record o.actor { entry = Some (entry_or a.entry (length w.operations)) }) (reached_next w (stepped w me a l) (made (Step me)) r moves_on) e
        (actor_same w me a (record o.actor { entry = Some (entry_or a.entry (length w.operations)) }) is)
        (clear_kept w e me a l (subst (IsRunBy (section_of l)) e (each_runs_its_queue w r me a l is at)) c)
        (omega (arith, h, one_less w r e me a l is at c, entry_unheld (performed (action w.setup me a l) w.shared) o.actor (Some (entry_or a.entry (length w.operations))) o.actor.line)))

module _ (w : World) (r : IsReached w) (e : w.setup.kind ≡ TwoLock) where
  ends : (me : ℕ) (a : Actor) (l : Line) → actor_of w me ≡ Some a → a.line ≡ Some l → ClearAt w.shared me (Some l) → EndsItsCall 14 w me
  ends me a l is at c =
      record {
        actor = a;
        line = l;
        here = is;
        at = at;
        ends = ends_in 14 me w a r e is (subst (ClearAt w.shared me) (sym at) c) (subst (λ j. locked_at w.shared a j ≤ 14) (sym at) (omega (arith, unheld_most w.shared a l)));
      }

  -- the holder of the tail lock, and of the head lock
  by_tail : (you : ℕ) (c : Actor) → actor_of w you ≡ Some c → w.shared.tail_lock ≡ you → (l : Option Line) → c.line ≡ l → IsTrue (has_tail_lock l) → EndsItsCall 14 w you
  by_tail you c is mine (Some A4) at h = ends you c A4 is at (inr mine)
  by_tail you c is mine (Some A5) at h = ends you c A5 is at (inr mine)
  by_tail you c is mine (Some A6) at h = ends you c A6 is at (inr mine)
  by_tail you c is mine (Some A7) at h = ends you c A7 is at (inr mine)
  by_tail you c is mine (Some S7) at h = ends you c S7 is at (inr mine)
  by_tail you c is mine (Some S8) at h = ends you c S8 is at (inr mine)
  by_tail you c is mine (Some S9) at h = ends you c S9 is at (inr mine)
  by_tail you c is mine _ at h = absurd (true≢false (sym h))

  by_head : (you : ℕ) (c : Actor) → actor_of w you ≡ Some c → w.shared.head_lock ≡ you → (l : Option Line) → c.line ≡ l → IsTrue (has_head_lock l) → EndsItsCall 14 w you
  by_head you c is mine (Some B2) at h = ends you c B2 is at (inr mine)
  by_head you c is mine (Some B3) at h = ends you c B3 is at (inr mine)
  by_head you c is mine (Some B4) at h = ends you c B4 is at (inr mine)
  by_head you c is mine (Some B5) at h = ends you c B5 is at (inr mine)
  by_head you c is mine (Some B6) at h = ends you c B6 is at (inr mine)
  by_head you c is mine _ at h = absurd (true≢false (sym h))

  holder : (lock : ℕ) (o : Option Actor) → actor_of w lock ≡ o → IsSome o → (c : Actor) × (actor_of w lock ≡ Some c)
  holder lock None is h = absurd (true≢false (sym h))
  holder lock (Some c) is h = (c, is)

  -- where no lock is held
  all_clear : (me : ℕ) (l : Line) → w.shared.tail_lock ≡ 0 → w.shared.head_lock ≡ 0 → ClearAt w.shared me (Some l)
  all_clear me F1 t h = inl h
  all_clear me F2 t h = inl h
  all_clear me F3 t h = inl h
  all_clear me B1 t h = inl h
  all_clear me B2 t h = inl h
  all_clear me B3 t h = inl h
  all_clear me B4 t h = inl h
  all_clear me B5 t h = inl h
  all_clear me B6 t h = inl h
  all_clear me _ t h = inl t

  some_ends : SomeEndsItsCall 14 w
  some_ends me a l is at = go (same_or_not w.shared.tail_lock 0) (same_or_not w.shared.head_lock 0)
    where
      go : (w.shared.tail_lock ≡ 0) ⊎ (w.shared.tail_lock ≢ 0) → (w.shared.head_lock ≡ 0) ⊎ (w.shared.head_lock ≢ 0) → (you : ℕ) × EndsItsCall 14 w you
      go (inl t) (inl h) = (me, ends me a l is at (all_clear me l t h))
      go (inr t) h =
          let c = holder w.shared.tail_lock (actor_of w w.shared.tail_lock) refl ((locks_are_of_actors w r e).0 t) in
          (w.shared.tail_lock, by_tail w.shared.tail_lock c.0 c.1 refl c.0.line refl ((locks_name_their_holders w r e w.shared.tail_lock c.0 c.1).0.0 refl))
      go (inl t) (inr h) =
          let c = holder w.shared.head_lock (actor_of w w.shared.head_lock) refl ((locks_are_of_actors w r e).1 h) in
          (w.shared.head_lock, by_head w.shared.head_lock c.0 c.1 refl c.0.line refl ((locks_name_their_holders w r e w.shared.head_lock c.0 c.1).1.0 refl))

pub some_ends_its_call : OfTwoLockWorlds (SomeEndsItsCall 14)
some_ends_its_call w r e = some_ends w r e
