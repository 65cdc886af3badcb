-- What an actor found before a line at which its call may answer that the queue is empty, or shut (`SawAt`), and what its steps
-- note: such a reply comes only where what its seat has seen leaves the queue so.
use Rattle.std.proofs.Common.{◌≡◌, ℕ, ◌+◌, ◌<◌, ◌≤◌, Bool, true, false, if◌then◌else◌, nat_eq, nat_lt, Option, Some, None, List, [], ◌++◌, length}
use Rattle.std.proofs.Common.{take, refl, sym, ap, subst, ◌∙◌, arith, append-nil, length-append, eqb-true, take_all, le_refl, ⊎_elim, inl, inr, ◌⊎◌}
use Rattle.std.specs.List.{All}
use Rattle.std.proofs.lemmas.Option.{none-some}
use Rattle.std.proofs.lemmas.List.{take-append-le}
use Rattle.std.proofs.lemmas.List.Elements.{All-nil, All-cons}
use Rattle.counted_ref.specs.Ref.{Ref, null, is_null, is_shut, same_ref, reserved_node}
use Rattle.counted_ref.proofs.Words.{same_ref-true}
use Rattle.line_table.specs.declared.lines.Kind.{Kind}
use Rattle.line_table.specs.declared.lines.Kind.TheVariants.{TwoLock, NonBlocking}
use Rattle.line_table.specs.declared.lines.Line.{Line}
use Rattle.line_table.specs.declared.lines.Line.TheVariants.{N1, N2, N4, N5, F1, F3, E3, E5, E7, E9, E13, E17, D2, D4, D5, D10, D12, D13, A3, A5, A6, A7, B1, B3, B4, B6, S1, S3, S4, S5, S6, S8, S9}
use Rattle.history.specs.declared.operations.Entry.{Entry}
use Rattle.history.specs.declared.operations.Op.{Op}
use Rattle.history.specs.declared.operations.Op.TheVariants.{Enq, Deq, Shut}
use Rattle.history.specs.declared.operations.Reply.{Reply}
use Rattle.history.specs.declared.operations.Reply.TheVariants.{Done, Value, Empty, Refused}
use Rattle.history.specs.declared.refusals.Refusal.TheVariants.{Closed}
use Rattle.history.specs.declared.refusals.WornWord.TheVariants.{Tail as OfTail}
use Rattle.history.specs.Entries.{Leads, LeadsTo, LeadsToShut}
use Rattle.history.specs.Seats.{IsNoted}
use Rattle.line_steps.specs.declared.actors.Setup.{Setup}
use Rattle.line_steps.specs.Actors.{Actor}
use Rattle.line_steps.specs.declared.actors.Held.{Held}
use Rattle.line_steps.specs.Outcomes.{Outcome}
use Rattle.line_steps.specs.Memory.{Found, found, node_at}
use Rattle.line_steps.specs.Lines.{action, outcome, goes, ends, worn, closed, effect, empties_hand, fills_hand, to_pocket, sets_aside, freed, unlocked, left, left_with_node, with_node, dequeues}
use Rattle.line_steps.specs.Calls.{begun, from_pocket}
use Rattle.step_machine.specs.Machine.{IsReached, actor_of, entry_or}
use Rattle.step_machine.proofs.Fixed.{FixedAt, DecidedFreeing}
use Rattle.step_machine.proofs.EitherQueue.{fixed_at as fixed_in}
use Rattle.step_machine.proofs.TwoLockAtLines as two_lock_knows
use Rattle.step_machine.proofs.TwoLockInvariant as two_lock_sound
use Rattle.step_machine.proofs.NonBlockingLaws as non_blocking
use Rattle.node_arena.specs.Traces.{Traced, IsTraced, step_at, actor_at, outcome_at, sees}
use Rattle.node_arena.specs.Prologues.{Prologue, continues, begins, out_of, at_rest, after_prologue}
use Rattle.node_arena.specs.Rule.{SawAt, notes_of, FoundClosedAt, SaysOfSeen}
use Rattle.node_arena.proofs.Tracing.{traced_reached, step_traced, step_here}
use Rattle.node_arena.proofs.Noting.{IsSilent, AnswersSilently, silent}
use Rattle.node_arena.proofs.Noted.{leaves_nothing, leaves_shut}
use Rattle.node_arena.proofs.Shuts.{shut_by_reply}
use Rattle.node_arena.proofs.Between.{at_d4, shuts_by_ends}

-- a note stays where more is seen
pub noted_more : (seen more : List Entry) (n : ℕ) → IsNoted seen n → IsNoted (seen ++ more) n
noted_more seen more n (inl h) = inl (omega (arith, h.0, length-append seen more), subst (λ es. LeadsTo es []) (sym (take-append-le n seen more h.0)) h.1)
noted_more seen more n (inr h) = inr (omega (arith, h.0, length-append seen more), subst LeadsToShut (sym (take-append-le n seen more h.0)) h.1)

-- a note of all that was seen, where this leaves the queue empty
noted_empty : (seen : List Entry) → LeadsTo seen [] → IsNoted seen (length seen)
noted_empty seen h = inl (omega arith, subst (λ es. LeadsTo es []) (sym (take_all (length seen) seen (le_refl (length seen)))) h)

-- or shut
noted_shut : (seen : List Entry) → LeadsToShut seen → IsNoted seen (length seen)
noted_shut seen h = inr (omega arith, subst LeadsToShut (sym (take_all (length seen) seen (le_refl (length seen)))) h)

-- a pop that is refused Closed found the queue shut, as any other call
pub closed_shut : (l : Line) (es : List Entry) → FoundClosedAt l es → LeadsToShut es
closed_shut D5 es h = ([], h)
closed_shut B6 es h = ([], h)
closed_shut _ es h = h

-- what a reply notes is so where it says what is so
noted_by : (l : Line) (reply : Option Reply) (seen : List Entry) → SaysOfSeen l reply seen → All (IsNoted seen) (notes_of reply seen)
noted_by l None seen h = All-nil (IsNoted seen)
noted_by l (Some Done) seen h = All-nil (IsNoted seen)
noted_by l (Some (Value v)) seen h = All-nil (IsNoted seen)
noted_by l (Some Empty) seen h = All-cons (IsNoted seen) (length seen) [] (noted_empty seen h) (All-nil (IsNoted seen))
noted_by l (Some (Refused Closed)) seen h = All-cons (IsNoted seen) (length seen) [] (noted_shut seen (closed_shut l seen h)) (All-nil (IsNoted seen))
noted_by l (Some (Refused _)) seen h = All-nil (IsNoted seen)

-- a reply that says nothing of the queue
says_nothing : (l : Line) (reply : Option Reply) (seen : List Entry) → IsSilent reply → SaysOfSeen l reply seen
says_nothing l None seen h = tt
says_nothing l (Some Done) seen h = tt
says_nothing l (Some (Value v)) seen h = tt
says_nothing l (Some Empty) seen h = absurd h
says_nothing l (Some (Refused Closed)) seen h = absurd h
says_nothing l (Some (Refused _)) seen h = tt

-- what an actor found stays so while Head's count only rises
pub saw_later : (t u : Traced) (seen : List Entry) (a : Actor) (line : Option Line) (due : Option Reply)
    → t.world.shared.head.count ≤ u.world.shared.head.count → u.world.setup ≡ t.world.setup → SawAt t seen a line due → SawAt u seen a line due
saw_later t u seen a (Some D5) due up same h = (
  λ e. ⊎_elim (λ (less : a.head.count < t.world.shared.head.count). inl (omega arith)) (λ (f : LeadsTo seen []). inr f) (h.0 e),
  λ e. ⊎_elim (λ (less : a.head.count < t.world.shared.head.count). inl (omega arith)) (λ (f : Leads seen true []). inr f) (h.1 (e ∙ ap (λ z. reserved_node z.bits) same)),
)
saw_later t u seen a (Some B6) (Some Empty) up same h = h
saw_later t u seen a (Some B6) (Some (Refused Closed)) up same h = h
saw_later t u seen a (Some A7) (Some (Refused Closed)) up same h = h
saw_later t u seen a (Some S9) (Some (Refused Closed)) up same h = h
saw_later t u seen a _ _ up same h = tt

-- an actor that begins a call stands before no such line
saw_begun : (t : Traced) (seen : List Entry) (kind : Kind) (me : ℕ) (op : Op) (a : Actor) → SawAt t seen (begun kind me op a) (begun kind me op a).line (begun kind me op a).due
saw_begun t seen kind me (Enq body) a = go a.pocket kind
  where
    go : (p : Option Held) (k : Kind) → let b : Actor = from_pocket (with_node k) p
        (record a { line = Some N1; op = Enq body; val = record { from = me; body = body }; due = None; entry = None }) in SawAt t seen b b.line b.due
    go None k = tt
    go (Some held) TwoLock = tt
    go (Some held) NonBlocking = tt
saw_begun t seen kind me Deq a = go a.pocket kind
  where
    go : (p : Option Held) (k : Kind) → let b : Actor = from_pocket F1 p (record a { line = Some (dequeues k); op = Deq; due = None; entry = None }) in SawAt t seen b b.line b.due
    go None TwoLock = tt
    go None NonBlocking = tt
    go (Some held) k = tt
saw_begun t seen TwoLock me Shut a = tt
saw_begun t seen NonBlocking me Shut a = tt

-- what an actor found stays so while it sets out for a step
pub saw_led : (t u : Traced) (seen : List Entry) (s : Setup) (me : ℕ) (prologue : Prologue) (a : Actor)
    → t.world.shared.head.count ≤ u.world.shared.head.count → u.world.setup ≡ t.world.setup → SawAt t seen a a.line a.due
    → SawAt u seen (after_prologue s me prologue a) (after_prologue s me prologue a).line (after_prologue s me prologue a).due
saw_led t u seen s me continues a up same h = saw_later t u seen a a.line a.due up same h
saw_led t u seen s me (begins op) a up same h = saw_begun u seen s.kind me op (at_rest a)

-- an actor that may rest or give up stands before no such line, whatever its seat has then seen
pub saw_at_rest : (t : Traced) (seen : List Entry) (a : Actor) (line : Option Line) → a.line ≡ line → (out_of a line).line ≡ None → SawAt t seen a line a.due
saw_at_rest t seen a (Some D5) e h = absurd (none-some D5 (sym h ∙ e))
saw_at_rest t seen a (Some B6) e h = absurd (none-some B6 (sym h ∙ e))
saw_at_rest t seen a (Some A7) e h = absurd (none-some A7 (sym h ∙ e))
saw_at_rest t seen a (Some S9) e h = absurd (none-some S9 (sym h ∙ e))
saw_at_rest t seen a _ e h = tt

-- these lines alone lead before such a line
abbrev LooksAway : Line → Type 0
LooksAway D4 = ⊥
LooksAway B3 = ⊥
LooksAway A5 = ⊥
LooksAway A6 = ⊥
LooksAway S8 = ⊥
LooksAway l = Unit {0}

-- an outcome that leads before no such line, or has no such reply due there
record SeesNothing (t : Traced) (seen : List Entry) (o : Outcome) : Type 0 where
  saw : (b : Actor) → SawAt t seen b o.actor.line o.actor.due

module _ (t : Traced) (seen : List Entry) where
  both : (b : Bool) (x y : Outcome) → SeesNothing t seen x → SeesNothing t seen y → SeesNothing t seen (if b then x else y)
  both true x y hx hy = hx
  both false x y hx hy = hy

  node_nothing : (kind : Kind) (a : Actor) → SeesNothing t seen (goes (with_node kind) a)
  node_nothing TwoLock a = record { saw = λ b. tt }
  node_nothing NonBlocking a = record { saw = λ b. tt }

  freed_nothing : (kind : Kind) (now : ℕ) (due : Option Reply) (a : Actor) → SeesNothing t seen (freed kind now due a)
  freed_nothing TwoLock now None a = record { saw = λ b. tt }
  freed_nothing NonBlocking now None a = record { saw = λ b. tt }
  freed_nothing kind now (Some reply) a = record { saw = λ b. tt }

  aside_nothing : (kind : Kind) (now : ℕ) (due : Option Reply) (a : Actor) → SeesNothing t seen (sets_aside (freed kind now due a))
  aside_nothing TwoLock now None a = record { saw = λ b. tt }
  aside_nothing NonBlocking now None a = record { saw = λ b. tt }
  aside_nothing kind now (Some reply) a = record { saw = λ b. tt }

  unlocked_nothing : (now : ℕ) (due : Option Reply) (a : Actor) → SeesNothing t seen (unlocked now due a)
  unlocked_nothing now None a = record { saw = λ b. tt }
  unlocked_nothing now (Some Done) a = record { saw = λ b. tt }
  unlocked_nothing now (Some (Value v)) a = record { saw = λ b. tt }
  unlocked_nothing now (Some Empty) a = record { saw = λ b. tt }
  unlocked_nothing now (Some (Refused refusal)) a = record { saw = λ b. tt }

  left_nothing : (now : ℕ) (due : Option Reply) (a : Actor) → SeesNothing t seen (left now due a)
  left_nothing now None a = record { saw = λ b. tt }
  left_nothing now (Some Done) a = record { saw = λ b. tt }
  left_nothing now (Some (Value v)) a = record { saw = λ b. tt }
  left_nothing now (Some Empty) a = record { saw = λ b. tt }
  left_nothing now (Some (Refused refusal)) a = record { saw = λ b. tt }

  left_with_node_nothing : (now : ℕ) (due : Option Reply) (a : Actor) → SeesNothing t seen (left_with_node now due a)
  left_with_node_nothing now None a = record { saw = λ b. tt }
  left_with_node_nothing now (Some Done) a = record { saw = λ b. tt }
  left_with_node_nothing now (Some (Value v)) a = record { saw = λ b. tt }
  left_with_node_nothing now (Some Empty) a = record { saw = λ b. tt }
  left_with_node_nothing now (Some (Refused refusal)) a = record { saw = λ b. tt }

  sees_nothing : (s : Setup) (now me : ℕ) (a : Actor) (l : Line) (c : Found (action s me a l)) → LooksAway l → SeesNothing t seen (outcome s now me a l c)
  sees_nothing s now me a N2 c h =
      both (is_null c) _ _ (both (nat_lt a.f s.size) _ _ record { saw = λ b. tt } record { saw = λ b. tt }) (both (nat_eq c.count s.limit) _ _ record { saw = λ b. tt } record { saw = λ b. tt })
  sees_nothing s now me a N4 c h = both (same_ref c a.top) _ _ (node_nothing s.kind (fills_hand a.top.node a.next.count a)) record { saw = λ b. tt }
  sees_nothing s now me a N5 c h = both (nat_eq c a.f) _ _ (node_nothing s.kind (fills_hand (a.f + 1) 0 a)) record { saw = λ b. tt }
  sees_nothing s now me a F1 c h = both (nat_eq c.count s.limit) _ _ (aside_nothing s.kind now a.due (record a { top = c })) record { saw = λ b. tt }
  sees_nothing s now me a F3 c h = both (same_ref c a.top) _ _ (freed_nothing s.kind now a.due (empties_hand a)) record { saw = λ b. tt }
  sees_nothing s now me a E3 c h = both (nat_eq c.count s.limit) _ _ record { saw = λ b. tt } record { saw = λ b. tt }
  sees_nothing s now me a E7 c h =
      both (same_ref c a.tail) _ _ (both (is_null a.next) _ _ record { saw = λ b. tt }
      (both (is_shut s.bits a.next) _ _ record { saw = λ b. tt } (both (nat_eq a.tail.count s.limit) _ _ record { saw = λ b. tt } record
      { saw = λ b. tt })))
      record { saw = λ b. tt }
  sees_nothing s now me a E9 c h = won (same_ref c a.next)
    where
      linked : (b : Bool) → SeesNothing t seen (effect now (if b then ends now Done (empties_hand (record a { due = Some Done })) else goes E17 (empties_hand (record a { due = Some Done }))))
      linked true = record { saw = λ b. tt }
      linked false = record { saw = λ b. tt }

      won : (b : Bool) → SeesNothing t seen (if b then effect now (if nat_eq a.tail.count s.limit then ends now Done
          (empties_hand (record a { due = Some Done })) else goes E17 (empties_hand (record a { due = Some Done }))) else goes E5 a)
      won true = linked (nat_eq a.tail.count s.limit)
      won false = record { saw = λ b. tt }
  sees_nothing s now me a D4 c h = absurd h
  sees_nothing s now me a D5 c h =
      both (same_ref c a.head) _ _
      (both (nat_eq a.head.node a.tail.node) _ _ (both (is_null a.next) _ _ record { saw = λ b. tt }
      (both (is_shut s.bits a.next) _ _ record { saw = λ b. tt } (both (nat_eq a.tail.count s.limit) _ _ record { saw = λ b. tt } record
      { saw = λ b. tt }))) record { saw = λ b. tt })
      record { saw = λ b. tt }
  sees_nothing s now me a D12 c h = both (nat_eq a.head.count s.limit) _ _ record { saw = λ b. tt } record { saw = λ b. tt }
  sees_nothing s now me a D13 c h = both (same_ref c a.head) _ _ record { saw = λ b. tt } record { saw = λ b. tt }
  sees_nothing s now me a A3 c h = both (nat_eq c 0) _ _ record { saw = λ b. tt } record { saw = λ b. tt }
  sees_nothing s now me a B1 c h = both (nat_eq c 0) _ _ record { saw = λ b. tt } record { saw = λ b. tt }
  sees_nothing s now me a A5 c h = absurd h
  sees_nothing s now me a A6 c h = absurd h
  sees_nothing s now me a A7 c h = left_with_node_nothing now a.due a
  sees_nothing s now me a B3 c h = absurd h
  sees_nothing s now me a B4 c h = both (nat_eq a.head.count s.limit) _ _ record { saw = λ b. tt } record { saw = λ b. tt }
  sees_nothing s now me a B6 c h = unlocked_nothing now a.due a
  sees_nothing s now me a S3 c h =
      both (same_ref c a.tail) _ _ (both (is_null a.next) _ _ record { saw = λ b. tt }
      (both (is_shut s.bits a.next) _ _ record { saw = λ b. tt } (both (nat_eq a.tail.count s.limit) _ _ record { saw = λ b. tt } record
      { saw = λ b. tt })))
      record { saw = λ b. tt }
  sees_nothing s now me a S4 c h = both (same_ref c a.next) _ _ record { saw = λ b. tt } record { saw = λ b. tt }
  sees_nothing s now me a S6 c h = both (nat_eq c 0) _ _ record { saw = λ b. tt } record { saw = λ b. tt }
  sees_nothing s now me a S8 c h = absurd h
  sees_nothing s now me a S9 c h = left_nothing now a.due a
  sees_nothing s now me a _ c h = record { saw = λ b. tt }

-- B3 reads what follows Head's node
at_b3 : (t : Traced) (me : ℕ) (a : Actor) → IsTraced t → actor_of t.world me ≡ Some a → a.line ≡ Some B3 → t.world.shared.head ≡ a.head
at_b3 t me a traced is here = runs t.world.setup.kind refl
  where
    r : IsReached t.world
    r = traced_reached t traced

    runs : (k : Kind) → t.world.setup.kind ≡ k → t.world.shared.head ≡ a.head
    runs NonBlocking k = absurd (non_blocking.at_line t.world r k me a B3 is here).runs
    runs TwoLock k = subst (two_lock_knows.InvariantAt (λ j. Unit {0}) t.world.setup t.world.shared _ a) here ((two_lock_sound.reached_invariant t.world r k).sound.actors me a is).knows

-- what B3 makes of the reference that it read, by whether that is null, or a closed end
abbrev after_b3 : (now : ℕ) → Actor → Ref → (none shut : Bool) → Outcome
after_b3 now a next none shut =
    let c : Actor = record a { next = next; empty_at = now } in
    if none then goes B6 (record c { due = Some Empty }) else if shut then goes B6 (record c { due = Some (Refused Closed) }) else goes B4 c

-- what A5 makes of its actor, and what S8 does, by whether it was won
abbrev after_a5 : (now : ℕ) → Actor → Bool → Outcome
after_a5 now a b = if b then effect now (goes A6 (empties_hand (record a { due = Some Done }))) else goes A7 (record a { due = Some (Refused Closed) })

abbrev after_s8 : (now : ℕ) → Actor → Bool → Outcome
after_s8 now a b = if b then effect now (goes S9 (record a { due = Some Done })) else goes S9 (record a { due = Some (Refused Closed) })

-- the actor of an outcome, with the place of its operation
abbrev placed : Traced → Actor → Outcome → Actor
placed t a o = record o.actor { entry = Some (entry_or a.entry (length t.world.operations)) }

-- what an actor found at its step, where its seat has then seen the whole history if the line is one that sees it
pub saw_after : (t : Traced) (me : ℕ) (a : Actor) (l : Line) → IsTraced t → actor_of t.world me ≡ Some a → a.line ≡ Some l → (seen : List Entry) → (sees l ≡ true → seen ≡ (step_at t me a l).history)
    → SawAt (step_at t me a l) seen (actor_at t.world.setup t me a l) (actor_at t.world.setup t me a l).line (actor_at t.world.setup t me a l).due
saw_after t me a D4 r is here seen whole =
    let same : take (length (step_at t me a D4).history) (step_at t me a D4).history ≡ seen = take_all (length (step_at t me a D4).history)
    (step_at t me a D4).history (le_refl _) ∙ sym (whole refl) in
    let found = at_d4 t me a r (shuts_by_ends t r) is here in (
      λ e. subst (λ es. (a.head.count < t.world.shared.head.count) ⊎ LeadsTo es []) same (found.empty e),
      λ e. subst (λ es. (a.head.count < t.world.shared.head.count) ⊎ Leads es true []) same (found.closed e),
    )
saw_after t me a B3 r is here seen whole = go (is_null (node_at t.world.shared a.head.node).next) (is_shut t.world.setup.bits (node_at t.world.shared a.head.node).next) refl refl
  where
    at_head : (end : ℕ) → (node_at t.world.shared a.head.node).next.node ≡ end → (node_at t.world.shared t.world.shared.head.node).next.node ≡ end
    at_head end e = subst (λ (x : Ref). (node_at t.world.shared x.node).next.node ≡ end) (sym (at_b3 t me a r is here)) e

    all : seen ≡ t.history
    all = whole refl ∙ append-nil t.history

    go : (b c : Bool) → is_null (node_at t.world.shared a.head.node).next ≡ b → is_shut t.world.setup.bits (node_at t.world.shared a.head.node).next ≡ c
        → let o : Outcome = after_b3 (t.world.steps + 1) a (node_at t.world.shared a.head.node).next b c in SawAt (step_at t me a B3) seen (placed t a o) o.actor.line o.actor.due
    go true c none shut = subst (λ es. LeadsTo es []) (sym all) (leaves_nothing t r (at_head 0 (eqb-true (node_at t.world.shared a.head.node).next.node 0 none)))
    go false true none shut = subst (λ es. Leads es true []) (sym all) (leaves_shut t r
        (at_head (reserved_node t.world.setup.bits) (eqb-true (node_at t.world.shared a.head.node).next.node (reserved_node t.world.setup.bits)
        shut)))
    go false false none shut = tt
saw_after t me a A5 r is here seen whole = go (same_ref (node_at t.world.shared a.tail.node).next null) refl
  where
    go : (b : Bool) → same_ref (node_at t.world.shared a.tail.node).next null ≡ b
        → let o : Outcome = after_a5 (t.world.steps + 1) a b in SawAt (step_at t me a A5) seen (placed t a o) o.actor.line o.actor.due
    go true won = tt
    go false lost =
        let b : Actor = placed t a (after_a5 (t.world.steps + 1) a false) in
        let stands : actor_of (step_at t me a A5).world me ≡ Some b = step_here t me a A5 is ∙ ap (λ c. Some (placed t a (after_a5 (t.world.steps + 1) a c))) lost in
        subst LeadsToShut (sym (whole refl)) (shut_by_reply (step_at t me a A5) me b A7 (step_traced t me a A5 r is here) stands refl refl)
saw_after t me a A6 r is here seen whole =
    let done : a.due ≡ Some Done = (fixed_in t.world (traced_reached t r) me a A6 is here).earned in
    subst (λ due. SawAt (step_at t me a A6) seen (actor_at t.world.setup t me a A6) (Some A7) due) (sym done) tt
saw_after t me a S8 r is here seen whole = go (same_ref (node_at t.world.shared a.tail.node).next null) refl
  where
    go : (b : Bool) → same_ref (node_at t.world.shared a.tail.node).next null ≡ b
        → let o : Outcome = after_s8 (t.world.steps + 1) a b in SawAt (step_at t me a S8) seen (placed t a o) o.actor.line o.actor.due
    go true won = tt
    go false lost =
        let b : Actor = placed t a (after_s8 (t.world.steps + 1) a false) in
        let stands : actor_of (step_at t me a S8).world me ≡ Some b = step_here t me a S8 is ∙ ap (λ c. Some (placed t a (after_s8 (t.world.steps + 1) a c))) lost in
        subst LeadsToShut (sym (whole refl)) (shut_by_reply (step_at t me a S8) me b S9 (step_traced t me a S8 r is here) stands refl refl)
saw_after t me a l r is here seen whole = (sees_nothing (step_at t me a l) seen t.world.setup (t.world.steps + 1) me a l
    (found (action t.world.setup me a l) t.world.shared) tt).saw (actor_at t.world.setup t me a l)

-- what an actor's registers have before its line, in either queue
fixed_at : (t : Traced) (me : ℕ) (a : Actor) (l : Line) → IsTraced t → actor_of t.world me ≡ Some a → a.line ≡ Some l → FixedAt t.world.setup.limit me a (Some l)
fixed_at t me a l traced is here = fixed_in t.world (traced_reached t traced) me a l is here

-- a call that frees a node has no such reply due
silent_freeing : (due : Option Reply) → DecidedFreeing due → IsSilent due
silent_freeing None h = tt
silent_freeing (Some Done) h = tt
silent_freeing (Some (Value v)) h = tt
silent_freeing (Some Empty) h = h
silent_freeing (Some (Refused refusal)) h = absurd h

-- what E7 makes of its actor, and what S3 does, by whether Tail is as read, null or a closed end was read, and Tail is worn out
abbrev after_e7 : (now : ℕ) → Actor → (same none shut out : Bool) → Outcome
after_e7 now a same none shut out =
    if same then if none then goes E9 a else if shut then closed now (to_pocket a) else if out then worn now OfTail (to_pocket a) else goes E13 a else goes E5 a

abbrev after_s3 : (now : ℕ) → Actor → (same none shut out : Bool) → Outcome
after_s3 now a same none shut out =
    if same then if none then goes S4 a else if shut then closed now a else if out then worn now OfTail a else goes S5 a else goes S1 a

-- what is said where the head lock is let go, and where the tail lock is, by what is due
unlocked_says : (t : Traced) (seen : List Entry) (now : ℕ) (a : Actor) (due : Option Reply) → SawAt t seen a (Some B6) due → SaysOfSeen B6 (unlocked now due a).reply seen
unlocked_says t seen now a None h = tt
unlocked_says t seen now a (Some Done) h = tt
unlocked_says t seen now a (Some (Value v)) h = tt
unlocked_says t seen now a (Some Empty) h = h
unlocked_says t seen now a (Some (Refused Closed)) h = h
unlocked_says t seen now a (Some (Refused _)) h = tt

left_with_node_says : (t : Traced) (seen : List Entry) (now : ℕ) (a : Actor) (due : Option Reply) → SawAt t seen a (Some A7) due → SaysOfSeen A7 (left_with_node now due a).reply seen
left_with_node_says t seen now a None h = tt
left_with_node_says t seen now a (Some Done) h = tt
left_with_node_says t seen now a (Some (Value v)) h = tt
left_with_node_says t seen now a (Some Empty) h = tt
left_with_node_says t seen now a (Some (Refused Closed)) h = h
left_with_node_says t seen now a (Some (Refused _)) h = tt

left_says : (t : Traced) (seen : List Entry) (now : ℕ) (a : Actor) (due : Option Reply) → SawAt t seen a (Some S9) due → SaysOfSeen S9 (left now due a).reply seen
left_says t seen now a None h = tt
left_says t seen now a (Some Done) h = tt
left_says t seen now a (Some (Value v)) h = tt
left_says t seen now a (Some Empty) h = tt
left_says t seen now a (Some (Refused Closed)) h = h
left_says t seen now a (Some (Refused _)) h = tt

module _ (t : Traced) (me : ℕ) (a : Actor) (seen : List Entry) where
  abbrev pub Says : Line → Type 0
  Says l = SaysOfSeen l (outcome_at t.world.setup t me a l).reply seen

  none_said : (l : Line) → AnswersSilently t.world.setup.bits a l → Says l
  none_said l h = says_nothing l (outcome_at t.world.setup t me a l).reply seen (silent t.world.setup (t.world.steps + 1) me a l (found (action t.world.setup me a l) t.world.shared) h).reply

  -- what a step says of the queue is so
  pub says_after : (l : Line) → IsTraced t → actor_of t.world me ≡ Some a → a.line ≡ Some l → (sees l ≡ true → seen ≡ (step_at t me a l).history)
      → (sees l ≡ false → SawAt t seen a (Some l) a.due) → Says l
  says_after E7 r is here whole saw = go (same_ref t.world.shared.tail a.tail) (is_null a.next) (is_shut t.world.setup.bits a.next) (nat_eq a.tail.count t.world.setup.limit)
      (λ e. subst LeadsToShut (sym (whole refl ∙ append-nil t.history)) (shut_by_reply t me a E7 r is here e))
    where
      go : (p n c w : Bool) → ((after_e7 (t.world.steps + 1) a p n c w).reply ≡ Some (Refused Closed) → LeadsToShut seen) → SaysOfSeen E7 (after_e7 (t.world.steps + 1) a p n c w).reply seen
      go true true c w h = tt
      go true false true w h = h refl
      go true false false true h = tt
      go true false false false h = tt
      go false n c w h = tt
  says_after S3 r is here whole saw = go (same_ref t.world.shared.tail a.tail) (is_null a.next) (is_shut t.world.setup.bits a.next) (nat_eq a.tail.count t.world.setup.limit)
      (λ e. subst LeadsToShut (sym (whole refl ∙ append-nil t.history)) (shut_by_reply t me a S3 r is here e))
    where
      go : (p n c w : Bool) → ((after_s3 (t.world.steps + 1) a p n c w).reply ≡ Some (Refused Closed) → LeadsToShut seen) → SaysOfSeen S3 (after_s3 (t.world.steps + 1) a p n c w).reply seen
      go true true c w h = tt
      go true false true w h = h refl
      go true false false true h = tt
      go true false false false h = tt
      go false n c w h = tt
  says_after D5 r is here whole saw = go (same_ref t.world.shared.head a.head) (nat_eq a.head.node a.tail.node) (is_null a.next)
      (is_shut t.world.setup.bits a.next) (nat_eq a.tail.count t.world.setup.limit) refl refl refl
    where
      unmoved : (shut : Bool) → same_ref t.world.shared.head a.head ≡ true → (a.head.count < t.world.shared.head.count) ⊎ Leads seen shut [] → Leads seen shut []
      unmoved shut same (inl less) = absurd (let e = ap (λ (x : Ref). x.count) (same_ref-true t.world.shared.head a.head same) in omega arith)
      unmoved shut same (inr e) = e

      go : (p q n c w : Bool) → same_ref t.world.shared.head a.head ≡ p → is_null a.next ≡ n → is_shut t.world.setup.bits a.next ≡ c
          → SaysOfSeen D5 (if p then if q then if n then ends (t.world.steps + 1) Empty a else if c then closed (t.world.steps + 1) a else if w then
          worn (t.world.steps + 1) OfTail a else goes D10 a else goes D12 a else goes D2 a).reply seen
      go true true true c w same none shut = unmoved false same ((saw refl).0 (eqb-true a.next.node 0 none))
      go true true false true w same none shut = unmoved true same ((saw refl).1 (eqb-true a.next.node (reserved_node t.world.setup.bits) shut))
      go true true false false true same none shut = tt
      go true true false false false same none shut = tt
      go true false n c w same none shut = tt
      go false q n c w same none shut = tt
  says_after F1 r is here whole saw = none_said F1 (silent_freeing a.due (fixed_at t me a F1 r is here).earned)
  says_after F3 r is here whole saw = none_said F3 (silent_freeing a.due (fixed_at t me a F3 r is here).earned)
  says_after A7 r is here whole saw = left_with_node_says t seen (t.world.steps + 1) a a.due (saw refl)
  says_after B6 r is here whole saw = unlocked_says t seen (t.world.steps + 1) a a.due (saw refl)
  says_after S9 r is here whole saw = left_says t seen (t.world.steps + 1) a a.due (saw refl)
  says_after l r is here whole saw = none_said l tt

  -- what a step notes is so
  pub noted_after : (l : Line) → Says l → All (IsNoted seen) (notes_of (outcome_at t.world.setup t me a l).reply seen)
  noted_after l h = noted_by l (outcome_at t.world.setup t me a l).reply seen h
