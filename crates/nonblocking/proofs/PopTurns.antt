-- The turns of a pop: D2 to D5, and then D10, or D12 and D13, or the end of the call.
use Rattle.std.proofs.Common.{◌≡◌, ℕ, Bool, true, false, if◌then◌else◌, nat_eq, Option, Some, None, List, [], ◌∷◌, ◌++◌, length, sym, refl, ap, ◌∙◌, subst, arith, append-nil, append_assoc}
use Rattle.counted_ref.specs.Ref.{ref_of, same_ref}
use Rattle.line_table.specs.declared.lines.Line.{Line}
use Rattle.line_table.specs.declared.lines.Line.TheVariants.{D2, D3, D4, D5, D10, D12, D13, F1}
use Rattle.history.specs.declared.operations.Entry.TheVariants.{Pop}
use Rattle.history.specs.declared.operations.Reply as replies
use Rattle.history.specs.declared.operations.Reply.TheVariants as reply
use Rattle.history.specs.declared.refusals.Refusal.{Refusal}
use Rattle.history.specs.declared.refusals.Refusal.TheVariants.{WornOut, Closed}
use Rattle.history.specs.declared.refusals.WornWord.TheVariants.{Head as OfHead, Tail as OfTail}
use Rattle.history.proofs.Learning.{answers_then}
use Rattle.node_arena.specs.Traces.{Event, outcome_at}
use Rattle.node_arena.specs.Prologues.{Prologue, continues}
use Rattle.node_arena.specs.Rule.{notes_of, SaysOfSeen}
use Rattle.history.specs.declared.operations.Taken.{Taken}
use Rattle.node_arena.specs.Arenas.{Arena}
use Rattle.node_arena.specs.declared.seats.Seat.{Seat}
use Rattle.node_arena.specs.Seats.{IsBefore, KeepsStored, KeepsSlots, DidStep, view, known_of}
use Rattle.node_arena.specs.Loads.{IsBare, TakesSlot}
use Rattle.node_arena.proofs.Loads.{still_bare, takes_slot, then_takes}
use Rattle.node_arena.specs.Turns.{failed_at, failed_turns}
use Rattle.node_arena.specs.Paths.{ExtendsPath}
use Rattle.node_arena.proofs.Known.{empty_before}
use Rattle.node_arena.proofs.PrologueTraces.{prefix_then}
use Rattle.node_arena.proofs.Paths.{ran_on, then_shut_empty, shut_empty_on, no_walk, walk_then, then_act, then_stored, then_slots, quiet_slots, sees_on}
use Rattle.node_arena.proofs.Paths.{stopped_behind, failed_behind, failed-append, event, walk_one, walk_on, act_on, stopped_at}
use Rattle.nonblocking.specs.Values.{IsNonBlocking}
use Rattle.node_arena.specs.Machine.{value_of}
use Rattle.free_list.specs.declared.outcomes.RowOutcome.{RowOutcome}
use Rattle.free_list.specs.declared.outcomes.RowOutcome.TheVariants.{Goes, Ends}
use Rattle.free_list.specs.declared.outcomes.Reply.TheVariants.{Done as IsDone, Value as IsValue, Empty as IsEmpty, Refused as IsRefused}
use Rattle.nonblocking.specs.declared.pop_outcomes.Turn.{Turn}
use Rattle.nonblocking.specs.declared.pop_outcomes.Turn.TheVariants as turn
use Rattle.nonblocking.specs.Pops.{Running, Stops, turn_of, CallIsAt, Follows, TurnFailed, FrontRead, ReadsFront, Turned, TurnMoves, Turns}
use Rattle.free_list.proofs.Registers.{same_registers}
use Rattle.nonblocking.proofs.FailedTurns.{turns_then, fails_last}
use Rattle.nonblocking.proofs.PopStands.{stands_d2, after_d2, after_d3, after_d4, AfterD5, after_d5, after_d10, never_d12, after_d12, Won, won_d13, Lost, lost_d13}

-- after D2, D3 and D4
pub to_d3 : {T : Type 0} (r : Arena) (s t : Seat T) (prologue : Prologue) (l : Line) (a b : Running) → IsBefore r s prologue D2 → Follows r s t prologue D2 a (Goes l b) → CallIsAt r t continues D3 b
to_d3 r s t prologue l a b h f = subst (CallIsAt r t continues D3) (sym (same_registers l D3 b (record a { head = ref_of r.plan.setup.bits f.found })
    f.leads_to)) (after_d2 r s t prologue f.found a (stands_d2 r s prologue a h) f.did)

pub to_d4 : {T : Type 0} (r : Arena) (s t : Seat T) (l : Line) (a b : Running) → CallIsAt r s continues D3 a → Follows r s t continues D3 a (Goes l b) → CallIsAt r t continues D4 b
to_d4 r s t l a b h f = subst (CallIsAt r t continues D4) (sym (same_registers l D4 b (record a { tail = ref_of r.plan.setup.bits f.found }) f.leads_to)) (after_d3 r s t continues f.found a h f.did)

pub to_d5 : {T : Type 0} (r : Arena) (s t : Seat T) (l : Line) (a b : Running) → CallIsAt r s continues D4 a → Follows r s t continues D4 a (Goes l b) → CallIsAt r t continues D5 b
to_d5 r s t l a b h f = subst (CallIsAt r t continues D5) (sym (same_registers l D5 b (record a { next = ref_of r.plan.setup.bits f.found }) f.leads_to)) (after_d4 r s t continues f.found a h f.did)

-- a line whose step goes back to D2 fails its turn
module _ {T : Type 0} (r : Arena) (s t x : Seat T) (l : Line) (n : ℕ) (d : DidStep r t x continues l n) (before : List Event)
    (w : ExtendsPath (view s) (view t) before) (never : failed_turns before ≡ 0) (one : failed_at l (Some D2) ≡ 1) where
  abbrev last : Event
  last = event r t x continues l n d

  fell : ExtendsPath (view t) (view x) (last ∷ []) → IsBefore r x continues D2 → TurnFailed r s x (before ++ last ∷ [])
  fell walk h =
      record {
        before = h;
        walks = walk_then (view s) (view t) (view x) before (last ∷ []) w walk;
        once = turns_then r t x l n d before (Some D2) h.line never ∙ one;
        last = fails_last r t x l n d before (Some D2) h.line one;
      }

-- the lines D2 to D5
module _ {T : Type 0} (r : Arena) (s u t v x : Seat T) (prologue : Prologue) (a b c d : Running) (l k j : Line) (out : RowOutcome Running)
    (h : IsBefore r s prologue D2) (f2 : Follows r s u prologue D2 a (Goes l b)) (f3 : Follows r u t continues D3 b (Goes k c))
    (f4 : Follows r t v continues D4 c (Goes j d)) (f5 : Follows r v x continues D5 d out) where
  abbrev two : Event
  two = event r s u prologue D2 f2.found f2.did

  abbrev three : Event
  three = event r u t continues D3 f3.found f3.did

  abbrev four : Event
  four = event r t v continues D4 f4.found f4.did

  abbrev five : Event
  five = event r v x continues D5 f5.found f5.did

  abbrev reads : List Event
  reads = two ∷ three ∷ four ∷ []

  at_d5 : CallIsAt r v continues D5 d
  at_d5 = to_d5 r t v j c d (to_d4 r u t k b c (to_d3 r s u prologue l a b h f2) f3) f4

  walked : ExtendsPath (view s) (view v) reads
  walked =
      walk_then (view s) (view t) (view v) (two ∷ three ∷ []) (four ∷ [])
      (walk_then (view s) (view u) (view t) (two ∷ []) (three ∷ []) (walk_on r s u prologue D2 f2.found f2.did refl tt) (walk_on r u t continues D3 f3.found f3.did refl tt))
      (walk_on r t v continues D4 f4.found f4.did refl tt)

  abbrev replied : Option replies.Reply
  replied = (outcome_at r.plan.setup f5.did.told.was (view v).number (view v).actor D5).reply

  -- D5 notes nothing where it doesn't find the queue empty
  five_walk : (q : Option replies.Reply) → replied ≡ q → notes_of q (view x).seen ≡ [] → ExtendsPath (view v) (view x) (five ∷ [])
  five_walk q e none = walk_one r v x continues D5 f5.found f5.did refl (ap (λ p. notes_of p (view x).seen) e ∙ none)

  on_walk : (q : Option replies.Reply) → replied ≡ q → notes_of q (view x).seen ≡ [] → ExtendsPath (view s) (view x) (reads ++ five ∷ [])
  on_walk q e none = walk_then (view s) (view v) (view x) reads (five ∷ []) walked (five_walk q e none)

  counts : (o : Option Line) → (view x).actor.line ≡ o → failed_turns (reads ++ five ∷ []) ≡ failed_at D5 o
  counts o e = turns_then r v x D5 f5.found f5.did reads o e refl

  stopped : (refusal : Refusal) → AfterD5 r v x continues f5.found d f5.did (Ends (IsRefused refusal)) → ((view x).actor.pocket ≡ None) × Stops r s x (reads ++ five ∷ []) refusal
  stopped Closed f = (
    f.empty,
    record {
      over = f.over;
      never = counts None f.over;
      finds = then_shut_empty (view s) (view v) (view x) reads (five ∷ []) walked (shut_empty_on r v x continues D5 f5.found f5.did refl f.replies (λ h. h));
      cause = stopped_at r v x continues D5 f5.found f5.did s reads Closed walked f.replies;
    },
  )
  stopped _ f = (
    f.empty,
    record {
      over = f.over;
      walks = on_walk (Some (reply.Refused (WornOut OfTail))) f.replies refl;
      never = counts None f.over;
      is = f.is;
      cause = stopped_at r v x continues D5 f5.found f5.did s reads (WornOut OfTail) walked f.replies;
    },
  )

  by_outcome : (o : RowOutcome Running) → AfterD5 r v x continues f5.found d f5.did o → ((view x).actor.pocket ≡ None) × FrontRead r s x (reads ++ five ∷ []) o
  by_outcome (Goes D2 e) f = (empty_before r x continues D2 f.stands.before, fell r s v x D5 f5.found f5.did reads walked refl refl (five_walk None f.quiet refl) f.stands.before)
  by_outcome (Goes D10 e) f = (empty_before r x continues D10 f.stands.before, record { stands = f.stands; walks = on_walk None f.quiet refl; never = counts (Some D10) f.stands.before.line })
  by_outcome (Goes D12 e) f = (empty_before r x continues D12 f.stands.before, record { stands = f.stands; walks = on_walk None f.quiet refl; never = counts (Some D12) f.stands.before.line })
  by_outcome (Goes _ e) f = absurd f
  by_outcome (Ends IsDone) f = absurd f
  by_outcome (Ends (IsValue word)) f = absurd f
  by_outcome (Ends IsEmpty) f =
      let notes : (view x).notes ≡ (view v).notes ++ length (view x).seen ∷ [] = f5.did.told.notes ∙ ap (λ q. (view v).notes ++ notes_of q (view x).seen) f.replies in (
        f.empty,
        record {
          over = f.over;
          path = f5.did.told.path ∙ ap (λ p. p ++ five ∷ []) walked.path ∙ append_assoc (view s).path reads (five ∷ []);
          run = prefix_then (view s).ran (view v).ran (view x).ran walked.run (ran_on r v x continues D5 f5.found f5.did);
          never = counts None f.over;
          found = record {
            number = f5.did.told.number ∙ walked.number;
            between = walked.rest;
            seen = f5.did.told.stays refl ∙ walked.seen;
            empty = subst (λ q. SaysOfSeen D5 q (view x).seen) f.replies f5.did.told.says;
            mine = f5.did.told.mine ∙ append-nil (view v).mine ∙ walked.mine;
            notes = notes ∙ ap (λ ns. ns ++ length (view x).seen ∷ []) walked.notes;
          };
        },
      )
  by_outcome (Ends (IsRefused refusal)) f = stopped refusal f

  pub looks : ReadsFront r s x out
  looks =
      let all = by_outcome out (subst (AfterD5 r v x continues f5.found d f5.did) (sym f5.leads_to) (after_d5 r v x continues f5.found d at_d5 f5.did)) in
      record {
        seat = f5.did.seat;
        empty = all.0;
        stored = then_stored s v x (then_stored s t v (then_stored s u t f2.did.stored f3.did.stored) f4.did.stored) f5.did.stored;
        slots = then_slots s v x
            (then_slots s t v (then_slots s u t (quiet_slots r s u prologue D2 f2.found f2.did refl)
            (quiet_slots r u t continues D3 f3.found f3.did refl)) (quiet_slots r t v continues D4 f4.found f4.did refl))
            (quiet_slots r v x continues D5 f5.found f5.did refl);
        lines = reads ++ five ∷ [];
        looked = all.1;
      }

-- Tail is moved, and the turn failed
pub moves_tail : {T : Type 0} (r : Arena) (s t : Seat T) (a : Running) (out : RowOutcome Running) → CallIsAt r s continues D10 a → Follows r s t continues D10 a out → Turns r s t (turn_of out)
moves_tail r s t a out h f =
    let before : IsBefore r t continues D2 = after_d10 r s t continues f.found a h f.did in
    subst (λ o. Turns r s t (turn_of o)) (sym f.leads_to)
    record {
      seat = f.did.seat;
      empty = empty_before r t continues D2 before;
      stored = f.did.stored;
      slots = quiet_slots r s t continues D10 f.found f.did refl;
      lines = event r s t continues D10 f.found f.did ∷ [];
      turned = fell r s s t D10 f.found f.did [] (no_walk (view s)) refl refl (walk_on r s t continues D10 f.found f.did refl tt) before;
    }

-- Head is never worn out at D12
pub never_worn : {T : Type 0} (r : Arena) (s t : Seat T) (a : Running) (out : RowOutcome Running) → IsNonBlocking r → CallIsAt r s continues D12 a
    → Follows r s t continues D12 a out → ((l : Line) (b : Running) → out ≡ Goes l b → ⊥) → ⊥
never_worn r s t a out kind h f other = go (nat_eq a.head.count r.plan.setup.limit) refl f.leads_to
  where
    go : (p : Bool) → nat_eq a.head.count r.plan.setup.limit ≡ p → out ≡ (if p then Ends (IsRefused (WornOut OfHead)) else Goes D13 (record a { val = f.found })) → ⊥
    go true e q = never_d12 r s t continues f.found a h f.did kind e
    go false e q = other D13 (record a { val = f.found }) q

-- the lines D12 and D13
module _ {T : Type 0} (r : Arena) (s t : Seat T) (a b : Running) (l : Line) (h : CallIsAt r s continues D12 a) (f : Follows r s t continues D12 a (Goes l b)) where
  pub to_d13 : CallIsAt r t continues D13 b
  to_d13 = go (nat_eq a.head.count r.plan.setup.limit) refl f.leads_to
    where
      go : (p : Bool) → nat_eq a.head.count r.plan.setup.limit ≡ p → Goes l b ≡ (if p then Ends (IsRefused (WornOut OfHead)) else Goes D13 (record a { val = f.found })) → CallIsAt r t continues D13 b
      go true e q = absurd (let g : Goes l b ≡ Ends (IsRefused (WornOut OfHead)) = q in cc)
      go false e q = subst (CallIsAt r t continues D13) (sym (same_registers l D13 b (record a { val = f.found }) q)) (after_d12 r s t continues f.found a h f.did e)

  read_slots : KeepsSlots s t
  read_slots = quiet_slots r s t continues D12 f.found f.did refl

  -- D12 moves no slot
  pub bare_d13 : IsBare r s → IsBare r t
  bare_d13 bare = still_bare r s t read_slots bare

  abbrev twelve : Event
  twelve = event r s t continues D12 f.found f.did

  read_walk : ExtendsPath (view s) (view t) (twelve ∷ [])
  read_walk = walk_on r s t continues D12 f.found f.did refl tt

  pub moves_head : (x : Seat T) (out : RowOutcome Running) → Follows r t x continues D13 b out → Turns r s x (turn_of out)
  moves_head x out g =
      let all = go (same_ref (ref_of r.plan.setup.bits g.found) b.head) refl in
      record {
        seat = g.did.seat;
        empty = all.0;
        stored = then_stored s t x f.did.stored g.did.stored;
        slots = subst (λ o. TurnMoves r s x (turn_of o)) (sym g.leads_to) (moves (same_ref (ref_of r.plan.setup.bits g.found) b.head) refl);
        lines = twelve ∷ last ∷ [];
        turned = subst (λ o. Turned r s x (twelve ∷ last ∷ []) (turn_of o)) (sym g.leads_to) all.1;
      }
    where
      last : Event
      last = event r t x continues D13 g.found g.did

      moves : (p : Bool) → same_ref (ref_of r.plan.setup.bits g.found) b.head ≡ p
          → TurnMoves r s x (turn_of (if p then Goes F1 (record b { node = b.head.node; mark = b.next.count; due = Some (IsValue b.val) }) else Goes
          D2 b))
      moves true e =
          let w : Won r t x continues g.found b g.did = won_d13 r t x continues g.found b to_d13 g.did e in
          then_takes r (value_of b.val) s t x read_slots (subst (λ (v : Taken). TakesSlot r v t x) to_d13.knows.2
          (takes_slot r t x continues D13 g.found g.did (view t).number (view t).actor.val w.adds))
      moves false e = let w : Lost r t x continues g.found b g.did = lost_d13 r t x continues g.found b to_d13 g.did e in then_slots s t x read_slots
          (quiet_slots r t x continues D13 g.found g.did w.adds)

      go : (p : Bool) → same_ref (ref_of r.plan.setup.bits g.found) b.head ≡ p → ((view x).actor.pocket ≡ None)
          × Turned r s x (twelve ∷ event r t x continues D13 g.found g.did ∷ []) (turn_of
          (if p then Goes F1 (record b { node = b.head.node; mark = b.next.count; due = Some (IsValue b.val) }) else Goes D2 b))
      go true e =
          let w : Won r t x continues g.found b g.did = won_d13 r t x continues g.found b to_d13 g.did e in (
            w.has.empty,
            record {
              over = w.has.over;
              due = w.has.due;
              node = w.has.node;
              mark = w.has.mark;
              acts = then_act (view s) (view t) (view x) (Pop (view t).number (view t).actor.val) (Pop (view s).number (value_of b.val)) (twelve ∷ [])
                  (event r t x continues D13 g.found g.did ∷ []) (λ i. Pop (read_walk.number i) (to_d13.knows.2 i)) read_walk
                  (act_on r t x continues D13 g.found g.did (Pop (view t).number (view t).actor.val) w.adds tt);
              never = turns_then r t x D13 g.found g.did (twelve ∷ []) (Some F1) w.has.over refl;
            },
          )
      go false e =
          let w : Lost r t x continues g.found b g.did = lost_d13 r t x continues g.found b to_d13 g.did e in
          (empty_before r x continues D2 w.before, fell r s t x D13 g.found g.did (twelve ∷ []) read_walk refl refl (walk_on r t x continues D13 g.found g.did w.adds tt) w.before)

-- lines of a turn before its last ones
module _ {T : Type 0} (r : Arena) (s t x : Seat T) (es : List Event) (stored : KeepsStored s t) (slots : KeepsSlots s t) (w : ExtendsPath (view s) (view t) es) (never : failed_turns es ≡ 0) where
  moved : (out : Turn) → TurnMoves r t x out → TurnMoves r s x out
  moved (turn.Took word h) y = then_takes r (value_of word) s t x slots y
  moved turn.Failed y = then_slots s t x slots y
  moved turn.Empty y = then_slots s t x slots y
  moved (turn.Refused refusal) y = then_slots s t x slots y

  behind : (out : Turn) (fs : List Event) → Turned r t x fs out → Turned r s x (es ++ fs) out
  behind (turn.Took word h) fs k =
      record {
        over = k.over;
        due = k.due;
        node = k.node;
        mark = k.mark;
        acts = then_act (view s) (view t) (view x) (Pop (view t).number (value_of word)) (Pop (view s).number (value_of word)) es fs (λ i. Pop (w.number i) (value_of word)) w k.acts;
        never = omega (arith, failed-append es fs, never, k.never);
      }
  behind turn.Failed fs k =
      record {
        before = k.before;
        walks = walk_then (view s) (view t) (view x) es fs w k.walks;
        once = omega (arith, failed-append es fs, never, k.once);
        last = failed_behind es fs k.last;
      }
  behind turn.Empty fs k =
      record {
        over = k.over;
        path = k.path ∙ ap (λ p. p ++ fs) w.path ∙ append_assoc (view s).path es fs;
        run = prefix_then (view s).ran (view t).ran (view x).ran w.run k.run;
        never = omega (arith, failed-append es fs, never, k.never);
        found = answers_then (known_of s) (known_of t) (known_of x) None (sees_on (view s) (view t) es w) k.found;
      }
  behind (turn.Refused refusal) fs k = stops refusal k
    where
      stops : (refusal : Refusal) → Stops r t x fs refusal → Stops r s x (es ++ fs) refusal
      stops Closed k =
          record {
            over = k.over;
            never = omega (arith, failed-append es fs, never, k.never);
            finds = then_shut_empty (view s) (view t) (view x) es fs w k.finds;
            cause = stopped_behind r s t es fs Closed w k.cause;
          }
      stops _ k =
          record {
            over = k.over;
            walks = walk_then (view s) (view t) (view x) es fs w k.walks;
            never = omega (arith, failed-append es fs, never, k.never);
            is = k.is;
            cause = stopped_behind r s t es fs (WornOut OfTail) w k.cause;
          }

  pub turn_behind : (out : Turn) → Turns r t x out → Turns r s x out
  turn_behind out d = record { seat = d.seat; empty = d.empty; stored = then_stored s t x stored d.stored; slots = moved out d.slots; lines = es ++ d.lines; turned = behind out d.lines d.turned }
