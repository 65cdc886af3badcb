-- What a step makes of its actor is in range.
use Rattle.std.proofs.Common.{◌≡◌, ℕ, ◌+◌, ◌≤◌, Bool, true, false, nat_eq, nat_lt, if◌then◌else◌, Option, Some, None, IfSome, arith}
use Rattle.std.proofs.lemmas.Bool.{ltb-true}
use Rattle.step_machine.specs.Below.{Ref, is_null, same_ref, Kind, TwoLock, NonBlocking, Line, N1, N2, N3, N4, N5, F1, F3, E3, E5, E6, E7, E9, E17}
use Rattle.step_machine.specs.Below.{D2, D3, D4, D5, D12, D13, A3, A4, B1, B2, B3, B4, B5, B6, A5, A7, S1, S2, S3, S4, S6, S7, S8, S9, is_shut, null}
use Rattle.step_machine.specs.Below.{left, left_with_node, Taken, Reply, Done, Refused, Setup, Actor, Outcome, word, Found, action, outcome, freed}
use Rattle.step_machine.specs.Below.{unlocked, sets_aside, goes, ends, effect, empties_hand, to_pocket, with_node, fills_hand, busy_or, gives_up}
use Rattle.step_machine.specs.Range.{RefInRange, NextInRange, ValueInRange, HeldInRange, RegistersInRange, LineInRange}
use Rattle.step_machine.proofs.Choices.{either, both}
use Rattle.step_machine.proofs.Range.{ContentInRange}

-- the actor of an outcome is in range
pub record OutcomeInRange (s : Setup) (n k : ℕ) (o : Outcome) : Type 0 where
  pub registers : RegistersInRange s n k o.actor
  pub pocket : IfSome o.actor.pocket (HeldInRange s.limit n)
  pub line : LineInRange s.size o.actor.f o.actor.line

module _ (s : Setup) (n k : ℕ) where
  -- one register is given anew
  with_f : (a : Actor) (c : ℕ) → RegistersInRange s n k a → c ≤ n → RegistersInRange s n k (record a { f = c })
  with_f a c h g = record { op = h.op; f = g; top = h.top; node = h.node; mark = h.mark; tail = h.tail; head = h.head; next = h.next; val = h.val }

  with_top : (a : Actor) (c : Ref) → RegistersInRange s n k a → RefInRange s.limit n c → RegistersInRange s n k (record a { top = c })
  with_top a c h g = record { op = h.op; f = h.f; top = g; node = h.node; mark = h.mark; tail = h.tail; head = h.head; next = h.next; val = h.val }

  with_tail : (a : Actor) (c : Ref) → RegistersInRange s n k a → RefInRange s.limit n c → RegistersInRange s n k (record a { tail = c })
  with_tail a c h g = record { op = h.op; f = h.f; top = h.top; node = h.node; mark = h.mark; tail = g; head = h.head; next = h.next; val = h.val }

  with_head : (a : Actor) (c : Ref) → RegistersInRange s n k a → RefInRange s.limit n c → RegistersInRange s n k (record a { head = c })
  with_head a c h g = record { op = h.op; f = h.f; top = h.top; node = h.node; mark = h.mark; tail = h.tail; head = g; next = h.next; val = h.val }

  with_next : (a : Actor) (c : Ref) → RegistersInRange s n k a → NextInRange s.bits s.limit n c → RegistersInRange s n k (record a { next = c })
  with_next a c h g = record { op = h.op; f = h.f; top = h.top; node = h.node; mark = h.mark; tail = h.tail; head = h.head; next = g; val = h.val }

  with_val : (a : Actor) (c : Taken) → RegistersInRange s n k a → ValueInRange k c → RegistersInRange s n k (record a { val = c })
  with_val a c h g = record { op = h.op; f = h.f; top = h.top; node = h.node; mark = h.mark; tail = h.tail; head = h.head; next = h.next; val = g }

  pub with_held : (a : Actor) (node mark : ℕ) → RegistersInRange s n k a → node ≤ n → mark ≤ s.limit → RegistersInRange s n k (fills_hand node mark a)
  with_held a node mark h g m = record { op = h.op; f = h.f; top = h.top; node = g; mark = m; tail = h.tail; head = h.head; next = h.next; val = h.val }

  freed_kept : (kind : Kind) (now : ℕ) (due : Option Reply) (a : Actor) → RegistersInRange s n k a → IfSome a.pocket (HeldInRange s.limit n) → OutcomeInRange s n k (freed kind now due a)
  freed_kept TwoLock now None a h p = record { registers = h; pocket = p; line = tt }
  freed_kept NonBlocking now None a h p = record { registers = h; pocket = p; line = tt }
  freed_kept kind now (Some reply) a h p = record { registers = h; pocket = p; line = tt }

  unlocked_kept : (now : ℕ) (due : Option Reply) (a : Actor) → RegistersInRange s n k a → IfSome a.pocket (HeldInRange s.limit n) → OutcomeInRange s n k (unlocked now due a)
  unlocked_kept now (Some Done) a h p = record { registers = h; pocket = p; line = tt }
  unlocked_kept now _ a h p = record { registers = h; pocket = p; line = tt }

  left_kept : (now : ℕ) (due : Option Reply) (a : Actor) → RegistersInRange s n k a → IfSome a.pocket (HeldInRange s.limit n) → OutcomeInRange s n k (left now due a)
  left_kept now (Some (Refused refusal)) a h p = record { registers = h; pocket = p; line = tt }
  left_kept now _ a h p = record { registers = h; pocket = p; line = tt }

  left_with_node_kept : (now : ℕ) (due : Option Reply) (a : Actor) → RegistersInRange s n k a → IfSome a.pocket (HeldInRange s.limit n) → OutcomeInRange s n k (left_with_node now due a)
  left_with_node_kept now (Some (Refused refusal)) a h p = record { registers = h; pocket = record { node = h.node; mark = h.mark }; line = tt }
  left_with_node_kept now _ a h p = record { registers = h; pocket = p; line = tt }

  with_node_kept : (kind : Kind) (a : Actor) → RegistersInRange s n k a → IfSome a.pocket (HeldInRange s.limit n) → OutcomeInRange s n k (goes (with_node kind) a)
  with_node_kept TwoLock a h p = record { registers = h; pocket = p; line = tt }
  with_node_kept NonBlocking a h p = record { registers = h; pocket = p; line = tt }

  ended_or : (b : Bool) (now : ℕ) (a : Actor) → RegistersInRange s n k a → IfSome a.pocket (HeldInRange s.limit n) → OutcomeInRange s n k (effect now (if b then ends now Done a else goes E17 a))
  ended_or true now a h p = record { registers = h; pocket = p; line = tt }
  ended_or false now a h p = record { registers = h; pocket = p; line = tt }

  aside_kept : (o : Outcome) → OutcomeInRange s n k o → OutcomeInRange s n k (sets_aside o)
  aside_kept o g = record { registers = g.registers; pocket = g.pocket; line = g.line }

  -- where a line wins a node that was never used, the node is one of those used now
  abbrev pub Wins : (me : ℕ) (a : Actor) (l : Line) → Found (action s me a l) → Type 0
  Wins me a N5 c = nat_eq c a.f ≡ true → a.f + 1 ≤ n
  Wins me a _ c = Unit {0}

  pub outcome_in_range : (now me : ℕ) (a : Actor) (l : Line) (c : Found (action s me a l)) → RegistersInRange s n k a → IfSome a.pocket (HeldInRange s.limit n)
      → Wins me a l c → ContentInRange s n k (word (action s me a l)) c → OutcomeInRange s n k (outcome s now me a l c)
  outcome_in_range now me a N1 c h p w g = record { registers = with_f a c h g; pocket = p; line = tt }
  outcome_in_range now me a N2 c h p w g =
      let r : RegistersInRange s n k (record a { top = c }) = with_top a c h g in
      both (OutcomeInRange s n k) (is_null c)
      (either (OutcomeInRange s n k) (nat_lt a.f s.size) (λ e. record { registers = r; pocket = p; line = ltb-true a.f s.size e }) (λ e. record { registers = r; pocket = p; line = tt }))
      (both (OutcomeInRange s n k) (nat_eq c.count s.limit) (record { registers = r; pocket = p; line = tt }) (record { registers = r; pocket = p; line = tt }))
  outcome_in_range now me a N3 c h p w g = record { registers = with_next a c h g; pocket = p; line = tt }
  outcome_in_range now me a N4 c h p w g =
      both (OutcomeInRange s n k) (same_ref c a.top)
      (with_node_kept s.kind (fills_hand a.top.node a.next.count a) (with_held a a.top.node a.next.count h h.top.node h.next.count) p)
      (record { registers = h; pocket = p; line = tt })
  outcome_in_range now me a N5 c h p w g =
      either (OutcomeInRange s n k) (nat_eq c a.f)
      (λ e. with_node_kept s.kind (fills_hand (a.f + 1) 0 a) (with_held a (a.f + 1) 0 h (w e) (omega arith)) p)
      (λ e. record { registers = h; pocket = p; line = tt })
  outcome_in_range now me a F1 c h p w g =
      let r : RegistersInRange s n k (record a { top = c }) = with_top a c h g in
      both (OutcomeInRange s n k) (nat_eq c.count s.limit) (aside_kept _ (freed_kept s.kind now a.due (record a { top = c }) r p)) (record { registers = r; pocket = p; line = tt })
  outcome_in_range now me a F3 c h p w g = both (OutcomeInRange s n k) (same_ref c a.top) (freed_kept s.kind now a.due (empties_hand a) h p) (record { registers = h; pocket = p; line = tt })
  outcome_in_range now me a E3 c h p w g =
      let m : c.count ≤ s.limit = g.count in
      let r : RegistersInRange s n k (record a { mark = c.count }) = with_held a a.node c.count h h.node m in
      both (OutcomeInRange s n k) (nat_eq c.count s.limit) (record { registers = r; pocket = p; line = tt }) (record { registers = r; pocket = p; line = tt })
  outcome_in_range now me a E5 c h p w g = record { registers = with_tail a c h g; pocket = p; line = tt }
  outcome_in_range now me a E6 c h p w g = record { registers = with_next a c h g; pocket = p; line = tt }
  outcome_in_range now me a E7 c h p w g =
      both (OutcomeInRange s n k) (same_ref c a.tail)
      (both (OutcomeInRange s n k) (is_null a.next) (record { registers = h; pocket = p; line = tt })
      (both (OutcomeInRange s n k) (is_shut s.bits a.next) (record { registers = h; pocket = record { node = h.node; mark = h.mark }; line = tt })
      (both (OutcomeInRange s n k) (nat_eq a.tail.count s.limit) (record {
        registers = h;
        pocket = record { node = h.node; mark = h.mark };
        line = tt;
      }) (record { registers = h; pocket = p; line = tt }))))
      (record { registers = h; pocket = p; line = tt })
  outcome_in_range now me a E9 c h p w g =
      both (OutcomeInRange s n k) (same_ref c a.next) (ended_or (nat_eq a.tail.count s.limit) now (empties_hand (record a { due = Some Done })) h p) (record { registers = h; pocket = p; line = tt })
  outcome_in_range now me a D2 c h p w g = record { registers = with_head a c h g; pocket = p; line = tt }
  outcome_in_range now me a D3 c h p w g = record { registers = with_tail a c h g; pocket = p; line = tt }
  outcome_in_range now me a D4 c h p w g = record { registers = with_next a c h g; pocket = p; line = tt }
  outcome_in_range now me a D5 c h p w g =
      both (OutcomeInRange s n k) (same_ref c a.head)
      (both (OutcomeInRange s n k) (nat_eq a.head.node a.tail.node)
      (both (OutcomeInRange s n k) (is_null a.next) (record { registers = h; pocket = p; line = tt })
      (both (OutcomeInRange s n k) (is_shut s.bits a.next) (record { registers = h; pocket = p; line = tt })
      (both (OutcomeInRange s n k) (nat_eq a.tail.count s.limit) (record { registers = h; pocket = p; line = tt }) (record { registers = h; pocket = p; line = tt }))))
      (record { registers = h; pocket = p; line = tt }))
      (record { registers = h; pocket = p; line = tt })
  outcome_in_range now me a D12 c h p w g =
      let r : RegistersInRange s n k (record a { val = c }) = with_val a c h g in
      both (OutcomeInRange s n k) (nat_eq a.head.count s.limit) (record { registers = r; pocket = p; line = tt }) (record { registers = r; pocket = p; line = tt })
  outcome_in_range now me a D13 c h p w g =
      both (OutcomeInRange s n k) (same_ref c a.head) (record {
        registers = with_held a a.head.node a.next.count h h.head.node h.next.count;
        pocket = p;
        line = tt;
      }) (record { registers = h; pocket = p; line = tt })
  outcome_in_range now me a A3 c h p w g = both (OutcomeInRange s n k) (nat_eq c 0) (record { registers = h; pocket = p; line = tt }) (record { registers = h; pocket = p; line = tt })
  outcome_in_range now me a A4 c h p w g = record { registers = with_tail a c h g; pocket = p; line = tt }
  outcome_in_range now me a B1 c h p w g = both (OutcomeInRange s n k) (nat_eq c 0) (record { registers = h; pocket = p; line = tt }) (record { registers = h; pocket = p; line = tt })
  outcome_in_range now me a B2 c h p w g = record { registers = with_head a c h g; pocket = p; line = tt }
  outcome_in_range now me a B3 c h p w g =
      let r : RegistersInRange s n k (record a { next = c }) = with_next a c h g in
      both (OutcomeInRange s n k) (is_null c) (record { registers = r; pocket = p; line = tt })
      (both (OutcomeInRange s n k) (is_shut s.bits c) (record { registers = r; pocket = p; line = tt }) (record { registers = r; pocket = p; line = tt }))
  outcome_in_range now me a B4 c h p w g =
      let r : RegistersInRange s n k (record a { val = c }) = with_val a c h g in
      both (OutcomeInRange s n k) (nat_eq a.head.count s.limit) (record { registers = r; pocket = p; line = tt }) (record { registers = r; pocket = p; line = tt })
  outcome_in_range now me a B5 c h p w g = record { registers = with_held a a.head.node a.next.count h h.head.node h.next.count; pocket = p; line = tt }
  outcome_in_range now me a B6 c h p w g = unlocked_kept now a.due a h p
  outcome_in_range now me a A5 c h p w g = both (OutcomeInRange s n k) (same_ref c null) (record { registers = h; pocket = p; line = tt }) (record { registers = h; pocket = p; line = tt })
  outcome_in_range now me a A7 c h p w g = left_with_node_kept now a.due a h p
  outcome_in_range now me a S1 c h p w g = record { registers = with_tail a c h g; pocket = p; line = tt }
  outcome_in_range now me a S2 c h p w g = record { registers = with_next a c h g; pocket = p; line = tt }
  outcome_in_range now me a S3 c h p w g =
      both (OutcomeInRange s n k) (same_ref c a.tail)
      (both (OutcomeInRange s n k) (is_null a.next) (record { registers = h; pocket = p; line = tt })
      (both (OutcomeInRange s n k) (is_shut s.bits a.next) (record { registers = h; pocket = p; line = tt })
      (both (OutcomeInRange s n k) (nat_eq a.tail.count s.limit) (record { registers = h; pocket = p; line = tt }) (record { registers = h; pocket = p; line = tt }))))
      (record { registers = h; pocket = p; line = tt })
  outcome_in_range now me a S4 c h p w g = both (OutcomeInRange s n k) (same_ref c a.next) (record { registers = h; pocket = p; line = tt }) (record { registers = h; pocket = p; line = tt })
  outcome_in_range now me a S6 c h p w g = both (OutcomeInRange s n k) (nat_eq c 0) (record { registers = h; pocket = p; line = tt }) (record { registers = h; pocket = p; line = tt })
  outcome_in_range now me a S7 c h p w g = record { registers = with_tail a c h g; pocket = p; line = tt }
  outcome_in_range now me a S8 c h p w g = both (OutcomeInRange s n k) (same_ref c null) (record { registers = h; pocket = p; line = tt }) (record { registers = h; pocket = p; line = tt })
  outcome_in_range now me a S9 c h p w g = left_kept now a.due a h p
  outcome_in_range now me a _ c h p w g = record { registers = h; pocket = p; line = tt }

  busy_or_kept : (now : ℕ) (due : Option Reply) (a : Actor) → RegistersInRange s n k a → IfSome a.pocket (HeldInRange s.limit n) → IfSome (busy_or now due a) (OutcomeInRange s n k)
  busy_or_kept now None a h p = record { registers = h; pocket = p; line = tt }
  busy_or_kept now (Some reply) a h p = record { registers = h; pocket = p; line = tt }

  pub given_up_kept : (now : ℕ) (a : Actor) (l : Line) → RegistersInRange s n k a → IfSome a.pocket (HeldInRange s.limit n) → IfSome (gives_up now a l) (OutcomeInRange s n k)
  given_up_kept now a N1 h p = record { registers = h; pocket = p; line = tt }
  given_up_kept now a F1 h p = busy_or_kept now a.due (to_pocket a) h (record { node = h.node; mark = h.mark })
  given_up_kept now a E5 h p = record { registers = h; pocket = record { node = h.node; mark = h.mark }; line = tt }
  given_up_kept now a D2 h p = record { registers = h; pocket = p; line = tt }
  given_up_kept now a A3 h p = record { registers = h; pocket = record { node = h.node; mark = h.mark }; line = tt }
  given_up_kept now a B1 h p = record { registers = h; pocket = p; line = tt }
  given_up_kept now a S1 h p = record { registers = h; pocket = p; line = tt }
  given_up_kept now a S6 h p = record { registers = h; pocket = p; line = tt }
  given_up_kept now a _ h p = tt
