-- Each actor stands before a line of its queue, and where no null follows Head, before nodes and not null.
use Rattle.std.proofs.Common.{◌≡◌, ◌≢◌, ℕ, ◌+◌, ◌≤◌, Bool, true, false, nat_eq, nat_lt, if◌then◌else◌, Option, Some, None, IfSome, arith}
use Rattle.std.proofs.lemmas.Bool.{eqb-false}
use Rattle.step_machine.specs.Below.{Ref, ref, reserved_node, left, left_with_node, is_null, same_ref, Kind, TwoLock, NonBlocking, Line, N1, N2, N3}
use Rattle.step_machine.specs.Below.{N4, N5, F1, F2, F3, E2, E3, E5, E6, E7, E9, E13, E17, D2, D3, D4, D5, D10, D12, D13, A1, A2, A3, A4, A5, A6, A7}
use Rattle.step_machine.specs.Below.{B1, B2, B3, B4, B5, B6, S1, S2, S3, S4, S5, S6, S7, S8, S9, is_shut, null, section_of, Op, Enq, Deq, Shut, Reply}
use Rattle.step_machine.specs.Below.{Done, Value, Refused, Setup, Held, Actor, Outcome, Shared, Word, Content, content, Action, word, Found}
use Rattle.step_machine.specs.Below.{performed, same, load, store, clear, exchange, Head, Tail, Next, put, action, raised, outcome, freed, unlocked}
use Rattle.step_machine.specs.Below.{sets_aside, goes, ends, effect, empties_hand, to_pocket, with_node, fills_hand, busy_or, gives_up, from_pocket}
use Rattle.step_machine.specs.Below.{begun}
use Rattle.step_machine.specs.Machine.{rested, may_rest}
use Rattle.step_machine.specs.ProgramCounters.{IsRunBy, HasNodeToFree, HasNodeAfter, NonNullAt, IsAtLine, PcIsValid}
use Rattle.step_machine.proofs.Choices.{either, both}

-- Head and Tail hold nodes
pub record EndsHold (m : Shared) : Type 0 where
  pub head : 1 ≤ m.head.node
  pub tail : 1 ≤ m.tail.node

-- a content of Head or of Tail holds a node
abbrev pub ContentHolds : (x : Word) → Content x → Type 0
ContentHolds Head r = 1 ≤ r.node
ContentHolds Tail r = 1 ≤ r.node
ContentHolds _ c = Unit {0}

-- what an access writes into Head or Tail holds a node
abbrev WritesHold : Action → Type 0
WritesHold (load x) = Unit {0}
WritesHold (store x c) = ContentHolds x c
WritesHold (clear n) = Unit {0}
WritesHold (exchange x old new) = ContentHolds x new

raised_holds : (s : Setup) (r : Ref) (to : ℕ) → 1 ≤ r.node → 1 ≤ to → 1 ≤ (raised s r to).node
raised_holds s r to h g = go (nat_eq to (reserved_node s.bits)) (nat_eq r.count s.limit)
  where
    go : (b c : Bool) → 1 ≤ (if b then r else if c then r else ref to (r.count + 1)).node
    go true c = h
    go false true = h
    go false false = g

writes_hold : (s : Setup) (me : ℕ) (a : Actor) (l : Line) → NonNullAt s.bits l a → WritesHold (action s me a l)
writes_hold s me a E13 h = raised_holds s a.tail a.next.node h.1 h.2
writes_hold s me a E17 h = raised_holds s a.tail a.node h.1 h.0
writes_hold s me a D10 h = raised_holds s a.tail a.next.node h.0 h.1
writes_hold s me a D13 h = raised_holds s a.head a.next.node h.0 h.1
writes_hold s me a A6 h = h
writes_hold s me a B5 h = raised_holds s a.head a.next.node h.0 h.1
writes_hold s me a S5 h = raised_holds s a.tail a.next.node h.0 h.1
writes_hold s me a _ h = tt

put_holds : (m : Shared) (x : Word) (c : Content x) → EndsHold m → ContentHolds x c → EndsHold (put x c m)
put_holds m Head c h g = record { head = g; tail = h.tail }
put_holds m Tail c h g = record { head = h.head; tail = g }
put_holds m _ c h g = record { head = h.head; tail = h.tail }

performed_holds : (m : Shared) (a : Action) → EndsHold m → WritesHold a → EndsHold (performed a m)
performed_holds m (load x) h g = h
performed_holds m (store x c) h g = put_holds m x c h g
performed_holds m (clear n) h g = put_holds m (Next n) _ h tt
performed_holds m (exchange x old new) h g = both EndsHold (same x (content x m) old) (put_holds m x new h g) h

pub found_holds : (m : Shared) (x : Word) → EndsHold m → ContentHolds x (content x m)
found_holds m Head h = h.head
found_holds m Tail h = h.tail
found_holds m _ h = tt

-- an access before a line whose nodes are held keeps nodes in Head and Tail
pub access_holds : (s : Setup) (me : ℕ) (m : Shared) (a : Actor) (l : Line) → EndsHold m → NonNullAt s.bits l a → EndsHold (performed (action s me a l) m)
access_holds s me m a l h g = performed_holds m (action s me a l) h (writes_hold s me a l g)

-- the actor of an outcome stands before a line of its queue, with nodes
pub record Placed (bits : ℕ) (kind : Kind) (o : Outcome) : Type 0 where
  pub pocket : IfSome o.actor.pocket (λ held. 1 ≤ held.node)
  pub line : IsAtLine bits kind o.actor o.actor.line

has_after : (due : Option Reply) (node : ℕ) → 1 ≤ node → HasNodeAfter due node
has_after (Some (Refused refusal)) node h = h
has_after _ node h = tt

not_shut : (bits : ℕ) (r : Ref) → is_shut bits r ≡ false → r.node ≢ reserved_node bits
not_shut bits r e = eqb-false r.node (reserved_node bits) e

not_null : (r : Ref) → is_null r ≡ false → 1 ≤ r.node
not_null r e = let ne : ¬ (r.node ≡ 0) = eqb-false r.node 0 e in omega arith

-- where an actor stands says nothing of whether it holds its node, nor of where its operation is
pub still_stands : (bits : ℕ) (kind : Kind) (a : Actor) (holds : Bool) (entry : Option ℕ) (l : Option Line) → IsAtLine bits kind a l → IsAtLine bits kind (record a { holds = holds; entry = entry }) l
still_stands bits kind a holds entry None h = tt
still_stands bits kind a holds entry (Some N1) h = h
still_stands bits kind a holds entry (Some _) h = h

module _ (s : Setup) where
  freed_placed : (kind : Kind) (now : ℕ) (due : Option Reply) (a : Actor) → IfSome a.pocket (λ held. 1 ≤ held.node) → Placed s.bits kind (freed kind now due a)
  freed_placed TwoLock now None a p = record { pocket = p; line = (tt, tt) }
  freed_placed NonBlocking now None a p = record { pocket = p; line = (tt, tt) }
  freed_placed kind now (Some reply) a p = record { pocket = p; line = tt }

  unlocked_placed : (now : ℕ) (due : Option Reply) (a : Actor) → IfSome a.pocket (λ held. 1 ≤ held.node) → HasNodeToFree due a.node → Placed s.bits s.kind (unlocked now due a)
  unlocked_placed now None a p h = record { pocket = p; line = (tt, h) }
  unlocked_placed now (Some (Value v)) a p h = record { pocket = p; line = (tt, h) }
  unlocked_placed now _ a p h = record { pocket = p; line = tt }

  left_placed : (now : ℕ) (due : Option Reply) (a : Actor) → IfSome a.pocket (λ held. 1 ≤ held.node) → Placed s.bits s.kind (left now due a)
  left_placed now (Some (Refused refusal)) a p = record { pocket = p; line = tt }
  left_placed now _ a p = record { pocket = p; line = tt }

  left_with_node_placed : (now : ℕ) (due : Option Reply) (a : Actor) → IfSome a.pocket (λ held. 1 ≤ held.node) → HasNodeAfter due a.node → Placed s.bits s.kind (left_with_node now due a)
  left_with_node_placed now (Some (Refused refusal)) a p h = record { pocket = h; line = tt }
  left_with_node_placed now _ a p h = record { pocket = p; line = tt }

  with_node_placed : (kind : Kind) (a : Actor) → IfSome a.pocket (λ held. 1 ≤ held.node) → 1 ≤ a.node → Placed s.bits kind (goes (with_node kind) a)
  with_node_placed TwoLock a p h = record { pocket = p; line = (tt, h) }
  with_node_placed NonBlocking a p h = record { pocket = p; line = (tt, h) }

  ended_or : (b : Bool) (now : ℕ) (a : Actor) → IfSome a.pocket (λ held. 1 ≤ held.node) → IsAtLine s.bits s.kind a (Some E17)
      → Placed s.bits s.kind (effect now (if b then ends now Done a else goes E17 a))
  ended_or true now a p h = record { pocket = p; line = tt }
  ended_or false now a p h = record { pocket = p; line = h }

  aside_placed : (o : Outcome) → Placed s.bits s.kind o → Placed s.bits s.kind (sets_aside o)
  aside_placed o g = record { pocket = g.pocket; line = still_stands s.bits s.kind o.actor false o.actor.entry o.actor.line g.line }

  -- a dequeue that goes on to take a value found a node behind Head
  abbrev pub FoundANode : (me : ℕ) (a : Actor) (l : Line) → Found (action s me a l) → Type 0
  FoundANode me a D5 c = same_ref c a.head ≡ true → nat_eq a.head.node a.tail.node ≡ false → (1 ≤ a.next.node) × (a.next.node ≢ reserved_node s.bits)
  FoundANode me a _ c = Unit {0}

  pub placed : (now me : ℕ) (a : Actor) (l : Line) (c : Found (action s me a l)) → IfSome a.pocket (λ held. 1 ≤ held.node) → IsRunBy (section_of l) s.kind
      → NonNullAt s.bits l a → ContentHolds (word (action s me a l)) c → FoundANode me a l c → Placed s.bits s.kind (outcome s now me a l c)
  placed now me a N1 c p r h g f = record { pocket = p; line = (tt, tt) }
  placed now me a N2 c p r h g f =
      either (Placed s.bits s.kind) (is_null c)
      (λ e. both (Placed s.bits s.kind) (nat_lt a.f s.size) (record { pocket = p; line = (tt, tt) }) (record { pocket = p; line = tt }))
      (λ e. both (Placed s.bits s.kind) (nat_eq c.count s.limit) (record { pocket = p; line = tt }) (record { pocket = p; line = (tt, not_null c e) }))
  placed now me a N3 c p r h g f = record { pocket = p; line = (tt, h) }
  placed now me a N4 c p r h g f =
      both (Placed s.bits s.kind) (same_ref c a.top) (with_node_placed s.kind (fills_hand a.top.node a.next.count a) p h) (record { pocket = p; line = (tt, tt) })
  placed now me a N5 c p r h g f =
      both (Placed s.bits s.kind) (nat_eq c a.f) (with_node_placed s.kind (fills_hand (a.f + 1) 0 a) p (omega arith)) (record { pocket = p; line = (tt, tt) })
  placed now me a F1 c p r h g f =
      both (Placed s.bits s.kind) (nat_eq c.count s.limit) (aside_placed _ (freed_placed s.kind now a.due (record a { top = c }) p)) (record { pocket = p; line = (tt, h) })
  placed now me a F2 c p r h g f = record { pocket = p; line = (tt, h) }
  placed now me a F3 c p r h g f = both (Placed s.bits s.kind) (same_ref c a.top) (freed_placed s.kind now a.due (empties_hand a) p) (record { pocket = p; line = (tt, h) })
  placed now me a E2 c p r h g f = record { pocket = p; line = (r, h) }
  placed now me a E3 c p r h g f = both (Placed s.bits s.kind) (nat_eq c.count s.limit) (record { pocket = p; line = tt }) (record { pocket = p; line = (r, h) })
  placed now me a E5 c p r h g f = record { pocket = p; line = (r, (h, g)) }
  placed now me a E6 c p r h g f = record { pocket = p; line = (r, h) }
  placed now me a E7 c p r h g f =
      both (Placed s.bits s.kind) (same_ref c a.tail)
      (either (Placed s.bits s.kind) (is_null a.next) (λ e. record { pocket = p; line = (r, h) })
      (λ e. either (Placed s.bits s.kind) (is_shut s.bits a.next) (λ d. record { pocket = h.0; line = tt })
      (λ d. both (Placed s.bits s.kind) (nat_eq a.tail.count s.limit) (record { pocket = h.0; line = tt })
      (record { pocket = p; line = (r, (h.0, h.1, not_null a.next e, not_shut s.bits a.next d)) }))))
      (record { pocket = p; line = (r, h.0) })
  placed now me a E9 c p r h g f =
      both (Placed s.bits s.kind) (same_ref c a.next) (ended_or (nat_eq a.tail.count s.limit) now (empties_hand (record a { due = Some Done })) p (r, h)) (record { pocket = p; line = (r, h.0) })
  placed now me a E13 c p r h g f = record { pocket = p; line = (r, h.0) }
  placed now me a E17 c p r h g f = record { pocket = p; line = tt }
  placed now me a D2 c p r h g f = record { pocket = p; line = (r, g) }
  placed now me a D3 c p r h g f = record { pocket = p; line = (r, (h, g)) }
  placed now me a D4 c p r h g f = record { pocket = p; line = (r, h) }
  placed now me a D5 c p r h g f =
      either (Placed s.bits s.kind) (same_ref c a.head)
      (λ e. either (Placed s.bits s.kind) (nat_eq a.head.node a.tail.node)
      (λ d. either (Placed s.bits s.kind) (is_null a.next) (λ n. record { pocket = p; line = tt })
      (λ n. either (Placed s.bits s.kind) (is_shut s.bits a.next) (λ q. record { pocket = p; line = tt })
      (λ q. both (Placed s.bits s.kind) (nat_eq a.tail.count s.limit) (record { pocket = p; line = tt }) (record { pocket = p; line = (r, (h.1, not_null a.next n, not_shut s.bits a.next q)) }))))
      (λ d. record { pocket = p; line = (r, (h.0, (f e d).0, (f e d).1)) }))
      (λ e. record { pocket = p; line = (r, tt) })
  placed now me a D10 c p r h g f = record { pocket = p; line = (r, tt) }
  placed now me a D12 c p r h g f = both (Placed s.bits s.kind) (nat_eq a.head.count s.limit) (record { pocket = p; line = tt }) (record { pocket = p; line = (r, h) })
  placed now me a D13 c p r h g f = both (Placed s.bits s.kind) (same_ref c a.head) (record { pocket = p; line = (tt, h.0) }) (record { pocket = p; line = (r, tt) })
  placed now me a A1 c p r h g f = record { pocket = p; line = (r, h) }
  placed now me a A2 c p r h g f = record { pocket = p; line = (r, h) }
  placed now me a A3 c p r h g f = both (Placed s.bits s.kind) (nat_eq c 0) (record { pocket = p; line = (r, h) }) (record { pocket = p; line = (r, h) })
  placed now me a A4 c p r h g f = record { pocket = p; line = (r, (h, g)) }
  placed now me a A5 c p r h g f = both (Placed s.bits s.kind) (same_ref c null) (record { pocket = p; line = (r, h.0) }) (record { pocket = p; line = (r, h.0) })
  placed now me a A6 c p r h g f = record { pocket = p; line = (r, has_after a.due a.node h) }
  placed now me a A7 c p r h g f = left_with_node_placed now a.due a p h
  placed now me a B1 c p r h g f = both (Placed s.bits s.kind) (nat_eq c 0) (record { pocket = p; line = (r, tt) }) (record { pocket = p; line = (r, tt) })
  placed now me a B2 c p r h g f = record { pocket = p; line = (r, g) }
  placed now me a B3 c p r h g f =
      either (Placed s.bits s.kind) (is_null c) (λ e. record { pocket = p; line = (r, tt) })
      (λ e. either (Placed s.bits s.kind) (is_shut s.bits c) (λ d. record { pocket = p; line = (r, tt) }) (λ d. record { pocket = p; line = (r, (h, not_null c e, not_shut s.bits c d)) }))
  placed now me a B4 c p r h g f = both (Placed s.bits s.kind) (nat_eq a.head.count s.limit) (record { pocket = p; line = (r, tt) }) (record { pocket = p; line = (r, h) })
  placed now me a B5 c p r h g f = record { pocket = p; line = (r, h.0) }
  placed now me a B6 c p r h g f = unlocked_placed now a.due a p h
  placed now me a S1 c p r h g f = record { pocket = p; line = (r, g) }
  placed now me a S2 c p r h g f = record { pocket = p; line = (r, h) }
  placed now me a S3 c p r h g f =
      both (Placed s.bits s.kind) (same_ref c a.tail)
      (either (Placed s.bits s.kind) (is_null a.next) (λ e. record { pocket = p; line = (r, h) })
      (λ e. either (Placed s.bits s.kind) (is_shut s.bits a.next) (λ d. record { pocket = p; line = tt })
      (λ d. both (Placed s.bits s.kind) (nat_eq a.tail.count s.limit) (record { pocket = p; line = tt }) (record { pocket = p; line = (r, (h, not_null a.next e, not_shut s.bits a.next d)) }))))
      (record { pocket = p; line = (r, tt) })
  placed now me a S4 c p r h g f = both (Placed s.bits s.kind) (same_ref c a.next) (record { pocket = p; line = tt }) (record { pocket = p; line = (r, tt) })
  placed now me a S5 c p r h g f = record { pocket = p; line = (r, tt) }
  placed now me a S6 c p r h g f = both (Placed s.bits s.kind) (nat_eq c 0) (record { pocket = p; line = (r, tt) }) (record { pocket = p; line = (r, tt) })
  placed now me a S7 c p r h g f = record { pocket = p; line = (r, g) }
  placed now me a S8 c p r h g f = both (Placed s.bits s.kind) (same_ref c null) (record { pocket = p; line = (r, tt) }) (record { pocket = p; line = (r, tt) })
  placed now me a S9 c p r h g f = left_placed now a.due a p

  busy_or_placed : (now : ℕ) (due : Option Reply) (a : Actor) → IfSome a.pocket (λ held. 1 ≤ held.node) → IfSome (busy_or now due a) (Placed s.bits s.kind)
  busy_or_placed now None a p = record { pocket = p; line = tt }
  busy_or_placed now (Some reply) a p = record { pocket = p; line = tt }

  pub given_up_placed : (now : ℕ) (a : Actor) (l : Line) → IfSome a.pocket (λ held. 1 ≤ held.node) → NonNullAt s.bits l a → IfSome (gives_up now a l) (Placed s.bits s.kind)
  given_up_placed now a N1 p h = record { pocket = p; line = tt }
  given_up_placed now a F1 p h = busy_or_placed now a.due (to_pocket a) h
  given_up_placed now a E5 p h = record { pocket = h; line = tt }
  given_up_placed now a D2 p h = record { pocket = p; line = tt }
  given_up_placed now a A3 p h = record { pocket = h; line = tt }
  given_up_placed now a B1 p h = record { pocket = p; line = tt }
  given_up_placed now a S1 p h = record { pocket = p; line = tt }
  given_up_placed now a S6 p h = record { pocket = p; line = tt }
  given_up_placed now a _ p h = tt

  pub rested_stands : (a : Actor) (l : Line) → may_rest l ≡ true → NonNullAt s.bits l a → PcIsValid s.bits s.kind (rested a)
  rested_stands a E2 e h = record { pocket = h; line = tt }
  rested_stands a A1 e h = record { pocket = h; line = tt }
  rested_stands a _ e h = cc

from_pocket_stands : (bits : ℕ) (kind : Kind) (l : Line) (p : Option Held) (a : Actor) → IfSome p (λ held. 1 ≤ held.node)
    → ((b : Actor) → 1 ≤ b.node → IsAtLine bits kind b (Some l)) → PcIsValid bits kind a → PcIsValid bits kind (from_pocket l p a)
from_pocket_stands bits kind l None a p each g = g
from_pocket_stands bits kind l (Some held) a p each g = record { pocket = tt; line = each (record (fills_hand held.node held.mark a) { line = Some l; pocket = None }) p }

-- an actor that begins a call stands before its first line
pub begun_stands : (bits : ℕ) (kind : Kind) (me : ℕ) (op : Op) (a : Actor) → IfSome a.pocket (λ held. 1 ≤ held.node) → PcIsValid bits kind (begun kind me op a)
begun_stands bits TwoLock me (Enq body) a p = from_pocket_stands bits TwoLock A1 a.pocket _ p (λ b h. (tt, h)) (record { pocket = p; line = (tt, tt) })
begun_stands bits NonBlocking me (Enq body) a p = from_pocket_stands bits NonBlocking E2 a.pocket _ p (λ b h. (tt, h)) (record { pocket = p; line = (tt, tt) })
begun_stands bits TwoLock me Deq a p = from_pocket_stands bits TwoLock F1 a.pocket _ p (λ b h. (tt, h)) (record { pocket = p; line = (tt, tt) })
begun_stands bits NonBlocking me Deq a p = from_pocket_stands bits NonBlocking F1 a.pocket _ p (λ b h. (tt, h)) (record { pocket = p; line = (tt, tt) })
begun_stands bits TwoLock me Shut a p = record { pocket = p; line = (tt, tt) }
begun_stands bits NonBlocking me Shut a p = record { pocket = p; line = (tt, tt) }
