-- What an actor's registers have before each line, whatever the shared words hold, in both queues: whether a node is
-- in its hand, that its pocket is empty, which call it runs, what its call has earned, and which counts were tested.
use Rattle.std.proofs.Common.{◌≡◌, ◌≢◌, ℕ, ◌+◌, Bool, true, false, nat_eq, nat_lt, if◌then◌else◌, Option, Some, None, IfSome, refl, sym, ap, ◌∙◌, subst, ◌⊎◌, inl, inr}
use Rattle.std.proofs.lemmas.Bool.{eqb-false}
use Rattle.step_machine.specs.Below.{is_null, same_ref, Kind, TwoLock, NonBlocking, Line, N1, N2, N3, N4, N5, F1, F2, F3, E2, E3, E5, E6, E7, E9, E13}
use Rattle.step_machine.specs.Below.{E17, D2, D5, D10, D12, D13, A1, A2, A3, A4, A5, A6, A7, B1, B3, B4, B5, B6, S1, S3, S4, S5, S6, S8, S9, is_shut}
use Rattle.step_machine.specs.Below.{null, Closed, left, left_with_node, Section, section_of, OfHead, WornOut, Op, Enq, Deq, Shut as ShutOp, Taken}
use Rattle.step_machine.specs.Below.{Reply, Done, Value, Empty, Refused, Setup, Held, Actor, Outcome, Found, action, outcome, goes, ends, effect}
use Rattle.step_machine.specs.Below.{sets_aside, fills_hand, empties_hand, to_pocket, with_node, freed, unlocked, busy_or, gives_up, from_pocket}
use Rattle.step_machine.specs.Below.{begun}
use Rattle.line_table.specs.declared.lines.Section.TheVariants.{NewNode, Free, Enqueue, Dequeue, LockedEnqueue, LockedDequeue, Shut, LockedShut}
use Rattle.step_machine.proofs.Choices.{either, both}

-- whether a call that lets the head lock go has a node to free
abbrev pub frees_after : Option Reply → Bool
frees_after (Some (Value v)) = true
frees_after _ = false

-- whether an enqueue that lets the tail lock go has its node still
abbrev pub keeps_after : Option Reply → Bool
keeps_after (Some (Refused refusal)) = true
keeps_after _ = false

-- whether a node is in the hand before a line, by what the call has earned
abbrev pub in_hand_at : Line → Option Reply → Bool
in_hand_at F1 due = true
in_hand_at F2 due = true
in_hand_at F3 due = true
in_hand_at E2 due = true
in_hand_at E3 due = true
in_hand_at E5 due = true
in_hand_at E6 due = true
in_hand_at E7 due = true
in_hand_at E9 due = true
in_hand_at E13 due = true
in_hand_at A1 due = true
in_hand_at A2 due = true
in_hand_at A3 due = true
in_hand_at A4 due = true
in_hand_at A5 due = true
in_hand_at B6 due = frees_after due
in_hand_at A7 due = keeps_after due
in_hand_at _ due = false

-- an enqueue pushes the pair of its actor and its body
abbrev pub Pushes : (me : ℕ) → Op → Taken → Type 0
Pushes me (Enq body) val = val ≡ record { from = me; body = body }
Pushes me Deq val = ⊥
Pushes me ShutOp val = ⊥

-- so it is no dequeue, as a shut is none
pub push_is_no_pop : (me : ℕ) (op : Op) (val : Taken) → Pushes me op val → op ≢ Deq
push_is_no_pop me (Enq body) val h e = cc
push_is_no_pop me Deq val h e = h
push_is_no_pop me ShutOp val h e = h

pub shut_is_no_pop : (op : Op) → op ≡ ShutOp → op ≢ Deq
shut_is_no_pop op h e = let same : ShutOp ≡ Deq = sym h ∙ e in cc

-- which call a section of the lines runs
abbrev pub Runs : Section → (me : ℕ) → Op → Taken → Type 0
Runs NewNode me op val = Pushes me op val
Runs Enqueue me op val = Pushes me op val
Runs LockedEnqueue me op val = Pushes me op val
Runs Free me op val = op ≡ Deq
Runs Dequeue me op val = op ≡ Deq
Runs LockedDequeue me op val = op ≡ Deq
Runs Shut me op val = op ≡ ShutOp
Runs LockedShut me op val = op ≡ ShutOp

-- what a call has earned that frees a node: nothing yet, or the value taken
abbrev pub DecidedFreeing : Option Reply → Type 0
DecidedFreeing None = Unit {0}
DecidedFreeing (Some (Value v)) = Unit {0}
DecidedFreeing _ = ⊥

-- what a call has earned that lets the head lock go: a value, empty, or that Head is worn out
abbrev pub DecidedUnlocking : Option Reply → Type 0
DecidedUnlocking None = ⊥
DecidedUnlocking (Some Done) = ⊥
DecidedUnlocking (Some (Value v)) = Unit {0}
DecidedUnlocking (Some Empty) = Unit {0}
DecidedUnlocking (Some (Refused refusal)) = (refusal ≡ WornOut OfHead) ⊎ (refusal ≡ Closed)

-- what a call has earned that lets the tail lock go: done, or that the queue is shut
abbrev pub DecidedLeaving : Option Reply → Type 0
DecidedLeaving (Some Done) = Unit {0}
DecidedLeaving (Some (Refused refusal)) = refusal ≡ Closed
DecidedLeaving _ = ⊥

-- what a call has earned before a line
abbrev pub DecidedAt : Line → Option Reply → Type 0
DecidedAt F1 due = DecidedFreeing due
DecidedAt F2 due = DecidedFreeing due
DecidedAt F3 due = DecidedFreeing due
DecidedAt E17 due = due ≡ Some Done
DecidedAt A6 due = due ≡ Some Done
DecidedAt A7 due = DecidedLeaving due
DecidedAt S9 due = DecidedLeaving due
DecidedAt B6 due = DecidedUnlocking due
DecidedAt _ due = due ≡ None

-- the counts that were found not to be at the limit
abbrev pub RoomAt : Line → (limit : ℕ) → Actor → Type 0
RoomAt N3 limit a = a.top.count ≢ limit
RoomAt N4 limit a = a.top.count ≢ limit
RoomAt F2 limit a = a.top.count ≢ limit
RoomAt F3 limit a = a.top.count ≢ limit
RoomAt E13 limit a = a.tail.count ≢ limit
RoomAt E17 limit a = a.tail.count ≢ limit
RoomAt D10 limit a = a.tail.count ≢ limit
RoomAt D13 limit a = a.head.count ≢ limit
RoomAt B5 limit a = a.head.count ≢ limit
RoomAt S5 limit a = a.tail.count ≢ limit
RoomAt _ limit a = Unit {0}

-- a pocket is empty in a call, but for a shut
abbrev pub PocketAt : Section → Option Held → Type 0
PocketAt Shut pocket = Unit {0}
PocketAt LockedShut pocket = Unit {0}
PocketAt _ pocket = pocket ≡ None

-- what an actor's registers have before its line
abbrev pub FixedAt : (limit me : ℕ) → Actor → Option Line → Type 0
FixedAt limit me a None = a.holds ≡ false
FixedAt limit me a (Some l) =
    record {
      pocket : PocketAt (section_of l) a.pocket;
      hand : a.holds ≡ in_hand_at l a.due;
      call : Runs (section_of l) me a.op a.val;
      earned : DecidedAt l a.due;
      room : RoomAt l limit a;
    }

-- where an actor's operation stands says nothing of this
pub fixed_entry : (limit me : ℕ) (a : Actor) (entry : Option ℕ) (l : Option Line) → FixedAt limit me a l → FixedAt limit me (record a { entry = entry }) l
fixed_entry limit me a entry None h = h
fixed_entry limit me a entry (Some N1) h = h
fixed_entry limit me a entry (Some _) h = h

-- the actor of an outcome has it
pub record Fixes (limit me : ℕ) (o : Outcome) : Type 0 where
  pub fixed : FixedAt limit me o.actor o.actor.line

module _ (limit me : ℕ) where
  with_node_fixed : (kind : Kind) (a : Actor) → a.pocket ≡ None → a.holds ≡ true → Pushes me a.op a.val → a.due ≡ None → Fixes limit me (goes (with_node kind) a)
  with_node_fixed TwoLock a p h c e = record { fixed = record { pocket = p; hand = h; call = c; earned = e; room = tt } }
  with_node_fixed NonBlocking a p h c e = record { fixed = record { pocket = p; hand = h; call = c; earned = e; room = tt } }

  freed_fixed : (kind : Kind) (now : ℕ) (due : Option Reply) (a : Actor) → a.due ≡ due → a.pocket ≡ None → a.holds ≡ false → a.op ≡ Deq → Fixes limit me (freed kind now due a)
  freed_fixed TwoLock now None a d p h c = record { fixed = record { pocket = p; hand = h; call = c; earned = d; room = tt } }
  freed_fixed NonBlocking now None a d p h c = record { fixed = record { pocket = p; hand = h; call = c; earned = d; room = tt } }
  freed_fixed kind now (Some reply) a d p h c = record { fixed = h }

  aside_fixed : (kind : Kind) (now : ℕ) (due : Option Reply) (a : Actor) → a.due ≡ due → a.pocket ≡ None → a.op ≡ Deq → Fixes limit me (sets_aside (freed kind now due a))
  aside_fixed TwoLock now None a d p c = record { fixed = record { pocket = p; hand = refl; call = c; earned = d; room = tt } }
  aside_fixed NonBlocking now None a d p c = record { fixed = record { pocket = p; hand = refl; call = c; earned = d; room = tt } }
  aside_fixed kind now (Some reply) a d p c = record { fixed = refl }

  unlocked_fixed : (now : ℕ) (due : Option Reply) (a : Actor) → a.due ≡ due → a.pocket ≡ None → a.holds ≡ frees_after due → a.op ≡ Deq → DecidedUnlocking due → Fixes limit me (unlocked now due a)
  unlocked_fixed now None a d p h c e = absurd e
  unlocked_fixed now (Some (Value v)) a d p h c e =
      record { fixed = record { pocket = p; hand = h; call = c; earned = subst (λ x. DecidedFreeing x) (sym d) tt; room = tt } }
  unlocked_fixed now (Some Done) a d p h c e = absurd e
  unlocked_fixed now (Some Empty) a d p h c e = record { fixed = h }
  unlocked_fixed now (Some (Refused refusal)) a d p h c e = record { fixed = h }

  left_fixed : (now : ℕ) (due : Option Reply) (a : Actor) → a.holds ≡ false → Fixes limit me (left now due a)
  left_fixed now (Some (Refused refusal)) a h = record { fixed = h }
  left_fixed now _ a h = record { fixed = h }

  left_with_node_fixed : (now : ℕ) (due : Option Reply) (a : Actor) → a.holds ≡ keeps_after due → Fixes limit me (left_with_node now due a)
  left_with_node_fixed now (Some (Refused refusal)) a h = record { fixed = refl }
  left_with_node_fixed now None a h = record { fixed = h }
  left_with_node_fixed now (Some Done) a h = record { fixed = h }
  left_with_node_fixed now (Some (Value v)) a h = record { fixed = h }
  left_with_node_fixed now (Some Empty) a h = record { fixed = h }

  after_a6 : (a : Actor) → FixedAt limit me a (Some A6) → Fixes limit me (goes A7 a)
  after_a6 a h =
      record {
        fixed = record {
          pocket = h.pocket;
          hand = h.hand ∙ sym (ap keeps_after h.earned);
          call = h.call;
          earned = subst DecidedLeaving (sym h.earned) tt;
          room = tt;
        };
      }

  ended_or : (b : Bool) (now : ℕ) (a : Actor) → (b ≡ false → a.tail.count ≢ limit) → a.pocket ≡ None → Pushes me a.op a.val
      → Fixes limit me (effect now (if b then ends now Done (empties_hand (record a { due = Some Done })) else goes E17 (empties_hand (record a { due = Some Done }))))
  ended_or true now a r p c = record { fixed = refl }
  ended_or false now a r p c = record { fixed = record { pocket = p; hand = refl; call = c; earned = refl; room = r refl } }

-- the outcome of each line
pub fixed : (s : Setup) (now me : ℕ) (a : Actor) (l : Line) (c : Found (action s me a l)) → FixedAt s.limit me a (Some l) → Fixes s.limit me (outcome s now me a l c)
fixed s now me a N2 c h =
    both (Fixes s.limit me) (is_null c)
    (both (Fixes s.limit me) (nat_lt a.f s.size) (record { fixed = record { pocket = h.pocket; hand = h.hand; call = h.call; earned = h.earned; room = tt } }) (record { fixed = h.hand }))
    (either (Fixes s.limit me) (nat_eq c.count s.limit) (λ e. record { fixed = h.hand })
    (λ e. record { fixed = record { pocket = h.pocket; hand = h.hand; call = h.call; earned = h.earned; room = eqb-false c.count s.limit e } }))
fixed s now me a N3 c h = record { fixed = record { pocket = h.pocket; hand = h.hand; call = h.call; earned = h.earned; room = h.room } }
fixed s now me a N4 c h =
    both (Fixes s.limit me) (same_ref c a.top) (with_node_fixed s.limit me s.kind (fills_hand a.top.node a.next.count a) h.pocket refl h.call h.earned)
    (record { fixed = record { pocket = h.pocket; hand = h.hand; call = h.call; earned = h.earned; room = tt } })
fixed s now me a N5 c h =
    both (Fixes s.limit me) (nat_eq c a.f) (with_node_fixed s.limit me s.kind (fills_hand (a.f + 1) 0 a) h.pocket refl h.call h.earned)
    (record { fixed = record { pocket = h.pocket; hand = h.hand; call = h.call; earned = h.earned; room = tt } })
fixed s now me a F1 c h =
    either (Fixes s.limit me) (nat_eq c.count s.limit)
    (λ e. aside_fixed s.limit me s.kind now a.due (record a { top = c }) refl h.pocket h.call)
    (λ e. record { fixed = record { pocket = h.pocket; hand = h.hand; call = h.call; earned = h.earned; room = eqb-false c.count s.limit e } })
fixed s now me a F2 c h = record { fixed = record { pocket = h.pocket; hand = h.hand; call = h.call; earned = h.earned; room = h.room } }
fixed s now me a F3 c h =
    both (Fixes s.limit me) (same_ref c a.top) (freed_fixed s.limit me s.kind now a.due (empties_hand a) refl h.pocket refl h.call)
    (record { fixed = record { pocket = h.pocket; hand = h.hand; call = h.call; earned = h.earned; room = tt } })
fixed s now me a E3 c h =
    both (Fixes s.limit me) (nat_eq c.count s.limit) (record { fixed = refl })
    (record { fixed = record { pocket = h.pocket; hand = h.hand; call = h.call; earned = h.earned; room = tt } })
fixed s now me a E7 c h =
    both (Fixes s.limit me) (same_ref c a.tail)
    (both (Fixes s.limit me) (is_null a.next) (record { fixed = record { pocket = h.pocket; hand = h.hand; call = h.call; earned = h.earned; room = tt } })
    (both (Fixes s.limit me) (is_shut s.bits a.next) (record { fixed = refl })
    (either (Fixes s.limit me) (nat_eq a.tail.count s.limit) (λ e. record { fixed = refl })
    (λ e. record { fixed = record { pocket = h.pocket; hand = h.hand; call = h.call; earned = h.earned; room = eqb-false a.tail.count s.limit e } }))))
    (record { fixed = record { pocket = h.pocket; hand = h.hand; call = h.call; earned = h.earned; room = tt } })
fixed s now me a E9 c h =
    both (Fixes s.limit me) (same_ref c a.next) (ended_or s.limit me (nat_eq a.tail.count s.limit) now a (λ e. eqb-false a.tail.count s.limit e) h.pocket h.call)
    (record { fixed = record { pocket = h.pocket; hand = h.hand; call = h.call; earned = h.earned; room = tt } })
fixed s now me a E17 c h = record { fixed = h.hand }
fixed s now me a D5 c h =
    both (Fixes s.limit me) (same_ref c a.head)
    (both (Fixes s.limit me) (nat_eq a.head.node a.tail.node)
    (both (Fixes s.limit me) (is_null a.next) (record { fixed = h.hand })
    (both (Fixes s.limit me) (is_shut s.bits a.next) (record { fixed = h.hand })
    (either (Fixes s.limit me) (nat_eq a.tail.count s.limit) (λ e. record { fixed = h.hand })
    (λ e. record { fixed = record { pocket = h.pocket; hand = h.hand; call = h.call; earned = h.earned; room = eqb-false a.tail.count s.limit e } }))))
    (record { fixed = record { pocket = h.pocket; hand = h.hand; call = h.call; earned = h.earned; room = tt } }))
    (record { fixed = record { pocket = h.pocket; hand = h.hand; call = h.call; earned = h.earned; room = tt } })
fixed s now me a D12 c h =
    either (Fixes s.limit me) (nat_eq a.head.count s.limit) (λ e. record { fixed = h.hand })
    (λ e. record { fixed = record { pocket = h.pocket; hand = h.hand; call = h.call; earned = h.earned; room = eqb-false a.head.count s.limit e } })
fixed s now me a D13 c h =
    both (Fixes s.limit me) (same_ref c a.head) (record { fixed = record { pocket = h.pocket; hand = refl; call = h.call; earned = tt; room = tt } })
    (record { fixed = record { pocket = h.pocket; hand = h.hand; call = h.call; earned = h.earned; room = tt } })
fixed s now me a A3 c h =
    both (Fixes s.limit me) (nat_eq c 0) (record { fixed = record { pocket = h.pocket; hand = h.hand; call = h.call; earned = h.earned; room = tt } })
    (record { fixed = record { pocket = h.pocket; hand = h.hand; call = h.call; earned = h.earned; room = tt } })
fixed s now me a A5 c h =
    both (Fixes s.limit me) (same_ref c null) (record { fixed = record { pocket = h.pocket; hand = refl; call = h.call; earned = refl; room = tt } })
    (record { fixed = record { pocket = h.pocket; hand = h.hand; call = h.call; earned = refl; room = tt } })
fixed s now me a A6 c h = after_a6 s.limit me a h
fixed s now me a A7 c h = left_with_node_fixed s.limit me now a.due a h.hand
fixed s now me a S3 c h =
    both (Fixes s.limit me) (same_ref c a.tail)
    (both (Fixes s.limit me) (is_null a.next) (record { fixed = record { pocket = h.pocket; hand = h.hand; call = h.call; earned = h.earned; room = tt } })
    (both (Fixes s.limit me) (is_shut s.bits a.next) (record { fixed = h.hand })
    (either (Fixes s.limit me) (nat_eq a.tail.count s.limit) (λ e. record { fixed = h.hand })
    (λ e. record { fixed = record { pocket = h.pocket; hand = h.hand; call = h.call; earned = h.earned; room = eqb-false a.tail.count s.limit e } }))))
    (record { fixed = record { pocket = h.pocket; hand = h.hand; call = h.call; earned = h.earned; room = tt } })
fixed s now me a S4 c h = both (Fixes s.limit me) (same_ref c a.next) (record { fixed = h.hand })
    (record { fixed = record { pocket = h.pocket; hand = h.hand; call = h.call; earned = h.earned; room = tt } })
fixed s now me a S6 c h =
    both (Fixes s.limit me) (nat_eq c 0) (record { fixed = record { pocket = h.pocket; hand = h.hand; call = h.call; earned = h.earned; room = tt } })
    (record { fixed = record { pocket = h.pocket; hand = h.hand; call = h.call; earned = h.earned; room = tt } })
fixed s now me a S8 c h =
    both (Fixes s.limit me) (same_ref c null) (record { fixed = record { pocket = h.pocket; hand = h.hand; call = h.call; earned = tt; room = tt } })
    (record { fixed = record { pocket = h.pocket; hand = h.hand; call = h.call; earned = refl; room = tt } })
fixed s now me a S9 c h = left_fixed s.limit me now a.due a h.hand
fixed s now me a B1 c h =
    both (Fixes s.limit me) (nat_eq c 0) (record { fixed = record { pocket = h.pocket; hand = h.hand; call = h.call; earned = h.earned; room = tt } })
    (record { fixed = record { pocket = h.pocket; hand = h.hand; call = h.call; earned = h.earned; room = tt } })
fixed s now me a B3 c h =
    both (Fixes s.limit me) (is_null c) (record { fixed = record { pocket = h.pocket; hand = h.hand; call = h.call; earned = tt; room = tt } })
    (both (Fixes s.limit me) (is_shut s.bits c) (record { fixed = record { pocket = h.pocket; hand = h.hand; call = h.call; earned = inr refl; room = tt } })
    (record { fixed = record { pocket = h.pocket; hand = h.hand; call = h.call; earned = h.earned; room = tt } }))
fixed s now me a B4 c h =
    either (Fixes s.limit me) (nat_eq a.head.count s.limit) (λ e. record { fixed = record { pocket = h.pocket; hand = h.hand; call = h.call; earned = inl refl; room = tt } })
    (λ e. record { fixed = record { pocket = h.pocket; hand = h.hand; call = h.call; earned = h.earned; room = eqb-false a.head.count s.limit e } })
fixed s now me a B5 c h = record { fixed = record { pocket = h.pocket; hand = refl; call = h.call; earned = tt; room = tt } }
fixed s now me a B6 c h = unlocked_fixed s.limit me now a.due a refl h.pocket h.hand h.call h.earned
fixed s now me a _ c h = record { fixed = record { pocket = h.pocket; hand = h.hand; call = h.call; earned = h.earned; room = tt } }

busy_or_fixed : (limit me now : ℕ) (due : Option Reply) (a : Actor) → a.holds ≡ false → IfSome (busy_or now due a) (Fixes limit me)
busy_or_fixed limit me now None a h = record { fixed = h }
busy_or_fixed limit me now (Some reply) a h = record { fixed = h }

-- the outcome of giving up at each line
pub fixed_given : (limit now me : ℕ) (a : Actor) (l : Line) → FixedAt limit me a (Some l) → IfSome (gives_up now a l) (Fixes limit me)
fixed_given limit now me a N1 h = record { fixed = h.hand }
fixed_given limit now me a F1 h = busy_or_fixed limit me now a.due (to_pocket a) refl
fixed_given limit now me a E5 h = record { fixed = refl }
fixed_given limit now me a D2 h = record { fixed = h.hand }
fixed_given limit now me a A3 h = record { fixed = refl }
fixed_given limit now me a B1 h = record { fixed = h.hand }
fixed_given limit now me a S1 h = record { fixed = h.hand }
fixed_given limit now me a S6 h = record { fixed = h.hand }
fixed_given limit now me a _ h = tt

from_pocket_fixed : (limit me : ℕ) (l : Line) (pocket : Option Held) (a : Actor) → a.pocket ≡ pocket
    → ((held : Held) → FixedAt limit me (from_pocket l (Some held) a) (Some l)) → (a.pocket ≡ None → FixedAt limit me a a.line)
    → FixedAt limit me (from_pocket l pocket a) (from_pocket l pocket a).line
from_pocket_fixed limit me l None a e full none = none e
from_pocket_fixed limit me l (Some held) a e full none = full held

-- an actor that begins a call
pub fixed_begun : (limit me : ℕ) (kind : Kind) (op : Op) (a : Actor) → a.holds ≡ false → FixedAt limit me (begun kind me op a) (begun kind me op a).line
fixed_begun limit me TwoLock (Enq body) a h =
    from_pocket_fixed limit me A1 a.pocket _ refl (λ held. record { pocket = refl; hand = refl; call = refl; earned = refl; room = tt })
    (λ p. record { pocket = p; hand = h; call = refl; earned = refl; room = tt })
fixed_begun limit me NonBlocking (Enq body) a h =
    from_pocket_fixed limit me E2 a.pocket _ refl (λ held. record { pocket = refl; hand = refl; call = refl; earned = refl; room = tt })
    (λ p. record { pocket = p; hand = h; call = refl; earned = refl; room = tt })
fixed_begun limit me TwoLock Deq a h =
    from_pocket_fixed limit me F1 a.pocket _ refl (λ held. record { pocket = refl; hand = refl; call = refl; earned = tt; room = tt })
    (λ p. record { pocket = p; hand = h; call = refl; earned = refl; room = tt })
fixed_begun limit me NonBlocking Deq a h =
    from_pocket_fixed limit me F1 a.pocket _ refl (λ held. record { pocket = refl; hand = refl; call = refl; earned = tt; room = tt })
    (λ p. record { pocket = p; hand = h; call = refl; earned = refl; room = tt })
fixed_begun limit me TwoLock ShutOp a h = record { pocket = tt; hand = h; call = refl; earned = refl; room = tt }
fixed_begun limit me NonBlocking ShutOp a h = record { pocket = tt; hand = h; call = refl; earned = refl; room = tt }
