-- What a step of an actor means for the queue, for both algorithms: nothing, a refusal that leaves it, one since it is shut,
-- an empty reply at the number noted, a push, a pop, or a shut. `LinearizationStep` says which, with what it does to the
-- queue's chain and its end, and to Head's count.
use Rattle.std.proofs.Common.{◌≡◌, ◌≢◌, ℕ, ◌+◌, true, false, nat_eq, if◌then◌else◌, List, [], ◌∷◌, ◌++◌, Some, None, ap, ◌∙◌, ◌⊎◌}
use Rattle.std.proofs.lemmas.Bool.{ne_eqb}
use Rattle.step_machine.specs.Below.{Ref, ref, Refusal, Closed, Deq, Shut, Done, Value, Empty, Refused, leaves, Setup, Actor, Outcome, Shared, node_at, raised, reserved_node}
use Rattle.step_machine.specs.Chains.{is_shut_chain, queue_values}
use Rattle.step_machine.specs.Completion.{decided_reply, completed_reply}
use Rattle.step_machine.proofs.Fixed.{Pushes}

-- the reply of an operation that took effect is as before: none was earned, or it is the one that was
abbrev pub KeepsReply : Actor → Outcome → Type 0
KeepsReply a o = (decided_reply a.due ≡ None) ⊎ ((n : ℕ) → completed_reply o.reply (Some n) o.actor.due ≡ decided_reply a.due)

-- what a step at number `now` means for the queue: its values, and whether it is shut; `Z` is what is known of a number noted
-- at which the queue was empty
pub data LinearizationStep (bits : ℕ) (Z : ℕ → Type 0) (me now : ℕ) (m m' : Shared) (queue queue' : List ℕ) (a : Actor) (o : Outcome) : Type 0 where
  stutters : queue' ≡ queue → m'.head.count ≡ m.head.count → is_shut_chain bits m' queue ≡ is_shut_chain bits m queue → o.at ≡ None → KeepsReply a o
      → LinearizationStep bits Z me now m m' queue queue' a o
  refused : (refusal : Refusal) → queue' ≡ queue → m'.head.count ≡ m.head.count → is_shut_chain bits m' queue ≡ is_shut_chain bits m queue → o.at ≡ Some now
      → o.reply ≡ Some (Refused refusal) → leaves refusal ≡ true → decided_reply a.due ≡ None → LinearizationStep bits Z me now m m' queue queue' a o
  closed : queue' ≡ queue → m'.head.count ≡ m.head.count → is_shut_chain bits m' queue ≡ is_shut_chain bits m queue → o.at ≡ Some now
      → o.reply ≡ Some (Refused Closed) → is_shut_chain bits m queue ≡ true → (a.op ≡ Deq → queue_values m queue ≡ []) → decided_reply a.due ≡ None
      → LinearizationStep bits Z me now m m' queue queue' a o
  found_empty : queue' ≡ queue → m'.head.count ≡ m.head.count → is_shut_chain bits m' queue ≡ is_shut_chain bits m queue → o.at ≡ Some a.empty_at
      → o.reply ≡ Some Empty → a.op ≡ Deq → decided_reply a.due ≡ None → Z a.empty_at → LinearizationStep bits Z me now m m' queue queue' a o
  pushed : queue' ≡ queue ++ a.node ∷ [] → m'.head.count ≡ m.head.count → is_shut_chain bits m queue ≡ false → is_shut_chain bits m' queue' ≡ false
      → o.at ≡ Some now → completed_reply o.reply (Some now) o.actor.due ≡ Some Done → (node_at m' a.node).value ≡ a.val → Pushes me a.op a.val
      → decided_reply a.due ≡ None → LinearizationStep bits Z me now m m' queue queue' a o
  popped : (h x : ℕ) (rest : List ℕ) → queue ≡ h ∷ x ∷ rest → queue' ≡ x ∷ rest → m'.head.count ≡ m.head.count + 1
      → is_shut_chain bits m' queue' ≡ is_shut_chain bits m queue → o.at ≡ Some now
      → completed_reply o.reply (Some now) o.actor.due ≡ Some (Value (node_at m x).value) → a.op ≡ Deq → decided_reply a.due ≡ None
      → LinearizationStep bits Z me now m m' queue queue' a o
  shut : queue' ≡ queue → m'.head.count ≡ m.head.count → is_shut_chain bits m queue ≡ false → is_shut_chain bits m' queue ≡ true → o.at ≡ Some now
      → completed_reply o.reply (Some now) o.actor.due ≡ Some Done → a.op ≡ Shut → decided_reply a.due ≡ None
      → LinearizationStep bits Z me now m m' queue queue' a o

-- a reference whose count is not at the limit is raised by one, to a number that is no closed end's
pub raised_is : (s : Setup) (r : Ref) (to : ℕ) → to ≢ reserved_node s.bits → r.count ≢ s.limit → raised s r to ≡ ref to (r.count + 1)
raised_is s r to n d =
    ap (λ b. if b then r else if nat_eq r.count s.limit then r else ref to (r.count + 1)) (ne_eqb to (reserved_node s.bits) n) ∙
    ap (λ b. if b then r else ref to (r.count + 1)) (ne_eqb r.count s.limit d)

pub raised_node : (s : Setup) (r : Ref) (to : ℕ) → to ≢ reserved_node s.bits → r.count ≢ s.limit → (raised s r to).node ≡ to
raised_node s r to n d = ap (λ (x : Ref). x.node) (raised_is s r to n d)

pub raised_count : (s : Setup) (r : Ref) (to : ℕ) → to ≢ reserved_node s.bits → r.count ≢ s.limit → (raised s r to).count ≡ r.count + 1
raised_count s r to n d = ap (λ (x : Ref). x.count) (raised_is s r to n d)
