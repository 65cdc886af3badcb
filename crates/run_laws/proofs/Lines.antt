-- What a step, a begin and a give make of what an actor counts by its line: a node is taken only where it had none, and a push
-- takes effect only where it had not yet.
use Rattle.std.proofs.Common.{◌≡◌, ℕ, ◌+◌, ◌≤◌, Bool, true, false, if◌then◌else◌, nat_eq, nat_lt, [], ◌∷◌, List, Option, Some, None, IfSome, refl, ap, arith}
use Rattle.std.specs.List.{count_by}
use Rattle.std.proofs.lemmas.List.Sums.{sum_by-cons}
use Rattle.step_machine.specs.Below.{null, is_null, is_shut, same_ref, Kind, NonBlocking, TwoLock, Line, N1, N2, N4, N5, F1, F3, E3, E7, E9, E5, D2}
use Rattle.step_machine.specs.Below.{D5, D12, D13, A3, A5, A7, B1, B3, B4, B6, S1, S3, S4, S6, S8, S9, Op, Enq, Deq, Shut, Held, Reply, Value}
use Rattle.step_machine.specs.Below.{Refused, Setup, Actor, Outcome, Found, action, outcome, gives_up, freed, unlocked, left, left_with_node, busy_or}
use Rattle.step_machine.specs.Below.{to_pocket, fills_hand, effect, goes, with_node, begun, Entry, Push, Pop, ShutEntry, is_push}
use Rattle.step_machine.specs.declared.actors.Move.TheVariants.{Begin}
use Rattle.step_machine.specs.Machine.{made}
use Rattle.step_machine.proofs.Choices.{both, tried}
use Rattle.node_arena.specs.Traces.{entries_of}
use Rattle.arena_queue.specs.Counts.{takes_at}
use Rattle.run_laws.specs.Begun.{begins_push, has_no_node, has_no_effect}

-- an actor counts a node taken at a line where it had none, and an effect less only where it had none yet
abbrev Falls : Line → Outcome → Type 0
Falls l o = (takes_at l o.actor.line + has_no_node o.actor.line ≤ has_no_node (Some l)) × (has_no_effect o.actor.line ≤ has_no_effect (Some l))

-- where no push goes on
abbrev Leaves : Outcome → Type 0
Leaves o = (has_no_node o.actor.line ≡ 0) × (has_no_effect o.actor.line ≡ 0)

module _ (now : ℕ) where
  freed_leaves : (kind : Kind) (due : Option Reply) (b : Actor) → Leaves (freed kind now due b)
  freed_leaves TwoLock None b = (refl, refl)
  freed_leaves NonBlocking None b = (refl, refl)
  freed_leaves kind (Some reply) b = (refl, refl)

  unlocked_leaves : (due : Option Reply) (b : Actor) → Leaves (unlocked now due b)
  unlocked_leaves (Some (Value v)) b = (refl, refl)
  unlocked_leaves due b = (refl, refl)

  left_leaves : (due : Option Reply) (b : Actor) → Leaves (left now due b)
  left_leaves (Some (Refused refusal)) b = (refl, refl)
  left_leaves due b = (refl, refl)

  left_node_leaves : (due : Option Reply) (b : Actor) → Leaves (left_with_node now due b)
  left_node_leaves (Some (Refused refusal)) b = (refl, refl)
  left_node_leaves due b = (refl, refl)

module _ (s : Setup) (now me : ℕ) (a : Actor) where
  node_in_hand : (kind : Kind) (b : Actor) → Falls N4 (goes (with_node kind) b)
  node_in_hand TwoLock b = (omega arith, omega arith)
  node_in_hand NonBlocking b = (omega arith, omega arith)

  new_node_in_hand : (kind : Kind) (b : Actor) → Falls N5 (goes (with_node kind) b)
  new_node_in_hand TwoLock b = (omega arith, omega arith)
  new_node_in_hand NonBlocking b = (omega arith, omega arith)

  pub step_falls : (l : Line) (was : Found (action s me a l)) → Falls l (outcome s now me a l was)
  step_falls N2 top =
      both (Falls N2) (is_null top) (both (Falls N2) (nat_lt a.f s.size) (omega arith, omega arith) (omega arith, omega arith))
      (both (Falls N2) (nat_eq top.count s.limit) (omega arith, omega arith) (omega arith, omega arith))
  step_falls N4 was = both (Falls N4) (same_ref was a.top) (node_in_hand s.kind (fills_hand a.top.node a.next.count a)) (omega arith, omega arith)
  step_falls N5 was = both (Falls N5) (nat_eq was a.f) (new_node_in_hand s.kind (fills_hand (a.f + 1) 0 a)) (omega arith, omega arith)
  step_falls F1 top =
      both (Falls F1) (nat_eq top.count s.limit)
      (let h = freed_leaves now s.kind a.due (record a { top = top }) in (omega (arith, h.0), omega (arith, h.1)))
      (omega arith, omega arith)
  step_falls F3 was =
      both (Falls F3) (same_ref was a.top)
      (let h = freed_leaves now s.kind a.due (record a { holds = false }) in (omega (arith, h.0), omega (arith, h.1)))
      (omega arith, omega arith)
  step_falls E3 was = both (Falls E3) (nat_eq was.count s.limit) (omega arith, omega arith) (omega arith, omega arith)
  step_falls E7 tail =
      both (Falls E7) (same_ref tail a.tail)
      (both (Falls E7) (is_null a.next) (omega arith, omega arith)
      (both (Falls E7) (is_shut s.bits a.next) (omega arith, omega arith)
      (both (Falls E7) (nat_eq a.tail.count s.limit) (omega arith, omega arith) (omega arith, omega arith))))
      (omega arith, omega arith)
  step_falls E9 was =
      both (Falls E9) (same_ref was a.next)
      (both (λ o. Falls E9 (effect now o)) (nat_eq a.tail.count s.limit) (omega arith, omega arith) (omega arith, omega arith))
      (omega arith, omega arith)
  step_falls D5 head =
      both (Falls D5) (same_ref head a.head)
      (both (Falls D5) (nat_eq a.head.node a.tail.node)
      (both (Falls D5) (is_null a.next) (omega arith, omega arith)
      (both (Falls D5) (is_shut s.bits a.next) (omega arith, omega arith)
      (both (Falls D5) (nat_eq a.tail.count s.limit) (omega arith, omega arith) (omega arith, omega arith))))
      (omega arith, omega arith))
      (omega arith, omega arith)
  step_falls D12 val = both (Falls D12) (nat_eq a.head.count s.limit) (omega arith, omega arith) (omega arith, omega arith)
  step_falls D13 was = both (Falls D13) (same_ref was a.head) (omega arith, omega arith) (omega arith, omega arith)
  step_falls A3 was = both (Falls A3) (nat_eq was 0) (omega arith, omega arith) (omega arith, omega arith)
  step_falls A5 was = both (Falls A5) (same_ref was null) (omega arith, omega arith) (omega arith, omega arith)
  step_falls A7 was = let h = left_node_leaves now a.due a in (omega (arith, h.0), omega (arith, h.1))
  step_falls B1 was = both (Falls B1) (nat_eq was 0) (omega arith, omega arith) (omega arith, omega arith)
  step_falls B3 next =
      both (Falls B3) (is_null next) (omega arith, omega arith)
      (both (Falls B3) (is_shut s.bits next) (omega arith, omega arith) (omega arith, omega arith))
  step_falls B4 val = both (Falls B4) (nat_eq a.head.count s.limit) (omega arith, omega arith) (omega arith, omega arith)
  step_falls B6 was = let h = unlocked_leaves now a.due a in (omega (arith, h.0), omega (arith, h.1))
  step_falls S3 tail =
      both (Falls S3) (same_ref tail a.tail)
      (both (Falls S3) (is_null a.next) (omega arith, omega arith)
      (both (Falls S3) (is_shut s.bits a.next) (omega arith, omega arith)
      (both (Falls S3) (nat_eq a.tail.count s.limit) (omega arith, omega arith) (omega arith, omega arith))))
      (omega arith, omega arith)
  step_falls S4 was = both (Falls S4) (same_ref was a.next) (omega arith, omega arith) (omega arith, omega arith)
  step_falls S6 was = both (Falls S6) (nat_eq was 0) (omega arith, omega arith) (omega arith, omega arith)
  step_falls S8 was = both (Falls S8) (same_ref was null) (omega arith, omega arith) (omega arith, omega arith)
  step_falls S9 was = let h = left_leaves now a.due a in (omega (arith, h.0), omega (arith, h.1))
  step_falls l was = (omega arith, omega arith)

  one_push : (seat body : ℕ) → count_by is_push (Push seat body ∷ []) ≡ 1
  one_push seat body = refl

  -- an entry that is no push
  no_push : (b : Bool) (e : Entry) → is_push e ≡ false → count_by is_push (if b then e ∷ [] else []) ≡ 0
  no_push true e is = omega (arith, sum_by-cons (λ x. if is_push x then 1 else 0) e [], ap {B = ℕ} (λ b. if b then 1 else 0) is)
  no_push false e is = refl

  -- a push that takes effect had not yet
  abbrev Effects : Line → List Entry → Outcome → Type 0
  Effects l es o = count_by is_push es + has_no_effect o.actor.line ≤ has_no_effect (Some l)

  pub effect_falls : (l : Line) (was : Found (action s me a l)) → Effects l (entries_of s me a l was) (outcome s now me a l was)
  effect_falls E9 was =
      tried (Effects E9) (same_ref was a.next)
      (λ i. both (λ o. Effects E9 (Push me a.val.body ∷ []) (effect now o)) (nat_eq a.tail.count s.limit) (omega (arith, one_push me a.val.body)) (omega (arith, one_push me a.val.body)))
      (λ i. omega arith)
  effect_falls A5 was = tried (Effects A5) (same_ref was null) (λ i. omega (arith, one_push me a.val.body)) (λ i. omega arith)
  effect_falls D13 was = omega (arith, no_push (same_ref was a.head) (Pop me a.val) refl, (step_falls D13 was).1)
  effect_falls S4 was = omega (arith, no_push (same_ref was a.next) (ShutEntry me) refl, (step_falls S4 was).1)
  effect_falls S8 was = omega (arith, no_push (same_ref was null) (ShutEntry me) refl, (step_falls S8 was).1)
  effect_falls l was = omega (arith, (step_falls l was).1)

-- no line counts more than one
node_most : (l : Option Line) → has_no_node l ≤ 1
node_most None = omega arith
node_most (Some l) = go l
  where
    go : (l : Line) → has_no_node (Some l) ≤ 1
    go N1 = omega arith
    go l = omega arith

effect_most : (l : Option Line) → has_no_effect l ≤ 1
effect_most None = omega arith
effect_most (Some l) = go l
  where
    go : (l : Line) → has_no_effect (Some l) ≤ 1
    go N1 = omega arith
    go l = omega arith

-- a push that begins has no node at most, and has not taken effect; another call counts nothing
pub begun_counts : (kind : Kind) (me : ℕ) (op : Op) (a : Actor) →
    (has_no_node (begun kind me op a).line ≤ (if begins_push (made (Begin me op)) then 1 else 0))
    × (has_no_effect (begun kind me op a).line ≤ (if begins_push (made (Begin me op)) then 1 else 0))
begun_counts kind me (Enq body) a = (node_most (begun kind me (Enq body) a).line, effect_most (begun kind me (Enq body) a).line)
begun_counts kind me Deq a = go kind a.pocket
  where
    go : (kind : Kind) (q : Option Held) → (has_no_node (begun kind me Deq (record a { pocket = q })).line ≤ 0) × (has_no_effect (begun kind me Deq (record a { pocket = q })).line ≤ 0)
    go TwoLock None = (omega arith, omega arith)
    go NonBlocking None = (omega arith, omega arith)
    go kind (Some held) = (omega arith, omega arith)
begun_counts TwoLock me Shut a = (omega arith, omega arith)
begun_counts NonBlocking me Shut a = (omega arith, omega arith)

-- an actor that gives up has no call
pub given_none : (now : ℕ) (a : Actor) (l : Line) → IfSome (gives_up now a l) (λ o. o.actor.line ≡ None)
given_none now a N1 = refl
given_none now a F1 = go a.due
  where
    go : (due : Option Reply) → IfSome (busy_or now due (to_pocket a)) (λ o. o.actor.line ≡ None)
    go None = refl
    go (Some reply) = refl
given_none now a E5 = refl
given_none now a D2 = refl
given_none now a A3 = refl
given_none now a B1 = refl
given_none now a S1 = refl
given_none now a S6 = refl
given_none now a l = tt
