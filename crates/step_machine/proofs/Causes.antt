-- Why a step refuses, and what each reply in the operations says, for both queues: the lines of the free list once, and
-- what is left to a queue's own lines.
use Rattle.std.proofs.Common.{◌≡◌, ℕ, ◌+◌, ◌≤◌, ◌<◌, true, false, nat_eq, nat_lt, List, [], ◌∷◌, length, Option, Some, None, IfSome, refl, arith, ◌⊎◌, inl, inr}
use Rattle.std.specs.Prelude.{slice_index_or}
use Rattle.std.specs.List.{All}
use Rattle.std.proofs.lemmas.Bool.{eqb-true, ltb-false}
use Rattle.std.proofs.lemmas.List.Elements.{All-set, All-append, All-cons, All-nil}
use Rattle.step_machine.specs.Below.{is_null, same_ref, Kind, Line, N1, N2, N3, N4, N5, F1, F2, F3, E5, E9, E13, E17, D2, D10, D13, A3, B1, B5, S1}
use Rattle.step_machine.specs.Below.{S4, S5, S6, section_of, WornWord, OfFree, Refusal, NoNode, WornOut, Busy, Closed, Reply, Value, Refused, Stamped}
use Rattle.step_machine.specs.Below.{Taken, Setup, Actor, Outcome, found, action, outcome, goes, empties_hand, fills_hand, to_pocket, with_node}
use Rattle.step_machine.specs.Below.{freed, busy_or, gives_up}
use Rattle.step_machine.specs.Machine.{World, actor_of, with_operation, with_outcome, new_operation, IsReached}
use Rattle.step_machine.specs.Range.{RegistersInRange, WorldInRange}
use Rattle.step_machine.specs.ProgramCounters.{IsRunBy}
use Rattle.step_machine.specs.EachQueue.{raised_at, IsShut}
use Rattle.step_machine.proofs.Choices.{either}
use Rattle.step_machine.proofs.Reached.{some_of}
use Rattle.step_machine.proofs.Reaching.{each_reached}
use Rattle.step_machine.proofs.Fixed.{FixedAt, RoomAt, DecidedFreeing}
use Rattle.step_machine.proofs.Assertions.{IsOwnOf}
use Rattle.step_machine.proofs.EitherQueue.{fixed_at}

-- why a step refuses; `Own` is why a queue finds another word than Free worn out
abbrev pub CauseOf : (WornWord → Type 0) → World → Refusal → Type 0
CauseOf Own w NoNode = (w.shared.fresh ≡ w.setup.size) × (w.shared.free.node ≡ 0)
CauseOf Own w (WornOut OfFree) = w.shared.free.count ≡ w.setup.limit
CauseOf Own w (WornOut what) = Own what
CauseOf Own w Closed = IsShut w
CauseOf Own w _ = ⊥

abbrev pub CauseOfReply : (WornWord → Type 0) → World → Option Reply → Type 0
CauseOfReply Own w (Some (Refused refusal)) = CauseOf Own w refusal
CauseOfReply Own w _ = Unit {0}

pub record Caused (Own : WornWord → Type 0) (w : World) (o : Outcome) : Type 0 where
  pub cause : CauseOfReply Own w o.reply

with_node_caused : (Own : WornWord → Type 0) (w : World) (kind : Kind) (a : Actor) → Caused Own w (goes (with_node kind) a)
with_node_caused Own w kind a = record { cause = tt }

freed_caused : (Own : WornWord → Type 0) (w : World) (kind : Kind) (now : ℕ) (due : Option Reply) (a : Actor) → DecidedFreeing due → Caused Own w (freed kind now due a)
freed_caused Own w kind now None a h = record { cause = tt }
freed_caused Own w kind now (Some (Value v)) a h = record { cause = tt }
freed_caused Own w kind now _ a h = absurd h

no_node : (Own : WornWord → Type 0) (w : World) (a : Actor) → WorldInRange w → a.f ≤ w.shared.fresh → is_null w.shared.free ≡ true → nat_lt a.f w.setup.size ≡ false → CauseOf Own w NoNode
no_node Own w a g low null none =
    let up : w.shared.fresh ≤ w.setup.size = g.shared.fresh in
    let most : w.setup.size ≤ a.f = ltb-false a.f w.setup.size none in
    (omega arith, eqb-true w.shared.free.node 0 null)

-- the step of each line has its cause, if those of the queue's own lines have
pub caused : (Own : WornWord → Type 0) (w : World) (kind : Kind) (now me : ℕ) (a : Actor) (l : Line) → WorldInRange w
    → RegistersInRange w.setup w.shared.fresh (length w.actors) a → IsRunBy (section_of l) kind → FixedAt w.setup.limit me a (Some l)
    → (IsOwnOf (section_of l) kind → Caused Own w (outcome w.setup now me a l (found (action w.setup me a l) w.shared)))
    → Caused Own w (outcome w.setup now me a l (found (action w.setup me a l) w.shared))
caused Own w kind now me a N1 g c r f own = record { cause = tt }
caused Own w kind now me a N2 g c r f own =
    either (Caused Own w) (is_null w.shared.free)
    (λ e. either (Caused Own w) (nat_lt a.f w.setup.size) (λ n. record { cause = tt }) (λ n. record { cause = no_node Own w a g c.f e n }))
    (λ e. either (Caused Own w) (nat_eq w.shared.free.count w.setup.limit) (λ n. record { cause = eqb-true w.shared.free.count w.setup.limit n }) (λ n. record { cause = tt }))
caused Own w kind now me a N3 g c r f own = record { cause = tt }
caused Own w kind now me a N4 g c r f own =
    either (Caused Own w) (same_ref w.shared.free a.top) (λ e. with_node_caused Own w w.setup.kind (fills_hand a.top.node a.next.count a)) (λ e. record { cause = tt })
caused Own w kind now me a N5 g c r f own = either (Caused Own w) (nat_eq w.shared.fresh a.f) (λ e. with_node_caused Own w w.setup.kind (fills_hand (a.f + 1) 0 a)) (λ e. record { cause = tt })
caused Own w kind now me a F1 g c r f own =
    either (Caused Own w) (nat_eq w.shared.free.count w.setup.limit) (λ e. record
    { cause = (freed_caused Own w w.setup.kind now a.due (record a { top = w.shared.free }) f.earned).cause }) (λ e. record { cause = tt })
caused Own w kind now me a F2 g c r f own = record { cause = tt }
caused Own w kind now me a F3 g c r f own = either (Caused Own w) (same_ref w.shared.free a.top) (λ e. freed_caused Own w w.setup.kind now a.due (empties_hand a) f.earned) (λ e. record { cause = tt })
caused Own w kind now me a l g c r f own = own r

-- what an actor raises is below the limit, if the `next` that E9 and S4 compare with is
pub raises_below : (s : Setup) (fresh k : ℕ) (a : Actor) (l : Line) → RegistersInRange s fresh k a → RoomAt l s.limit a
    → ((l ≡ E9) ⊎ (l ≡ S4) → a.next.count < s.limit) → IfSome (raised_at l a) (λ r. r.count < s.limit)
raises_below s fresh k a N4 g room next = let low : a.top.count ≤ s.limit = g.top.count in omega arith
raises_below s fresh k a F3 g room next = let low : a.top.count ≤ s.limit = g.top.count in omega arith
raises_below s fresh k a E9 g room next = next (inl refl)
raises_below s fresh k a S4 g room next = next (inr refl)
raises_below s fresh k a E13 g room next = let low : a.tail.count ≤ s.limit = g.tail.count in omega arith
raises_below s fresh k a E17 g room next = let low : a.tail.count ≤ s.limit = g.tail.count in omega arith
raises_below s fresh k a D10 g room next = let low : a.tail.count ≤ s.limit = g.tail.count in omega arith
raises_below s fresh k a S5 g room next = let low : a.tail.count ≤ s.limit = g.tail.count in omega arith
raises_below s fresh k a D13 g room next = let low : a.head.count ≤ s.limit = g.head.count in omega arith
raises_below s fresh k a B5 g room next = let low : a.head.count ≤ s.limit = g.head.count in omega arith
raises_below s fresh k a _ g room next = tt

-- a fact of replies that has Busy, each value, and each reply of a step, holds of each reply of the operations
module _ (kind : Kind) (P : Option Reply → Type 0) (busy : P (Some (Refused Busy))) (value : (v : Taken) → P (Some (Value v))) where
  given_busy_or : (now : ℕ) (due : Option Reply) (a : Actor) → DecidedFreeing due → IfSome (busy_or now due a) (λ o. P o.reply)
  given_busy_or now None a f = busy
  given_busy_or now (Some (Value v)) a f = value v
  given_busy_or now _ a f = absurd f

  given : (now limit me : ℕ) (a : Actor) (l : Line) → FixedAt limit me a (Some l) → IfSome (gives_up now a l) (λ o. P o.reply)
  given now limit me a N1 f = busy
  given now limit me a F1 f = given_busy_or now a.due (to_pocket a) f.earned
  given now limit me a E5 f = busy
  given now limit me a D2 f = busy
  given now limit me a A3 f = busy
  given now limit me a B1 f = busy
  given now limit me a S1 f = busy
  given now limit me a S6 f = busy
  given now limit me a _ f = tt

  recorded : (entry : Option ℕ) (new : Stamped) (change : Stamped → Stamped) (ops : List Stamped) → All (λ o. P o.reply) ops
      → ((o : Stamped) → P (change o).reply) → All (λ o. P o.reply) (with_operation entry new change ops)
  recorded None new change ops h each = All-append (λ o. P o.reply) ops (change new ∷ []) h (All-cons (λ o. P o.reply) (change new) [] (each new) (All-nil (λ o. P o.reply)))
  recorded (Some e) new change ops h each = All-set (λ o. P o.reply) ops e (change (slice_index_or ops e new)) (each (slice_index_or ops e new)) h

  settled : (w : World) (me : ℕ) (a : Actor) (o : Outcome) → All (λ o. P o.reply) w.operations → P o.reply
      → All (λ o. P o.reply) (with_operation a.entry (new_operation me a.op (w.steps + 1)) (with_outcome (w.steps + 1) o) w.operations)
  settled w me a o h g = recorded a.entry (new_operation me a.op (w.steps + 1)) (with_outcome (w.steps + 1) o) w.operations h (λ x. g)

  pub each_reply : ((w : World) → IsReached w → w.setup.kind ≡ kind → (me : ℕ) (a : Actor) (l : Line) → actor_of w me ≡ Some a → a.line ≡ Some l
      → P (outcome w.setup (w.steps + 1) me a l (found (action w.setup me a l) w.shared)).reply) → (w : World) → IsReached w → w.setup.kind ≡ kind
      → All (λ o. P o.reply) w.operations
  each_reply tells =
      each_reached kind (λ w. All (λ o. P o.reply) w.operations)
      (record {
        step = λ w me a l r e is at h. settled w me a (outcome w.setup (w.steps + 1) me a l (found (action w.setup me a l) w.shared)) h (tells w r e me a l is at);
        gave_up = λ w me a l o r e is at gave h. settled w me a o h (some_of (λ x. P x.reply) (gives_up (w.steps + 1) a l) o gave
            (given (w.steps + 1) w.setup.limit me a l (fixed_at w r me a l is at)));
        began = λ w me op a r e is at call h. h;
        at_rest = λ w me a l r e is at may h. h;
      })
      (λ s actors sized e. All-nil (λ o. P o.reply))
