-- That moves keep what the operations of a world are accounted for, for both queues: which call an operation is of, and
-- what begins and rests leave.
use Rattle.std.proofs.Common.{◌≡◌, ◌≢◌, ℕ, ◌+◌, ◌<◌, ◌⊎◌, inl, inr, Bool, true, false, nat_eq, nat_lt, if◌then◌else◌, Option, Some, None, IfSome}
use Rattle.std.proofs.Common.{List, set, length, get_or, refl, sym, ap, ◌∙◌, subst, arith}
use Rattle.std.specs.Prelude.{slice_get}
use Rattle.std.proofs.lemmas.Option.{same_Some, slice_get_within, get_or_from_slice_get}
use Rattle.step_machine.specs.Below.{is_null, same_ref, Kind, Line, N1, N2, N4, N5, F1, F3, E3, E5, E7, E9, E17, D2, D5, D12, D13, A3, B1, B3, B4, B6}
use Rattle.step_machine.specs.Below.{A5, A7, S1, S3, S4, S6, S8, S9, is_shut, null, left, left_with_node, Op, Enq, Deq, Shut, Reply, Done, Refused}
use Rattle.step_machine.specs.Below.{Stamped, empty, Plays, by_point, IsSequentialRun, queue_after, Setup, Held, Actor, Outcome, Shared, Found}
use Rattle.step_machine.specs.Below.{action, outcome, goes, ends, effect, empties_hand, to_pocket, with_node, freed, unlocked, busy_or, gives_up}
use Rattle.step_machine.specs.Below.{from_pocket, begun}
use Rattle.std.specs.List.{flat_map}
use Rattle.step_machine.specs.Chains.{queue_in}
use Rattle.step_machine.specs.Entries.{entry_of}
use Rattle.step_machine.specs.Machine.{World, actor_of, opening, new_operation, with_outcome, with_operation, entry_or, after_outcome, with_actor, run, IsReached}
use Rattle.step_machine.specs.Completion.{due_of, completed_reply}
use Rattle.step_machine.specs.Stamps.{makers}
use Rattle.step_machine.proofs.Choices.{both}
use Rattle.step_machine.proofs.StampsLists.{same_or_not, slice_get-set_same, slice_get-set_other, slice_get-append_end, put_end}
use Rattle.step_machine.proofs.StampsInvariants.{Idle, Busy, OperationAt, StampsInvariant, actor_cases}
use Rattle.step_machine.proofs.StampsMoves.{moves_kept, may_rest_all}
use Rattle.step_machine.proofs.Reached.{some_of, actor_stands}
use Rattle.step_machine.proofs.CompletionSteps.{entered, entry_in, bare_completion, taken, map_agree, entry_kept, actor_same, actor_other}
use Rattle.step_machine.proofs.Replay.{before}
use Rattle.step_machine.proofs.Legal.{SimulationRelation, WasEmpty}

-- an outcome leaves the call of its actor
record SameOp (a : Actor) (o : Outcome) : Type 0 where
  same : o.actor.op ≡ a.op

freed_op : (kind : Kind) (now : ℕ) (due : Option Reply) (a : Actor) → SameOp a (freed kind now due a)
freed_op kind now None a = record { same = refl }
freed_op kind now (Some reply) a = record { same = refl }

unlocked_op : (now : ℕ) (due : Option Reply) (a : Actor) → SameOp a (unlocked now due a)
unlocked_op now (Some Done) a = record { same = refl }
unlocked_op now _ a = record { same = refl }

left_op : (now : ℕ) (due : Option Reply) (a : Actor) → SameOp a (left now due a)
left_op now (Some (Refused refusal)) a = record { same = refl }
left_op now _ a = record { same = refl }

left_with_node_op : (now : ℕ) (due : Option Reply) (a : Actor) → SameOp a (left_with_node now due a)
left_with_node_op now (Some (Refused refusal)) a = record { same = refl }
left_with_node_op now _ a = record { same = refl }

op_kept : (s : Setup) (now me : ℕ) (a : Actor) (l : Line) (c : Found (action s me a l)) → SameOp a (outcome s now me a l c)
op_kept s now me a N2 c = both (SameOp a) (is_null c) (both (SameOp a) (nat_lt a.f s.size) (record { same = refl }) (record { same = refl }))
    (both (SameOp a) (nat_eq c.count s.limit) (record { same = refl }) (record { same = refl }))
op_kept s now me a N4 c = both (SameOp a) (same_ref c a.top) (record { same = refl }) (record { same = refl })
op_kept s now me a N5 c = both (SameOp a) (nat_eq c a.f) (record { same = refl }) (record { same = refl })
op_kept s now me a F1 c = both (SameOp a) (nat_eq c.count s.limit) (record { same = (freed_op s.kind now a.due (record a { top = c })).same }) (record { same = refl })
op_kept s now me a F3 c = both (SameOp a) (same_ref c a.top) (record { same = (freed_op s.kind now a.due (empties_hand a)).same }) (record { same = refl })
op_kept s now me a E3 c = both (SameOp a) (nat_eq c.count s.limit) (record { same = refl }) (record { same = refl })
op_kept s now me a E7 c = both (SameOp a) (same_ref c a.tail) (both (SameOp a) (is_null a.next) (record { same = refl })
    (both (SameOp a) (is_shut s.bits a.next) (record { same = refl }) (both (SameOp a) (nat_eq a.tail.count s.limit) (record { same = refl })
    (record { same = refl })))) (record { same = refl })
op_kept s now me a E9 c = both (SameOp a) (same_ref c a.next) (ended (nat_eq a.tail.count s.limit)) (record { same = refl })
  where
    ended : (b : Bool) → SameOp a (effect now (if b then ends now Done (empties_hand (record a { due = Some Done })) else goes E17 (empties_hand (record a { due = Some Done }))))
    ended true = record { same = refl }
    ended false = record { same = refl }
op_kept s now me a D5 c = both (SameOp a) (same_ref c a.head) (both (SameOp a) (nat_eq a.head.node a.tail.node)
    (both (SameOp a) (is_null a.next) (record { same = refl }) (both (SameOp a) (is_shut s.bits a.next) (record { same = refl })
    (both (SameOp a) (nat_eq a.tail.count s.limit) (record { same = refl }) (record { same = refl })))) (record { same = refl }))
    (record { same = refl })
op_kept s now me a D12 c = both (SameOp a) (nat_eq a.head.count s.limit) (record { same = refl }) (record { same = refl })
op_kept s now me a D13 c = both (SameOp a) (same_ref c a.head) (record { same = refl }) (record { same = refl })
op_kept s now me a A3 c = both (SameOp a) (nat_eq c 0) (record { same = refl }) (record { same = refl })
op_kept s now me a B1 c = both (SameOp a) (nat_eq c 0) (record { same = refl }) (record { same = refl })
op_kept s now me a B3 c = both (SameOp a) (is_null c) (record { same = refl }) (both (SameOp a) (is_shut s.bits c) (record { same = refl }) (record { same = refl }))
op_kept s now me a B4 c = both (SameOp a) (nat_eq a.head.count s.limit) (record { same = refl }) (record { same = refl })
op_kept s now me a B6 c = unlocked_op now a.due a
op_kept s now me a A5 c = both (SameOp a) (same_ref c null) (record { same = refl }) (record { same = refl })
op_kept s now me a A7 c = left_with_node_op now a.due a
op_kept s now me a S3 c = both (SameOp a) (same_ref c a.tail) (both (SameOp a) (is_null a.next) (record { same = refl })
    (both (SameOp a) (is_shut s.bits a.next) (record { same = refl }) (both (SameOp a) (nat_eq a.tail.count s.limit) (record { same = refl })
    (record { same = refl })))) (record { same = refl })
op_kept s now me a S4 c = both (SameOp a) (same_ref c a.next) (record { same = refl }) (record { same = refl })
op_kept s now me a S6 c = both (SameOp a) (nat_eq c 0) (record { same = refl }) (record { same = refl })
op_kept s now me a S8 c = both (SameOp a) (same_ref c null) (record { same = refl }) (record { same = refl })
op_kept s now me a S9 c = left_op now a.due a
op_kept s now me a _ c = record { same = refl }

-- a step leaves the call of its actor
pub same_op : (s : Setup) (now me : ℕ) (a : Actor) (l : Line) (c : Found (action s me a l)) → (outcome s now me a l c).actor.op ≡ a.op
same_op s now me a l c = (op_kept s now me a l c).same

busy_or_op : (now : ℕ) (due : Option Reply) (a : Actor) → IfSome (busy_or now due a) (λ o. o.actor.op ≡ a.op)
busy_or_op now None a = refl
busy_or_op now (Some reply) a = refl

-- and so does giving up
pub same_op_given : (now : ℕ) (a : Actor) (l : Line) → IfSome (gives_up now a l) (λ o. o.actor.op ≡ a.op)
same_op_given now a N1 = refl
same_op_given now a F1 = busy_or_op now a.due (to_pocket a)
same_op_given now a E5 = refl
same_op_given now a D2 = refl
same_op_given now a A3 = refl
same_op_given now a B1 = refl
same_op_given now a S1 = refl
same_op_given now a S6 = refl
same_op_given now a _ = tt

-- what stands in a list once an operation is added or changed
recorded_other : (entry : Option ℕ) (new : Stamped) (change : Stamped → Stamped) (ops : List Stamped) (i : ℕ) (s : Stamped) → i ≢ entry_or entry (length ops)
    → slice_get (with_operation entry new change ops) i ≡ Some s → slice_get ops i ≡ Some s
recorded_other None new change ops i s other got = sym ((put_end ops (change new)).others i other) ∙ got
recorded_other (Some e) new change ops i s other got = sym (slice_get-set_other ops e i (change (get_or ops e new)) other) ∙ got

-- what is known of operations: of an actor with a call, the operation is of that call
abbrev pub OfTheirCalls : World → Type 0
OfTheirCalls w =
    (me e : ℕ) (a : Actor) (l : Line) (s : Stamped) → actor_of w me ≡ Some a → a.line ≡ Some l → a.entry ≡ Some e → slice_get w.operations e ≡ Some s → s.op ≡ a.op

-- the operation of a mover after its step
recorded_here : (K : List ℕ) (w : World) (me : ℕ) (a : Actor) (l : Line) (o : Outcome) (s : Stamped) (entry : Option ℕ) → a.entry ≡ entry
    → OperationAt (Unit {0}) K w.operations me (Some l) entry a.due a.empty_at → actor_of w me ≡ Some a → a.line ≡ Some l → OfTheirCalls w
    → slice_get (with_operation entry (new_operation me a.op (w.steps + 1)) (with_outcome (w.steps + 1) o) w.operations) (entry_or entry (length w.operations)) ≡ Some s
    → s.op ≡ a.op
recorded_here K w me a l o s None at k is line calls got =
    sym (ap (λ (x : Stamped). x.op) (same_Some _ s (sym (slice_get-append_end w.operations (with_outcome (w.steps + 1) o (new_operation me a.op (w.steps + 1)))) ∙ got)))
recorded_here K w me a l o s (Some e) at k is line calls got =
    let b : Busy (Unit {0}) w.operations me e k.0 = k.1 in
    let here : slice_get (set w.operations e (with_outcome (w.steps + 1) o (get_or w.operations e (new_operation me a.op (w.steps + 1))))) e ≡ Some
    (with_outcome (w.steps + 1) o (get_or w.operations e (new_operation me a.op (w.steps + 1)))) =
    slice_get-set_same w.operations e k.0 _ b.here in
    sym (ap (λ (x : Stamped). x.op) (same_Some _ s (sym here ∙ got)))
    ∙ ap (λ (x : Stamped). x.op) (get_or_from_slice_get w.operations e k.0 (new_operation me a.op (w.steps + 1)) b.here)
    ∙ calls me e a l k.0 is line at b.here

-- another actor's operation stands at another place
apart_from : (K : List ℕ) (w : World) (me you e : ℕ) (a c : Actor) (l : Line) (k : Line) → you ≢ me → StampsInvariant (Unit {0}) K w → (entry : Option ℕ)
    → OperationAt (Unit {0}) K w.operations me (Some l) entry a.due a.empty_at → actor_of w you ≡ Some c → c.line ≡ Some k → c.entry ≡ Some e
    → e ≢ entry_or entry (length w.operations)
apart_from K w me you e a c l k other h entry g there line at = go entry g
  where
    mine : OperationAt (Unit {0}) K w.operations you (Some k) (Some e) c.due c.empty_at
    mine =
        subst (λ x. OperationAt (Unit {0}) K w.operations you (Some k) x c.due c.empty_at) at
        (subst (λ x. OperationAt (Unit {0}) K w.operations you x c.entry c.due c.empty_at) line (h.actors you c there))

    go : (entry : Option ℕ) → OperationAt (Unit {0}) K w.operations me (Some l) entry a.due a.empty_at → e ≢ entry_or entry (length w.operations)
    go None g q = let low : e < length w.operations = slice_get_within w.operations e mine.0 mine.1.here in omega arith
    go (Some i) g q =
        let same : mine.0 ≡ g.0 = same_Some mine.0 g.0 (sym mine.1.here ∙ ap (slice_get w.operations) q ∙ g.1.here) in
        other (sym mine.1.own ∙ ap (λ (x : Stamped). x.actor) same ∙ g.1.own)

-- operations stay of their calls
pub calls_settled : (K : List ℕ) (w : World) (me : ℕ) (a : Actor) (l : Line) (m' : Shared) (o : Outcome) → StampsInvariant (Unit {0}) K w
    → actor_of w me ≡ Some a → a.line ≡ Some l → o.actor.op ≡ a.op → OfTheirCalls w → OfTheirCalls (after_outcome w me a m' o)
calls_settled K w me a l m' o h is line same calls you e c k s there at entry got = pick (actor_cases w me a (record o.actor { entry = Some (entry_or a.entry (length w.operations)) }) is you c there)
  where
    known : OperationAt (Unit {0}) K w.operations me (Some l) a.entry a.due a.empty_at
    known = subst (λ x. OperationAt (Unit {0}) K w.operations me x a.entry a.due a.empty_at) line (h.actors me a is)

    pick : ((you ≡ me) × (record o.actor { entry = Some (entry_or a.entry (length w.operations)) } ≡ c)) ⊎ ((you ≢ me) × (actor_of w you ≡ Some c)) → s.op ≡ c.op
    pick (inl q) =
        let here : entry_or a.entry (length w.operations) ≡ e = same_Some _ e (ap (λ (x : Actor). x.entry) q.1 ∙ entry) in
        recorded_here K w me a l o s a.entry refl known is line calls (ap (slice_get (after_outcome w me a m' o).operations) here ∙ got) ∙ sym same ∙ ap (λ (x : Actor). x.op) q.1
    pick (inr q) =
        calls you e c k s q.1 at entry
        (recorded_other a.entry _ _ w.operations e s (apart_from K w me you e a c l k q.0 h a.entry known q.1 at entry) got)

-- what calls have made is kept
pub kept_reached : (w : World) (r : IsReached w) → StampsInvariant (Unit {0}) (makers r.moves) w
kept_reached w r = some_of (StampsInvariant (Unit {0}) (makers r.moves)) (run r.moves (opening w.setup r.actors)) w r.led (moves_kept (Unit {0}) w.setup r.actors r.moves (may_rest_all r.moves))

-- the book stays where an actor without a call has another state
pub book_begun : (K : List ℕ) (w : World) (me : ℕ) (a b : Actor) → StampsInvariant (Unit {0}) K w → actor_of w me ≡ Some a → a.line ≡ None → bare_completion (with_actor w me b) ≡ bare_completion w
book_begun K w me a b h is line =
    map_agree (entry_in (with_actor w me b)) (entry_in w) w.operations
    (λ i p got. entry_kept K w me b p (actor_stands w me a is).0 (h.operations.each i p got) (λ own. idle i p got own))
  where
    idle : Idle (Unit {0}) w.operations me
    idle = subst (λ x. OperationAt (Unit {0}) K w.operations me x a.entry a.due a.empty_at) line (h.actors me a is)

-- and where what an actor will answer stays
pub book_rested : (w : World) (me : ℕ) (a b : Actor) → actor_of w me ≡ Some a → b.due ≡ a.due → bare_completion (with_actor w me b) ≡ bare_completion w
book_rested w me a b is same = map_agree (entry_in (with_actor w me b)) (entry_in w) w.operations (λ i p got. go p (same_or_not p.actor me))
  where
    go : (p : Stamped) → (p.actor ≡ me) ⊎ (p.actor ≢ me) → entry_in (with_actor w me b) p ≡ entry_in w p
    go p (inl own) =
        ap (λ x. entered p.actor p.op p.at (completed_reply p.reply p.at x))
        (ap (λ x. due_of (actor_of (with_actor w me b) x)) own ∙ ap due_of (actor_same w me a b is) ∙ same ∙ sym (ap due_of is) ∙ sym (ap (λ x. due_of (actor_of w x)) own))
    go p (inr other) = ap (λ x. entered p.actor p.op p.at (completed_reply p.reply p.at (due_of x))) (actor_other w me p.actor b (actor_stands w me a is).0 other)

-- a world with another state of an actor whose operation nobody asks for
pub simulation_with : (w : World) (me : ℕ) (a b : Actor) (queue : List ℕ) → actor_of w me ≡ Some a → bare_completion (with_actor w me b) ≡ bare_completion w
    → ((l : Line) (e : ℕ) → b.line ≡ Some l → b.entry ≡ Some e → ⊥) → SimulationRelation w queue
    → SimulationRelation (with_actor w me b) queue × ((k : ℕ) → WasEmpty w k → WasEmpty (with_actor w me b) k)
simulation_with w me a b queue is same new ac = (
  record {
    replays = subst (λ t. IsSequentialRun empty (by_point t)) (sym same) ac.replays;
    list = ap (λ t. queue_after empty (by_point t)) same ∙ ac.list;
    plays = subst (λ t. Plays empty (flat_map entry_of (by_point t)) (queue_in w.setup.bits w.shared queue)) (sym same) ac.plays;
    counted = ac.counted ∙ sym (ap taken same);
    calls = λ you e c l s there line entry got. pick you e c l s line entry got (actor_cases w me a b is you c there);
  },
  λ k z. (z.0, ap (λ t. queue_after empty (before k (by_point t))) same ∙ z.1),
)
  where
    pick : (you e : ℕ) (c : Actor) (l : Line) (s : Stamped) → c.line ≡ Some l → c.entry ≡ Some e → slice_get w.operations e ≡ Some s
        → ((you ≡ me) × (b ≡ c)) ⊎ ((you ≢ me) × (actor_of w you ≡ Some c)) → s.op ≡ c.op
    pick you e c l s line entry got (inl q) = absurd (new l e (ap (λ (x : Actor). x.line) q.1 ∙ line) (ap (λ (x : Actor). x.entry) q.1 ∙ entry))
    pick you e c l s line entry got (inr q) = ac.calls you e c l s q.1 line entry got

-- an actor that begins a call has no operation for it
from_pocket_entry : (l : Line) (pocket : Option Held) (a : Actor) → (from_pocket l pocket a).entry ≡ a.entry
from_pocket_entry l None a = refl
from_pocket_entry l (Some held) a = refl

pub begun_entry : (kind : Kind) (me : ℕ) (op : Op) (a : Actor) → (begun kind me op a).entry ≡ None
begun_entry kind me (Enq body) a = from_pocket_entry (with_node kind) a.pocket _
begun_entry kind me Deq a = from_pocket_entry F1 a.pocket _
begun_entry kind me Shut a = refl
