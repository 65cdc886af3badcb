-- Each move keeps what holds of the operations and of the actors, and so does each list of moves.
use Rattle.std.proofs.Common.{◌≡◌, ◌≢◌, ℕ, zero, suc, ◌+◌, ◌-◌, ◌⊎◌, inl, inr, true, List, [], ◌∷◌, ◌++◌, map, replicate, Option, Some, None, IfSome}
use Rattle.std.proofs.Common.{refl, sym, subst, ap, ◌∙◌, append_assoc, append-nil}
use Rattle.std.specs.Prelude.{slice_get}
use Rattle.std.specs.List.{AllByRecursion}
use Rattle.std.proofs.lemmas.Option.{none-some, same_Some, IfSome_then}
use Rattle.step_machine.specs.Below.{Kind, TwoLock, NonBlocking, Line, F1, E2, A1, Op, Enq, Deq, Shut, Reply, Stamped, Setup, Held, Actor, found, action, gives_up, from_pocket, begun}
use Rattle.step_machine.specs.declared.actors.Move.{Move}
use Rattle.step_machine.specs.declared.actors.Move.TheVariants.{Begin, Step, Give}
use Rattle.step_machine.specs.Machine.{World, idle, opening, actor_of, rested, with_actor, may_rest, AnyMove, made, Rest, next_any, run_on, run}
use Rattle.step_machine.specs.Stamps.{makers, HasNoEffect}
use Rattle.step_machine.proofs.AnyMoves.{after_move}
use Rattle.step_machine.proofs.Reached.{some_of, actor_stands}
use Rattle.step_machine.proofs.StampsLines.{PointAt, Turns, turned, given_turned}
use Rattle.step_machine.proofs.StampsInvariants.{Over, Idle, OperationAt, StampsInvariant, actor_cases, settled_kept}
use Rattle.step_machine.proofs.StampsLists.{same_or_not}

-- the makers after one more move
abbrev after : List ℕ → AnyMove → List ℕ
after K (made (Begin me op)) = K
after K (made (Step me)) = K ++ me ∷ []
after K (made (Give me)) = K ++ me ∷ []
after K (Rest me) = K

-- a move is one that these moves may have: a rest only where actors may rest
abbrev pub May : (Rests : Type 0) → AnyMove → Type 0
May Rests (made m) = Unit {0}
May Rests (Rest me) = Rests

-- a move without a number, of one actor, keeps what holds
with_actor_kept : (Rests : Type 0) (K : List ℕ) (w : World) (me : ℕ) (a b : Actor) → StampsInvariant Rests K w → actor_of w me ≡ Some a
    → OperationAt Rests K w.operations me b.line b.entry b.due b.empty_at → StampsInvariant Rests K (with_actor w me b)
with_actor_kept Rests K w me a b h is k =
    record { counted = h.counted; operations = h.operations; actors = λ you c got. pick you c (actor_cases w me a b is you c got) }
  where
    pick : (you : ℕ) (c : Actor) → ((you ≡ me) × (b ≡ c)) ⊎ ((you ≢ me) × (actor_of w you ≡ Some c)) → OperationAt Rests K w.operations you c.line c.entry c.due c.empty_at
    pick you c (inl q) =
        subst (λ m. OperationAt Rests K w.operations m c.line c.entry c.due c.empty_at) (sym q.0)
        (subst (λ z. OperationAt Rests K w.operations me z.line z.entry z.due z.empty_at) q.1 k)
    pick you c (inr q) = h.actors you c q.1

-- what is known of an actor
abbrev KnowsOf : (Rests : Type 0) (K : List ℕ) (ops : List Stamped) (me : ℕ) → Actor → Type 0
KnowsOf Rests K ops me a = OperationAt Rests K ops me a.line a.entry a.due a.empty_at

-- an actor that begins a call has no operation for it yet
from_pocket_knows : (Rests : Type 0) (K : List ℕ) (ops : List Stamped) (me : ℕ) (l : Line) (held : Option Held) (a : Actor) → KnowsOf Rests K ops me a
    → ((h : Held) → KnowsOf Rests K ops me (from_pocket l (Some h) a)) → KnowsOf Rests K ops me (from_pocket l held a)
from_pocket_knows Rests K ops me l None a k each = k
from_pocket_knows Rests K ops me l (Some h) a k each = each h

begun_knows : (Rests : Type 0) (K : List ℕ) (ops : List Stamped) (me : ℕ) (kind : Kind) (op : Op) (a : Actor) → Idle Rests ops me → KnowsOf Rests K ops me (begun kind me op a)
begun_knows Rests K ops me TwoLock (Enq body) a over = from_pocket_knows Rests K ops me A1 a.pocket _ (over, refl) (λ h. (over, refl))
begun_knows Rests K ops me NonBlocking (Enq body) a over = from_pocket_knows Rests K ops me E2 a.pocket _ (over, refl) (λ h. (over, refl))
begun_knows Rests K ops me TwoLock Deq a over = from_pocket_knows Rests K ops me F1 a.pocket _ (over, refl) (λ h. (over, refl))
begun_knows Rests K ops me NonBlocking Deq a over = from_pocket_knows Rests K ops me F1 a.pocket _ (over, refl) (λ h. (over, refl))
begun_knows Rests K ops me TwoLock Shut a over = (over, refl)
begun_knows Rests K ops me NonBlocking Shut a over = (over, refl)

-- an operation that its actor leaves before its node is used has no place
left_over : (Rests : Type 0) (K : List ℕ) (ops : List Stamped) (me : ℕ) (due : Option Reply) (empty_at : ℕ) → Rests → (l : Line)
    → ((at : Option ℕ) (Noted : Type 0) → PointAt l due at Noted → at ≡ None) → (entry : Option ℕ) → OperationAt Rests K ops me (Some l) entry due empty_at
    → Idle Rests ops me
left_over Rests K ops me due empty_at rest l none None k = k.0
left_over Rests K ops me due empty_at rest l none (Some e) k = λ i p got own. pick i p got own (same_or_not i e)
  where
    left : HasNoEffect k.0
    left = record { no_last = k.1.no_last; no_place = none k.0.at _ k.2; no_reply = k.1.no_reply }

    pick : (i : ℕ) (p : Stamped) → slice_get ops i ≡ Some p → p.actor ≡ me → (i ≡ e) ⊎ (i ≢ e) → Over Rests p
    pick i p got own (inl q) =
        subst (λ z. Over Rests z) (same_Some k.0 p (sym k.1.here ∙ ap (λ j. slice_get ops j) (sym q) ∙ got)) (inr (rest, left))
    pick i p got own (inr n) = k.1.others i p n got own

rested_kept : (Rests : Type 0) (K : List ℕ) (w : World) (me : ℕ) (a : Actor) (l : Line) → Rests → StampsInvariant Rests K w → actor_of w me ≡ Some a
    → may_rest l ≡ true → OperationAt Rests K w.operations me (Some l) a.entry a.due a.empty_at → StampsInvariant Rests K (with_actor w me (rested a))
rested_kept Rests K w me a E2 rest h is may k =
    with_actor_kept Rests K w me a (rested a) h is
    (left_over Rests K w.operations me a.due a.empty_at rest E2 (λ at Noted stands. stands) a.entry k)
rested_kept Rests K w me a A1 rest h is may k =
    with_actor_kept Rests K w me a (rested a) h is
    (left_over Rests K w.operations me a.due a.empty_at rest A1 (λ at Noted stands. stands) a.entry k)
rested_kept Rests K w me a _ rest h is may k = cc

next_kept : (Rests : Type 0) (K : List ℕ) (w : World) (m : AnyMove) → May Rests m → StampsInvariant Rests K w → IfSome (next_any w m) (StampsInvariant Rests (after K m))
next_kept Rests K w m may h =
    IfSome_then (next_any w m)
    (after_move w (λ m v. May Rests m → StampsInvariant Rests (after K m) v)
    (record {
      began = λ me op a is e call yes. with_actor_kept Rests K w me a _ h is (begun_knows Rests K w.operations me w.setup.kind op a (knows me a None is e));
      step = λ me a l is at yes.
          settled_kept Rests K w me a _ l _ h is (knows me a (Some l) is at)
          (λ Q at n p stands. turned Q w.setup (w.steps + 1) me a l (found (action w.setup me a l) w.shared) at n p stands);
      gave_up = λ me a l o is at given yes.
          settled_kept Rests K w me a w.shared l o h is (knows me a (Some l) is at)
          (λ Q at n p stands. some_of (Turns Q at) (gives_up (w.steps + 1) a l) o given (given_turned Q (w.steps + 1) a l at n p stands));
      at_rest = λ me a l is at rests yes. rested_kept Rests K w me a l yes h is rests (knows me a (Some l) is at);
    })
    m)
    (λ v g. g may)
  where
    knows : (me : ℕ) (a : Actor) (l : Option Line) → actor_of w me ≡ Some a → a.line ≡ l → OperationAt Rests K w.operations me l a.entry a.due a.empty_at
    knows me a l is at = subst (λ x. OperationAt Rests K w.operations me x a.entry a.due a.empty_at) at (h.actors me a is)

run_on_kept : (Rests : Type 0) (K L : List ℕ) (more : World → Option World) (o : Option World) → IfSome o (StampsInvariant Rests K)
    → ((v : World) → StampsInvariant Rests K v → IfSome (more v) (StampsInvariant Rests L)) → IfSome (run_on more o) (StampsInvariant Rests L)
run_on_kept Rests K L more None h each = tt
run_on_kept Rests K L more (Some v) h each = each v h

after_makers : (K : List ℕ) (m : AnyMove) (ms : List AnyMove) → after K m ++ makers ms ≡ K ++ makers (m ∷ ms)
after_makers K (made (Begin me op)) ms = refl
after_makers K (made (Step me)) ms = append_assoc K (me ∷ []) (makers ms)
after_makers K (made (Give me)) ms = append_assoc K (me ∷ []) (makers ms)
after_makers K (Rest me) ms = refl

run_kept : (Rests : Type 0) (ms : List AnyMove) (K : List ℕ) (w : World) → AllByRecursion (May Rests) ms → StampsInvariant Rests K w → IfSome (run ms w) (StampsInvariant Rests (K ++ makers ms))
run_kept Rests [] K w may h = subst (λ L. StampsInvariant Rests L w) (sym (append-nil K)) h
run_kept Rests (m ∷ ms) K w may h =
    subst (λ L. IfSome (run_on (run ms) (next_any w m)) (StampsInvariant Rests L)) (after_makers K m ms)
    (run_on_kept Rests (after K m) (after K m ++ makers ms) (run ms) (next_any w m) (next_kept Rests K w m may.0 h)
    (λ v g. run_kept Rests ms (after K m) v may.1 g))

-- at the start no actor has a call
pub idle_got : (n k : ℕ) (a : Actor) → slice_get (replicate n idle) k ≡ Some a → idle ≡ a
idle_got zero k a got = absurd (none-some a got)
idle_got (suc n) zero a got = same_Some idle a got
idle_got (suc n) (suc k) a got = idle_got n k a got

opening_kept : (Rests : Type 0) (s : Setup) (actors : ℕ) → StampsInvariant Rests [] (opening s actors)
opening_kept Rests s actors =
    record {
      counted = refl;
      operations =
          record {
            each = λ i o got. absurd (none-some o got);
            pairs = λ i j o p lt got more. absurd (none-some o got);
          };
      actors = λ me a got. subst (λ z. KnowsOf Rests [] [] me z) (idle_got actors (me - 1) a (actor_stands (opening s actors) me a got).1) (λ i o none own. absurd (none-some o none));
    }

-- what holds after each list of moves
pub moves_kept : (Rests : Type 0) (s : Setup) (actors : ℕ) (moves : List AnyMove) → AllByRecursion (May Rests) moves → IfSome (run moves (opening s actors)) (StampsInvariant Rests (makers moves))
moves_kept Rests s actors moves may = run_kept Rests moves [] (opening s actors) may (opening_kept Rests s actors)

-- a list of moves may have rests where actors may rest
pub may_rest_all : (moves : List AnyMove) → AllByRecursion (May (Unit {0})) moves
may_rest_all [] = tt
may_rest_all (made m ∷ ms) = (tt, may_rest_all ms)
may_rest_all (Rest me ∷ ms) = (tt, may_rest_all ms)

-- the calls of a world have none
pub calls_rest_never : (moves : List Move) → AllByRecursion (May ⊥) (map made moves)
calls_rest_never [] = tt
calls_rest_never (m ∷ ms) = (tt, calls_rest_never ms)
