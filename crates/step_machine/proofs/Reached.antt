-- Every world that is reached has its numbers in range.
use Rattle.std.proofs.Common.{◌≡◌, ◌≢◌, ℕ, ◌+◌, ◌-◌, ◌^◌, ◌<◌, ◌≤◌, Bool, true, false, nat_eq, if◌then◌else◌, Option, Some, None, IfSome, List, []}
use Rattle.std.proofs.Common.{◌∷◌, ◌++◌, map, length, slice_get, get_or, refl, sym, subst, ap, ◌∙◌, arith}
use Rattle.std.proofs.Math.ListN.{length-set, length-replicate}
use Rattle.std.proofs.lemmas.Bool.{eqb-false, ltb-true}
use Rattle.std.proofs.lemmas.List.{map-append}
use Rattle.std.proofs.lemmas.List.Elements.{All-set, All-replicate}
use Rattle.std.proofs.lemmas.Option.{none-some, slice_get_within, get_or_from_slice_get}
use Rattle.std.specs.List.{All}
use Rattle.step_machine.specs.Below.{reserved_node, null, Kind, TwoLock, NonBlocking, Line, N1, N5, F1, E2, A1, Op, Enq, Deq, Shut, shuts, Setup}
use Rattle.step_machine.specs.Below.{Held, Actor, Outcome, blank, Shared, word, found, performed, action, dequeues, gives_up, is_call, from_pocket}
use Rattle.step_machine.specs.Below.{begun, aside_after}
use Rattle.step_machine.specs.declared.actors.Move.{Move}
use Rattle.step_machine.specs.Machine.{World, idle, opening, actor_of, rested, with_actor, after_outcome, stepped, next, AnyMove, made, next_any, run_on, run, IsSized, IsReached, IsMade}
use Rattle.step_machine.specs.Range.{RefInRange, NodeInRange, SharedInRange, HeldInRange, RegistersInRange, LineInRange, ActorInRange, WorldInRange}
use Rattle.step_machine.proofs.Range.{content_weakens, registers_weaken, pocket_weakens, actor_weakens, writes, found_in_range, Accessed, performed_in_range, as_next}
use Rattle.step_machine.proofs.OutcomesInRange.{OutcomeInRange, Wins, outcome_in_range, with_held, given_up_kept}
use Rattle.step_machine.proofs.AnyMoves.{after_move}

-- a world of so many actors is in range
record Holds (k : ℕ) (w : World) : Type 0 where
  number : length w.actors ≡ k
  sized : IsSized w.setup k
  shared : SharedInRange w.setup k w.shared
  actors : All (ActorInRange w.setup w.shared.fresh k) w.actors
  all_flags : length w.aside ≡ w.setup.size

holds : (w : World) → WorldInRange w → Holds (length w.actors) w
holds w h = record { number = refl; sized = h.sized; shared = h.shared; actors = h.actors; all_flags = h.all_flags }

in_range : (k : ℕ) (w : World) → Holds k w → WorldInRange w
in_range k w h =
    let e : k ≡ length w.actors = sym h.number in
    record {
      sized = subst (IsSized w.setup) e h.sized;
      shared = subst (λ j. SharedInRange w.setup j w.shared) e h.shared;
      actors = subst (λ j. All (ActorInRange w.setup w.shared.fresh j) w.actors) e h.actors;
      all_flags = h.all_flags;
    }

-- no node that was ever used has the number of a closed end
pub below_closed : (w : World) (n : ℕ) → WorldInRange w → n ≤ w.shared.fresh → n ≢ reserved_node w.setup.bits
below_closed w n h low e = omega (arith, h.shared.fresh, h.sized.numbered, low, e)

-- what holds wherever there is something holds in an option
pub if_some : {X : Type 0} (P : X → Type 0) (o : Option X) → ((x : X) → o ≡ Some x → P x) → IfSome o P
if_some P None f = tt
if_some P (Some x) f = f x refl

pub some_of : {X : Type 0} (P : X → Type 0) (o : Option X) (x : X) → o ≡ Some x → IfSome o P → P x
some_of P o x e h = subst (λ p. IfSome p P) e h

-- the actor of a number stands in the list at the place before
pub actor_stands : (w : World) (me : ℕ) (a : Actor) → actor_of w me ≡ Some a → (1 ≤ me) × (slice_get w.actors (me - 1) ≡ Some a)
actor_stands w me a e = go (nat_eq me 0) refl e
  where
    go : (b : Bool) → nat_eq me 0 ≡ b → (if b then None else slice_get w.actors (me - 1)) ≡ Some a → (1 ≤ me) × (slice_get w.actors (me - 1) ≡ Some a)
    go true z f = absurd (none-some a f)
    go false z f = let ne : ¬ (me ≡ 0) = eqb-false me 0 z in (omega arith, f)

-- an actor that a place of the list lends is the one of its number
pub same_actor : (w : World) (me : ℕ) (a b : Actor) → actor_of w me ≡ Some a → b ≡ get_or w.actors (me - 1) b → b ≡ a
same_actor w me a b at value = value ∙ get_or_from_slice_get w.actors (me - 1) a b (actor_stands w me a at).1

-- the number of an actor that is there is from 1 up to the number of actors
pub mover_in_range : (w : World) (me : ℕ) (a : Actor) → actor_of w me ≡ Some a → (1 ≤ me) × (me ≤ length w.actors)
mover_in_range w me a e =
    let t : (1 ≤ me) × (slice_get w.actors (me - 1) ≡ Some a) = actor_stands w me a e in
    let p : 1 ≤ me = t.0 in
    let within : me - 1 < length w.actors = slice_get_within w.actors (me - 1) a t.1 in
    (p, omega arith)

-- what holds of each actor holds of the actor of a number
pub actor_of-All : (P : Actor → Type 0) (w : World) (me : ℕ) (a : Actor) → All P w.actors → actor_of w me ≡ Some a → P a
actor_of-All P w me a h e =
    let t : (1 ≤ me) × (slice_get w.actors (me - 1) ≡ Some a) = actor_stands w me a e in
    subst P (get_or_from_slice_get w.actors (me - 1) a a t.1) (h (me - 1) a (slice_get_within w.actors (me - 1) a t.1))

-- each actor of a world in range is in range
pub actor_in_range : (w : World) (me : ℕ) (a : Actor) → WorldInRange w → actor_of w me ≡ Some a → ActorInRange w.setup w.shared.fresh (length w.actors) a
actor_in_range w me a h e = actor_of-All (ActorInRange w.setup w.shared.fresh (length w.actors)) w me a h.actors e

-- a step sets flags and changes no number of them
flags_kept : (flags : List Bool) (node : Option ℕ) → length (aside_after flags node) ≡ length flags
flags_kept flags None = refl
flags_kept flags (Some n) = length-set flags (n - 1) true

settled_holds : (k : ℕ) (w : World) (me : ℕ) (a : Actor) (m : Shared) (o : Outcome) → Holds k w → SharedInRange w.setup k m → w.shared.fresh ≤ m.fresh
    → OutcomeInRange w.setup m.fresh k o → Holds k (after_outcome w me a m o)
settled_holds k w me a m o h g rises c =
    record {
      number = length-set w.actors (me - 1) _ ∙ h.number;
      sized = h.sized;
      shared = g;
      actors =
          All-set (ActorInRange w.setup m.fresh k) w.actors (me - 1) _ (record { registers = c.registers; pocket = c.pocket; line = c.line })
          (λ j d b. actor_weakens w.setup w.shared.fresh m.fresh k (get_or w.actors j d) rises (h.actors j d b));
      all_flags = flags_kept w.aside o.aside ∙ h.all_flags;
    }

-- a line that wins a node that was never used makes it the last one used
won : (s : Setup) (me : ℕ) (m : Shared) (a : Actor) (l : Line) → Wins s (performed (action s me a l) m).fresh 0 me a l (found (action s me a l) m)
won s me m a N5 = λ e. go (nat_eq m.fresh a.f) e
  where
    go : (b : Bool) → b ≡ true → a.f + 1 ≤ (if b then record m { fresh = a.f + 1 } else m).fresh
    go true e = omega arith
    go false e = cc
won s me m a _ = tt

stepped_holds : (k : ℕ) (w : World) (me : ℕ) (a : Actor) (l : Line) → Holds k w → me ≤ k → ActorInRange w.setup w.shared.fresh k a → LineInRange w.setup.size a.f (Some l) → Holds k (stepped w me a l)
stepped_holds k w me a l h i g n =
    let x : Accessed w.setup k w.shared (performed (action w.setup me a l) w.shared) =
    performed_in_range w.setup k w.shared (action w.setup me a l) h.shared (writes w.setup k me w.shared a l i g.registers n) in
    settled_holds k w me a (performed (action w.setup me a l) w.shared) _ h x.range x.rises
    (outcome_in_range w.setup (performed (action w.setup me a l) w.shared).fresh k (w.steps + 1) me a l _
    (registers_weaken w.setup w.shared.fresh _ k a x.rises g.registers)
    (pocket_weakens w.setup.limit w.shared.fresh _ a.pocket x.rises g.pocket)
    (won w.setup me w.shared a l)
    (content_weakens w.setup w.shared.fresh _ k (word (action w.setup me a l)) _ x.rises (found_in_range w.setup k w.shared (word (action w.setup me a l)) h.shared)))

with_actor_holds : (k : ℕ) (w : World) (me : ℕ) (a : Actor) → Holds k w → ActorInRange w.setup w.shared.fresh k a → Holds k (with_actor w me a)
with_actor_holds k w me a h g =
    record {
      number = length-set w.actors (me - 1) a ∙ h.number;
      sized = h.sized;
      shared = h.shared;
      actors = All-set (ActorInRange w.setup w.shared.fresh k) w.actors (me - 1) a g h.actors;
      all_flags = h.all_flags;
    }

from_pocket_in_range : (s : Setup) (n k : ℕ) (l : Line) (p : Option Held) (a : Actor) → ((f : ℕ) → LineInRange s.size f (Some l))
    → IfSome p (HeldInRange s.limit n) → ActorInRange s n k a → ActorInRange s n k (from_pocket l p a)
from_pocket_in_range s n k l None a free p g = g
from_pocket_in_range s n k l (Some held) a free p g =
    record { registers = with_held s n k a held.node held.mark g.registers p.node p.mark; pocket = tt; line = free a.f }

-- an actor that begins an enqueue with an empty pocket, and one that begins a dequeue
enqueue_begun : (s : Setup) (n k me body : ℕ) (a : Actor) → me ≤ k → body < 2 ^ 48 → ActorInRange s n k a
    → ActorInRange s n k (record a { line = Some N1; op = Enq body; val = record { from = me; body = body }; due = None; entry = None })
enqueue_begun s n k me body a i b g =
    let r : RegistersInRange s n k a = g.registers in
    record {
      registers = record { op = b; f = r.f; top = r.top; node = r.node; mark = r.mark; tail = r.tail; head = r.head; next = r.next; val = record { from = i; body = b } };
      pocket = g.pocket;
      line = tt;
    }

dequeue_begun : (s : Setup) (n k : ℕ) (kind : Kind) (a : Actor) → ActorInRange s n k a → ActorInRange s n k (record a { line = Some (dequeues kind); op = Deq; due = None; entry = None })
dequeue_begun s n k TwoLock a g =
    let r : RegistersInRange s n k a = g.registers in
    record {
      registers = record { op = tt; f = r.f; top = r.top; node = r.node; mark = r.mark; tail = r.tail; head = r.head; next = r.next; val = r.val };
      pocket = g.pocket;
      line = tt;
    }
dequeue_begun s n k NonBlocking a g =
    let r : RegistersInRange s n k a = g.registers in
    record {
      registers = record { op = tt; f = r.f; top = r.top; node = r.node; mark = r.mark; tail = r.tail; head = r.head; next = r.next; val = r.val };
      pocket = g.pocket;
      line = tt;
    }

shut_begun : (s : Setup) (n k : ℕ) (kind : Kind) (a : Actor) → ActorInRange s n k a → ActorInRange s n k (record a { line = Some (shuts kind); op = Shut; due = None; entry = None })
shut_begun s n k TwoLock a g =
    let r : RegistersInRange s n k a = g.registers in
    record {
      registers = record { op = tt; f = r.f; top = r.top; node = r.node; mark = r.mark; tail = r.tail; head = r.head; next = r.next; val = r.val };
      pocket = g.pocket;
      line = tt;
    }
shut_begun s n k NonBlocking a g =
    let r : RegistersInRange s n k a = g.registers in
    record {
      registers = record { op = tt; f = r.f; top = r.top; node = r.node; mark = r.mark; tail = r.tail; head = r.head; next = r.next; val = r.val };
      pocket = g.pocket;
      line = tt;
    }

begun_in_range : (s : Setup) (n k me : ℕ) (kind : Kind) (op : Op) (a : Actor) → me ≤ k → is_call op ≡ true → ActorInRange s n k a → ActorInRange s n k (begun kind me op a)
begun_in_range s n k me TwoLock (Enq body) a i e g = from_pocket_in_range s n k A1 a.pocket _ (λ f. tt) g.pocket (enqueue_begun s n k me body a i (ltb-true body (2 ^ 48) e) g)
begun_in_range s n k me NonBlocking (Enq body) a i e g = from_pocket_in_range s n k E2 a.pocket _ (λ f. tt) g.pocket (enqueue_begun s n k me body a i (ltb-true body (2 ^ 48) e) g)
begun_in_range s n k me TwoLock Shut a i e g = shut_begun s n k TwoLock a g
begun_in_range s n k me NonBlocking Shut a i e g = shut_begun s n k NonBlocking a g
begun_in_range s n k me kind Deq a i e g = from_pocket_in_range s n k F1 a.pocket _ (λ f. tt) g.pocket (dequeue_begun s n k kind a g)

-- each move keeps a world in range
next_any_holds : (k : ℕ) (w : World) (m : AnyMove) → Holds k w → IfSome (next_any w m) (Holds k)
next_any_holds k w m h =
    after_move w (λ m v. Holds k v)
    (record {
      began = λ me op a is e call. with_actor_holds k w me _ h (begun_in_range w.setup w.shared.fresh k me w.setup.kind op a (low me a is) call (actor me a is));
      step = λ me a l is at. stepped_holds k w me a l h (low me a is) (actor me a is) (subst (LineInRange w.setup.size a.f) at (actor me a is).line);
      gave_up = λ me a l o is at given.
          settled_holds k w me a w.shared o h h.shared (omega arith)
          (some_of (OutcomeInRange w.setup w.shared.fresh k) (gives_up (w.steps + 1) a l) o given
          (given_up_kept w.setup w.shared.fresh k (w.steps + 1) a l (actor me a is).registers (actor me a is).pocket));
      at_rest = λ me a l is at may.
          with_actor_holds k w me (rested a) h
          (record { registers = (actor me a is).registers; pocket = record { node = (actor me a is).registers.node; mark = (actor me a is).registers.mark }; line = tt });
    })
    m
  where
    actor : (me : ℕ) (a : Actor) → actor_of w me ≡ Some a → ActorInRange w.setup w.shared.fresh k a
    actor me a is = actor_of-All (ActorInRange w.setup w.shared.fresh k) w me a h.actors is

    low : (me : ℕ) (a : Actor) → actor_of w me ≡ Some a → me ≤ k
    low me a is = let up : me ≤ length w.actors = (mover_in_range w me a is).1 in let all : length w.actors ≡ k = h.number in omega arith

pub run_on_if : (P : World → Type 0) (more : World → Option World) (o : Option World) → IfSome o P → ((v : World) → P v → IfSome (more v) P) → IfSome (run_on more o) P
run_on_if P more None g each = tt
run_on_if P more (Some v) g each = each v g

run_holds : (k : ℕ) (ms : List AnyMove) (w : World) → Holds k w → IfSome (run ms w) (Holds k)
run_holds k [] w h = h
run_holds k (m ∷ ms) w h = run_on_if (Holds k) (run ms) (next_any w m) (next_any_holds k w m h) (run_holds k ms)

idle_in_range : (s : Setup) (n k : ℕ) → ActorInRange s n k idle
idle_in_range s n k =
    let z : RefInRange s.limit n null = record { node = omega arith; count = omega arith } in
    record {
      registers = record {
        op = tt;
        f = omega arith;
        top = z;
        node = omega arith;
        mark = omega arith;
        tail = z;
        head = z;
        next = as_next s.bits s.limit n null z;
        val = record { from = omega arith; body = omega arith };
      };
      pocket = tt;
      line = tt;
    }

opening_holds : (s : Setup) (actors : ℕ) → IsSized s actors → Holds actors (opening s actors)
opening_holds s actors h =
    let nodes : 2 ≤ s.size = h.nodes in
    let z : RefInRange s.limit 1 null = record { node = omega arith; count = omega arith } in
    record {
      number = length-replicate actors idle;
      sized = h;
      shared =
          record {
            some_fresh = omega arith;
            fresh = omega arith;
            free = z;
            head = record { node = omega arith; count = omega arith };
            tail = record { node = omega arith; count = omega arith };
            tail_lock = omega arith;
            head_lock = omega arith;
            nodes = All-replicate (NodeInRange s.bits s.limit 1 actors) s.size blank (record { next = as_next s.bits s.limit 1 null z; value = record { from = omega arith; body = omega arith } });
            all_nodes = length-replicate s.size blank;
          };
      actors = All-replicate (ActorInRange s 1 actors) actors idle (idle_in_range s 1 actors);
      all_flags = length-replicate s.size false;
    }

reached_holds : (w : World) (r : IsReached w) → Holds r.actors w
reached_holds w r = some_of (Holds r.actors) (run r.moves (opening w.setup r.actors)) w r.led (run_holds r.actors r.moves (opening w.setup r.actors) (opening_holds w.setup r.actors r.sized))

-- a world that any moves lead to is in range
pub reached_in_range : (w : World) → IsReached w → WorldInRange w
reached_in_range w r = in_range r.actors w (reached_holds w r)

-- the closed end is above all nodes
pub few_nodes : (w : World) → IsReached w → length w.shared.nodes < reserved_node w.setup.bits
few_nodes w r = let g : WorldInRange w = reached_in_range w r in omega (arith, g.shared.all_nodes, g.sized.numbered)

-- so Head names none
pub head_not_closed : (w : World) → IsReached w → w.shared.head.node ≢ reserved_node w.setup.bits
head_not_closed w r = let g : WorldInRange w = reached_in_range w r in below_closed w w.shared.head.node g g.shared.head.node

-- a world that the calls of a world lead to is one that any moves lead to
abbrev pub made_reached : (w : World) → IsMade w → IsReached w
made_reached w m = record { actors = m.actors; moves = map made m.moves; sized = m.sized; led = m.led }

-- a world that the calls of a world lead to is in range
pub made_in_range : (w : World) → IsMade w → WorldInRange w
made_in_range w m = reached_in_range w (made_reached w m)

-- the world in which nothing happened yet is one that no moves lead to
pub opening_made : (s : Setup) (actors : ℕ) → IsSized s actors → IsMade (opening s actors)
opening_made s actors h = record { actors = actors; moves = []; sized = h; led = refl }

-- no move changes the setup
next_any_setup : (w : World) (m : AnyMove) → IfSome (next_any w m) (λ v. v.setup ≡ w.setup)
next_any_setup w m =
    after_move w (λ m v. v.setup ≡ w.setup)
    (record { began = λ me op a is e call. refl; step = λ me a l is at. refl; gave_up = λ me a l o is at given. refl; at_rest = λ me a l is at may. refl })
    m

pub setup-next_any : (w v : World) (m : AnyMove) → next_any w m ≡ Some v → v.setup ≡ w.setup
setup-next_any w v m e = some_of (λ v. v.setup ≡ w.setup) (next_any w m) v e (next_any_setup w m)

pub setup-next : (w v : World) (m : Move) → next w m ≡ Some v → v.setup ≡ w.setup
setup-next w v m e = setup-next_any w v (made m) e

-- one move more at the end of a list
run_more : (ms : List AnyMove) (m : AnyMove) (w : World) → run (ms ++ m ∷ []) w ≡ run_on (λ v. next_any v m) (run ms w)
run_more [] m w = last (next_any w m)
  where
    last : (o : Option World) → run_on (run []) o ≡ o
    last None = refl
    last (Some v) = refl
run_more (k ∷ ks) m w = along (next_any w k) (run_more ks m)
  where
    along : (o : Option World) → ((v : World) → run (ks ++ m ∷ []) v ≡ run_on (λ u. next_any u m) (run ks v)) → run_on (run (ks ++ m ∷ [])) o ≡ run_on (λ u. next_any u m) (run_on (run ks) o)
    along None each = refl
    along (Some v) each = each v

led_on : (w v : World) (k : ℕ) (ms : List AnyMove) (m : AnyMove) → run ms (opening w.setup k) ≡ Some w → next_any w m ≡ Some v → run (ms ++ m ∷ []) (opening v.setup k) ≡ Some v
led_on w v k ms m r e =
    let ends : run (ms ++ m ∷ []) (opening w.setup k) ≡ Some v = run_more ms m (opening w.setup k) ∙ ap (run_on (λ u. next_any u m)) r ∙ e in
    subst (λ s. run (ms ++ m ∷ []) (opening s k) ≡ Some v) (sym (setup-next_any w v m e)) ends

-- any move leads from a world that is reached to one that is reached
pub reached_next : (w v : World) (m : AnyMove) → IsReached w → next_any w m ≡ Some v → IsReached v
reached_next w v m r e =
    record {
      actors = r.actors;
      moves = r.moves ++ m ∷ [];
      sized = subst (λ s. IsSized s r.actors) (sym (setup-next_any w v m e)) r.sized;
      led = led_on w v r.actors r.moves m r.led e;
    }

-- each move that a call makes leads from a world that calls made to one that calls made
pub made_next : (w v : World) (m : Move) → IsMade w → next w m ≡ Some v → IsMade v
made_next w v m r e =
    record {
      actors = r.actors;
      moves = r.moves ++ m ∷ [];
      sized = subst (λ s. IsSized s r.actors) (sym (setup-next w v m e)) r.sized;
      led =
          subst (λ ms. run ms (opening v.setup r.actors) ≡ Some v) (sym (map-append made r.moves (m ∷ [])))
          (led_on w v r.actors (map made r.moves) (made m) r.led e);
    }
