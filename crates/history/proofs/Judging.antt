-- A verdict of yes says that the operations are placed and legal.
use Rattle.std.proofs.Common.{◌≡◌, ◌≢◌, ℕ, ◌+◌, Bool, true, false, not, ◌&&◌, ◌||◌, ◌⊎◌, inl, inr, nat_le, nat_eq, if◌then◌else◌, Option, Some, None, IfSome, List, [], ◌∷◌, refl, sym, ap}
use Rattle.std.proofs.lemmas.Bool.{leb-true, eqb-true, eqb-false, and_parts, or_parts}
use Rattle.std.specs.List.{AllByRecursion}
use Rattle.history.specs.declared.operations.Taken.{Taken}
use Rattle.history.specs.declared.operations.Reply.{Reply}
use Rattle.history.specs.declared.operations.Reply.TheVariants.{Done, Value, Empty, Refused}
use Rattle.history.specs.declared.operations.Stamped.{Stamped}
use Rattle.history.specs.declared.operations.Verdict.{Verdict}
use Rattle.history.specs.declared.operations.Verdict.TheVariants.{Yes}
use Rattle.history.specs.declared.operations.Cause.{Cause}
use Rattle.history.specs.declared.operations.Cause.TheVariants.{Shape, Span, Shared}
use Rattle.history.specs.Queue.{Queue, empty, response}
use Rattle.history.specs.declared.refusals.Refusal.{Refusal}
use Rattle.history.specs.declared.refusals.Refusal.TheVariants.{Closed}
use Rattle.history.specs.History.{leaves, is_closed, refuses, LiesIn, IsPlaced, AreApart, Placement, by_point, AgreesWithQueue, answer}
use Rattle.history.specs.History.{IsSequentialRun, IsLegal, is_shaped, lies_within, same_point, is_shared, fault_of, fault_or, first_fault}
use Rattle.history.specs.History.{same_reply, agrees_with_queue, first_wrong, wrong_reply, fault_or_replies, verdict}

lies : (first : ℕ) (last at : Option ℕ) (reply : Option Reply) → is_shaped last at reply ≡ true → lies_within first last at ≡ true → LiesIn first last at reply
lies first None None None s w = record { ended = (λ x. x, λ x. x); placed = λ x. x; not_before = tt; not_after = tt }
lies first None (Some at) None s w =
    record { ended = (λ x. x, λ x. x); placed = λ _. refl; not_before = leb-true first at w; not_after = tt }
lies first (Some last) (Some at) (Some reply) s w =
    let w1 = and_parts (nat_le first last && nat_le first at) (nat_le at last) w in
    record {
      ended = (λ x. x, λ x. x);
      placed = λ x. x;
      not_before = leb-true first at (and_parts (nat_le first last) (nat_le first at) w1.0).1;
      not_after = leb-true at last w1.1;
    }
lies first (Some last) None None s w = cc s
lies first (Some last) (Some at) None s w = cc s
lies first None None (Some reply) s w = cc s
lies first None (Some at) (Some reply) s w = cc s
lies first (Some last) None (Some reply) s w = cc s

no_fault : (b c d : Bool) → (if not b then Some Shape else if not c then Some Span else if d then Some Shared else None) ≡ None → (b ≡ true) × (c ≡ true) × (d ≡ false)
no_fault true true false e = (refl, refl, refl)
no_fault true true true e = cc e
no_fault true false d e = cc e
no_fault false c d e = cc e

-- no verdict of a list: none of its first operation, and none of the rest
pub no_verdict : (cause : Option Cause) (place : ℕ) (rest : Option Verdict) → fault_or cause place rest ≡ None → (cause ≡ None) × (rest ≡ None)
no_verdict None place rest e = (refl, e)
no_verdict (Some cause) place rest e = cc e

-- a place that is not another's
differs : (a : Option ℕ) (at : ℕ) → same_point a (Some at) ≡ false → a ≢ Some at
differs None at e f = cc f
differs (Some b) at e f = let h : b ≡ at = cc f in eqb-false b at e h

shared_with : (p o : Stamped) (earlier : List Stamped) → is_shared p (o ∷ earlier) ≡ false → (same_point p.at o.at ≡ false) × (is_shared p earlier ≡ false)
shared_with p o earlier e = or_parts (same_point p.at o.at) (is_shared p earlier) e

apart_from : (place : Option ℕ) (os : List Stamped) → AllByRecursion (λ p. same_point p.at place ≡ false) os → IfSome place (λ at. AllByRecursion (λ p. p.at ≢ Some at) os)
apart_from None os h = tt
apart_from (Some at) os h = all os h
  where
    all : (os : List Stamped) → AllByRecursion (λ p. same_point p.at (Some at) ≡ false) os → AllByRecursion (λ p. p.at ≢ Some at) os
    all [] h = tt
    all (p ∷ ps) h = (differs p.at at h.0, all ps h.1)

split_shared : (o : Stamped) (earlier os : List Stamped) → AllByRecursion (λ p. is_shared p (o ∷ earlier) ≡ false) os
    → AllByRecursion (λ p. same_point p.at o.at ≡ false) os × AllByRecursion (λ p. is_shared p earlier ≡ false) os
split_shared o earlier [] h = (tt, tt)
split_shared o earlier (p ∷ ps) h =
    let a = shared_with p o earlier h.0 in let b = split_shared o earlier ps h.1 in ((a.0, b.0), (a.1, b.1))

-- a list without a first fault is well placed, apart, and apart from what is before it
pub clean : (place : ℕ) (earlier ops : List Stamped) → first_fault place earlier ops ≡ None → AllByRecursion IsPlaced ops × AllByRecursion (λ o. is_shared o earlier ≡ false) ops × AreApart ops
clean place earlier [] e = (tt, tt, tt)
clean place earlier (o ∷ os) e =
    let v = no_verdict (fault_of earlier o) place (first_fault (place + 1) (o ∷ earlier) os) e in
    let f = no_fault (is_shaped o.last o.at o.reply) (lies_within o.first o.last o.at) (is_shared o earlier) v.0 in
    let r = clean (place + 1) (o ∷ earlier) os v.1 in
    let t = split_shared o earlier os r.1 in
    ((lies o.first o.last o.at o.reply f.0 f.1, r.0), (f.2, t.1), (apart_from o.at os t.0, r.2))

-- a list without a first fault is well placed
pub placement_from_no_fault : (ops : List Stamped) → first_fault 1 [] ops ≡ None → Placement ops
placement_from_no_fault ops e = let c = clean 1 [] ops e in record { each = c.0; apart = c.2 }

same_value : (v w : Taken) → (nat_eq v.from w.from && nat_eq v.body w.body) ≡ true → v ≡ w
same_value v w e =
    let h = and_parts (nat_eq v.from w.from) (nat_eq v.body w.body) e in
    let a : v.from ≡ w.from = eqb-true _ _ h.0 in
    let b : v.body ≡ w.body = eqb-true _ _ h.1 in
    λ i. record { from = a i; body = b i }

same_answer : (r q : Reply) → same_reply r q ≡ true → r ≡ q
same_answer Done Done e = refl
same_answer Empty Empty e = refl
same_answer (Value v) (Value w) e = ap Value (same_value v w e)
same_answer _ _ e = cc e

-- a refusal that is tested to be that the queue is shut, and a reply that is tested to be it
closed_is : (refusal : Refusal) → is_closed refusal ≡ true → refusal ≡ Closed
closed_is Closed e = refl
closed_is _ e = cc e

refuses_is : (given : Reply) → refuses given ≡ true → Refused Closed ≡ given
refuses_is (Refused refusal) e = ap Refused (sym (closed_is refusal e))
refuses_is _ e = cc e

refused_right : (b : Bool) (given : Reply) (refusal : Refusal) → leaves refusal ≡ b → (b || is_closed refusal && refuses given) ≡ true
    → (leaves refusal ≡ true) ⊎ ((refusal ≡ Closed) × (Refused Closed ≡ given))
refused_right true given refusal is e = inl is
refused_right false given refusal is e =
    let h = and_parts (is_closed refusal) (refuses given) e in
    inr (closed_is refusal h.0, refuses_is given h.1)

-- the queue gives a reply that passes the test
pub gets_right : (queue : Queue) (o : Stamped) (r : Option Reply) → agrees_with_queue queue o r ≡ true → AgreesWithQueue queue o r
gets_right queue o None e = tt
gets_right queue o (Some (Refused refusal)) e = refused_right (leaves refusal) (response o.actor o.op queue).reply refusal refl e
gets_right queue o (Some Done) e = same_answer Done _ e
gets_right queue o (Some (Value v)) e = same_answer (Value v) _ e
gets_right queue o (Some Empty) e = same_answer Empty _ e

right_from : (b : Bool) (queue : Queue) (o : Stamped) (os : List Stamped) → agrees_with_queue queue o o.reply ≡ b
    → (if b then first_wrong (answer queue o o.reply).after os else Some o) ≡ None
    → (first_wrong (answer queue o o.reply).after os ≡ None → IsSequentialRun (answer queue o o.reply).after os) → IsSequentialRun queue (o ∷ os)
right_from true queue o os f g more = (gets_right queue o o.reply f, more g)
right_from false queue o os f g more = cc g

-- operations none of which is wrong get their replies
pub replays_right : (queue : Queue) (ops : List Stamped) → first_wrong queue ops ≡ None → IsSequentialRun queue ops
replays_right queue [] e = tt
replays_right queue (o ∷ os) e =
    right_from (agrees_with_queue queue o o.reply) queue o os refl e (replays_right (answer queue o o.reply).after os)

no_wrong : (ops : List Stamped) (o : Option Stamped) → wrong_reply ops o ≡ Yes → o ≡ None
no_wrong ops None e = refl
no_wrong ops (Some o) e = cc e

-- a fault is never a yes
yes_from : (ops : List Stamped) (v : Option Verdict) → (v ≡ Some Yes → ⊥) → fault_or_replies ops v ≡ Yes → (v ≡ None) × (first_wrong empty (by_point ops) ≡ None)
yes_from ops None n e = (refl, no_wrong ops _ e)
yes_from ops (Some v) n e = absurd (n (ap Some e))

never_yes : (place : ℕ) (earlier ops : List Stamped) → first_fault place earlier ops ≡ Some Yes → ⊥
never_yes place earlier [] e = cc e
never_yes place earlier (o ∷ os) e = go (fault_of earlier o) (first_fault (place + 1) (o ∷ earlier) os) e (never_yes (place + 1) (o ∷ earlier) os)
  where
    go : (c : Option Cause) (r : Option Verdict) → fault_or c place r ≡ Some Yes → (r ≡ Some Yes → ⊥) → ⊥
    go None r e n = n e
    go (Some c) r e n = cc e

-- a yes is right
pub yes_is_right : (ops : List Stamped) → verdict ops ≡ Yes → Placement ops × IsLegal ops
yes_is_right ops e =
    let y = yes_from ops (first_fault 1 [] ops) (never_yes 1 [] ops) e in
    (placement_from_no_fault ops y.0, replays_right empty (by_point ops) y.1)
