-- The first fault of a list of operations: where it stands, and what is before it.
use Rattle.std.proofs.Common.{◌≡◌, ℕ, ◌+◌, Bool, true, false, not, ◌||◌, if◌then◌else◌, Option, Some, None, List, [], ◌∷◌, ◌++◌, length, refl, sym, ap, ◌∙◌, arith, add-zero}
use Rattle.history.specs.declared.operations.Stamped.{Stamped}
use Rattle.history.specs.declared.operations.Verdict.{Verdict}
use Rattle.history.specs.declared.operations.Verdict.TheVariants.{No}
use Rattle.history.specs.declared.operations.Cause.{Cause}
use Rattle.history.specs.declared.operations.Cause.TheVariants.{Shape, Span, Shared, Reply}
use Rattle.history.specs.Queue.{empty}
use Rattle.history.specs.History.{by_point, is_shaped, lies_within, same_point, is_shared, fault_of, fault_or, first_fault, first_wrong, wrong_reply, fault_or_replies, verdict}
use Rattle.history.specs.Faults.{FirstFaultIs}
use Rattle.history.proofs.Judging.{no_verdict, placement_from_no_fault}
use Rattle.history.proofs.Judged.{no_fault_from_placement}

-- the fault of an operation, by the tests of its shape, its span and its place
abbrev pub seen : Bool → Bool → Bool → Option Cause
seen b c d = if not b then Some Shape else if not c then Some Span else if d then Some Shared else None

-- the operations that were gone through, the nearest first, after those before them
turned : List Stamped → List Stamped → List Stamped
turned [] before = before
turned (o ∷ os) before = turned os (o ∷ before)

or_turned : (a b c : Bool) → (a || (b || c)) ≡ ((b || a) || c)
or_turned true true c = refl
or_turned true false c = refl
or_turned false true c = refl
or_turned false false c = refl

shared-turned : (o : Stamped) (ps before : List Stamped) → is_shared o (turned ps before) ≡ (is_shared o ps || is_shared o before)
unfolding turned
shared-turned o [] before = refl
shared-turned o (p ∷ ps) before =
    shared-turned o ps (p ∷ before) ∙ or_turned (is_shared o ps) (same_point o.at p.at) (is_shared o before)

or_false : (a : Bool) → (a || false) ≡ a
or_false true = refl
or_false false = refl

-- the order of the operations before one doesn't change its fault
fault_of-turned : (o : Stamped) (ps : List Stamped) → fault_of (turned ps []) o ≡ fault_of ps o
fault_of-turned o ps =
    ap (seen (is_shaped o.last o.at o.reply) (lies_within o.first o.last o.at))
    (shared-turned o ps [] ∙ or_false (is_shared o ps))

-- the first fault after operations without fault
first_fault-append : (xs ys before : List Stamped) (place : ℕ) → first_fault place before xs ≡ None → first_fault place before (xs ++ ys) ≡ first_fault (place + length xs) (turned xs before) ys
unfolding turned
first_fault-append [] ys before place h = ap (λ n. first_fault n before ys) (sym (add-zero place))
first_fault-append (x ∷ xs) ys before place h =
    let v = no_verdict (fault_of before x) place (first_fault (place + 1) (x ∷ before) xs) h in
    let e : place + 1 + length xs ≡ place + length (x ∷ xs) = omega arith in
    ap (λ c. fault_or c place (first_fault (place + 1) (x ∷ before) (xs ++ ys))) v.0 ∙
    first_fault-append xs ys (x ∷ before) (place + 1) v.1 ∙ ap (λ n. first_fault n (turned xs (x ∷ before)) ys) e

-- where the first fault of a list stands, which fault it is, and that none is before it
record IsFound (ops : List Stamped) (place : ℕ) (before : List Stamped) (v : Verdict) : Type 0 where
  earlier : List Stamped
  operation : Stamped
  later : List Stamped
  cause : Cause
  list : ops ≡ earlier ++ operation ∷ later
  is : v ≡ No (place + length earlier) cause
  none : first_fault place before earlier ≡ None
  fault : fault_of (turned earlier before) operation ≡ Some cause

found : (ops before : List Stamped) (place : ℕ) (v : Verdict) → first_fault place before ops ≡ Some v → IsFound ops place before v
unfolding turned
found [] before place v h = cc h
found (o ∷ os) before place v h = go (fault_of before o) refl h (found os (o ∷ before) (place + 1) v)
  where
    go : (c : Option Cause) → fault_of before o ≡ c → fault_or c place (first_fault (place + 1) (o ∷ before) os) ≡ Some v
        → (first_fault (place + 1) (o ∷ before) os ≡ Some v → IsFound os (place + 1) (o ∷ before) v) → IsFound (o ∷ os) place before v
    go (Some c) f h more =
        let e : v ≡ No place c = cc h in
        record {
          earlier = [];
          operation = o;
          later = os;
          cause = c;
          list = refl;
          is = e ∙ ap (λ n. No n c) (sym (add-zero place));
          none = refl;
          fault = f;
        }
    go None f h more =
        let r = more h in
        let e : place + 1 + length r.earlier ≡ place + length (o ∷ r.earlier) = omega arith in
        record {
          earlier = o ∷ r.earlier;
          operation = r.operation;
          later = r.later;
          cause = r.cause;
          list = ap (λ r. o ∷ r) r.list;
          is = r.is ∙ ap (λ n. No n r.cause) e;
          none = ap (λ c. fault_or c place (first_fault (place + 1) (o ∷ before) r.earlier)) f ∙ r.none;
          fault = r.fault;
        }

-- the first fault of a list, by its place and cause, is that of an operation after a well placed list
fault_stands : (ops : List Stamped) (place : ℕ) (c : Cause) → first_fault 1 [] ops ≡ Some (No place c) → FirstFaultIs (λ earlier o. fault_of earlier o ≡ Some c) ops place
fault_stands ops place c h =
    let r = found ops [] 1 (No place c) h in
    let same : c ≡ r.cause = cc (r.is) in
    let at : place ≡ 1 + length r.earlier = cc (r.is) in
    record {
      earlier = r.earlier;
      operation = r.operation;
      stands = record { later = r.later; list = r.list; counted = omega arith };
      before = placement_from_no_fault r.earlier r.none;
      fault = sym (fault_of-turned r.operation r.earlier) ∙ r.fault ∙ ap Some (sym same);
    }

-- an operation with a fault after a well placed list is the first fault
pub fault_is_told : (ops : List Stamped) (place : ℕ) (c : Cause) → FirstFaultIs (λ earlier o. fault_of earlier o ≡ Some c) ops place → verdict ops ≡ No place c
fault_is_told ops place c h =
    let o = h.operation in
    let e : 1 + length h.earlier ≡ place = let k = h.stands.counted in omega arith in
    ap (λ ops. verdict ops) h.stands.list ∙
    ap (fault_or_replies (h.earlier ++ o ∷ h.stands.later))
    (first_fault-append h.earlier (o ∷ h.stands.later) [] 1 (no_fault_from_placement h.earlier h.before) ∙
    ap (λ c. fault_or c (1 + length h.earlier) (first_fault (1 + length h.earlier + 1) (o ∷ turned h.earlier []) h.stands.later))
    (fault_of-turned o h.earlier ∙ h.fault)) ∙
    ap (λ n. No n c) e

never_reply : (b c d : Bool) → seen b c d ≡ Some Reply → ⊥
never_reply true true true e = cc e
never_reply true true false e = cc e
never_reply true false d e = cc e
never_reply false c d e = cc e

-- a no that isn't by a reply is the first fault
pub told_is_fault : (ops : List Stamped) (place : ℕ) (c : Cause) → (Reply ≡ c → ⊥) → verdict ops ≡ No place c → FirstFaultIs (λ earlier o. fault_of earlier o ≡ Some c) ops place
told_is_fault ops place c n h = fault_stands ops place c (go (first_fault 1 [] ops) h)
  where
    by_reply : (o : Option Stamped) → wrong_reply ops o ≡ No place c → ⊥
    by_reply None e = cc e
    by_reply (Some o) e = n (let f : Reply ≡ c = cc e in f)

    go : (v : Option Verdict) → fault_or_replies ops v ≡ No place c → v ≡ Some (No place c)
    go None e = absurd (by_reply (first_wrong empty (by_point ops)) e)
    go (Some v) e = ap Some e

-- a no by a reply comes without a first fault
pub told_is_wrong : (ops : List Stamped) (place : ℕ) → verdict ops ≡ No place Reply → (first_fault 1 [] ops ≡ None) × (wrong_reply ops (first_wrong empty (by_point ops)) ≡ No place Reply)
told_is_wrong ops place h = go (first_fault 1 [] ops) refl h
  where
    go : (v : Option Verdict) → first_fault 1 [] ops ≡ v → fault_or_replies ops v ≡ No place Reply → (first_fault 1 [] ops ≡ None)
        × (wrong_reply ops (first_wrong empty (by_point ops)) ≡ No place Reply)
    go None f e = (f, e)
    go (Some v) f e =
        let r = fault_stands ops place Reply (f ∙ ap Some e) in
        absurd (never_reply (is_shaped r.operation.last r.operation.at r.operation.reply) (lies_within r.operation.first r.operation.last r.operation.at) (is_shared r.operation r.earlier) r.fault)
