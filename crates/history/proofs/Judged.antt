-- Operations that are placed and legal are judged yes.
use Rattle.std.proofs.Common.{◌≡◌, ◌≢◌, ℕ, ◌+◌, ◌≤◌, Bool, true, false, not, ◌&&◌, ◌||◌, inl, inr, if◌then◌else◌, Option, Some, None, IfSome, List, [], ◌∷◌, refl, sym, ap, ◌∙◌, subst, arith}
use Rattle.std.proofs.lemmas.Bool.{le-leb, eq-eqb, ne_eqb, and_from, or_from}
use Rattle.std.specs.List.{AllByRecursion}
use Rattle.history.specs.declared.operations.Reply.{Reply}
use Rattle.history.specs.declared.operations.Reply.TheVariants.{Done, Value, Empty, Refused}
use Rattle.history.specs.declared.operations.Stamped.{Stamped}
use Rattle.history.specs.declared.operations.Verdict.TheVariants.{Yes}
use Rattle.history.specs.declared.operations.Cause.TheVariants.{Shape, Span, Shared}
use Rattle.history.specs.Queue.{Queue, empty, response}
use Rattle.history.specs.History.{leaves, is_closed, refuses, LiesIn, IsPlaced, AreApart, Placement, by_point, AgreesWithQueue, answer}
use Rattle.history.specs.History.{IsSequentialRun, IsLegal, is_shaped, lies_within, same_point, is_shared, fault_or, first_fault, same_reply}
use Rattle.history.specs.History.{agrees_with_queue, first_wrong, wrong_reply, fault_or_replies, verdict}

shape_of : (first : ℕ) (last at : Option ℕ) (reply : Option Reply) → LiesIn first last at reply → is_shaped last at reply ≡ true
shape_of first None None None h = refl
shape_of first None (Some at) None h = refl
shape_of first (Some last) (Some at) (Some reply) h = refl
shape_of first (Some last) None None h = h.ended.0 refl
shape_of first (Some last) (Some at) None h = h.ended.0 refl
shape_of first None None (Some reply) h = h.ended.1 refl
shape_of first None (Some at) (Some reply) h = h.ended.1 refl
shape_of first (Some last) None (Some reply) h = h.placed refl

span_of : (first : ℕ) (last at : Option ℕ) (reply : Option Reply) → LiesIn first last at reply → lies_within first last at ≡ true
span_of first None None reply h = refl
span_of first None (Some at) reply h = le-leb first at h.not_before
span_of first (Some last) (Some at) reply h =
    let a : first ≤ at = h.not_before in
    let b : at ≤ last = h.not_after in
    and_from _ _ (and_from _ _ (le-leb first last (omega arith)) (le-leb first at a)) (le-leb at last b)
span_of first (Some last) None None h = let e : false ≡ true = h.ended.0 refl in cc e
span_of first (Some last) None (Some reply) h = let e : false ≡ true = h.placed refl in cc e

clear : (b c d : Bool) → b ≡ true → c ≡ true → d ≡ false → (if not b then Some Shape else if not c then Some Span else if d then Some Shared else None) ≡ None
clear true true false e f g = refl
clear true true true e f g = cc g
clear true false d e f g = cc f
clear false c d e f g = cc e

-- places that differ aren't the same
pub not_same : (p place : Option ℕ) → IfSome place (λ at. p ≢ Some at) → same_point p place ≡ false
not_same None None h = refl
not_same None (Some at) h = refl
not_same (Some b) None h = refl
not_same (Some b) (Some at) h = ne_eqb b at (λ e. h (ap Some e))

joined : (o : Stamped) (earlier os : List Stamped) → IfSome o.at (λ at. AllByRecursion (λ p. p.at ≢ Some at) os)
    → AllByRecursion (λ p. is_shared p earlier ≡ false) os → AllByRecursion (λ p. is_shared p (o ∷ earlier) ≡ false) os
joined o earlier [] h g = tt
joined o earlier (p ∷ ps) h g =
    (or_from _ _ (not_same p.at o.at (first o.at h)) g.0, joined o earlier ps (rest o.at h) g.1)
  where
    first : (place : Option ℕ) → IfSome place (λ at. AllByRecursion (λ p. p.at ≢ Some at) (p ∷ ps)) → IfSome place (λ at. p.at ≢ Some at)
    first None h = tt
    first (Some at) h = h.0

    rest : (place : Option ℕ) → IfSome place (λ at. AllByRecursion (λ p. p.at ≢ Some at) (p ∷ ps)) → IfSome place (λ at. AllByRecursion (λ p. p.at ≢ Some at) ps)
    rest None h = tt
    rest (Some at) h = h.1

no_fault_in : (ops earlier : List Stamped) (place : ℕ) → AllByRecursion IsPlaced ops → AllByRecursion (λ o. is_shared o earlier ≡ false) ops → AreApart ops → first_fault place earlier ops ≡ None
no_fault_in [] earlier place h g a = refl
no_fault_in (o ∷ os) earlier place h g a =
    ap (λ c. fault_or c place (first_fault (place + 1) (o ∷ earlier) os))
    (clear _ _ _ (shape_of o.first o.last o.at o.reply h.0) (span_of o.first o.last o.at o.reply h.0) g.0) ∙
    no_fault_in os (o ∷ earlier) (place + 1) h.1 (joined o earlier os a.0 g.1) a.1

alone : (ops : List Stamped) → AllByRecursion (λ o. is_shared o [] ≡ false) ops
alone [] = tt
alone (o ∷ os) = (refl, alone os)

-- a well placed list has no first fault
pub no_fault_from_placement : (ops : List Stamped) → Placement ops → first_fault 1 [] ops ≡ None
no_fault_from_placement ops p = no_fault_in ops [] 1 p.each (alone ops) p.apart

-- a reply that the queue gives passes the test
pub got : (queue : Queue) (o : Stamped) (r : Option Reply) → AgreesWithQueue queue o r → agrees_with_queue queue o r ≡ true
got queue o None h = refl
got queue o (Some (Refused refusal)) (inl h) = ap (λ b. b || is_closed refusal && refuses (response o.actor o.op queue).reply) h
got queue o (Some (Refused refusal)) (inr h) =
    ap (λ x. leaves x || is_closed x && refuses (response o.actor o.op queue).reply) h.0 ∙ ap refuses (sym h.1)
got queue o (Some Done) h = subst (λ q. same_reply Done q ≡ true) h refl
got queue o (Some Empty) h = subst (λ q. same_reply Empty q ≡ true) h refl
got queue o (Some (Value v)) h = subst (λ q. same_reply (Value v) q ≡ true) h (and_from _ _ (eq-eqb v.from v.from refl) (eq-eqb v.body v.body refl))

none_wrong : (ops : List Stamped) (queue : Queue) → IsSequentialRun queue ops → first_wrong queue ops ≡ None
none_wrong [] queue h = refl
none_wrong (o ∷ os) queue h =
    ap (λ b. if b then first_wrong (answer queue o o.reply).after os else Some o) (got queue o o.reply h.0) ∙
    none_wrong os (answer queue o o.reply).after h.1

-- what is placed and legal is judged yes
pub right_is_yes : (ops : List Stamped) → Placement ops → IsLegal ops → verdict ops ≡ Yes
right_is_yes ops p l =
    ap (fault_or_replies ops) (no_fault_from_placement ops p) ∙
    ap (wrong_reply ops) (none_wrong (by_point ops) empty l)
