-- A no by a reply, in words: of the first operation, by rising place, whose reply the queue doesn't give.
use Rattle.std.proofs.Common.{◌≡◌, ◌≢◌, ℕ, ◌+◌, ◌⊎◌, inl, inr, Bool, true, false, nat_le, if◌then◌else◌, Option, Some, None, is_some, IsSome, IfSome}
use Rattle.std.proofs.Common.{List, [], ◌∷◌, ◌++◌, length, ◌↔◌, refl, sym, ap, ◌∙◌, subst, arith, add-zero}
use Rattle.std.specs.List.{AllByRecursion}
use Rattle.std.proofs.lemmas.Bool.{false_from_ne_true, both_ways}
use Rattle.history.specs.declared.operations.Stamped.{Stamped}
use Rattle.history.specs.declared.operations.Verdict.TheVariants.{No}
use Rattle.history.specs.declared.operations.Cause.TheVariants.{Reply}
use Rattle.history.specs.Queue.{Queue, empty}
use Rattle.history.specs.History.{point_or_zero, AreApart, Placement, inserted, by_point, answer, IsSequentialRun, queue_after, agrees_with_queue}
use Rattle.history.specs.History.{first_wrong, index_by_point, wrong_reply, fault_or_replies, verdict}
use Rattle.history.specs.Faults.{FirstIsWrong}
use Rattle.history.proofs.Judging.{gets_right, placement_from_no_fault}
use Rattle.history.proofs.Judged.{got, not_same, no_fault_from_placement}
use Rattle.history.proofs.Faulty.{same_from}
use Rattle.history.proofs.Finding.{told_is_wrong}

-- the operations before the first wrong one, and those after it
record IsSplit (queue : Queue) (ops : List Stamped) (o : Stamped) : Type 0 where
  sooner : List Stamped
  afterwards : List Stamped
  order : ops ≡ sooner ++ o ∷ afterwards
  replays : IsSequentialRun queue sooner
  wrong : agrees_with_queue (queue_after queue sooner) o o.reply ≡ false

split : (ops : List Stamped) (queue : Queue) (o : Stamped) → first_wrong queue ops ≡ Some o → IsSplit queue ops o
split [] queue o h = cc h
split (p ∷ ps) queue o h = go (agrees_with_queue queue p p.reply) refl h (split ps (answer queue p p.reply).after o)
  where
    go : (b : Bool) → agrees_with_queue queue p p.reply ≡ b → (if b then first_wrong (answer queue p p.reply).after ps else Some p) ≡ Some o
        → (first_wrong (answer queue p p.reply).after ps ≡ Some o → IsSplit (answer queue p p.reply).after ps o) → IsSplit queue (p ∷ ps) o
    go true g h more =
        let r = more h in
        record {
          sooner = p ∷ r.sooner;
          afterwards = r.afterwards;
          order = ap (λ r. p ∷ r) r.order;
          replays = (gets_right queue p p.reply g, r.replays);
          wrong = r.wrong;
        }
    go false g h more =
        let e : p ≡ o = cc h in
        record {
          sooner = [];
          afterwards = ps;
          order = ap (λ o. o ∷ ps) e;
          replays = tt;
          wrong = subst (λ o. agrees_with_queue queue o o.reply ≡ false) e g;
        }

first_wrong-append : (sooner : List Stamped) (queue : Queue) (o : Stamped) (afterwards : List Stamped) → IsSequentialRun queue sooner
    → agrees_with_queue (queue_after queue sooner) o o.reply ≡ false → first_wrong queue (sooner ++ o ∷ afterwards) ≡ Some o
first_wrong-append [] queue o afterwards r w =
    ap (λ b. if b then first_wrong (answer queue o o.reply).after afterwards else Some o) w
first_wrong-append (p ∷ ps) queue o afterwards r w =
    ap (λ b. if b then first_wrong (answer queue p p.reply).after (ps ++ o ∷ afterwards) else Some p) (got queue p p.reply r.0) ∙
    first_wrong-append ps (answer queue p p.reply).after o afterwards r.1 w

-- an operation is one of a list
abbrev Has : Stamped → List Stamped → Type 0
Has o [] = ⊥
Has o (p ∷ ps) = (o ≡ p) ⊎ Has o ps

has_middle : (xs : List Stamped) (o : Stamped) (ys : List Stamped) → Has o (xs ++ o ∷ ys)
has_middle [] o ys = inl refl
has_middle (x ∷ xs) o ys = inr (has_middle xs o ys)

has_inserted : (o p : Stamped) (ps : List Stamped) → Has o (inserted p ps) → Has o (p ∷ ps)
has_inserted o p [] h = h
has_inserted o p (q ∷ qs) h = go (nat_le (point_or_zero p.at) (point_or_zero q.at)) h (has_inserted o p qs)
  where
    behind : Has o (p ∷ qs) → Has o (p ∷ q ∷ qs)
    behind (inl e) = inl e
    behind (inr h) = inr (inr h)

    go : (b : Bool) → Has o (if b then p ∷ q ∷ qs else q ∷ inserted p qs) → (Has o (inserted p qs) → Has o (p ∷ qs)) → Has o (p ∷ q ∷ qs)
    go true h more = h
    go false (inl e) more = inr (inl e)
    go false (inr h) more = behind (more h)

-- an operation by rising place is one of the list, and has a place
has_rising : (o : Stamped) (ops : List Stamped) → Has o (by_point ops) → Has o ops × IsSome o.at
has_rising o [] h = absurd h
has_rising o (p ∷ ps) h = go (is_some p.at) refl h (has_rising o ps)
  where
    put : is_some p.at ≡ true → Has o (p ∷ by_point ps) → (Has o (by_point ps) → Has o ps × IsSome o.at) → Has o (p ∷ ps) × IsSome o.at
    put s (inl e) more = (inl e, ap (λ q. is_some q.at) e ∙ s)
    put s (inr h) more = let r = more h in (inr r.0, r.1)

    go : (b : Bool) → is_some p.at ≡ b → Has o (if b then inserted p (by_point ps) else by_point ps) → (Has o (by_point ps) → Has o ps × IsSome o.at) → Has o (p ∷ ps) × IsSome o.at
    go true s h more = put s (has_inserted o p (by_point ps) h) more
    go false s h more = let r = more h in (inr r.0, r.1)

-- an operation of a list stands in it
stands : (o : Stamped) (ops : List Stamped) → Has o ops → (earlier : List Stamped) × (later : List Stamped) × (ops ≡ earlier ++ o ∷ later)
stands o [] h = absurd h
stands o (p ∷ ps) h = go h (stands o ps)
  where
    go : Has o (p ∷ ps) → (Has o ps → (earlier : List Stamped) × (later : List Stamped) × (ps ≡ earlier ++ o ∷ later)) → (earlier : List Stamped)
        × (later : List Stamped) × (p ∷ ps ≡ earlier ++ o ∷ later)
    go (inl e) more = ([], ps, ap (λ o. o ∷ ps) (sym e))
    go (inr h) more = let r = more h in (p ∷ r.0, r.1, ap (λ r. p ∷ r) r.2)

place_differs : (xs : List Stamped) (o : Stamped) (ys : List Stamped) (place : Option ℕ)
    → IfSome place (λ at. AllByRecursion (λ p. p.at ≢ Some at) (xs ++ o ∷ ys)) → IfSome place (λ at. o.at ≢ Some at)
place_differs xs o ys None h = tt
place_differs xs o ys (Some at) h = middle xs h
  where
    middle : (xs : List Stamped) → AllByRecursion (λ p. p.at ≢ Some at) (xs ++ o ∷ ys) → o.at ≢ Some at
    middle [] h = h.0
    middle (x ∷ xs) h = middle xs h.1

-- where an operation stands in a list whose places are apart
index_by_point-append : (earlier : List Stamped) (n : ℕ) (o : Stamped) (later : List Stamped) → IsSome o.at → AreApart (earlier ++ o ∷ later)
    → index_by_point o.at n (earlier ++ o ∷ later) ≡ n + length earlier
index_by_point-append [] n o later s a =
    ap (λ b. if b then n else index_by_point o.at (n + 1) later) (same_from o.at o.at s refl) ∙ sym (add-zero n)
index_by_point-append (p ∷ ps) n o later s a =
    let e : n + 1 + length ps ≡ n + length (p ∷ ps) = omega arith in
    ap (λ b. if b then n else index_by_point o.at (n + 1) (ps ++ o ∷ later)) (not_same o.at p.at (place_differs ps o later p.at a.0)) ∙
    index_by_point-append ps (n + 1) o later s a.1 ∙ e

-- an operation of a well placed list, by rising place, stands where it is told
stands_at : (ops : List Stamped) (o : Stamped) (earlier later : List Stamped) → Placement ops → Has o (by_point ops) → ops ≡ earlier ++ o ∷ later → index_by_point o.at 1 ops ≡ length earlier + 1
stands_at ops o earlier later p h e =
    let k : 1 + length earlier ≡ length earlier + 1 = omega arith in
    ap (index_by_point o.at 1) e ∙
    index_by_point-append earlier 1 o later (has_rising o ops h).1 (subst AreApart e p.apart) ∙ k

by_rising : (ops : List Stamped) (o : Stamped) (sooner afterwards : List Stamped) → by_point ops ≡ sooner ++ o ∷ afterwards → Has o (by_point ops)
by_rising ops o sooner afterwards e = subst (Has o) (sym e) (has_middle sooner o afterwards)

-- a no by a reply is right
told_first_wrong : (ops : List Stamped) (place : ℕ) → verdict ops ≡ No place Reply → FirstIsWrong ops place
told_first_wrong ops place h =
    let t = told_is_wrong ops place h in go (first_wrong empty (by_point ops)) refl t.1 (placement_from_no_fault ops t.0)
  where
    go : (w : Option Stamped) → first_wrong empty (by_point ops) ≡ w → wrong_reply ops w ≡ No place Reply → Placement ops → FirstIsWrong ops place
    go None f e p = cc e
    go (Some o) f e p =
        let s = split (by_point ops) empty o f in
        let m = by_rising ops o s.sooner s.afterwards s.order in
        let r = stands o ops (has_rising o ops m).0 in
        let at : index_by_point o.at 1 ops ≡ place = cc e in
        record {
          placed = p;
          earlier = r.0;
          operation = o;
          stands = record { later = r.1; list = r.2; counted = sym at ∙ stands_at ops o r.0 r.1 p m r.2 };
          sooner = s.sooner;
          afterwards = s.afterwards;
          order = s.order;
          replays = s.replays;
          wrong = λ g. both_ways _ s.wrong (got (queue_after empty s.sooner) o o.reply g);
        }

-- a first wrong reply is told
first_wrong_told : (ops : List Stamped) (place : ℕ) → FirstIsWrong ops place → verdict ops ≡ No place Reply
first_wrong_told ops place h =
    let o = h.operation in
    let m = by_rising ops o h.sooner h.afterwards h.order in
    let w : agrees_with_queue (queue_after empty h.sooner) o o.reply ≡ false =
    false_from_ne_true _ (λ e. h.wrong (gets_right (queue_after empty h.sooner) o o.reply e)) in
    ap (fault_or_replies ops) (no_fault_from_placement ops h.placed) ∙
    ap (wrong_reply ops) (ap (first_wrong empty) h.order ∙ first_wrong-append h.sooner empty o h.afterwards h.replays w) ∙
    ap (λ n. No n Reply) (stands_at ops o h.earlier h.stands.later h.placed m h.stands.list ∙ sym h.stands.counted)

pub first_is_wrong : (ops : List Stamped) (place : ℕ) → (verdict ops ≡ No place Reply) ↔ FirstIsWrong ops place
first_is_wrong ops place = (told_first_wrong ops place, first_wrong_told ops place)
