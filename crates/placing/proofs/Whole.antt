-- A history that isn't one of a queue has an operation that ended and is no push, and with all others that is the reason.
use Rattle.std.proofs.Common.{◌≡◌, ◌⊎◌, inl, inr, ◌∙◌, ℕ, zero, suc, ◌↔◌, ◌+◌, ◌-◌, ◌≤◌, ◌<◌, Bool, true, false, not, ◌&&◌, ◌||◌, nat_le, nat_eq, Option, None, Some, IsSome, IfSome, All, List, [], ◌∷◌, ◌++◌, length, get_or, take, slice_get, refl, sym, ap, subst, arith}
use Rattle.std.specs.Prelude.{IsNone, IsSomeAnd}
use Rattle.std.specs.List.{AllByRecursion, list_any}
use Rattle.std.proofs.Math.Seq.{take-suc}
use Rattle.std.proofs.lemmas.Bool.{leb-true, leb-false, le-leb, eqb-true, eq-eqb}
use Rattle.std.proofs.lemmas.List.Elements.{All-append, All-from_recursion, recursion_from_All}
use Rattle.std.proofs.lemmas.List.Folds.{list_any-append}
use Rattle.std.proofs.lemmas.Option.{same_Some}
use Rattle.history.specs.declared.operations.Op.{Op}
use Rattle.history.specs.declared.operations.Op.TheVariants.{Enq, Deq, Shut}
use Rattle.history.specs.declared.operations.Reply.{Reply}
use Rattle.history.specs.declared.operations.Reply.TheVariants.{Done, Value, Empty, Refused}
use Rattle.history.specs.declared.operations.Stamped.{Stamped}
use Rattle.history.specs.Tallies.{is_not_refused}
use Rattle.waiting_orders.specs.Waiting.{IsCall, IsOfQueue, OtherIsUntold, Where, waits, is_push}
use Rattle.waiting_orders.proofs.EndingWalks.{untold_is_of_queue}
use Rattle.placing.specs.Kinds.{Kind, ended_by, is_push_in, pushes_in}
use Rattle.placing.specs.declared.marks.Marked.{Marked}
use Rattle.placing.specs.Faults.{IsFaultless}
use Rattle.placing.specs.Parts.{all_of, marked, AddsOther, IsBy, MayBeOut}
use Rattle.placing.specs.Reasons.{IsEndedOther, IsPushIfEnded, IsCutOf, IsPlace, IsOneOf, IsNamed, IsStuck, may_be_told}
use Rattle.placing.proofs.Cutting.{same_cut, all_begun, all_in_part}

-- ---- operations that aren't wrong by themselves

pub call_of : (o : Stamped) → IsFaultless o → IsCall o
call_of o f = record { ended = both o.last o.reply (λ h. f (inl h)); spans = span o.last (λ h. f (inr (inl h))) }
  where
    both : (last : Option ℕ) (reply : Option Reply) → ((IsSome last × IsNone reply) ⊎ (IsNone last × IsSome reply) → ⊥) → IsSome last ↔ IsSome reply
    both None None h = ((λ e. e), (λ e. e))
    both None (Some reply) h = absurd (h (inr (refl, refl)))
    both (Some last) None h = absurd (h (inl (refl, refl)))
    both (Some last) (Some reply) h = ((λ e. refl), (λ e. refl))

    span : (last : Option ℕ) → (IsSomeAnd last (λ last. last < o.first) → ⊥) → IfSome last (λ last. o.first ≤ last)
    span None h = tt
    span (Some last) h = by (nat_le o.first last) refl
      where
        by : (b : Bool) → nat_le o.first last ≡ b → o.first ≤ last
        by true e = leb-true o.first last e
        by false e = absurd (h (leb-false o.first last e))

-- a push that ended, and wasn't refused, may have had its effect
push_waits : (o : Stamped) (kind : Kind) → IsFaultless o → pushes_in kind o ≡ true → waits o ≡ true
push_waits o kind f = go o.op o.reply (λ h. f (inr (inr h)))
  where
    go : (op : Op) (reply : Option Reply) → (IsSomeAnd reply (λ reply. may_be_told reply op ≡ false) → ⊥) → (is_not_refused reply && is_push_in kind o.actor op) ≡ true → is_push op reply ≡ true
    go (Enq body) None h e = refl
    go (Enq body) (Some Done) h e = refl
    go (Enq body) (Some (Value v)) h e = absurd (h refl)
    go (Enq body) (Some Empty) h e = absurd (h refl)
    go (Enq body) (Some (Refused refusal)) h e = absurd cc
    go Deq None h e = absurd cc
    go Deq (Some Done) h e = absurd cc
    go Deq (Some (Value v)) h e = absurd cc
    go Deq (Some Empty) h e = absurd cc
    go Deq (Some (Refused refusal)) h e = absurd cc
    go Shut None h e = absurd cc
    go Shut (Some Done) h e = absurd cc
    go Shut (Some (Value v)) h e = absurd cc
    go Shut (Some Empty) h e = absurd cc
    go Shut (Some (Refused refusal)) h e = absurd cc

untold_or_push : (o : Stamped) → IsFaultless o → IsPushIfEnded o → OtherIsUntold o
untold_or_push o f p = go o.last refl o.reply refl
  where
    call : IsCall o
    call = call_of o f

    unended : (b : Bool) → o.reply ≡ None → Where b (o.reply ≡ None)
    unended true e = e
    unended false e = tt

    waiting : (b : Bool) → b ≡ true → Where (not b) (o.reply ≡ None)
    waiting true e = tt
    waiting false e = absurd cc

    go : (last : Option ℕ) → o.last ≡ last → (reply : Option Reply) → o.reply ≡ reply → OtherIsUntold o
    go last e None d = unended (not (waits o)) d
    go None e (Some reply) d = let ended : IsSome o.last = call.ended.1 (subst IsSome (sym d) refl) in let k : IsSome {T = ℕ} None = subst IsSome e ended in absurd cc
    go (Some last) e (Some reply) d = let k = p (subst IsSome (sym e) refl) in waiting (waits o) (push_waits o k.0 f k.1)

all_calls : (os : List Stamped) → AllByRecursion IsFaultless os → AllByRecursion IsCall os
all_calls [] f = tt
all_calls (o ∷ os) f = (call_of o f.0, all_calls os f.1)

pub calls_of : (ops : List Stamped) → All IsFaultless ops → All IsCall ops
calls_of ops f = All-from_recursion IsCall ops (all_calls ops (recursion_from_All IsFaultless ops f))

-- a history in which each operation that ended is such a push is one of a queue
pub only_pushes : (ops : List Stamped) → All IsFaultless ops → All IsPushIfEnded ops → IsOfQueue ops
only_pushes ops f p =
    let fs = recursion_from_All IsFaultless ops f in
    untold_is_of_queue ops (calls_of ops f) (all_untold ops fs (recursion_from_All IsPushIfEnded ops p))
  where
    all_untold : (os : List Stamped) → AllByRecursion IsFaultless os → AllByRecursion IsPushIfEnded os → AllByRecursion OtherIsUntold os
    all_untold [] f p = tt
    all_untold (o ∷ os) f p = (untold_or_push o f.0 p.0, all_untold os f.1 p.1)

-- ---- a number by which all began and ended

abbrev number_of : Option ℕ → ℕ
number_of None = 0
number_of (Some last) = last

abbrev most : List Stamped → ℕ
most [] = 0
most (o ∷ os) = o.first + number_of o.last + most os

by_later : (time later : ℕ) → time ≤ later → (os : List Stamped) → AllByRecursion (IsBy time) os → AllByRecursion (IsBy later) os
by_later time later l [] h = tt
by_later time later l (o ∷ os) h = (record { first = let a = h.0.first in omega (arith, a, l); last = λ some. ended o.last (h.0.last some) }, by_later time later l os h.1)
  where
    ended : (last : Option ℕ) → ended_by time last ≡ true → ended_by later last ≡ true
    ended None e = absurd cc
    ended (Some last) e = let a = leb-true last time e in le-leb last later (omega (arith, a, l))

all_by : (os : List Stamped) → AllByRecursion (IsBy (most os)) os
all_by [] = tt
all_by (o ∷ os) = (
  record { first = omega arith; last = λ some. ended o.last some },
  by_later (most os) (o.first + number_of o.last + most os) (omega arith) os (all_by os),
)
  where
    ended : (last : Option ℕ) → IsSome last → ended_by (o.first + number_of last + most os) last ≡ true
    ended None e = absurd cc
    ended (Some last) e = le-leb last (o.first + last + most os) (omega arith)

-- ---- all calls, each in the part

abbrev marks_from : (time place : ℕ) → List Stamped → List Marked
marks_from time place [] = []
marks_from time place (o ∷ os) = marked time place true o ∷ marks_from time (suc place) os

all_marks : (time place : ℕ) (os : List Stamped) → AllByRecursion (IsBy time) os → AllByRecursion IsFaultless os → all_of (marks_from time place os) ≡ os
all_marks time place [] by f = refl
all_marks time place (o ∷ os) by f =
    ap (λ p. p ∷ all_of (marks_from time (suc place) os)) (same_cut time o by.0 f.0) ∙ ap (λ l. o ∷ l) (all_marks time (suc place) os by.1 f.1)

all_inside : (time place : ℕ) (os : List Stamped) → AllByRecursion (λ m. m.is_in ≡ true) (marks_from time place os)
all_inside time place [] = tt
all_inside time place (o ∷ os) = (refl, all_inside time (suc place) os)

all_may : (part : List Stamped) (time place : ℕ) (os : List Stamped) → AllByRecursion (MayBeOut part) (marks_from time place os)
all_may part time place [] = tt
all_may part time place (o ∷ os) = ((λ e. absurd (let k : true ≡ false = e in cc k)), all_may part time (suc place) os)

each_cut : (ops : List Stamped) (time k : ℕ) (os : List Stamped) → ((j : ℕ) → slice_get os j ≡ slice_get ops (k + j)) → AllByRecursion (IsCutOf ops time) (marks_from time (suc k) os)
each_cut ops time k [] h = tt
each_cut ops time k (o ∷ os) h = (
  (let z : k + 0 ≡ suc k - 1 = omega arith in record { operation = o; stands = record { from_one = omega arith; there = subst (λ n. slice_get ops n ≡ Some o) z (sym (h 0)) }; is = refl }),
  each_cut ops time (suc k) os (λ j. let n : k + suc j ≡ suc k + j = omega arith in h (suc j) ∙ ap (slice_get ops) n),
)

-- the places of all but one are there
abbrev pub AreOthers : (at until : ℕ) → List ℕ → Type 0
AreOthers at until others = (j : ℕ) → j < until → (j ≡ at → ⊥) → list_any (λ other. nat_eq other (j + 1)) others ≡ true

all_named : (at until : ℕ) (others : List ℕ) → AreOthers at until others → (time k : ℕ) (os : List Stamped) → k + length os ≤ until → AllByRecursion (IsNamed (at + 1) others) (marks_from time (suc k) os)
all_named at until others h time k [] l = tt
all_named at until others h time k (o ∷ os) l = ((λ e. named (nat_eq k at) refl), all_named at until others h time (suc k) os (omega (arith, l)))
  where
    named : (b : Bool) → nat_eq k at ≡ b → IsOneOf (at + 1) others (suc k)
    named true e = let same : k ≡ at = eqb-true k at e in inl (omega (arith, same))
    named false e =
        let n : k + 1 ≡ suc k = omega arith in
        inr (subst (λ n. list_any (λ other. nat_eq other n) others ≡ true) n (h k (omega (arith, l)) (λ s. let t : nat_eq k at ≡ true = eq-eqb k at s in let z : true ≡ false = sym t ∙ e in cc z)))

ended_at : (time : ℕ) (os : List Stamped) (k : ℕ) (o : Stamped) → slice_get os k ≡ Some o → AllByRecursion (IsBy time) os → IsSome o.last → ended_by time o.last ≡ true
ended_at time [] k o e by some = absurd cc
ended_at time (p ∷ os) zero o e by some = subst (λ o. IsSome o.last → ended_by time o.last ≡ true) (same_Some p o e) by.0.last some
ended_at time (p ∷ os) (suc k) o e by some = ended_at time os k o e by.1 some

-- so an operation that ended and is no push, with all others, is the reason
pub whole_is_stuck : (ops : List Stamped) (at place : ℕ) (others : List ℕ) → All IsFaultless ops → (IsOfQueue ops → ⊥) → IsSomeAnd (slice_get ops at) IsEndedOther → All (IsPlace ops) others
    → AreOthers at (length ops) others → place ≡ at + 1 → IsStuck ops place others
whole_is_stuck ops at place others f none other stand are is = subst (λ place. IsStuck ops place others) (sym is) (go (slice_get ops at) refl other)
  where
    go : (x : Option Stamped) → slice_get ops at ≡ x → IsSomeAnd x IsEndedOther → IsStuck ops (at + 1) others
    go None e h = absurd h
    go (Some o) e h =
        let fs = recursion_from_All IsFaultless ops f in
        let time = most ops in
        let by = all_by ops in
        let calls = marks_from time 1 ops in
        let same : all_of calls ≡ ops = all_marks time 1 ops by fs in
        let n : at ≡ at + 1 - 1 = omega arith in
        record {
          time = time;
          calls = calls;
          part = ops;
          stands = (o, record { from_one = omega arith; there = subst (λ n. slice_get ops n ≡ Some o) n e }, record { told = ended_at time ops at o e by h.ended; other = h.other });
          others_stand = stand;
          begun = same ∙ sym (all_begun time ops by fs);
          each = All-from_recursion (IsCutOf ops time) calls (each_cut ops time 0 ops (λ j. let z : j ≡ 0 + j = omega arith in ap (slice_get ops) z));
          named = All-from_recursion (IsNamed (at + 1) others) calls (all_named at (length ops) others are time 0 ops (omega arith));
          is_part = sym (all_in_part time calls (all_inside time 1 ops) ∙ same);
          out = All-from_recursion (MayBeOut ops) calls (all_may ops time 1 ops);
          none = none;
        }

-- ---- the others are put in one after another

pub others_more : (ops : List Stamped) (at index : ℕ) (others after : List ℕ) (place : ℕ) → after ≡ others ++ place ∷ [] → place ≡ index + 1 → AreOthers at index others → AreOthers at (index + 1) after
others_more ops at index others after place e is h = λ j l off.
    subst (λ l. list_any (λ other. nat_eq other (j + 1)) l ≡ true) (sym e) (list_any-append (λ other. nat_eq other (j + 1)) others (place ∷ []) ∙ go j l off (nat_eq j index) refl)
  where
    or_on : (a b : Bool) → a ≡ true → (a || b) ≡ true
    or_on true b e = refl
    or_on false b e = absurd cc

    or_last : (a b : Bool) → b ≡ true → (a || (b || false)) ≡ true
    or_last true b e = refl
    or_last false true e = refl
    or_last false false e = absurd cc

    go : (j : ℕ) → j < index + 1 → (j ≡ at → ⊥) → (b : Bool) → nat_eq j index ≡ b → (list_any (λ other. nat_eq other (j + 1)) others || list_any (λ other. nat_eq other (j + 1)) (place ∷ [])) ≡ true
    go j l off true e = let same : j ≡ index = eqb-true j index e in or_last (list_any (λ other. nat_eq other (j + 1)) others) (nat_eq place (j + 1)) (eq-eqb place (j + 1) (is ∙ (let n : index + 1 ≡ j + 1 = omega (arith, same) in n)))
    go j l off false e = or_on (list_any (λ other. nat_eq other (j + 1)) others) _ (h j (less j l e) off)
      where
        less : (j : ℕ) → j < index + 1 → nat_eq j index ≡ false → j < index
        less j l e = by (nat_le index j) refl
          where
            by : (b : Bool) → nat_le index j ≡ b → j < index
            by false f = leb-false index j f
            by true f = let a = leb-true index j f in let same : j ≡ index = omega (arith, a, l) in let t : nat_eq j index ≡ true = eq-eqb j index same in let z : true ≡ false = sym t ∙ e in absurd (cc z)

pub others_same : (at index : ℕ) (others : List ℕ) → index ≡ at → AreOthers at index others → AreOthers at (index + 1) others
others_same at index others e h = λ j l off. h j (less j l off) off
  where
    less : (j : ℕ) → j < index + 1 → (j ≡ at → ⊥) → j < index
    less j l off = by (nat_le index j) refl
      where
        by : (b : Bool) → nat_le index j ≡ b → j < index
        by false f = leb-false index j f
        by true f = let a = leb-true index j f in absurd (off (omega (arith, a, l, e)))

-- an operation stands at each place
pub stands_at : (ops : List Stamped) (index place : ℕ) → index < length ops → place ≡ index + 1 → IsPlace ops place
stands_at ops index place l e = subst (IsPlace ops) (sym e) (let o = found ops index l in let n : index ≡ index + 1 - 1 = omega arith in record { operation = o.0; stands = record { from_one = omega arith; there = subst (λ n. slice_get ops n ≡ Some o.0) n o.1 } })
  where
    found : (os : List Stamped) (i : ℕ) → i < length os → (o : Stamped) × (slice_get os i ≡ Some o)
    found [] i l = absurd (omega (arith, l))
    found (o ∷ os) zero l = (o, refl)
    found (o ∷ os) (suc i) l = found os i (omega (arith, l))

-- a place more is looked at
pub whole_next : (ops : List Stamped) (at index : ℕ) (old new : List ℕ) → index < length ops → AddsOther (at + 1) (index + 1) old new → All (IsPlace ops) old × AreOthers at index old
    → All (IsPlace ops) new × AreOthers at (index + 1) new
whole_next ops at index old new l a h = go (nat_eq index at) refl
  where
    go : (b : Bool) → nat_eq index at ≡ b → All (IsPlace ops) new × AreOthers at (index + 1) new
    go true e =
        let same : index ≡ at = eqb-true index at e in
        let n : new ≡ old = a.same (omega (arith, same)) in
        (subst (All (IsPlace ops)) (sym n) h.0, subst (AreOthers at (index + 1)) (sym n) (others_same at index old same h.1))
    go false e =
        let n : new ≡ old ++ (index + 1) ∷ [] =
        a.other (λ s. let same : index ≡ at = omega (arith, s) in let t : nat_eq index at ≡ true = eq-eqb index at same in let z : true ≡ false = sym t ∙ e in cc z) in (
          subst (All (IsPlace ops)) (sym n) (All-append (IsPlace ops) old ((index + 1) ∷ []) h.0 (All-from_recursion (IsPlace ops) ((index + 1) ∷ []) (stands_at ops index (index + 1) l refl, tt))),
          others_more ops at index old new (index + 1) n refl h.1,
        )

-- an operation more that is such a push, if it ended
pub pushes_more : (ops : List Stamped) (i : ℕ) (o : Stamped) → i < length ops → o ≡ get_or ops i o → IsPushIfEnded o → All IsPushIfEnded (take i ops) → All IsPushIfEnded (take (i + 1) ops)
pushes_more ops i o l is p h =
    let n : i + 1 ≡ suc i = omega arith in
    subst (All IsPushIfEnded) (sym (ap (λ n. take n ops) n ∙ take-suc ops i o l))
    (All-append IsPushIfEnded (take i ops) (get_or ops i o ∷ []) h (All-from_recursion IsPushIfEnded (get_or ops i o ∷ []) (subst IsPushIfEnded is p, tt)))
