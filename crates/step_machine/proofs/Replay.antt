-- The operations by rising place, and what the queue gives them in that order.
--
-- `place_given` and `place_added`: an operation that gets a place is inserted. `inserted_last`: at the greatest place it
-- goes to the end. `empty_placed`: an empty reply may be inserted where the queue was empty, however long ago, and
-- `still_empty`: where the queue was empty before a number, it is so when operations get places that are not below, or
-- empty replies any. `before k L` are those of L before the first one whose place isn't below k.
use Rattle.std.proofs.Common.{◌≡◌, ◌≢◌, ℕ, zero, suc, ◌≤◌, ◌<◌, Bool, true, false, nat_le, if◌then◌else◌, Option, Some, None, is_some, List, [], ◌∷◌, ◌++◌, set, refl, sym, ap, ◌∙◌, subst, arith}
use Rattle.std.specs.Prelude.{slice_get}
use Rattle.std.specs.List.{AllByRecursion}
use Rattle.std.proofs.lemmas.Bool.{leb-true, leb-false, le-leb, lt-leb}
use Rattle.std.proofs.lemmas.Option.{none-some, same_Some}
use Rattle.step_machine.specs.Below.{Deq, Empty, Stamped, Queue, empty, response, point_or_zero, inserted, by_point, answer, AgreesWithQueue, IsSequentialRun, queue_after}
use Rattle.history.proofs.Rising.{commute}

-- the number of an operation's place
abbrev pub place : Stamped → ℕ
place o = point_or_zero o.at

-- the operations before the first one whose place isn't below a number, and the others
abbrev pub before : ℕ → List Stamped → List Stamped
before k [] = []
before k (p ∷ ps) = if nat_le k (place p) then [] else p ∷ before k ps

abbrev pub from : ℕ → List Stamped → List Stamped
from k [] = []
from k (p ∷ ps) = if nat_le k (place p) then p ∷ ps else from k ps

pub before-from : (k : ℕ) (ps : List Stamped) → before k ps ++ from k ps ≡ ps
before-from k [] = refl
before-from k (p ∷ ps) = go (nat_le k (place p)) (before-from k ps)
  where
    go : (b : Bool) → before k ps ++ from k ps ≡ ps → (if b then [] else p ∷ before k ps) ++ (if b then p ∷ ps else from k ps) ≡ p ∷ ps
    go true ih = refl
    go false ih = ap (λ x. p ∷ x) ih

pub inserted_split : (o : Stamped) (ps : List Stamped) → inserted o ps ≡ before (place o) ps ++ o ∷ from (place o) ps
inserted_split o [] = refl
inserted_split o (p ∷ ps) = go (nat_le (place o) (place p)) (inserted_split o ps)
  where
    go : (b : Bool) → inserted o ps ≡ before (place o) ps ++ o ∷ from (place o) ps
        → (if b then o ∷ p ∷ ps else p ∷ inserted o ps) ≡ (if b then [] else p ∷ before (place o) ps) ++ o ∷ (if b then p ∷ ps else from (place o) ps)
    go true ih = refl
    go false ih = ap (λ x. p ∷ x) ih

-- where all places are below, an operation goes to the end
pub inserted_last : (o : Stamped) (ps : List Stamped) → AllByRecursion (λ p. place p < place o) ps → inserted o ps ≡ ps ++ o ∷ []
inserted_last o [] h = refl
inserted_last o (p ∷ ps) h =
    let low : place p < place o = h.0 in
    ap (λ b. if b then o ∷ p ∷ ps else p ∷ inserted o ps) (lt-leb (place o) (place p) low) ∙ ap (λ x. p ∷ x) (inserted_last o ps h.1)

-- an operation that is inserted is among the others
pub inserted_all : (P : Stamped → Type 0) (o : Stamped) (ps : List Stamped) → P o → AllByRecursion P ps → AllByRecursion P (inserted o ps)
inserted_all P o [] h g = (h, tt)
inserted_all P o (p ∷ ps) h g = go (nat_le (place o) (place p)) (inserted_all P o ps h g.1)
  where
    go : (b : Bool) → AllByRecursion P (inserted o ps) → AllByRecursion P (if b then o ∷ p ∷ ps else p ∷ inserted o ps)
    go true ih = (h, g)
    go false ih = (g.0, ih)

pub rising_all : (P : Stamped → Type 0) (ops : List Stamped) → ((i : ℕ) (o : Stamped) → slice_get ops i ≡ Some o → is_some o.at ≡ true → P o) → AllByRecursion P (by_point ops)
rising_all P [] h = tt
rising_all P (o ∷ os) h = go (is_some o.at) refl (rising_all P os (λ i p got. h (suc i) p got))
  where
    go : (b : Bool) → is_some o.at ≡ b → AllByRecursion P (by_point os) → AllByRecursion P (if b then inserted o (by_point os) else by_point os)
    go true e ih = inserted_all P o (by_point os) (h 0 o refl e) ih
    go false e ih = ih

-- an operation before others whose order one more is inserted into
behind : (p o : Stamped) (n : ℕ) (xs ys : List Stamped) → o.at ≡ Some n → p.at ≢ Some n → xs ≡ inserted o ys
    → (if is_some p.at then inserted p xs else xs) ≡ inserted o (if is_some p.at then inserted p ys else ys)
behind p o n xs ys e d same = go p.at refl
  where
    go : (at : Option ℕ) → p.at ≡ at → (if is_some at then inserted p xs else xs) ≡ inserted o (if is_some at then inserted p ys else ys)
    go None f = same
    go (Some k) f =
        ap (inserted p) same
        ∙ commute p o ys (λ q. d (f ∙ ap Some (sym (ap point_or_zero f) ∙ q ∙ ap point_or_zero e)))

-- an operation that gets a place is inserted
pub place_given : (n : ℕ) (ops : List Stamped) (i : ℕ) (p o : Stamped) → o.at ≡ Some n → slice_get ops i ≡ Some p → p.at ≡ None
    → ((j : ℕ) (q : Stamped) → slice_get ops j ≡ Some q → q.at ≢ Some n) → by_point (set ops i o) ≡ inserted o (by_point ops)
place_given n [] i p o e got none other = absurd (none-some p got)
place_given n (q ∷ qs) zero p o e got none other =
    ap (λ (b : Option ℕ). if is_some b then inserted o (by_point qs) else by_point qs) e
    ∙ ap (inserted o) (sym (ap (λ (b : Option ℕ). if is_some b then inserted q (by_point qs) else by_point qs) (ap (λ (x : Stamped). x.at) (same_Some q p got) ∙ none)))
place_given n (q ∷ qs) (suc i) p o e got none other =
    behind q o n (by_point (set qs i o)) (by_point qs) e (other 0 q refl)
    (place_given n qs i p o e got none (λ j r there. other (suc j) r there))

-- and so is one that is added
pub place_added : (n : ℕ) (ops : List Stamped) (o : Stamped) → o.at ≡ Some n → ((j : ℕ) (q : Stamped) → slice_get ops j ≡ Some q → q.at ≢ Some n) → by_point (ops ++ o ∷ []) ≡ inserted o (by_point ops)
place_added n [] o e other = ap (λ (b : Option ℕ). if is_some b then o ∷ [] else []) e
place_added n (q ∷ qs) o e other =
    behind q o n (by_point (qs ++ o ∷ [])) (by_point qs) e (other 0 q refl) (place_added n qs o e (λ j r there. other (suc j) r there))

-- an operation that has no place and gets none changes nothing
pub unplaced_set : (ops : List Stamped) (i : ℕ) (p o : Stamped) → o.at ≡ None → slice_get ops i ≡ Some p → p.at ≡ None → by_point (set ops i o) ≡ by_point ops
unplaced_set [] i p o e got none = absurd (none-some p got)
unplaced_set (q ∷ qs) zero p o e got none =
    ap (λ (b : Option ℕ). if is_some b then inserted o (by_point qs) else by_point qs) e
    ∙ sym (ap (λ (b : Option ℕ). if is_some b then inserted q (by_point qs) else by_point qs) (ap (λ (x : Stamped). x.at) (same_Some q p got) ∙ none))
unplaced_set (q ∷ qs) (suc i) p o e got none = ap (λ xs. if is_some q.at then inserted q xs else xs) (unplaced_set qs i p o e got none)

pub unplaced_added : (ops : List Stamped) (o : Stamped) → o.at ≡ None → by_point (ops ++ o ∷ []) ≡ by_point ops
unplaced_added [] o e = ap (λ (b : Option ℕ). if is_some b then o ∷ [] else []) e
unplaced_added (q ∷ qs) o e = ap (λ xs. if is_some q.at then inserted q xs else xs) (unplaced_added qs o e)

-- an element set to itself
pub set_same : {X : Type 0} (xs : List X) (i : ℕ) (x : X) → slice_get xs i ≡ Some x → set xs i x ≡ xs
set_same [] i x got = refl
set_same (y ∷ ys) zero x got = ap (λ z. z ∷ ys) (sym (same_Some y x got))
set_same (y ∷ ys) (suc i) x got = ap (λ zs. y ∷ zs) (set_same ys i x got)

-- replies to operations one after the other
pub queue_after-append : (queue : Queue) (xs ys : List Stamped) → queue_after queue (xs ++ ys) ≡ queue_after (queue_after queue xs) ys
queue_after-append queue [] ys = refl
queue_after-append queue (x ∷ xs) ys = queue_after-append (answer queue x x.reply).after xs ys

pub replays-append : (queue : Queue) (xs ys : List Stamped) → IsSequentialRun queue xs → IsSequentialRun (queue_after queue xs) ys → IsSequentialRun queue (xs ++ ys)
replays-append queue [] ys h g = g
replays-append queue (x ∷ xs) ys h g = (h.0, replays-append (answer queue x x.reply).after xs ys h.1 g)

pub replays-front : (queue : Queue) (xs ys : List Stamped) → IsSequentialRun queue (xs ++ ys) → IsSequentialRun queue xs
replays-front queue [] ys h = tt
replays-front queue (x ∷ xs) ys h = (h.0, replays-front (answer queue x x.reply).after xs ys h.1)

pub replays-back : (queue : Queue) (xs ys : List Stamped) → IsSequentialRun queue (xs ++ ys) → IsSequentialRun (queue_after queue xs) ys
replays-back queue [] ys h = h
replays-back queue (x ∷ xs) ys h = replays-back (answer queue x x.reply).after xs ys h.1

-- one more operation at the end
pub replays_more : (queue : Queue) (xs : List Stamped) (o : Stamped) → IsSequentialRun queue xs → AgreesWithQueue (queue_after queue xs) o o.reply → IsSequentialRun queue (xs ++ o ∷ [])
replays_more queue xs o h g = replays-append queue xs (o ∷ []) h (g, tt)

-- a dequeue that is told that the queue is empty
pub record IsEmptyReply (o : Stamped) : Type 0 where
  pub op : o.op ≡ Deq
  pub reply : o.reply ≡ Some Empty

gets_empty : (o : Stamped) → IsEmptyReply o → AgreesWithQueue empty o o.reply
gets_empty o e = subst (λ r. AgreesWithQueue empty o r) (sym e.reply) (subst (λ p. Empty ≡ (response o.actor p empty).reply) (sym e.op) refl)

stays_empty : (o : Stamped) → IsEmptyReply o → (answer empty o o.reply).after ≡ empty
stays_empty o e = ap (λ r. (answer empty o r).after) e.reply ∙ ap (λ p. (response o.actor p empty).after) e.op

-- it may stand wherever the queue is empty, and changes nothing
pub empty_between : (xs ys : List Stamped) (o : Stamped) → IsEmptyReply o → queue_after empty xs ≡ empty → queue_after empty (xs ++ o ∷ ys) ≡ queue_after empty (xs ++ ys)
empty_between xs ys o e none =
    queue_after-append empty xs (o ∷ ys) ∙ ap (λ q. queue_after q (o ∷ ys)) none ∙ ap (λ q. queue_after q ys) (stays_empty o e)
    ∙ sym (queue_after-append empty xs ys ∙ ap (λ q. queue_after q ys) none)

pub empty_placed : (o : Stamped) (ps : List Stamped) → IsEmptyReply o → queue_after empty (before (place o) ps) ≡ empty → IsSequentialRun empty ps → IsSequentialRun empty (inserted o ps)
empty_placed o ps e none h =
    subst (IsSequentialRun empty) (sym (inserted_split o ps))
    (replays-append empty (before (place o) ps) (o ∷ from (place o) ps)
    (replays-front empty (before (place o) ps) (from (place o) ps) whole)
    (subst (λ q. IsSequentialRun q (o ∷ from (place o) ps)) (sym none)
    (gets_empty o e, subst (λ q. IsSequentialRun q (from (place o) ps)) (none ∙ sym (stays_empty o e)) (replays-back empty (before (place o) ps) (from (place o) ps) whole))))
  where
    whole : IsSequentialRun empty (before (place o) ps ++ from (place o) ps)
    whole = subst (IsSequentialRun empty) (sym (before-from (place o) ps)) h

pub empty_keeps : (o : Stamped) (ps : List Stamped) → IsEmptyReply o → queue_after empty (before (place o) ps) ≡ empty → queue_after empty (inserted o ps) ≡ queue_after empty ps
empty_keeps o ps e none =
    ap (queue_after empty) (inserted_split o ps) ∙ empty_between (before (place o) ps) (from (place o) ps) o e none
    ∙ ap (queue_after empty) (before-from (place o) ps)

-- the operations before a number, once one is inserted at it or behind it
pub before_below : (k : ℕ) (o : Stamped) (ps : List Stamped) → k ≤ place o → before k (inserted o ps) ≡ before k ps
before_below k o [] low = ap (λ b. if b then [] else o ∷ []) (le-leb k (place o) low)
before_below k o (p ∷ ps) low = go (nat_le (place o) (place p)) refl (before_below k o ps low)
  where
    go : (b : Bool) → nat_le (place o) (place p) ≡ b → before k (inserted o ps) ≡ before k ps → before k (if b then o ∷ p ∷ ps else p ∷ inserted o ps) ≡ before k (p ∷ ps)
    go true e ih =
        let up : place o ≤ place p = leb-true (place o) (place p) e in
        ap (λ b. if b then [] else o ∷ before k (p ∷ ps)) (le-leb k (place o) low)
        ∙ sym (ap (λ b. if b then [] else p ∷ before k ps) (le-leb k (place p) (omega arith)))
    go false e ih = ap (λ xs. if nat_le k (place p) then [] else p ∷ xs) ih

-- and once one is inserted before it
pub before_above : (k : ℕ) (o : Stamped) (ps : List Stamped) → place o < k → before k (inserted o ps) ≡ inserted o (before k ps)
before_above k o [] low = ap (λ b. if b then [] else o ∷ []) (lt-leb k (place o) low)
before_above k o (p ∷ ps) low = go (nat_le (place o) (place p)) refl (nat_le k (place p)) refl (before_above k o ps low)
  where
    go : (b : Bool) → nat_le (place o) (place p) ≡ b → (c : Bool) → nat_le k (place p) ≡ c → before k (inserted o ps) ≡ inserted o (before k ps)
        → before k (if b then o ∷ p ∷ ps else p ∷ inserted o ps) ≡ inserted o (if c then [] else p ∷ before k ps)
    go true e true f ih =
        ap (λ b. if b then [] else o ∷ before k (p ∷ ps)) (lt-leb k (place o) low)
        ∙ ap (λ b. o ∷ (if b then [] else p ∷ before k ps)) f
    go true e false f ih =
        ap (λ b. if b then [] else o ∷ before k (p ∷ ps)) (lt-leb k (place o) low)
        ∙ ap (λ b. o ∷ (if b then [] else p ∷ before k ps)) f
        ∙ sym (ap (λ b. if b then o ∷ p ∷ before k ps else p ∷ inserted o (before k ps)) e)
    go false e true f ih = absurd (let a : place p < place o = leb-false (place o) (place p) e in let b : k ≤ place p = leb-true k (place p) f in omega arith)
    go false e false f ih =
        ap (λ b. if b then [] else p ∷ before k (inserted o ps)) f ∙ ap (λ xs. p ∷ xs) ih
        ∙ sym (ap (λ b. if b then o ∷ p ∷ before k ps else p ∷ inserted o (before k ps)) e)

-- those before the lower of two numbers
pub before_twice : (n k : ℕ) (ps : List Stamped) → n ≤ k → before n (before k ps) ≡ before n ps
before_twice n k [] low = refl
before_twice n k (p ∷ ps) low = go (nat_le k (place p)) refl (before_twice n k ps low)
  where
    go : (c : Bool) → nat_le k (place p) ≡ c → before n (before k ps) ≡ before n ps → before n (if c then [] else p ∷ before k ps) ≡ before n (p ∷ ps)
    go true e ih =
        let up : k ≤ place p = leb-true k (place p) e in
        sym (ap (λ b. if b then [] else p ∷ before n ps) (le-leb n (place p) (omega arith)))
    go false e ih = ap (λ xs. if nat_le n (place p) then [] else p ∷ xs) ih

-- where the queue was empty before a number, it is so once an operation gets a place that isn't below it
pub still_empty_below : (k : ℕ) (o : Stamped) (ps : List Stamped) → k ≤ place o → queue_after empty (before k ps) ≡ empty → queue_after empty (before k (inserted o ps)) ≡ empty
still_empty_below k o ps low none = ap (queue_after empty) (before_below k o ps low) ∙ none

-- and once an empty reply gets its place
pub still_empty : (k : ℕ) (o : Stamped) (ps : List Stamped) → IsEmptyReply o → queue_after empty (before (place o) ps) ≡ empty
    → queue_after empty (before k ps) ≡ empty → queue_after empty (before k (inserted o ps)) ≡ empty
still_empty k o ps e here none = go (nat_le k (place o)) refl
  where
    go : (b : Bool) → nat_le k (place o) ≡ b → queue_after empty (before k (inserted o ps)) ≡ empty
    go true f = still_empty_below k o ps (leb-true k (place o) f) none
    go false f =
        let low : place o < k = leb-false k (place o) f in
        ap (queue_after empty) (before_above k o ps low)
        ∙ empty_keeps o (before k ps) e (ap (queue_after empty) (before_twice (place o) k ps (omega arith)) ∙ here)
        ∙ none

-- all are before a number that is above their places
pub before_all : (k : ℕ) (ps : List Stamped) → AllByRecursion (λ p. place p < k) ps → before k ps ≡ ps
before_all k [] h = refl
before_all k (p ∷ ps) h = ap (λ b. if b then [] else p ∷ before k ps) (lt-leb k (place p) h.0) ∙ ap (λ x. p ∷ x) (before_all k ps h.1)
