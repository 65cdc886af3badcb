-- Operations that were refused for something else than a shut are put into an order, and operations are put into an order by a
-- number.
use Rattle.std.proofs.Common.{◌≡◌, inl, ℕ, suc, ◌≤◌, ◌<◌, Bool, true, false, nat_le, Option, None, Some, IfSome, List, [], ◌∷◌, ◌++◌, length, slice_index_or, refl, sym, ap, subst, arith}
use Rattle.std.specs.List.{AllByRecursion}
use Rattle.std.specs.List.Sorted.{IsPermutation, IsNonDecreasingBy}
use Rattle.std.proofs.lemmas.Bool.{leb-true, leb-false}
use Rattle.std.proofs.lemmas.List.Sorted.{IsNonDecreasingBy-drop, IsPermutation-refl, IsPermutation-sym, IsPermutation-cons, IsPermutation-trans, IsPermutation-middle, IsPermutation-append_left, IsPermutation-append_right, IsPermutation-append_comm}
use Rattle.std.proofs.lemmas.List.{append-nil, append_assoc}
use Rattle.history.specs.declared.operations.Reply.{Reply}
use Rattle.history.specs.declared.operations.Reply.TheVariants.{Done, Value, Empty, Refused}
use Rattle.history.specs.declared.operations.Stamped.{Stamped}
use Rattle.history.specs.declared.refusals.Refusal.{Refusal}
use Rattle.history.specs.Queue.{Queue}
use Rattle.history.specs.History.{leaves, answer}
use Rattle.history.specs.Linearizability.{Answered, operations_of, MayComeBefore, KeepsTime, IsRun}
use Rattle.waiting_orders.specs.Waiting.{IsCall, IsOpenAt}
use Rattle.waiting_orders.specs.Listed.{is_aside, due_front, due_later, merged, Rises}
use Rattle.waiting_orders.proofs.Futures.{all_moved}
use Rattle.waiting_orders.proofs.Lists.{all_joined, keeps_last}
use Rattle.waiting_orders.proofs.Inserting.{Gives, all_front, all_back, all_sooner_open, given, keeps_front, keeps_joined}
use Rattle.waiting_orders.proofs.Ordering.{Due, due_of}

-- ---- by a number

-- the same operations by a number
pub record Sorted (number : Stamped → ℕ) (os : List Stamped) : Type 0 where
  pub list : List Stamped
  pub is : IsPermutation os list
  pub rises : Rises number list

module _ (number : Stamped → ℕ) where
  with_one : (o : Stamped) (ps : List Stamped) → Rises number ps → Sorted number (o ∷ ps)
  with_one o [] h = record { list = o ∷ []; is = IsPermutation-refl _; rises = (tt, tt) }
  with_one o (p ∷ ps) h = go (nat_le (number o) (number p)) refl (with_one o ps h.1)
    where
      none_less : number o ≤ number p → (qs : List Stamped) → AllByRecursion (λ q. number p ≤ number q) qs → AllByRecursion (λ q. number o ≤ number q) qs
      none_less l [] h = tt
      none_less l (q ∷ qs) h = (let a = h.0 in omega (arith, l, a), none_less l qs h.1)

      go : (b : Bool) → nat_le (number o) (number p) ≡ b → Sorted number (o ∷ ps) → Sorted number (o ∷ p ∷ ps)
      go true e m = let l = leb-true _ _ e in record { list = o ∷ p ∷ ps; is = IsPermutation-refl _; rises = ((l, none_less l ps h.0), h) }
      go false e m =
          let l : number p < number o = leb-false _ _ e in
          record {
            list = p ∷ m.list;
            is = IsPermutation-trans _ (p ∷ o ∷ ps) _ (IsPermutation-middle (o ∷ []) p ps) (IsPermutation-cons p (o ∷ ps) m.list m.is);
            rises = (all_moved (λ q. number p ≤ number q) (o ∷ ps) m.list m.is (omega (arith, l), h.0), m.rises);
          }

  pub sorted : (os : List Stamped) → Sorted number os
  sorted [] = record { list = []; is = IsPermutation-refl []; rises = tt }
  sorted (o ∷ os) =
      let m = sorted os in
      let w = with_one o m.list m.rises in
      record { list = w.list; is = IsPermutation-trans _ _ _ (IsPermutation-cons o os m.list m.is) w.is; rises = w.rises }

-- calls by their first numbers keep time
pub first_keeps : (os : List Stamped) → AllByRecursion IsCall os → Rises (λ o. o.first) os → KeepsTime os
first_keeps [] calls h = tt
first_keeps (o ∷ os) calls h = (each os calls.1 h.0, first_keeps os calls.1 h.1)
  where
    later : (first number : ℕ) (last : Option ℕ) → first ≤ number → IfSome last (λ last. number ≤ last) → IfSome last (λ last. first ≤ last)
    later first number None l h = tt
    later first number (Some last) l h = omega (arith, l, h)

    each : (ps : List Stamped) → AllByRecursion IsCall ps → AllByRecursion (λ p. o.first ≤ p.first) ps → AllByRecursion (MayComeBefore o) ps
    each [] c h = tt
    each (p ∷ ps) c h = (later o.first p.first p.last h.0 c.0.spans, each ps c.1 h.1)

-- the same where it is said of their places
pub rises_of : (number : Stamped → ℕ) (os : List Stamped) → IsNonDecreasingBy number os → Rises number os
rises_of number [] h = tt
rises_of number (o ∷ os) h = (each os (λ j l. h 0 (suc j) o (omega arith) (omega (arith, l))), rises_of number os (IsNonDecreasingBy-drop number 1 (o ∷ os) h))
  where
    each : (ps : List Stamped) → ((j : ℕ) → j < length ps → number o ≤ number (slice_index_or ps j o)) → AllByRecursion (λ p. number o ≤ number p) ps
    each [] h = tt
    each (p ∷ ps) h = (h 0 (omega arith), each ps (λ j l. h (suc j) (omega (arith, l))))

-- ---- what is set aside is put in

-- an operation was refused for something else than a shut
pub record IsAside (o : Stamped) : Type 0 where
  pub refusal : Refusal
  pub told : o.reply ≡ Some (Refused refusal)
  pub leaves : leaves refusal ≡ true

pub aside_is : (o : Stamped) → is_aside o.reply ≡ true → IsAside o
aside_is o h = go o.reply refl h
  where
    go : (reply : Option Reply) → o.reply ≡ reply → is_aside reply ≡ true → IsAside o
    go None e h = absurd cc
    go (Some Done) e h = absurd cc
    go (Some (Value v)) e h = absurd cc
    go (Some Empty) e h = absurd cc
    go (Some (Refused refusal)) e h = record { refusal = refusal; told = e; leaves = h }

pub all_asides : (os : List Stamped) → AllByRecursion (λ o. is_aside o.reply ≡ true) os → AllByRecursion IsAside os
all_asides [] h = tt
all_asides (o ∷ os) h = (aside_is o h.0, all_asides os h.1)

pub rotated : (xs ys zs : List Stamped) → IsPermutation (xs ++ (ys ++ zs)) (ys ++ (xs ++ zs))
rotated xs ys zs =
    subst (λ l. IsPermutation l (ys ++ (xs ++ zs))) (append_assoc xs ys zs)
    (subst (IsPermutation ((xs ++ ys) ++ zs)) (append_assoc ys xs zs) (IsPermutation-append_left zs (xs ++ ys) (ys ++ xs) (IsPermutation-append_comm xs ys)))

-- it is the same operations
pub merged_are : (asides order : List Stamped) → AllByRecursion IsCall asides → KeepsTime asides → IsPermutation (merged asides order) (order ++ asides)
merged_are asides [] c h = IsPermutation-refl asides
merged_are asides (o ∷ os) c h =
    let f = due_of o.first asides c h in
    let front = due_front o.first asides in
    let later = due_later o.first asides in
    let m = merged_are later os (all_back IsCall front later (subst (AllByRecursion IsCall) f.is c)) (keeps_last front later (subst KeepsTime f.is h)) in
    IsPermutation-trans _ (o ∷ (front ++ merged later os)) _ (IsPermutation-middle front o (merged later os))
    (IsPermutation-cons o (front ++ merged later os) (os ++ asides)
    (IsPermutation-trans _ (front ++ (os ++ later)) _ (IsPermutation-append_right front (merged later os) (os ++ later) m)
    (subst (λ l. IsPermutation (front ++ (os ++ later)) (os ++ l)) (sym f.is) (rotated front os later))))

-- and keeps time
pub merged_keeps : (asides order : List Stamped) → AllByRecursion IsCall asides → KeepsTime asides → AllByRecursion IsCall order → KeepsTime order → KeepsTime (merged asides order)
merged_keeps asides [] c h calls timely = h
merged_keeps asides (o ∷ os) c h calls timely =
    keeps_joined front (o ∷ merged later os) (keeps_front front later (subst KeepsTime f.is h)) (open_then.1, merged_keeps later os twos kept calls.1 timely.1) (each front f.began)
  where
    front : List Stamped
    front = due_front o.first asides

    later : List Stamped
    later = due_later o.first asides

    f : Due o.first asides front later
    f = due_of o.first asides c h

    twos : AllByRecursion IsCall later
    twos = all_back IsCall front later (subst (AllByRecursion IsCall) f.is c)

    kept : KeepsTime later
    kept = keeps_last front later (subst KeepsTime f.is h)

    -- what comes behind had not ended when this one began
    open_then : AllByRecursion (IsOpenAt o.first) (o ∷ merged later os)
    open_then = (calls.0.spans, all_moved (IsOpenAt o.first) (os ++ later) (merged later os) (IsPermutation-sym _ _ (merged_are later os twos kept)) (all_joined (IsOpenAt o.first) os later timely.0 f.ongoing))

    each : (ps : List Stamped) → AllByRecursion (λ p. p.first ≤ o.first) ps → AllByRecursion (λ p. AllByRecursion (MayComeBefore p) (o ∷ merged later os)) ps
    each [] h = tt
    each (p ∷ ps) h = (all_sooner_open p.first o.first h.0 (o ∷ merged later os) open_then, each ps h.1)

-- and is a run of the queue, as the order was
pub record RunOf (queue : Queue) (list : List Stamped) : Type 0 where
  pub order : List Answered
  pub are : operations_of order ≡ list
  pub replies : AllByRecursion Gives order
  pub runs : IsRun queue order

asides_run : (asides : List Stamped) → AllByRecursion IsAside asides → (queue : Queue) (list : List Stamped) → RunOf queue list → RunOf queue (asides ++ list)
asides_run [] a queue list r = r
asides_run (o ∷ asides) a queue list r =
    let m = asides_run asides a.1 queue list r in
    record {
      order = given o (Refused a.0.refusal) ∷ m.order;
      are = ap (λ os. o ∷ os) m.are;
      replies = (inl a.0.told, m.replies);
      runs = (inl a.0.leaves, m.runs);
    }

pub merged_runs : (asides : List Stamped) → AllByRecursion IsAside asides → AllByRecursion IsCall asides → KeepsTime asides → (queue : Queue) (order : List Answered)
    → AllByRecursion Gives order → IsRun queue order → RunOf queue (merged asides (operations_of order))
merged_runs asides a c h queue [] replies runs =
    subst (RunOf queue) (append-nil asides) (asides_run asides a queue [] (record { order = []; are = refl; replies = tt; runs = tt }))
merged_runs asides a c h queue (x ∷ order) replies runs =
    let o = x.operation in
    let f = due_of o.first asides c h in
    let front = due_front o.first asides in
    let later = due_later o.first asides in
    let both = subst (AllByRecursion IsAside) f.is a in
    let m = merged_runs later (all_back IsAside front later both) (all_back IsCall front later (subst (AllByRecursion IsCall) f.is c)) (keeps_last front later (subst KeepsTime f.is h))
    (answer queue o (Some x.reply)).after order replies.1 runs.1 in
    asides_run front (all_front IsAside front later both) queue (o ∷ merged later (operations_of order))
    (record { order = x ∷ m.order; are = ap (λ os. o ∷ os) m.are; replies = (replies.0, m.replies); runs = (runs.0, m.runs) })
