-- States with the same left have the same futures, and where all that a search came to was tried there is no end.
use Rattle.std.proofs.Common.{◌≡◌, inl, inr, Bool, true, false, not, ◌&&◌, ◌||◌, ap, ℕ, zero, suc, List, [], ◌∷◌, Option, None, Some, refl, sym, ◌∙◌, arith}
use Rattle.std.specs.List.{AllByRecursion, Contains}
use Rattle.std.specs.List.Sorted.{IsPermutation}
use Rattle.std.proofs.lemmas.List.Elements.{All-contains, All-from_recursion, recursion_from_All}
use Rattle.std.proofs.lemmas.List.Sorted.{IsPermutation-sym, IsPermutation-trans, All-permutation}
use Rattle.history.specs.declared.refusals.Refusal.{Refusal}
use Rattle.history.specs.declared.operations.Op.{Op}
use Rattle.history.specs.declared.operations.Op.TheVariants.{Enq, Deq, Shut}
use Rattle.history.specs.declared.operations.Reply.{Reply}
use Rattle.history.specs.declared.operations.Reply.TheVariants.{Done, Value, Empty, Refused}
use Rattle.history.specs.declared.operations.Stamped.{Stamped}
use Rattle.waiting_orders.specs.Waiting.{State, Step, HasEffect, GetsRefused, Takes, FindsEmpty, IsLeft, IsTold, IsToldDrained, Shuts, IsEnd, CanEnd, Same, IsTried, AreClosed, OtherIsUntold, OtherIsOpen, every, other_is_open, may_stay, waits}

pub all_moved : (P : Stamped → Type 0) (xs ys : List Stamped) → IsPermutation xs ys → AllByRecursion P xs → AllByRecursion P ys
all_moved P xs ys h a = recursion_from_All P ys (All-permutation P xs ys h (All-from_recursion P xs a))

-- ---- tests of all

pub all_every : (test : Stamped → Bool) (xs : List Stamped) → every test xs ≡ true → AllByRecursion (λ x. test x ≡ true) xs
all_every test [] h = tt
all_every test (x ∷ xs) h = go (test x) refl h (all_every test xs)
  where
    go : (b : Bool) → test x ≡ b → (b && every test xs) ≡ true → (every test xs ≡ true → AllByRecursion (λ x. test x ≡ true) xs)
        → (test x ≡ true) × AllByRecursion (λ x. test x ≡ true) xs
    go true e h more = (e, more h)
    go false e h more = absurd cc

pub every_all : (test : Stamped → Bool) (xs : List Stamped) → AllByRecursion (λ x. test x ≡ true) xs → every test xs ≡ true
every_all test [] h = refl
every_all test (x ∷ xs) h = go (test x) h.0 (every_all test xs h.1)
  where
    go : (b : Bool) → b ≡ true → every test xs ≡ true → (b && every test xs) ≡ true
    go true e h = h
    go false e h = absurd cc

every_moved : (test : Stamped → Bool) (xs ys : List Stamped) → IsPermutation xs ys → every test xs ≡ true → every test ys ≡ true
every_moved test xs ys h e = every_all test ys (all_moved (λ x. test x ≡ true) xs ys h (all_every test xs e))

every_same : (test : Stamped → Bool) (xs ys : List Stamped) → IsPermutation xs ys → every test xs ≡ every test ys
every_same test xs ys h = go (every test xs) (every test ys) refl refl
  where
    go : (a b : Bool) → every test xs ≡ a → every test ys ≡ b → a ≡ b
    go true true e f = refl
    go false false e f = refl
    go true false e f = sym (every_moved test xs ys h e) ∙ f
    go false true e f = sym e ∙ every_moved test ys xs (IsPermutation-sym xs ys h) f

stay_same : (s u : State) → Same s u → (p : Stamped) → may_stay s p ≡ may_stay u p
stay_same s u same p = ap (λ b. not (waits p) || b) (every_same (other_is_open p.first) s.left u.left same.left)

all_stay : (s u : State) → Same s u → (b : Bool) (xs : List Stamped) → AllByRecursion (λ p. may_stay s p ≡ b) xs → AllByRecursion (λ p. may_stay u p ≡ b) xs
all_stay s u same b [] h = tt
all_stay s u same b (x ∷ xs) h = (sym (stay_same s u same x) ∙ h.0, all_stay s u same b xs h.1)

-- ---- the same left

module _ (s u t : State) (same : Same s u) where
  moved : (rest : List Stamped) → IsPermutation s.left rest → IsPermutation u.left rest
  moved rest h = IsPermutation-trans u.left s.left rest (IsPermutation-sym s.left u.left same.left) h

  takes : (v : _) (o : Stamped) → Takes v o s t → Takes v o u t
  takes v o h = record { push = h.push; is = moved _ h.is; pushes = h.pushes; began = h.began; first = h.first; same = h.same ∙ sym same.shut }

  empties : (o : Stamped) → FindsEmpty o s t → FindsEmpty o u t
  empties o h = record { is = moved _ h.is; none = h.none; before = same.shut ∙ h.before; same = h.same ∙ sym same.shut }

  shuts : (o : Stamped) → Shuts o s t → Shuts o u t
  shuts o h = record { dropped = h.dropped; is = moved _ h.is; untold = h.untold; kept = all_stay s u same true _ h.kept; late = all_stay s u same false _ h.late; before = same.shut ∙ h.before; after = h.after }

  leaves : (refusal : Refusal) (o : Stamped) → IsLeft refusal o s t → IsLeft refusal o u t
  leaves refusal o h = record { is = moved _ h.is; leaves = h.leaves; same = h.same ∙ sym same.shut }

  told : (o : Stamped) → IsTold o s t → IsTold o u t
  told o h = record { is = moved _ h.is; before = same.shut ∙ h.before; same = h.same ∙ sym same.shut }

  drained : (o : Stamped) → IsToldDrained o s t → IsToldDrained o u t
  drained o h = record { dropped = h.dropped; is = moved _ h.is; untold = h.untold; pushes = h.pushes; none = h.none; before = same.shut ∙ h.before; same = h.same ∙ sym same.shut }

  refused : (refusal : Refusal) (op : Op) (o : Stamped) → GetsRefused refusal op o s t → GetsRefused refusal op o u t
  refused refusal (Enq body) o (inl h) = inl (leaves refusal o h)
  refused refusal (Enq body) o (inr h) = inr (h.0, told o h.1)
  refused refusal Shut o (inl h) = inl (leaves refusal o h)
  refused refusal Shut o (inr h) = inr (h.0, told o h.1)
  refused refusal Deq o (inl h) = inl (leaves refusal o h)
  refused refusal Deq o (inr h) = inr (h.0, drained o h.1)

  effect : (op : Op) (reply : Option Reply) (o : Stamped) → HasEffect op reply o s t → HasEffect op reply o u t
  effect (Enq body) None o h = h
  effect Deq None o h = (h.0, takes h.0 o h.1)
  effect Shut None o h = shuts o h
  effect (Enq body) (Some Done) o h = h
  effect Deq (Some Done) o h = h
  effect Shut (Some Done) o h = shuts o h
  effect (Enq body) (Some (Value v)) o h = h
  effect Deq (Some (Value v)) o h = takes v o h
  effect Shut (Some (Value v)) o h = h
  effect (Enq body) (Some Empty) o h = h
  effect Deq (Some Empty) o h = empties o h
  effect Shut (Some Empty) o h = h
  effect (Enq body) (Some (Refused refusal)) o h = refused refusal (Enq body) o h
  effect Deq (Some (Refused refusal)) o h = refused refusal Deq o h
  effect Shut (Some (Refused refusal)) o h = refused refusal Shut o h

  same_step : Step s t → Step u t
  same_step h =
      let a = h.since in
      let b = same.time in
      record {
        operation = h.operation;
        since = omega (arith, a, b);
        began = h.began;
        ongoing = all_moved (OtherIsOpen t.time) s.left u.left same.left h.ongoing;
        effect = effect h.operation.op h.operation.reply h.operation h.effect;
      }

same_end : (s u : State) → Same s u → IsEnd s → IsEnd u
same_end s u same h = all_moved OtherIsUntold s.left u.left same.left h

pub same_futures : (n : ℕ) (s u : State) → Same s u → CanEnd n s → CanEnd n u
same_futures zero s u same h = same_end s u same h
same_futures (suc n) s u same (inl h) = inl (same_end s u same h)
same_futures (suc n) s u same (inr h) = inr (h.0, same_step s u h.0 same h.1, h.2)

-- ---- all that was tried

never : (states : List State) → ((s : State) → Contains states s → IsTried states s) → (n : ℕ) (s : State) → Contains states s → CanEnd n s → ⊥
never states tried zero s c h = (tried s c).no_end h
never states tried (suc n) s c (inl h) = (tried s c).no_end h
never states tried (suc n) s c (inr h) =
    let among = (tried s c).steps h.0 h.1 in
    never states tried n among.state among.there (same_futures n h.0 among.state among.same h.2)

pub none_ends : (ops : List Stamped) (states : List State) (closed : AreClosed ops states) (n : ℕ) → CanEnd n closed.start → ⊥
none_ends ops states closed n h =
    never states (λ s c. All-contains (IsTried states) states s closed.tried c) n closed.there.state closed.there.there
    (same_futures n closed.start closed.there.state closed.there.same h)
