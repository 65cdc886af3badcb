-- What a seat of a queue of values learns while it waits.
use Rattle.std.proofs.Common.{◌≡◌, ℕ, [], ◌∷◌, ◌++◌, length, sym, refl, ap, ◌∙◌, append-nil, append_assoc, subst, Option, None, Some, IfSome, Result, Err, IfErr, ◌⊎◌, inl, inr}
use Rattle.std.proofs.lemmas.Option.{IfSome_then}
use Rattle.history.specs.declared.refusals.Refusal.{Refusal}
use Rattle.history.specs.declared.refusals.Refusal.TheVariants.{NoNode, Busy}
use Rattle.carriers.specs.declared.items.ItemOf.{ItemOf}
use Rattle.carriers.specs.Knowledge.{KnownOf}
use Rattle.carriers.specs.Answers.{FoundEmptyOf, PopAnswersOf, PopRefusedOf, PushRefusedOf, SeesMoreOf}
use Rattle.shared_queue.specs.declared.bells.Heard.{Heard}
use Rattle.shared_queue.specs.declared.deadlines.Late.{Late}
use Rattle.shared_queue.specs.Hearings.{seat_heard}
use Rattle.shared_queue.specs.Lates.{seat_then}
use Rattle.shared_queue.specs.Waits.{WaitedOf}

module _ {A : Type 0} where
  -- a seat that makes no call
  pub waits_not : (k : KnownOf A) → WaitedOf k k
  waits_not k = record { number = refl; between = []; seen = sym (append-nil k.seen); mine = refl; found = []; notes = sym (append-nil k.notes) }

  -- a seat that waited, and waited again
  pub waits_on : (a b c : KnownOf A) → WaitedOf a b → WaitedOf b c → WaitedOf a c
  waits_on a b c f g =
      record {
        number = g.number ∙ f.number;
        between = f.between ++ g.between;
        seen = g.seen ∙ ap (λ ds. ds ++ g.between) f.seen ∙ append_assoc a.seen f.between g.between;
        mine = g.mine ∙ f.mine;
        found = f.found ++ g.found;
        notes = g.notes ∙ ap (λ ns. ns ++ g.found) f.notes ∙ append_assoc a.notes f.found g.found;
      }

  -- a seat that saw no less
  pub sees : (a b : KnownOf A) → SeesMoreOf a b → WaitedOf a b
  sees a b s = record { number = s.number; between = s.between; seen = s.seen; mine = s.mine; found = []; notes = s.notes ∙ sym (append-nil a.notes) }

  -- a seat that found the queue empty
  pub finds : (a b : KnownOf A) → FoundEmptyOf a b → WaitedOf a b
  finds a b f = record { number = f.number; between = f.between; seen = f.seen; mine = f.mine; found = length b.seen ∷ []; notes = f.notes }

  -- a seat whose pop answered none
  pub none_found : (a b : KnownOf A) (o : Option (ItemOf A)) → o ≡ None → PopAnswersOf a o b → FoundEmptyOf a b
  none_found a b o e h = subst (λ p. PopAnswersOf a p b) e h

  -- a seat whose push was refused for want of a node
  pub refused_by : (a b : KnownOf A) (r : Refusal) → r ≡ NoNode → PushRefusedOf a r b → SeesMoreOf a b
  refused_by a b r e h = subst (λ p. PushRefusedOf a p b) e h

-- what a call heard: what it had heard before, or its bell as the seat is now
pub hears_on : {S : Type 0} (P : S → Type 0) (old new : Option (Heard S)) (seat : S)
    → IfSome old (λ h. P (seat_heard h)) → P seat → (new ≡ old) ⊎ IfSome new (λ h. seat_heard h ≡ seat) → IfSome new (λ h. P (seat_heard h))
hears_on P old new seat before now (inl same) = subst (λ o. IfSome o (λ h. P (seat_heard h))) (sym same) before
hears_on P old None seat before now (inr heard) = tt
hears_on P old (Some h) seat before now (inr heard) = subst P (sym heard) now

-- a call whose time was over as its seat is now
pub late_now : {S : Type 0} (P : S → Type 0) (late : Option (Late S)) (seat : S) → P seat → IfSome late (λ l. seat_then l ≡ seat) → IfSome late (λ l. P (seat_then l))
late_now P late seat now h = IfSome_then late h (λ l e. subst P (sym e) now)

-- a try to pop that was in the way of others
pub was_busy : {X A : Type 0} (a b : KnownOf A) (answer : Result X Refusal) (refusal : Refusal) → answer ≡ Err refusal → refusal ≡ Busy
    → IfErr answer (λ r. PopRefusedOf a r b) → SeesMoreOf a b
was_busy a b answer refusal e same h = subst (λ r. PopRefusedOf a r b) same (subst (λ o. IfErr o (λ r. PopRefusedOf a r b)) e h)

-- a call that heard nothing yet
pub heard_none : {X : Type 0} (P : X → Type 0) (o : Option X) → o ≡ None → IfSome o P
heard_none P o e = subst (λ x. IfSome x P) (sym e) tt

-- what a call heard, or when its time was over, was before what the seat learnt since
module _ {S A : Type 0} (R : KnownOf A → KnownOf A → Type 0) (then : (a b c : KnownOf A) → R a b → R b c → R a c) (known : S → KnownOf A) where
  pub heard_on : (heard : Option (Heard S)) (a b : KnownOf A) → R a b → IfSome heard (λ h. R (known (seat_heard h)) a) → IfSome heard (λ h. R (known (seat_heard h)) b)
  heard_on None a b more h = tt
  heard_on (Some x) a b more h = then (known (seat_heard x)) a b h more

  pub late_on : (late : Option (Late S)) (a b : KnownOf A) → R a b → IfSome late (λ l. R (known (seat_then l)) a) → IfSome late (λ l. R (known (seat_then l)) b)
  late_on None a b more h = tt
  late_on (Some x) a b more h = then (known (seat_then x)) a b h more

-- what is so of a value that there may be is so of this one
pub some_is : {X : Type 0} (P : X → Type 0) (o : Option X) (x : X) → o ≡ Some x → IfSome o P → P x
some_is P o x e h = subst (λ y. IfSome y P) e h

-- a push that was in the way of others
pub busy_by : {A : Type 0} (a b : KnownOf A) (r : Refusal) → r ≡ Busy → PushRefusedOf a r b → SeesMoreOf a b
busy_by a b r e h = subst (λ p. PushRefusedOf a p b) e h

-- the cause of a push that got no node
pub no_node : {Q S : Type 0} (cause : Q → S → S → ℕ → Refusal → Type 0) (queue : Q) (a b : S) (r : Refusal) → r ≡ NoNode → cause queue a b 8 r → cause queue a b 8 NoNode
no_node cause queue a b r e h = subst (cause queue a b 8) e h
