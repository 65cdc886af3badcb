-- No task is left where a worker found the queue shut and empty.
use Rattle.std.proofs.Common.{◌≡◌, ◌∙◌, inl, inr, sym, refl, ap, subst, ℕ, Bool, true, false, true≢false, List, [], ◌∷◌, ◌++◌, map, set, Option, Some, None}
use Rattle.std.specs.List.{All}
use mathlib.Core.List.{IsPrefix}
use Rattle.std.proofs.lemmas.List.Elements.{All-nil, All-cons, All-head, All-tail, All-set}
use Rattle.carriers.specs.declared.items.ItemOf.{ItemOf}
use Rattle.carriers.specs.Deeds.{Deed, did_push, did_pop, did_shut, item, Runs, RunsTo}
use Rattle.carriers.proofs.Running.{runs_split}
use Rattle.tasks.specs.declared.answers.Outcome.{Outcome}
use Rattle.tasks.specs.Gathers.{fills}
use Rattle.tasks.proofs.Lying.{Lies}

module _ {N : Type 0} where
  -- deeds lead to one queue
  lead_once : (q : List (ItemOf N)) (s : Bool) (ds : List (Deed N)) (r r' : List (ItemOf N)) (b b' : Bool) → Runs q s ds r b → Runs q s ds r' b' → (r ≡ r') × (b ≡ b')
  lead_once q s [] r r' b b' h k = (sym h.0 ∙ k.0, sym h.1 ∙ k.1)
  lead_once q s (did_push n x ∷ ds) r r' b b' h k = lead_once (q ++ item n x ∷ []) s ds r r' b b' h.1 k.1
  lead_once q s (did_pop n t ∷ ds) r r' b b' h k =
      let same : h.0 ≡ k.0 = rest_same (sym h.1 ∙ k.1) in
      lead_once h.0 s ds r r' b b' h.2 (subst (λ l. Runs l s ds r' b') (sym same) k.2)
    where
      rest_same : {t : ItemOf N} {xs ys : List (ItemOf N)} → t ∷ xs ≡ t ∷ ys → xs ≡ ys
      rest_same e = ap behind e
        where
          behind : List (ItemOf N) → List (ItemOf N)
          behind [] = []
          behind (z ∷ zs) = zs
  lead_once q s (did_shut n ∷ ds) r r' b b' h k = lead_once q true ds r r' b b' h.1 k.1

  -- from a queue that is shut and empty they lead to none with values
  stays_empty : (ds : List (Deed N)) (left : List (ItemOf N)) (s : Bool) → Runs [] true ds left s → left ≡ []
  stays_empty [] left s h = sym h.0
  stays_empty (did_push n x ∷ ds) left s h = absurd (true≢false h.0)
  stays_empty (did_pop n t ∷ ds) left s h = absurd (let e : [] ≡ t ∷ h.0 = h.1 in cc)
  stays_empty (did_shut n ∷ ds) left s h = absurd (true≢false h.0)

  pub left_none : (seen history : List (Deed N)) (left : List (ItemOf N)) (s : Bool) → IsPrefix seen history → RunsTo seen true [] → RunsTo history s left → left ≡ []
  left_none seen history left s begins ended runs =
      let r = runs_split [] false seen begins.0 left s (subst (λ ds. Runs [] false ds left s) (sym begins.1) runs) in
      let same = lead_once [] false seen r.0 [] r.1 true r.2 ended in
      stays_empty begins.0 left s (subst (λ l. Runs l true begins.0 left s) same.0 (subst (λ b. Runs r.0 b begins.0 left s) same.1 r.3))

module _ {T A : Type 0} (P : Outcome T A → Type 0) where
  -- what a slot holds is so
  abbrev pub Holds : Option (Outcome T A) → Type 0
  Holds None = Unit {0}
  Holds (Some o) = P o

  pub fills-holds : (ss : List (Option (Outcome T A))) (ps : List (ℕ × Outcome T A)) → All Holds ss → ((p : ℕ × Outcome T A) → Lies p ps → P p.1) → All Holds (fills ss ps)
  fills-holds ss [] h of = h
  fills-holds ss (p ∷ ps) h of = fills-holds (set ss p.0 (Some p.1)) ps (All-set Holds ss p.0 (Some p.1) (of p (inl refl)) h) (λ q lies. of q (inr lies))

  pub holds-all : (os : List (Outcome T A)) → All Holds (map (λ o. Some o) os) → All P os
  holds-all [] h = All-nil P
  holds-all (o ∷ os) h = All-cons P o os (All-head Holds (Some o) (map (λ o. Some o) os) h) (holds-all os (All-tail Holds (Some o) (map (λ o. Some o) os) h))
