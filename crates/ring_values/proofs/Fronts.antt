-- What stood in front of a queue of words is what its deeds left there.
use Rattle.std.proofs.Common.{◌≡◌, ℕ, Bool, true, false, List, [], ◌∷◌, ◌++◌, sym, refl, ap, subst, ◌∙◌}
use Rattle.std.specs.Coded.{×_prop}
use Rattle.std.proofs.Math.Bool.{Bool-set}
use Rattle.std.proofs.Math.Logic.{∥∥₁_elim}
use Rattle.std.proofs.Props.{props}
use Rattle.node_arena.specs.Deeds.{Deed, Item, item, pushed, popped, closed, Runs}
use Rattle.ring_queue.specs.Beside.{StoodFirst}

Item-set : IsSet (Item (List ℕ))
Item-set = hlevel props

items-set : IsSet (List (Item (List ℕ)))
items-set = hlevel (props, Item-set)

-- what is behind the first
abbrev behind : List (Item (List ℕ)) → List (Item (List ℕ))
behind [] = []
behind (x ∷ xs) = xs

-- what deeds leave of a queue
abbrev after : List (Item (List ℕ)) → List (Deed (List ℕ)) → List (Item (List ℕ))
after q [] = q
after q (pushed n x ∷ ds) = after (q ++ item n x ∷ []) ds
after q (popped n t ∷ ds) = after (behind q) ds
after q (closed n ∷ ds) = after q ds

-- whether it is shut then
abbrev shut_after : Bool → List (Deed (List ℕ)) → Bool
shut_after shut [] = shut
shut_after shut (pushed n x ∷ ds) = shut_after shut ds
shut_after shut (popped n t ∷ ds) = shut_after shut ds
shut_after shut (closed n ∷ ds) = shut_after true ds

-- deeds can be made one after another, and each pop takes what is in front
abbrev Plays : List (Item (List ℕ)) → Bool → List (Deed (List ℕ)) → Type 0
Plays q shut [] = Unit {0}
Plays q shut (pushed n x ∷ ds) = (shut ≡ false) × Plays (q ++ item n x ∷ []) shut ds
Plays [] shut (popped n t ∷ ds) = ⊥
Plays (front ∷ q) shut (popped n t ∷ ds) = (front ≡ t) × Plays q shut ds
Plays q shut (closed n ∷ ds) = (shut ≡ false) × Plays q true ds

-- that has at most one proof
Plays-prop : (q : List (Item (List ℕ))) (shut : Bool) (ds : List (Deed (List ℕ))) → IsProp (Plays q shut ds)
Plays-prop q shut [] = λ a b. refl
Plays-prop q shut (pushed n x ∷ ds) = ×_prop (Bool-set shut false) (Plays-prop (q ++ item n x ∷ []) shut ds)
Plays-prop [] shut (popped n t ∷ ds) = λ a b. absurd a
Plays-prop (front ∷ q) shut (popped n t ∷ ds) = ×_prop (Item-set front t) (Plays-prop q shut ds)
Plays-prop q shut (closed n ∷ ds) = ×_prop (Bool-set shut false) (Plays-prop q true ds)

Plays-Runs : (q : List (Item (List ℕ))) (shut : Bool) (ds : List (Deed (List ℕ))) (q' : List (Item (List ℕ))) (shut' : Bool) → Runs q shut ds q' shut' → Plays q shut ds
Plays-Runs q shut [] q' shut' h = tt
Plays-Runs q shut (pushed n x ∷ ds) q' shut' h = (h.0, Plays-Runs (q ++ item n x ∷ []) shut ds q' shut' h.1)
Plays-Runs q shut (popped n t ∷ ds) q' shut' h = subst (λ y. Plays y shut (popped n t ∷ ds)) (sym h.1) (refl, Plays-Runs h.0 shut ds q' shut' h.2)
Plays-Runs q shut (closed n ∷ ds) q' shut' h = (h.0, Plays-Runs q true ds q' shut' h.1)

after-Runs : (q : List (Item (List ℕ))) (shut : Bool) (ds : List (Deed (List ℕ))) (q' : List (Item (List ℕ))) (shut' : Bool) → Runs q shut ds q' shut' → after q ds ≡ q'
after-Runs q shut [] q' shut' h = h.0
after-Runs q shut (pushed n x ∷ ds) q' shut' h = after-Runs (q ++ item n x ∷ []) shut ds q' shut' h.1
after-Runs q shut (popped n t ∷ ds) q' shut' h = ap (λ y. after (behind y) ds) h.1 ∙ after-Runs h.0 shut ds q' shut' h.2
after-Runs q shut (closed n ∷ ds) q' shut' h = after-Runs q true ds q' shut' h.1

Runs-Plays : (q : List (Item (List ℕ))) (shut : Bool) (ds : List (Deed (List ℕ))) → Plays q shut ds → Runs q shut ds (after q ds) (shut_after shut ds)
Runs-Plays q shut [] c = (refl, refl)
Runs-Plays q shut (pushed n x ∷ ds) c = (c.0, Runs-Plays (q ++ item n x ∷ []) shut ds c.1)
Runs-Plays [] shut (popped n t ∷ ds) c = absurd c
Runs-Plays (front ∷ q) shut (popped n t ∷ ds) c = (q, ap (λ y. y ∷ q) c.0, Runs-Plays q shut ds c.1)
Runs-Plays q shut (closed n ∷ ds) c = (c.0, Runs-Plays q true ds c.1)

-- so what is behind it is found too
pub stood_there : (ds : List (Deed (List ℕ))) (front : Item (List ℕ)) → ∥ StoodFirst ds front ∥₁ → StoodFirst ds front
stood_there ds front stood =
    let q = after [] ds in
    let so : Plays [] false ds × (q ≡ front ∷ behind q) = ∥∥₁_elim stood (×_prop (Plays-prop [] false ds) (items-set q (front ∷ behind q)))
    (λ h. let is = after-Runs [] false ds (front ∷ h.0) h.1 h.2 in (Plays-Runs [] false ds (front ∷ h.0) h.1 h.2, is ∙ ap (λ y. front ∷ y) (sym (ap behind is)))) in
    (behind q, shut_after false ds, subst (λ y. Runs [] false ds y (shut_after false ds)) so.1 (Runs-Plays [] false ds so.0))
