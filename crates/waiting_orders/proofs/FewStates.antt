-- Of pushes alone, only the start is reached.
use Rattle.std.proofs.Common.{◌≡◌, ℕ, suc, ◌≤◌, true, false, inl, inr, List, [], ◌∷◌, ◌++◌, refl, sym, ap, ◌∙◌, subst, arith}
use Rattle.std.specs.List.{AllByRecursion}
use Rattle.std.proofs.lemmas.Option.{none-some}
use Rattle.history.specs.declared.operations.Stamped.{Stamped}
use Rattle.waiting_orders.specs.Indexed.{indexed}
use Rattle.waiting_orders.specs.Waiting.{waits}
use Rattle.waiting_orders.specs.Nodes.{Spot, IsIn, start}
use Rattle.waiting_orders.specs.Reached.{AreApart, AreTooMany, IsReached, TakesRoom, size, sizes}
use Rattle.waiting_orders.proofs.Futures.{all_moved}
use Rattle.waiting_orders.proofs.Limits.{all_first}

-- where no operation goes, only the start is reached
only_start : (pushes : List Stamped) (us : List Spot) (s : Spot) → IsReached [] pushes us s → s ≡ start
only_start pushes us s (inl e) = e
only_start pushes us s (inr h) = let out = h.2.out in absurd (none-some _ out.there)

one_state : (us : List Spot) → AreApart us → ((s : Spot) → IsIn s us → s ≡ start) → sizes us ≤ 160
one_state [] a all = omega arith
one_state (u ∷ []) a all = let e : size u ≡ 160 = ap size (all u (inl refl)) in omega (arith, e)
one_state (u ∷ v ∷ us) a all = absurd (a.0 (inl (all u (inl refl) ∙ sym (all v (inr (inl refl))))))

reached_start : (pushes : List Stamped) (us ts : List Spot) → AllByRecursion (IsReached [] pushes us) ts → (s : Spot) → IsIn s ts → s ≡ start
reached_start pushes us [] h s i = absurd i
reached_start pushes us (t ∷ ts) h s (inl e) = e ∙ only_start pushes us t h.0
reached_start pushes us (t ∷ ts) h s (inr i) = reached_start pushes us ts h.1 s i

none_goes : (others : List Stamped) → AllByRecursion (λ o. waits o ≡ false) others → AllByRecursion (λ o. waits o ≡ true) others → others ≡ []
none_goes [] a b = refl
none_goes (o ∷ others) a b = absurd (cc (sym a.0 ∙ b.0))

all_wait : (k : ℕ) (ops : List Stamped) → AllByRecursion (λ o. waits o ≡ true) ops → AllByRecursion (λ o. waits o ≡ true) (indexed k ops)
all_wait k [] h = tt
all_wait k (o ∷ ops) h = (h.0, all_wait (suc k) ops h.1)

pub one_start : (ops : List Stamped) (room : ℕ) → AllByRecursion (λ o. waits o ≡ true) ops → TakesRoom ops room → room ≤ 160
one_start ops room all t =
    let each = all_moved (λ o. waits o ≡ true) (indexed 0 ops) (t.others ++ t.pushes) t.all (all_wait 0 ops all) in
    let none : t.others ≡ [] = none_goes t.others t.none_waits (all_first (λ o. waits o ≡ true) t.others t.pushes each) in
    let many : AreTooMany [] t.pushes room = subst (λ l. AreTooMany l t.pushes room) none t.many in
    let few : sizes many.states ≤ 160 = one_state many.states many.apart (reached_start t.pushes many.states many.states many.reached) in
    let k = many.many in
    omega (arith, few, k)
