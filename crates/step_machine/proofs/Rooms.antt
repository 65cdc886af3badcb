-- The room that a world keeps for nodes and entries, over a begin and over a step.
use Rattle.std.proofs.Common.{◌≡◌, ℕ, zero, suc, ◌+◌, ◌<◌, ◌≤◌, ◌⊎◌, inl, inr, Bool, true, false, ◌&&◌, nat_lt, if◌then◌else◌, Option, Some, None}
use Rattle.std.proofs.Common.{List, [], ◌∷◌, length, get_or, set, slice_get, refl, sym, ap, subst, ◌∙◌, arith, length-append, IfSome}
use Rattle.std.proofs.Math.ListN.{length-set}
use Rattle.std.proofs.lemmas.Bool.{ltb-true, ltb-false}
use Rattle.std.proofs.lemmas.List.Sums.{sum_by-set, sum_by-le, get_or-le-sum_by}
use Rattle.std.specs.List.{sum_by}
use Rattle.step_machine.specs.Below.{Line, N1, Stamped, Actor, room_after}
use Rattle.step_machine.specs.Machine.{with_operation}
use Rattle.step_machine.specs.Views.{wants_node, wanting_node, is_unrecorded, unrecorded, HasNodes, HasEntry}

-- an element that a list has at an index
pub got : {X : Type 0} (xs : List X) (i : ℕ) (x : X) → slice_get xs i ≡ Some x → (i < length xs) × ((d : X) → get_or xs i d ≡ x)
got [] i x e = cc
got (y ∷ ys) zero x e = (omega arith, λ d. cc)
got (y ∷ ys) (suc i) x e = let h = got ys i x e in (omega (arith, h.0), h.1)

-- a sum with one item replaced, from what the item was
sum_set : {X : Type 0} (f : X → ℕ) (xs : List X) (i : ℕ) (x y : X) → slice_get xs i ≡ Some x → sum_by f (set xs i y) + f x ≡ sum_by f xs + f y
sum_set f xs i x y e =
    let g = got xs i x e in
    ap (λ z. sum_by f (set xs i y) + f z) (sym (g.1 x)) ∙ sum_by-set f xs i y x g.0

-- one item is at most the sum
item_most : {X : Type 0} (f : X → ℕ) (xs : List X) (i : ℕ) (x : X) → slice_get xs i ≡ Some x → f x ≤ sum_by f xs
item_most f xs i x e =
    let g = got xs i x e in
    subst (λ z. f z ≤ sum_by f xs) (g.1 x) (get_or-le-sum_by f xs i x g.0)

-- a sum of terms that are at most 1
sum_most : {X : Type 0} (f : X → ℕ) (xs : List X) → ((x : X) → f x ≤ 1) → sum_by f xs ≤ length xs
sum_most f xs h = omega (arith, sum_by-le f 1 xs (λ k d _. h (get_or xs k d)))

-- an actor looks for at most one node
seeks_most : (l : Option Line) → wants_node l ≤ 1
seeks_most None = omega arith
seeks_most (Some N1) = omega arith
seeks_most (Some _) = omega arith

-- an actor has at most one call without a number, and none where its call has one
unrecorded_most : (l : Option Line) (entry : Option ℕ) → is_unrecorded l entry ≤ 1
unrecorded_most None entry = omega arith
unrecorded_most (Some l) None = omega arith
unrecorded_most (Some l) (Some e) = omega arith

recorded_none : (l : Option Line) (e : ℕ) → is_unrecorded l (Some e) ≡ 0
recorded_none None e = refl
recorded_none (Some l) e = refl

-- after a begin there is room for the nodes that its actor and the others may look for
pub begin_nodes : (size fresh room enough : ℕ) (xs : List Actor) (i : ℕ) (a b : Actor) → room ≤ size → slice_get xs i ≡ Some a → wants_node a.line ≡ 0
    → (wants_node b.line ≡ 0) ⊎ (enough ≡ fresh + length xs) → HasNodes size fresh room xs → HasNodes size fresh (room_after size enough room) (set xs i b)
begin_nodes size fresh room enough xs i a b within at none why (inl full) = go (nat_lt room enough) (nat_lt room size) refl
  where
    go : (c d : Bool) → nat_lt room size ≡ d → HasNodes size fresh (if c && d then room + 1 else room) (set xs i b)
    go true true e = absurd (let h : room < size = ltb-true room size e in omega arith)
    go true false e = inl full
    go false d e = inl full
begin_nodes size fresh room enough xs i a b within at none why (inr some) = go (nat_lt room enough) (nat_lt room size) refl refl
  where
    sums : wanting_node (set xs i b) + wants_node a.line ≡ wanting_node xs + wants_node b.line
    sums = sum_set (λ c. wants_node c.line) xs i a b at

    most : wanting_node (set xs i b) ≤ length (set xs i b)
    most = sum_most (λ c. wants_node c.line) (set xs i b) (λ c. seeks_most c.line)

    enough_room : (wants_node b.line ≡ 0) ⊎ (enough ≡ fresh + length xs) → enough ≤ room → fresh + wanting_node (set xs i b) ≤ room
    enough_room (inl zero_b) h = omega (arith, sums)
    enough_room (inr e) h = omega (arith, most, length-set xs i b)

    go : (c d : Bool) → nat_lt room enough ≡ c → nat_lt room size ≡ d → HasNodes size fresh (if c && d then room + 1 else room) (set xs i b)
    go true true e f = inr (omega (arith, sums, seeks_most b.line))
    go true false e f = let h : size ≤ room = ltb-false room size f in inl (omega arith)
    go false d e f = let h : enough ≤ room = ltb-false room enough e in inr (enough_room why h)

-- after a step the room for nodes still serves
pub step_nodes : (size fresh more room : ℕ) (xs : List Actor) (i : ℕ) (a b : Actor) → slice_get xs i ≡ Some a
    → more + wants_node b.line ≤ fresh + wants_node a.line → HasNodes size fresh room xs → HasNodes size more room (set xs i b)
step_nodes size fresh more room xs i a b at h (inl full) = inl full
step_nodes size fresh more room xs i a b at h (inr some) =
    let sums : wanting_node (set xs i b) + wants_node a.line ≡ wanting_node xs + wants_node b.line = sum_set (λ c. wants_node c.line) xs i a b at in
    inr (omega arith)

-- room for one entry an actor is room for the calls without a number
pub begin_entries : (len capacity : ℕ) (xs : List Actor) (i : ℕ) (b : Actor) → len + length xs ≤ capacity → len + unrecorded (set xs i b) ≤ capacity
begin_entries len capacity xs i b h =
    let most : unrecorded (set xs i b) ≤ length (set xs i b) = sum_most (λ c. is_unrecorded c.line c.entry) (set xs i b) (λ c. unrecorded_most c.line c.entry) in
    omega (arith, length-set xs i b)

-- a call that has no number yet has room for its entry
pub has_entry : (len capacity : ℕ) (xs : List Actor) (i : ℕ) (a : Actor) (l : Line) → slice_get xs i ≡ Some a → a.line ≡ Some l → IfSome a.entry (λ e. e < len)
    → len + unrecorded xs ≤ capacity → HasEntry a.entry len capacity
has_entry len capacity xs i a l at here stands h =
    go a.entry stands (subst (λ n. n ≤ unrecorded xs) (ap (λ o. is_unrecorded o a.entry) here) (item_most (λ c. is_unrecorded c.line c.entry) xs i a at))
  where
    go : (entry : Option ℕ) → IfSome entry (λ e. e < len) → is_unrecorded (Some l) entry ≤ unrecorded xs → HasEntry entry len capacity
    go None k g = omega arith
    go (Some e) k g = k

-- after a step the room for entries still serves
pub step_entries : (ops : List Stamped) (new : Stamped) (change : Stamped → Stamped) (capacity more : ℕ) (xs : List Actor) (i : ℕ) (a b : Actor) (l : Line) (e : ℕ)
    → slice_get xs i ≡ Some a → a.line ≡ Some l → b.entry ≡ Some e → length ops + unrecorded xs ≤ capacity → capacity ≤ more
    → length (with_operation a.entry new change ops) + unrecorded (set xs i b) ≤ more
step_entries ops new change capacity more xs i a b l e at here after h g =
    go a.entry sums
  where
    sums : unrecorded (set xs i b) + is_unrecorded (Some l) a.entry ≡ unrecorded xs + 0
    sums =
        ap (λ o. unrecorded (set xs i b) + is_unrecorded o a.entry) (sym here) ∙
        sum_set (λ c. is_unrecorded c.line c.entry) xs i a b at ∙
        ap (λ n. unrecorded xs + n) (ap (is_unrecorded b.line) after ∙ recorded_none b.line e)

    go : (entry : Option ℕ) → unrecorded (set xs i b) + is_unrecorded (Some l) entry ≡ unrecorded xs + 0 → length (with_operation entry new change ops) + unrecorded (set xs i b) ≤ more
    go None s = simp length-append (omega arith)
    go (Some k) s = omega (arith, length-set ops k (change (get_or ops k new)))

-- the room never passes the number of nodes
pub room_after_within : (size enough room : ℕ) → room ≤ size → room_after size enough room ≤ size
room_after_within size enough room h = go (nat_lt room enough) (nat_lt room size) refl
  where
    go : (c d : Bool) → nat_lt room size ≡ d → (if c && d then room + 1 else room) ≤ size
    go true true e = let g : room < size = ltb-true room size e in omega arith
    go true false e = h
    go false d e = h
