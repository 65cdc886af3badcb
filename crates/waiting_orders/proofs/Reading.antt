-- What went between two states, read back, and the walk from the start to a state.
use Rattle.std.proofs.Common.{◌≡◌, inl, inr, ℕ, zero, suc, ◌<◌, Bool, true, false, Option, None, Some, IfSome, is_some, List, [], ◌∷◌, ◌++◌, length, reverse, slice_get, take, refl, sym, ap, ◌∙◌, subst, arith}
use Rattle.std.proofs.lemmas.Option.{same_Some}
use Rattle.std.proofs.lemmas.List.{append-nil, append_assoc, reverse-append}
use Rattle.history.specs.declared.operations.Stamped.{Stamped}
use Rattle.waiting_orders.specs.declared.boards.Board.{Board}
use Rattle.waiting_orders.specs.declared.nodes.Node.{Node}
use Rattle.waiting_orders.specs.declared.walks.Went.{Went}
use Rattle.waiting_orders.specs.Lines.{Out}
use Rattle.waiting_orders.specs.Listed.{takes_value}
use Rattle.waiting_orders.specs.Nodes.{Spot, AreCalls, start, state_of, view}
use Rattle.waiting_orders.specs.Orders.{AreWent, LeadsTo, Moves, operation_of}
use Rattle.waiting_orders.specs.Reached.{IsRest, IsOutOf}
use Rattle.waiting_orders.specs.Walked.{AreRooted, IsFrom}

-- ---- what went between two states

-- what stands at the place that is gone is the operation that went
pub other_is : (board : Board) (s u : Spot) (l : LeadsTo board s u) (gone : ℕ) → ((place : ℕ) → IsRest place s.others u.others → gone ≡ place) → slice_get board.others.items gone ≡ Some l.other.operation
other_is board s u l gone is =
    let place : gone ≡ l.out.place = is l.out.place (subst (IsRest l.out.place s.others) (sym l.rest) l.out.rest) in
    subst (λ n. slice_get board.others.items n ≡ Some l.other.operation) (sym place) l.out.there

pub push_is : (board : Board) (s u : Spot) (l : LeadsTo board s u) → is_some l.push ≡ true → (gone : ℕ) → ((place : ℕ) → IsRest place s.pushes u.pushes → gone ≡ place)
    → slice_get board.pushes.items gone ≡ operation_of l.push
push_is board s u l some gone is = go l.push some l.push_out
  where
    go : (push : Option Out) → is_some push ≡ true → IfSome push (λ p. IsOutOf board.pushes.items s.pushes p × (u.pushes ≡ p.left)) → slice_get board.pushes.items gone ≡ operation_of push
    go None e h = absurd cc
    go (Some p) e h =
        let place : gone ≡ h.0.place = is h.0.place (subst (IsRest h.0.place s.pushes) (sym h.1) h.0.rest) in
        subst (λ n. slice_get board.pushes.items n ≡ Some p.operation) (sym place) h.0.there

pub no_push : (push : Option Out) → is_some push ≡ false → operation_of push ≡ None
no_push None e = refl
no_push (Some p) e = absurd cc

-- so it is what went
pub went_is : (board : Board) (s u : Spot) (l : LeadsTo board s u) (other : Stamped) (push : Option Stamped) → Some other ≡ Some l.other.operation → push ≡ operation_of l.push
    → Moves (record { other = other; push = push; time = u.time }) (state_of board s) (state_of board u)
went_is board s u l other push e f =
    subst (λ o. Moves (record { other = o; push = push; time = u.time }) (state_of board s) (state_of board u)) (sym (same_Some other l.other.operation e))
    (subst (λ p. Moves (record { other = l.other.operation; push = p; time = u.time }) (state_of board s) (state_of board u)) (sym f) l.moves)

pub takes_push : (board : Board) (s u : Spot) (l : LeadsTo board s u) (other : Stamped) → Some other ≡ Some l.other.operation → (takes : Bool) → takes ≡ takes_value other.op other.reply → is_some l.push ≡ takes
takes_push board s u l other e takes t = l.takes ∙ ap (λ o. takes_value o.op o.reply) (sym (same_Some other l.other.operation e)) ∙ sym t

-- ---- the states before one

-- of the states that were tried the one at a place is the start, or behind one before that place
pub from_before : (board : Board) (done : List Node) (k : ℕ) (n : Node) → AreRooted board [] done → slice_get done k ≡ Some n → IsFrom board (take k done) n
from_before board done k n h e = go [] done k h e
  where
    go : (seen later : List Node) (k : ℕ) → AreRooted board seen later → slice_get later k ≡ Some n → IsFrom board (seen ++ take k later) n
    go seen [] k h e = absurd cc
    go seen (d ∷ later) zero h e = subst (λ l. IsFrom board l n) (sym (append-nil seen)) (subst (IsFrom board seen) (same_Some d n e) h.0)
    go seen (d ∷ later) (suc k) h e = subst (λ l. IsFrom board l n) (append_assoc seen (d ∷ []) (take k later)) (go (seen ++ d ∷ []) later k h.1 e)

take_within : (done : List Node) (k i : ℕ) (n : Node) → slice_get (take k done) i ≡ Some n → (i < k) × (slice_get done i ≡ Some n)
take_within [] zero i n e = absurd cc
take_within [] (suc k) i n e = absurd cc
take_within (d ∷ done) zero i n e = absurd cc
take_within (d ∷ done) (suc k) zero n e = (omega arith, e)
take_within (d ∷ done) (suc k) (suc i) n e = let h = take_within done k i n e in ((let l = h.0 in omega (arith, l)), h.1)

take_all : (done : List Node) → take (length done) done ≡ done
take_all [] = refl
take_all (d ∷ done) = ap (λ l. d ∷ l) (take_all done)

pub from_all : (board : Board) (done : List Node) (n : Node) → IsFrom board done n → IsFrom board (take (length done) done) n
from_all board done n h = subst (λ l. IsFrom board l n) (sym (take_all done)) h

-- a state that isn't the start is behind the one at its parent's place, which is before a place
pub record ParentOf (board : Board) (done : List Node) (below : ℕ) (n : Node) : Type 0 where
  pub node : Node
  pub before : n.parent < below
  pub there : slice_get done n.parent ≡ Some node
  pub leads : AreCalls board → LeadsTo board (view node) (view n)

pub parent_of : (board : Board) (done : List Node) (below : ℕ) (n : Node) → IsFrom board (take below done) n → (view n ≡ start → ⊥) → ParentOf board done below n
parent_of board done below n (inl e) other = absurd (other e)
parent_of board done below n (inr h) other =
    let t = take_within done below n.parent h.0 h.1 in
    record { node = h.0; before = t.0; there = t.1; leads = h.2 }

-- what went between the two goes before the walk
pub walk_more : (board : Board) (from to : Spot) (end : Node) (walk after : List Went) (w : Went) → after ≡ walk ++ w ∷ [] → Moves w (state_of board from) (state_of board to)
    → AreWent (reverse walk) (state_of board to) (state_of board (view end)) → AreWent (reverse after) (state_of board from) (state_of board (view end))
walk_more board from to end walk after w e moves went =
    subst (λ l. AreWent l (state_of board from) (state_of board (view end))) (sym (ap reverse e ∙ reverse-append walk (w ∷ []))) (state_of board to, moves, went)
