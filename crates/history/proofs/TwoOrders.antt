-- Histories of two completed operations: an order that shows one to be linearizable is one of two.
use Rattle.std.proofs.Common.{◌≡◌, ◌⊎◌, inl, inr, ℕ, zero, suc, ◌<◌, ◌≤◌, Some, IfSome, List, [], ◌∷◌, ◌++◌, refl, sym, ap, ◌∙◌, subst, arith}
use Rattle.std.specs.List.{AllByRecursion, swap}
use Rattle.std.specs.List.Sorted.{SwapsInRange, apply_swaps}
use Rattle.history.specs.declared.operations.Reply.{Reply}
use Rattle.history.specs.declared.operations.Reply.TheVariants.{Done, Value, Empty}
use Rattle.history.specs.declared.operations.Stamped.{Stamped}
use Rattle.history.specs.Queue.{empty}
use Rattle.history.specs.History.{answer, AgreesWithQueue}
use Rattle.history.specs.Linearizability.{Answered, operations_of, IsPending, GivesRecordedReply, MayComeBefore, KeepsTime, IsRun, IsLinearizable}
use Rattle.history.specs.SmallHistories.{five, push, pop, taken_too_early, push_lost}

-- two operations in one order or the other
abbrev IsOfTwo : Stamped → Stamped → List Stamped → Type 0
IsOfTwo a b os = (os ≡ a ∷ b ∷ []) ⊎ (os ≡ b ∷ a ∷ [])

other_way : (a b : Stamped) (os : List Stamped) → IsOfTwo a b os → IsOfTwo b a os
other_way a b os (inl e) = inr e
other_way a b os (inr e) = inl e

swap_two : (a b : Stamped) (i j : ℕ) → i < 2 → j < 2 → IsOfTwo a b (swap (a ∷ b ∷ []) i j)
swap_two a b zero zero h k = inl refl
swap_two a b zero (suc zero) h k = inr refl
swap_two a b (suc zero) zero h k = inr refl
swap_two a b (suc zero) (suc zero) h k = inl refl
swap_two a b (suc (suc i)) j h k = absurd (omega arith)
swap_two a b zero (suc (suc j)) h k = absurd (omega arith)
swap_two a b (suc zero) (suc (suc j)) h k = absurd (omega arith)

two_moves : (a b : Stamped) (moves : List (ℕ × ℕ)) → SwapsInRange 2 moves → IsOfTwo a b (apply_swaps (a ∷ b ∷ []) moves)
two_moves a b [] h = inl refl
two_moves a b (m ∷ ms) h = go (apply_swaps (a ∷ b ∷ []) ms) (two_moves a b ms h.2)
  where
    go : (os : List Stamped) → IsOfTwo a b os → IsOfTwo a b (swap os m.0 m.1)
    go os (inl e) = subst (λ os. IsOfTwo a b (swap os m.0 m.1)) (sym e) (swap_two a b m.0 m.1 h.0 h.1)
    go os (inr e) =
        subst (λ os. IsOfTwo a b (swap os m.0 m.1)) (sym e) (other_way b a _ (swap_two b a m.0 m.1 h.0 h.1))

-- one operation runs before another, from the empty queue
record RunsBefore (a b : Stamped) : Type 0 where
  pub first : Reply
  pub second : Reply
  pub first_told : IfSome a.reply (λ told. first ≡ told)
  pub second_told : IfSome b.reply (λ told. second ≡ told)
  pub timely : MayComeBefore a b
  pub first_gets : AgreesWithQueue empty a (Some first)
  pub second_gets : AgreesWithQueue (answer empty a (Some first)).after b (Some second)

abbrev front_or : Stamped → List Stamped → Stamped
front_or o [] = o
front_or o (p ∷ ps) = p

abbrev rest : List Stamped → List Stamped
rest [] = []
rest (o ∷ os) = os

in_order : (a b : Stamped) → (IsPending a → ⊥) → (IsPending b → ⊥) → (order : List Answered) (left : List Stamped)
    → operations_of order ++ left ≡ a ∷ b ∷ [] → AllByRecursion IsPending left → AllByRecursion GivesRecordedReply order
    → KeepsTime (operations_of order) → IsRun empty order → RunsBefore a b
in_order a b na nb [] left e p g t r = absurd (na (subst (AllByRecursion IsPending) e p).0)
in_order a b na nb (x ∷ []) left e p g t r = absurd (nb (subst (AllByRecursion IsPending) (ap rest e) p).0)
in_order a b na nb (x ∷ y ∷ []) left e p g t r =
    let ex : x.operation ≡ a = ap (front_or a) e in
    let ey : y.operation ≡ b = ap (λ os. front_or b (rest os)) e in
    subst (λ o. RunsBefore o b) ex (subst (RunsBefore x.operation) ey (record {
      first = x.reply;
      second = y.reply;
      first_told = g.0;
      second_told = g.1.0;
      timely = t.0.0;
      first_gets = r.0;
      second_gets = r.1.0;
    }))
in_order a b na nb (x ∷ y ∷ z ∷ zs) left e p g t r = cc e

-- of two completed operations of a linearizable history one runs before the other
two_runs : (a b : Stamped) → (IsPending a → ⊥) → (IsPending b → ⊥) → IsLinearizable (a ∷ b ∷ []) → RunsBefore a b ⊎ RunsBefore b a
two_runs a b na nb h = go (two_moves a b h.each_once.moves h.each_once.below)
  where
    go : IsOfTwo a b (apply_swaps (a ∷ b ∷ []) h.each_once.moves) → RunsBefore a b ⊎ RunsBefore b a
    go (inl e) = inl (in_order a b na nb h.order h.left_out (h.each_once.is ∙ e) h.only_pending_left_out h.replies h.timely h.runs)
    go (inr e) = inr (in_order b a nb na h.order h.left_out (h.each_once.is ∙ e) h.only_pending_left_out h.replies h.timely h.runs)

push_ended : (first last : ℕ) → IsPending (push first last) → ⊥
push_ended first last h = cc h.not_told

pop_ended : (actor first last : ℕ) (told : Reply) → IsPending (pop actor first last told) → ⊥
pop_ended actor first last told h = cc h.not_told

pub too_early_is_not : IsLinearizable taken_too_early → ⊥
too_early_is_not h = go (two_runs (pop 2 1 2 (Value five)) (push 3 4) (pop_ended 2 1 2 (Value five)) (push_ended 3 4) h)
  where
    go : RunsBefore (pop 2 1 2 (Value five)) (push 3 4) ⊎ RunsBefore (push 3 4) (pop 2 1 2 (Value five)) → ⊥
    go (inl r) = cc (subst (λ x. AgreesWithQueue empty (pop 2 1 2 (Value five)) (Some x)) r.first_told r.first_gets)
    go (inr r) = let late : 3 ≤ 2 = r.timely in omega arith

pub lost_is_not : IsLinearizable push_lost → ⊥
lost_is_not h = go (two_runs (push 1 2) (pop 2 3 4 Empty) (push_ended 1 2) (pop_ended 2 3 4 Empty) h)
  where
    go : RunsBefore (push 1 2) (pop 2 3 4 Empty) ⊎ RunsBefore (pop 2 3 4 Empty) (push 1 2) → ⊥
    go (inl r) =
        let done : AgreesWithQueue (answer empty (push 1 2) (Some Done)).after (pop 2 3 4 Empty) (Some r.second) =
        subst (λ x. AgreesWithQueue (answer empty (push 1 2) (Some x)).after (pop 2 3 4 Empty) (Some r.second)) r.first_told r.second_gets in
        cc (subst (λ x. AgreesWithQueue (answer empty (push 1 2) (Some Done)).after (pop 2 3 4 Empty) (Some x)) r.second_told done)
    go (inr r) = let late : 3 ≤ 2 = r.timely in omega arith
