-- What a move leads to, where it can be made: one of four worlds, by what its actor does.
use Rattle.std.proofs.Common.{◌≡◌, ℕ, ◌+◌, Bool, true, false, if◌then◌else◌, Option, Some, None, IfSome, refl}
use Rattle.step_machine.specs.Below.{Line, Op, Actor, Outcome, gives_up, is_call, begun}
use Rattle.step_machine.specs.declared.actors.Move.{Move}
use Rattle.step_machine.specs.declared.actors.Move.TheVariants.{Begin, Step, Give}
use Rattle.step_machine.specs.Machine.{World, actor_of, rested, with_actor, after_outcome, stepped, begins, steps, given, gives, may_rest, rests, moved, mover, rest_of, AnyMove, made, Rest, next_any}

-- a fact of each move that can be made in a world, and of the world after it
pub record AfterEach (w : World) (P : AnyMove → World → Type 0) : Type 0 where
  pub began : (me : ℕ) (op : Op) (a : Actor) → actor_of w me ≡ Some a → a.line ≡ None → is_call op ≡ true → P (made (Begin me op)) (with_actor w me (begun w.setup.kind me op a))
  pub step : (me : ℕ) (a : Actor) (l : Line) → actor_of w me ≡ Some a → a.line ≡ Some l → P (made (Step me)) (stepped w me a l)
  pub gave_up : (me : ℕ) (a : Actor) (l : Line) (o : Outcome) → actor_of w me ≡ Some a → a.line ≡ Some l → gives_up (w.steps + 1) a l ≡ Some o → P (made (Give me)) (after_outcome w me a w.shared o)
  pub at_rest : (me : ℕ) (a : Actor) (l : Line) → actor_of w me ≡ Some a → a.line ≡ Some l → may_rest l ≡ true → P (Rest me) (with_actor w me (rested a))

module _ (w : World) (P : AnyMove → World → Type 0) (h : AfterEach w P) where
  after_begin : (me : ℕ) (op : Op) (a : Actor) (l : Option Line) → actor_of w me ≡ Some a → a.line ≡ l → IfSome (begins w me op a l) (P (made (Begin me op)))
  after_begin me op a None is e = go (is_call op) refl
    where
      go : (b : Bool) → is_call op ≡ b → IfSome (if b then Some (with_actor w me (begun w.setup.kind me op a)) else None) (P (made (Begin me op)))
      go true call = h.began me op a is e call
      go false call = tt
  after_begin me op a (Some l) is e = tt

  after_step : (me : ℕ) (a : Actor) (l : Option Line) → actor_of w me ≡ Some a → a.line ≡ l → IfSome (steps w me a l) (P (made (Step me)))
  after_step me a None is e = tt
  after_step me a (Some l) is e = h.step me a l is e

  after_give : (me : ℕ) (a : Actor) (l : Option Line) → actor_of w me ≡ Some a → a.line ≡ l → IfSome (gives w me a l) (P (made (Give me)))
  after_give me a None is e = tt
  after_give me a (Some l) is e = go (gives_up (w.steps + 1) a l) refl
    where
      go : (o : Option Outcome) → gives_up (w.steps + 1) a l ≡ o → IfSome (given w me a o) (P (made (Give me)))
      go None f = tt
      go (Some o) f = h.gave_up me a l o is e f

  after_rest : (me : ℕ) (a : Actor) (l : Option Line) → actor_of w me ≡ Some a → a.line ≡ l → IfSome (rests w me a l) (P (Rest me))
  after_rest me a None is e = tt
  after_rest me a (Some l) is e = go (may_rest l) refl
    where
      go : (b : Bool) → may_rest l ≡ b → IfSome (if b then Some (with_actor w me (rested a)) else None) (P (Rest me))
      go true may = h.at_rest me a l is e may
      go false may = tt

  after_made : (m : Move) (a : Option Actor) → actor_of w (mover m) ≡ a → IfSome (moved w m a) (P (made m))
  after_made m None is = tt
  after_made (Begin me op) (Some a) is = after_begin me op a a.line is refl
  after_made (Step me) (Some a) is = after_step me a a.line is refl
  after_made (Give me) (Some a) is = after_give me a a.line is refl

  after_rest_of : (me : ℕ) (a : Option Actor) → actor_of w me ≡ a → IfSome (rest_of w me a) (P (Rest me))
  after_rest_of me None is = tt
  after_rest_of me (Some a) is = after_rest me a a.line is refl

  -- what holds of each of the four holds after any move
  pub after_move : (m : AnyMove) → IfSome (next_any w m) (P m)
  after_move (made m) = after_made m (actor_of w (mover m)) refl
  after_move (Rest me) = after_rest_of me (actor_of w me) refl
