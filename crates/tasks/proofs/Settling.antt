-- What was told of tasks, once those that are left are run, is their answers.
use Rattle.std.proofs.Common.{◌∷◌, [], sym, subst, List}
use Rattle.std.specs.List.{AllZip}
use Rattle.tasks.specs.declared.answers.Outcome.{Outcome}
use Rattle.tasks.specs.declared.answers.Outcome.TheVariants.{Answered, Left}
use Rattle.tasks.specs.Tasks.{Tells, AreTold}
use Rattle.tasks.specs.Settled.{IsSettled, AreSettled}

module _ {T A : Type 0} (answers : T → A → Type 0) where
  settled : (t : T) (o : Outcome T A) (b : A) → Tells answers t o → IsSettled answers o b → answers t b
  settled t (Answered a) b tells is = subst (answers t) (sym is) tells
  settled t (Left u) b tells is = subst (λ x. answers x b) tells is

  pub all_settled : (ts : List T) (os : List (Outcome T A)) (bs : List A) → AreTold answers ts os → AreSettled answers os bs → AllZip answers ts bs
  all_settled [] [] [] told are = tt
  all_settled [] [] (b ∷ bs) told are = are
  all_settled [] (o ∷ os) bs told are = absurd told
  all_settled (t ∷ ts) [] bs told are = absurd told
  all_settled (t ∷ ts) (o ∷ os) [] told are = absurd are
  all_settled (t ∷ ts) (o ∷ os) (b ∷ bs) told are = (settled t o b told.0 are.0, all_settled ts os bs told.1 are.1)
