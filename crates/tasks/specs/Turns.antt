-- What a worker does in a turn, and what it brings back.
use Rattle.std.specs.Prelude.{◌≡◌, ℕ, List, [], ◌∷◌, ◌++◌, map}
use Rattle.std.specs.Global.{Vec}
use Rattle.std.specs.List.{AllZip}
use Rattle.history.specs.declared.refusals.Refusal.{Refusal}
use Rattle.history.specs.declared.refusals.Refusal.TheVariants.{Closed, WornOut}
use Rattle.carriers.specs.declared.items.ItemOf.{ItemOf}
use Rattle.carriers.specs.Deeds.{did_pop}
use Rattle.carriers.specs.Knowledge.{KnownOf}
use Rattle.shared_queue.specs.Answers.{ReceivedOf, RecvRefusedOf, EndsAfterWaitOf}
use Rattle.shared_queue.specs.Waits.{WaitedOf, EmptySinceOf}
use Rattle.tasks.specs.declared.answers.Done.{Done}
use Rattle.tasks.specs.declared.runs.Numbered.{Numbered}
use Rattle.tasks.specs.declared.turns.End.{End}
use Rattle.tasks.specs.declared.turns.End.TheVariants.{Finished, Stopped, Refused, Short}
use Rattle.tasks.specs.declared.turns.Worked.{Worked}
use Rattle.tasks.specs.Tasks.{IsDoneOf}

module _ {Q S A : Type 0} (is_seat : Q → S → Type 0) (known : S → KnownOf A) (cause : Q → S → S → ℕ → Refusal → Type 0) (queue : Q) (before after : S) where
  -- a pop of a seat was refused so, after it had waited, with the cause of a try of 8 turns
  abbrev pub IsUnpopped : Refusal → Type 0
  IsUnpopped refusal = RecvRefusedOf (known before) refusal (known after) × EndsAfterWaitOf is_seat known cause queue before after 8 refusal

  -- a seat popped nothing, and its worker ends so: it found the queue shut and empty; or waited, and found it empty once more; or
  -- its pop was refused, since a word was worn out; or memory was refused before it did anything
  abbrev pub EndsTurn : End → Type 0
  EndsTurn Finished = IsUnpopped Closed
  EndsTurn Stopped = (last : KnownOf A) × WaitedOf (known before) last × EmptySinceOf last (known after)
  EndsTurn (Refused (WornOut word)) = IsUnpopped (WornOut word)
  EndsTurn (Refused _) = ⊥
  EndsTurn (Short short) = after ≡ before

module _ {T A : Type 0} (answers : T → A → Type 0) where
  -- one task was popped, and its result put at the end
  pub record RunsOne (k k' : KnownOf (Numbered T)) (out out' : List (Done A)) : Type 0 where
    pub front : ItemOf (Numbered T)
    pub popped : ReceivedOf k front k'
    pub result : Done A
    pub of : IsDoneOf answers front.value result
    pub added : out' ≡ out ++ result ∷ []

  -- each of these that were popped has its result, in this order
  abbrev pub AreDone : List (ItemOf (Numbered T)) → List (Done A) → Type 0
  AreDone = AllZip (λ x d. IsDoneOf answers x.value d)

  -- a seat popped tasks, and these are their results, in this order
  pub record HasRun (k k' : KnownOf (Numbered T)) (out : List (Done A)) : Type 0 where
    pub items : List (ItemOf (Numbered T))
    pub mine : k'.mine ≡ k.mine ++ map (did_pop k.number) items
    pub done : AreDone items out

-- a worker brought back its seat, with this number, and the results of the tasks that it popped; it ended as its last turn did
pub record IsBack {Q S T A : Type 0} (is_seat : Q → S → Type 0) (known : S → KnownOf (Numbered T)) (cause : Q → S → S → ℕ → Refusal → Type 0)
    (answers : T → A → Type 0) (queue : Q) (was : S) (w : Worked S (Vec (Done A))) : Type 0 where
  pub seat : is_seat queue w.seat
  pub number : (known w.seat).number ≡ (known was).number
  pub ran : HasRun answers (known was) (known w.seat) w.done.items
  pub last : S
  pub sat : is_seat queue last
  pub ended : EndsTurn is_seat known cause queue last w.seat w.end
