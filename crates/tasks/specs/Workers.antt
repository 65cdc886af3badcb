-- What a worker of a fed pool did.
use Rattle.std.specs.Prelude.{◌≡◌, ℕ, List, [], ◌∷◌, ◌++◌, map, Option, Some, None, Result, Ok, Err}
use Rattle.history.specs.declared.refusals.Refusal.{Refusal}
use Rattle.history.specs.declared.refusals.Refusal.TheVariants.{NoNode}
use Rattle.history.specs.Seats.{Permit, MayPush, MayPop}
use Rattle.carriers.specs.declared.items.ItemOf.{ItemOf}
use Rattle.carriers.specs.Deeds.{did_push, did_pop}
use Rattle.carriers.specs.Knowledge.{KnownOf}
use Rattle.carriers.specs.Answers.{PushedOf, EndsByTryOf}
use Rattle.tasks.specs.declared.answers.Done.{Done}
use Rattle.tasks.specs.declared.runs.Numbered.{Numbered}
use Rattle.tasks.specs.declared.turns.End.{End}
use Rattle.tasks.specs.declared.turns.End.TheVariants.{Stopped, Refused}
use Rattle.tasks.specs.declared.turns.Worked.{Worked}
use Rattle.tasks.specs.Turns.{AreDone, EndsTurn}
use Rattle.tasks.specs.declared.posts.Post.{Post}
use Rattle.tasks.specs.declared.worker.Unsendable.{Unsendable}

-- a result was sent; or it comes back, and nothing was pushed
abbrev pub Sends : {A : Type 0} → (k k' : KnownOf (Done A)) → Done A → Result (Unit {0}) (Unsendable A) → Type 0
Sends k k' done (Ok sent) = PushedOf k done k'
Sends k k' done (Err unsendable) = (unsendable.done ≡ done) × (k'.mine ≡ k.mine)

-- a result that wasn't sent, as a list
abbrev pub unsent_in : {A : Type 0} → Option (Done A) → List (Done A)
unsent_in None = []
unsent_in (Some d) = d ∷ []

-- a seat popped tasks, and another one pushed the result of each, in this order; but the last one, where that was refused
pub record ServesSo {T A : Type 0} (answers : T → A → Type 0) (k k' : KnownOf (Numbered T)) (o o' : KnownOf (Done A)) (unsent : Option (Done A)) : Type 0 where
  pub items : List (ItemOf (Numbered T))
  pub popped : k'.mine ≡ k.mine ++ map (did_pop k.number) items
  pub sent : List (Done A)
  pub pushed : o'.mine ≡ o.mine ++ map (did_push o.number) sent
  pub done : AreDone answers items (sent ++ unsent_in unsent)

-- a task was popped, and its result pushed, or brought back; or none was popped
abbrev pub ServesOne : {S U T A : Type 0} → (S → KnownOf (Numbered T)) → (U → KnownOf (Done A)) → (answers : T → A → Type 0) → (p p' : Post S U) → Result (Unit {0}) (Option (Done A) × End) → Type 0
ServesOne known known' answers p p' (Ok served) = ServesSo answers (known p.taker) (known p'.taker) (known' p.giver) (known' p'.giver) None
ServesOne known known' answers p p' (Err (unsent, end)) = ServesSo answers (known p.taker) (known p'.taker) (known' p.giver) (known' p'.giver) unsent

module _ {V U A : Type 0} (is_seat : V → U → Type 0) (known : U → KnownOf A) (push_cause : V → U → U → ℕ → Refusal → Type 0) (queue : V) (before after : U) where
  -- a result couldn't be sent, and its worker ends so: it was told to stop, and a push had cause to be refused for want of a node;
  -- or the push was refused, with cause
  abbrev pub EndsSending : End → Type 0
  EndsSending Stopped = (last : U) × EndsByTryOf is_seat known push_cause queue last after 8 NoNode
  EndsSending (Refused refusal) = EndsByTryOf is_seat known push_cause queue before after 8 refusal
  EndsSending _ = ⊥

-- a worker ends so: it got no task; or it couldn't send a result
abbrev pub EndsServing : {Q S V U N A : Type 0} → (Q → S → Type 0) → (S → KnownOf N) → (pop_cause : Q → S → S → ℕ → Refusal → Type 0)
    → (V → U → Type 0) → (U → KnownOf (Done A)) → (push_cause : V → U → U → ℕ → Refusal → Type 0)
    → Q → V → (before after : Post S U) → Option (Done A) → End → Type 0
EndsServing is_seat known pop_cause is_seat' known' push_cause queue results before after None end =
    EndsTurn is_seat known pop_cause queue before.taker after.taker end
EndsServing is_seat known pop_cause is_seat' known' push_cause queue results before after (Some done) end =
    EndsSending is_seat' known' push_cause results before.giver after.giver end

module _ {Q S V U T A : Type 0} (is_seat : Q → S → Type 0) (permits : Q → List Permit) (known : S → KnownOf (Numbered T))
    (is_seat' : V → U → Type 0) (permits' : V → List Permit) (known' : U → KnownOf (Done A)) where
  -- the two seats of a worker are in no call; the one may pop tasks, the other one push results
  pub record IsPost (queue : Q) (results : V) (p : Post S U) : Type 0 where
    pub taker : is_seat queue p.taker
    pub may_take : MayPop (permits queue) (known p.taker).number
    pub giver : is_seat' results p.giver
    pub may_give : MayPush (permits' results) (known' p.giver).number

  -- a worker brought back its seats, and what it did
  pub record IsServed (answers : T → A → Type 0) (queue : Q) (results : V) (was : Post S U) (w : Worked (Post S U) (Option (Done A))) : Type 0 where
    pub post : IsPost queue results w.seat
    pub taker_number : (known w.seat.taker).number ≡ (known was.taker).number
    pub giver_number : (known' w.seat.giver).number ≡ (known' was.giver).number
    pub served : ServesSo answers (known was.taker) (known w.seat.taker) (known' was.giver) (known' w.seat.giver) w.done

  -- a worker ended by the last that it did
  pub record EndsByLast (pop_cause : Q → S → S → ℕ → Refusal → Type 0) (push_cause : V → U → U → ℕ → Refusal → Type 0) (queue : Q) (results : V)
      (w : Worked (Post S U) (Option (Done A))) : Type 0 where
    pub last : Post S U
    pub post : IsPost queue results last
    pub ends : EndsServing is_seat known pop_cause is_seat' known' push_cause queue results last w.seat w.done w.end
