-- The posts of a new pool's workers, and its leader.
use Rattle.std.proofs.Common.{◌≡◌, subst, List, [], ◌∷◌, map}
use Rattle.std.specs.List.{All}
use Rattle.std.proofs.lemmas.List.Elements.{All-nil, All-cons, All-head, All-tail}
use Rattle.history.specs.Seats.{Permit, MayPush, MayPop}
use Rattle.carriers.specs.Knowledge.{KnownOf}
use Rattle.tasks.specs.declared.answers.Done.{Done}
use Rattle.tasks.specs.declared.runs.Numbered.{Numbered}
use Rattle.tasks.specs.declared.posts.Post.{Post}
use Rattle.tasks.specs.Workers.{IsPost}
use Rattle.tasks.specs.Posts.{takes, gives}

-- what is so of two queues is so of equal ones
pub on : {Q V : Type 0} (P : Q → V → Type 0) {q q' : Q} {v v' : V} → q ≡ q' → v ≡ v' → P q v → P q' v'
on P {q' = q'} {v = v} one other h = subst (P q') other (subst (λ x. P x v) one h)

-- a seat is the queue's, in no call, and may push and pop
abbrev pub IsFree : {Q S N : Type 0} → (Q → S → Type 0) → (Q → List Permit) → (S → KnownOf N) → Q → S → Type 0
IsFree is_seat permits known queue s = is_seat queue s × (MayPush (permits queue) (known s).number × MayPop (permits queue) (known s).number)

module _ {Q S V U T A : Type 0} (is_seat : Q → S → Type 0) (permits : Q → List Permit) (known : S → KnownOf (Numbered T))
    (is_seat' : V → U → Type 0) (permits' : V → List Permit) (known' : U → KnownOf (Done A)) (queue : Q) (results : V) where
  pub posts_are : (ps : List (Post S U)) → All (IsFree is_seat permits known queue) (map takes ps) → All (IsFree is_seat' permits' known' results) (map gives ps)
      → All (IsPost is_seat permits known is_seat' permits' known' queue results) ps
  posts_are [] h k = All-nil (IsPost is_seat permits known is_seat' permits' known' queue results)
  posts_are (p ∷ ps) h k =
      let one = All-head (IsFree is_seat permits known queue) p.taker (map takes ps) h in
      let other = All-head (IsFree is_seat' permits' known' results) p.giver (map gives ps) k in
      All-cons (IsPost is_seat permits known is_seat' permits' known' queue results) p ps
      (record { taker = one.0; may_take = one.1.1; giver = other.0; may_give = other.1.0 })
      (posts_are ps (All-tail (IsFree is_seat permits known queue) p.taker (map takes ps) h) (All-tail (IsFree is_seat' permits' known' results) p.giver (map gives ps) k))
