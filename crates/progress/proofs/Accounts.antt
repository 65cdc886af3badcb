-- Over any moves of a queue what all actors have before them falls by what the moves count, but for so much for each
-- operation that begins.
use Rattle.std.proofs.Common.{◌≡◌, ℕ, ◌+◌, ◌-◌, ◌*◌, ◌≤◌, true, List, [], ◌∷◌, length, slice_get, Option, Some, None, IfSome, refl, ap, ◌∙◌, arith, length-append, mul-add}
use Rattle.std.proofs.Math.ListN.{length-set, length-replicate}
use Rattle.std.proofs.lemmas.List.Folds.{sum_by-replicate}
use Rattle.std.specs.List.{sum_by}
use Rattle.step_machine.specs.Below.{Kind, Line, Op, Stamped, Setup, Actor, Outcome, Shared, performed, found, action, outcome, gives_up, begun, first_words}
use Rattle.step_machine.specs.declared.actors.Move.TheVariants.{Begin, Step, Give}
use Rattle.step_machine.specs.Machine.{World, idle, opening, actor_of, rested, with_actor, entry_or, with_operation, with_outcome, new_operation}
use Rattle.step_machine.specs.Machine.{after_outcome, may_rest, AnyMove, made, Rest, next_any, run, run_on, IsSized, IsReached}
use Rattle.step_machine.proofs.Reached.{actor_stands, if_some, run_on_if, some_of, setup-next_any, reached_next}
use Rattle.step_machine.proofs.AnyMoves.{after_move}
use Rattle.progress.specs.Moves.{total, total_on, numbered}
use Rattle.step_machine.specs.Pairs.{pairs}
use Rattle.progress.proofs.Sums.{replaced, pairs-replicate}

-- how many operations a numbered move adds
abbrev pub new_ones : Option ℕ → ℕ
new_ones None = 1
new_ones (Some entry) = 0

grown : (entry : Option ℕ) (new : Stamped) (change : Stamped → Stamped) (ops : List Stamped) → length (with_operation entry new change ops) ≡ length ops + new_ones entry
grown None new change ops = length-append ops (change new ∷ [])
grown (Some entry) new change ops = length-set ops entry _ ∙ omega arith

-- an actor that was told an outcome
abbrev pub told_actor : World → Actor → Outcome → Actor
told_actor w a o = record o.actor { entry = Some (entry_or a.entry (length w.operations)) }

-- a numbered move is paid by what its actor has before it, and by what it has with each other one; where its operation is
-- new, by so much more, and so much with each other one
pub record Pays (has : Setup → Shared → Actor → ℕ) (cost : Actor → Actor → ℕ) (most each : ℕ) (w : World) (a : Actor) (m' : Shared) (counts : ℕ) (o : Outcome) : Type 0 where
  pub mine : has w.setup m' (told_actor w a o) + counts ≤ has w.setup w.shared a + most * new_ones a.entry
  pub others : (c : Actor) → has w.setup m' c + cost (told_actor w a o) c ≤ has w.setup w.shared c + cost a c + each * new_ones a.entry

-- an actor that begins a call, or rests, has no more before it then
pub record NoMore (has : Setup → Shared → Actor → ℕ) (cost : Actor → Actor → ℕ) (w : World) (a b : Actor) (counts : ℕ) : Type 0 where
  pub mine : has w.setup w.shared b + counts ≤ has w.setup w.shared a
  pub others : (c : Actor) → cost b c ≤ cost a c

-- what each actor has before it, and each two, and that each move of a queue is paid by it
pub record Account (kind : Kind) (most each : ℕ) (counts : World → AnyMove → ℕ) : Type 0 where
  pub has : Setup → Shared → Actor → ℕ
  pub cost : Actor → Actor → ℕ
  pub turned : (x y : Actor) → cost x y ≡ cost y x
  pub none : (s : Setup) → has s (first_words s.size) idle ≡ 0
  pub no_cost : cost idle idle ≡ 0
  pub began : (w : World) → IsReached w → w.setup.kind ≡ kind → (me : ℕ) (op : Op) (a : Actor) → a.line ≡ None → NoMore has cost w a (begun w.setup.kind me op a) (counts w (made (Begin me op)))
  pub step : (w : World) → IsReached w → w.setup.kind ≡ kind → (me : ℕ) (a : Actor) (l : Line) → actor_of w me ≡ Some a → a.line ≡ Some l
      → Pays has cost most each w a (performed (action w.setup me a l) w.shared) (counts w (made (Step me)))
      (outcome w.setup (w.steps + 1) me a l (found (action w.setup me a l) w.shared))
  pub gave_up : (w : World) → IsReached w → w.setup.kind ≡ kind → (me : ℕ) (a : Actor) (l : Line) (o : Outcome) → actor_of w me ≡ Some a
      → a.line ≡ Some l → gives_up (w.steps + 1) a l ≡ Some o → Pays has cost most each w a w.shared (counts w (made (Give me))) o
  pub at_rest : (w : World) → IsReached w → w.setup.kind ≡ kind → (me : ℕ) (a : Actor) (l : Line) → actor_of w me ≡ Some a → a.line ≡ Some l
      → may_rest l ≡ true → NoMore has cost w a (rested a) (counts w (Rest me))

-- steps are counted by the moves that take numbers
steps_of_move : (w : World) (m : AnyMove) → IfSome (next_any w m) (λ v. v.steps ≡ w.steps + numbered w m)
steps_of_move w =
    after_move w (λ m v. v.steps ≡ w.steps + numbered w m)
    (record {
      began = λ me op a is at call. omega arith;
      step = λ me a l is at. refl;
      gave_up = λ me a l o is at given. refl;
      at_rest = λ me a l is at may. omega arith;
    })

pub steps_numbered : (ms : List AnyMove) (w : World) → IfSome (run ms w) (λ v. v.steps ≡ w.steps + total numbered ms w)
steps_numbered [] w = omega arith
steps_numbered (m ∷ ms) w = go (steps_numbered ms) (next_any w m) refl
  where
    go : ((u : World) → IfSome (run ms u) (λ v. v.steps ≡ u.steps + total numbered ms u)) → (o : Option World) → next_any w m ≡ o
        → IfSome (run_on (run ms) o) (λ v. v.steps ≡ w.steps + (numbered w m + total_on (total numbered ms) o))
    go later None f = tt
    go later (Some u) f =
        if_some (λ v. v.steps ≡ w.steps + (numbered w m + total numbered ms u)) (run ms u)
        (λ v g. let one : u.steps ≡ w.steps + numbered w m = some_of (λ x. x.steps ≡ w.steps + numbered w m) (next_any w m) u f (steps_of_move w m) in
        let rest : v.steps ≡ u.steps + total numbered ms u = some_of (λ x. x.steps ≡ u.steps + total numbered ms u) (run ms u) v g (later u) in
        omega (arith, one, rest))

-- there are as many actors after any moves
stay : (k : ℕ) (w : World) (m : AnyMove) → length w.actors ≡ k → IfSome (next_any w m) (λ v. length v.actors ≡ k)
stay k w m h =
    after_move w (λ m v. length v.actors ≡ k)
    (record {
      began = λ me op a is at call. length-set w.actors (me - 1) _ ∙ h;
      step = λ me a l is at. length-set w.actors (me - 1) _ ∙ h;
      gave_up = λ me a l o is at given. length-set w.actors (me - 1) _ ∙ h;
      at_rest = λ me a l is at may. length-set w.actors (me - 1) _ ∙ h;
    })
    m

pub as_many : (k : ℕ) (ms : List AnyMove) (w : World) → length w.actors ≡ k → IfSome (run ms w) (λ v. length v.actors ≡ k)
as_many k [] w h = h
as_many k (m ∷ ms) w h = run_on_if (λ v. length v.actors ≡ k) (run ms) (next_any w m) (stay k w m h) (as_many k ms)

module _ (kind : Kind) (most each : ℕ) (counts : World → AnyMove → ℕ) (account : Account kind most each counts) where
  -- what all actors of a world have before them
  abbrev pub all_left : World → ℕ
  all_left w = sum_by (account.has w.setup w.shared) w.actors + pairs account.cost w.actors

  -- moves that count so much lead from a world to another one, where there are so many other actors
  abbrev pub Gains : (n count : ℕ) → (w v : World) → Type 0
  Gains n k w v = k + all_left v + (most + each * n) * length w.operations ≤ all_left w + (most + each * n) * length v.operations

  module _ (n : ℕ) (w : World) (r : IsReached w) (e : w.setup.kind ≡ kind) (few : length w.actors - 1 ≡ n) where
    -- where one actor is another one, that has no more
    with_other : (me : ℕ) (a b : Actor) (k : ℕ) → actor_of w me ≡ Some a → NoMore account.has account.cost w a b k → Gains n k w (with_actor w me b)
    with_other me a b k is less =
        let got : slice_get w.actors (me - 1) ≡ Some a = (actor_stands w me a is).1 in
        omega (
          arith,
          replaced account.cost account.turned (account.has w.setup w.shared) (account.has w.setup w.shared) a b 0
              (λ c. omega (arith, less.others c)) w.actors (me - 1) k 0 got (omega (arith, less.mine)),
        )

    -- where an actor was told an outcome
    told : (me : ℕ) (a : Actor) (m' : Shared) (k : ℕ) (o : Outcome) → actor_of w me ≡ Some a → Pays account.has account.cost most each w a m' k o → Gains n k w (after_outcome w me a m' o)
    told me a m' k o is f =
        let got : slice_get w.actors (me - 1) ≡ Some a = (actor_stands w me a is).1 in
        let ops : List Stamped = with_operation a.entry (new_operation me a.op (w.steps + 1)) (with_outcome (w.steps + 1) o) w.operations in
        let more : length ops ≡ length w.operations + new_ones a.entry = grown a.entry _ _ w.operations in
        let all : (most + each * n) * length ops ≡ (most + each * n) * length w.operations + (most + each * n) * new_ones a.entry =
        ap (λ j. (most + each * n) * j) more ∙ mul-add (most + each * n) (length w.operations) (new_ones a.entry) in
        let sums = replaced account.cost account.turned (account.has w.setup w.shared) (account.has w.setup m') a (told_actor w a o)
        (each * new_ones a.entry) f.others w.actors (me - 1) k (most * new_ones a.entry) got f.mine in
        omega (arith, sums, all, ap (λ j. each * new_ones a.entry * j) few, shared_out a.entry)
      where
        shared_out : (entry : Option ℕ) → (most + each * n) * new_ones entry ≡ most * new_ones entry + each * new_ones entry * n
        shared_out None = omega arith
        shared_out (Some entry) = omega arith

    next_gains : (m : AnyMove) → IfSome (next_any w m) (Gains n (counts w m) w)
    next_gains =
        after_move w (λ m v. Gains n (counts w m) w v)
        (record {
          began = λ me op a is at call. with_other me a (begun w.setup.kind me op a) _ is (account.began w r e me op a at);
          step = λ me a l is at. told me a _ _ _ is (account.step w r e me a l is at);
          gave_up = λ me a l o is at given. told me a w.shared _ o is (account.gave_up w r e me a l o is at given);
          at_rest = λ me a l is at may. with_other me a (rested a) _ is (account.at_rest w r e me a l is at may);
        })

  -- so the moves of a list are paid
  pub run_gains : (n : ℕ) (ms : List AnyMove) (w : World) → IsReached w → w.setup.kind ≡ kind → length w.actors - 1 ≡ n → IfSome (run ms w) (Gains n (total counts ms w) w)
  run_gains n [] w r e few = omega arith
  run_gains n (m ∷ ms) w r e few = go (run_gains n ms) (next_any w m) refl
    where
      go : ((u : World) → IsReached u → u.setup.kind ≡ kind → length u.actors - 1 ≡ n → IfSome (run ms u) (Gains n (total counts ms u) u))
          → (o : Option World) → next_any w m ≡ o → IfSome (run_on (run ms) o) (Gains n (counts w m + total_on (total counts ms) o) w)
      go later None f = tt
      go later (Some u) f =
          if_some (Gains n (counts w m + total counts ms u) w) (run ms u)
          (λ v g. let one : Gains n (counts w m) w u = some_of (Gains n (counts w m) w) (next_any w m) u f (next_gains n w r e few m) in
          let same : length u.actors ≡ length w.actors = some_of (λ x. length x.actors ≡ length w.actors) (next_any w m) u f (stay (length w.actors) w m refl) in
          let rest : Gains n (total counts ms u) u v = some_of (Gains n (total counts ms u) u) (run ms u) v g
          (later u (reached_next w u m r f) (ap (λ (s : Setup). s.kind) (setup-next_any w u m f) ∙ e) (ap (λ k. k - 1) same ∙ few)) in
          omega (arith, one, rest))

  -- and from the start on
  pub opening_gains : (s : Setup) (actors : ℕ) (moves : List AnyMove) → IsSized s actors → s.kind ≡ kind
      → IfSome (run moves (opening s actors)) (λ v. total counts moves (opening s actors) ≤ (most + each * (actors - 1)) * length v.operations)
  opening_gains s actors moves sized e =
      if_some (λ v. total counts moves (opening s actors) ≤ (most + each * (actors - 1)) * length v.operations) (run moves (opening s actors))
      (λ v f. let g : Gains (actors - 1) (total counts moves (opening s actors)) (opening s actors) v =
      some_of (Gains (actors - 1) (total counts moves (opening s actors)) (opening s actors)) (run moves (opening s actors)) v f
      (run_gains (actors - 1) moves (opening s actors) (record { actors = actors; moves = []; sized = sized; led = refl }) e (ap (λ k. k - 1) (length-replicate actors idle))) in
      omega (arith, g, sum_by-replicate (account.has s (first_words s.size)) actors idle, ap (λ k. actors * k) (account.none s), pairs-replicate account.cost idle actors account.no_cost))
