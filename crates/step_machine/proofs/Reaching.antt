-- What a world has at the start, and each move of an actor keeps, each world that is reached has.
-- Each of the four cases is given the world before, that it is reached, and which queue it runs.
use Rattle.std.proofs.Common.{◌≡◌, ℕ, ◌+◌, true, Some, None, IfSome, List, [], ◌∷◌, refl, ◌∙◌}
use Rattle.step_machine.specs.Below.{Kind, Line, Op, Setup, Actor, Outcome, gives_up, is_call, begun}
use Rattle.step_machine.specs.Machine.{World, opening, actor_of, rested, with_actor, after_outcome, stepped, may_rest, AnyMove, next_any, run, IsSized, IsReached}
use Rattle.step_machine.proofs.AnyMoves.{after_move}
use Rattle.step_machine.proofs.Reached.{if_some, some_of, setup-next_any, run_on_if, reached_next}

-- each move of an actor keeps a fact of the worlds of a queue
pub record EachMoveKeeps (kind : Kind) (P : World → Type 0) : Type 0 where
  pub step : (w : World) (me : ℕ) (a : Actor) (l : Line) → IsReached w → w.setup.kind ≡ kind → actor_of w me ≡ Some a → a.line ≡ Some l → P w → P (stepped w me a l)
  pub gave_up : (w : World) (me : ℕ) (a : Actor) (l : Line) (o : Outcome) → IsReached w → w.setup.kind ≡ kind → actor_of w me ≡ Some a → a.line ≡ Some l
      → gives_up (w.steps + 1) a l ≡ Some o → P w → P (after_outcome w me a w.shared o)
  pub began : (w : World) (me : ℕ) (op : Op) (a : Actor) → IsReached w → w.setup.kind ≡ kind → actor_of w me ≡ Some a → a.line ≡ None → is_call op ≡ true → P w
      → P (with_actor w me (begun w.setup.kind me op a))
  pub at_rest : (w : World) (me : ℕ) (a : Actor) (l : Line) → IsReached w → w.setup.kind ≡ kind → actor_of w me ≡ Some a → a.line ≡ Some l → may_rest l ≡ true → P w → P (with_actor w me (rested a))

module _ (kind : Kind) (P : World → Type 0) (keeps : EachMoveKeeps kind P) where
  -- the fact, of a world that is reached
  record Has (w : World) : Type 0 where
    reached : IsReached w
    runs : w.setup.kind ≡ kind
    has : P w

  next_any_keeps : (w : World) (m : AnyMove) → Has w → IfSome (next_any w m) P
  next_any_keeps w m h =
      after_move w (λ m v. P v)
      (record {
        began = λ me op a is e call. keeps.began w me op a h.reached h.runs is e call h.has;
        step = λ me a l is at. keeps.step w me a l h.reached h.runs is at h.has;
        gave_up = λ me a l o is at given. keeps.gave_up w me a l o h.reached h.runs is at given h.has;
        at_rest = λ me a l is at may. keeps.at_rest w me a l h.reached h.runs is at may h.has;
      })
      m

  next_any_has : (w : World) (m : AnyMove) → Has w → IfSome (next_any w m) Has
  next_any_has w m h =
      if_some Has (next_any w m)
      (λ v e. record {
        reached = reached_next w v m h.reached e;
        runs = kind_kept v e;
        has = some_of P (next_any w m) v e (next_any_keeps w m h);
      })
    where
      kind_kept : (v : World) → next_any w m ≡ Some v → v.setup.kind ≡ kind
      kind_kept v e = ap_kind (setup-next_any w v m e) ∙ h.runs
        where
          ap_kind : v.setup ≡ w.setup → v.setup.kind ≡ w.setup.kind
          ap_kind f = λ i. (f i).kind

  run_has : (ms : List AnyMove) (w : World) → Has w → IfSome (run ms w) Has
  run_has [] w h = h
  run_has (m ∷ ms) w h = run_on_if Has (run ms) (next_any w m) (next_any_has w m h) (run_has ms)

  pub each_reached : ((s : Setup) (actors : ℕ) → IsSized s actors → s.kind ≡ kind → P (opening s actors)) → (w : World) → IsReached w → w.setup.kind ≡ kind → P w
  each_reached starts w r e =
      (some_of Has (run r.moves (opening w.setup r.actors)) w r.led
      (run_has r.moves (opening w.setup r.actors)
      (record {
        reached = record { actors = r.actors; moves = []; sized = r.sized; led = refl };
        runs = e;
        has = starts w.setup r.actors r.sized e;
      }))).has
