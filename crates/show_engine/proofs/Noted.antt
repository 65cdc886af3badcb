-- Moves of which some were made, and whose lines were noted.
use Rattle.std.proofs.Common.{◌≡◌, ℕ, ◌+◌, ◌-◌, ◌<◌, List, [], ◌∷◌, ◌++◌, length, drop, get_or, Option, Some, None, refl, sym, ap, ◌∙◌, append_assoc}
use Rattle.std.specs.Prelude.{replicate}
use Rattle.std.proofs.lemmas.List.{append-nil}
use Rattle.line_table.specs.declared.lines.Line.{Line}
use Rattle.schedule_text.specs.declared.schedules.Event.{Event}
use Rattle.schedule_text.specs.Schedules.{moves_of, moves_of_event}
use Rattle.step_machine.specs.declared.actors.Move.{Move}
use Rattle.step_machine.specs.Machine.{World, next, run_on}
use Rattle.run_engine.specs.Runs.{world_after}
use Rattle.run_engine.proofs.Moves.{world_after_both, world_after_one}
use Rattle.run_engine.proofs.Texts.{moves_of-drop, replicate-first}
use Rattle.show_engine.specs.declared.frames.Frame.{Frame}
use Rattle.show_engine.specs.Legends.{lines_on, with_move, with_moves}

module _ (f : Frame) where
  -- the lines of moves, and then of more of them
  pub with_moves-append : (xs ys : List Move) (w v : World) (lines : List Line) → world_after xs w ≡ Some v → with_moves f (xs ++ ys) w lines ≡ with_moves f ys v (with_moves f xs w lines)
  with_moves-append [] ys w v lines led = let same : w ≡ v = cc in ap (λ (u : World). with_moves f ys u lines) same
  with_moves-append (x ∷ xs) ys w v lines led =
      (elim (next w x) as (λ (o : Option World). run_on (world_after xs) o ≡ Some v
      → lines_on (λ u. with_moves f (xs ++ ys) u (with_move f w u x lines)) lines o ≡ with_moves f ys v (lines_on (λ u. with_moves f xs u (with_move f w u x lines)) lines o)) [
        | None ↦ λ e. absurd cc
        | Some u ↦ λ e. with_moves-append xs ys u v (with_move f w u x lines) e
      ]) led

  -- the line of one move
  pub with_moves-one : (m : Move) (w v : World) (lines : List Line) → next w m ≡ Some v → with_moves f (m ∷ []) w lines ≡ with_move f w v m lines
  with_moves-one m w v lines made = rw made refl

-- of these moves from a world on, those were made and noted that led to another, and the others are left
pub record HasNoted (f : Frame) (start : World) (first : List Line) (moves : List Move) (w : World) (lines : List Line) (rest : List Move) : Type 0 where
  pub before : List Move
  pub split : moves ≡ before ++ rest
  pub led : world_after before start ≡ Some w
  pub noted : lines ≡ with_moves f before start first

module _ (f : Frame) (start : World) (first : List Line) (moves : List Move) where
  -- none was
  pub HasNoted-none : (rest : List Move) → moves ≡ rest → HasNoted f start first moves start first rest
  HasNoted-none rest same = record { before = []; split = same; led = refl; noted = refl }

  -- where nothing is left, all were made
  pub HasNoted-led : (w : World) (lines : List Line) (rest : List Move) → HasNoted f start first moves w lines rest → rest ≡ [] → world_after moves start ≡ Some w
  HasNoted-led w lines rest n none =
      ap (λ (ms : List Move). world_after ms start) (n.split ∙ ap (λ (ms : List Move). n.before ++ ms) none ∙ append-nil n.before) ∙ n.led

  -- and noted
  pub HasNoted-all : (w : World) (lines : List Line) (rest : List Move) → HasNoted f start first moves w lines rest → rest ≡ [] → lines ≡ with_moves f moves start first
  HasNoted-all w lines rest n none =
      n.noted ∙ sym (ap (λ (ms : List Move). with_moves f ms start first) (n.split ∙ ap (λ (ms : List Move). n.before ++ ms) none ∙ append-nil n.before))

  -- some more were
  pub HasNoted-more : (w v : World) (lines after : List Line) (left chunk rest : List Move) → HasNoted f start first moves w lines left → left ≡ chunk ++ rest → world_after chunk w ≡ Some v
      → after ≡ with_moves f chunk w lines → HasNoted f start first moves v after rest
  HasNoted-more w v lines after left chunk rest n parts led noted = record {
    before = n.before ++ chunk;
    split = n.split ∙ ap (λ (l : List Move). n.before ++ l) parts ∙ sym (append_assoc n.before chunk rest);
    led = world_after_both n.before chunk start w v n.led led;
    noted = noted ∙ ap (λ (l : List Line). with_moves f chunk w l) n.noted ∙ sym (with_moves-append f n.before chunk start w first n.led);
  }

-- of copies of a move one more was
pub noted_one : (f : Frame) (start : World) (first : List Line) (m : Move) (count i : ℕ) (w v : World) (lines after : List Line) → i < count
    → HasNoted f start first (replicate count m) w lines (replicate (count - i) m) → next w m ≡ Some v → after ≡ with_move f w v m lines
    → HasNoted f start first (replicate count m) v after (replicate (count - (i + 1)) m)
noted_one f start first m count i w v lines after few n made noted =
    HasNoted-more f start first (replicate count m) w v lines after (replicate (count - i) m) (m ∷ []) (replicate (count - (i + 1)) m) n (replicate-first count i m few) (world_after_one m w v made)
    (noted ∙ sym (with_moves-one f m w v lines made))

-- the moves of one event more were, which are these
pub noted_event : (f : Frame) (start : World) (first : List Line) (events : List Event) (i : ℕ) (event : Event) (chunk : List Move) (w v : World) (lines after : List Line) → i < length events
    → event ≡ get_or events i event → chunk ≡ moves_of_event event → HasNoted f start first (moves_of events) w lines (moves_of (drop i events)) → world_after chunk w ≡ Some v
    → after ≡ with_moves f chunk w lines → HasNoted f start first (moves_of events) v after (moves_of (drop (i + 1) events))
noted_event f start first events i event chunk w v lines after within is same n led noted =
    HasNoted-more f start first (moves_of events) w v lines after (moves_of (drop i events)) chunk (moves_of (drop (i + 1) events)) n
    (moves_of-drop events i event within is ∙ ap (λ (ms : List Move). ms ++ moves_of (drop (i + 1) events)) (sym same)) led noted
