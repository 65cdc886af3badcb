-- Moves of which some were made and told.
use Rattle.std.proofs.Common.{◌≡◌, ℕ, ◌+◌, ◌-◌, ◌<◌, List, [], ◌∷◌, ◌++◌, length, drop, get_or, Option, Some, refl, sym, ap, subst, ◌∙◌, append_assoc, inl, inr, Result, Ok, Err}
use Rattle.std.specs.Prelude.{IsSome, replicate}
use Rattle.std.proofs.lemmas.List.{append-nil}
use Rattle.history.specs.declared.refusals.Refusal.{Refusal}
use Rattle.history.specs.declared.refusals.Refusal.TheVariants.{Memory, Write}
use Rattle.schedule_text.specs.declared.schedules.Event.{Event}
use Rattle.schedule_text.specs.Schedules.{moves_of, moves_of_event}
use Rattle.step_machine.specs.declared.actors.Move.{Move}
use Rattle.step_machine.specs.Machine.{World, next}
use Rattle.text_io.specs.Blocks.{Sends, TakesPrefix, GivesUp, Puts, Writes}
use Rattle.text_io.specs.Devices.{SinkState}
use Rattle.text_io.proofs.Sends.{Sends-none, Sends-trans, Sends-all, TakesPrefix-longer, TakesPrefix-trans}
use Rattle.run_engine.specs.Runs.{world_after}
use Rattle.run_engine.proofs.Moves.{world_after_both, world_after_one}
use Rattle.run_engine.specs.Pieces.{moves_text}
use Rattle.run_engine.specs.Answers.{StopsTelling, Tells}
use Rattle.run_engine.proofs.Texts.{moves_text-append, first_moves, later_moves, moves_of-drop, replicate-first}

-- of these moves from a world on, those were made and told that led to another, and the others are left
pub record HasTold (each : World → World → Move → List ℕ) (old now : SinkState) (text : List ℕ) (start : World) (moves : List Move) (w : World) (held : List ℕ) (rest : List Move) : Type 0 where
  pub before : List Move
  pub split : moves ≡ before ++ rest
  pub led : world_after before start ≡ Some w
  pub sends : Sends old.contents now.contents (text ++ moves_text each before start) held
  pub quiet : now.failures ≡ old.failures

module _ (each : World → World → Move → List ℕ) (a b : SinkState) (text : List ℕ) (start : World) (moves : List Move) where
  -- what is left can be made, where all can
  pub HasTold-can : (w : World) (held : List ℕ) (rest : List Move) → HasTold each a b text start moves w held rest → IsSome (world_after moves start) → IsSome (world_after rest w)
  HasTold-can w held rest t can =
      later_moves t.before rest start w t.led (subst (λ (ms : List Move). IsSome (world_after ms start)) t.split can)

  -- where nothing is left, all were made
  pub HasTold-led : (w : World) (held : List ℕ) (rest : List Move) → HasTold each a b text start moves w held rest → rest ≡ [] → world_after moves start ≡ Some w
  HasTold-led w held rest t none =
      ap (λ (ms : List Move). world_after ms start) (t.split ∙ ap (λ (ms : List Move). t.before ++ ms) none ∙ append-nil t.before) ∙ t.led

  -- some more were made and told
  pub HasTold-more : (c : SinkState) (w v : World) (held after : List ℕ) (left chunk rest : List Move) → HasTold each a b text start moves w held left
      → left ≡ chunk ++ rest → world_after chunk w ≡ Some v
      → Sends b.contents c.contents (held ++ moves_text each chunk w) after → c.failures ≡ b.failures → HasTold each a c text start moves v after rest
  HasTold-more c w v held after left chunk rest t parts led sends quiet =
      let more = Sends-trans a.contents b.contents c.contents (text ++ moves_text each t.before start) held (moves_text each chunk w) after t.sends sends in
      let whole : (text ++ moves_text each t.before start) ++ moves_text each chunk w ≡ text ++ moves_text each (t.before ++ chunk) start =
      append_assoc text (moves_text each t.before start) (moves_text each chunk w) ∙ ap (λ (l : List ℕ). text ++ l) (sym (moves_text-append each t.before chunk start w t.led)) in
      record {
        before = t.before ++ chunk;
        split = t.split ∙ ap (λ (l : List Move). t.before ++ l) parts ∙ sym (append_assoc t.before chunk rest);
        led = world_after_both t.before chunk start w v t.led led;
        sends = subst (λ (l : List ℕ). Sends a.contents c.contents l after) whole more;
        quiet = quiet ∙ t.quiet;
      }

  -- where the telling of some stopped, a prefix of the whole was told
  pub HasTold-stopped : (c : SinkState) (w v : World) (held : List ℕ) (left chunk rest : List Move) → HasTold each a b text start moves w held left
      → left ≡ chunk ++ rest → world_after chunk w ≡ Some v
      → TakesPrefix b.contents c.contents (held ++ moves_text each chunk w) → TakesPrefix a.contents c.contents (text ++ moves_text each moves start)
  HasTold-stopped c w v held left chunk rest t parts led begun =
      let some = TakesPrefix-trans a.contents b.contents c.contents (text ++ moves_text each t.before start) held (moves_text each chunk w) t.sends begun in
      let longer = TakesPrefix-longer a.contents c.contents ((text ++ moves_text each t.before start) ++ moves_text each chunk w) (moves_text each rest v) some in
      let here : moves_text each chunk w ++ moves_text each rest v ≡ moves_text each left w = sym (ap (λ (l : List Move). moves_text each l w) parts ∙ moves_text-append each chunk rest w v led) in
      let all : moves_text each t.before start ++ moves_text each left w ≡ moves_text each moves start =
      sym (ap (λ (l : List Move). moves_text each l start) t.split ∙ moves_text-append each t.before left start w t.led) in
      let whole : ((text ++ moves_text each t.before start) ++ moves_text each chunk w) ++ moves_text each rest v ≡ text ++ moves_text each moves start =
      append_assoc (text ++ moves_text each t.before start) (moves_text each chunk w) (moves_text each rest v)
      ∙ ap (λ (l : List ℕ). (text ++ moves_text each t.before start) ++ l) here
      ∙ append_assoc text (moves_text each t.before start) (moves_text each left w)
      ∙ ap (λ (l : List ℕ). text ++ l) all in
      subst (λ (l : List ℕ). TakesPrefix a.contents c.contents l) whole longer

-- of copies of a move one more was made and told
pub told_one : (each : World → World → Move → List ℕ) (a b c : SinkState) (text : List ℕ) (start : World) (m : Move) (count i : ℕ) (w v : World) (held after : List ℕ) → i < count
    → HasTold each a b text start (replicate count m) w held (replicate (count - i) m) → next w m ≡ Some v
    → Sends b.contents c.contents (held ++ moves_text each (m ∷ []) w) after → c.failures ≡ b.failures
    → HasTold each a c text start (replicate count m) v after (replicate (count - (i + 1)) m)
told_one each a b c text start m count i w v held after few told made sends quiet =
    HasTold-more each a b text start (replicate count m) c w v held after (replicate (count - i) m) (m ∷ []) (replicate (count - (i + 1)) m) told (replicate-first count i m few)
    (world_after_one m w v made) sends quiet

-- the telling of one of them stopped
pub stopped_one : (each : World → World → Move → List ℕ) (a b c : SinkState) (text : List ℕ) (start : World) (m : Move) (count i : ℕ) (w : World) (held : List ℕ) → i < count
    → HasTold each a b text start (replicate count m) w held (replicate (count - i) m) → IsSome (world_after (replicate count m) start)
    → TakesPrefix b.contents c.contents (held ++ moves_text each (m ∷ []) w) → TakesPrefix a.contents c.contents (text ++ moves_text each (replicate count m) start)
stopped_one each a b c text start m count i w held few told can begun =
    let parts = replicate-first count i m few in
    let left = HasTold-can each a b text start (replicate count m) w held (replicate (count - i) m) told can in
    let first = first_moves (m ∷ []) (replicate (count - (i + 1)) m) w (subst (λ (ms : List Move). IsSome (world_after ms w)) parts left) in
    HasTold-stopped each a b text start (replicate count m) c w first.0 held (replicate (count - i) m) (m ∷ []) (replicate (count - (i + 1)) m) told parts first.1 begun

-- the calls before the one at which a telling stopped didn't fail
pub StopsTelling-behind : (a b c : SinkState) (refusal : Refusal) → b.failures ≡ a.failures → StopsTelling refusal b c → StopsTelling refusal a c
StopsTelling-behind a b c Write quiet (inl failed) = inl (failed ∙ ap (λ (n : ℕ). n + 1) quiet)
StopsTelling-behind a b c Write quiet (inr full) = inr (full.0 ∙ quiet, full.1)
StopsTelling-behind a b c Memory quiet same = same ∙ quiet
StopsTelling-behind a b c _ quiet none = absurd none

-- what is refused by `Write` alone stops a telling
pub StopsTelling-write : (a b : SinkState) (refusal : Refusal) → refusal ≡ Write → GivesUp a b → StopsTelling refusal a b
StopsTelling-write a b refusal is gave = rw is gave

-- what is refused by `Memory` alone stops it where it stands
pub StopsTelling-memory : (a : SinkState) (refusal : Refusal) → refusal ≡ Memory → StopsTelling refusal a a
StopsTelling-memory a refusal is = rw is refl

-- nothing of a text was taken
pub TakesPrefix-none : (a : SinkState) (text : List ℕ) → TakesPrefix a.contents a.contents text
TakesPrefix-none a text = (text, Sends-none a.contents text)

-- what is refused is told
pub Tells-refused : {A : Type 0} (a b : SinkState) (text held : List ℕ) (refusal : Refusal) → TakesPrefix a.contents b.contents text
    → StopsTelling refusal a b → Tells {A = A} a b text held (Err refusal)
Tells-refused a b text held refusal begun stops = record { ok = tt; quiet = tt; prefix = begun; cause = stops }

-- what is put is told
pub Tells-put : {A : Type 0} (a b : SinkState) (text held : List ℕ) (result : Result A Refusal) → Puts a b text held result → Tells a b text held result
Tells-put a b text held (Ok done) puts = record { ok = puts.ok; quiet = puts.quiet; prefix = tt; cause = tt }
Tells-put a b text held (Err refusal) puts = record { ok = tt; quiet = tt; prefix = puts.prefix; cause = StopsTelling-write a b refusal puts.only_write puts.cause }

-- what is written whole is told
pub Tells-written : {A : Type 0} (a b : SinkState) (text : List ℕ) (result : Result A Refusal) → Writes a b text result → Tells a b text [] result
Tells-written a b text (Ok done) writes = record { ok = Sends-all a.contents b.contents text [] refl writes.ok; quiet = writes.quiet; prefix = tt; cause = tt }
Tells-written a b text (Err refusal) writes = record { ok = tt; quiet = tt; prefix = writes.prefix; cause = StopsTelling-write a b refusal writes.only_write writes.cause }

-- the moves of one event more, which are these
module _ (each : World → World → Move → List ℕ) (a b c : SinkState) (text : List ℕ) (start : World) (events : List Event) (i : ℕ) (event : Event)
    (within : i < length events) (is : event ≡ get_or events i event) (w : World) (held : List ℕ)
    (chunk : List Move) (same : chunk ≡ moves_of_event event) (told : HasTold each a b text start (moves_of events) w held (moves_of (drop i events))) where
  parts : moves_of (drop i events) ≡ chunk ++ moves_of (drop (i + 1) events)
  parts = moves_of-drop events i event within is ∙ ap (λ (ms : List Move). ms ++ moves_of (drop (i + 1) events)) (sym same)

  first : IsSome (world_after (moves_of events) start) → (v : World) × (world_after chunk w ≡ Some v)
  first can =
      first_moves chunk (moves_of (drop (i + 1) events)) w
      (subst (λ (ms : List Move). IsSome (world_after ms w)) parts (HasTold-can each a b text start (moves_of events) w held (moves_of (drop i events)) told can))

  -- they can be made
  pub can_event : IsSome (world_after (moves_of events) start) → IsSome (world_after chunk w)
  can_event can = subst (λ (o : Option World). IsSome o) (sym (first can).1) refl

  -- they were made and told
  pub told_event : (v : World) (after : List ℕ) → world_after chunk w ≡ Some v → Sends b.contents c.contents (held ++ moves_text each chunk w) after → c.failures ≡ b.failures
      → HasTold each a c text start (moves_of events) v after (moves_of (drop (i + 1) events))
  told_event v after led sends quiet =
      HasTold-more each a b text start (moves_of events) c w v held after (moves_of (drop i events)) chunk (moves_of (drop (i + 1) events)) told parts led sends quiet

  -- their telling stopped
  pub stopped_event : IsSome (world_after (moves_of events) start) → TakesPrefix b.contents c.contents (held ++ moves_text each chunk w)
      → TakesPrefix a.contents c.contents (text ++ moves_text each (moves_of events) start)
  stopped_event can begun =
      HasTold-stopped each a b text start (moves_of events) c w (first can).0 held (moves_of (drop i events)) chunk (moves_of (drop (i + 1) events)) told parts (first can).1 begun

-- behind what was told of a text, more of it is told
pub Tells-then : {A : Type 0} (a b c : SinkState) (text held more after : List ℕ) (result : Result A Refusal) → Sends a.contents b.contents text held → b.failures ≡ a.failures
    → Tells b c (held ++ more) after result → Tells a c (text ++ more) after result
Tells-then a b c text held more after (Ok done) sends quiet tells = record {
  ok = Sends-trans a.contents b.contents c.contents text held more after sends tells.ok;
  quiet = tells.quiet ∙ quiet;
  prefix = tt;
  cause = tt;
}
Tells-then a b c text held more after (Err refusal) sends quiet tells = record {
  ok = tt;
  quiet = tt;
  prefix = TakesPrefix-trans a.contents b.contents c.contents text held more sends tells.prefix;
  cause = StopsTelling-behind a b c refusal quiet tells.cause;
}

-- where the telling of a text is refused, so is that of a longer one
pub Tells-longer : {A B : Type 0} (a b : SinkState) (text held more after : List ℕ) (refusal : Refusal) → Tells {A = A} a b text held (Err refusal)
    → Tells {A = B} a b (text ++ more) after (Err refusal)
Tells-longer a b text held more after refusal tells = record { ok = tt; quiet = tt; prefix = TakesPrefix-longer a.contents b.contents text more tells.prefix; cause = tells.cause }

-- where a telling is refused, nothing is said of what is held back
pub Tells-held : {A B : Type 0} (a b : SinkState) (text held after : List ℕ) (refusal : Refusal) → Tells {A = A} a b text held (Err refusal) → Tells {A = B} a b text after (Err refusal)
Tells-held a b text held after refusal tells = record { ok = tt; quiet = tt; prefix = tells.prefix; cause = tells.cause }
