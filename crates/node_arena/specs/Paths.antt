-- What a call adds to what its seat knows.
use Rattle.std.specs.Prelude.{◌≡◌, ℕ, List, [], ◌∷◌, ◌++◌, length, drop, Some, IsSomeAnd}
use Rattle.line_table.specs.declared.lines.Line.{Line}
use Rattle.history.specs.declared.operations.Entry.{Entry}
use Rattle.history.specs.declared.operations.Reply.TheVariants.{Refused}
use Rattle.history.specs.declared.refusals.Refusal.{Refusal}
use Rattle.history.specs.declared.refusals.Refusal.TheVariants.{WornOut, Closed}
use Rattle.history.specs.declared.refusals.WornWord.TheVariants.{Next as OfNext}
use Rattle.history.specs.Answers.{Adds, FoundShut, FoundShutEmpty}
use Rattle.line_steps.specs.declared.actors.Setup.{Setup}
use Rattle.line_steps.specs.Actors.{Actor}
use Rattle.line_steps.specs.Memory.{node_at}
use mathlib.Core.List.{IsPrefix}
use Rattle.step_machine.specs.declared.actors.Move.TheVariants.{Step}
use Rattle.step_machine.specs.Machine.{World, actor_of, AnyMove, made}
use Rattle.step_machine.specs.Places.{IsQueued, IsFree, held, in_hand}
use Rattle.step_machine.specs.EachQueue.{HasCause}
use Rattle.node_arena.specs.Arenas.{Arena}
use Rattle.node_arena.specs.declared.seats.Seat.{Seat}
use Rattle.node_arena.specs.Traces.{Event, Traced, IsTraced, event_at, outcome_at}
use Rattle.node_arena.specs.Knowledge.{SeatView, known_by}
use Rattle.node_arena.specs.Rule.{IsRunTo}
use Rattle.node_arena.specs.Seats.{view}
use Rattle.node_arena.specs.Turns.{failed_at}

-- a seat went through these lines: its path has them more, its own entries and its notes are as they were, and what it has
-- seen, and what it knows of the run, is only longer
pub record ExtendsPath (v v' : SeatView) (added : List Event) : Type 0 where
  pub run : IsPrefix v.ran v'.ran
  pub number : v'.number ≡ v.number
  pub path : v'.path ≡ v.path ++ added
  pub mine : v'.mine ≡ v.mine
  pub notes : v'.notes ≡ v.notes
  pub rest : List Entry
  pub seen : v'.seen ≡ v.seen ++ rest

-- a seat went through these lines, and what it has seen is as it was
pub record Passes (v v' : SeatView) (added : List Event) : Type 0 where
  pub walks : ExtendsPath v v' added
  pub same : v'.seen ≡ v.seen

-- a seat went through these lines, and its call had its effect at one of them: what the seat has seen goes on and ends with
-- this entry, which is one more of its own
pub record Acts (v v' : SeatView) (e : Entry) (lines : List Event) : Type 0 where
  pub run : IsPrefix v.ran v'.ran
  pub path : v'.path ≡ v.path ++ lines
  pub adds : Adds (known_by v) e (known_by v')

-- a seat went through these lines, and its call found the queue shut, which is noted
pub record FindsShut (v v' : SeatView) (lines : List Event) : Type 0 where
  pub run : IsPrefix v.ran v'.ran
  pub path : v'.path ≡ v.path ++ lines
  pub found : FoundShut (known_by v) (known_by v')

-- the same of a pop, which found the queue shut and empty
pub record FindsShutEmpty (v v' : SeatView) (lines : List Event) : Type 0 where
  pub run : IsPrefix v.ran v'.ran
  pub path : v'.path ≡ v.path ++ lines
  pub found : FoundShutEmpty (known_by v) (known_by v')

-- what a call added to its seat's path
abbrev pub added : {T : Type 0} → Seat T → Seat T → List Event
added s t = drop (length (view s).path) (view t).path

-- a seat is another one after a call: its path has what was added, and what it knows of the run is only longer
pub record IsLater {T : Type 0} (s t : Seat T) : Type 0 where
  pub path : (view t).path ≡ (view s).path ++ added s t
  pub run : IsPrefix (view s).ran (view t).ran

-- a call had no effect: its seat's path has the lines added, its own entries and its notes are as they were, and what it
-- has seen is only longer
abbrev pub HadNoEffect : {T : Type 0} → Seat T → Seat T → Type 0
HadNoEffect s t = ExtendsPath (view s) (view t) (added s t)

-- a push or a shut was refused so: it found the queue shut, or had no effect
abbrev pub StopsAPush : {T : Type 0} → Seat T → Seat T → Refusal → Type 0
StopsAPush s t Closed = FindsShut (view s) (view t) (added s t)
StopsAPush s t refusal = HadNoEffect s t

-- a pop was refused so: it found the queue shut and empty, or had no effect
abbrev pub StopsAPop : {T : Type 0} → Seat T → Seat T → Refusal → Type 0
StopsAPop s t Closed = FindsShutEmpty (view s) (view t) (added s t)
StopsAPop s t refusal = HadNoEffect s t

-- what a seat has seen is as it was
abbrev pub SeesNoMore : {T : Type 0} → Seat T → Seat T → Type 0
SeesNoMore s t = (view t).seen ≡ (view s).seen

-- the last of some lines was a failed turn
pub record FailedAt (es : List Event) : Type 0 where
  pub before : List Event
  pub last : Event
  pub path : es ≡ before ++ last ∷ []
  pub failed : failed_at last.line last.to ≡ 1

-- a call's last step was a failed turn
abbrev pub EndsFailed : {T : Type 0} → Seat T → Seat T → Type 0
EndsFailed s t = FailedAt (added s t)

-- a node is in this seat's hand, held by nobody else, and neither in the queue nor free
pub record IsSole (w : World) (me node : ℕ) : Type 0 where
  pub holder : IsSomeAnd (actor_of w me) (λ a. in_hand node a ≡ 1)
  pub once : held node w.actors ≡ 1
  pub not_queued : ¬ IsQueued w node
  pub not_free : ¬ IsFree w node

-- the moment after a call's last step: the world that the seat's run leads to, in which its actor and path are as it knows
-- them, and of which this holds
pub record NowHolds {T : Type 0} (r : Arena) (t : Seat T) (P : World → Type 0) : Type 0 where
  pub now : Traced
  pub run : IsRunTo r.plan (view t).ran now
  pub reached : IsTraced now
  pub setup : now.world.setup ≡ r.plan.setup
  pub peopled : length now.world.actors ≡ length r.plan.roles
  pub actor : actor_of now.world (view t).number ≡ Some (view t).actor
  pub path : now.paths (view t).number ≡ (view t).path
  pub holds : P now.world

-- the last of some lines was a step of the seat's actor, and the last move that the seat then knows of the run: it was made in the
-- world that the moves before it lead to, which begin with what the seat knew before these lines; the seat's path there has the
-- other lines, the last one tells what that step made of that world, and this held of the world, the actor and the line
pub record EndedAt {T : Type 0} (r : Arena) (s : Seat T) (ran : List AnyMove) (es : List Event) (P : Traced → Actor → Line → Type 0) : Type 0 where
  pub was : Traced
  pub moves : List AnyMove
  pub since : IsPrefix (view s).ran moves
  pub run : IsRunTo r.plan moves was
  pub last : ran ≡ moves ++ made (Step (view s).number) ∷ []
  pub reached : IsTraced was
  pub setup : was.world.setup ≡ r.plan.setup
  pub peopled : length was.world.actors ≡ length r.plan.roles
  pub before : List Event
  pub actor : Actor
  pub line : Line
  pub stands : actor_of was.world (view s).number ≡ Some actor
  pub at : actor.line ≡ Some line
  pub path : es ≡ before ++ event_at r.plan.setup was (view s).number actor line ∷ []
  pub within : was.paths (view s).number ≡ (view s).path ++ before
  pub held : P was actor line

-- at a call's last step this held before it
abbrev pub LastHeld : {T : Type 0} → Arena → Seat T → Seat T → (Traced → Actor → Line → Type 0) → Type 0
LastHeld r s t P = EndedAt r s (view t).ran (added s t) P

-- a world has the cause for an actor's step to refuse; where a `next` is worn out, it is that of the actor's own node
abbrev pub HasOwnCause : World → (me : ℕ) → Refusal → Type 0
HasOwnCause w me (WornOut OfNext) = IsSomeAnd (actor_of w me) (λ a. (node_at w.shared a.node).next.count ≡ w.setup.limit)
HasOwnCause w me refusal = HasCause w refusal

-- an actor's step at a line is refused so: its reply says that, and the world before it has the cause
abbrev pub IsRefusedAt : Setup → (me : ℕ) → Refusal → Traced → Actor → Line → Type 0
IsRefusedAt z me refusal t a l = ((outcome_at z t me a l).reply ≡ Some (Refused refusal)) × HasOwnCause t.world me refusal

-- a call's last step was refused so, and met the cause
abbrev pub MetCause : {T : Type 0} → Arena → Seat T → Seat T → Refusal → Type 0
MetCause r s t refusal = LastHeld r s t (IsRefusedAt r.plan.setup (view s).number refusal)
