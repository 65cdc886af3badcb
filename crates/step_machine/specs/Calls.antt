-- What the calls of a world answer, and why each is refused.
use Rattle.std.specs.Prelude.{◌≡◌, ℕ, ◌+◌, ◌-◌, ◌^◌, ◌<◌, ◌≤◌, ◌⊎◌, Option, Some, None, IsSome, IsNone, IsSomeAnd}
use Rattle.step_machine.specs.Below.{reserved_node, count_bits, actor_bits, Kind, Line, Refusal, Memory, BadSize, IdleActor, ActorBusy, NotHere, NoSuchActor}
use Rattle.step_machine.specs.Below.{Reply, Setup, Actor, Outcome, found, action, outcome, gives_up}
use Rattle.step_machine.specs.declared.actors.Move.{Move}
use Rattle.step_machine.specs.declared.actors.Move.TheVariants.{Begin, Step, Give}
use Rattle.step_machine.specs.declared.actors.Stepped.{Stepped}
use Rattle.step_machine.specs.declared.actors.Stepped.TheVariants.{Began, Went, Ended}
use Rattle.step_machine.specs.Machine.{World, IsSized, actor_of}

-- some size of a machine is out of its range
abbrev pub IsUnsized : Setup → (actors : ℕ) → Type 0
IsUnsized s actors =
    ((s.size < 2) ⊎ (reserved_node s.bits ≤ s.size)) ⊎ ((s.limit < 1) ⊎ (2 ^ count_bits s.bits ≤ s.limit)) ⊎ ((actors < 1) ⊎ (2 ^ actor_bits ≤ actors))

-- the setup of a machine, by its parts
abbrev pub setup_from : (bits : ℕ) → Kind → (nodes limit : ℕ) → Setup
setup_from bits kind nodes limit = record { kind = kind; bits = bits; size = nodes; limit = limit }

-- a new world is refused for this cause: a size is out of its range, or memory was refused where all are in theirs
abbrev pub NewRefused : Setup → (actors : ℕ) → Refusal → Type 0
NewRefused s actors BadSize = IsUnsized s actors
NewRefused s actors Memory = IsSized s actors
NewRefused s actors _ = ⊥

-- an actor is there and has no call
abbrev pub IsIdle : World → (me : ℕ) → Type 0
IsIdle w me = IsSomeAnd (actor_of w me) (λ a. a.line ≡ None)

-- an actor is there and has a call
abbrev pub IsBusy : World → (me : ℕ) → Type 0
IsBusy w me = IsSomeAnd (actor_of w me) (λ a. IsSome a.line)

-- the outcome of giving up before a line; none where the actor has no call
abbrev pub giving_up_at : World → Actor → Option Line → Option Outcome
giving_up_at w a None = None
giving_up_at w a (Some l) = gives_up (w.steps + 1) a l

-- the outcome of giving up, for an actor that is there and has a call
abbrev pub giving_up : World → Option Actor → Option Outcome
giving_up w None = None
giving_up w (Some a) = giving_up_at w a a.line

-- all step numbers are used
abbrev pub IsSpent : World → Type 0
IsSpent w = w.steps ≡ 2 ^ 64 - 1

-- a begin is refused for this cause: the actor isn't there, has a call, or memory was refused to an actor that may begin
abbrev pub BeginRefused : World → (me : ℕ) → Refusal → Type 0
BeginRefused w me NoSuchActor = actor_of w me ≡ None
BeginRefused w me ActorBusy = IsBusy w me
BeginRefused w me Memory = IsIdle w me
BeginRefused w me _ = ⊥

-- a step is refused for this cause: the actor isn't there, has no call, or all step numbers are used
abbrev pub StepRefused : World → (me : ℕ) → Refusal → Type 0
StepRefused w me NoSuchActor = actor_of w me ≡ None
StepRefused w me IdleActor = IsIdle w me
StepRefused w me BadSize = IsBusy w me × IsSpent w
StepRefused w me _ = ⊥

-- giving up is refused for this cause: the actor isn't there, has no call, is at no start of a turn, or all step numbers
-- are used
abbrev pub GiveRefused : World → (me : ℕ) → Refusal → Type 0
GiveRefused w me NoSuchActor = actor_of w me ≡ None
GiveRefused w me IdleActor = IsIdle w me
GiveRefused w me NotHere = IsBusy w me × IsNone (giving_up w (actor_of w me))
GiveRefused w me BadSize = IsSome (giving_up w (actor_of w me)) × IsSpent w
GiveRefused w me _ = ⊥

-- a move is refused for this cause
abbrev pub MoveRefused : World → Move → Refusal → Type 0
MoveRefused w (Begin me op) refusal = BeginRefused w me refusal
MoveRefused w (Step me) refusal = StepRefused w me refusal
MoveRefused w (Give me) refusal = GiveRefused w me refusal

-- what a step at a line with this reply is told as
abbrev pub stepped_at : Line → Option Reply → Stepped
stepped_at l None = Went l
stepped_at l (Some reply) = Ended l reply

-- the line before which an actor stands, where it is there and has a call
abbrev pub line_of : Option Actor → Option Line
line_of None = None
line_of (Some a) = a.line

-- what a step of an actor is told as, where it can be taken
abbrev pub step_answer : World → (me : ℕ) → Option Actor → Option Stepped
step_answer w me None = None
step_answer w me (Some a) = answer_at w me a a.line
  where
    answer_at : World → ℕ → Actor → Option Line → Option Stepped
    answer_at w me a None = None
    answer_at w me a (Some l) =
        Some (stepped_at l (outcome w.setup (w.steps + 1) me a l (found (action w.setup me a l) w.shared)).reply)

-- the reply of an outcome, where there is one
abbrev pub reply_of : Option Outcome → Option Reply
reply_of None = None
reply_of (Some o) = o.reply

-- what giving up is told as, where the actor stands at a line: the call ended there with its reply
abbrev pub ended_at : Option Line → Option Reply → Option Stepped
ended_at None reply = None
ended_at (Some l) None = None
ended_at (Some l) (Some reply) = Some (Ended l reply)

-- what a move is told as, where it can be made
abbrev pub move_answer : World → Move → Option Stepped
move_answer w (Begin me op) = Some Began
move_answer w (Step me) = step_answer w me (actor_of w me)
move_answer w (Give me) = ended_at (line_of (actor_of w me)) (reply_of (giving_up w (actor_of w me)))
