-- What the calls of a queue on an arena answer, whatever its algorithm.
use Rattle.std.specs.Prelude.{◌≡◌, ℕ, ◌+◌, ◌≤◌, ◌<◌, ◌⊎◌, true, false, Option, Some, None, IfSome, IsSomeAnd, Result, Ok, MatchResult, OnOk, IfOk, IfErr}
use Rattle.std.specs.Option.{is_some}
use Rattle.line_table.specs.declared.lines.Kind.{Kind}
use Rattle.history.specs.declared.operations.Entry.TheVariants.{Push, Shut}
use Rattle.history.specs.declared.operations.Taken.{Taken}
use Rattle.history.specs.declared.refusals.Refusal.{Refusal}
use Rattle.history.specs.declared.refusals.Refusal.TheVariants.{WornOut, Busy, Closed}
use Rattle.history.specs.declared.refusals.WornWord.{WornWord}
use Rattle.history.specs.declared.refusals.WornWord.TheVariants.{Free as OfFree, Tail as OfTail}
use Rattle.history.specs.Answers.{Pushed, PopAnswers, PushRefused, PopRefused, StopsPush, StopsPop}
use Rattle.node_arena.specs.Machine.{Held}
use Rattle.node_arena.specs.Arenas.{Arena}
use Rattle.node_arena.specs.declared.seats.Seat.{Seat}
use Rattle.node_arena.specs.Seats.{IsReady, KeepsName, KeepsSlots, view, known_of, pocket_of, keeps_of}
use Rattle.node_arena.specs.Loads.{TakesSlot, GivesSlot}
use Rattle.node_arena.specs.Turns.{failed_turns}
use Rattle.node_arena.specs.Paths.{IsLater, Acts, StopsAPush, StopsAPop, EndsFailed, MetCause, added}
use Rattle.free_list.specs.Takes.{TakeRefused}

-- an arena of this kind of queue
abbrev pub IsOfKind : Arena → Kind → Type 0
IsOfKind r kind = r.plan.setup.kind ≡ kind

-- a call pushed a body
abbrev pub DidPush : {T : Type 0} (s t : Seat T) → (body : ℕ) → Type 0
DidPush s t body = Acts (view s) (view t) (Push (view s).number body) (added s t)

-- a node is in a seat's pocket
abbrev pub KeepsNode : {T : Type 0} → Seat T → (node : ℕ) → Type 0
KeepsNode t node = IsSomeAnd (pocket_of t) (λ h. h.node ≡ node)

-- why a push that has its node is refused, where so many turns failed before: all turns failed, the last one at the last
-- step, and the node is in the pocket; or a word was found worn out at the last step, and the pocket is as `worn` says of
-- that word, with no other node; or the queue was found shut at the last step, and the node is in the pocket
abbrev pub PushWithNodeCaused : {T : Type 0} (worn : WornWord → Option Held → Type 0) → Arena → Seat T → Seat T → (node spent turns : ℕ) → Refusal → Type 0
PushWithNodeCaused worn r s t node spent turns Busy = (spent + failed_turns (added s t) ≡ turns) × EndsFailed s t × KeepsNode t node
PushWithNodeCaused worn r s t node spent turns (WornOut word) =
    MetCause r s t (WornOut word) × worn word (pocket_of t) × IfSome (pocket_of t) (λ h. h.node ≡ node)
PushWithNodeCaused worn r s t node spent turns Closed = MetCause r s t Closed × KeepsNode t node
PushWithNodeCaused worn r s t node spent turns _ = ⊥

-- the push of a body gave its slot, and a push that was refused left the slots that are out with its seat as they were
abbrev pub PushMoves : {T : Type 0} → Arena → (body : ℕ) → Seat T → Seat T → Result (Unit {0}) Refusal → Type 0
PushMoves r body s t out = MatchResult out (λ _. GivesSlot r body s t) (λ _. KeepsSlots s t)

-- what a push answers that has its node, where so many turns failed before, and beside that what became of slots
pub record PushesWithNodeAnd {T : Type 0} (Slots : Type 0) (worn : WornWord → Option Held → Type 0) (r : Arena) (s t : Seat T)
    (node body spent turns : ℕ) (out : Result (Unit {0}) Refusal) : Type 0 where
  pub ready : IsReady r t
  pub same : KeepsName s t
  pub slots : Slots
  pub pushed : OnOk out (DidPush s t body × (pocket_of t ≡ None) × (spent + failed_turns (added s t) < turns))
  pub refused : IfErr out (λ refusal. StopsAPush s t refusal × PushWithNodeCaused worn r s t node spent turns refusal)

-- what a push answers that has its node, where so many turns failed before
abbrev pub PushesWithNode : {T : Type 0} (worn : WornWord → Option Held → Type 0) → Arena → (s t : Seat T) → (node body spent turns : ℕ) → Result (Unit {0}) Refusal → Type 0
PushesWithNode worn r s t node body spent turns out = PushesWithNodeAnd (PushMoves r body s t out) worn r s t node body spent turns out

-- the cause of each refusal of a push is that of a take, or of the push of the node that it has: a word worn out, or the queue
-- shut
abbrev pub PushCaused : {T : Type 0} (worn : WornWord → Option Held → Type 0) → Arena → Seat T → Seat T → (turns : ℕ) → Refusal → Type 0
PushCaused worn r s t turns (WornOut OfFree) = TakeRefused r s t turns (WornOut OfFree)
PushCaused worn r s t turns (WornOut word) = MetCause r s t (WornOut word) × worn word (pocket_of t)
PushCaused worn r s t turns Closed = MetCause r s t Closed
PushCaused worn r s t turns refusal = TakeRefused r s t turns refusal

-- fewer turns than allowed failed
abbrev pub FailsFewer : {T : Type 0} → Seat T → Seat T → (turns : ℕ) → Type 0
FailsFewer s t turns = failed_turns (added s t) < turns

-- what a push answers
pub record AnswersPush {T : Type 0} (worn : WornWord → Option Held → Type 0) (r : Arena) (s t : Seat T) (body turns : ℕ) (out : Result (Unit {0}) Refusal) : Type 0 where
  pub ready : IsReady r t
  pub number : (known_of t).number ≡ (known_of s).number
  pub later : IsLater s t
  pub keeps : keeps_of t ≡ keeps_of s
  pub pushed : OnOk out (Pushed (known_of s) body (known_of t))
  pub few : OnOk out (FailsFewer s t turns)
  pub pocket : OnOk out (pocket_of t ≡ None)
  pub refused : IfErr out (λ refusal. PushRefused (known_of s) refusal (known_of t))
  pub refusal : IfErr out StopsPush
  pub caused : IfErr out (PushCaused worn r s t turns)

-- why a pop with an empty pocket is refused, where so many turns failed before: all turns failed, the last one at the last
-- step, or a word of which `worn` says so was found worn out at the last step
abbrev pub PopWithoutNodeCaused : {T : Type 0} (worn : WornWord → Type 0) → Arena → Seat T → Seat T → (spent turns : ℕ) → Refusal → Type 0
PopWithoutNodeCaused worn r s t spent turns Busy = (spent + failed_turns (added s t) ≡ turns) × EndsFailed s t
PopWithoutNodeCaused worn r s t spent turns (WornOut word) = MetCause r s t (WornOut word) × worn word
PopWithoutNodeCaused worn r s t spent turns Closed = MetCause r s t Closed
PopWithoutNodeCaused worn r s t spent turns _ = ⊥

-- of a call at most so many turns failed, with those of the give backs before and after its pop
abbrev pub FailsFew : {T : Type 0} → Seat T → Seat T → (turns : ℕ) → Type 0
FailsFew s t turns = failed_turns (added s t) ≤ turns

-- after a pop a seat's pocket holds a node exactly where a value was taken
abbrev pub KeepsItsNode : {T : Type 0} → Seat T → Option Taken → Type 0
KeepsItsNode t taken = is_some (pocket_of t) ≡ is_some taken

-- a seat's pocket is empty, or each turn of its call failed, where so many failed before
abbrev pub EmptiesPocket : {T : Type 0} → Seat T → Seat T → (spent turns : ℕ) → Type 0
EmptiesPocket s t spent turns = (pocket_of t ≡ None) ⊎ (spent + failed_turns (added s t) ≡ turns)

-- the slot of the value that a pop took came out with the seat, and else the slots that are out with it are those that were
abbrev pub PopMoves : {T : Type 0} → Arena → Seat T → Seat T → Result (Option Taken) Refusal → Type 0
PopMoves r s t (Ok (Some v)) = TakesSlot r v s t
PopMoves r s t out = KeepsSlots s t

-- what a pop answers that has an empty pocket, where so many turns failed before
pub record PopsWithoutNode {T : Type 0} (worn : WornWord → Type 0) (r : Arena) (s t : Seat T) (spent turns : ℕ) (out : Result (Option Taken) Refusal) : Type 0 where
  pub ready : IsReady r t
  pub same : KeepsName s t
  pub slots : PopMoves r s t out
  pub later : IsLater s t
  pub answer : IfOk out (λ o. PopAnswers (known_of s) o (known_of t))
  pub few : OnOk out (spent + failed_turns (added s t) ≤ turns)
  pub freed : keeps_of s ≡ false → OnOk out (EmptiesPocket s t spent turns)
  pub kept : keeps_of s ≡ true → IfOk out (KeepsItsNode t)
  pub refused : IfErr out (λ refusal. StopsAPop s t refusal × PopWithoutNodeCaused worn r s t spent turns refusal)

-- after a pop its seat's pocket is empty, or each of so many turns failed
abbrev pub FreesItsNode : {T : Type 0} → Seat T → Seat T → (turns : ℕ) → Type 0
FreesItsNode s t turns = (pocket_of t ≡ None) ⊎ (failed_turns (added s t) ≡ turns)

-- why a pop is refused
abbrev pub PopCaused : {T : Type 0} (worn : WornWord → Type 0) → Arena → Seat T → Seat T → (turns : ℕ) → Refusal → Type 0
PopCaused worn r s t turns refusal = PopWithoutNodeCaused worn r s t 0 turns refusal

-- what a pop answers
pub record AnswersPop {T : Type 0} (worn : WornWord → Type 0) (r : Arena) (s t : Seat T) (turns : ℕ) (out : Result (Option Taken) Refusal) : Type 0 where
  pub ready : IsReady r t
  pub number : (known_of t).number ≡ (known_of s).number
  pub later : IsLater s t
  pub keeps : keeps_of t ≡ keeps_of s
  pub answer : IfOk out (λ o. PopAnswers (known_of s) o (known_of t))
  pub few : OnOk out (FailsFew s t turns)
  pub freed : keeps_of s ≡ false → OnOk out (FreesItsNode s t turns)
  pub kept : keeps_of s ≡ true → IfOk out (KeepsItsNode t)
  pub refused : IfErr out (λ refusal. PopRefused (known_of s) refusal (known_of t))
  pub refusal : IfErr out StopsPop
  pub caused : IfErr out (PopCaused worn r s t turns)

-- a call shut the queue
abbrev pub Shuts : {T : Type 0} (s t : Seat T) → Type 0
Shuts s t = Acts (view s) (view t) (Shut (view s).number) (added s t)

-- why a shut is refused: all turns failed, the last one at the last step; or Tail was found worn out at the last step, where
-- `worn` says that this stops one; or the queue was found shut at the last step
abbrev pub ShutCaused : {T : Type 0} (worn : Type 0) → Arena → Seat T → Seat T → (turns : ℕ) → Refusal → Type 0
ShutCaused worn r s t turns Busy = (failed_turns (added s t) ≡ turns) × EndsFailed s t
ShutCaused worn r s t turns (WornOut OfTail) = MetCause r s t (WornOut OfTail) × worn
ShutCaused worn r s t turns Closed = MetCause r s t Closed
ShutCaused worn r s t turns _ = ⊥

-- what a shut answers: what is in the pocket stays there
pub record AnswersShut {T : Type 0} (worn : Type 0) (r : Arena) (s t : Seat T) (turns : ℕ) (out : Result (Unit {0}) Refusal) : Type 0 where
  pub ready : IsReady r t
  pub same : KeepsName s t
  pub slots : KeepsSlots s t
  pub pocket : pocket_of t ≡ pocket_of s
  pub shut : OnOk out (Shuts s t)
  pub few : OnOk out (FailsFewer s t turns)
  pub refused : IfErr out (λ refusal. StopsAPush s t refusal × ShutCaused worn r s t turns refusal)
