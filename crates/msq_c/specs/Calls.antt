-- A call as C holds it, by numbers, and what a step of it answers.
use Rattle.std.specs.Prelude.{◌≡◌, ◌↔◌, ◌⊎◌, ℕ, ◌≤◌, Bool, true, false, Option, Some, None, Result, Err, IfOk, IfErr, OnOk, OnErr}
use Rattle.carriers.specs.declared.queues.Carrier.{Ghosts}
use Rattle.carriers.specs.Knowledge.{KnownOf}
use Rattle.calls.specs.declared.calls.Act.{Act}
use Rattle.calls.specs.declared.calls.Act.TheVariants as acts
use Rattle.calls.specs.declared.calls.Call.{Call}
use Rattle.calls.specs.declared.calls.Code.{Code}
use Rattle.calls.specs.declared.calls.Code.TheVariants as codes
use Rattle.calls.specs.declared.calls.Phase.{Phase}
use Rattle.calls.specs.declared.calls.Phase.TheVariants as phases
use Rattle.calls.specs.declared.calls.Task.{Task}
use Rattle.calls.specs.declared.calls.Task.TheVariants as tasks
use Rattle.calls.specs.Machine.{started, given_up}
use Rattle.shared_queue.specs.declared.at_once.Tried.{Tried}
use Rattle.shared_queue.specs.declared.at_once.Tried.TheVariants as tries
use Rattle.shared_queue.specs.declared.stepped.Asked.{Asked}
use Rattle.shared_queue.specs.declared.stepped.SteppedQueue.{SteppedQueue}
use Rattle.shared_queue.specs.Sharing.{stepped_at, share_seat}
use Rattle.shared_queue.specs.Stepped.{capacity_of}
use Rattle.shared_queue.specs.Steps.{Steps}
use Rattle.shared_queue.specs.TriedCalls.{call_after, asked_at}
use Rattle.msq_c.specs.declared.call_words.MsqAct.{MsqAct}
use Rattle.msq_c.specs.declared.call_words.MsqCall.{MsqCall}
use Rattle.msq_c.specs.declared.share_blocks.ShareBlock.{ShareBlock}
use Rattle.msq_c.specs.declared.troubles.Trouble.{Trouble}
use Rattle.msq_c.specs.declared.troubles.Trouble.TheVariants.{BadSize, NoHandle}
use Rattle.msq_c.specs.Passed.{Passing, of_numbers}

-- the number of a task
abbrev pub task_number : Task → ℕ
task_number tasks.Push = 0
task_number tasks.Pop = 1
task_number tasks.Shut = 2
task_number tasks.DropSender = 3
task_number tasks.DropReceiver = 4

-- that of a phase
abbrev pub phase_number : Phase → ℕ
phase_number phases.Looks = 0
phase_number phases.Listens = 1
phase_number phases.Hears = 2
phase_number phases.LooksAgain = 3
phase_number phases.Slept = 4
phase_number phases.Unlistens = 5
phase_number phases.Gives = 6
phase_number phases.GivesBack = 7
phase_number phases.Ends = 8
phase_number phases.Rings = 9
phase_number phases.Adds = 10
phase_number phases.Finished = 11

-- that of an answer
abbrev pub code_number : Code → ℕ
code_number codes.Done = 0
code_number codes.Nothing = 1
code_number codes.Busy = 2
code_number codes.Closed = 3
code_number codes.Worn = 4

-- what a new call of a task begins with: a push with the value, and others with nothing
abbrev pub first_value : {A : Type 0} → Task → A → Option A
first_value tasks.Push value = Some value
first_value _ value = None

-- a call as C holds it, with this word, that heard so many rings
abbrev pub laid_with : Call → (word heard : ℕ) → MsqCall
laid_with c word heard = record {
  word = word;
  heard = heard;
  task = task_number c.task;
  phase = phase_number c.phase;
  then = phase_number c.next;
  code = code_number c.code;
  looks = c.looks;
  tries = c.tries;
  woken = c.woken;
  last = c.last;
  rings_values = c.rings_values;
  rings_room = c.rings_room;
  rings_all = c.rings_all;
}

-- these numbers are of no call
abbrev pub IsNoCall : MsqCall → Type 0
IsNoCall m = (c : Call) (word heard : ℕ) → ¬ (laid_with c word heard ≡ m)

module _ {A W : Type 0} (p : Passing A W) where
  -- a call as C holds it
  abbrev pub laid : Asked A → MsqCall
  laid a = laid_with a.call (p.kept a.value) a.heard

  -- these are the numbers of a call, as it is taken up with this value
  pub record Lifts (m : MsqCall) (w : W) (a : Asked A) : Type 0 where
    pub call : laid_with a.call m.word m.heard ≡ m
    pub heard : a.heard ≡ m.heard
    pub passed : A
    pub value : a.value ≡ Some passed
    pub is : p.is w passed

-- what is to be done, by its number
abbrev pub what_number : Act → ℕ
what_number (acts.Tell code) = 0
what_number (acts.Sleep bell) = 2
what_number (acts.WakeOne bell) = 3
what_number (acts.WakeAll bell) = 3
what_number _ = 1

-- the number of the answer that is told, or 0
abbrev pub told_code : Act → ℕ
told_code (acts.Tell code) = code_number code
told_code _ = 0

-- how many are to be woken
abbrev pub how_many : Act → ℕ
how_many (acts.WakeOne bell) = 1
how_many (acts.WakeAll bell) = 2147483647
how_many _ = 0

-- an act as C is told it; of the word that is slept on, or woken, nothing is said
pub record IsTold (act : Act) (m : MsqAct) : Type 0 where
  pub what : m.what ≡ what_number act
  pub code : m.code ≡ told_code act
  pub many : m.many ≡ how_many act

-- a new call of a task, with this value
abbrev pub new_call : {A : Type 0} → Task → Bool → Option A → Asked A
new_call task tries value = record { call = started task tries; value = value; heard = 0 }

-- this is kept of a call after such an act: its value, where it is told, and else the call
abbrev pub IsKept : {A : Type 0} → Act → Asked A → Asked A → Type 0
IsKept (acts.Tell code) a b = b.value ≡ a.value
IsKept _ a b = b ≡ a

-- the first steps of a call, which is late from the first if it never waits, came to this
pub record FirstSteps {A : Type 0} (tries : Bool) (a : Asked A) (k : KnownOf A) (act : Act) (b : Asked A) (k' : KnownOf A) : Type 0 where
  pub after : Asked A
  pub steps : Steps tries a k act after k'
  pub kept : IsKept act after b

-- what is to be done first for a call whose try came to this
abbrev pub act_after : Tried → Act
act_after (tries.Told code) = acts.Tell code
act_after (tries.Wakes bell) = acts.WakeOne bell
act_after _ = acts.Yield

-- the numbers of a call after its first steps: of one that is told they stay as they were
abbrev pub IsLaid : Act → (call m m' : MsqCall) → Type 0
IsLaid (acts.Tell code) call m m' = m' ≡ m
IsLaid _ call m m' = m' ≡ call

-- C got what is to be done, what is left of the value of the call that is kept, and unless it is told the call
pub record Lays {A W : Type 0} (p : Passing A W) (act : Act) (kept : Asked A) (w w' : W) (m m' : MsqCall) (told' : MsqAct) : Type 0 where
  pub told : IsTold act told'
  pub left : w' ≡ p.left kept.value w
  pub call : IsLaid act (laid p kept) m m'

-- C got what a try of this task came to, with this value
abbrev pub LaysTry : {A W : Type 0} (p : Passing A W) → Task → Tried → Option A → (w w' : W) (m m' : MsqCall) (told' : MsqAct) → Type 0
LaysTry p task tried value w w' m m' told' = Lays p (act_after tried) (asked_at (call_after task tried) value) w w' m m' told'

-- what the seat of a share knows
abbrev pub known_in : {C A S : Type 0} {g : Ghosts C A S} → ShareBlock C A S g → KnownOf A
known_in {g = g} b = g.known (share_seat b.share)

-- what a share answers whose values C passes so
module _ {A W : Type 0} (p : Passing A W) {C S : Type 0} {g : Ghosts C A S} where
  -- a step of a call by a share: the call that the numbers are, with this value, was stepped
  pub record Stepped (b b' : ShareBlock C A S g) (w w' : W) (m m' : MsqCall) (past : Bool) (told' : MsqAct) : Type 0 where
    pub before : Asked A
    pub after : Asked A
    pub act : Act
    pub was : Lifts p m w before
    pub is : laid p after ≡ m'
    pub left : w' ≡ p.left after.value w
    pub steps : Steps past before (known_in b) act after (known_in b')
    pub told : IsTold act told'

  -- what a step by a share answers: refused exactly where the numbers are of no call, or there is no value, and then nothing changed
  pub record StepsBlock (b b' : ShareBlock C A S g) (w w' : W) (m m' : MsqCall) (past : Bool) (told told' : MsqAct) (out : Result (Unit {0}) Trouble) : Type 0 where
    pub queue : stepped_at b'.share ≡ stepped_at b.share
    pub stepped : OnOk out (Stepped b b' w w' m m' past told')
    pub refused : IfErr out (λ refusal. (refusal ≡ BadSize) × (IsNoCall m ⊎ p.none w))
    pub same : OnErr out ((b' ≡ b) × (w' ≡ w) × (m' ≡ m) × (told' ≡ told))

  -- the first steps of this call were made, and C got what they came to
  pub record BegunFrom (tries : Bool) (a : Asked A) (b b' : ShareBlock C A S g) (w w' : W) (m m' : MsqCall) (told' : MsqAct) : Type 0 where
    pub act : Act
    pub kept : Asked A
    pub first : FirstSteps tries a (known_in b) act kept (known_in b')
    pub lays : Lays p act kept w w' m m' told'

  -- a call began, a push with this value, and its first steps were made
  pub record Begun (b b' : ShareBlock C A S g) (task : ℕ) (tries : Bool) (w w' : W) (m m' : MsqCall) (told' : MsqAct) : Type 0 where
    pub of : Task
    pub number : task_number of ≡ task
    pub passed : A
    pub is : p.is w passed
    pub begun : BegunFrom tries (new_call of tries (first_value of passed)) b b' w w' m m' told'

  -- what a call by a share answers as it begins: refused exactly where there is no such task, or no value, and then nothing changed
  pub record BeginsBlock (b b' : ShareBlock C A S g) (task : ℕ) (tries : Bool) (w w' : W) (m m' : MsqCall) (told told' : MsqAct) (out : Result (Unit {0}) Trouble) : Type 0 where
    pub queue : stepped_at b'.share ≡ stepped_at b.share
    pub begun : OnOk out (Begun b b' task tries w w' m m' told')
    pub refused : IfErr out (λ refusal. (refusal ≡ BadSize) × ((5 ≤ task) ⊎ p.none w))
    pub same : OnErr out ((b' ≡ b) × (w' ≡ w) × (m' ≡ m) × (told' ≡ told))

  -- the same by a handle H, which tells whether it is full, and what it owns: refused so too exactly where it is empty
  module _ {H : Type 0} (holds : H → Bool) (own : H → ShareBlock C A S g) where
    -- of a step
    pub record AnswersStep (h h' : H) (w w' : W) (m m' : MsqCall) (past : Bool) (told told' : MsqAct) (out : Result (Unit {0}) Trouble) : Type 0 where
      pub full : holds h' ≡ holds h
      pub queue : stepped_at (own h').share ≡ stepped_at (own h).share
      pub empty : (out ≡ Err NoHandle) ↔ (holds h ≡ false)
      pub stepped : OnOk out (Stepped (own h) (own h') w w' m m' past told')
      pub refused : IfErr out (λ refusal. (refusal ≡ NoHandle) ⊎ ((refusal ≡ BadSize) × (IsNoCall m ⊎ p.none w)))
      pub same : OnErr out ((own h' ≡ own h) × (w' ≡ w) × (m' ≡ m) × (told' ≡ told))

    -- of a call that begins
    pub record AnswersBegin (h h' : H) (task : ℕ) (tries : Bool) (w w' : W) (m m' : MsqCall) (told told' : MsqAct) (out : Result (Unit {0}) Trouble) : Type 0 where
      pub full : holds h' ≡ holds h
      pub queue : stepped_at (own h').share ≡ stepped_at (own h).share
      pub empty : (out ≡ Err NoHandle) ↔ (holds h ≡ false)
      pub begun : OnOk out (Begun (own h) (own h') task tries w w' m m' told')
      pub refused : IfErr out (λ refusal. (refusal ≡ NoHandle) ⊎ ((refusal ≡ BadSize) × ((5 ≤ task) ⊎ p.none w)))
      pub same : OnErr out ((own h' ≡ own h) × (w' ≡ w) × (m' ≡ m) × (told' ≡ told))

-- the call that the numbers are is given up
pub record GivesUp (m m' : MsqCall) : Type 0 where
  pub before : Asked ℕ
  pub was : Lifts of_numbers m m.word before
  pub is : m' ≡ laid of_numbers (record before { call = given_up before.call })

-- a call is given up; refused exactly where the numbers are of none
pub record AnswersGiveUp (m m' : MsqCall) (out : Result (Unit {0}) Trouble) : Type 0 where
  pub given_up : IfOk out (λ done. GivesUp m m')
  pub refused : IfErr out (λ refusal. (refusal ≡ BadSize) × (IsNoCall m ⊎ of_numbers.none m.word))
  pub same : OnErr out (m' ≡ m)

-- others are to run, and the word of a bell is told
pub record IsWatch (m : MsqAct) : Type 0 where
  pub what : m.what ≡ 1
  pub code : m.code ≡ 0
  pub many : m.many ≡ 0

-- what a handle tells that doesn't name its values
module _ {H C A S : Type 0} {g : Ghosts C A S} (holds : H → Bool) (own : H → ShareBlock C A S g) where
  -- the queue of a handle, with the words of its calls
  abbrev pub stepped_of : H → SteppedQueue C
  stepped_of h = stepped_at (own h).share

  -- how many values there are, by a handle: no more than there is room for
  pub record AnswersLength (h h' : H) (len len' : ℕ) (out : Result (Unit {0}) Trouble) : Type 0 where
    pub full : holds h' ≡ holds h
    pub queue : stepped_of h' ≡ stepped_of h
    pub written : OnOk out (len' ≤ capacity_of (stepped_of h))
    pub refused : IfErr out (λ refusal. (refusal ≡ NoHandle) × (holds h ≡ false) × (h' ≡ h) × (len' ≡ len))

  -- the same before it is written
  pub record HasLength (h h' : H) (out : Result ℕ Trouble) : Type 0 where
    pub full : holds h' ≡ holds h
    pub queue : stepped_of h' ≡ stepped_of h
    pub room : IfOk out (λ len. len ≤ capacity_of (stepped_of h))
    pub refused : IfErr out (λ refusal. (refusal ≡ NoHandle) × (holds h ≡ false) × (h' ≡ h))

  -- one more listens to a bell, by a handle, which keeps its seat: refused exactly where it is empty, and then nothing changed
  pub record HearsBell (h h' : H) (told told' : MsqAct) (out : Result (Unit {0}) Trouble) : Type 0 where
    pub full : holds h' ≡ holds h
    pub seat : (own h').share ≡ (own h).share
    pub empty : (out ≡ Err NoHandle) ↔ (holds h ≡ false)
    pub watched : OnOk out (IsWatch told')
    pub refused : IfErr out (λ refusal. refusal ≡ NoHandle)
    pub same : OnErr out (told' ≡ told)

  -- the same for what a task waits for: refused exactly where it waits for nothing, or the handle is empty
  pub record AnswersListen (h h' : H) (task : ℕ) (told told' : MsqAct) (out : Result (Unit {0}) Trouble) : Type 0 where
    pub full : holds h' ≡ holds h
    pub seat : (own h').share ≡ (own h).share
    pub watched : OnOk out ((task ≤ 1) × (holds h ≡ true) × IsWatch told')
    pub refused : IfErr out (λ refusal. ((refusal ≡ BadSize) × (2 ≤ task)) ⊎ ((refusal ≡ NoHandle) × (task ≤ 1) × (holds h ≡ false)))
    pub same : OnErr out (told' ≡ told)
