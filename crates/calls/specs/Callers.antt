-- The callers of one queue, and what each may do by itself.
use Rattle.std.specs.Prelude.{◌≡◌, ℕ, Bool, true, false}
use Rattle.calls.specs.declared.calls.Task.{Task}
use Rattle.calls.specs.declared.calls.Task.TheVariants.{Shut}
use Rattle.calls.specs.declared.calls.Bell.{Bell}
use Rattle.calls.specs.declared.calls.Bell.TheVariants.{Values, Room}
use Rattle.calls.specs.declared.calls.Code.{Code}
use Rattle.calls.specs.declared.calls.Phase.{Phase}
use Rattle.calls.specs.declared.calls.Phase.TheVariants as phase
use Rattle.calls.specs.declared.calls.Access.{Access}
use Rattle.calls.specs.declared.calls.Access.TheVariants as access
use Rattle.calls.specs.declared.calls.Seen.{Seen}
use Rattle.calls.specs.declared.calls.Seen.TheVariants as seen
use Rattle.calls.specs.declared.calls.Act.{Act}
use Rattle.calls.specs.declared.calls.Act.TheVariants as act
use Rattle.calls.specs.declared.calls.Call.{Call}
use Rattle.calls.specs.Machine.{started, awaited_by, access_of, advanced, given_up, After}
use Rattle.calls.specs.Accesses.{Words, words, Side, values_ended, room_ended, shut_words, rings_of, Sees}

-- what a caller is about, between two accesses of its call: it steps; it has read whether there is an end, or has shut the queue; it was
-- told to sleep; it sleeps; it has to wake one, or all
pub data Doing : Type 0 where
  Steps Told Sleeping : Doing
  Read : (ended : Bool) → Doing
  Waking : Bell → (all : Bool) → Doing

-- a caller: its call, how many rings that has heard, and what it is about
pub data Caller : Type 0 where
  caller : Call → (heard : ℕ) → Doing → Caller

-- a call has finished
abbrev pub has_finished : Phase → Bool
has_finished phase.Finished = true
has_finished _ = false

-- an access looks for a value
abbrev pub looks_for_values : Access → Bool
looks_for_values (access.Look Values) = true
looks_for_values _ = false

-- an access looks for room
abbrev pub looks_for_room : Access → Bool
looks_for_room (access.Look Room) = true
looks_for_room _ = false

-- an access ends the queue
abbrev pub ends_queue : Access → Bool
ends_queue (access.End Shut) = true
ends_queue _ = false

-- a caller steps
abbrev pub is_stepping : Doing → Bool
is_stepping Steps = true
is_stepping _ = false

-- a caller has read whether there is an end
abbrev pub has_read : Doing → Bool
has_read (Read e) = true
has_read _ = false

-- a caller may make this access: a look only after it has read whether there is an end, and a shut only after it has shut the queue
abbrev pub is_ready : Access → Doing → Bool
is_ready (access.Look b) d = has_read d
is_ready (access.End Shut) d = has_read d
is_ready _ d = is_stepping d

-- the end that it has read
abbrev pub read_by : Doing → Bool
read_by (Read e) = e
read_by _ = false

-- what a caller is about after an act
abbrev pub doing_for : Act → Doing
doing_for (act.Sleep b) = Told
doing_for (act.WakeOne b) = Waking b false
doing_for (act.WakeAll b) = Waking b true
doing_for _ = Steps

-- how many rings a call has heard after an access
abbrev pub heard_by : Access → Words → ℕ → ℕ
heard_by (access.Hear b) w h = rings_of b w
heard_by _ w h = h

-- a caller after a step of its call
abbrev pub after : After → ℕ → Caller
after a h = caller a.0 h (doing_for a.1)

-- a caller that has nobody to wake may give its call up
abbrev pub may_give_up : Doing → Bool
may_give_up (Waking b all) = false
may_give_up _ = true

-- what a caller may do, alone
pub data Does : Words → Caller → Words → Caller → Type 0 where
  -- it begins a call
  begins : {w : Words} {c : Call} {h : ℕ} (t : Task) (tries : Bool) → has_finished c.phase ≡ true
      → Does w (caller c h Steps) w (caller (started t tries) h Steps)
  -- it reads whether there is an end, which a push is told at once
  reads_values : {w : Words} {c : Call} {h : ℕ} → looks_for_values (access_of c) ≡ true
      → Does w (caller c h Steps) w (caller c h (Read (values_ended w)))
  reads_room : {a b : Side} {s o : Bool} {c : Call} {h : ℕ} → looks_for_room (access_of c) ≡ true → room_ended (words a b s o) ≡ false
      → Does (words a b s o) (caller c h Steps) (words a b s o) (caller c h (Read false))
  meets_end : {w : Words} {c : Call} {h : ℕ} (o : Code) (past : Bool) → looks_for_room (access_of c) ≡ true → room_ended w ≡ true
      → Does w (caller c h Steps) w (after (advanced c (seen.Ended o) past) h)
  -- it shuts the queue, of which those that wait for room are told by its next access; or others are in the way
  shuts : {w : Words} {c : Call} {h : ℕ} → ends_queue (access_of c) ≡ true
      → Does w (caller c h Steps) (shut_words w) (caller c h (Read true))
  is_in_the_way : {w : Words} {c : Call} {h : ℕ} (past : Bool) → ends_queue (access_of c) ≡ true
      → Does w (caller c h Steps) w (after (advanced c seen.Busy past) h)
  -- it makes the access of its call, and that advances by what it saw
  acts : {w w' : Words} {c : Call} {h : ℕ} {d : Doing} {saw : Seen} (past : Bool)
      → Sees (read_by d) w (access_of c) saw w' → is_ready (access_of c) d ≡ true
      → Does w (caller c h d) w' (after (advanced c saw past) (heard_by (access_of c) w h))
  -- it gives its call up
  gives_up : {w : Words} {c : Call} {h : ℕ} {d : Doing} → may_give_up d ≡ true
      → Does w (caller c h d) w (caller (given_up c) h Steps)
  -- it sleeps, if the bell has not rung since it heard; or it doesn't, for whatever reason; a sleep ends, for whatever reason
  sleeps : {w : Words} {c : Call} {h : ℕ} → h ≡ rings_of (awaited_by c.task) w
      → Does w (caller c h Told) w (caller c h Sleeping)
  stays_awake : {w : Words} {c : Call} {h : ℕ} → Does w (caller c h Told) w (caller c h Steps)
  wakes_up : {w : Words} {c : Call} {h : ℕ} → Does w (caller c h Sleeping) w (caller c h Steps)
