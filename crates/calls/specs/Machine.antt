-- The machine: what a call touches next, and where it stands after it saw something.
use Rattle.std.specs.Prelude.{◌≡◌, ◌+◌, Bool, true, false, ◌&&◌, ◌||◌, not, nat_lt, if◌then◌else◌}
use Rattle.calls.specs.declared.calls.Task.{Task}
use Rattle.calls.specs.declared.calls.Task.TheVariants.{Push, Pop, Shut, DropSender, DropReceiver}
use Rattle.calls.specs.declared.calls.Bell.{Bell}
use Rattle.calls.specs.declared.calls.Bell.TheVariants.{Values, Room}
use Rattle.calls.specs.declared.calls.Code.{Code}
use Rattle.calls.specs.declared.calls.Code.TheVariants as code
use Rattle.calls.specs.declared.calls.Phase.{Phase}
use Rattle.calls.specs.declared.calls.Phase.TheVariants as phase
use Rattle.calls.specs.declared.calls.Access.{Access}
use Rattle.calls.specs.declared.calls.Access.TheVariants as access
use Rattle.calls.specs.declared.calls.Seen.{Seen}
use Rattle.calls.specs.declared.calls.Seen.TheVariants as seen
use Rattle.calls.specs.declared.calls.Act.{Act}
use Rattle.calls.specs.declared.calls.Act.TheVariants as act
use Rattle.calls.specs.declared.calls.Call.{Call}

-- where a new call begins
abbrev pub first_phase : Task → Phase
first_phase Push = phase.Looks
first_phase Pop = phase.Looks
first_phase _ = phase.Ends

-- a new call
abbrev pub started : Task → (tries : Bool) → Call
started t tries = record {
  task = t;
  tries = tries;
  phase = first_phase t;
  next = phase.Finished;
  code = code.Done;
  woken = false;
  last = tries;
  looks = 0;
  rings_values = false;
  rings_room = false;
  rings_all = false;
}

-- what a call waits for: a push for room, a pop for a value
abbrev pub awaited_by : Task → Bell
awaited_by Push = Room
awaited_by _ = Values

-- what it gives: a push a value, a pop room
abbrev pub given_by : Task → Bell
given_by Push = Values
given_by _ = Room

-- the bell that it rings next: first that of values
abbrev pub rung_of : Call → Bell
rung_of c = if c.rings_values then Values else Room

-- what a call touches next, by its phase
abbrev pub access_at : Phase → Call → Access
access_at phase.Looks c = access.Look (awaited_by c.task)
access_at phase.Listens c = access.Count (awaited_by c.task)
access_at phase.Hears c = access.Hear (awaited_by c.task)
access_at phase.LooksAgain c = access.Look (awaited_by c.task)
access_at phase.Slept c = access.Uncount (awaited_by c.task)
access_at phase.Unlistens c = access.Uncount (awaited_by c.task)
access_at phase.Gives c = access.Give (given_by c.task)
access_at phase.GivesBack c = access.Give (awaited_by c.task)
access_at phase.Ends c = access.End c.task
access_at phase.Rings c = access.Listeners (rung_of c)
access_at phase.Adds c = access.Ring (rung_of c)
access_at phase.Finished c = access.Rest

-- what a call touches next
abbrev pub access_of : Call → Access
access_of c = access_at c.phase c

-- a call after a step, and what is to be done before the next one
abbrev pub After : Type 0
After = Call × Act

-- what is to be done where a call goes on: its answer is told if it has finished
abbrev pub act_at : Phase → Code → Act
act_at phase.Finished code = act.Tell code
act_at _ code = act.GoOn

-- a call goes on in this phase
abbrev pub goes : Call → Phase → After
goes c p = (record c { phase = p }, act_at p c.code)

-- it has this answer
abbrev pub tells : Call → Code → After
tells c code = goes (record c { code = code }) phase.Finished

-- it has to ring this bell, and then has this answer
abbrev pub with_ring : Call → Bell → Code → Call
with_ring c Values code = record c { code = code; rings_values = true }
with_ring c Room code = record c { code = code; rings_room = true }

-- it has rung the bell that it rings next
abbrev pub without_ring : Call → Call
without_ring c = if c.rings_values then record c { rings_values = false } else record c { rings_room = false }

-- where it goes on if it has rung: it may have a further bell to ring
abbrev pub rest_of : Call → Phase
rest_of c = if (c.rings_values || c.rings_room) then phase.Rings else phase.Finished

-- it has to ring both bells
abbrev pub with_both : Call → Call
with_both c = record c { rings_values = true; rings_room = true }

-- it gave: it rings for what it gave
abbrev pub with_gift : Call → Call
with_gift c = with_ring c (given_by c.task) code.Done

-- it rings for what it gave
abbrev pub rings_gift : Call → After
rings_gift c = goes (with_gift c) phase.Rings

-- it leaves without what it waited for, which another one may take: it rings for that, and at a word that is worn out both bells for all
abbrev pub handing_on : Call → Code → Call
handing_on c code.Worn = record (with_both c) { code = code.Worn; rings_all = true }
handing_on c code = with_ring c (awaited_by c.task) code

-- a word of the queue is worn out
abbrev pub is_worn : Code → Bool
is_worn code.Worn = true
is_worn _ = false

-- it leaves without what it waited for, and isn't counted
abbrev pub leaves : Call → Code → After
leaves c code = if (c.woken || is_worn code) then goes (handing_on c code) phase.Rings else tells c code

-- it is counted no more, and goes on there
abbrev pub unlistens : Call → Phase → After
unlistens c next = goes (record c { next = next }) phase.Unlistens

-- it leaves without what it waited for, and is counted
abbrev pub leaves_counted : Call → Code → After
leaves_counted c code = unlistens (handing_on c code) phase.Rings

-- it leaves without having made use of the room that it took
abbrev pub leaves_with_room : Call → Code → After
leaves_with_room c code = goes (handing_on c code) phase.GivesBack

-- it looks a few times before it listens
abbrev pub waits : Call → After
waits c =
    if (not c.woken && nat_lt c.looks 16) then (record c { looks = c.looks + 1 }, act.Yield)
    else goes c phase.Listens

-- it looked before it listens
abbrev pub after_look : Call → Seen → (past : Bool) → After
after_look c seen.Got past = rings_gift c
after_look c seen.Took past = goes c phase.Gives
after_look c seen.Nothing past = if (c.last || past) then tells c code.Nothing else waits c
after_look c seen.Busy past = if past then leaves c code.Busy else (c, act.Yield)
after_look c (seen.Ended code) past = leaves c code

-- it looked once more, and is counted
abbrev pub after_second_look : Call → Seen → (past : Bool) → After
after_second_look c seen.Got past = unlistens (with_gift c) phase.Rings
after_second_look c seen.Took past = unlistens c phase.Gives
after_second_look c seen.Nothing past = (record c { phase = phase.Slept }, act.Sleep (awaited_by c.task))
after_second_look c seen.Busy past = if past then leaves_counted c code.Busy else (c, act.Yield)
after_second_look c (seen.Ended code) past = leaves_counted c code

-- it tried to give: a push may be refused, room never
abbrev pub after_gift : Task → Call → Seen → (past : Bool) → After
after_gift Push c seen.Busy past = if past then leaves_with_room c code.Busy else (c, act.Yield)
after_gift Push c (seen.Ended code) past = leaves_with_room c code
after_gift _ c _ past = rings_gift c

-- it rings for all
abbrev pub rings_for_all : Call → After
rings_for_all c = goes (record c { rings_all = true }) phase.Rings

-- it ended a side, which rings if nobody is left there, or the queue
abbrev pub after_end_of : Task → Call → Seen → After
after_end_of DropSender c seen.Got = rings_for_all (record c { rings_values = true })
after_end_of DropReceiver c seen.Got = rings_for_all (record c { rings_room = true })
after_end_of Shut c _ = rings_for_all (with_both c)
after_end_of _ c _ = tells c code.Done

-- it ended a side, or the queue; or others are in the way
abbrev pub after_end : Call → Seen → After
after_end c seen.Busy = if c.tries then tells c code.Busy else (c, act.Yield)
after_end c saw = after_end_of c.task c saw

-- it saw whether anybody listens to the bell
abbrev pub after_listeners : Call → Seen → After
after_listeners c seen.Nothing = let d = without_ring c in goes d (rest_of d)
after_listeners c _ = goes c phase.Adds

-- whom a ring wakes
abbrev pub wakes : Bell → (all : Bool) → Act
wakes b all = if all then act.WakeAll b else act.WakeOne b

-- it rang
abbrev pub after_ring : Call → After
after_ring c =
    let d = without_ring c in
    (record d { phase = rest_of d }, wakes (rung_of c) c.rings_all)

-- where a call stands after it saw this, and what is to be done before its next step, by its phase
abbrev pub advanced_at : Phase → Call → Seen → (past : Bool) → After
advanced_at phase.Looks c saw past = after_look c saw past
advanced_at phase.Listens c saw past = goes c phase.Hears
advanced_at phase.Hears c saw past = goes c phase.LooksAgain
advanced_at phase.LooksAgain c saw past = after_second_look c saw past
advanced_at phase.Slept c saw past = goes (record c { woken = true; last = past }) phase.Looks
advanced_at phase.Unlistens c saw past = goes c c.next
advanced_at phase.Gives c saw past = after_gift c.task c saw past
advanced_at phase.GivesBack c saw past = goes c phase.Rings
advanced_at phase.Ends c saw past = after_end c saw
advanced_at phase.Rings c saw past = after_listeners c saw
advanced_at phase.Adds c saw past = after_ring c
advanced_at phase.Finished c saw past = (c, act.Tell c.code)

-- where a call stands after it saw this, and what is to be done before its next step
abbrev pub advanced : Call → Seen → (past : Bool) → After
advanced c saw past = advanced_at c.phase c saw past

-- a task that may wait
abbrev pub may_wait : Task → Bool
may_wait Push = true
may_wait Pop = true
may_wait _ = false

-- a call that at its first look does all that it wants, and then finds that nobody listens, has its answer
abbrev pub IsAllAtOnce : Task → Type 0
IsAllAtOnce t = (tries past later : Bool)
    → (advanced (advanced (started t tries) seen.Got past).0 seen.Nothing later).1 ≡ act.Tell code.Done

-- a call that hands on what it may have been woken for, and goes on there
abbrev pub gives_up_to : Call → Phase → Call
gives_up_to c p = record (handing_on c code.Nothing) { next = phase.Rings; phase = p }

-- a call that took what it waited for is given up: a push gives room back, and a pop goes on
abbrev pub gives_up_gift : Task → Call → Call
gives_up_gift Push c = gives_up_to c phase.GivesBack
gives_up_gift _ c = c

-- a call that is given up, by its phase: it only has to be stepped until it tells
abbrev pub given_up_at : Phase → Call → Call
given_up_at phase.Hears c = gives_up_to c phase.Unlistens
given_up_at phase.LooksAgain c = gives_up_to c phase.Unlistens
given_up_at phase.Slept c = gives_up_to c phase.Unlistens
given_up_at phase.Looks c = gives_up_to c phase.Rings
given_up_at phase.Listens c = gives_up_to c phase.Rings
given_up_at phase.Gives c = gives_up_gift c.task c
given_up_at _ c = c

-- a call that is given up
abbrev pub given_up : Call → Call
given_up c = given_up_at c.phase c
