-- Where a caller stands to each bell of its queue.
use Rattle.std.specs.Prelude.{ℕ, Bool, true, false}
use Rattle.calls.specs.declared.calls.Task.{Task}
use Rattle.calls.specs.declared.calls.Task.TheVariants.{Push, Pop}
use Rattle.calls.specs.declared.calls.Bell.{Bell}
use Rattle.calls.specs.declared.calls.Bell.TheVariants.{Values, Room}
use Rattle.calls.specs.declared.calls.Phase.{Phase}
use Rattle.calls.specs.declared.calls.Phase.TheVariants as phase
use Rattle.calls.specs.declared.calls.Call.{Call}
use Rattle.calls.specs.Accesses.{Words, words, Side, side, has_ended}
use Rattle.calls.specs.Callers.{Doing, Told, Sleeping, Read, Waking, Caller, caller}
use Rattle.calls.specs.Bells as one

-- a call that will see whether anybody listens to a bell, if it is due, for one or for all
abbrev pub owing : (due all : Bool) → one.Stance
owing true true = one.Owes_all
owing true false = one.Owes 1
owing false all = one.Away

-- a call that will ring it
abbrev pub adding : (due all : Bool) → one.Stance
adding true true = one.Adds_all
adding true false = one.Adds 1
adding false all = one.Away

-- a call that will be counted no more, and then ring it
abbrev pub leaving : (due all : Bool) → one.Stance
leaving true true = one.Leaves_all
leaving true false = one.Leaves 1
leaving false all = one.Leaves 0

-- a call that rang it
abbrev pub waking : (all : Bool) → one.Stance
waking true = one.Wakes_all
waking false = one.Wakes 1

-- a call that looks, and isn't counted
abbrev pub looking : (woken : Bool) → one.Stance
looking true = one.Woken
looking false = one.Away

-- a call that looks, and is counted
abbrev pub looking_again : Doing → ℕ → one.Stance
looking_again (Read false) h = one.Saw h
looking_again _ h = one.Hears h

-- a call that was told to sleep
abbrev pub told_to_sleep : Doing → ℕ → one.Stance
told_to_sleep Told h = one.Sleeps h
told_to_sleep Sleeping h = one.Asleep
told_to_sleep _ h = one.Slept

-- a call that gives room back rings the bell of room for it, unless for all, only after that
abbrev pub giving_back : (due all : Bool) → one.Stance
giving_back true true = one.Owes_all
giving_back _ _ = one.Away

-- a call rings the bell of room after that of values
abbrev pub adding_after : (first due all : Bool) → one.Stance
adding_after true due all = owing due all
adding_after false due all = adding due all

-- where a call stands to the bell of values
abbrev pub to_values : Phase → Task → Doing → ℕ → Call → one.Stance
to_values phase.Looks Pop d h c = looking c.woken
to_values phase.Hears Pop d h c = one.Counted
to_values phase.LooksAgain Pop d h c = looking_again d h
to_values phase.Slept Pop d h c = told_to_sleep d h
to_values phase.Unlistens Pop d h c = leaving c.rings_values c.rings_all
to_values phase.Unlistens _ d h c = owing c.rings_values c.rings_all
to_values phase.GivesBack t d h c = owing c.rings_values c.rings_all
to_values phase.Rings t d h c = owing c.rings_values c.rings_all
to_values phase.Adds t d h c = adding c.rings_values c.rings_all
to_values _ t d h c = one.Away

-- where it stands to the bell of room
abbrev pub to_room : Phase → Task → Doing → ℕ → Call → one.Stance
to_room phase.Looks Push d h c = looking c.woken
to_room phase.Hears Push d h c = one.Counted
to_room phase.LooksAgain Push d h c = looking_again d h
to_room phase.Slept Push d h c = told_to_sleep d h
to_room phase.Unlistens Push d h c = leaving c.rings_room c.rings_all
to_room phase.Unlistens _ d h c = owing c.rings_room c.rings_all
to_room phase.GivesBack t d h c = giving_back c.rings_room c.rings_all
to_room phase.Rings t d h c = owing c.rings_room c.rings_all
to_room phase.Adds t d h c = adding_after c.rings_values c.rings_room c.rings_all
to_room _ t d h c = one.Away

-- where a call stands to the bell of values while its caller is about this
abbrev pub value_stance_in : Doing → ℕ → Call → one.Stance
value_stance_in (Waking Values all) h c = waking all
value_stance_in d h c = to_values c.phase c.task d h c

-- where it stands to the bell of room
abbrev pub room_stance_in : Doing → ℕ → Call → one.Stance
room_stance_in (Waking Room all) h c = waking all
room_stance_in d h c = to_room c.phase c.task d h c

-- where a caller stands to a bell
abbrev pub stance_to : Bell → Caller → one.Stance
stance_to Values (caller c h d) = value_stance_in d h c
stance_to Room (caller c h d) = room_stance_in d h c

-- the bell of a side
abbrev pub side_bell : Side → (over : Bool) → one.Bell
side_bell (side u r l n) over = one.bell r l u (has_ended over n)

-- a bell of a queue
abbrev pub bell_in : Bell → Words → one.Bell
bell_in Values (words a b s o) = side_bell a o
bell_in Room (words a b s o) = side_bell b o
