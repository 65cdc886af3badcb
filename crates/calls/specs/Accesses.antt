-- The words of a queue whose calls may wait, and what each access of a call sees and does to them.
use Rattle.std.specs.Prelude.{ℕ, zero, suc, ◌+◌, Bool, true, false}
use Rattle.calls.specs.declared.calls.Task.TheVariants.{Shut, DropSender, DropReceiver}
use Rattle.calls.specs.declared.calls.Bell.{Bell}
use Rattle.calls.specs.declared.calls.Bell.TheVariants.{Values, Room}
use Rattle.calls.specs.declared.calls.Code.{Code}
use Rattle.calls.specs.declared.calls.Code.TheVariants as code
use Rattle.calls.specs.declared.calls.Access.{Access}
use Rattle.calls.specs.declared.calls.Access.TheVariants as access
use Rattle.calls.specs.declared.calls.Seen.{Seen}
use Rattle.calls.specs.declared.calls.Seen.TheVariants as seen

-- one side of a queue: so many units, values or room, and so many rings and listeners of its bell; and so many ends that give units
pub data Side : Type 0 where
  side : (units rings listeners ends : ℕ) → Side

-- the words: those of values, whose ends are the senders, and those of room, whose ends are the receivers; whether the queue is shut,
-- and whether it is over, which those that wait for room are told
pub data Words : Type 0 where
  words : (values room : Side) (shut over : Bool) → Words

-- there is an end of what a side gives: it is over, or no end of that side is left
abbrev pub has_ended : (over : Bool) → (ends : ℕ) → Bool
has_ended over zero = true
has_ended over (suc n) = over

-- there is an end of what a side gives
abbrev pub side_ended : Side → (over : Bool) → Bool
side_ended (side u r l n) over = has_ended over n

-- there is an end of values
abbrev pub values_ended : Words → Bool
values_ended (words a b s o) = side_ended a o

-- there is an end of room
abbrev pub room_ended : Words → Bool
room_ended (words a b s o) = side_ended b o

-- the words of a queue that is shut
abbrev pub shut_words : Words → Words
shut_words (words a b s o) = words a b true o

-- how often a side's bell rang
abbrev pub side_rings : Side → ℕ
side_rings (side u r l n) = r

-- how often a bell rang
abbrev pub rings_of : Bell → Words → ℕ
rings_of Values (words a b s o) = side_rings a
rings_of Room (words a b s o) = side_rings b

-- how many units a side has
abbrev pub units_in : Side → ℕ
units_in (side u r l n) = u

-- how many values there are
abbrev pub values_in : Words → ℕ
values_in (words a b s o) = units_in a

-- how many values there are and how much room, together
abbrev pub held_in : Words → ℕ
held_in (words a b s o) = units_in a + units_in b

-- what an access sees, of which the reader has read before whether there is an end, and the words after it
pub data Sees : (ended : Bool) → Words → Access → Seen → Words → Type 0 where
  -- a look for a value: a pop, which gives room by itself or leaves that to its call, or finds none
  pops : {e s o : Bool} {v r l n : ℕ} {b : Side}
      → Sees e (words (side (suc v) r l n) b s o) (access.Look Values) seen.Took (words (side v r l n) b s o)
  pops_whole : {e s o : Bool} {v r l n m r' l' n' : ℕ}
      → Sees e (words (side (suc v) r l n) (side m r' l' n') s o) (access.Look Values) seen.Got
      (words (side v r l n) (side (suc m) r' l' n') s o)
  is_empty : {o : Bool} {r l n : ℕ} {b : Side}
      → Sees false (words (side 0 r l n) b false o) (access.Look Values) seen.Nothing (words (side 0 r l n) b false o)
  is_shut_and_empty : {e o : Bool} {r l n : ℕ} {b : Side}
      → Sees e (words (side 0 r l n) b true o) (access.Look Values) (seen.Ended code.Closed) (words (side 0 r l n) b true o)
  has_ended_and_is_empty : {s o : Bool} {r l n m r' l' n' : ℕ} (c : Code)
      → Sees true (words (side 0 r l n) (side m r' l' n') s o) (access.Look Values) (seen.Ended c)
      (words (side 0 r l n) (side m r' l' n') s o)
  -- a look for room: a push, or room taken of which the call is to make use, or none is found, or the queue is shut
  takes : {e s o : Bool} {m r l n : ℕ} {a : Side}
      → Sees e (words a (side (suc m) r l n) s o) (access.Look Room) seen.Took (words a (side m r l n) s o)
  takes_whole : {e o : Bool} {v r l n m r' l' n' : ℕ}
      → Sees e (words (side v r l n) (side (suc m) r' l' n') false o) (access.Look Room) seen.Got
      (words (side (suc v) r l n) (side m r' l' n') false o)
  is_full : {s o : Bool} {r l n : ℕ} {a : Side}
      → Sees false (words a (side 0 r l n) s o) (access.Look Room) seen.Nothing (words a (side 0 r l n) s o)
  is_shut : {e o : Bool} {a b : Side}
      → Sees e (words a b true o) (access.Look Room) (seen.Ended code.Closed) (words a b true o)
  -- a push of the call's value, for which it has room
  puts : {e o : Bool} {v r l n : ℕ} {b : Side}
      → Sees e (words (side v r l n) b false o) (access.Give Values) seen.Got (words (side (suc v) r l n) b false o)
  put_is_shut : {e o : Bool} {a b : Side}
      → Sees e (words a b true o) (access.Give Values) (seen.Ended code.Closed) (words a b true o)
  -- room for one more
  gives : {e s o : Bool} {m r l n : ℕ} {a : Side}
      → Sees e (words a (side m r l n) s o) (access.Give Room) seen.Got (words a (side (suc m) r l n) s o)
  -- a look or a push may meet others that are in the way; or a word that is worn out, which ends the queue
  look_is_busy : {e : Bool} {w : Words} (b : Bell) → Sees e w (access.Look b) seen.Busy w
  look_is_worn : {e s o : Bool} {v r l n m r' l' n' : ℕ} (b : Bell)
      → Sees e (words (side v r l n) (side m r' l' n') s o) (access.Look b) (seen.Ended code.Worn)
      (words (side v r l n) (side m r' l' n') s true)
  put_is_busy : {e : Bool} {w : Words} → Sees e w (access.Give Values) seen.Busy w
  put_is_worn : {e s o : Bool} {v r l n m r' l' n' : ℕ}
      → Sees e (words (side v r l n) (side m r' l' n') s o) (access.Give Values) (seen.Ended code.Worn)
      (words (side v r l n) (side m r' l' n') s true)
  -- one listens more or less, hears, sees who listens, and rings
  counts_at_values : {e s o : Bool} {v r l n : ℕ} {b : Side}
      → Sees e (words (side v r l n) b s o) (access.Count Values) seen.Got (words (side v r (suc l) n) b s o)
  counts_at_room : {e s o : Bool} {m r l n : ℕ} {a : Side}
      → Sees e (words a (side m r l n) s o) (access.Count Room) seen.Got (words a (side m r (suc l) n) s o)
  uncounts_at_values : {e s o : Bool} {v r l n : ℕ} {b : Side}
      → Sees e (words (side v r (suc l) n) b s o) (access.Uncount Values) seen.Got (words (side v r l n) b s o)
  uncounts_at_room : {e s o : Bool} {m r l n : ℕ} {a : Side}
      → Sees e (words a (side m r (suc l) n) s o) (access.Uncount Room) seen.Got (words a (side m r l n) s o)
  hears : {e s o : Bool} {v r l n m r' l' n' : ℕ} (b : Bell)
      → Sees e (words (side v r l n) (side m r' l' n') s o) (access.Hear b) seen.Got (words (side v r l n) (side m r' l' n') s o)
  nobody_at_values : {e s o : Bool} {v r n : ℕ} {b : Side}
      → Sees e (words (side v r 0 n) b s o) (access.Listeners Values) seen.Nothing (words (side v r 0 n) b s o)
  nobody_at_room : {e s o : Bool} {m r n : ℕ} {a : Side}
      → Sees e (words a (side m r 0 n) s o) (access.Listeners Room) seen.Nothing (words a (side m r 0 n) s o)
  somebody : {e : Bool} {w : Words} (b : Bell) → Sees e w (access.Listeners b) seen.Got w
  rings_values : {e s o : Bool} {v r l n : ℕ} {b : Side}
      → Sees e (words (side v r l n) b s o) (access.Ring Values) seen.Got (words (side v (suc r) l n) b s o)
  rings_room : {e s o : Bool} {m r l n : ℕ} {a : Side}
      → Sees e (words a (side m r l n) s o) (access.Ring Room) seen.Got (words a (side m (suc r) l n) s o)
  -- a side has one end less, of which it may be the last; those that wait for room are told of a shut
  last_sender : {e s o : Bool} {v r l : ℕ} {b : Side}
      → Sees e (words (side v r l 1) b s o) (access.End DropSender) seen.Got (words (side v r l 0) b s o)
  a_sender : {e s o : Bool} {v r l n : ℕ} {b : Side}
      → Sees e (words (side v r l (suc (suc n))) b s o) (access.End DropSender) seen.Nothing (words (side v r l (suc n)) b s o)
  last_receiver : {e s o : Bool} {m r l : ℕ} {a : Side}
      → Sees e (words a (side m r l 1) s o) (access.End DropReceiver) seen.Got (words a (side m r l 0) s o)
  a_receiver : {e s o : Bool} {m r l n : ℕ} {a : Side}
      → Sees e (words a (side m r l (suc (suc n))) s o) (access.End DropReceiver) seen.Nothing (words a (side m r l (suc n)) s o)
  tells_of_shut : {e s o : Bool} {v r l n m r' l' n' : ℕ}
      → Sees e (words (side v r l n) (side m r' l' n') s o) (access.End Shut) seen.Got
      (words (side v r l n) (side m r' l' n') s true)
  rests : {e : Bool} {w : Words} (saw : Seen) → Sees e w access.Rest saw w
