-- Callers as they come to be: which rings are due where, and of whom.
use Rattle.std.proofs.Common.{ℕ, Bool, true, false}
use Rattle.calls.specs.declared.calls.Task.{Task}
use Rattle.calls.specs.declared.calls.Task.TheVariants.{Push, Pop, Shut, DropSender, DropReceiver}
use Rattle.calls.specs.declared.calls.Bell.{Bell}
use Rattle.calls.specs.declared.calls.Bell.TheVariants.{Values}
use Rattle.calls.specs.declared.calls.Code.{Code}
use Rattle.calls.specs.declared.calls.Phase.{Phase}
use Rattle.calls.specs.declared.calls.Phase.TheVariants as phase
use Rattle.calls.specs.declared.calls.Call.{Call}
use Rattle.calls.specs.Callers.{Doing, Steps, Told, Sleeping, Read, Waking, Caller, caller}

-- the rings that are due: at the bell of values, at that of room, and whether for all
pub data Dues : Type 0 where
  dues : (values room all : Bool) → Dues

-- none
abbrev pub quiet : Dues
quiet = dues false false false

-- some are due
pub data IsDue : Dues → Type 0 where
  for_value : (all : Bool) → IsDue (dues true false all)
  for_room : (all : Bool) → IsDue (dues false true all)
  for_both : IsDue (dues true true true)

-- a call that may wait, and one that ends something
pub data IsWaiter : Task → Type 0 where
  pushes : IsWaiter Push
  pops : IsWaiter Pop

pub data IsEnder : Task → Type 0 where
  shuts : IsEnder Shut
  drops_sender : IsEnder DropSender
  drops_receiver : IsEnder DropReceiver

-- which rings are due in a phase, before the next one if there is one, and what its caller is about there
pub data SoundAt : Task → (now onward : Phase) → Dues → (woken : Bool) → Doing → Type 0 where
  looking : {t : Task} {n : Phase} (w : Bool) → IsWaiter t → SoundAt t phase.Looks n quiet w Steps
  reading : {t : Task} {n : Phase} (w e : Bool) → IsWaiter t → SoundAt t phase.Looks n quiet w (Read e)
  listening : {t : Task} {n : Phase} {w : Bool} → IsWaiter t → SoundAt t phase.Listens n quiet w Steps
  hearing : {t : Task} {n : Phase} {w : Bool} → IsWaiter t → SoundAt t phase.Hears n quiet w Steps
  looking_again : {t : Task} {n : Phase} {w : Bool} → IsWaiter t → SoundAt t phase.LooksAgain n quiet w Steps
  reading_again : {t : Task} {n : Phase} {w : Bool} (e : Bool) → IsWaiter t → SoundAt t phase.LooksAgain n quiet w (Read e)
  told : {t : Task} {n : Phase} {w : Bool} → IsWaiter t → SoundAt t phase.Slept n quiet w Told
  sleeping : {t : Task} {n : Phase} {w : Bool} → IsWaiter t → SoundAt t phase.Slept n quiet w Sleeping
  slept : {t : Task} {n : Phase} {w : Bool} → IsWaiter t → SoundAt t phase.Slept n quiet w Steps
  giving_next : {t : Task} {w : Bool} → IsWaiter t → SoundAt t phase.Unlistens phase.Gives quiet w Steps
  ringing_next : {t : Task} {w : Bool} {d : Dues} → IsWaiter t → IsDue d → SoundAt t phase.Unlistens phase.Rings d w Steps
  giving : {t : Task} {n : Phase} {w : Bool} → IsWaiter t → SoundAt t phase.Gives n quiet w Steps
  giving_back : {n : Phase} {w : Bool} → SoundAt Push phase.GivesBack n (dues false true false) w Steps
  giving_back_at_end : {n : Phase} {w : Bool} → SoundAt Push phase.GivesBack n (dues true true true) w Steps
  ending : {t : Task} {n : Phase} {w : Bool} → IsEnder t → SoundAt t phase.Ends n quiet w Steps
  having_shut : {n : Phase} {w : Bool} → SoundAt Shut phase.Ends n quiet w (Read true)
  ringing : {t : Task} {n : Phase} {w : Bool} {d : Dues} → IsDue d → SoundAt t phase.Rings n d w Steps
  adding : {t : Task} {n : Phase} {w : Bool} {d : Dues} → IsDue d → SoundAt t phase.Adds n d w Steps
  waking_first : {t : Task} {n : Phase} {w : Bool} (all : Bool) → SoundAt t phase.Rings n (dues false true all) w (Waking Values all)
  waking_last : {t : Task} {n : Phase} {w : Bool} (b : Bell) (all : Bool)
      → SoundAt t phase.Finished n (dues false false all) w (Waking b all)
  finished : {t : Task} {n : Phase} {w : Bool} {d : Dues} → SoundAt t phase.Finished n d w Steps

-- a caller that comes to be
abbrev pub Sound : Caller → Type 0
Sound (caller c h d) = SoundAt c.task c.phase c.next (dues c.rings_values c.rings_room c.rings_all) c.woken d

-- what of a call decides neither which rings are due nor where it stands to a bell
pub record Others : Type 0 where
  pub tries : Bool
  pub last : Bool
  pub code : Code
  pub looks : ℕ

-- a call by its parts
abbrev pub call_of : Task → (now onward : Phase) → (values room all woken : Bool) → Others → Call
call_of t p n v r a k o = record {
  task = t;
  tries = o.tries;
  phase = p;
  next = n;
  code = o.code;
  woken = k;
  last = o.last;
  looks = o.looks;
  rings_values = v;
  rings_room = r;
  rings_all = a;
}

-- the others of a call
abbrev pub others : Call → Others
others c = record { tries = c.tries; last = c.last; code = c.code; looks = c.looks }

pub ruleset waiters = (pushes, pops)

pub ruleset sounds = (
  waiters,
  for_value,
  for_room,
  for_both,
  shuts,
  drops_sender,
  drops_receiver,
  looking,
  reading,
  listening,
  hearing,
  looking_again,
  reading_again,
  told,
  sleeping,
  slept,
  giving_next,
  ringing_next,
  giving,
  giving_back,
  giving_back_at_end,
  ending,
  having_shut,
  ringing,
  adding,
  waking_first,
  waking_last,
  finished,
)
