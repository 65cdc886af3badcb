-- What calls come to that never wait.
use Rattle.std.specs.Prelude.{◌≡◌, ◌⊎◌, true, Option}
use Rattle.calls.specs.declared.calls.Act.TheVariants.{Tell, WakeOne}
use Rattle.calls.specs.declared.calls.Bell.{Bell}
use Rattle.calls.specs.declared.calls.Call.{Call}
use Rattle.calls.specs.declared.calls.Code.TheVariants as codes
use Rattle.calls.specs.declared.calls.Phase.TheVariants.{Finished}
use Rattle.calls.specs.declared.calls.Seen.{Seen}
use Rattle.calls.specs.declared.calls.Seen.TheVariants.{Took, Nothing, Busy, Ended}
use Rattle.calls.specs.declared.calls.Task.{Task}
use Rattle.calls.specs.Machine.{started, advanced}
use Rattle.carriers.specs.Knowledge.{KnownOf}
use Rattle.shared_queue.specs.declared.stepped.Asked.{Asked}
use Rattle.shared_queue.specs.declared.at_once.Tried.{Tried}
use Rattle.shared_queue.specs.declared.at_once.Tried.TheVariants.{Told, Wakes, Rest, AtPlace}
use Rattle.shared_queue.specs.Steps.{GoesOn, Steps}

-- the call of this task that came to this
abbrev pub call_after : Task → Tried → Call
call_after task (Told code) = record (started task true) { phase = Finished; code = code }
call_after task (Wakes bell) = record (started task true) { phase = Finished }
call_after task (Rest seen) = (advanced (started task true) seen true).0
call_after task (AtPlace seen) = (advanced (advanced (started task true) Took true).0 seen true).0

-- it is done, and one that listens to this bell, if there is one, is to be woken
abbrev pub IsDone : Bell → Tried → Type 0
IsDone bell tried = (tried ≡ Told codes.Done) ⊎ (tried ≡ Wakes bell)

-- what a call comes to if its first look is in vain: its answer; or it has to wake all, where a word is worn out
abbrev pub told_in_vain : Seen → Tried
told_in_vain Nothing = Told codes.Nothing
told_in_vain Busy = Told codes.Busy
told_in_vain (Ended codes.Worn) = Rest (Ended codes.Worn)
told_in_vain (Ended code) = Told code
told_in_vain seen = Rest seen

module _ {A : Type 0} where
  -- a call at this point, with this value
  abbrev pub asked_at : Call → Option A → Asked A
  asked_at call value = record { call = call; value = value; heard = 0 }

  -- a new call that never waits
  abbrev pub tries_to : Task → Option A → Asked A
  tries_to task value = asked_at (started task true) value

  -- accesses of a call of this task, one after another, came to this, with this value: the call has its answer; or it has to wake
  -- one, and then is done; or it went on so far
  abbrev pub ComesTo : Task → Option A → KnownOf A → Tried → Option A → KnownOf A → Type 0
  ComesTo task value k (Told code) value' k' = (call : Call) × Steps true (tries_to task value) k (Tell code) (asked_at call value') k'
  ComesTo task value k (Wakes bell) value' k' = Steps true (tries_to task value) k (WakeOne bell) (asked_at (call_after task (Wakes bell)) value') k'
  ComesTo task value k tried value' k' = GoesOn true (tries_to task value) k (asked_at (call_after task tried) value') k'
