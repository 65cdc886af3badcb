-- What a script of the tests holds, as its fields have it.
use Rattle.std.specs.Prelude.{◌≡◌, ℕ, false, List, [], Option, Some, None, drop, vec_capacity}
use Rattle.text_io.specs.declared.scripts.Script.{Script}
use Rattle.text_io.specs.declared.scripts.Trouble.{Trouble}
use Rattle.text_io.specs.declared.scripts.Trouble.TheVariants.{Failure, Standstill}

-- the bytes that a script has still to give
abbrev pub unread_of : Script → List ℕ
unread_of script = drop script.at script.given.items

-- the bytes that a script has taken
abbrev pub written_of : Script → List ℕ
written_of script = script.written.items

-- the calls of a script that answered an error
abbrev pub failures_of : Script → ℕ
failures_of script = script.failures

-- how many bytes a script takes in all
abbrev pub room_of : Script → ℕ
room_of script = vec_capacity script.written

-- a script is to have this trouble after this many further calls
abbrev pub IsDue : Script → Trouble → ℕ → Type 0
IsDue script trouble calls = script.plan ≡ Some (record { trouble = trouble; calls_before = calls })

-- a script is as new, with these bytes to give and this room: it took none, no call failed, and it told nothing
pub record IsFresh (script : Script) (bytes : List ℕ) (room piece : ℕ) : Type 0 where
  pub left : unread_of script ≡ bytes
  pub takes : room_of script ≡ room
  pub moves : script.piece ≡ piece
  pub plan : script.plan ≡ None
  pub written : written_of script ≡ []
  pub failures : failures_of script ≡ 0
  pub ended : script.ended ≡ false
  pub full : script.full ≡ false

-- two scripts hold the same bytes, move as many a call and told the same
pub record SameBytes (old new : Script) : Type 0 where
  pub given : new.given ≡ old.given
  pub at : new.at ≡ old.at
  pub written : new.written ≡ old.written
  pub piece : new.piece ≡ old.piece
  pub ended : new.ended ≡ old.ended
  pub full : new.full ≡ old.full

-- two scripts hold the same bytes, move as many a call, told the same and failed as often
pub record SameDevice (old new : Script) : Type 0 where
  pub bytes : SameBytes old new
  pub failures : failures_of new ≡ failures_of old

-- how often a call fails that meets this trouble
abbrev pub failures_in : Option Trouble → ℕ
failures_in (Some Failure) = 1
failures_in (Some Standstill) = 0
failures_in None = 0
