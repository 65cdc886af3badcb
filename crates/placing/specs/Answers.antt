-- What an answer says of a recorded history.
use Rattle.std.specs.Prelude.{◌≡◌, ◌<◌, ℕ, List, All, length}
use Rattle.history.specs.declared.operations.Stamped.{Stamped}
use Rattle.history.specs.declared.operations.Verdict.TheVariants.{Yes}
use Rattle.history.specs.History.{verdict}
use Rattle.waiting_orders.specs.Reached.{TakesRoom}
use Rattle.waiting_orders.specs.Waiting.{IsOfQueue}
use Rattle.placing.specs.declared.answers.Unknown.{Unknown}
use Rattle.placing.specs.declared.answers.Unknown.TheVariants.{Room, Unplaced}
use Rattle.placing.specs.declared.answers.Placed.{Placed}
use Rattle.placing.specs.declared.answers.Placed.TheVariants.{History, Impossible, Open}
use Rattle.placing.specs.SpreadStamps.{IsSpread}
use Rattle.placing.specs.Reasons.{IsReason}
use Rattle.placing.specs.Faults.{IsFaultless}

-- a history with points that is judged Yes and is the given one but for stamps, or a reason; open is only one in which no
-- operation is wrong by itself
abbrev pub IsAnswer : List Stamped → Placed → Type 0
IsAnswer ops (History new) = IsSpread ops new.items × (verdict new.items ≡ Yes)
IsAnswer ops (Impossible reason) = IsReason ops reason
IsAnswer ops (Open cause) = All IsFaultless ops

-- Why neither was found, by a search whose states may take so many bytes: those that are reached take as many or more, or the
-- history is one of a queue, of more than 2147483648 operations.
abbrev pub IsCause : List Stamped → (room : ℕ) → Unknown → Type 0
IsCause ops room Room = TakesRoom ops room
IsCause ops room Unplaced = IsOfQueue ops × (2147483648 < length ops)

-- where an answer is open, it has its cause
abbrev pub HasCause : List Stamped → (room : ℕ) → Placed → Type 0
HasCause ops room (History new) = Unit {0}
HasCause ops room (Impossible reason) = Unit {0}
HasCause ops room (Open cause) = IsCause ops room cause
