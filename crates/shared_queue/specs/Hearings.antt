-- What calls heard.
use Rattle.shared_queue.specs.declared.bells.Heard.{Heard}

-- what the call's seat was as it heard a bell
abbrev pub seat_heard : {S : Type 0} → Heard S → S
seat_heard h = h.at.value
