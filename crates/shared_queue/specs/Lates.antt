-- That a call's time was over.
use Rattle.shared_queue.specs.declared.deadlines.Late.{Late}

-- what the call's seat was then
abbrev pub seat_then : {S : Type 0} → Late S → S
seat_then l = l.at.value
