-- That no shut was known of.
use Rattle.shared_queue.specs.declared.shuts.Unshut.{Unshut}

-- what the seat was then
abbrev pub seat_unshut : {S : Type 0} → Unshut S → S
seat_unshut u = u.at.value
