-- What was sent and what was taken, by sender.
use Rattle.std.specs.Prelude.{ℕ, List, map, nat_eq}
use Rattle.std.specs.List.{filter}
use mathlib.Core.List.{IsPrefix}
use Rattle.history.specs.declared.operations.Entry.{Entry}
use Rattle.history.specs.declared.operations.Taken.{Taken}
use Rattle.history.specs.Seats.{Known}
use Rattle.history.specs.Values.{pushed, popped}

-- the bodies of the values that one seat pushed, in order
abbrev pub bodies_from : (sender : ℕ) → List Taken → List ℕ
bodies_from sender values = map (λ v. v.body) (filter (λ v. nat_eq v.from sender) values)

-- the bodies that a sender sent in a history, in order
abbrev pub sent_by : (sender : ℕ) → List Entry → List ℕ
sent_by sender history = bodies_from sender (pushed history)

-- the bodies taken of a sender, in order
abbrev pub taken_of : (sender : ℕ) → (mine : List Entry) → List ℕ
taken_of sender mine = bodies_from sender (popped mine)

-- what a seat took of each sender is a prefix of what that sender sent, in order, each once
abbrev pub InOrder : Known → Type 0
InOrder k = (sender : ℕ) → IsPrefix (taken_of sender k.mine) (sent_by sender k.seen)
