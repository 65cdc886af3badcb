-- What stands behind the end of a queue that is shut and empty: nothing.
use Rattle.std.proofs.Common.{◌≡◌, subst, true, List, [], ◌∷◌, ◌++◌}
use Rattle.history.specs.declared.operations.Entry.{Entry}
use Rattle.history.specs.declared.operations.Entry.TheVariants.{Push, Pop, Shut}
use Rattle.history.specs.declared.operations.Reply.TheVariants.{Done, Value, Refused}
use Rattle.history.specs.declared.refusals.Refusal.TheVariants.{Closed}
use Rattle.history.specs.Queue.{Queue}
use Rattle.history.specs.Entries.{Plays}

-- a queue that is shut and empty
abbrev ended : Queue
ended = record { values = []; shut = true }

-- nothing is done behind it
nothing_behind : (es : List Entry) (after : Queue) → Plays ended es after → ended ≡ after
nothing_behind [] after h = h
nothing_behind (Push seat body ∷ es) after h = absurd (let e : Refused Closed ≡ Done = h.0 in cc)
nothing_behind (Pop seat value ∷ es) after h = absurd (let e : Refused Closed ≡ Value value = h.0 in cc)
nothing_behind (Shut seat ∷ es) after h = absurd (let e : Refused Closed ≡ Done = h.0 in cc)

-- so what leads there, and further, leads there
pub ends_there : (es more : List Entry) (queue after : Queue) → Plays queue es ended → Plays queue (es ++ more) after → ended ≡ after
ends_there [] more queue after h k = nothing_behind more after (subst (λ q. Plays q more after) h k)
ends_there (Push seat body ∷ es) more queue after h k = ends_there es more _ after h.1 k.1
ends_there (Pop seat value ∷ es) more queue after h k = ends_there es more _ after h.1 k.1
ends_there (Shut seat ∷ es) more queue after h k = ends_there es more _ after h.1 k.1
