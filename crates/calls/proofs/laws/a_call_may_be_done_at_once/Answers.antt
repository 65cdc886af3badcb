-- A push and a pop compute to that.
use Rattle.std.proofs.Common.{◌≡◌, Bool, true, false, refl, sym, true≢false}
use Rattle.calls.specs.declared.calls.Task.{Task}
use Rattle.calls.specs.declared.calls.Task.TheVariants.{Push, Pop}
use Rattle.calls.specs.Machine.{may_wait, IsAllAtOnce}
use Rattle.calls.proofs.laws.a_call_may_be_done_at_once.Goals as goal

all_at_once : (t : Task) → may_wait t ≡ true → IsAllAtOnce t
all_at_once Push it = λ tries past later. refl
all_at_once Pop it = λ tries past later. refl
all_at_once t it = absurd (true≢false (sym it))

pub returns : goal.returns
returns c = all_at_once
