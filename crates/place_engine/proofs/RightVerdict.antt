-- The verdict on a history is yes exactly where it is placed and legal.
use Rattle.std.proofs.Common.{◌≡◌, ◌↔◌, List, sym, ◌∙◌}
use Rattle.history.specs.declared.operations.Stamped.{Stamped}
use Rattle.history.specs.declared.operations.Verdict.{Verdict}
use Rattle.history.specs.declared.operations.Verdict.TheVariants.{Yes}
use Rattle.history.specs.History.{Placement, IsLegal, verdict}
use Rattle.history.proofs.Judging.{yes_is_right}
use Rattle.history.proofs.Judged.{right_is_yes}

pub verdict_is_right : (ops : List Stamped) (answer : Verdict) → answer ≡ verdict ops → (answer ≡ Yes) ↔ (Placement ops × IsLegal ops)
verdict_is_right ops answer e = (λ yes. yes_is_right ops (sym e ∙ yes), λ right. e ∙ right_is_yes ops right.0 right.1)
