-- Where no limit is, nothing that is left was told a reply.
use Rattle.std.proofs.Common.{◌≡◌, ℕ, Bool, true, not, List, Option, is_some, sym, ◌∙◌}
use Rattle.std.specs.List.{AllByRecursion}
use Rattle.history.specs.declared.operations.Stamped.{Stamped}
use Rattle.waiting_orders.specs.Waiting.{IsCall, IsUntold}
use Rattle.waiting_orders.specs.Lines.{IsLimit}
use Rattle.waiting_orders.proofs.Passing.{no_limit_untold}

pub untold_where : (xs : List Stamped) (limit : Option ℕ) (b : Bool) → IsLimit xs limit → b ≡ not (is_some limit) → b ≡ true → AllByRecursion IsCall xs → AllByRecursion IsUntold xs
untold_where xs limit b h e f calls = no_limit_untold xs limit h calls (sym e ∙ f)
