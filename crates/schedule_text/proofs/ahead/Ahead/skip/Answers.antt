use Rattle.std.proofs.Common.{ℕ, ◌≤◌, List, length, drop, sym, ap, subst, ◌∙◌}
use Rattle.schedule_text.proofs.Streams.{range_rest}
use Rattle.schedule_text.proofs.ahead.Ahead.skip.Goals as goal

pub returns : goal.returns
returns c =
    let a = c.self.inside in
    range_rest a.bytes a.start c.args.count a.end (subst (λ (l : List ℕ). c.args.count ≤ length l) (sym c.self.view_is) c.requires)
    ∙ ap (drop c.args.count) c.self.view_is
