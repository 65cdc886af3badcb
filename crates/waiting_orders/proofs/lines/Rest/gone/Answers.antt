-- Where all from a later place on are left, it is the one before that place; else one of those kept.
use Rattle.std.proofs.Common.{◌≡◌, ℕ, List, Some, slice_get, subst, arith, tests}
use Rattle.waiting_orders.specs.Lines.{view_left, without}
use Rattle.waiting_orders.proofs.Gone.{kept_gone, later_gone}
use Rattle.waiting_orders.proofs.lines.Rest.gone.Goals as goal

pub returns-then-self-after : goal.returns-then-self-after
returns-then-self-after c = λ place is. later_gone (view_left c.args.self.now) (view_left c.args.after.now) place (grind (arith, tests, c.if-self-after.true)) is

pub returns-else-self-after : goal.returns-else-self-after
returns-else-self-after c = λ place is.
    kept_gone (view_left c.args.self.now) (view_left c.args.after.now) place c.first_gone.result (λ l. grind (arith, tests, c.if-self-after.false, l))
    (subst (λ (a : List ℕ). (at place : ℕ) → slice_get c.args.self.now.kept.items at ≡ Some place → a ≡ without at c.args.self.now.kept.items → c.first_gone.result ≡ place) c.deref-else-self-after.ensures.value
    (subst (λ (k : List ℕ). (at place : ℕ) → slice_get k at ≡ Some place → c.deref-else-self-after.result.now ≡ without at k → c.first_gone.result ≡ place) c.deref.ensures.value c.first_gone.ensures)) is
