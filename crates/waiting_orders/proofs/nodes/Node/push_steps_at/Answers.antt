-- There is nothing at this place.
use Rattle.std.proofs.Common.{◌≡◌, ◌++◌, nat_lt, false, None, is_some, length, slice_get, sym, subst, ap, ◌∙◌}
use Rattle.std.proofs.lemmas.Bool.{ltb-false}
use Rattle.std.proofs.lemmas.List.{append-nil}
use Rattle.std.proofs.lemmas.Option.{slice_get_past}
use Rattle.waiting_orders.specs.Nodes.{steps_at, view, views}
use Rattle.waiting_orders.proofs.nodes.Node.push_steps_at.Goals as goal

pub returns-in-None : goal.returns-in-None
returns-in-None c =
    let past : nat_lt c.args.at (length c.args.ways.now) ≡ false = sym c.get.ensures.lookup.0 ∙ ap is_some c.in-None.is in
    let e : slice_get c.args.ways.now c.args.at ≡ None = slice_get_past c.args.ways.now c.args.at (ltb-false _ _ past) in
    subst (λ x. views c.args.new.now.items ≡ views c.args.new.now.items ++ steps_at c.args.pushes.now (view c.args.self.now) c.args.front.now c.args.ways.now x) (sym e)
    (sym (append-nil (views c.args.new.now.items)))
