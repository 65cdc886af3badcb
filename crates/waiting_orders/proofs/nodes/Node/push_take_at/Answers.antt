-- There is nothing at this place.
use Rattle.std.proofs.Common.{◌≡◌, ◌++◌, nat_lt, false, None, is_some, length, slice_get, sym, subst, ap, ◌∙◌}
use Rattle.std.proofs.lemmas.Bool.{ltb-false}
use Rattle.std.proofs.lemmas.List.{append-nil}
use Rattle.std.proofs.lemmas.Option.{slice_get_past}
use Rattle.waiting_orders.specs.Nodes.{suits, take_at, view, views}
use Rattle.waiting_orders.proofs.nodes.Node.push_take_at.Goals as goal

pub returns-in-None : goal.returns-in-None
returns-in-None c =
    let takes = c.args.front.now.takes.items in
    let same : c.deref.result.now ≡ takes = c.deref.ensures.value in
    let past : nat_lt c.args.at (length takes) ≡ false =
    subst (λ xs. nat_lt c.args.at (length xs) ≡ false) same (sym c.get.ensures.lookup.0 ∙ ap is_some c.in-None.is) in
    let e : slice_get takes c.args.at ≡ None = slice_get_past takes c.args.at (ltb-false _ _ past) in
    subst (λ x. views c.args.new.now.items ≡ views c.args.new.now.items ++ take_at (suits c.args.front.now c.args.value.now) (view c.args.self.now) c.args.front.now c.args.way.now x) (sym e)
    (sym (append-nil (views c.args.new.now.items)))
