-- What was read back is the order of the walk.
use Rattle.std.proofs.Common.{◌≡◌, ◌++◌, is_some, sym, ap, ◌∙◌, subst}
use Rattle.std.specs.List.{filter}
use Rattle.std.specs.List.Sorted.{IsPermutation}
use Rattle.waiting_orders.specs.Lines.{left_of}
use Rattle.waiting_orders.specs.Listed.{asides_of, merged, order_of, taken_of, IsOrderOf}
use Rattle.waiting_orders.specs.Nodes.{view}
use Rattle.waiting_orders.proofs.Listing.{order_is}
use Rattle.waiting_orders.proofs.orders.order.Goals as goal

pub returns : goal.returns
returns c = λ calls untold ops is.
    let end = view c.args.end.now in
    let walk = c.in_ok-walk.walk.items in
    let staying = c.in_ok-staying.staying.items in
    let asides = c.in_ok-asides.asides.items in
    let pushes : c.in_ok-pushes.pushes.items ≡ taken_of walk ++ staying =
    c.in_ok-pushes.ensures ∙ ap (λ l. taken_of l ++ c.deref-3.result.now) c.deref-2.ensures.value ∙ ap (λ l. taken_of walk ++ l) c.deref-3.ensures.value in
    let list : c.in_ok-list.list.items ≡ order_of walk 0 (taken_of walk ++ staying) =
    c.in_ok-list.ensures ∙ ap (λ l. order_of l 0 c.deref-6.result.now) c.deref-5.ensures.value ∙ ap (order_of walk 0) (c.deref-6.ensures.value ∙ pushes) in
    let all : c.in_ok-order.order.items ≡ merged asides (order_of walk 0 (taken_of walk ++ staying)) =
    c.in_ok-order.ensures ∙ ap (λ l. merged l c.deref-8.result.now) c.deref-7.ensures.value ∙ ap (merged asides) (c.deref-8.ensures.value ∙ list) in
    subst (IsOrderOf ops) (sym all)
    (order_is c.args.board.now end walk staying asides
    (subst (λ l. IsPermutation (filter (λ p. is_some p.last) (left_of l end.pushes)) staying) c.deref.ensures.value c.in_ok-staying.ensures.same) c.in_ok-staying.ensures.rising
    (subst (λ l. IsPermutation (asides_of l) asides) c.deref-4.ensures.value c.in_ok-asides.ensures.same) c.in_ok-asides.ensures.rising c.in_ok-walk.ensures calls untold ops is)
