-- A state is put to those that were tried, and all that one step leads to and isn't known to those ahead.
use Rattle.std.proofs.Common.{◌≡◌, None, sym, ap, ◌∙◌, subst, arith}
use Rattle.std.specs.List.{AllByRecursion}
use Rattle.std.proofs.lemmas.List.{length-map}
use Rattle.waiting_orders.specs.Indexed.{places_of}
use Rattle.waiting_orders.specs.Lines.{left_of, view_left}
use Rattle.waiting_orders.specs.Nodes.{turned, view, views}
use Rattle.waiting_orders.specs.Waiting.{IsCall, IsUntold}
use Rattle.waiting_orders.specs.Walked.{AddsBehind, IsFrom, IsRooted}
use Rattle.waiting_orders.proofs.Counting.{all_made, counts, fills, full_moved, grown, keeps, not_tried, were_moved, within}
use Rattle.waiting_orders.proofs.Rooted.{rooted_next, rooted_node}
use Rattle.waiting_orders.proofs.Stepping.{all_left, unended}
use Rattle.waiting_orders.proofs.Trying.{tries}
use Rattle.waiting_orders.proofs.searching.Search.try_one.Goals as goal

pub put-requires : goal.put-requires
put-requires c = not_tried c.args.board.now (views c.args.self.now.done.keys) (views c.args.self.now.ahead.keys) (view c.args.node) c.args.self.now.bytes c.requires.counted

pub returns-then-branch-clause-kept : goal.returns-then-branch-clause-kept
returns-then-branch-clause-kept c = λ h e.
    let done = views c.args.self.now.done.keys in
    let ahead = views c.args.self.now.ahead.keys in
    let new = views c.in_ok-new.new.items in
    let put = ap (λ d. views d.keys) c.in_ok-put_ahead.ensures.same ∙ c.in_ok-put.ensures.0 in
    let were = were_moved c.args.room (views c.put.new.self.done.keys) (views c.put_ahead.new.self.done.keys) (views c.put.new.self.ahead.keys) ahead c.put.new.self.bytes c.args.self.now.bytes
    (turned new) (views c.put_ahead.new.self.ahead.keys) c.put_ahead.new.self.bytes (ap (λ d. views d.keys) (sym c.in_ok-put_ahead.ensures.same)) (ap (λ a. views a.keys) c.in_ok-put.ensures.1)
    c.in_ok-put.ensures.2 (c.in_ok-put_ahead.ensures.all c.if-branch.true) in
    tries c.args.board.now done ahead (views c.put_ahead.new.self.ahead.keys) new (views c.put_ahead.new.self.done.keys) (view c.args.node) put
    (λ calls end. absurd (cc (sym (c.is_end.ensures.ended (subst (λ ops. AllByRecursion (λ o. o.last ≡ None) (left_of ops (view_left c.args.node.others))) (sym c.deref.ensures.value) (unended c.args.board.now (view c.args.node) calls end))) ∙ c.if-is_end.false))) c.in_ok-new.ensures.all
    (keeps c.args.room (views c.put_ahead.new.self.done.keys) ahead c.args.self.now.bytes (turned new) (views c.put_ahead.new.self.ahead.keys) c.put_ahead.new.self.bytes were)
    (all_made c.args.room (views c.put_ahead.new.self.done.keys) ahead c.args.self.now.bytes (turned new) (views c.put_ahead.new.self.ahead.keys) c.put_ahead.new.self.bytes were)
    h

pub returns-then-branch-clause-counted : goal.returns-then-branch-clause-counted
returns-then-branch-clause-counted c = λ e.
    let done = views c.args.self.now.done.keys in
    let ahead = views c.args.self.now.ahead.keys in
    let new = views c.in_ok-new.new.items in
    let put = ap (λ d. views d.keys) c.in_ok-put_ahead.ensures.same ∙ c.in_ok-put.ensures.0 in
    let were = were_moved c.args.room (views c.put.new.self.done.keys) (views c.put_ahead.new.self.done.keys) (views c.put.new.self.ahead.keys) ahead c.put.new.self.bytes c.args.self.now.bytes
    (turned new) (views c.put_ahead.new.self.ahead.keys) c.put_ahead.new.self.bytes (ap (λ d. views d.keys) (sym c.in_ok-put_ahead.ensures.same)) (ap (λ a. views a.keys) c.in_ok-put.ensures.1)
    c.in_ok-put.ensures.2 (c.in_ok-put_ahead.ensures.all c.if-branch.true) in
    counts c.args.board.now c.args.room done ahead (view c.args.node) c.args.self.now.bytes (views c.put_ahead.new.self.done.keys) new (views c.put_ahead.new.self.ahead.keys) c.put_ahead.new.self.bytes
    put c.in_ok-new.ensures.each were c.requires.counted

pub returns-then-branch-clause-room : goal.returns-then-branch-clause-room
returns-then-branch-clause-room c = λ e within_room.
    let ahead = views c.args.self.now.ahead.keys in
    let new = views c.in_ok-new.new.items in
    let were = were_moved c.args.room (views c.put.new.self.done.keys) (views c.put_ahead.new.self.done.keys) (views c.put.new.self.ahead.keys) ahead c.put.new.self.bytes c.args.self.now.bytes
    (turned new) (views c.put_ahead.new.self.ahead.keys) c.put_ahead.new.self.bytes (ap (λ d. views d.keys) (sym c.in_ok-put_ahead.ensures.same)) (ap (λ a. views a.keys) c.in_ok-put.ensures.1)
    c.in_ok-put.ensures.2 (c.in_ok-put_ahead.ensures.all c.if-branch.true) in
    within c.args.room (views c.put_ahead.new.self.done.keys) ahead c.args.self.now.bytes (turned new) (views c.put_ahead.new.self.ahead.keys) c.put_ahead.new.self.bytes were within_room

pub returns-then-branch-clause-fewer : goal.returns-then-branch-clause-fewer
returns-then-branch-clause-fewer c = λ e.
    let ahead = views c.args.self.now.ahead.keys in
    let new = views c.in_ok-new.new.items in
    let were = were_moved c.args.room (views c.put.new.self.done.keys) (views c.put_ahead.new.self.done.keys) (views c.put.new.self.ahead.keys) ahead c.put.new.self.bytes c.args.self.now.bytes
    (turned new) (views c.put_ahead.new.self.ahead.keys) c.put_ahead.new.self.bytes (ap (λ d. views d.keys) (sym c.in_ok-put_ahead.ensures.same)) (ap (λ a. views a.keys) c.in_ok-put.ensures.1)
    c.in_ok-put.ensures.2 (c.in_ok-put_ahead.ensures.all c.if-branch.true) in
    let less = grown c.args.room (views c.put_ahead.new.self.done.keys) ahead c.args.self.now.bytes (turned new) (views c.put_ahead.new.self.ahead.keys) c.put_ahead.new.self.bytes were in
    let before = length-map c.args.self.now.ahead.keys view in
    let after = length-map c.put_ahead.new.self.ahead.keys view in
    omega (arith, less, before, after)

pub returns-else-branch-clause-told : goal.returns-else-branch-clause-told
returns-else-branch-clause-told c = λ e.
    let done = views c.args.self.now.done.keys in
    let ahead = views c.args.self.now.ahead.keys in
    let new = views c.in_ok-new.new.items in
    fills c.args.board.now c.args.room done ahead (view c.args.node) c.args.self.now.bytes (views c.put.new.self.done.keys) new c.in_ok-put.ensures.0 c.in_ok-new.ensures.each
    (full_moved c.args.room (views c.put.new.self.done.keys) (views c.put.new.self.ahead.keys) ahead c.put.new.self.bytes c.args.self.now.bytes (turned new) (ap (λ a. views a.keys) c.in_ok-put.ensures.1)
    c.in_ok-put.ensures.2 (c.in_ok-put_ahead.ensures.full c.if-branch.false))
    c.requires.counted

pub returns-then-branch-clause-rooted : goal.returns-then-branch-clause-rooted
returns-then-branch-clause-rooted c = λ e.
    let same = ap (λ d. d.keys) c.in_ok-put_ahead.ensures.same in
    let put = c.in_ok-put.ensures.3 in
    let added = subst (λ ahead. AddsBehind c.put.new.self.done.keys (views c.in_ok-new.new.items) ahead.keys c.put_ahead.new.self.ahead.keys) c.in_ok-put.ensures.1 (c.in_ok-put_ahead.ensures.behind c.if-branch.true) in
    subst (λ done. IsRooted c.args.board.now done c.put_ahead.new.self.ahead.keys) (sym same)
    (rooted_next c.args.board.now c.args.self.now.done.keys c.args.self.now.ahead.keys c.put.new.self.done.keys c.put_ahead.new.self.ahead.keys c.args.node (views c.in_ok-new.new.items) put
    c.in_ok-new.ensures.behind added c.requires.rooted)

pub order-requires-clause-end : goal.order-requires-clause-end
order-requires-clause-end c =
    subst (λ done. IsFrom c.args.board.now done c.args.node) (sym c.as_slice.ensures.keys)
    (rooted_node c.args.board.now c.args.self.now.done.keys c.args.self.now.ahead.keys c.args.node c.requires.rooted)

pub returns-then-is_end-clause-order : goal.returns-then-is_end-clause-order
returns-then-is_end-clause-order c = λ calls ops is.
    let untold = subst (λ ops. AllByRecursion IsUntold (left_of ops (view_left c.args.node.others))) c.deref.ensures.value
    (c.is_end.ensures.untold c.if-is_end.true (subst (λ ops. AllByRecursion IsCall (left_of ops (view_left c.args.node.others))) (sym c.deref.ensures.value)
    (all_left IsCall c.args.board.now.others.items (view_left c.args.node.others) calls.other_calls))) in
    (c.in_ok-order.order.items, c.in_ok-order.ensures calls untold ops is, c.in_ok-places.ensures ∙ ap places_of c.deref-then-is_end.ensures.value)
