-- A state that isn't known goes last, and its bytes are counted.
use Rattle.std.proofs.Common.{◌≡◌, ◌≤◌, ◌<◌, ◌+◌, ◌-◌, ◌^◌, inr, ◌∙◌, arith, tests}
use Rattle.std.proofs.Math.Nat.{min-eq_left}
use Rattle.waiting_orders.specs.Nodes.{view, views}
use Rattle.waiting_orders.proofs.Counting.{in_behind, put_last, put_node}
use Rattle.waiting_orders.proofs.searching.Search.put_last.Goals as goal

pub returns-clause-put : goal.returns-clause-put
returns-clause-put c = λ e.
    let old = c.args.self.now.bytes in
    let bytes = c.bytes-bytes.result in
    let least = c.bytes-bytes.ensures.least in
    let most = c.bytes-bytes.ensures.most in
    let under : bytes < c.args.room - old = grind (arith, tests, c.if-saturating_sub-bytes.false, c.saturating_sub.ensures) in
    let fits : old + bytes ≤ 2 ^ 64 - 1 = omega (arith, under, c.ranges.room.fits) in
    let sum : c.saturating_add-self.result ≡ old + bytes = c.saturating_add-self.ensures ∙ min-eq_left fits in
    let new = c.is_known.ensures.new c.if-is_known.false in
    let done = views c.args.self.now.done.keys in
    let ahead = views c.args.self.now.ahead.keys in
    inr (
      new,
      put_last c.args.node c.args.self.now.ahead.keys c.insert.new.self.keys (λ i. new (in_behind done ahead (view c.args.node) i)) c.in_ok-insert.ensures.keys,
      omega (arith, sum, least),
      omega (arith, sum, most),
      omega (arith, sum, under),
    )

pub returns-clause-stands : goal.returns-clause-stands
returns-clause-stands c = λ e.
    let new = c.is_known.ensures.new c.if-is_known.false in
    let done = views c.args.self.now.done.keys in
    let ahead = views c.args.self.now.ahead.keys in
    inr (put_node c.args.node c.args.self.now.ahead.keys c.insert.new.self.keys (λ i. new (in_behind done ahead (view c.args.node) i)) c.in_ok-insert.ensures.keys)
