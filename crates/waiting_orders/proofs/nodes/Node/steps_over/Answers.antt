-- What changes nothing goes first, or a pop goes alone; else each step leads to one of the states that are made, or a pending pop is needed.
use Rattle.std.proofs.Common.{◌≡◌, ◌++◌, true, false, length, slice_get, ap, ◌∙◌, subst}
use Rattle.std.specs.List.{AllByRecursion}
use Rattle.waiting_orders.specs.Lines.{IsLimit, ArePicks, AreOut, left_of, view_picks}
use Rattle.waiting_orders.specs.declared.steps.Front.{Front}
use Rattle.waiting_orders.specs.Reached.{AreOutOf}
use Rattle.waiting_orders.specs.Nodes.{Spot, steps_to, pending_of, none_pending, is_first_at, quiet_at, view, views}
use Rattle.waiting_orders.specs.Alone.{BeginsLater, IsAloneAt, alone_at}
use Rattle.waiting_orders.proofs.Firsts.{quiet_steps}
use Rattle.waiting_orders.proofs.GoingAlone.{alone_steps}
use Rattle.waiting_orders.proofs.GoingOn.{going, going_alone, going_first}
use Rattle.waiting_orders.proofs.Leading.{led, led_alone, led_first}
use Rattle.waiting_orders.proofs.Needed.{needed_steps}
use Rattle.waiting_orders.proofs.nodes.Node.steps_over.Goals as goal

pub returns-in-Some-clause-all : goal.returns-in-Some-clause-all
returns-in-Some-clause-all c = λ board e f.
    let s : Spot = view c.args.self.now in
    let front : Front = record { limit = c.limit-limit.result; push_limit = c.limit-push_limit.result; takes = c.in_ok-takes.takes; empty = c.first_empty-empty.result } in
    let ways = c.in_ok-ways.ways.items in
    quiet_steps board s front ways c.in-Some.at (views c.in_ok-new-in-Some.new.items)
    (subst (λ ops. IsLimit (left_of ops s.others) c.limit-limit.result) e c.limit-limit.ensures)
    (subst (λ ops. IsLimit (left_of ops s.pushes) c.limit-push_limit.result) f c.limit-push_limit.ensures)
    (subst (λ ops. AreOut ops s.others (view_picks ways)) e c.in_ok-ways.ensures.each)
    (subst (λ l. is_first_at s front (slice_get l c.in-Some.at) ≡ true) c.deref-2.ensures.value c.in-Some.ensures)
    (subst (λ l. views c.in_ok-new-in-Some.new.items ≡ quiet_at s (slice_get l c.in-Some.at)) c.deref-in-Some.ensures.value c.in_ok-new-in-Some.ensures)

pub returns-in-Some-first_alone-clause-all : goal.returns-in-Some-first_alone-clause-all
returns-in-Some-first_alone-clause-all c = λ board e f.
    let s : Spot = view c.args.self.now in
    let front : Front = record { limit = c.limit-limit.result; push_limit = c.limit-push_limit.result; takes = c.in_ok-takes.takes; empty = c.first_empty-empty.result } in
    let ways = c.in_ok-ways.ways.items in
    let takes = c.in_ok-takes.takes.items in
    alone_steps board s front ways c.in-Some-first_alone.alone.way c.in-Some-first_alone.alone.take (views c.in_ok-new-in-Some-first_alone.new.items)
    (subst (λ ops. IsLimit (left_of ops s.others) c.limit-limit.result) e c.limit-limit.ensures)
    (subst (λ ops. ArePicks ops s.others c.limit-limit.result (view_picks ways)) e c.in_ok-ways.ensures.all)
    (subst (λ ops. AreOut ops s.others (view_picks ways)) e c.in_ok-ways.ensures.each)
    (subst (λ ops. AreOut ops s.pushes (view_picks takes)) f c.in_ok-takes.ensures.each)
    (subst (AllByRecursion (BeginsLater c.first_empty-empty.result)) c.deref.ensures.value c.first_empty-empty.ensures)
    (subst (λ ops. IsAloneAt ops board.pushes.items s front (slice_get ways c.in-Some-first_alone.alone.way) (slice_get takes c.in-Some-first_alone.alone.take)) e
    (subst (λ ops. IsAloneAt c.args.others.now ops s front (slice_get ways c.in-Some-first_alone.alone.way) (slice_get takes c.in-Some-first_alone.alone.take)) f
    (subst (λ l. IsAloneAt c.args.others.now c.args.pushes.now s front (slice_get l c.in-Some-first_alone.alone.way) (slice_get takes c.in-Some-first_alone.alone.take)) c.deref-in-None.ensures.value c.in-Some-first_alone.ensures)))
    (subst (λ l. views c.in_ok-new-in-Some-first_alone.new.items ≡ alone_at s (slice_get l c.in-Some-first_alone.alone.way) (slice_get takes c.in-Some-first_alone.alone.take)) c.deref-in-Some-first_alone.ensures.value c.in_ok-new-in-Some-first_alone.ensures)

pub returns-clause-all : goal.returns-clause-all
returns-clause-all c = λ board e f.
    let s : Spot = view c.args.self.now in
    let front : Front = record { limit = c.limit-limit.result; push_limit = c.limit-push_limit.result; takes = c.in_ok-takes.takes; empty = c.first_empty-empty.result } in
    let ways = c.in_ok-ways.ways.items in
    let behind = c.in_ok-behind-in-None-first_alone.behind.items in
    let made : views c.in_ok-new-in-None-first_alone.new.items ≡ steps_to (length ways) c.args.pushes.now s front ways ++ pending_of s front behind ways =
    subst (λ b. views c.in_ok-new-in-None-first_alone.new.items ≡ steps_to (length ways) c.args.pushes.now s front ways ++ pending_of s front b ways) c.deref-in-None-first_alone-2.ensures.value
    (subst (λ l. views c.in_ok-new-in-None-first_alone.new.items ≡ steps_to (length l) c.args.pushes.now s front l ++ pending_of s front c.deref-in-None-first_alone-2.result.now l) c.deref-in-None-first_alone-3.ensures.value c.in_ok-new-in-None-first_alone.ensures) in
    let some = subst (λ l. none_pending l ≡ false → ArePicks c.args.pushes.now s.pushes c.limit-limit.result (view_picks behind)) c.deref-in-None-first_alone.ensures.value c.in_ok-behind-in-None-first_alone.ensures in
    needed_steps board s front ways behind (views c.in_ok-new-in-None-first_alone.new.items)
    (subst (λ ops. IsLimit (left_of ops s.others) c.limit-limit.result) e c.limit-limit.ensures)
    (subst (λ ops. IsLimit (left_of ops s.pushes) c.limit-push_limit.result) f c.limit-push_limit.ensures)
    (subst (λ ops. ArePicks ops s.others c.limit-limit.result (view_picks ways)) e c.in_ok-ways.ensures.all)
    (subst (λ ops. AreOut ops s.others (view_picks ways)) e c.in_ok-ways.ensures.each)
    (subst (λ ops. ArePicks ops s.pushes c.limit-push_limit.result (view_picks c.in_ok-takes.takes.items)) f c.in_ok-takes.ensures.all)
    (subst (λ ops. AreOut ops s.pushes (view_picks c.in_ok-takes.takes.items)) f c.in_ok-takes.ensures.each)
    (subst (AllByRecursion (BeginsLater c.first_empty-empty.result)) c.deref.ensures.value c.first_empty-empty.ensures)
    (λ p. subst (λ ops. ArePicks ops s.pushes c.limit-limit.result (view_picks behind)) f (some p))
    (made ∙ ap (λ ops. steps_to (length ways) ops s front ways ++ pending_of s front behind ways) f)

-- ---- to each state that is made a step leads

pub returns-in-Some-clause-each : goal.returns-in-Some-clause-each
returns-in-Some-clause-each c =
    let s : Spot = view c.args.self.now in
    let front : Front = record { limit = c.limit-limit.result; push_limit = c.limit-push_limit.result; takes = c.in_ok-takes.takes; empty = c.first_empty-empty.result } in
    led_first c.args.others.now c.args.pushes.now s front c.in_ok-takes.ensures.left c.in_ok-ways.ways.items c.in_ok-ways.ensures.left c.in-Some.at (views c.in_ok-new-in-Some.new.items)
    (subst (λ l. views c.in_ok-new-in-Some.new.items ≡ quiet_at s (slice_get l c.in-Some.at)) c.deref-in-Some.ensures.value c.in_ok-new-in-Some.ensures)

pub returns-in-Some-first_alone-clause-each : goal.returns-in-Some-first_alone-clause-each
returns-in-Some-first_alone-clause-each c =
    let s : Spot = view c.args.self.now in
    let front : Front = record { limit = c.limit-limit.result; push_limit = c.limit-push_limit.result; takes = c.in_ok-takes.takes; empty = c.first_empty-empty.result } in
    led_alone c.args.others.now c.args.pushes.now s front c.in_ok-takes.ensures.left c.in_ok-ways.ways.items c.in_ok-ways.ensures.left c.in-Some-first_alone.alone.way c.in-Some-first_alone.alone.take
    (views c.in_ok-new-in-Some-first_alone.new.items)
    (subst (λ l. views c.in_ok-new-in-Some-first_alone.new.items ≡ alone_at s (slice_get l c.in-Some-first_alone.alone.way) (slice_get c.in_ok-takes.takes.items c.in-Some-first_alone.alone.take)) c.deref-in-Some-first_alone.ensures.value c.in_ok-new-in-Some-first_alone.ensures)

pub returns-clause-each : goal.returns-clause-each
returns-clause-each c =
    let s : Spot = view c.args.self.now in
    let front : Front = record { limit = c.limit-limit.result; push_limit = c.limit-push_limit.result; takes = c.in_ok-takes.takes; empty = c.first_empty-empty.result } in
    let ways = c.in_ok-ways.ways.items in
    let behind = c.in_ok-behind-in-None-first_alone.behind.items in
    led c.args.others.now c.args.pushes.now s front c.in_ok-takes.ensures.left ways c.in_ok-ways.ensures.left behind (views c.in_ok-new-in-None-first_alone.new.items)
    (subst (λ b. views c.in_ok-new-in-None-first_alone.new.items ≡ steps_to (length ways) c.args.pushes.now s front ways ++ pending_of s front b ways) c.deref-in-None-first_alone-2.ensures.value
    (subst (λ l. views c.in_ok-new-in-None-first_alone.new.items ≡ steps_to (length l) c.args.pushes.now s front l ++ pending_of s front c.deref-in-None-first_alone-2.result.now l) c.deref-in-None-first_alone-3.ensures.value c.in_ok-new-in-None-first_alone.ensures))

-- ---- and an operation goes, or is set aside

pub returns-in-Some-clause-behind : goal.returns-in-Some-clause-behind
returns-in-Some-clause-behind c = λ board e f calls.
    let s : Spot = view c.args.self.now in
    let front : Front = record { limit = c.limit-limit.result; push_limit = c.limit-push_limit.result; takes = c.in_ok-takes.takes; empty = c.first_empty-empty.result } in
    let ways = c.in_ok-ways.ways.items in
    going_first board s front calls
    (subst (λ ops. IsLimit (left_of ops s.others) c.limit-limit.result) e c.limit-limit.ensures)
    (subst (λ ops. IsLimit (left_of ops s.pushes) c.limit-push_limit.result) f c.limit-push_limit.ensures)
    ways
    (subst (λ ops. AreOut ops s.others (view_picks ways)) e c.in_ok-ways.ensures.each)
    (subst (λ ops. AreOut ops s.pushes (view_picks c.in_ok-takes.takes.items)) f c.in_ok-takes.ensures.each)
    (subst (λ ops. AreOutOf ops s.others (view_picks ways)) e c.in_ok-ways.ensures.left)
    (subst (λ ops. AreOutOf ops s.pushes (view_picks c.in_ok-takes.takes.items)) f c.in_ok-takes.ensures.left)
    c.in-Some.at (views c.in_ok-new-in-Some.new.items)
    (subst (λ l. is_first_at s front (slice_get l c.in-Some.at) ≡ true) c.deref-2.ensures.value c.in-Some.ensures)
    (subst (λ l. views c.in_ok-new-in-Some.new.items ≡ quiet_at s (slice_get l c.in-Some.at)) c.deref-in-Some.ensures.value c.in_ok-new-in-Some.ensures)

pub returns-in-Some-first_alone-clause-behind : goal.returns-in-Some-first_alone-clause-behind
returns-in-Some-first_alone-clause-behind c = λ board e f calls.
    let s : Spot = view c.args.self.now in
    let front : Front = record { limit = c.limit-limit.result; push_limit = c.limit-push_limit.result; takes = c.in_ok-takes.takes; empty = c.first_empty-empty.result } in
    let ways = c.in_ok-ways.ways.items in
    let takes = c.in_ok-takes.takes.items in
    going_alone board s front calls
    (subst (λ ops. IsLimit (left_of ops s.others) c.limit-limit.result) e c.limit-limit.ensures)
    (subst (λ ops. IsLimit (left_of ops s.pushes) c.limit-push_limit.result) f c.limit-push_limit.ensures)
    ways
    (subst (λ ops. AreOut ops s.others (view_picks ways)) e c.in_ok-ways.ensures.each)
    (subst (λ ops. AreOut ops s.pushes (view_picks takes)) f c.in_ok-takes.ensures.each)
    (subst (λ ops. AreOutOf ops s.others (view_picks ways)) e c.in_ok-ways.ensures.left)
    (subst (λ ops. AreOutOf ops s.pushes (view_picks takes)) f c.in_ok-takes.ensures.left)
    c.in-Some-first_alone.alone.way c.in-Some-first_alone.alone.take (views c.in_ok-new-in-Some-first_alone.new.items)
    (subst (λ ops. IsAloneAt ops board.pushes.items s front (slice_get ways c.in-Some-first_alone.alone.way) (slice_get takes c.in-Some-first_alone.alone.take)) e
    (subst (λ ops. IsAloneAt c.args.others.now ops s front (slice_get ways c.in-Some-first_alone.alone.way) (slice_get takes c.in-Some-first_alone.alone.take)) f
    (subst (λ l. IsAloneAt c.args.others.now c.args.pushes.now s front (slice_get l c.in-Some-first_alone.alone.way) (slice_get takes c.in-Some-first_alone.alone.take)) c.deref-in-None.ensures.value c.in-Some-first_alone.ensures)))
    (subst (λ l. views c.in_ok-new-in-Some-first_alone.new.items ≡ alone_at s (slice_get l c.in-Some-first_alone.alone.way) (slice_get takes c.in-Some-first_alone.alone.take)) c.deref-in-Some-first_alone.ensures.value c.in_ok-new-in-Some-first_alone.ensures)

pub returns-clause-behind : goal.returns-clause-behind
returns-clause-behind c = λ board e f calls.
    let s : Spot = view c.args.self.now in
    let front : Front = record { limit = c.limit-limit.result; push_limit = c.limit-push_limit.result; takes = c.in_ok-takes.takes; empty = c.first_empty-empty.result } in
    let ways = c.in_ok-ways.ways.items in
    let behind = c.in_ok-behind-in-None-first_alone.behind.items in
    let made : views c.in_ok-new-in-None-first_alone.new.items ≡ steps_to (length ways) c.args.pushes.now s front ways ++ pending_of s front behind ways =
    subst (λ b. views c.in_ok-new-in-None-first_alone.new.items ≡ steps_to (length ways) c.args.pushes.now s front ways ++ pending_of s front b ways) c.deref-in-None-first_alone-2.ensures.value
    (subst (λ l. views c.in_ok-new-in-None-first_alone.new.items ≡ steps_to (length l) c.args.pushes.now s front l ++ pending_of s front c.deref-in-None-first_alone-2.result.now l) c.deref-in-None-first_alone-3.ensures.value c.in_ok-new-in-None-first_alone.ensures) in
    going board s front calls
    (subst (λ ops. IsLimit (left_of ops s.others) c.limit-limit.result) e c.limit-limit.ensures)
    (subst (λ ops. IsLimit (left_of ops s.pushes) c.limit-push_limit.result) f c.limit-push_limit.ensures)
    ways
    (subst (λ ops. AreOut ops s.others (view_picks ways)) e c.in_ok-ways.ensures.each)
    (subst (λ ops. AreOut ops s.pushes (view_picks c.in_ok-takes.takes.items)) f c.in_ok-takes.ensures.each)
    (subst (λ ops. AreOutOf ops s.others (view_picks ways)) e c.in_ok-ways.ensures.left)
    (subst (λ ops. AreOutOf ops s.pushes (view_picks c.in_ok-takes.takes.items)) f c.in_ok-takes.ensures.left)
    behind (views c.in_ok-new-in-None-first_alone.new.items)
    (made ∙ ap (λ ops. steps_to (length ways) ops s front ways ++ pending_of s front behind ways) f)
