use Rattle.std.proofs.Common.{◌≡◌, ◌+◌, refl, subst, rules, arith}
use Rattle.tasks.specs.Tasks.{IsDoneOf}
use Rattle.tasks.proofs.Working.{refused_mine}
use Rattle.tasks.proofs.Handing.{awaited_low, leads_pushed, leads_ran}
use Rattle.tasks.proofs.Going.{goes_tasks}
use Rattle.tasks.proofs.leader.hand_out.Goals as goal

pub overflow_add-leader : goal.overflow_add-leader
overflow_add-leader g c =
    let C = g.C.Carrier in
    let D = g.D.Carrier in
    let l = c.args.leader.now in
    let k = C.known l.tasks in
    let o = D.known l.results in
    let low = awaited_low g.T.Task.answers (g.F.Feed.stands l.feed) k k o o l.given l.awaited c.requires.so in
    let given = c.in-Some.ensures in
    search (rules, low, given)

pub returns-in-Ok-clause-leading : goal.returns-in-Ok-clause-leading
returns-in-Ok-clause-leading g c =
    let C = g.C.Carrier in
    let D = g.D.Carrier in
    let l = c.args.leader.now in
    let k = C.known l.tasks in
    let k' = C.known c.push.new.seat in
    let o = D.known l.results in
    let given = c.in-Some.ensures in
    let more : c.in-Some.given ≡ l.given + 1 = omega (arith, given) in
    goes_tasks C.is_seat C.permits C.known D.is_seat D.permits D.known g.T.Task.answers g.F.Feed.stands _ _ l c.requires c.push.new.seat c.next.new.self _ _ c.push.ensures.seat c.push.ensures.number
    (leads_pushed g.T.Task.answers (g.F.Feed.stands l.feed) k k' o o l.given l.awaited c.requires.so (g.F.Feed.stands c.next.new.self)
    c.in-Some-next.task c.in-Some-next.ensures.stands _ more _ refl c.in-Ok.ensures.pushed)

pub returns-in-Err-clause-leading : goal.returns-in-Err-clause-leading
returns-in-Err-clause-leading g c =
    let C = g.C.Carrier in
    let D = g.D.Carrier in
    let l = c.args.leader.now in
    let k = C.known l.tasks in
    let k' = C.known c.push.new.seat in
    let o = D.known l.results in
    let of = subst (λ x. IsDoneOf g.T.Task.answers x c.run.result) c.in-Err.ensures.back c.run.ensures in
    let given = c.in-Some.ensures in
    let more : c.in-Some.given ≡ l.given + 1 = omega (arith, given) in
    goes_tasks C.is_seat C.permits C.known D.is_seat D.permits D.known g.T.Task.answers g.F.Feed.stands _ _ l c.requires c.push.new.seat
    c.tell.new.self _ l.awaited c.push.ensures.seat c.push.ensures.number
    (leads_ran g.T.Task.answers (g.F.Feed.stands l.feed) k k' o o l.given l.awaited c.requires.so (g.F.Feed.stands c.next.new.self)
    c.in-Some-next.task c.in-Some-next.ensures.stands _ more (g.F.Feed.stands c.tell.new.self) c.run.result of c.tell.ensures.stands
    c.push.ensures.number
    (refused_mine k k' _ c.in-Err.ensures.refused))
