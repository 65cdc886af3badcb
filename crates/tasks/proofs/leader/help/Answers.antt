use Rattle.std.proofs.Common.{refl, subst, arith}
use Rattle.carriers.specs.Answers.{PopAnswersOf}
use Rattle.tasks.proofs.Deeds.{pop_refused_mine}
use Rattle.tasks.proofs.Handing.{leads_same, leads_helped}
use Rattle.tasks.proofs.Going.{goes_tasks}
use Rattle.tasks.proofs.leader.help.Goals as goal

pub returns-in_err-front-clause-leading : goal.returns-in_err-front-clause-leading
returns-in_err-front-clause-leading g c =
    let C = g.C.Carrier in
    let D = g.D.Carrier in
    let l = c.args.leader.now in
    let k = C.known l.tasks in
    let k' = C.known c.pop.new.seat in
    let o = D.known l.results in
    goes_tasks C.is_seat C.permits C.known D.is_seat D.permits D.known g.T.Task.answers g.F.Feed.stands _ _ l c.requires.leading c.pop.new.seat l.feed
    l.given l.awaited c.pop.ensures.seat c.pop.ensures.number
    (leads_same g.T.Task.answers (g.F.Feed.stands l.feed) k k' o o l.given l.awaited c.requires.leading.so c.pop.ensures.number (pop_refused_mine k k' _ c.in_err-front.ensures.refused) refl)

pub returns-in-Some-clause-leading : goal.returns-in-Some-clause-leading
returns-in-Some-clause-leading g c =
    let C = g.C.Carrier in
    let D = g.D.Carrier in
    let l = c.args.leader.now in
    let k = C.known l.tasks in
    let k' = C.known c.pop.new.seat in
    let o = D.known l.results in
    let front = c.in-Some.front in
    let popped = subst (λ a. PopAnswersOf k a k') c.in-Some.is c.in_ok-front.ensures.answer in
    let some = c.requires.awaited in
    goes_tasks C.is_seat C.permits C.known D.is_seat D.permits D.known g.T.Task.answers g.F.Feed.stands _ _ l c.requires.leading c.pop.new.seat
    c.tell.new.self l.given _ c.pop.ensures.seat c.pop.ensures.number
    (leads_helped g.T.Task.answers (g.F.Feed.stands l.feed) k k' o o l.given l.awaited c.requires.leading.so (g.F.Feed.stands c.tell.new.self)
    c.run.result c.tell.ensures.stands _ (omega (arith, some)) front popped c.run.ensures)

pub returns-in-None-clause-leading : goal.returns-in-None-clause-leading
returns-in-None-clause-leading g c =
    let C = g.C.Carrier in
    let D = g.D.Carrier in
    let l = c.args.leader.now in
    let k = C.known l.tasks in
    let k' = C.known c.pop.new.seat in
    let o = D.known l.results in
    let empty = subst (λ a. PopAnswersOf k a k') c.in-None.is c.in_ok-front.ensures.answer in
    goes_tasks C.is_seat C.permits C.known D.is_seat D.permits D.known g.T.Task.answers g.F.Feed.stands _ _ l c.requires.leading c.pop.new.seat l.feed
    l.given l.awaited c.pop.ensures.seat c.pop.ensures.number
    (leads_same g.T.Task.answers (g.F.Feed.stands l.feed) k k' o o l.given l.awaited c.requires.leading.so c.pop.ensures.number empty.mine refl)
