use Rattle.std.proofs.Common.{refl, subst, arith}
use Rattle.carriers.specs.Answers.{PopAnswersOf}
use Rattle.tasks.proofs.Deeds.{pop_refused_mine}
use Rattle.tasks.proofs.Handing.{leads_same, leads_told}
use Rattle.tasks.proofs.Going.{goes_results}
use Rattle.tasks.proofs.leader.take_result.Goals as goal

pub returns-in_err-front-clause-leading : goal.returns-in_err-front-clause-leading
returns-in_err-front-clause-leading g c =
    let C = g.C.Carrier in
    let D = g.D.Carrier in
    let l = c.args.leader.now in
    let k = C.known l.tasks in
    let o = D.known l.results in
    let o' = D.known c.pop.new.seat in
    goes_results C.is_seat C.permits C.known D.is_seat D.permits D.known g.T.Task.answers g.F.Feed.stands _ _ l c.requires c.pop.new.seat l.feed l.awaited c.pop.ensures.seat c.pop.ensures.number
    (leads_same g.T.Task.answers (g.F.Feed.stands l.feed) k k o o' l.given l.awaited c.requires.so refl refl (pop_refused_mine o o' _ c.in_err-front.ensures.refused))

pub returns-in-Some-2-clause-leading : goal.returns-in-Some-2-clause-leading
returns-in-Some-2-clause-leading g c =
    let C = g.C.Carrier in
    let D = g.D.Carrier in
    let l = c.args.leader.now in
    let k = C.known l.tasks in
    let o = D.known l.results in
    let o' = D.known c.pop.new.seat in
    let front = c.in-Some-2.front in
    let popped = subst (λ a. PopAnswersOf o a o') c.in-Some-2.is c.in_ok-front.ensures.answer in
    let less = c.in-Some.ensures in
    goes_results C.is_seat C.permits C.known D.is_seat D.permits D.known g.T.Task.answers g.F.Feed.stands _ _ l c.requires c.pop.new.seat
    c.tell.new.self c.in-Some.awaited c.pop.ensures.seat c.pop.ensures.number
    (leads_told g.T.Task.answers (g.F.Feed.stands l.feed) k k o o' l.given l.awaited c.requires.so (g.F.Feed.stands c.tell.new.self) front.value
    c.tell.ensures.stands c.in-Some.awaited (omega (arith, less)) o.number front refl popped.mine)
