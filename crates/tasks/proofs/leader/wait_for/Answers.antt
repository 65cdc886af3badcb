use Rattle.std.proofs.Common.{◌∙◌, ◌++◌, ◌∷◌, [], refl, arith}
use Rattle.carriers.specs.Deeds.{did_pop}
use Rattle.tasks.proofs.Handing.{leads_same, leads_told}
use Rattle.tasks.proofs.Going.{goes_results}
use Rattle.tasks.proofs.leader.wait_for.Goals as goal

pub returns-in-Err-clause-leading : goal.returns-in-Err-clause-leading
returns-in-Err-clause-leading g c =
    let C = g.C.Carrier in
    let D = g.D.Carrier in
    let l = c.args.leader.now in
    let k = C.known l.tasks in
    let o = D.known l.results in
    let o' = D.known c.take.new.seat in
    goes_results C.is_seat C.permits C.known D.is_seat D.permits D.known g.T.Task.answers g.F.Feed.stands _ _ l c.requires.leading c.take.new.seat
    l.feed l.awaited c.take.ensures.seat c.take.ensures.number
    (leads_same g.T.Task.answers (g.F.Feed.stands l.feed) k k o o' l.given l.awaited c.requires.leading.so refl refl c.in-Err.ensures.none)

pub returns-in-Ok-clause-leading : goal.returns-in-Ok-clause-leading
returns-in-Ok-clause-leading g c =
    let C = g.C.Carrier in
    let D = g.D.Carrier in
    let l = c.args.leader.now in
    let k = C.known l.tasks in
    let o = D.known l.results in
    let o' = D.known c.take.new.seat in
    let front = c.in-Ok.front in
    let got = c.in-Ok.ensures.taken in
    let some = c.requires.awaited in
    let n = got.last.number in
    goes_results C.is_seat C.permits C.known D.is_seat D.permits D.known g.T.Task.answers g.F.Feed.stands _ _ l c.requires.leading c.take.new.seat
    c.tell.new.self _ c.take.ensures.seat c.take.ensures.number
    (leads_told g.T.Task.answers (g.F.Feed.stands l.feed) k k o o' l.given l.awaited c.requires.leading.so (g.F.Feed.stands c.tell.new.self)
    front.value c.tell.ensures.stands _ (omega (arith, some)) n front refl
    (got.popped.mine ∙ (λ i. got.waited.mine i ++ did_pop n front ∷ [])))
