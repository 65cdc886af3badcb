use Rattle.std.proofs.Common.{arith}
use Rattle.std.proofs.lemmas.Slice.Zip.{AllZip-long}
use Rattle.tasks.specs.Tasks.{Tells}
use Rattle.tasks.proofs.Settling.{all_settled}
use Rattle.tasks.proofs.executor.run_all.Goals as goal

pub answer_each-requires-clause-room : goal.answer_each-requires-clause-room
answer_each-requires-clause-room g c κs within =
    let same = AllZip-long (Tells g.T.Task.answers) c.args.tasks.items c.in-Ok-run_on.ran.outcomes.items c.in-Ok-run_on.ensures.told in
    let many = c.len.ensures in
    let room = c.in-Ok.ensures.room in
    omega (arith, same, many, room)

pub returns-in-Ok-run_on-clause-answers : goal.returns-in-Ok-run_on-clause-answers
returns-in-Ok-run_on-clause-answers g c = all_settled g.T.Task.answers c.args.tasks.items c.in-Ok-run_on.ran.outcomes.items c.answer_each.result.items c.in-Ok-run_on.ensures.told c.answer_each.ensures
