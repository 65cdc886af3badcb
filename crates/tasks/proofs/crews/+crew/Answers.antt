use Rattle.std.proofs.Common.{◌∙◌, ◌∷◌, [], ap, length, arith}
use Rattle.std.proofs.lemmas.List.{length-append}
use Rattle.tasks.proofs.Lying.{zip-pushed}
use Rattle.tasks.proofs.Zipping.{zip-long}
use Rattle.tasks.proofs.crews.+crew.Goals as goal

pub push_reserved-requires : goal.push_reserved-requires
push_reserved-requires g t c =
    let crew = c.join-worked.ensures.second in
    let many = zip-long _ _ _ crew.1.0 in
    let split = ap length c.in-Some.ensures.items in
    let parts = length-append c.pop.new.self.items (c.in-Some.seat ∷ []) in
    let room = c.requires.room in
    let same = crew.1.1 in
    omega (arith, many, split, parts, room, same)

pub returns-clause-back : goal.returns-clause-back
returns-clause-back g t c = zip-pushed _ _ _ c.join-worked.ensures.second.1.0 c.join-worked.ensures.first c.in-Some.ensures.items c.push_reserved.ensures.items

pub returns-clause-room : goal.returns-clause-room
returns-clause-room g t c = c.push_reserved.ensures.capacity ∙ c.join-worked.ensures.second.1.1
