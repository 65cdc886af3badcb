use Rattle.std.proofs.Common.{◌<◌, ◌∙◌, ap, sym, subst, length}
use Rattle.std.specs.List.{All}
use Rattle.carriers.specs.Rests.{left_in}
use Rattle.tasks.specs.Gathers.{slots_in}
use Rattle.tasks.proofs.Gathering.{length-fills}
use Rattle.tasks.specs.Parts.{tells_of}
use Rattle.tasks.proofs.pools.told.Goals as goal

pub put_left-requires : goal.put_left-requires
put_left-requires g c =
    let long = ap length c.put_each.ensures ∙ length-fills (slots_in c.args.gather) (tells_of c.args.dones.items) in
    subst (λ n. All (λ x. x.value.number < n) (left_in c.args.rest)) (sym long) c.requires.left_within
