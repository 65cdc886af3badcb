use Rattle.std.proofs.Common.{◌≡◌, ◌∙◌, ap, sym}
use Rattle.expand_engine.specs.Recipes.{SoFar}
use Rattle.expand_engine.proofs.SoFar.{reads_on, refused_line}
use Rattle.expand_engine.proofs.readers.Reading.read_line.Goals as goal

pub returns-in_ok-keep-in-Ok-clause-ok : goal.returns-in_ok-keep-in-Ok-clause-ok
returns-in_ok-keep-in-Ok-clause-ok c =
    let same : c.args.self.now.due ≡ c.self.inside.due = sym (ap (λ (so : SoFar). so.due) c.self.view_is) in
    reads_on c.args.self.now c.keep.new.self c.self.inside.due c.args.text.now c.in-Some.line.now c.in-Some.rest.now c.deref.result.now c.in-Ok.said same (c.deref.ensures.value ∙ c.in_ok-speak.ensures.ok)
    c.in-Some.ensures.1 c.in-Some.ensures.0 c.in-Ok.ensures.0 c.in-Ok.ensures.1 c.in_ok-keep-in-Ok.ensures.due c.in_ok-keep-in-Ok.ensures.sized c.in_ok-keep-in-Ok.ensures.added

pub returns-in-Err-clause-err : goal.returns-in-Err-clause-err
returns-in-Err-clause-err c =
    let same : c.args.self.now.due ≡ c.self.inside.due = sym (ap (λ (so : SoFar). so.due) c.self.view_is) in
    refused_line c.args.self.now c.self.inside.due c.args.text.now c.in-Some.line.now c.in-Some.rest.now c.deref.result.now c.next_number-number.result c.in-Err.cause same
    (c.deref.ensures.value ∙ c.in_ok-speak.ensures.ok) c.next_number-number.ensures c.requires.due c.in-Some.ensures.1 c.in-Some.ensures.0 c.in-Err.ensures
