-- Where a write fails, a prefix of the history is written.
use Rattle.std.proofs.Common.{◌≡◌, ◌∙◌, rules}
use Rattle.std.proofs.lemmas.Result.{IfErr-weaker}
use Rattle.place_engine.specs.GivenParts.{behind, given_part}
use Rattle.place_engine.proofs.found_texts.tell_points.Goals as goal

pub returns-then-count-eq0-clause-prefix : goal.returns-then-count-eq0-clause-prefix
returns-then-count-eq0-clause-prefix g c =
    let all : given_part c.args.count c.args.new.now ≡ c.args.new.now = search rules in
    rw all (IfErr-weaker c.print_history.result _ _ (λ refusal begun write. begun) c.print_history.ensures.prefix)

pub returns-in-Ok-clause-prefix : goal.returns-in-Ok-clause-prefix
returns-in-Ok-clause-prefix g c =
    let part : behind c.args.count c.args.new.now ≡ given_part c.args.count c.args.new.now = search rules in
    let is : c.in-Ok.given.items ≡ given_part c.args.count c.args.new.now = c.in-Ok.ensures ∙ part in
    rw (← is) (IfErr-weaker c.print_history-in-Ok.result _ _ (λ refusal begun write. begun) (rw c.deref.ensures.value at c.print_history-in-Ok.ensures.prefix))
