use Rattle.std.proofs.Common.{rules, arith, ◌≡◌, [], sym, subst}
use Rattle.std.proofs.lemmas.Grind.{common_steps}
use Rattle.std.proofs.lemmas.List.Elements.{All-nil, All-cons, All-append}
use Rattle.std.specs.List.{All}
use Rattle.mail_engine.proofs.tasks.idle_tasks.Goals as goal

pub loop-sender-preserved : goal.loop-sender-preserved
loop-sender-preserved g c =
    let steps = c.in-Some.ensures.steps in
    let was = c.loop-sender.invariant in
    let items = c.in-Ok.ensures.items in
    record {
      senders = grind (arith, common_steps);
      none =
          subst (All (λ t. t.texts.items ≡ [])) (sym items)
          (All-append (λ t. t.texts.items ≡ []) c.loop-sender.tasks.items _ was.none (All-cons (λ t. t.texts.items ≡ []) _ [] (search rules) (All-nil (λ t. t.texts.items ≡ []))));
      few = grind (arith, common_steps);
    }
