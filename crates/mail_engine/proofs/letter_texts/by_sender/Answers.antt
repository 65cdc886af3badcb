use Rattle.std.proofs.Common.{rules, ◌≡◌}
use Rattle.std.proofs.lemmas.Fn.{always_returns_same}
use Rattle.std.proofs.lemmas.List.Sorted.{IsNonDecreasingBy-from_sort_by_key}
use Rattle.mailbox.specs.declared.receiver.Letter.{Letter}
use Rattle.mail_engine.proofs.letter_texts.by_sender.Goals as goal

pub returns-in-Ok-clause-ok : goal.returns-in-Ok-clause-ok
returns-in-Ok-clause-ok c = record {
  same = c.in-Ok.ensures.permutation;
  rising = IsNonDecreasingBy-from_sort_by_key (λ (l : Letter). l.from) _ c.in-Ok.ensures.sorted (λ a r q k. search rules);
  stable = c.in-Ok.ensures.stable (λ (l : Letter). l.from) (always_returns_same _ (λ a r. r ≡ a.0.now.from) _ (λ a r q k. search rules));
}
