use Rattle.std.proofs.Common.{arith, ◌≡◌, ◌∙◌, ◌+◌, ◌-◌, [], ◌∷◌, List, sym, ap, subst, suc, length}
use Rattle.std.proofs.lemmas.List.{length-map}
use Rattle.std.proofs.lemmas.Grind.{common_steps}
use Rattle.std.specs.List.{All}
use Rattle.text_io.specs.Numerals.{IsWithin}
use Rattle.mail_engine.specs.declared.letters.Outgoing.{Outgoing}
use Rattle.mail_engine.proofs.Shares.{HaveBut, have_none, have_more, have_all}
use Rattle.mail_engine.proofs.tasks.tasks_of.Goals as goal

pub loop-letter-preserved : goal.loop-letter-preserved
loop-letter-preserved g c =
    let steps = c.in-Some.ensures.steps in
    let was = c.loop-letter.invariant in
    let one = c.in_ok-add_text.ensures.one in
    let split : c.loop-letter.letter-iterator.rest.items ≡ c.in-Some.letter ∷ c.next.new.self.rest.items = grind (arith, common_steps) in
    let fewer = ap length split in
    let all = subst (All (λ (e : Outgoing). IsWithin 1 (length c.args.senders.items) e.from)) split was.numbered in
    let number : c.in-Some.letter.from ≡ (c.from-place.result - 1) + 1 = let low = (all 0 c.in-Some.letter (omega arith)).0 in let same = c.from-place.ensures in omega (arith, low, same) in
    let texts = subst (λ (r : List Outgoing). HaveBut c.loop-letter.tasks.items r c.args.letters.items) split was.texts in
    let kept : length c.add_text.new.tasks.items ≡ length c.loop-letter.tasks.items =
    sym (length-map c.add_text.new.tasks.items (λ t. t.sender)) ∙ ap length c.add_text.ensures.senders ∙ length-map c.loop-letter.tasks.items (λ t. t.sender) in
    record {
      senders = c.add_text.ensures.senders ∙ was.senders;
      texts = have_more _ _ (c.from-place.result - 1) c.in-Some.letter _ _ texts c.in_ok-add_text.ensures.text number kept;
      all = omega (arith, one, fewer, was.all);
      numbered = λ k d short. all (suc k) d (omega (arith, short));
    }

pub loop-letter-init : goal.loop-letter-init
loop-letter-init g c =
    let gives = c.into_iter-letter-iterator.ensures.into_iter_gives.0 in
    let few = c.in_ok-tasks.ensures.few in
    let same = ap length gives in
    record {
      senders = c.in_ok-tasks.ensures.senders;
      texts = subst (λ (r : List Outgoing). HaveBut c.in_ok-tasks.tasks.items r c.args.letters.items) (sym gives) (have_none c.in_ok-tasks.tasks.items c.args.letters.items c.in_ok-tasks.ensures.none);
      all = omega (arith, few, same);
      numbered = subst (All (λ (e : Outgoing). IsWithin 1 (length c.args.senders.items) e.from)) (sym gives) c.requires;
    }

pub returns-clause-texts : goal.returns-clause-texts
returns-clause-texts g c =
    let steps = c.in-None.ensures.steps in
    let nil : c.loop-letter.letter-iterator.rest.items ≡ [] = grind (arith, common_steps) in
    have_all c.loop-letter.tasks.items _ c.args.letters.items nil c.loop-letter.invariant.texts
