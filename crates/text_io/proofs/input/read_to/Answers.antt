use Rattle.std.proofs.Common.{◌∙◌, arith, rules}
use Rattle.text_io.proofs.Givings.{AddsGiven-then}
use Rattle.text_io.proofs.input.read_to.Goals as goal

pub loop-text-preserved : goal.loop-text-preserved
loop-text-preserved g c = record {
  room = search rules;
  gave = AddsGiven-then _ _ _ _ _ _ c.loop-text.invariant.gave c.in_ok-read_more.ensures.text;
  calls = c.in_ok-read_more.ensures.err ∙ c.loop-text.invariant.calls;
  spent = omega (arith, c.in_ok-read_more.ensures.budget, c.loop-text.invariant.spent);
}

pub returns-clause-text : goal.returns-clause-text
returns-clause-text g c = AddsGiven-then _ _ _ _ _ _ c.loop-text.invariant.gave c.in_ok-read_more.ensures.text

pub returns-then-most-len-clause-text : goal.returns-then-most-len-clause-text
returns-then-most-len-clause-text g c = AddsGiven-then _ _ _ _ _ _ c.loop-text.invariant.gave c.in_ok-read_more.ensures.text
