use Rattle.std.proofs.Common.{◌∙◌, ap, refl, Ok, Err}
use Rattle.calls.specs.declared.calls.Call.{Call}
use Rattle.msq_c.specs.Calls.{laid}
use Rattle.msq_c.specs.Passed.{of_numbers}
use Rattle.msq_c.specs.declared.troubles.Trouble.TheVariants.{BadSize}
use Rattle.msq_c.proofs.call_exports.msq_call_give_up.Goals as goal

pub returns-in_default : goal.returns-in_default
returns-in_default c = record {
  answer = Err BadSize;
  code = c.code.ensures;
  holds = record { given_up = tt; refused = (refl, c.in_default.ensures.none); same = refl };
}

pub returns : goal.returns
returns c = record {
  answer = Ok tt;
  code = refl;
  holds = record {
    given_up = record {
      before = c.in-Some.asked;
      was = c.in-Some.ensures.some;
      is = c.of.ensures ∙ ap (λ (call : Call). laid of_numbers (record { call = call; value = c.in-Some.asked.value; heard = c.in-Some.asked.heard })) c.give_up.ensures;
    };
    refused = tt;
    same = tt;
  };
}
