-- The word of a call of a number lies in the call.
use Rattle.std.proofs.Common.{ℕ, ap, sym, Bool, Result, Ok, Err}
use Rattle.msq_c.specs.declared.call_words.MsqAct.{MsqAct}
use Rattle.msq_c.specs.declared.call_words.MsqCall.{MsqCall}
use Rattle.msq_c.specs.declared.share_handles.MsqShare.{MsqShare}
use Rattle.msq_c.specs.declared.troubles.Trouble.{Trouble}
use Rattle.msq_c.specs.Calls.{AnswersStep}
use Rattle.msq_c.specs.Passed.{of_numbers}
use Rattle.msq_c.specs.Shares.{is_full, block_at}
use Rattle.msq_c.proofs.call_exports.msq_call_step.Goals as goal

with_word : (h h' : MsqShare) (m m' : MsqCall) (w' : ℕ) (past : Bool) (told told' : MsqAct) (out : Result (Unit {0}) Trouble)
    → AnswersStep of_numbers is_full block_at h h' m.word w' m m' past told told' out
    → AnswersStep of_numbers is_full block_at h h' m.word m'.word m m' past told told' out
with_word h h' m m' w' past told told' (Ok x) a = record {
  full = a.full;
  queue = a.queue;
  empty = a.empty;
  stepped = record {
    before = a.stepped.before;
    after = a.stepped.after;
    act = a.stepped.act;
    was = a.stepped.was;
    is = a.stepped.is;
    left = sym (ap (λ (z : MsqCall). z.word) a.stepped.is);
    steps = a.stepped.steps;
    told = a.stepped.told;
  };
  refused = tt;
  same = tt;
}
with_word h h' m m' w' past told told' (Err refusal) a = record {
  full = a.full;
  queue = a.queue;
  empty = a.empty;
  stepped = tt;
  refused = a.refused;
  same = (a.same.0, ap (λ (z : MsqCall). z.word) a.same.2, a.same.2, a.same.3);
}

pub returns : goal.returns
returns c = record { answer = c.step.result; code = c.code.ensures; holds = with_word _ _ _ _ _ _ _ _ c.step.result c.step.ensures }
