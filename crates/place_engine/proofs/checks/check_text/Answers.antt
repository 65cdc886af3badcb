use Rattle.std.proofs.Common.{◌≡◌}
use Rattle.history.specs.History.{verdict}
use Rattle.place_engine.proofs.RightVerdict.{verdict_is_right}
use Rattle.place_engine.proofs.checks.check_text.Goals as goal

pub returns-clause-ok : goal.returns-clause-ok
returns-clause-ok g c =
    let history = c.in_ok-history.history.items in
    let judged : c.in_ok-verdict.verdict ≡ verdict history = rw c.deref.ensures.value at c.in_ok-verdict.ensures.ok in
    record {
      operations = history;
      history = c.in_ok-history.ensures.ok;
      judged = judged;
      yes = verdict_is_right history c.in_ok-verdict.verdict judged;
      written = rw c.deref-2.ensures.value at c.in_ok-tell.ensures.ok;
    }
