use Rattle.std.proofs.Common.{◌∙◌, ◌++◌, ◌∷◌, [], sym}
use Rattle.std.proofs.lemmas.Result.{err_from_is_err_and}
use Rattle.history.specs.declared.operations.Entry.TheVariants.{Shut}
use Rattle.carriers.specs.ToEntries.{push_refused, shut}
use Rattle.two_threads.proofs.Orders.{never_shut, shut_ends_run}
use Rattle.two_threads.proofs.threads.give.Goals as goal

pub returns-in_err-shut-clause-refusal : goal.returns-in_err-shut-clause-refusal
returns-in_err-shut-clause-refusal g c =
    let here = g.met.Q.Fifo in
    let one = c.in_err-shut.ensures in
    let pushed = c.in_ok-pushed.ensures in
    let p = err_from_is_err_and c.from_residual-in_err-shut.result c.from_residual-in_err-shut.ensures.1 in
    rw (p.1, p.2) (
    shut_ends_run c.args.most _ _ _
    (λ found. never_shut _ _ _ c.args.most (here.sound _ _ one.seat) (λ n may. c.requires.alone n may ∙ sym (one.number ∙ pushed.number)) (found.mine ∙ pushed.pushed) found.shut)
    one.refusal (push_refused (g.Q.Fifo.known c.push_all-pushed.new.seat) (g.Q.Fifo.known c.shut-shut.new.seat) _ one.refused)
    )

pub returns-clause-given : goal.returns-clause-given
returns-clause-given g c =
    let pushed = c.in_ok-pushed.ensures in
    record {
      seat = c.in_ok-shut.ensures.seat;
      number = c.in_ok-shut.ensures.number ∙ pushed.number;
      mine = (shut (g.Q.Fifo.known c.push_all-pushed.new.seat) (g.Q.Fifo.known c.shut-shut.new.seat) c.in_ok-shut.ensures.shut).mine ∙ (λ i. pushed.pushed i ++ Shut (pushed.number i) ∷ []);
    }
