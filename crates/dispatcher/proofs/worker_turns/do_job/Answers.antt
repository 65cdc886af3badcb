use Rattle.std.proofs.Common.{refl, ◌∙◌, sym, ap, length, Some, arith}
use Rattle.std.proofs.lemmas.Option.{slice_get_read}
use Rattle.dispatcher.proofs.worker_turns.do_job.Goals as goal

pub returns-clause-put : goal.returns-clause-put
returns-clause-put g c = record {
  from_one = (let some = c.if-number-eq0.false in omega arith);
  result = c.put_result.ensures.result;
  numbered = c.put_result.ensures.numbered;
  of = slice_get_read c.args.jobs.now (length c.args.jobs.now) _ _ refl c.in-Some.ensures.lookup.3.0 c.in-Some.ensures.lookup.1 ∙ ap (λ job. Some job) (sym c.put_result.ensures.of);
  added = c.put_result.ensures.added;
}
