use Rattle.std.proofs.Common.{rules}
use Rattle.carriers.proofs.Waiting.{waits_busy, waits_empty, waits_popped, waits_refused}
use Rattle.carriers.proofs.until_shut.UntilShutIterator.next.Goals as goal
use Rattle.carriers.proofs.until_shut.UntilShutIterator.next.Goals.{in-Ok+in-None-1, in-Err+in-Busy-1}

pub returns-in-Ok-Some-clause-steps : goal.returns-in-Ok-Some-clause-steps
returns-in-Ok-Some-clause-steps g c = record {
  queue = search rules;
  same = search rules;
  seat = search rules;
  number = search rules;
  rests = search rules;
  answers = λ _. (search rules, waits_popped _ _ _ _ _ _ c.loop.invariant.waits c.in-Ok-Some.taken (search rules));
}

pub returns-in-Err : goal.returns-in-Err
returns-in-Err g c = record {
  steps = record {
    queue = search rules;
    same = search rules;
    seat = search rules;
    number = search rules;
    rests = search rules;
    answers = λ _. (
      search rules,
      search rules,
      waits_refused _ _ _ _ _ _ c.loop.invariant.waits _ c.in-Err.refusal (search rules) c.in-Err.ensures.refused (search rules),
    );
  };
  goes = search rules;
}

pub loop-preserved : goal.loop-preserved
loop-preserved g c = record {
  can = tt;
  finite = tt;
  queue = search rules;
  same = search rules;
  turns = search rules;
  goes = search rules;
  seat = search rules;
  number = search rules;
  waits = elim c.in-Ok-None-1.branch [
    | in-Ok+in-None-1 w ↦ waits_empty _ _ _ _ _ _ c.loop.invariant.waits (search rules) (search rules)
    | in-Err+in-Busy-1 w ↦ waits_busy _ _ _ _ _ _ c.loop.invariant.waits (search rules)
  ];
}
