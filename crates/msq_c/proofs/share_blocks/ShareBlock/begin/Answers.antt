use Rattle.calls.specs.declared.calls.Task.TheVariants.{Push, Pop}
use Rattle.msq_c.proofs.FirstSteps.{begun_by_try, begun_so}
use Rattle.msq_c.proofs.share_blocks.ShareBlock.begin.Goals as goal

pub returns-in-true-Push : goal.returns-in-true-Push
returns-in-true-Push g c = record {
  queue = c.try_push-tried.ensures.queue;
  begun = record {
    of = c.in-Some.task;
    number = c.in-Some.ensures.some;
    passed = c.in-Some-value.value;
    is = c.in-Some-value.ensures.some;
    begun = begun_so g.W.Passed.passes _ _ _ _ _ _ _ c.in-Some.task Push c.args.tries c.in-Some-value.value c.in-true-Push.is-0 c.in-true-Push.is-1
        (begun_by_try g.W.Passed.passes _ _ _ _ _ _ _ Push _ c.try_push-tried.result _ c.try_push-tried.ensures.comes c.lay.ensures);
  };
  refused = tt;
  same = tt;
}

pub returns-in-true-Pop : goal.returns-in-true-Pop
returns-in-true-Pop g c = record {
  queue = c.try_pop-tried.ensures.queue;
  begun = record {
    of = c.in-Some.task;
    number = c.in-Some.ensures.some;
    passed = c.in-Some-value.value;
    is = c.in-Some-value.ensures.some;
    begun = begun_so g.W.Passed.passes _ _ _ _ _ _ _ c.in-Some.task Pop c.args.tries c.in-Some-value.value c.in-true-Pop.is-0 c.in-true-Pop.is-1
        (begun_by_try g.W.Passed.passes _ _ _ _ _ _ _ Pop _ c.try_pop-tried.result _ c.try_pop-tried.ensures.comes c.lay-in-true-Pop.ensures);
  };
  refused = tt;
  same = tt;
}
