-- The world of the rule's trace is such a one.
use Rattle.std.proofs.Common.{◌≡◌, ap, ◌∙◌, arith}
use Rattle.line_table.specs.declared.lines.Kind.TheVariants.{NonBlocking}
use Rattle.line_steps.specs.declared.actors.Setup.{Setup}
use Rattle.node_arena.specs.Turns.{failed_turns}
use Rattle.run_laws.specs.Turns.{EachMomentIsPaid}
use Rattle.run_laws.proofs.Paid.{turns_paid, each_call_paid, each_lines_paid}
use Rattle.run_laws.proofs.turns.each_moments_failed_turns_are_paid.Goals as goal

each_moment : EachMomentIsPaid 2 1 1
each_moment z s h e =
    let runs : h.trace.world.setup.kind ≡ NonBlocking = ap (λ (x : Setup). x.kind) h.setup ∙ e in
    record {
      trace = h.trace;
      reached = h.reached;
      setup = h.setup;
      peopled = h.actors;
      words = h.words;
      fits = h.fits;
      turns = λ j i u v at member. omega (arith, ap failed_turns (h.fits j i u v at member).path, turns_paid h.trace h.reached runs v.number);
      calls = each_call_paid h.trace h.reached runs;
      lines = each_lines_paid h.trace h.reached runs;
    }

pub returns : goal.returns
returns c = each_moment
