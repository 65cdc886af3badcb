use Rattle.std.proofs.Common.{◌≡◌, ◌+◌, ◌∙◌, ℕ, Some, ap, arith, subst, sym}
use Rattle.std.specs.Prelude.{IfSome}
use Rattle.history.specs.declared.refusals.Refusal.{Refusal}
use Rattle.schedule_text.specs.Schedules.{Schedule, header_lines}
use Rattle.run_engine.proofs.TraceStops.{is_refused}
use Rattle.run_engine.proofs.counts.refuse_at.Goals as goal

pub at-requires : goal.at-requires
at-requires c = is_refused c.args.schedule.now c.args.counted.now c.requires.count c.in-Some.refusal c.in-Some.is

pub returns-in-Some : goal.returns-in-Some
returns-in-Some c =
    let made = c.args.counted.now.made in
    let at : c.header_lines.result + made + 1 ≡ header_lines c.args.schedule.now.version + made + 1 =
    ap (λ (n : ℕ). n + made + 1) (c.header_lines.ensures.count ∙ ap (λ (s : Schedule). header_lines s.version) c.schedule.view_is) in
    record {
      whole = tt;
      refusal = c.in-Some.is ∙ ap (λ (r : Refusal). Some r) (sym c.at.ensures.refusal);
      kind = c.at.ensures.kind (omega (arith, c.header_lines.ensures.range.0));
      line = subst (λ (n : ℕ). IfSome c.at.result.line (λ l. l ≡ n)) at c.at.ensures.line;
    }
