-- What an engine answers of the expansion of a recipe.
use Rattle.std.proofs.Common.{◌≡◌, ℕ, ◌+◌, List, [], Option, None, Result, Ok, Err, inl, inr, refl, sym, ap, subst, ◌∙◌}
use Rattle.std.specs.Prelude.{IfSome, option_map}
use Rattle.engine_faults.specs.Faults.{IsEventRefusal}
use Rattle.engine_faults.specs.declared.faults.Fault.{Fault}
use Rattle.history.specs.declared.refusals.Refusal.{Refusal}
use Rattle.history.specs.declared.refusals.Refusal.TheVariants.{Memory, Write}
use Rattle.run_engine.specs.Answers.{RunText, StopsTelling, Tells}
use Rattle.run_engine.proofs.Answered.{IsDue, has_begun, is_stop, is_whole}
use Rattle.schedule_text.specs.Schedules.{header_lines}
use Rattle.text_io.specs.Blocks.{Sends}
use Rattle.text_io.specs.Devices.{SinkState}
use Rattle.text_io.proofs.Sends.{Appends-Sends}
use Rattle.run_engine.specs.Extents.{IsExtentOf}
use Rattle.run_engine.specs.declared.counts.RunExtent.{RunExtent}
use Rattle.expand_engine.specs.Expansions.{EndsAs, IsActFault}
use Rattle.expand_engine.specs.RecipesRun.{AnswersOf}
use Rattle.expand_engine.specs.declared.acts.Stop.{Stop}
use Rattle.expand_engine.specs.declared.expansions.Expansion.{Expansion}

-- memory was refused before a byte was written
pub AnswersOf-unmade : (t : RunText) (e : Expansion) (a : SinkState) (same : Type 0) (refusal : Refusal) (fault : Fault) → fault ≡ record { refusal = refusal; line = None } → refusal ≡ Memory → same
    → AnswersOf t e a a same (Err fault)
AnswersOf-unmade t e a same refusal fault is memory unchanged =
    subst (λ (f : Fault). AnswersOf t e a a same (Err f)) (sym is)
    (record {
      ok = tt;
      quiet = tt;
      fault = rw memory tt;
      stopped = tt;
      none_failed_there = tt;
      memory = λ e. inl unchanged;
      none_failed = λ e. refl;
      write = λ write. absurd cc;
    })

-- no event is refused as memory or a writer is
not_memory : (refusal : Refusal) → IsEventRefusal refusal → refusal ≡ Memory → ⊥
not_memory refusal event memory = subst IsEventRefusal memory event

not_write : (refusal : Refusal) → IsEventRefusal refusal → refusal ≡ Write → ⊥
not_write refusal event write = subst IsEventRefusal write event

module _ (t : RunText) (e : Expansion) (counted : RunExtent) (count : IsExtentOf e.schedule counted) (refuses : counted.refusal ≡ option_map (λ (stop : Stop). stop.refusal) e.stop)
    (fault : IfSome e.stop (λ stop. IsActFault stop.refusal stop.act.line)) (text : List ℕ) (due : IsDue t e.schedule counted count.world text) (a b : SinkState) (same : Type 0) where
  -- its writing stopped
  pub AnswersOf-telling : (refusal : Refusal) (told : Fault) → told ≡ record { refusal = refusal; line = None } → Tells {A = Unit {0}} a b text [] (Err refusal) → AnswersOf t e a b same (Err told)
  AnswersOf-telling refusal told is tells = subst (λ (f : Fault). AnswersOf t e a b same (Err f)) (sym is) (by refusal tells.cause)
    where
      by : (r : Refusal) → StopsTelling r a b → AnswersOf t e a b same (Err (record { refusal = r; line = None }))
      by Memory same_failures = record {
        ok = tt;
        quiet = tt;
        fault = tt;
        stopped = tt;
        none_failed_there = tt;
        memory = λ memory. inr (has_begun t e.schedule counted count text due a b same tells.prefix);
        none_failed = λ memory. same_failures;
        write = λ write. absurd cc;
      }
      by Write gave = record {
        ok = tt;
        quiet = tt;
        fault = tt;
        stopped = tt;
        none_failed_there = tt;
        memory = λ memory. absurd cc;
        none_failed = λ memory. absurd cc;
        write = λ write. (has_begun t e.schedule counted count text due a b same tells.prefix, gave);
      }
      by _ none = absurd none

  -- it was written
  pub AnswersOf-ended : (result : Result (Unit {0}) Fault) → EndsAs e.stop result → Sends a.contents b.contents text [] → b.failures ≡ a.failures → AnswersOf t e a b same result
  AnswersOf-ended (Ok done) ends sends quiet = record {
    ok = record { whole = ends; written = (text, is_whole t e.schedule counted count text due a b same (refuses ∙ ap (option_map (λ (stop : Stop). stop.refusal)) ends), Appends-Sends a.contents b.contents text sends) };
    quiet = quiet;
    fault = tt;
    stopped = tt;
    none_failed_there = tt;
    memory = tt;
    none_failed = tt;
    write = tt;
  }
  AnswersOf-ended (Err told) ends sends quiet =
      let stop = ends.0 in
      let kind : IsActFault stop.refusal stop.act.line = subst (λ (o : Option Stop). IfSome o (λ stop. IsActFault stop.refusal stop.act.line)) ends.1 fault in
      let at = header_lines e.schedule.version + counted.made + 1 in
      let there = is_stop t e.schedule counted count text due a b same stop.refusal at (refuses ∙ ap (option_map (λ (stop : Stop). stop.refusal)) ends.1) refl in
      subst (λ (f : Fault). AnswersOf t e a b same (Err f)) (sym ends.2)
      (record {
        ok = tt;
        quiet = tt;
        fault = kind;
        stopped = record { stop = stop; is = ends.1; here = refl; cause = refl; at = at; written = (text, there, Appends-Sends a.contents b.contents text sends) };
        none_failed_there = quiet;
        memory = λ memory. absurd (not_memory stop.refusal kind.0 memory);
        none_failed = λ memory. quiet;
        write = λ write. absurd (not_write stop.refusal kind.0 write);
      })
