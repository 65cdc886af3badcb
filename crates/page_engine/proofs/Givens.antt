-- What is known of what was given.
use Rattle.std.proofs.Common.{◌≡◌, ◌∙◌, ℕ, List, Option, Some, None, sym, ap, subst, arith}
use Rattle.std.specs.Prelude.{IfSome, option_map}
use Rattle.engine_faults.specs.declared.faults.Fault.{Fault}
use Rattle.expand_engine.specs.Expansions.{EndsAs, IsActFault, StandsFor}
use Rattle.expand_engine.specs.Recipes.{IsRecipe}
use Rattle.expand_engine.specs.declared.acts.Stop.{Stop as ActStop}
use Rattle.expand_engine.specs.declared.expansions.Expansion.{Expansion}
use Rattle.expand_engine.specs.declared.recipes.Said.{Said}
use Rattle.expand_engine.specs.declared.recipes.Sizes.{Sizes}
use Rattle.history.specs.declared.refusals.Refusal.{Refusal}
use Rattle.run_engine.specs.declared.counts.RunExtent.{RunExtent}
use Rattle.run_engine.specs.Extents.{EndsAsCounted, IsExtentOf}
use Rattle.schedule_text.specs.Schedules.{Schedule}
use Rattle.schedule_text.specs.Texts.{schedule_text, IsInRange}
use Rattle.page_engine.specs.declared.given.Given.{Given}
use Rattle.page_engine.specs.declared.given.Stop.{Stop}
use Rattle.page_engine.specs.Given.{CanBeMade, IsOne, ended_at}
use Rattle.page_engine.specs.Recipes.{IsOneRecipe}

-- a schedule that ends as it was counted is refused as it stops
counted_as : (s : Schedule) (counted : RunExtent) (o : Option Stop) → EndsAsCounted s counted (ended_at o) → counted.refusal ≡ option_map (λ (stop : Stop). stop.refusal) o
counted_as s counted None ends = ends.whole
counted_as s counted (Some stop) ends = ends.refusal

-- at an event, in its line
counted_at : (s : Schedule) (counted : RunExtent) (o : Option Stop) → EndsAsCounted s counted (ended_at o) → IfSome o (λ stop. IsActFault stop.refusal stop.line)
counted_at s counted None ends = tt
counted_at s counted (Some stop) ends = (ends.kind.0, omega (arith, ends.kind.1))

-- the text of a schedule was given
pub one_schedule : (given : Given) → IsInRange given.schedule → given.text.items ≡ schedule_text given.schedule → IsExtentOf given.schedule given.extent
    → EndsAsCounted given.schedule given.extent (ended_at given.stop) → IsOne given
one_schedule given in_range spelled extent ends = record {
  made = record {
    in_range = in_range;
    extent = extent;
    refusal = counted_as given.schedule given.extent given.stop ends;
    fault = counted_at given.schedule given.extent given.stop ends;
  };
  spelled = spelled;
  ends = ends;
}

-- a recipe is refused as its schedule stops
acted_as : (stop : Option ActStop) (o : Option Stop) → EndsAs stop (ended_at o) → option_map (λ (stop : ActStop). stop.refusal) stop ≡ option_map (λ (stop : Stop). stop.refusal) o
acted_as stop None ends = ap (option_map (λ (stop : ActStop). stop.refusal)) ends
acted_as stop (Some at) ends =
    ap (option_map (λ (stop : ActStop). stop.refusal)) ends.1 ∙ ap (λ (f : Fault). Some f.refusal) (sym ends.2)

-- at an act, on its line
acted_at : (stop : Option ActStop) (o : Option Stop) → EndsAs stop (ended_at o) → IfSome stop (λ stop. IsActFault stop.refusal stop.act.line)
    → IfSome o (λ stop. IsActFault stop.refusal stop.line)
acted_at stop None ends fault = tt
acted_at stop (Some at) ends fault =
    let here = subst (λ (o : Option ActStop). IfSome o (λ stop. IsActFault stop.refusal stop.act.line)) ends.1 fault in
    subst (λ (f : Fault). IfSome f.line (IsActFault f.refusal)) (sym ends.2) here

-- the text of a recipe was given
pub one_recipe : (given : Given) (sizes : Sizes) (saids : List Said) (e : Expansion) → IsRecipe given.text.items sizes saids → StandsFor sizes saids e → given.schedule ≡ e.schedule → given.extent ≡ e.extent
    → EndsAs e.stop (ended_at given.stop) → IsOneRecipe given
one_recipe given sizes saids e recipe stands schedule extent ends = record {
  made = record {
    in_range = subst IsInRange (sym schedule) stands.made.range;
    extent = rw (schedule, extent) stands.made.extent;
    refusal = ap (λ (r : RunExtent). r.refusal) extent ∙ stands.made.refusal ∙ acted_as e.stop given.stop ends;
    fault = acted_at e.stop given.stop ends stands.made.fault;
  };
  sizes = sizes;
  saids = saids;
  expansion = e;
  recipe = recipe;
  stands = stands;
  schedule = schedule;
  ends = ends;
}
