-- Acts stand for one list of events.
use Rattle.std.proofs.Common.{◌≡◌, ℕ, List, [], ◌∷◌, ◌++◌, Some, sym, ap, ap₂, subst, ◌∙◌}
use mathlib.Core.Logic.{⊎_elim}
use Rattle.std.proofs.lemmas.Bool.{cases_order}
use Rattle.line_table.specs.declared.lines.Line.{Line}
use Rattle.schedule_text.specs.declared.schedules.Event.{Event}
use Rattle.step_machine.specs.Machine.{World, actor_of}
use Rattle.expand_engine.specs.declared.recipes.Act.{Act}
use Rattle.expand_engine.specs.declared.recipes.Said.{Said}
use Rattle.expand_engine.specs.declared.recipes.Said.TheVariants.{Happens, Until, Finish}
use Rattle.expand_engine.specs.Expansions.{ActLeads, ActsLead}
use Rattle.expand_engine.specs.Walks.{ComesTo, EndsCall, Walks, steps_told}
use Rattle.expand_engine.proofs.Walked.{Walks-one, busy_not_idle}

-- the least number of steps to a line is one
one_way : (w : World) (me : ℕ) (line : Line) (m n : ℕ) (u v : World) → ComesTo w me line m u → ComesTo w me line n v → m ≡ n
one_way w me line m n u v first second =
    ⊎_elim (λ same. same)
    (λ other. ⊎_elim (λ less. absurd (second.least m u less first.walked first.stands)) (λ less. absurd (first.least n v less second.walked second.stands)) other) (cases_order m n)

-- and that to a call's end
one_end : (w : World) (me m n : ℕ) (u v : World) → EndsCall w me m u → EndsCall w me n v → m ≡ n
one_end w me m n u v first second =
    ⊎_elim (λ same. same)
    (λ other. ⊎_elim (λ less. absurd (busy_not_idle (actor_of u me) (second.least m u less first.walked) first.ended))
    (λ less. absurd (busy_not_idle (actor_of v me) (first.least n v less second.walked) second.ended)) other)
    (cases_order m n)

-- as many steps are one list of events, and lead to one world
same_steps : (w : World) (me m n : ℕ) (u v : World) (first second : List Event) → m ≡ n → first ≡ steps_told me m → second ≡ steps_told me n → Walks w me m u → Walks w me n v
    → (first ≡ second) × (u ≡ v)
same_steps w me m n u v first second same told other walked walks =
    (told ∙ ap (steps_told me) same ∙ sym other, Walks-one w u v me n (subst (λ (n : ℕ). Walks w me n u) same walked) walks)

-- one act
one_act : (said : Said) (w u v : World) (first second : List Event) → ActLeads w said first u → ActLeads w said second v → (first ≡ second) × (u ≡ v)
one_act (Happens event) w u v first second leads other =
    let same : Some u ≡ Some v = sym leads.1.made ∙ other.1.made in
    (leads.0 ∙ sym other.0, cc)
one_act (Until me line) w u v first second leads other =
    same_steps w me leads.0 other.0 u v first second (one_way w me line leads.0 other.0 u v leads.2 other.2) leads.1 other.1 leads.2.walked other.2.walked
one_act (Finish me) w u v first second leads other =
    same_steps w me leads.0 other.0 u v first second (one_end w me leads.0 other.0 u v leads.2 other.2) leads.1 other.1 leads.2.walked other.2.walked
one_act _ w u v first second leads other = absurd leads

-- acts
pub one_expansion : (acts : List Act) (w u v : World) (first second : List Event) → ActsLead w acts first u → ActsLead w acts second v → (first ≡ second) × (u ≡ v)
one_expansion [] w u v first second led other = (led.0 ∙ sym other.0, sym led.1 ∙ other.1)
one_expansion (act ∷ acts) w u v first second led other =
    let here = one_act act.said w led.0 other.0 led.1 other.1 led.4 other.4 in
    let later = one_expansion acts led.0 u v led.2 other.2 led.5 (subst (λ (x : World). ActsLead x acts other.2 v) (sym here.1) other.5) in
    (led.3 ∙ ap₂ (λ (xs ys : List Event). xs ++ ys) here.0 later.0 ∙ sym other.3, later.1)
