-- What is told of what was given is told of a schedule, or of a recipe.
use Rattle.std.proofs.Common.{◌≡◌, ◌∙◌, ◌+◌, ◌≤◌, ℕ, List, Option, Some, None, inl, inr, ap, sym, subst}
use Rattle.std.specs.Io.KnownBytes.{Appends}
use Rattle.std.specs.Prelude.{IfSome}
use Rattle.engine_faults.specs.Faults.{IsEventRefusal, IsRunRefusal}
use Rattle.engine_faults.specs.declared.faults.Fault.{Fault}
use Rattle.expand_engine.specs.Expansions.{EndsAs, ExpansionRefused, IsReadAs}
use Rattle.expand_engine.specs.RecipesRun.{IsTellingFault}
use Rattle.expand_engine.specs.declared.acts.Stop.{Stop as ActStop}
use Rattle.expand_engine.proofs.Standing.{refused_read}
use Rattle.history.specs.declared.refusals.Refusal.{Refusal}
use Rattle.history.specs.declared.refusals.Refusal.TheVariants.{Memory, Write}
use Rattle.run_engine.specs.Answers.{IsTracingRefusal, IsWholeOf}
use Rattle.run_engine.specs.Extents.{EndsAsCounted}
use Rattle.run_engine.specs.Runs.{IsRunFault, RunRefused}
use Rattle.schedule_text.specs.Schedules.{Schedule, header_lines}
use Rattle.schedule_text.specs.Texts.{schedule_text}
use Rattle.text_io.specs.Blocks.{TakesPrefix}
use Rattle.text_io.specs.Devices.{SinkState}
use Rattle.text_io.specs.Readings.{WereAll}
use Rattle.page_engine.specs.declared.engine.Frame.{Frame}
use Rattle.page_engine.specs.declared.given.Given.{Given}
use Rattle.page_engine.specs.declared.given.Stop.{Stop}
use Rattle.page_engine.specs.Followed.{IsStopTold, the_followed}
use Rattle.page_engine.specs.Given.{IsOne, ended_at}
use Rattle.page_engine.specs.Pages.{BeginsPage, HasBegunPage, HasPaged, IsEither, IsStoppedTold, IsWholeTold, WritesPage, WritesStoppedPage, page_of}
use Rattle.page_engine.specs.Recipes.{BeginsRecipePage, IsOneRecipe, IsStoppedRecipe, IsWholeRecipe, WritesRecipePage, WritesStoppedRecipePage}

-- what follows of a line follows of the line of a fault, if it has one
pub if_line : (line : Option ℕ) (P Q : ℕ → Type 0) → ((n : ℕ) → P n → Q n) → IfSome line P → IfSome line Q
if_line None P Q f holds = tt
if_line (Some n) P Q f holds = f n holds

-- what refuses the writing of a page as a whole refuses its run
run_refusal : (refusal : Refusal) → IsTracingRefusal refusal → IsRunRefusal refusal
run_refusal Memory cause = tt
run_refusal Write cause = tt
run_refusal _ none = absurd none

-- how a run ends that stops there
abbrev fault_given : Stop → Fault
fault_given stop = record { refusal = stop.refusal; line = Some stop.line }

-- the same of an act
abbrev fault_acted : ActStop → Fault
fault_acted at = record { refusal = at.refusal; line = Some at.act.line }

module _ (frame : Frame) (given : Given) (bytes : Option (List ℕ)) (read : WereAll bytes given.text.items) (a b : SinkState) where
  module _ (one : IsOne given) where
    -- the bytes were the schedule's text
    read_schedule : WereAll bytes (schedule_text given.schedule)
    read_schedule = subst (WereAll bytes) one.spelled read

    -- its event is refused in this line
    stop_here : (line : ℕ) (refusal : Refusal) (told : List ℕ) → IsStoppedTold given line refusal told → IsStopTold given.schedule line line refusal told
    stop_here line refusal told s =
        let ends : EndsAsCounted given.schedule given.extent (ended_at (Some s.stop)) = subst (λ (o : Option Stop). EndsAsCounted given.schedule given.extent (ended_at o)) s.is one.ends in
        let at : line ≡ header_lines given.schedule.version + given.extent.made + 1 = s.here ∙ ends.line in
        subst (λ (n : ℕ). IsStopTold given.schedule n line refusal told) (sym at) s.tells

    -- which is that of an event
    event_here : (line : ℕ) (refusal : Refusal) (told : List ℕ) → IsStoppedTold given line refusal told → IsEventRefusal refusal × (7 ≤ line)
    event_here line refusal told s =
        let ends : EndsAsCounted given.schedule given.extent (ended_at (Some s.stop)) = subst (λ (o : Option Stop). EndsAsCounted given.schedule given.extent (ended_at o)) s.is one.ends in
        rw (s.here, s.cause) ends.kind

    pub IsRunFault-told : (refusal : Refusal) (line : Option ℕ) → IsTellingFault refusal line → IfSome line (λ line. HasPaged frame given.text.items (IsStoppedTold given line refusal) a b) → IsRunFault refusal line
    IsRunFault-told refusal None fault paged = run_refusal refusal fault
    IsRunFault-told refusal (Some line) fault paged = event_here line refusal paged.0 paged.1

    pub WritesPage-told : HasPaged frame given.text.items (IsWholeTold given) a b → WritesPage frame bytes a b
    WritesPage-told p = record {
      schedule = given.schedule;
      in_range = one.made.in_range;
      read = read_schedule;
      holds = (p.0, p.1.1, subst (λ (l : List ℕ). Appends a.contents b.contents (page_of frame l p.0)) one.spelled p.2);
    }

    pub WritesStoppedPage-told : (line : ℕ) (refusal : Refusal) → HasPaged frame given.text.items (IsStoppedTold given line refusal) a b → WritesStoppedPage frame bytes line refusal a b
    WritesStoppedPage-told line refusal p = record {
      schedule = given.schedule;
      in_range = one.made.in_range;
      read = read_schedule;
      holds = (p.0, stop_here line refusal p.0 p.1, subst (λ (l : List ℕ). Appends a.contents b.contents (page_of frame l p.0)) one.spelled p.2);
    }

    pub RunRefused-told : (line : ℕ) (refusal : Refusal) → HasPaged frame given.text.items (IsStoppedTold given line refusal) a b → RunRefused bytes line refusal
    RunRefused-told line refusal p = record {
      schedule = given.schedule;
      in_range = one.made.in_range;
      read = read_schedule;
      refused = (stop_here line refusal p.0 p.1).stop.stop;
    }

    either_here : (told : List ℕ) → IsEither (IsWholeTold given) (IsStoppedTold given) told
        → IsEither (IsWholeOf the_followed given.schedule) (λ line. IsStopTold given.schedule line line) told
    either_here told (inl whole) = inl whole.1
    either_here told (inr stop) = inr (stop.0, stop.1, stop_here stop.0 stop.1 told stop.2)

    pub BeginsPage-told : HasBegunPage frame given.text.items (IsWholeTold given) (IsStoppedTold given) a b → BeginsPage frame bytes a b
    BeginsPage-told p = record {
      schedule = given.schedule;
      in_range = one.made.in_range;
      read = read_schedule;
      holds = (p.0, either_here p.0 p.1, subst (λ (l : List ℕ). TakesPrefix a.contents b.contents (page_of frame l p.0)) one.spelled p.2);
    }

  module _ (one : IsOneRecipe given) where
    -- the bytes were the recipe's text
    abbrev read_as : IsReadAs bytes one.expansion
    read_as = record { text = given.text.items; read = read; sizes = one.sizes; saids = one.saids; recipe = one.recipe; stands = one.stands }

    -- nothing is refused
    whole_acts : given.stop ≡ None → one.expansion.stop ≡ None
    whole_acts none = subst (λ (o : Option Stop). EndsAs one.expansion.stop (ended_at o)) none one.ends

    -- this act is
    stop_act : (stop : Stop) → given.stop ≡ Some stop → (at : ActStop) × (one.expansion.stop ≡ Some at) × (fault_given stop ≡ fault_acted at)
    stop_act stop some = subst (λ (o : Option Stop). EndsAs one.expansion.stop (ended_at o)) some one.ends

    stop_there : (line : ℕ) (refusal : Refusal) (told : List ℕ) → IsStoppedTold given line refusal told → IsStoppedRecipe one.expansion line refusal told
    stop_there line refusal told s =
        let at = stop_act s.stop s.is in
        let lines : Some s.stop.line ≡ Some at.0.act.line = ap (λ (f : Fault). f.line) at.2 in
        let here : s.stop.line ≡ at.0.act.line = cc in
        record {
          stop = at.0;
          is = at.1;
          here = s.here ∙ here;
          cause = s.cause ∙ ap (λ (f : Fault). f.refusal) at.2;
          at = header_lines given.schedule.version + given.extent.made + 1;
          tells = subst (λ (it : Schedule). IsStopTold it (header_lines given.schedule.version + given.extent.made + 1) line refusal told) one.schedule s.tells;
        }

    whole_there : (told : List ℕ) → IsWholeTold given told → IsWholeRecipe one.expansion told
    whole_there told w = (whole_acts w.0, subst (λ (it : Schedule). IsWholeOf the_followed it told) one.schedule w.1)

    pub WritesRecipePage-told : HasPaged frame given.text.items (IsWholeTold given) a b → WritesRecipePage frame bytes a b
    WritesRecipePage-told p = record { expansion = one.expansion; read = read_as; holds = (p.0, whole_there p.0 p.1, p.2) }

    pub WritesStoppedRecipePage-told : (line : ℕ) (refusal : Refusal) → HasPaged frame given.text.items (IsStoppedTold given line refusal) a b → WritesStoppedRecipePage frame bytes line refusal a b
    WritesStoppedRecipePage-told line refusal p = record { expansion = one.expansion; read = read_as; holds = (p.0, stop_there line refusal p.0 p.1, p.2) }

    pub ExpansionRefused-told : (line : ℕ) (refusal : Refusal) → HasPaged frame given.text.items (IsStoppedTold given line refusal) a b → ExpansionRefused bytes line refusal
    ExpansionRefused-told line refusal p =
        let there = stop_there line refusal p.0 p.1 in
        let refused = refused_read bytes one.expansion read_as there.stop there.is in
        subst (λ (r : Refusal). ExpansionRefused bytes line r) (sym there.cause) (subst (λ (n : ℕ). ExpansionRefused bytes n there.stop.refusal) (sym there.here) refused)

    either_there : (told : List ℕ) → IsEither (IsWholeTold given) (IsStoppedTold given) told → IsEither (IsWholeRecipe one.expansion) (IsStoppedRecipe one.expansion) told
    either_there told (inl whole) = inl (whole_there told whole)
    either_there told (inr stop) = inr (stop.0, stop.1, stop_there stop.0 stop.1 told stop.2)

    pub BeginsRecipePage-told : HasBegunPage frame given.text.items (IsWholeTold given) (IsStoppedTold given) a b → BeginsRecipePage frame bytes a b
    BeginsRecipePage-told p = record { expansion = one.expansion; read = read_as; holds = (p.0, either_there p.0 p.1, p.2) }
