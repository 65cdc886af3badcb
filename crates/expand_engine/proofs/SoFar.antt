-- Recipes that are read a line at a time.
use Rattle.std.proofs.Common.{◌≡◌, ◌≢◌, ℕ, ◌+◌, List, [], ◌∷◌, ◌++◌, length, map, true, false, refl, sym, ap, subst, ◌∙◌, arith}
use Rattle.std.proofs.lemmas.List.{map-append, length-map}
use Rattle.history.specs.declared.refusals.Refusal.{Refusal}
use Rattle.history.specs.declared.refusals.Refusal.TheVariants.{Memory, Text}
use Rattle.text_io.specs.Prefixes.{IsRefusedBy}
use Rattle.history.specs.declared.text_causes.TextCause.{TextCause}
use Rattle.history.specs.declared.text_causes.TextCause.TheVariants.{End as EndCause, Form, Range, Extra}
use Rattle.text_io.specs.Grammars.{Begins, Says, state_after, IsFault, IsFirstFault}
use Rattle.text_io.specs.Lines.{HasNo, line as line_saying}
use Rattle.text_io.specs.LineReadings.{IsWrong}
use Rattle.text_io.proofs.Faults.{Begins-nothing, Begins-more, IsText-whole, first_fault-extra}
use Rattle.schedule_text.proofs.Joining.{state_after-append}
use Rattle.expand_engine.specs.declared.recipes.Due.{Due}
use Rattle.expand_engine.specs.declared.recipes.Due.TheVariants.{Version as VersionDue}
use Rattle.expand_engine.specs.declared.recipes.Said.{Said}
use Rattle.expand_engine.specs.declared.recipes.Sizes.{Sizes}
use Rattle.expand_engine.specs.Recipes.{IsDueInRange, IsRecipe, IsRefusedLine, IsSaidInRange, MayStand, ReadsOn, RecipeLine, SaysWhere, SoFar}
use Rattle.expand_engine.specs.Recipes.{due_after, is_due, no_sizes, recipe_lines, sizes_after, sizes_from, spoken}
use Rattle.expand_engine.proofs.Spoken.{wrong_as}

-- what a line says
abbrev pub said_of : RecipeLine → Said
said_of line = line.says

-- a text begins with lines, of which so much was kept
pub record HasRead (text : List ℕ) (so : SoFar) (rest : List ℕ) : Type 0 where
  pub lines : List RecipeLine
  pub begins : Begins recipe_lines VersionDue lines text rest
  pub said : map said_of lines ≡ so.saids
  pub due : state_after recipe_lines VersionDue lines ≡ so.due
  pub sized : so.sizes ≡ sizes_from no_sizes so.saids
  pub range : IsDueInRange so.due

-- before the first line
pub HasRead-nothing : (text : List ℕ) (so : SoFar) → so ≡ record { due = VersionDue; sizes = no_sizes; saids = [] } → HasRead text so text
HasRead-nothing text so is = subst (λ (so : SoFar). HasRead text so text) (sym is) (record {
  lines = [];
  begins = Begins-nothing recipe_lines VersionDue text;
  said = refl;
  due = refl;
  sized = refl;
  range = tt;
})

-- the sizes after one more line
sizes_from-push : (s : Sizes) (saids : List Said) (said : Said) → sizes_from s (saids ++ said ∷ []) ≡ sizes_after (sizes_from s saids) said
sizes_from-push s [] said = refl
sizes_from-push s (first ∷ saids) said = sizes_from-push (sizes_after s first) saids said

-- one more line
pub HasRead-more : (text : List ℕ) (old new : SoFar) (rest later : List ℕ) → HasRead text old rest → is_due old.due ≡ true → ReadsOn old rest new later → IsDueInRange new.due
    → HasRead text new later
HasRead-more text old new rest later h due reads range =
    let says = reads.line.says in
    record {
      lines = h.lines ++ reads.line ∷ [];
      begins = Begins-more recipe_lines VersionDue old.due h.lines reads.line text rest later h.begins h.due due reads.may reads.range reads.split;
      said = map-append said_of h.lines (reads.line ∷ []) ∙ ap (λ (saids : List Said). saids ++ says ∷ []) h.said ∙ sym reads.added;
      due = state_after-append recipe_lines VersionDue h.lines (reads.line ∷ []) ∙ ap (λ (d : Due). due_after d says) h.due ∙ sym reads.due;
      sized =
          reads.sized ∙ ap (λ (s : Sizes). sizes_after s says) h.sized ∙ sym (sizes_from-push no_sizes old.saids says) ∙ ap (sizes_from no_sizes) (sym reads.added);
      range = range;
    }

-- how many lines were read
length-lines : (text : List ℕ) (so : SoFar) (rest : List ℕ) → (h : HasRead text so rest) → length h.lines ≡ length so.saids
length-lines text so rest h = sym (length-map h.lines said_of) ∙ ap length h.said

-- what is refused of the next line is refused of the text
pub refused_by : (text : List ℕ) (so : SoFar) (rest : List ℕ) (refusal : Refusal) → HasRead text so rest → IsRefusedLine so rest refusal → IsRefusedBy recipe_lines VersionDue text refusal
refused_by text so rest Memory h refused = tt
refused_by text so rest (Text number cause) h refused = record {
  before = h.lines;
  rest = rest;
  begins = h.begins;
  counted = let long = length-lines text so rest h in omega (arith, refused.0, long);
  fault = subst (λ (d : Due). IsFault recipe_lines d rest cause) (sym h.due) refused.1;
}
refused_by text so rest _ h refused = refused

-- no further line is due, and nothing follows
pub whole_recipe : (text : List ℕ) (so : SoFar) (rest : List ℕ) → HasRead text so rest → is_due so.due ≡ false → rest ≡ [] → IsRecipe text so.sizes so.saids
whole_recipe text so rest h done empty = record {
  lines = h.lines;
  read = IsText-whole recipe_lines VersionDue so.due h.lines text rest h.begins h.due done empty;
  said = h.said;
  sized = h.sized;
}

-- no further line is due, and bytes follow
pub extra_behind : (text : List ℕ) (so : SoFar) (rest : List ℕ) (number : ℕ) → HasRead text so rest → is_due so.due ≡ false → rest ≢ [] → number ≡ length so.saids + 1
    → IsFirstFault recipe_lines VersionDue text number Extra
extra_behind text so rest number h done some counted =
    let long = length-lines text so rest h in
    first_fault-extra recipe_lines VersionDue so.due h.lines text rest number h.begins h.due (omega (arith, counted, long)) done some

-- what is wrong with what a line says is wrong with the line
pub fault_at : (due : Due) (text says rest : List ℕ) (cause : TextCause) → is_due due ≡ true → text ≡ line_saying says ++ rest → HasNo 10 says
    → IsWrong (SaysWhere due (spoken says)) (IsSaidInRange due) cause → IsFault recipe_lines due text cause
fault_at due text says rest cause more split whole wrong = by cause (wrong_as (SaysWhere due (spoken says)) (IsSaidInRange due)
    (Says recipe_lines due says) (recipe_lines.in_range due) standing there back (λ said r. r) cause wrong)
  where
    standing : Said → RecipeLine
    standing said = record { bytes = says; says = said }

    there : (said : Said) → SaysWhere due (spoken says) said → Says recipe_lines due says (standing said)
    there said is = record { may = record { may = is.0; whole = whole; spelled = is.1 }; spelled = refl }

    back : (line : RecipeLine) → Says recipe_lines due says line → (said : Said) × SaysWhere due (spoken says) said × (line ≡ standing said)
    back line is = (line.says, (is.may.may, ap spoken is.spelled ∙ is.may.spelled), λ i. record { bytes = sym is.spelled i; says = line.says })

    by : (cause : TextCause) → IsWrong (Says recipe_lines due says) (recipe_lines.in_range due) cause → IsFault recipe_lines due text cause
    by EndCause wrong = absurd wrong
    by Form wrong = record { due = more; says = says; later = rest; split = split; whole = whole; wrong = wrong }
    by Range wrong = record { due = more; says = says; later = rest; split = split; whole = whole; wrong = wrong }
    by Extra wrong = absurd wrong

-- the same, of what is due and what a line says as it was found out
pub refused_line : (so : SoFar) (due : Due) (text says rest heard : List ℕ) (number : ℕ) (cause : TextCause) → so.due ≡ due → heard ≡ spoken says → number ≡ length so.saids + 1
    → is_due so.due ≡ true → text ≡ line_saying says ++ rest → HasNo 10 says → IsWrong (SaysWhere due heard) (IsSaidInRange due) cause → IsRefusedLine so text (Text number cause)
refused_line so due text says rest heard number cause same hears counted more split whole wrong = (
  counted,
  fault_at so.due text says rest cause more split whole
      (subst (λ (d : Due). IsWrong (SaysWhere d (spoken says)) (IsSaidInRange d) cause) (sym same)
      (subst (λ (h : List ℕ). IsWrong (SaysWhere due h) (IsSaidInRange due) cause) hears wrong)),
)

-- a line was read, as it was found out
pub reads_on : (old new : SoFar) (due : Due) (text says rest heard : List ℕ) (said : Said) → old.due ≡ due → heard ≡ spoken says → text ≡ line_saying says ++ rest → HasNo 10 says
    → SaysWhere due heard said → IsSaidInRange due said → new.due ≡ due_after old.due said → new.sizes ≡ sizes_after old.sizes said → new.saids ≡ old.saids ++ said ∷ []
    → ReadsOn old text new rest
reads_on old new due text says rest heard said same hears split whole is range then sized added = record {
  line = record { bytes = says; says = said };
  may =
      subst (λ (d : Due). MayStand d (record { bytes = says; says = said })) (sym same)
      (record { may = is.0; whole = whole; spelled = sym hears ∙ is.1 });
  range = subst (λ (d : Due). IsSaidInRange d said) (sym same) range;
  split = split;
  due = then;
  sized = sized;
  added = added;
}
