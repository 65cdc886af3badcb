-- What is written of the page of a recipe.
use Rattle.std.specs.Prelude.{◌≡◌, ℕ, List, Option, Some, None}
use Rattle.expand_engine.specs.Expansions.{EndsAs, IsReadAs, StandsFor}
use Rattle.expand_engine.specs.Recipes.{IsRecipe}
use Rattle.expand_engine.specs.declared.acts.Stop.{Stop}
use Rattle.expand_engine.specs.declared.expansions.Expansion.{Expansion}
use Rattle.expand_engine.specs.declared.recipes.Said.{Said}
use Rattle.expand_engine.specs.declared.recipes.Sizes.{Sizes}
use Rattle.history.specs.declared.refusals.Refusal.{Refusal}
use Rattle.run_engine.specs.Answers.{IsWholeOf}
use Rattle.text_io.specs.Devices.{SinkState}
use Rattle.page_engine.specs.declared.engine.Frame.{Frame}
use Rattle.page_engine.specs.declared.given.Given.{Given}
use Rattle.page_engine.specs.Followed.{IsStopTold, the_followed}
use Rattle.page_engine.specs.Given.{CanBeMade, ended_at}
use Rattle.page_engine.specs.Pages.{HasBegunPage, HasPaged}

-- the text is that of a recipe, which stands for the schedule, and stops at the act at which that does
pub record IsOneRecipe (given : Given) : Type 0 where
  pub made : CanBeMade given
  pub sizes : Sizes
  pub saids : List Said
  pub expansion : Expansion
  pub recipe : IsRecipe given.text.items sizes saids
  pub stands : StandsFor sizes saids expansion
  pub schedule : given.schedule ≡ expansion.schedule
  pub ends : EndsAs expansion.stop (ended_at given.stop)

-- this is told of all acts of a recipe
abbrev pub IsWholeRecipe : Expansion → List ℕ → Type 0
IsWholeRecipe e told = (e.stop ≡ None) × IsWholeOf the_followed e.schedule told

-- this is told up to the act on this line, which is refused for this cause
pub record IsStoppedRecipe (e : Expansion) (line : ℕ) (refusal : Refusal) (told : List ℕ) : Type 0 where
  pub stop : Stop
  pub is : e.stop ≡ Some stop
  pub here : line ≡ stop.act.line
  pub cause : refusal ≡ stop.refusal
  pub at : ℕ
  pub tells : IsStopTold e.schedule at line refusal told

-- known bytes were the text of a recipe that stands for something of which, and of the text, this holds
pub record OfRecipeText (given : Option (List ℕ)) (P : List ℕ → Expansion → Type 0) : Type 0 where
  pub expansion : Expansion
  pub read : IsReadAs given expansion
  pub holds : P read.text expansion

-- known bytes were the text of a recipe, and its page was written
abbrev pub WritesRecipePage : Frame → (given : Option (List ℕ)) → (old new : SinkState) → Type 0
WritesRecipePage frame given old new = OfRecipeText given (λ text e. HasPaged frame text (IsWholeRecipe e) old new)

-- known bytes were the text of a recipe, and its page up to the act on this line, which is refused, was written
abbrev pub WritesStoppedRecipePage : Frame → (given : Option (List ℕ)) → (line : ℕ) → Refusal → (old new : SinkState) → Type 0
WritesStoppedRecipePage frame given line refusal old new =
    OfRecipeText given (λ text e. HasPaged frame text (IsStoppedRecipe e line refusal) old new)

-- known bytes were the text of a recipe, and a prefix of its page was written
abbrev pub BeginsRecipePage : Frame → (given : Option (List ℕ)) → (old new : SinkState) → Type 0
BeginsRecipePage frame given old new =
    OfRecipeText given (λ text e. HasBegunPage frame text (IsWholeRecipe e) (IsStoppedRecipe e) old new)
