-- What commands do by their options.
use Rattle.std.specs.Prelude.{◌≡◌, ℕ, Bool, List, [], Option, None, Some, option_map, true, false, if◌then◌else◌, map}
use Rattle.command_line.specs.declared.commands.Colours.{Colours}
use Rattle.command_line.specs.declared.commands.Colours.TheVariants.{Auto, Always, Never}
use Rattle.std.specs.Borrow.{Bor}
use Rattle.command_line.specs.declared.commands.ShowOptions.{ShowOptions}
use Rattle.text_io.specs.Devices.{SinkState}
use Rattle.page_engine.specs.Pages.{WritesPage}
use Rattle.page_engine.specs.Histories.{WritesHistoryPage}
use Rattle.page_engine.specs.Recipes.{WritesRecipePage}
use Rattle.msq.specs.declared.options.Frames.{Frames}
use Rattle.show_engine.specs.declared.frames.Meaning.{Meaning}
use Rattle.show_engine.specs.declared.frames.View.{View}
use Rattle.show_engine.specs.Found.{DrawsFound}
use Rattle.expand_engine.specs.RecipesRun.{WritesOf}
use Rattle.show_engine.specs.PicturesWritten.{WritesPicture, the_picture}
use Rattle.show_engine.specs.TimelinesWritten.{WritesTimeline}
use Rattle.placing.specs.declared.answers.Placed.{Placed}
use Rattle.recording_text.specs.RecordingReading.{bytes_of}
use Rattle.place_engine.specs.Places.{TellsPlaces}
use Rattle.place_engine.specs.HeldTexts.{TellsHolding}

-- a view is the one of a run or of a history that options ask for, with these meanings where they ask for a legend
pub record IsViewOf (options : ShowOptions) (meanings : List Meaning) (view : View) : Type 0 where
  pub width : view.width ≡ options.width
  pub first : view.from ≡ options.from
  pub last : view.to ≡ options.to
  pub actor : view.actor ≡ options.actor
  pub legend : view.legend.now ≡ (if options.has_legend then meanings else [])

-- when options that draw ask for colours, where they are usual or aren't
abbrev pub colours_at : Colours → (is_usual : Bool) → Bool
colours_at Auto is_usual = is_usual
colours_at Always is_usual = true
colours_at Never is_usual = false

-- whether what options ask for has colours, where they are usual or aren't: a page has none
abbrev pub has_colours : ShowOptions → (is_usual : Bool) → Bool
has_colours options is_usual = if options.is_page then false else colours_at options.colours is_usual

-- known bytes were the text of a history, if the options say so, or else of a schedule, or of a recipe, which it is taken for; its page in its frame was written, or its
-- timeline or its picture of the view that they ask for, or what is found of a recorded history, if they say so. A page, or a picture
-- of what is found, tells of a search whose states take at most 1 GiB
pub record Draws (options : ShowOptions) (frames : Frames) (meanings : List Meaning) (is_recipe : Bool) (given : Option (List ℕ)) (old new : SinkState) : Type 0 where
  pub view : View
  pub asked : IsViewOf options meanings view
  pub timeline : options.is_history ≡ true → options.is_page ≡ false → options.draws_reason ≡ false → WritesTimeline view given old new
  pub history_page : options.is_history ≡ true → options.is_page ≡ true → WritesHistoryPage frames.history given 1073741824 old new
  pub page : options.is_history ≡ false → options.is_page ≡ true → is_recipe ≡ false → WritesPage frames.run given old new
  pub recipe_page : options.is_history ≡ false → options.is_page ≡ true → is_recipe ≡ true → WritesRecipePage frames.run given old new
  pub picture : options.is_history ≡ false → options.is_page ≡ false → options.draws_reason ≡ false → is_recipe ≡ false → WritesPicture view given old new
  pub recipe : options.is_history ≡ false → options.is_page ≡ false → options.draws_reason ≡ false → is_recipe ≡ true → WritesOf (the_picture view) given old new
  pub found : options.draws_reason ≡ true → options.is_page ≡ false → DrawsFound view given 1073741824 old new

-- the texts that are held, where some are
abbrev pub held_texts : Option (Bor (List (Bor (List ℕ)))) → Option (List (List ℕ))
held_texts held = option_map (λ held. map bytes_of held.now) held

-- what is told of known bytes by a search whose states take at most so many bytes: of a history or a recording, or, where the queue holds texts at
-- the start, of a recording of such a queue
abbrev pub PlacesBy : Option (List (List ℕ)) → (given : Option (List ℕ)) → (room : ℕ) → (why : Bool) → (old new : SinkState) → Placed → Type 0
PlacesBy None given room why old new answer = TellsPlaces given room why old new answer
PlacesBy (Some held) given room why old new answer = TellsHolding held given room why old new answer
