use Rattle.expand_engine.proofs.OneRecipe.{not_neither_of_recipe}
use Rattle.expand_engine.proofs.text_laws.a_text_is_a_recipe_or_faulty.Goals as goal

pub returns : goal.returns
returns c = not_neither_of_recipe
