use Rattle.expand_engine.proofs.OneRecipe.{one_recipe}
use Rattle.expand_engine.proofs.text_laws.a_text_is_one_recipe.Goals as goal

pub returns : goal.returns
returns c = one_recipe
