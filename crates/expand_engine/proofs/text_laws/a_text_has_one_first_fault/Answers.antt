use Rattle.expand_engine.proofs.OneRecipe.{no_fault_of_recipe, one_fault_of_recipe}
use Rattle.expand_engine.proofs.text_laws.a_text_has_one_first_fault.Goals as goal

pub returns : goal.returns
returns c = record { one = one_fault_of_recipe; none = no_fault_of_recipe }
