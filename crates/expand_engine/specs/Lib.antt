pub mod Walks
pub mod Expansions
pub mod Recipes
pub mod UnrolledActs
pub mod RecipesRun
