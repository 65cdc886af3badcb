-- The rows of a table that tell how many there are of each kind.
use Rattle.std.specs.Prelude.{ℕ, List, ◌++◌, codes, decimal}
use Rattle.report.specs.Columns.{right_in, left_in}

-- the line of a kind of this name with how often it occurs
unfoldable pub counted_text : {K : Type 0} → (K → List ℕ) → K → (number : ℕ) → List ℕ
counted_text name kind number = left_in 10 (name kind) ++ right_in 8 (decimal number) ++ codes "\n"
