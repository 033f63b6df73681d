-- How a refusal is printed. Assumes nothing.
--   report_text layer n p   the layer, the number in decimal, ` at ` and the place as it is printed
use Rattle.std.specs.Prelude.{ℕ, List, ◌++◌, codes, decimal}

abbrev pub report_text : List ℕ → ℕ → List ℕ → List ℕ
report_text layer n p = layer ++ (codes " " ++ (decimal n ++ (codes " at " ++ p)))
