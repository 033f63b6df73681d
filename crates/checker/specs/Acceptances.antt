-- How an acceptance is told. Assumes nothing.
--   acceptance_text a   `accept words `, the words, ` reached ` and the addresses, both in decimal
use Rattle.std.specs.Prelude.{ℕ, List, ◌++◌, codes, decimal}
use Rattle.checker.specs.declared.acceptance.Acceptance.{Acceptance}

abbrev pub acceptance_text : Acceptance → List ℕ
acceptance_text a = codes "accept words " ++ (decimal a.words ++ (codes " reached " ++ decimal a.reached))
