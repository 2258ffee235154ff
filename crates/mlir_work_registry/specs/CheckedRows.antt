-- The line of each pattern in the answer to `check all`.
use Rattle.std.specs.Prelude.{ℕ, List, ◌++◌, Bool, false, codes, if◌then◌else◌}
use Rattle.user_patterns_registry.specs.Rows.{said_text}
use Rattle.mlir_work_registry.specs.Notices.{Notice, Simple, Checked, is_failure}

-- the answer to a check, without its number: `holds 8`, `fails 2`; the check of a registered pattern is refused with
-- `BadLimit` alone
abbrev pub answer_text : Notice → List ℕ
answer_text (Checked said) = said_text said
answer_text (Simple response) = codes "refused 50 BadLimit"

-- the line of a pattern: `checked mask holds 8`
abbrev pub checked_row : List ℕ → List ℕ → List ℕ
checked_row name answer = codes "checked " ++ (name ++ (codes " " ++ (answer ++ codes "\n")))

-- whether a check found a counterexample
abbrev pub finds_failure : Notice → Bool
finds_failure (Checked said) = is_failure said
finds_failure (Simple response) = false

-- the answer to the first check that found a counterexample
abbrev pub first_failure : Notice → Notice → Notice
first_failure notice others = if finds_failure notice then notice else others
