-- The cells of the report's rows.
use Rattle.std.specs.Prelude.{ℕ, List, [], ◌∷◌, ◌++◌, Option, Some, None}
use Rattle.std.specs.Ordering.{nat_cmp}
use Rattle.std.specs.BTreeMap.{BTreeMap, get}
use Rattle.ir_verify_base.specs.events.declared.subject.Subject.{Subject}
use Rattle.ir_verify_base.specs.events.declared.subject.Subject.TheVariants as subject
use Rattle.ir_verify_base.specs.events.declared.row.Cell.{Cell}
use Rattle.ir_verify_base.specs.events.declared.row.Cell.TheVariants.{Op, Rule}
use Rattle.ir_verify.specs.declared.finding.Finding.{Finding}
use Rattle.ir_verify.specs.Sets.{reported_rules}

-- the row of an operation and a rule
abbrev pub rule_cells : ℕ → ℕ → List Cell
rule_cells x r = Op x ∷ Rule r ∷ []

-- the rows of an operation and several rules
abbrev pub rules_cells : ℕ → List ℕ → List (List Cell)
rules_cells x [] = []
rules_cells x (r ∷ rs) = rule_cells x r ∷ rules_cells x rs

-- the rows of several operations
abbrev pub all_cells : List (ℕ × Finding) → List (List Cell)
all_cells [] = []
all_cells (e ∷ es) = rules_cells e.0 (reported_rules e.1) ++ all_cells es

-- the rows of an operation, by its finding, if it has one
abbrev pub found_cells : ℕ → Option Finding → List (List Cell)
found_cells x None = []
found_cells x (Some f) = rules_cells x (reported_rules f)

-- the rows about a subject
abbrev pub cells_about : Subject → BTreeMap ℕ Finding → List (List Cell)
cells_about (subject.Op x) table = found_cells x (get nat_cmp table x)
cells_about (subject.Val v) table = []
