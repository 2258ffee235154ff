-- The analysis of diagnostics: the reported rules of each operation of a tree.
use Rattle.std.specs.Prelude.{◌≡◌, ℕ, List, [], ◌∷◌, ◌++◌, true, false, Option, option_map}
use Rattle.ir_types.specs.declared.refusal.Refusal.{Refusal}
use Rattle.ir_types.specs.declared.refusal.Refusal.TheVariants.{NoSuchOp, Memory}
use Rattle.ir_tree.specs.Ids.{has_id}
use Rattle.ir_tree.specs.Meaning.{Operation}
use Rattle.ir_verify_base.specs.events.Rows.{RowTerm, Op, Rule}
use Rattle.ir_verify_base.specs.Surroundings.{surroundings}
use Rattle.ir_verify_base.specs.Facts.{sorted_facts}
use Rattle.ir_verify.specs.Breaks.{broken}
use Rattle.ir_verify.specs.Beyond.{reported}

-- the rules that operation x of a tree breaks, if it is there
abbrev pub broken_at : ℕ → Operation → Option (List ℕ)
broken_at x t = option_map broken (surroundings x t)

-- the reported rules of operation x, if it is in the tree
abbrev pub reported_at : ℕ → Operation → Option (List ℕ)
reported_at x t = option_map reported (surroundings x t)

-- the reason why operation x isn't checked: it isn't in the tree, or memory ran out
abbrev pub Unchecked : ℕ → Operation → Refusal → Type 0
Unchecked x t NoSuchOp = has_id x t ≡ false
Unchecked x t Memory = has_id x t ≡ true
Unchecked x t _ = ⊥

-- the rows of an operation, one for each rule number
abbrev pub rule_rows : ℕ → List ℕ → List RowTerm
rule_rows x [] = []
rule_rows x (r ∷ rs) = (Op x ∷ Rule r ∷ []) ∷ rule_rows x rs

-- the rows of several operations
abbrev pub rows_of : List (ℕ × List ℕ) → List RowTerm
rows_of [] = []
rows_of (e ∷ es) = rule_rows e.0 e.1 ++ rows_of es

-- the rows of a tree, ordered by operation and rule
abbrev pub diagnostics_of : Operation → List RowTerm
diagnostics_of t = rows_of (sorted_facts reported t)
