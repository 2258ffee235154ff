-- The text of a module with operation ids: each line ends with the id of the operation that it is a part of.
use Rattle.std.specs.Prelude.{ℕ, List, [], ◌∷◌, ◌++◌, drop, codes}
use Rattle.ir_event.specs.trees.Meaning.{Operation}
use Rattle.ir_event.specs.trees.Tree.{OpOf, op, RegionsOf, no_regions, region}
use Rattle.ir_event.specs.trees.Tree.{RegionOf, empty, block, OpsOf, no_ops, next}
use Rattle.ir_text.specs.Printing.{text_of}
use Rattle.mlir_work_script_base.specs.Lines.{lines_of}
use Rattle.mlir_work_script_base.specs.Values.{op_text}

-- an empty block without arguments has a label line; `x` is the operation around it
abbrev pub bare_label_ids : {N T A : Type 0} → ℕ → OpsOf N T A → List ℕ
bare_label_ids x no_ops = x ∷ []
bare_label_ids x (next o os) = []

-- a block with arguments always has a label line
abbrev pub label_ids : {N T A : Type 0} → ℕ → List T → OpsOf N T A → List ℕ
label_ids x [] os = bare_label_ids x os
label_ids x (t ∷ ts) os = x ∷ []

-- the operation of each line of a text in order: a line begins with an operation or with the end of one of its
-- regions that has a block
abbrev mutual
  pub line_ids : {N T A : Type 0} → OpOf N T A → List ℕ
  line_ids (op h rs) = h.id ∷ regions_line_ids h.id rs

  pub regions_line_ids : {N T A : Type 0} → ℕ → RegionsOf N T A → List ℕ
  regions_line_ids x no_regions = []
  regions_line_ids x (region r rs) = region_line_ids x r ++ regions_line_ids x rs

  pub region_line_ids : {N T A : Type 0} → ℕ → RegionOf N T A → List ℕ
  region_line_ids x empty = []
  region_line_ids x (block args os) = label_ids x args os ++ (ops_line_ids os ++ x ∷ [])

  pub ops_line_ids : {N T A : Type 0} → OpsOf N T A → List ℕ
  ops_line_ids no_ops = []
  ops_line_ids (next o os) = line_ids o ++ ops_line_ids os

-- the end of a line with the first of the remaining ids as a comment: ` // #3`
abbrev pub line_end : List ℕ → List ℕ
line_end [] = codes "\n"
line_end (x ∷ xs) = codes " // " ++ (op_text x ++ codes "\n")

-- lines with their ids
abbrev pub with_ids : List (List ℕ) → List ℕ → List ℕ
with_ids [] xs = []
with_ids (line ∷ lines) xs = line ++ (line_end xs ++ with_ids lines (drop 1 xs))

-- the text of a module with ids
abbrev pub ids_text : Operation → List ℕ
ids_text t = with_ids (lines_of (text_of t)) (line_ids t)
