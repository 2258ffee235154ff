-- The answer to `why`: a line for each rule that says why it doesn't match at an operation, or that it does.
use Rattle.std.specs.Prelude.{ℕ, List, [], ◌∷◌, ◌++◌, codes, option_map, Option, Some, None}
use Rattle.ir_event.specs.trees.Ids.{find}
use Rattle.ir_event.specs.Modules.{Module}
use Rattle.conversion.specs.rewriter.Commands.{RuleName}
use Rattle.conversion.specs.patterns.Rule.{Rule}
use Rattle.conversion.specs.reasons.Conditions.{word_of}
use Rattle.conversion.specs.reasons.Reasons.{reason_of, rules_for_op}
use Rattle.conversion.specs.reasons.Reason.{Reason}
use Rattle.mlir_work_script_base.specs.Values.{op_text}
use Rattle.mlir_work_transforms.specs.Applying.{rule_named}
use Rattle.mlir_work_transforms.specs.TraceText.{rule_text}

-- the given rule, or else the rules in the table for the name of operation `x`
abbrev pub rules_to_explain : Option Rule → ℕ → Module → List Rule
rules_to_explain None x m = rules_for_op (find x m.tree)
rules_to_explain (Some r) x m = r ∷ []

-- the rules of a command; none if the given name isn't a rule's
abbrev pub requested_rules : Option RuleName → ℕ → Module → Option (List Rule)
requested_rules None x m = Some (rules_to_explain None x m)
requested_rules (Some name) x m = option_map (λ r. rules_to_explain (Some r) x m) (rule_named name)

-- the verdict on a rule
abbrev pub verdict : Option Reason → List ℕ
verdict None = codes "applies"
verdict (Some c) = word_of c

-- `why #5 4 drop-zero second-not-zero`
abbrev pub why_line : ℕ → Rule → Option Reason → List ℕ
why_line x r c =
    codes "why " ++ (op_text x ++ (codes " " ++ (rule_text r ++ (codes " " ++ (verdict c ++ codes "\n")))))

-- a line for each rule
abbrev pub why_lines : List Rule → ℕ → Module → List ℕ
why_lines [] x m = []
why_lines (r ∷ rs) x m = why_line x r (reason_of r m x) ++ why_lines rs x m

-- the lines, if there are rules
abbrev pub why_text : Option (List Rule) → ℕ → Module → List ℕ
why_text None x m = []
why_text (Some rs) x m = why_lines rs x m
