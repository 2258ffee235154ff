-- The trace of rewrites: a line for each, in order.
use Rattle.std.specs.Prelude.{ℕ, zero, suc, ◌+◌, ◌-◌, List, [], ◌∷◌, ◌++◌, Bool, true, false, Option, Some, None, codes, slice_get}
use Rattle.std.specs.Fmt.{decimal}
use Rattle.ir_event.specs.Modules.{Module}
use Rattle.conversion.specs.rewriter.Commands.{RuleName}
use Rattle.conversion.specs.rewriter.Machine.{Transformation}
use Rattle.conversion.specs.patterns.Canonicalization.{greedy_rules}
use Rattle.conversion.specs.patterns.RuleNames.{number_of, word_of}
use Rattle.conversion.specs.patterns.Rule.{Rule}
use Rattle.greedy.specs.Changes.{canonicalizing}
use Rattle.greedy.specs.Tracing.{trace_of}
use Rattle.greedy.specs.PatternSet.{by_rules}
use Rattle.greedy.specs.declared.applied_rewrite.AppliedPattern.{AppliedPattern}
use Rattle.greedy.specs.declared.applied_rewrite.AppliedPattern.TheVariants as by
use Rattle.greedy.specs.declared.applied_rewrite.AppliedRewrite.{AppliedRewrite}
use Rattle.mlir_work_script_base.specs.Values.{op_text}
use Rattle.mlir_work_transforms.specs.Rewriting.{rewriting_named, rules_named}

-- the text before the id of a new operation
abbrev pub lead : Bool → List ℕ
lead true = codes " made "
lead false = codes ","

-- the ids of so many new operations, from one on
abbrev pub made_from : Bool → ℕ → ℕ → List ℕ
made_from first x zero = []
made_from first x (suc left) = lead first ++ (op_text x ++ made_from false (x + 1) left)

-- an operation that was erased
abbrev pub gone_text : Bool → ℕ → List ℕ
gone_text true x = []
gone_text false x = codes " erased " ++ op_text x

-- a rule: its number and its word
abbrev pub rule_text : Rule → List ℕ
rule_text r = decimal (number_of r) ++ (codes " " ++ word_of r)

-- the name at an index of a list, or nothing
abbrev pub or_nothing : Option (List ℕ) → List ℕ
or_nothing None = []
or_nothing (Some name) = name

-- the applied rule, or the name of the applied user pattern
abbrev pub by_text : List (List ℕ) → AppliedPattern → List ℕ
by_text names (by.Rule r) = rule_text r
by_text names (by.UserPattern k) = or_nothing (slice_get names k)

-- `rewrote 10 regroup-constants #7 made #12,#13 erased #7`, `rewrote times_power #3 made #7,#8 erased #3`
abbrev pub applied_line : List (List ℕ) → AppliedRewrite → List ℕ
applied_line names f =
    codes "rewrote " ++ (by_text names f.by ++ (codes " " ++ (op_text f.op ++ (made_from true f.from (f.until - f.from)
    ++ (gone_text f.stays f.op ++ codes "\n")))))

-- the lines of all rewrites
abbrev pub trace_text : List (List ℕ) → List AppliedRewrite → List ℕ
trace_text names [] = []
trace_text names (f ∷ fs) = applied_line names f ++ trace_text names fs

-- ---- commands that trace their rewrites

-- the rules of a traced command: the named ones if each name is a rule's, or the canonicalization rules if it names
-- none
abbrev pub traced_rules : Option (List RuleName) → Option (List Rule)
traced_rules None = Some greedy_rules
traced_rules (Some names) = rules_named names

-- the transformation of a traced command with at most so many rewrites; it is that of the command without a trace
abbrev pub tracing : Option (List RuleName) → ℕ → Option Transformation
tracing None limit = Some (canonicalizing limit)
tracing (Some names) limit = rewriting_named names limit

-- the trace of at most so many rewrites of a module by these rules
abbrev pub trace_by : Option (List Rule) → ℕ → Module → List ℕ
trace_by None limit m = []
trace_by (Some rs) limit m = trace_text [] (trace_of (by_rules rs) limit m)
