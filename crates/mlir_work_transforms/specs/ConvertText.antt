-- The trace of a conversion: a line for each applied rule in order, or the reason why an operation stays illegal.
use Rattle.std.specs.Prelude.{◌≡◌, ◌⊎◌, ℕ, List, [], ◌++◌, codes, map, Option, Some, None, Result, Err}
use Rattle.ir_event.specs.types.declared.refusal.Refusal.TheVariants.{Memory}
use Rattle.ir_event.specs.Modules.{Module}
use Rattle.conversion.specs.reasons.Conditions.{word_of as condition_word}
use Rattle.conversion.specs.Converting.{conversion_to, match_failure_to, applied_rules}
use Rattle.conversion.specs.Targets.{Aim}
use Rattle.conversion.specs.rewriter.Machine.{Reply, DoneWith, RefusedOn}
use Rattle.conversion.specs.declared.fault.Fault.{Fault}
use Rattle.conversion.specs.declared.match_failure.MatchFailure.{MatchFailure}
use Rattle.conversion.specs.declared.match_failure.MatchFailure.TheVariants.{NoRule, ConditionFails, MakesIllegal}
use Rattle.conversion_base.specs.declared.applied_rule.AppliedRule.{AppliedRule}
use Rattle.greedy.specs.declared.applied_rewrite.AppliedPattern.TheVariants as by
use Rattle.greedy.specs.declared.applied_rewrite.AppliedRewrite.{AppliedRewrite}
use Rattle.mlir_work_script_base.specs.Values.{op_text}
use Rattle.mlir_work_transforms.specs.TraceText.{rule_text, trace_text}

-- an applied conversion rule in the form of an applied rewrite
abbrev pub applied_as : AppliedRule → AppliedRewrite
applied_as k = record { by = by.Rule k.rule; op = k.op; from = k.from; until = k.until; stays = k.stays }

-- a line for each applied rule
abbrev pub located_text : List AppliedRule → List ℕ
located_text ks = trace_text [] (map applied_as ks)

-- why the rule that was tried last failed
abbrev pub match_failure_text : MatchFailure → List ℕ
match_failure_text NoRule = codes "no-rule"
match_failure_text (ConditionFails r c) = rule_text r ++ (codes " " ++ condition_word c)
match_failure_text (MakesIllegal r) = rule_text r ++ codes " makes-illegal"

-- `stays #5 26 expand-difference other-operation`
abbrev pub match_failure_line : ℕ → MatchFailure → List ℕ
match_failure_line x s = codes "stays " ++ (op_text x ++ (codes " " ++ (match_failure_text s ++ codes "\n")))

abbrev pub match_failure_lines : Option (ℕ × MatchFailure) → List ℕ
match_failure_lines None = []
match_failure_lines (Some s) = match_failure_line s.0 s.1

-- the lines below a reply
abbrev pub lines_below : Reply → List AppliedRule → Option (ℕ × MatchFailure) → List ℕ
lines_below (DoneWith o) ks s = located_text ks
lines_below (RefusedOn e x) ks s = match_failure_lines s
lines_below _ ks s = []

-- the trace of a conversion of a module, below the reply to it
abbrev pub conversion_text : Option Aim → Module → Reply → List ℕ
conversion_text g m reply = lines_below reply (applied_rules (conversion_to g m)) (match_failure_to g m)

-- the newest reason why an operation stays illegal, or else the old one
abbrev pub latest_match_failure : Option MatchFailure → Option MatchFailure → Option MatchFailure
latest_match_failure None old = old
latest_match_failure (Some s) old = Some s

-- ---- how a traced conversion is shown

-- the line below a fault: why the operation of the fault stays illegal
abbrev pub match_failure_below : Option ℕ → Option MatchFailure → List ℕ
match_failure_below None s = []
match_failure_below (Some x) None = []
match_failure_below (Some x) (Some s) = match_failure_line x s

-- a fault with that line, or `Memory` if there was no memory for the line
abbrev pub FaultWithLine : Fault → Option MatchFailure → Result ℕ Fault → List ℕ → Type 0
FaultWithLine f s called lines =
    ((called ≡ Err f) × (lines ≡ match_failure_below f.id s))
    ⊎ ((called ≡ Err (record { refusal = Memory; id = None })) × (lines ≡ []))
