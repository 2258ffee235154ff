-- Which rules and patterns fired in the last hundred rewrites of a run that stopped by its limit, and how many times.
use Rattle.std.specs.Prelude.{ℕ, suc, ◌-◌, ◌==◌, List, [], ◌∷◌, ◌++◌, length, drop, map, Bool, true, false, if◌then◌else◌, Option, Some, None, codes}
use Rattle.std.specs.Fmt.{decimal}
use Rattle.std.specs.List.{list_any}
use Rattle.ir_event.specs.Modules.{Module}
use Rattle.conversion.specs.rewriter.Commands.{Response, Replied}
use Rattle.conversion.specs.rewriter.Machine.{DoneWith, Limited, Outcome, Reply}
use Rattle.conversion.specs.patterns.RuleNames.{number_of}
use Rattle.conversion.specs.patterns.Rule.{Rule}
use Rattle.greedy.specs.Tracing.{trace_of}
use Rattle.greedy.specs.PatternSet.{pattern_set_from, by_rules}
use Rattle.greedy.specs.declared.applied_rewrite.AppliedPattern.{AppliedPattern}
use Rattle.greedy.specs.declared.applied_rewrite.AppliedPattern.TheVariants as by
use Rattle.greedy.specs.declared.applied_rewrite.AppliedRewrite.{AppliedRewrite}
use Rattle.mlir_work_transforms.specs.RuleLists.{Listed, rules_and_patterns_in, names_in}
use Rattle.mlir_work_transforms.specs.TraceText.{by_text}

-- ---- counts

-- whether both are the same rule, or the same user pattern of a list
abbrev pub is_same : AppliedPattern → AppliedPattern → Bool
is_same (by.Rule r) (by.Rule s) = number_of r == number_of s
is_same (by.Rule r) (by.UserPattern k) = false
is_same (by.UserPattern j) (by.Rule s) = false
is_same (by.UserPattern j) (by.UserPattern k) = j == k

abbrev pub is_in : AppliedPattern → List AppliedPattern → Bool
is_in b bs = list_any (is_same b) bs

-- how many times a rule or pattern is in a list
abbrev pub times_in : AppliedPattern → List AppliedPattern → ℕ
times_in b [] = 0
times_in b (c ∷ cs) = if is_same b c then suc (times_in b cs) else times_in b cs

-- a rule or pattern that fired, and how many times
pub record FirstMatching : Type 0 where
  pub applied : AppliedPattern
  pub times : ℕ

-- the count of the first entry of `rest`, unless it was counted at an entry before
abbrev pub first_of : List AppliedPattern → List AppliedPattern → List FirstMatching
first_of before [] = []
first_of before (b ∷ rest) = if is_in b before then [] else record { applied = b; times = times_in b (b ∷ rest) } ∷ []

-- the counts of the entries of a list after the entries `before`, in the order of the first entry of each
abbrev pub fired_after : List AppliedPattern → List AppliedPattern → List FirstMatching
fired_after before [] = []
fired_after before (b ∷ rest) = first_of before (b ∷ rest) ++ fired_after (before ++ b ∷ []) rest

-- the last hundred entries of a list, or all entries of a shorter one
abbrev pub last_hundred : List AppliedPattern → List AppliedPattern
last_hundred bs = drop (length bs - 100) bs

-- the rules and patterns among the last hundred entries
abbrev pub fired_of : List AppliedPattern → List FirstMatching
fired_of bs = fired_after [] (last_hundred bs)

-- the rule or pattern of each rewrite
abbrev pub applied_by : List AppliedRewrite → List AppliedPattern
applied_by fs = map (λ f. f.by) fs

-- ---- lines

-- `fired 4 drop-zero 37`, `fired mine 63`
abbrev pub fired_line : List (List ℕ) → FirstMatching → List ℕ
fired_line names f = codes "fired " ++ (by_text names f.applied ++ (codes " " ++ (decimal f.times ++ codes "\n")))

abbrev pub fired_text : List (List ℕ) → List FirstMatching → List ℕ
fired_text names [] = []
fired_text names (f ∷ fs) = fired_line names f ++ fired_text names fs

-- ---- commands that count

-- whether a run stopped by its limit
abbrev pub is_limited : Outcome → Bool
is_limited (Limited k) = true
is_limited _ = false

abbrev pub replies_limited : Reply → Bool
replies_limited (DoneWith o) = is_limited o
replies_limited _ = false

abbrev pub responds_limited : Response → Bool
responds_limited (Replied reply) = replies_limited reply
responds_limited _ = false

abbrev pub fired_if : Bool → List (List ℕ) → List AppliedRewrite → List ℕ
fired_if true names fs = fired_text names (fired_of (applied_by fs))
fired_if false names fs = []

-- the lines below the response to a run with this trace
abbrev pub fired_below : Response → List (List ℕ) → List AppliedRewrite → List ℕ
fired_below response names fs = fired_if (responds_limited response) names fs

-- the lines below the response to at most so many rewrites of a module by these rules
abbrev pub fired_by : Option (List Rule) → ℕ → Module → Response → List ℕ
fired_by None limit m response = []
fired_by (Some rs) limit m response = fired_below response [] (trace_of (by_rules rs) limit m)

-- the same for a list of rules and patterns
abbrev pub rule_list_fired : Option (List Listed) → ℕ → Module → Response → List ℕ
rule_list_fired None limit m response = []
rule_list_fired (Some ls) limit m response =
    fired_below response (names_in ls) (trace_of (pattern_set_from (rules_and_patterns_in ls)) limit m)
