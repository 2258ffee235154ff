-- The rules and user patterns of a run.
use Rattle.std.specs.Prelude.{ℕ, List, ⊤, Option, Some, None}
use Rattle.ir_event.specs.Modules.{Module}
use Rattle.patterns_base.specs.Canonicalization.{greedy_rules}
use Rattle.patterns.specs.Rows.{IsRuleTable}
use Rattle.greedy.specs.PatternSet.{MayUseAll, PatternSetModel, only_at, patterns_of, pattern_set_from, by_rules}
use Rattle.greedy.specs.Work.{Right}
use Rattle.greedy.specs.declared.pattern_set.Entries.{Entries}
use Rattle.greedy.specs.declared.pattern_set.Entries.TheVariants.{Canonicalization, Rules, Patterns}
use Rattle.greedy.specs.declared.pattern_set.PatternSet.{PatternSet}

-- the rules and patterns of a list, tried at each operation
abbrev pub model_of : Entries → PatternSetModel
model_of Canonicalization = by_rules greedy_rules
model_of (Rules rows) = by_rules rows.now.rules.now
model_of (Patterns list) = pattern_set_from (patterns_of list.now)

-- canonicalization tries each of the rules, so a run may try them
abbrev pub MayTry : Entries → Type 0
MayTry Canonicalization = ⊤
MayTry (Rules rows) = IsRuleTable rows.now
MayTry (Patterns list) = MayUseAll (patterns_of list.now)

-- a set at all operations, or at one
abbrev pub tried_at : Option ℕ → PatternSetModel → PatternSetModel
tried_at None a = a
tried_at (Some x) a = only_at x a

-- the pattern set of a run
abbrev pub pattern_set_of : PatternSet → PatternSetModel
pattern_set_of s = tried_at s.at (model_of s.entries)

-- a worklist is right for a run; a run at one operation needs none
abbrev pub IsReadyFor : Option ℕ → PatternSetModel → ℕ → List ℕ → Module → Type 0
IsReadyFor None a passed again m = Right a passed again m
IsReadyFor (Some x) a passed again m = ⊤

abbrev pub IsReady : PatternSet → ℕ → List ℕ → Module → Type 0
IsReady s passed again m = IsReadyFor s.at (model_of s.entries) passed again m
