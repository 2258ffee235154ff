-- Applying a rule or a user pattern at an operation, as a transformation.
use Rattle.std.specs.Prelude.{ℕ, Bool, true, false, Option, None, option_map, Result, Ok, Err, if◌then◌else◌}
use Rattle.ir_event.specs.types.declared.refusal.Refusal.{Refusal}
use Rattle.ir_event.specs.types.declared.refusal.Refusal.TheVariants.{NoSuchOp}
use Rattle.ir_event.specs.trees.Ids.{has_id}
use Rattle.ir_event.specs.Modules.{Module}
use Rattle.conversion.specs.rewriter.Commands.{RuleName, Numbered, Worded}
use Rattle.conversion.specs.rewriter.Machine.{Applied, DoneWith, Fault, Outcome, Refused, Reply, Transformation}
use Rattle.conversion.specs.patterns.Rewrites.{Rewrite, none, refused, becomes, rewrite_of}
use Rattle.conversion.specs.patterns.RuleNames.{by_number, by_word}
use Rattle.conversion.specs.patterns.Rule.{Rule}
use Rattle.user_patterns_data.specs.Shapes.{PatternModel}
use Rattle.greedy.specs.own.Own.{user_pattern_rewrite}

-- how often a rule was applied
abbrev pub applied_times : Bool → ℕ
applied_times true = 1
applied_times false = 0

-- the result of a rewrite of a module
abbrev pub made_of : Rewrite → Module → Result (Outcome × Module) Fault
made_of none m = Ok (Applied (applied_times false), m)
made_of (becomes n) m = Ok (Applied (applied_times true), n)
made_of (refused e) m = Err (record { refusal = e; op = None })

-- a rewrite at operation `x` of a module; a missing operation is refused with `NoSuchOp`
abbrev pub applied_at : (Module → Rewrite) → ℕ → Module → Result (Outcome × Module) Fault
applied_at w x m = if has_id x m.tree then made_of (w m) m else Err (record { refusal = NoSuchOp; op = None })

-- the transformation; it may intern types and attributes
abbrev pub rewriting_at : (Module → Rewrite) → ℕ → Transformation
rewriting_at w x = record { transformed = applied_at w x; interns = true }

-- the transformation of a rule, and that of a user pattern
abbrev pub applying : Rule → ℕ → Transformation
applying r x = rewriting_at (λ m. rewrite_of r m x) x

abbrev pub applying_user_pattern : PatternModel → ℕ → Transformation
applying_user_pattern p x = rewriting_at (λ m. user_pattern_rewrite p m x) x

-- the rule with this name
abbrev pub rule_named : RuleName → Option Rule
rule_named (Numbered n) = by_number n
rule_named (Worded word) = by_word word

-- the transformation of a command
abbrev pub application : RuleName → ℕ → Option Transformation
application name x = option_map (λ r. applying r x) (rule_named name)

-- the reply to applying a rule
abbrev pub applied_reply : Result Bool Refusal → Reply
applied_reply (Ok done) = DoneWith (Applied (applied_times done))
applied_reply (Err refusal) = Refused refusal
