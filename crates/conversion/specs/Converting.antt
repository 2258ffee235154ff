-- Conversion as a transformation, and the reply to it.
use Rattle.std.specs.Prelude.{ℕ, true, List, [], ◌∷◌, length, Option, Some, None, option_map, option_and_then, Result, Ok, Err}
use Rattle.ir_event.specs.types.declared.refusal.Refusal.TheVariants.{BadTarget}
use Rattle.ir_event.specs.Modules.{Module}
use Rattle.patterns.specs.rewriter.Commands.{Target}
use Rattle.patterns.specs.rewriter.Machine.{Converted, DoneWith, Fault as Because}
use Rattle.patterns.specs.rewriter.Machine.{Outcome, Reply, Transformation, fault_reply}
use Rattle.conversion_base.specs.Conversion.{Ended, converted, given_up, conversion_of}
use Rattle.conversion_base.specs.Rule.{Rule}
use Rattle.conversion_base.specs.declared.applied_rule.AppliedRule.{AppliedRule}
use Rattle.conversion_base.specs.RuleNames.{by_number}
use Rattle.conversion_base.specs.Targets.{Aim}
use Rattle.conversion.specs.declared.fault.Fault.{Fault}
use Rattle.conversion.specs.declared.match_failure.MatchFailure.{MatchFailure}
use Rattle.conversion.specs.MatchFailures.{unlegalised_op}

-- the new module and the number of applied rules, or the reason of the refusal
abbrev pub ended_as : Ended → Result (Outcome × Module) Because
ended_as (converted m ks) = Ok (Converted (length ks), m)
ended_as (given_up refusal x) = Err (record { refusal = refusal; op = x })

-- the transformation with these ends
abbrev pub ending : (Module → Ended) → Transformation
ending f = record { transformed = λ m. ended_as (f m); interns = true }

-- the transformation of a conversion
abbrev pub converting : Aim → Transformation
converting g = ending (conversion_of g)

-- the rules of some numbers, if each is the number of a rule
abbrev pub rules_of : List ℕ → Option (List Rule)
rules_of [] = Some []
rules_of (n ∷ ns) = option_and_then (λ r. option_map (λ rs. r ∷ rs) (rules_of ns)) (by_number n)

-- the aim of a command's target, if each of its numbers is the number of a rule
abbrev pub command_aim : Target → Option Aim
command_aim t =
    option_map (λ rules. record {
      full = t.full;
      legal = t.legal;
      illegal = t.illegal;
      dynamic = t.dynamic;
      rules = rules;
      depth = t.depth;
    })
    (rules_of t.rules)

-- the conversion of a module, if there is an aim
abbrev pub conversion_to : Option Aim → Module → Ended
conversion_to None m = given_up BadTarget None
conversion_to (Some g) m = conversion_of g m

-- the applied rules in the end, in the order in which they were applied
abbrev pub applied_rules : Ended → List AppliedRule
applied_rules (converted m ks) = ks
applied_rules (given_up e x) = []

-- why an operation can't be legalized, if there is an aim
abbrev pub match_failure_to : Option Aim → Module → Option (ℕ × MatchFailure)
match_failure_to None m = None
match_failure_to (Some g) m = unlegalised_op g m

-- the transformation of a command
abbrev pub conversion : Target → Transformation
conversion t = ending (conversion_to (command_aim t))

-- the reply to a conversion
abbrev pub conversion_reply : Result ℕ Fault → Reply
conversion_reply (Ok n) = DoneWith (Converted n)
conversion_reply (Err f) = fault_reply f.refusal f.id
