-- An operation that isn't listed breaks no rule.
use Rattle.std.proofs.Common.{◌≡◌, ap, false, Option, Some, None}
use Rattle.std.specs.Prelude.{is_some}
use Rattle.op_registry.specs.Rows.{Row}
use Rattle.op_registry.specs.Registry.{row_of}
use Rattle.ir_verify_base.specs.Fits.{Surroundings}
use Rattle.ir_verify.specs.declared.rules.RuleSet.{RuleSet}
use Rattle.ir_verify.specs.Breaks.{broken_rules_in}
use Rattle.ir_verify.specs.Sets.{has_any, packed, set_of}

abbrev reported_by : Surroundings → Option Row → RuleSet
reported_by s r = record { bits = packed (broken_rules_in r s) }

pub reports_nothing : (s : Surroundings) (r : Option Row) → row_of s.node.head.name ≡ r → is_some r ≡ false → has_any (set_of s) ≡ false
reports_nothing s None e f = ap (λ r. has_any (reported_by s r)) e
reports_nothing s (Some r) e f = absurd cc
