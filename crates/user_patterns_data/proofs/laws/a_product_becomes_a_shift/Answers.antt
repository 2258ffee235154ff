use Rattle.std.proofs.Common.{refl}
use Rattle.ir_types.specs.Words as words
use Rattle.op_registry.specs.Registry as registry
use Rattle.op_registry.specs.Rows as rows
use Rattle.op_registry.specs.Properties as properties
use Rattle.dialects_int.specs.Folds as folds
use Rattle.patterns_laws.specs.Words as named
use Rattle.user_patterns_check.specs.Cases.{first_below}
use Rattle.user_patterns_check.specs.Outcomes.{log_of}
use Rattle.user_patterns_data.specs.Planning.{planned}
use Rattle.user_patterns_data.proofs.laws.a_product_becomes_a_shift.Goals as goal

pub returns-clause-planned : goal.returns-clause-planned
unfolding planned log_of first_below folds.fold_of folds.rule_of folds.rules words.operations words.is_inherent words.is_listed properties.is_allowed properties.is_of_kind properties.kind_of properties.property_kinds named.flagged registry.row_of rows.rows
returns-clause-planned c = refl

pub returns-clause-nothing : goal.returns-clause-nothing
unfolding planned log_of first_below folds.fold_of folds.rule_of folds.rules words.operations words.is_inherent words.is_listed properties.is_allowed properties.is_of_kind properties.kind_of properties.property_kinds named.flagged registry.row_of rows.rows
returns-clause-nothing c = refl
