use Rattle.std.proofs.Common.{◌∙◌, ap, sym}
use Rattle.mlir_work_script_base.specs.RuleNames.{name_of}
use Rattle.mlir_work_registry.specs.Registry.{registry_model}
use Rattle.mlir_work_registry.specs.RuleLists.{names_left}
use Rattle.mlir_work_transforms.specs.RuleLists.{names_user_pattern}
use Rattle.mlir_work_transforms.proofs.Joined.{owns_here, owns_on}
use Rattle.mlir_work_transforms.proofs.named_patterns.names_pattern.Goals as goal

pub names-init : goal.names-init
names-init c = ap (names_user_pattern (registry_model c.args.registry.now)) (sym c.names_in-names.ensures)

pub names-preserved : goal.names-preserved
names-preserved c =
    owns_on (registry_model c.args.registry.now) (name_of c.in-Some.name) (names_left c.next_name.new.names) (names_left c.names.names) _ c.in-Some.ensures (sym c.is_registered_pattern.ensures ∙ c.if-is_registered_pattern.false) c.names.invariant

pub returns-then-is_registered_pattern : goal.returns-then-is_registered_pattern
returns-then-is_registered_pattern c =
    sym (c.names.invariant ∙ owns_here (registry_model c.args.registry.now) (name_of c.in-Some.name) (names_left c.next_name.new.names) (names_left c.names.names) c.in-Some.ensures (sym c.is_registered_pattern.ensures ∙ c.if-is_registered_pattern.true))

pub returns : goal.returns
returns c = sym (c.names.invariant ∙ ap (names_user_pattern (registry_model c.args.registry.now)) c.in_default.ensures)
