use Rattle.std.proofs.Common.{◌∙◌, ap, sym}
use Rattle.std.specs.Prelude.{is_some}
use Rattle.mlir_work_script_base.specs.RuleNames.{name_of}
use Rattle.mlir_work_registry.specs.Registry.{registry_model}
use Rattle.mlir_work_registry.specs.RuleLists.{names_left}
use Rattle.mlir_work_transforms.specs.RuleLists.{each_listed}
use Rattle.mlir_work_transforms.proofs.Joined.{names_none, names_on}
use Rattle.mlir_work_transforms.proofs.rule_items.are_listed.Goals as goal

pub names-init : goal.names-init
names-init c = ap (λ ns. is_some (each_listed (registry_model c.args.registry.now) ns)) (sym c.names_listed-names.ensures)

pub names-preserved : goal.names-preserved
names-preserved c =
    names_on (registry_model c.args.registry.now) _ (name_of c.in-Some.name) (names_left c.next_name.new.names) (names_left c.names.names) _ c.in-Some.ensures c.in-Some-listed_named.ensures c.names.invariant

pub returns-in_default-listed_named : goal.returns-in_default-listed_named
returns-in_default-listed_named c =
    sym (c.names.invariant ∙ names_none (registry_model c.args.registry.now) (name_of c.in-Some.name) (names_left c.next_name.new.names) (names_left c.names.names) c.in-Some.ensures c.in_default-listed_named.ensures)

pub returns : goal.returns
returns c = sym (c.names.invariant ∙ ap (λ ns. is_some (each_listed (registry_model c.args.registry.now) ns)) c.in_default.ensures)
