use Rattle.std.proofs.Common.{◌∙◌, ap, sym}
use Rattle.std.specs.Prelude.{is_some}
use Rattle.mlir_work_script_base.specs.RuleNames.{name_of}
use Rattle.mlir_work_registry.specs.RuleLists.{names_left}
use Rattle.mlir_work_transforms.specs.Rewriting.{each_rule}
use Rattle.mlir_work_transforms.proofs.Chosen.{item_names_none, names_on}
use Rattle.mlir_work_transforms.proofs.rewrite.are_named.Goals as goal

pub names-init : goal.names-init
names-init c = ap (λ ns. is_some (each_rule ns)) (sym c.names_in-names.ensures)

pub names-preserved : goal.names-preserved
names-preserved c =
    names_on _ (name_of c.in-Some.name) (names_left c.next_name.new.names) (names_left c.names.names) _ c.in-Some.ensures c.in-Some-canonical_named.ensures c.names.invariant

pub returns-in_default-canonical_named : goal.returns-in_default-canonical_named
returns-in_default-canonical_named c =
    sym (c.names.invariant ∙ ap (λ o. is_some o) (item_names_none (name_of c.in-Some.name) (names_left c.next_name.new.names) (names_left c.names.names) c.in-Some.ensures c.in_default-canonical_named.ensures))

pub returns : goal.returns
returns c = sym (c.names.invariant ∙ ap (λ ns. is_some (each_rule ns)) c.in_default.ensures)
