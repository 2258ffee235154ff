use Rattle.std.proofs.Common.{◌≡◌, ◌∙◌, ap, sym, subst, List, []}
use Rattle.mlir_work_script_base.specs.RuleNames.{name_of}
use Rattle.mlir_work_registry.specs.Registry.{registry_model}
use Rattle.mlir_work_registry.specs.RuleLists.{names_left, names_of}
use Rattle.mlir_work_transforms.specs.Unproved.{Noted, noted_after}
use Rattle.mlir_work_transforms.specs.Views.{noted_views}
use Rattle.mlir_work_transforms.proofs.NamedPatterns.{item_noted}
use Rattle.mlir_work_transforms.proofs.unproved.noted_in.Goals as goal

pub names-init : goal.names-init
names-init c =
    let registry = registry_model c.args.registry.now in
    subst (λ (ns : List Noted). noted_after registry ns (names_left c.names_in-names.result) ≡ noted_after registry [] (names_of c.args.list.now)) (sym (ap noted_views c.new-noted.ensures.items))
    (ap (noted_after registry []) c.names_in-names.ensures)

pub names-preserved : goal.names-preserved
names-preserved c =
    item_noted (registry_model c.args.registry.now) _ (name_of c.in-Some.name) (names_left c.next_name.new.names) (names_left c.names.names) (noted_views c.names.noted.items) (noted_views c.add_named.new.noted.items)
    c.in-Some.ensures c.in_ok-add_named.ensures c.names.invariant

pub returns : goal.returns
returns c =
    ap (noted_after (registry_model c.args.registry.now) (noted_views c.names.noted.items)) (sym c.in_default.ensures) ∙ c.names.invariant
