use Rattle.std.proofs.Common.{◌∙◌}
use Rattle.user_patterns_text.specs.Parts.{pattern_view}
use Rattle.user_patterns_registry.specs.Registry.{is_named, kept_view, registry_model}
use Rattle.mlir_work_registry.proofs.Redefining.{namesake_of, place_by}
use Rattle.mlir_work_registry.proofs.redefine.namesake.Goals as goal

pub returns-in-Ok : goal.returns-in-Ok
returns-in-Ok c =
    namesake_of (registry_model c.args.registry.now) c.args.text.now (pattern_view c.in-Ok.parts) c.place_of.result c.in-Ok.ensures.exact
    ((rw c.deref.ensures.value at c.place_of.ensures) ∙ place_by kept_view (is_named (pattern_view c.in-Ok.parts).name) c.args.registry.now.held.items)
