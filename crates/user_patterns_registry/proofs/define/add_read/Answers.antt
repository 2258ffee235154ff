use Rattle.user_patterns_text.specs.Parts.{pattern_view}
use Rattle.user_patterns_registry.specs.Registry.{registry_model, kept_view}
use Rattle.user_patterns_registry.proofs.Registries.{rendered_on}
use Rattle.user_patterns_registry.proofs.define.add_read.Goals as goal

pub returns-in-Ok-clause-rendered : goal.returns-in-Ok-clause-rendered
returns-in-Ok-clause-rendered c =
    rendered_on c.add.result c.args.text.now (pattern_view c.args.parts.now) (registry_model c.args.registry.now) (registry_model c.add.new.registry) (kept_view c.in-Ok.held)
    c.requires c.in-Ok.ensures c.add.ensures.gives
