use Rattle.std.proofs.Common.{◌≡◌, Ok, subst}
use Rattle.user_patterns_text.specs.Refusing.{Fails}
use Rattle.user_patterns_registry.specs.Registry.{RegistryModel, defined, registry_model}
use Rattle.mlir_work_registry.proofs.Redefining.{pattern_alone, pattern_fails}
use Rattle.mlir_work_registry.proofs.redefine.pattern_of.Goals as goal

pub returns-in-Err : goal.returns-in-Err
returns-in-Err c =
    pattern_fails c.args.text.now c.in-Err.e (subst (λ (b : RegistryModel). Fails c.in-Err.e (defined b c.args.text.now)) c.new-registry.ensures c.in-Err.ensures.gives)

pub returns-in-Some : goal.returns-in-Some
returns-in-Some c =
    pattern_alone c.args.text.now c.define.new.registry.held.items c.pop.new.self.items c.in-Some.held
    (subst (λ (b : RegistryModel). defined b c.args.text.now ≡ Ok (registry_model c.define.new.registry)) c.new-registry.ensures c.in-Ok.ensures.gives)
    c.in-Some.ensures.items
