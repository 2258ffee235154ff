use Rattle.std.proofs.Common.{◌≡◌, length}
use Rattle.user_patterns_registry.specs.Registry.{registry_model}
use Rattle.mlir_work_registry.specs.Verdicts.{all_noted, verdict_views}
use Rattle.mlir_work_registry.proofs.check_all.record_all.Given as goal

abbrev pub invariant-verdicts : goal.invariant-verdicts
invariant-verdicts l = all_noted (verdict_views l.rest) (registry_model l.registry) ≡ all_noted (verdict_views l.fn.verdicts) (registry_model l.fn.registry)

abbrev pub decreases-verdicts : goal.decreases-verdicts
decreases-verdicts l = length l.rest
