use Rattle.std.proofs.Common.{◌++◌, List, length}
use Rattle.user_patterns_registry.specs.Registry.{kept_views, registry_model}
use Rattle.mlir_work_registry.specs.Verdicts.{AreVerdicts, Verdict, verdict_views}
use Rattle.mlir_work_registry.proofs.check_all.verdicts_of.Given as goal

-- the checks so far, with checks of the remaining patterns after them, are checks of all patterns
abbrev pub invariant-held : goal.invariant-held
invariant-held l =
    (vs : List Verdict) → AreVerdicts (registry_model l.fn.registry) (kept_views l.rest) vs
    → AreVerdicts (registry_model l.fn.registry) (registry_model l.fn.registry) (verdict_views l.verdicts.items ++ vs)

abbrev pub decreases-held : goal.decreases-held
decreases-held l = length l.rest
