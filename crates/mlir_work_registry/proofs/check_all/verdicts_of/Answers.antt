use Rattle.std.proofs.Common.{List, [], append-nil, subst}
use Rattle.user_patterns_registry.specs.Registry.{registry_model}
use Rattle.mlir_work_registry.specs.Verdicts.{AreVerdicts, Verdict, verdict_views}
use Rattle.mlir_work_registry.proofs.CheckingAll.{checked_none}
use Rattle.mlir_work_registry.proofs.check_all.verdicts_of.Goals as goal

pub returns : goal.returns
returns c =
    let b = registry_model c.args.registry.now in
    subst (λ (vs : List Verdict). AreVerdicts b b vs) (append-nil (verdict_views c.held.verdicts.items))
    (c.held.invariant [] (checked_none b c.held.rest.now c.in_default.len_below))
