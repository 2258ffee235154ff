use Rattle.std.proofs.Common.{subst}
use Rattle.user_patterns_registry.specs.Registry.{kept_view}
use Rattle.user_patterns_registry.specs.CheckResult.{IsCheckResult}
use Rattle.mlir_work_registry.proofs.registry_commands.checked.Goals as goal

pub returns-in-Ok-rows_of-clause-ok : goal.returns-in-Ok-rows_of-clause-ok
returns-in-Ok-rows_of-clause-ok c =
    let checked = subst (λ requested. IsCheckResult (kept_view c.args.held.now).rewrite_pattern requested c.in-Ok.judgement) c.wide.ensures c.in-Ok.ensures.ok in
    (c.in-Ok.judgement, checked, c.said_for.ensures, c.in-Ok-rows_of.ensures)
