use Rattle.std.proofs.Common.{inr}
use Rattle.user_patterns_registry.specs.Registry.{registry_model}
use Rattle.mlir_work_registry.specs.Verdicts.{verdict_views}
use Rattle.mlir_work_registry.proofs.CheckingAll.{checks_as, within_all}
use Rattle.mlir_work_registry.proofs.check_all.check_each.Goals as goal

pub returns-clause-checks : goal.returns-clause-checks
returns-clause-checks c =
    inr (checks_as (registry_model c.args.registry.now) _ _ _ (verdict_views c.in-Ok.verdicts.items) c.in-Ok.ensures (rw c.deref-3.ensures.value at c.response_of.ensures)
    (rw c.deref.ensures.value at c.in-Ok-text_of.ensures) (rw c.deref-2.ensures.value at c.record_all.ensures))

pub returns-clause-bounded : goal.returns-clause-bounded
returns-clause-bounded c bytes = within_all bytes (verdict_views c.in-Ok.verdicts.items) _ (rw c.deref-3.ensures.value at c.response_of.ensures)
