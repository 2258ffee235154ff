use Rattle.std.proofs.Common.{ap}
use Rattle.std.proofs.lemmas.List.{map-set}
use Rattle.ir_store_lists.proofs.Fields.{kept}
use Rattle.ir_store_lists.proofs.write.set_home.Goals as goal

pub returns-clause-next : goal.returns-clause-next
returns-clause-next c = kept (λ l. l.next) _ _ _ c.index_mut-link.result.now (ap (λ l. l.next) c.index_mut-link.ensures.value)

pub returns-clause-prev : goal.returns-clause-prev
returns-clause-prev c = kept (λ l. l.prev) _ _ _ c.index_mut-link.result.now (ap (λ l. l.prev) c.index_mut-link.ensures.value)

pub returns-clause-home : goal.returns-clause-home
returns-clause-home c = map-set (λ l. l.home) _ _ _
