-- Properties of rewriters under the driver.
use Rattle.std.specs.Prelude.{◌<◌, All}
use Rattle.ir_event.specs.types.Things.{IsExtendedBy}
use Rattle.ir_event.specs.types.Sound.{Holds}
use Rattle.ir_event.specs.trees.Ids.{ids, HasDistinctIds}
use Rattle.ir_event.specs.Listener.{Listener}
use Rattle.ir_event.specs.Modules.{Module}
use Rattle.patterns.specs.RewriterCalls.{Benched, Led}

-- the ids of the module are distinct and less than the next free id
pub record Wellformed (m : Module) : Type 0 where
  pub distinct : HasDistinctIds m.tree
  pub below : All (λ y. y < m.next) (ids m.tree)

-- the context only grew; if it was sound, the listeners were notified of exactly the events between the two modules
pub record Onward {B : Type 0} (meaning : B → Listener) (old new : Benched B) : Type 0 where
  pub grows : IsExtendedBy old.transaction.ctx new.transaction.ctx
  pub led : Holds old.transaction.ctx → Holds new.transaction.ctx × Led meaning old new
