-- The state of a listener after it is notified of an event.
use Rattle.std.specs.Prelude.{◌≡◌, true, ◌+◌, ◌≤◌, ◌⊎◌}
use Rattle.ir_event.specs.declared.event.Event.{Event}
use Rattle.ir_event.specs.declared.view.View.{View}
use Rattle.ir_event.specs.Modules.{Module, context_model, module_in, node_of_op}
use Rattle.ir_event.specs.Listener.{Listener, ShowsTaken, Notified}
use Rattle.ir_event.specs.Step.{Step}

-- listener a was notified of the event with view v of the module after it, returned the view as w, and is now b
pub record IsNotified (e : Event) (v w : View) (a b : Listener) : Type 0 where
  pub reported : Notified e (context_model v.world.now) (module_in v.world.now) (node_of_op v.world.now) a b
  -- if the listener agreed with the module before or was stale, it read the module at most `most` times
  pub looks : (m : Module) → Step (context_model v.world.now) e m (module_in v.world.now) → ShowsTaken e m (node_of_op v.world.now)
      → (a.agrees (context_model v.world.now) m ⊎ (a.stale ≡ true)) → w.looks ≤ v.looks + a.most e m (module_in v.world.now)
  pub world : w.world.now ≡ v.world.now
