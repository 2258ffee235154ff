use Rattle.std.proofs.Common.{ap, sym, subst, ◌∙◌}
use Rattle.std.specs.Prelude.{option_map}
use Rattle.ir_store.specs.trees.Meaning.{meaning}
use Rattle.ir_store.specs.Nodes.{node_of}
use Rattle.ir_store.specs.Stored.{Stored, known}
use Rattle.ir_event.specs.Listener.{ShowsTaken}
use Rattle.ir_event.specs.Modules.{module_meaning}
use Rattle.ir_event.specs.Step.{Step, inverse_of}
use Rattle.ir_event.proofs.Undoing.{may_undo, led_back, undone_wellformed, undone_sound, undone_held, undone_shown, undone_step}
use Rattle.ir_event.proofs.world.World.undo.Goals as goal

pub undo_in-requires : goal.undo_in-requires
undo_in-requires c = let w = c.args.self.now in may_undo w.ctx w.store c.args.event.now c.requires.0 c.sound.ensures w.sound c.requires.1

pub invariant_of-self : goal.invariant_of-self
invariant_of-self c = rw c.undo_in.ensures (let w = c.args.self.now in
    record {
      sound = undone_sound w.ctx w.store c.args.event.now c.requires.0 c.requires.1 w.sound w.held;
      wellformed = undone_wellformed w.ctx w.store c.args.event.now c.requires.0 c.requires.1;
      held = undone_held w.ctx w.store c.args.event.now c.requires.0 c.requires.1 w.sound w.held;
    })

pub returns-clause-back : goal.returns-clause-back
returns-clause-back c = λ p f. (let w = c.args.self.now in ap (λ (s : Stored). module_meaning w.ctx s.module_of) c.undo_in.ensures ∙ led_back w.ctx w.store c.args.event.now p f)

pub returns-clause-step : goal.returns-clause-step
returns-clause-step c = (let w = c.args.self.now in subst (λ (s : Stored). Step w.ctx (inverse_of c.args.event.now) (module_meaning w.ctx w.store.module_of) (module_meaning w.ctx s.module_of)) (sym c.undo_in.ensures) (undone_step w.ctx w.store c.args.event.now c.requires.0 c.requires.1))

pub returns-clause-shown : goal.returns-clause-shown
returns-clause-shown c = (let w = c.args.self.now in subst (λ (s : Stored). ShowsTaken (inverse_of c.args.event.now) (module_meaning w.ctx w.store.module_of) (λ x. option_map (λ o. node_of (meaning w.ctx o)) (known x s))) (sym c.undo_in.ensures) (undone_shown w.ctx w.store c.args.event.now c.requires.0 c.requires.1))
