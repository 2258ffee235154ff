use Rattle.ir_event.specs.Modules.{context_model, module_in, node_of_op}
use Rattle.ir_event.specs.Listener.{Notified}
use Rattle.ir_event.proofs.Zips.{Half}
use Rattle.ir_event.proofs.panel.tell_all.Given as goal

abbrev pub invariant-loop-listener : goal.invariant-loop-listener
invariant-loop-listener g l =
    let meaning = g.L.Analysis.meaning in
    Half (λ a b. Notified l.event (context_model l.world) (module_in l.world) (node_of_op l.world) (meaning a) (meaning b)) l.initial.listener-items l.listener-items l.listener-index
