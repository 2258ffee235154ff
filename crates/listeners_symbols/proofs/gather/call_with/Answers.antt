use Rattle.std.proofs.Common.{◌∙◌, ap, map}
use Rattle.std.specs.Prelude.{option_map}
use Rattle.ir_event.specs.types.Terms.{name_term, type_term}
use Rattle.ir_event.specs.tree_laws.Values.{type_of_value}
use Rattle.listeners_symbols.proofs.Meant.{types_meant}
use Rattle.listeners_symbols.proofs.gather.call_with.Goals as goal

pub returns-clause-call : goal.returns-clause-call
returns-clause-call c =
    let w = c.args.view.now.world.now in
    let t = w.store.module_of.tree in
    let inputs = ap (map (option_map (type_term w.ctx))) (c.in_ok-inputs.ensures.types ∙ ap (map (λ v. type_of_value v t)) c.operands.ensures) ∙ types_meant w.ctx t c.args.node.now.head.operands in
    λ i. record {
      callee = map (name_term w.ctx) (c.in_ok-callee.ensures.items i);
      inputs = inputs i;
      outputs = map (type_term w.ctx) ((c.in_ok-outputs.ensures.items ∙ c.results.ensures) i);
    }
