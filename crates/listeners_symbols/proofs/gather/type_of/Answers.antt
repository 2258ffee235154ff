use Rattle.std.proofs.Common.{◌≡◌, sym, Some, None, Option}
use Rattle.std.specs.Prelude.{IfOk}
use Rattle.std.specs.Option.{ok_or}
use Rattle.std.proofs.Common.{subst, ℕ}
use Rattle.ir_event.specs.types.Things.{IsType}
use Rattle.ir_event.specs.tree_laws.Values.{type_of_value}
use Rattle.std.specs.declared.alloc.AllocError.{AllocError}
use Rattle.ir_event.specs.declared.world.World.{World}
use Rattle.ir_event.specs.trees.declared.value.Value.{Value}
use Rattle.ir_event.proofs.Typed.{value_known}
use Rattle.listeners_symbols.proofs.gather.type_of.Goals as goal

known_or : (w : World) (v : Value) (e : AllocError) (o : Option ℕ) → o ≡ type_of_value v w.store.module_of.tree → IfOk (ok_or o e) (λ t. IsType w.ctx t)
known_or w v e None i = tt
known_or w v e (Some n) i = value_known w v n (sym i)

pub returns-clause-known : goal.returns-clause-known
returns-clause-known c =
    let w = c.args.view.now.world.now in
    subst (λ r. IfOk r (λ t. IsType w.ctx t)) (sym c.ok_or.ensures.value) (known_or w c.args.value.now _ c.value_type.result c.value_type.ensures.answer)
