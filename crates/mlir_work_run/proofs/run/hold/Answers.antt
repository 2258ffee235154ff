use Rattle.std.proofs.Common.{◌≡◌, ◌∙◌, ap, ℕ}
use Rattle.ir_event.specs.types.Things.{ContextModel}
use Rattle.ir_event.specs.trees.Tree.{Op}
use Rattle.ir_event.specs.trees.Ids.{op_count}
use Rattle.ir_event.specs.trees.Meaning.{meaning}
use Rattle.mlir_work_session.specs.Calls.{Loaded}
use Rattle.ir_event.specs.declared.world.World.{World}
use Rattle.ir_event.specs.Modules.{Module, module_in, module_meaning}
use Rattle.mlir_work_run.proofs.Numbered.{numbered_distinct, numbered_below}
use Rattle.mlir_work_run.proofs.run.hold.Goals as goal

pub from_checked-requires-clause-distinct : goal.from_checked-requires-clause-distinct
from_checked-requires-clause-distinct c = numbered_distinct c.args.tree c.requires.numbered

pub from_checked-requires-clause-below : goal.from_checked-requires-clause-below
from_checked-requires-clause-below c = numbered_below c.args.tree c.in-Some.next c.in-Some.ensures c.requires.numbered

-- an IR state that was loaded from a tree has the tree's module
loaded_module : (w : World) (c : ContextModel) (t : Op) (next count : ℕ) → w.ctx ≡ c → Loaded t next w.store → next ≡ count → ◌≡◌ {A = Module} (module_in w) (record { tree = meaning c t; next = count })
loaded_module w c t next count e l n = ap (λ x. module_meaning x w.store.module_of) e ∙ ap (module_meaning c) l.module_of ∙ ap (λ k. module_meaning c (record { tree = t; next = k })) n

pub returns-in-Ok-from_checked-clause-module : goal.returns-in-Ok-from_checked-clause-module
returns-in-Ok-from_checked-clause-module c = loaded_module c.in-Ok-from_checked.world c.args.ctx c.args.tree c.in-Some.next (op_count c.args.tree) c.in-Ok-from_checked.ensures.ctx c.in-Ok-from_checked.ensures.store c.in-Some.ensures

pub returns-in-Ok-from_checked-clause-slotted : goal.returns-in-Ok-from_checked-clause-slotted
returns-in-Ok-from_checked-clause-slotted c = c.stores_stay_slotted.ensures.loaded c.args.tree c.in-Some.next c.in-Ok-from_checked.world.store c.in-Ok-from_checked.ensures.store

pub returns-in-Ok-from_checked-clause-tidy : goal.returns-in-Ok-from_checked-clause-tidy
returns-in-Ok-from_checked-clause-tidy c = c.stores_stay_tidy.ensures.loaded c.args.tree c.in-Some.next c.in-Ok-from_checked.world.store c.in-Ok-from_checked.ensures.store
