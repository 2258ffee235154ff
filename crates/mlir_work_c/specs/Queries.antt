-- Queries on a session's module.
use Rattle.ir_event.specs.types.Things.{ContextModel}
use Rattle.ir_event.specs.trees.Tree.{Op}
use Rattle.mlir_work_c.specs.declared.session.Session.{Session}

-- the module, by the numbers of its context
abbrev pub tree_of : Session → Op
tree_of s = s.bench.transaction.store.module_of.tree

-- the context, which has the names, types and attributes
abbrev pub context_of : Session → ContextModel
context_of s = s.bench.transaction.ctx
