use Rattle.std.proofs.Common.{refl, sym}
use Rattle.ir_store.specs.trees.Meaning.{key_before_in}
use Rattle.ir_event.proofs.Entering.{entry_fault}
use Rattle.ir_event.proofs.edits.enter_in.Goals as goal

pub returns-in_default-clause-refused : goal.returns-in_default-clause-refused
returns-in_default-clause-refused c = rw (entry_fault (key_before_in c.args.ctx.now) c.args.op c.args.part.now c.args.key c.args.value.now c.args.store.now.module_of.tree (sym c.in_default.ensures)) refl
