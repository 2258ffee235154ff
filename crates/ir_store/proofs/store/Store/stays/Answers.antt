use Rattle.std.proofs.Common.{sym, ◌∙◌}
use Rattle.ir_store.proofs.Leaving.{root_stays, outside_stays, inside_leaves}
use Rattle.ir_store.proofs.store.Store.stays.Goals as goal

pub returns-then-is_root : goal.returns-then-is_root
returns-then-is_root c = c.in_tree.ensures ∙ sym (root_stays c.args.self.now.module_of.tree c.distinct.ensures c.args.op (sym c.is_root.ensures ∙ c.if-is_root.true) c.args.other)

pub returns-then-is_within : goal.returns-then-is_within
returns-then-is_within c = sym (inside_leaves c.args.self.now.module_of.tree c.distinct.ensures c.args.op (sym c.is_root.ensures ∙ c.if-is_root.false) c.args.other (sym c.is_within.ensures ∙ c.if-is_within.true))

pub returns : goal.returns
returns c = c.in_tree-2.ensures ∙ sym (outside_stays c.args.self.now.module_of.tree c.distinct.ensures c.args.op c.args.other (sym c.is_within.ensures ∙ c.if-is_within.false))
