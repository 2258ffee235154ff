use Rattle.std.proofs.Common.{sym, ◌∙◌, ap, ◌≡◌, true, subst}
use Rattle.std.specs.Prelude.{is_some}
use Rattle.ir_store_reads.specs.trees.Ids.{has_id}
use Rattle.ir_store_reads.specs.tree_laws.Reasons.{unused_outside}
use Rattle.ir_store_reads.proofs.SlotLaws.{in_tree_is, none_found}
use Rattle.ir_store.proofs.Called.{rows_in, keys_in}
use Rattle.ir_store.proofs.Keeping.{keeps_whole}
use Rattle.ir_store.proofs.Leaving.{absent_unused}
use Rattle.ir_store.proofs.Taking.{heads_of}
use Rattle.ir_store.proofs.Whole.{find_values}
use Rattle.ir_store.proofs.store.Store.unused_outside.Goals as goal

pub returns-in_default : goal.returns-in_default
returns-in_default c =
    let a = c.self.inside in
    sym (subst (λ s. unused_outside c.args.op s.module_of.tree ≡ true) c.self.view_is
    (absent_unused a.represented.0 c.self.invariant.distinct c.args.op (none_found (rows_in a) (keys_in a) a.sibs a.root a.represented.0 c.self.invariant.right a.represented.1 c.args.op (sym c.in_default.ensures))))

pub op_keeps-requires-clause-there : goal.op_keeps-requires-clause-there
op_keeps-requires-clause-there c =
    let a = c.self.inside in
    sym (ap is_some c.in-Some.ensures ∙ in_tree_is (rows_in a) (keys_in a) a.sibs a.root a.represented.0 c.self.invariant.right a.represented.1 c.args.op ∙ ap (λ s. has_id c.args.op s.module_of.tree) c.self.view_is)

pub op_keeps-requires-clause-slots : goal.op_keeps-requires-clause-slots
op_keeps-requires-clause-slots c = let a = c.self.inside in heads_of (rows_in a) (keys_in a) a.sibs a.root a.represented.0 c.self.invariant.right

pub op_keeps-requires-clause-values : goal.op_keeps-requires-clause-values
op_keeps-requires-clause-values c = find_values c.self.inside c.self.invariant

pub returns : goal.returns
returns c = c.op_keeps.ensures ∙ keeps_whole c.self.inside c.self.invariant c.laws-2.ensures c.args.op c.in-Some.key c.in-Some.ensures c.args.self.now c.self.view_is
