use Rattle.std.proofs.Common.{sym, ap, ◌∙◌}
use Rattle.ir_store_reads.specs.tree_laws.Reads.{in_list, goes_before, is_before}
use Rattle.ir_store.proofs.Called.{rows_in, keys_in}
use Rattle.ir_store_reads.proofs.SlotLaws.{found}
use Rattle.ir_store.proofs.Listing.{stands_alone, missing_listless, before_found, before_missing}
use Rattle.ir_store.proofs.store.Store.is_before.Goals as goal

pub returns-in_default : goal.returns-in_default
returns-in_default c =
    let a = c.self.inside in
    sym (ap (in_list (goes_before c.args.op c.args.other)) (missing_listless (rows_in a) (keys_in a) a.sibs a.root a.represented.0 c.self.invariant.right a.represented.1 c.laws.ensures c.self.invariant.distinct c.args.op (sym c.in_default.ensures)))
    ∙ ap (λ s. is_before c.args.op c.args.other s.module_of.tree) c.self.view_is

pub returns-in_default-find : goal.returns-in_default-find
returns-in_default-find c =
    let a = c.self.inside in
    let f = found (rows_in a) (keys_in a) a.sibs a.root a.represented.0 c.self.invariant.right a.represented.1 c.args.op c.in-Some.key (sym c.in-Some.ensures) in
    sym (before_missing (rows_in a) (keys_in a) a.sibs a.root a.represented.0 c.self.invariant.right a.represented.1 c.laws.ensures c.self.invariant.distinct c.args.op c.in-Some.key c.args.other f (sym c.in_default-find.ensures))
    ∙ ap (λ s. is_before c.args.op c.args.other s.module_of.tree) c.self.view_is

pub goes_before-requires-clause-node : goal.goes_before-requires-clause-node
goes_before-requires-clause-node c =
    let a = c.self.inside in
    stands_alone (rows_in a) (keys_in a) a.sibs a.root a.represented.0 c.self.invariant.right a.represented.1 c.in-Some.key (found (rows_in a) (keys_in a) a.sibs a.root a.represented.0 c.self.invariant.right a.represented.1 c.args.op c.in-Some.key (sym c.in-Some.ensures)).live

pub goes_before-requires-clause-trailing : goal.goes_before-requires-clause-trailing
goes_before-requires-clause-trailing c =
    let a = c.self.inside in
    stands_alone (rows_in a) (keys_in a) a.sibs a.root a.represented.0 c.self.invariant.right a.represented.1 c.in-Some-find.trailing (found (rows_in a) (keys_in a) a.sibs a.root a.represented.0 c.self.invariant.right a.represented.1 c.args.other c.in-Some-find.trailing (sym c.in-Some-find.ensures)).live

pub returns : goal.returns
returns c =
    let a = c.self.inside in
    let f = found (rows_in a) (keys_in a) a.sibs a.root a.represented.0 c.self.invariant.right a.represented.1 c.args.op c.in-Some.key (sym c.in-Some.ensures) in
    let g = found (rows_in a) (keys_in a) a.sibs a.root a.represented.0 c.self.invariant.right a.represented.1 c.args.other c.in-Some-find.trailing (sym c.in-Some-find.ensures) in
    c.goes_before.ensures
    ∙ before_found (rows_in a) (keys_in a) a.sibs a.root a.represented.0 c.self.invariant.right a.represented.1 c.laws.ensures c.self.invariant.distinct c.args.op c.in-Some.key c.args.other c.in-Some-find.trailing f g
    ∙ ap (λ s. is_before c.args.op c.args.other s.module_of.tree) c.self.view_is
