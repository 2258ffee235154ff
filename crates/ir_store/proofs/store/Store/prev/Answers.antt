use Rattle.std.proofs.Common.{sym, ap, ◌∙◌, None}
use Rattle.std.specs.Prelude.{option_map, option_and_then}
use Rattle.ir_store_reads.specs.tree_laws.Reads.{id_before, prev_of}
use Rattle.ir_store_reads.specs.Points.{id_in}
use Rattle.ir_store.proofs.Called.{rows_in, keys_in}
use Rattle.ir_store_reads.proofs.SlotLaws.{found}
use Rattle.ir_store.proofs.Listing.{missing_listless, root_list, prev_found}
use Rattle.ir_store.proofs.store.Store.prev.Goals as goal

pub returns-in_default : goal.returns-in_default
returns-in_default c =
    let a = c.self.inside in
    sym (ap (option_and_then (id_before c.args.op None)) (missing_listless (rows_in a) (keys_in a) a.sibs a.root a.represented.0 c.self.invariant.right a.represented.1 c.laws.ensures c.self.invariant.distinct c.args.op (sym c.in_default.ensures)))
    ∙ ap (λ s. prev_of c.args.op s.module_of.tree) c.self.view_is

pub returns-then-key-self : goal.returns-then-key-self
returns-then-key-self c =
    let a = c.self.inside in
    let f = found (rows_in a) (keys_in a) a.sibs a.root a.represented.0 c.self.invariant.right a.represented.1 c.args.op c.in-Some.key (sym c.in-Some.ensures) in
    sym (ap (option_and_then (id_before c.args.op None)) (root_list (rows_in a) (keys_in a) a.sibs a.root a.represented.0 c.self.invariant.right a.represented.1 c.laws.ensures c.self.invariant.distinct c.args.op c.in-Some.key f c.if-key-self.true))
    ∙ ap (λ s. prev_of c.args.op s.module_of.tree) c.self.view_is

pub returns : goal.returns
returns c =
    let a = c.self.inside in
    let f = found (rows_in a) (keys_in a) a.sibs a.root a.represented.0 c.self.invariant.right a.represented.1 c.args.op c.in-Some.key (sym c.in-Some.ensures) in
    c.id_of.ensures ∙ ap (option_map (id_in (rows_in a))) c.prev.ensures
    ∙ prev_found (rows_in a) (keys_in a) a.sibs a.root a.represented.0 c.self.invariant.right a.represented.1 c.laws.ensures c.self.invariant.distinct c.args.op c.in-Some.key f c.if-key-self.false
    ∙ ap (λ s. prev_of c.args.op s.module_of.tree) c.self.view_is
