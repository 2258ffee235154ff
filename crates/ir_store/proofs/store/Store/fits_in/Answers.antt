use Rattle.std.proofs.Common.{sym, ◌∙◌, ap}
use Rattle.std.specs.Prelude.{is_some, nat_lt}
use Rattle.std.proofs.lemmas.Bool.{false≢true}
use Rattle.ir_store_reads.specs.trees.Ids.{has_id, find}
use Rattle.ir_store_reads.specs.tree_laws.Reads.{around}
use Rattle.ir_store_reads.specs.tree_laws.Reasons.{levels_in}
use Rattle.ir_store_reads.proofs.SlotLaws.{found, found_op, in_tree_is}
use Rattle.ir_store.proofs.Taking.{heads_of}
use Rattle.ir_store.proofs.Called.{rows_in, keys_in}
use Rattle.ir_store.proofs.Rising.{around_some, headroom_is}
use Rattle.ir_store_reads.proofs.Walked.{fits_is}
use Rattle.ir_store.proofs.store.Store.fits_in.Goals as goal

pub returns-in_default : goal.returns-in_default
returns-in_default c =
    let a = c.self.inside in
    absurd (false≢true (ap is_some c.in_default.ensures ∙ in_tree_is (rows_in a) (keys_in a) a.sibs a.root a.represented.0 c.self.invariant.right a.represented.1 c.args.op ∙ ap (λ s. has_id c.args.op s.module_of.tree) c.self.view_is ∙ c.requires.op))

pub op_fits-requires-clause-slots : goal.op_fits-requires-clause-slots
op_fits-requires-clause-slots c = let a = c.self.inside in heads_of (rows_in a) (keys_in a) a.sibs a.root a.represented.0 c.self.invariant.right

pub returns : goal.returns
returns c =
    let a = c.self.inside in
    let t = c.args.self.now.module_of.tree in
    let fd = found (rows_in a) (keys_in a) a.sibs a.root a.represented.0 c.self.invariant.right a.represented.1 c.args.op c.in-Some.key (sym c.in-Some.ensures) in
    let o = found_op (rows_in a) (keys_in a) a.sibs a.root a.represented.0 c.self.invariant.right a.represented.1 c.args.op c.in-Some.key fd in
    c.op_fits.ensures ∙ fits_is (rows_in a) a.sibs.lists c.headroom_in-headroom.result c.in-Some.key o.0 o.1.1
    ∙ ap (λ z. nat_lt (levels_in z) c.headroom_in-headroom.result) (sym o.1.0)
    ∙ ap (λ s. nat_lt (levels_in (find c.args.op s.module_of.tree)) c.headroom_in-headroom.result) c.self.view_is
    ∙ ap (nat_lt (levels_in (find c.args.op t))) c.headroom_in-headroom.ensures
    ∙ headroom_is (levels_in (find c.args.op t)) (around c.args.parent t) (around_some t c.distinct.ensures c.args.parent c.requires.parent)
