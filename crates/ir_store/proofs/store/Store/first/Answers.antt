use Rattle.std.proofs.Common.{sym, ap, ◌∙◌}
use Rattle.std.specs.Prelude.{option_map, option_and_then}
use Rattle.ir_store_reads.specs.tree_laws.Reads.{first_at}
use Rattle.ir_store_reads.specs.trees.Places.{first_id}
use Rattle.ir_store_reads.specs.Points.{id_in}
use Rattle.ir_store.proofs.Called.{rows_in, keys_in}
use Rattle.ir_store.proofs.Listing.{no_block, some_block, first_spelt}
use Rattle.ir_store.proofs.store.Store.first.Goals as goal

pub returns-in_default : goal.returns-in_default
returns-in_default c =
    let a = c.self.inside in
    sym (ap (option_and_then first_id) (no_block (rows_in a) (keys_in a) a.sibs a.root a.represented.0 c.self.invariant.right a.represented.1 c.args.op c.args.region c.in_default.ensures))
    ∙ ap (λ s. first_at c.args.op c.args.region s.module_of.tree) c.self.view_is

pub first-requires : goal.first-requires
first-requires c =
    let a = c.self.inside in
    (some_block (rows_in a) (keys_in a) a.sibs a.root a.represented.0 c.self.invariant.right a.represented.1 c.args.op c.args.region c.in-Some.head c.in-Some.ensures).1.1.0

pub returns : goal.returns
returns c =
    let a = c.self.inside in
    let b = some_block (rows_in a) (keys_in a) a.sibs a.root a.represented.0 c.self.invariant.right a.represented.1 c.args.op c.args.region c.in-Some.head c.in-Some.ensures in
    c.id_of.ensures ∙ ap (option_map (id_in (rows_in a))) c.first.ensures ∙ first_spelt (rows_in a) a.sibs.lists _ b.0 b.1.1.1 ∙ sym (ap (option_and_then first_id) b.1.0)
    ∙ ap (λ s. first_at c.args.op c.args.region s.module_of.tree) c.self.view_is
