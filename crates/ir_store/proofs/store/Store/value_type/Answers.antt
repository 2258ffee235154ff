use Rattle.std.proofs.Common.{◌∙◌, ap}
use Rattle.ir_store_reads.specs.tree_laws.Values.{type_of_value}
use Rattle.ir_store.proofs.Called.{rows_in, keys_in}
use Rattle.ir_store.proofs.Valued.{type_is}
use Rattle.ir_store.proofs.store.Store.value_type.Goals as goal

pub returns : goal.returns
returns c =
    let a = c.self.inside in
    c.live_type.ensures ∙ type_is (rows_in a) (keys_in a) a.sibs a.root a.represented.0 c.self.invariant.right a.represented.1 c.args.value
    ∙ ap (λ s. type_of_value c.args.value s.module_of.tree) c.self.view_is
