use Rattle.std.proofs.Common.{◌≡◌, ◌-◌, sym, ◌∙◌, arith}
use Rattle.ir_store_reads.specs.tree_laws.Reads.{around}
use Rattle.ir_store.specs.Shifting.{level}
use Rattle.ir_store.proofs.Rising.{around_up, around_none}
use Rattle.ir_store.proofs.store.Store.headroom_in.Goals as goal

pub around-preserved : goal.around-preserved
around-preserved c =
    let t = c.args.self.now.module_of.tree in
    let up = around_up t c.distinct.ensures c.around.at c.in-Some.place (sym c.in-Some.ensures) in
    let e : c.around.headroom - 1 - level (around c.in-Some.place.parent t) ≡ c.around.headroom - level (around c.around.at t) = omega (arith, up) in
    e ∙ c.around.invariant

pub returns-in_default : goal.returns-in_default
returns-in_default c =
    let t = c.args.self.now.module_of.tree in
    let none = around_none t c.distinct.ensures c.around.at (sym c.in_default.ensures) in
    let e : c.around.headroom ≡ c.around.headroom - level (around c.around.at t) = omega (arith, none) in
    e ∙ c.around.invariant
