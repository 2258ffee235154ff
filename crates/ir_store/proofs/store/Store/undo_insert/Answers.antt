use Rattle.std.proofs.Common.{◌∙◌, sym, ap, ◌≡◌, false}
use Rattle.ir_store.specs.Calls.{after_take, lowered}
use Rattle.ir_store_reads.specs.trees.Ids.{has_id}
use Rattle.ir_store.proofs.Called.{stored, same_inside}
use Rattle.ir_store.proofs.Tally.{left_out}
use Rattle.ir_store.proofs.Whole.{lower_fits}
use Rattle.ir_store.proofs.store.Store.undo_insert.Goals as goal

pub invariant_of-self : goal.invariant_of-self
invariant_of-self c =
    let a = c.self.inside in
    let e : stored a ≡ after_take c.args.op c.args.self.now = c.self.view_is ∙ c.in-Ok.ensures.1 in
    let out : has_id c.args.op a.represented.0 ≡ false = ap (λ z. has_id c.args.op z.module_of.tree) e ∙ left_out c.args.op c.args.self.now.module_of.tree c.requires.inner in
    lower_fits a c.self.invariant c.args.op (ap (λ z. z.module_of.next) e ∙ c.requires.newest c.if-fresh.true) out c.number-self-inside.result c.number-self-inside.ensures c.self-1.given.0

pub returns-then-fresh : goal.returns-then-fresh
returns-then-fresh c =
    let a = c.self.inside in
    let e : stored (record a { represented = c.self-1.given.0; holds = c.self-1.given.1.0; lacks = c.self-1.given.1.1.0 }) ≡ after_take c.args.op c.args.self.now = ap stored (same_inside a c.self-1.given.0 c.self-1.given.1.0 c.self-1.given.1.1.0) ∙ c.self.view_is ∙ c.in-Ok.ensures.1 in
    let n : c.number-self-inside.result ≡ lowered c.args.fresh c.args.op c.args.self.now.module_of.next = c.number-self-inside.ensures ∙ sym (ap (λ b. lowered b c.args.op c.args.self.now.module_of.next) c.if-fresh.true) in
    λ i. record { module_of = record { tree = (e i).module_of.tree; next = n i }; held = (e i).held; gone = (e i).gone }
