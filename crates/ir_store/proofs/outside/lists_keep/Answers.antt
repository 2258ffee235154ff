use Rattle.std.proofs.Common.{◌∙◌, ℕ, sym, arith, not}
use Rattle.ir_store_reads.specs.Index.{cells_of}
use Rattle.ir_store_reads.proofs.Idle.{heads_step, head_here}
use Rattle.ir_store.specs.Outside.{leaves_use}
use Rattle.ir_store.proofs.Kept.{list_fails, list_passes}
use Rattle.ir_store.proofs.outside.lists_keep.Goals as goal

pub users_go-requires-clause-head : goal.users_go-requires-clause-head
users_go-requires-clause-head c = head_here c.heads.at c.heads.left _ (omega (arith, c.heads-test.true)) c.heads.invariant.0

pub returns-then-not-users_go : goal.returns-then-not-users_go
returns-then-not-users_go c =
    let p = λ (u : ℕ). not (leaves_use c.args.slots.now (cells_of c.args.cells.now.items) c.args.op c.args.store.now.module_of.tree u) in
    sym (list_fails c.args.uses.now.lists p c.heads.at c.heads.left (omega (arith, c.heads-test.true)) (sym c.users_go.ensures ∙ c.if-not-users_go.true)) ∙ c.heads.invariant.1

pub heads-preserved : goal.heads-preserved
heads-preserved c =
    let p = λ (u : ℕ). not (leaves_use c.args.slots.now (cells_of c.args.cells.now.items) c.args.op c.args.store.now.module_of.tree u) in (
      heads_step c.heads.at _ c.heads.left _ (omega (arith, c.heads-test.true)) c.heads.invariant.0,
      sym (list_passes c.args.uses.now.lists p c.heads.at c.heads.left (omega (arith, c.heads-test.true)) (sym c.users_go.ensures ∙ c.if-not-users_go.false)) ∙ c.heads.invariant.1,
    )
