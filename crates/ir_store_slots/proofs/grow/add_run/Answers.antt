use Rattle.std.proofs.Common.{arith}
use Rattle.ir_store_slots.specs.Index.{cells_of}
use Rattle.ir_store_slots.proofs.Runs.{run_length, run_step, cells_push}
use Rattle.ir_store_slots.proofs.grow.add_run.Goals as goal

pub overflow_cast-cell-in-nodes : goal.overflow_cast-cell-in-nodes
overflow_cast-cell-in-nodes c =
    let long = run_length c.args.heads c.args.row c.nodes.place c.args.uses.now.homes c.nodes.uses.homes (cells_of c.args.cells.now.items) (cells_of c.nodes.cells.items) c.nodes.invariant.1.1 in
    omega (arith, long, c.laws.ensures.few)

pub nodes-preserved : goal.nodes-preserved
nodes-preserved c =
    let i = c.nodes.invariant in (
      omega (arith, c.nodes-test.true),
      (
        i.1.0,
        run_step c.args.heads c.args.row c.nodes.place c.args.uses.now.homes c.nodes.uses.homes (cells_of c.args.cells.now.items) (cells_of c.nodes.cells.items) i.1.1
            c.add_use.new.uses.homes (cells_of c.add_use.new.cells.items) c.in-Ok.ensures.0 (cells_push c.nodes.cells.items c.add_use.new.cells.items _ c.in-Ok.ensures.1),
      ),
    )
