use Rattle.std.proofs.Common.{◌++◌, ◌+◌, [], refl, append-nil, append_assoc, arith, sym}
use Rattle.ir_event.specs.trees.Meaning.{meaning}
use Rattle.mlir_work_script_base.specs.Lines.{lines_of}
use Rattle.mlir_work_script_base.proofs.Joins.{grows_join, preceding_within}
use Rattle.mlir_work_session.specs.Machine.{response_of}
use Rattle.mlir_work_transforms.specs.registry.Replies.{is_accepted}
use Rattle.mlir_work_transforms.specs.registry.ReplyLines.{reply_line}
use Rattle.mlir_work_session.specs.Output.{Sitting, opening, worse}
use Rattle.mlir_work_session.proofs.Printing.{more_print, print_step}
use Rattle.mlir_work_session.proofs.Runs.{run_skipped, some_runs, worse_both, runs_end, filled, emptied}
use Rattle.mlir_work_session.proofs.prints.print_lines.Goals as goal

pub returns-in-Err : goal.returns-in-Err
returns-in-Err g c setting start next panel unend =
    let s : Sitting = opening start (record { held = record { tree = meaning c.args.ctx.now c.args.tree.now; next = next }; marks = []; panel = panel }) in
    let preceding = c.loop-text.invariant.preceding in
    let reply = c.show_tree-answered.result.reply in
    let shows = c.show_tree-answered.result.shows.items in
    let reported = reply_line c.loop-text.n (response_of reply) ++ shows in
    let cut = c.split_line.ensures.lines (filled c.loop-text.text.now _ c.is_empty.ensures c.loop-text-test.true) in
    let some = some_runs setting (lines_of c.split_line.result.1.now) (c.loop-text.n + 1) s in
    let is = more_print c.loop-text.text.now c.split_line.result.0.now c.split_line.result.1.now cut c.loop-text.invariant.prints in
    let step = print_step setting unend c.loop-text.n s c.loop-text.text.now c.split_line.result.0.now c.split_line.result.1.now reply shows cut is.0 (rw c.read_line-line.ensures at c.if-is_nothing.ensures) c.show_tree-answered.ensures some.0 some.1 some.2 in
    (worse c.loop-text.accepted (worse (is_accepted (response_of reply)) some.0), preceding ++ (reported ++ some.1), c.loop-text.invariant.whole setting start next panel unend _ (reported ++ some.1) step, preceding_within _ _ _ _ preceding reported some.1 refl c.loop-text.invariant.wrote c.in-Err.ensures)

pub loop-text-preserved-then-is_nothing : goal.loop-text-preserved-then-is_nothing
loop-text-preserved-then-is_nothing g c =
    let cut = c.split_line.ensures.lines (filled c.loop-text.text.now _ c.is_empty.ensures c.loop-text-test.true) in
    let is = more_print c.loop-text.text.now c.split_line.result.0.now c.split_line.result.1.now cut c.loop-text.invariant.prints in
    record {
      prints = is.1;
      count = (let h = c.split_line.ensures.shorter (filled c.loop-text.text.now _ c.is_empty.ensures c.loop-text-test.true) in omega (arith, h, c.loop-text.invariant.count));
      preceding = c.loop-text.invariant.preceding;
      wrote = c.loop-text.invariant.wrote;
      whole = λ setting start next panel unend later rest h. c.loop-text.invariant.whole setting start next panel unend later rest (run_skipped setting c.loop-text.n (opening start (record { held = record { tree = meaning c.args.ctx.now c.args.tree.now; next = next }; marks = []; panel = panel })) c.loop-text.text.now c.split_line.result.0.now c.split_line.result.1.now later rest cut (sym (rw c.read_line-line.ensures at c.if-is_nothing.ensures)) h);
    }

pub loop-text-preserved : goal.loop-text-preserved
loop-text-preserved g c =
    let preceding = c.loop-text.invariant.preceding in
    let reply = c.show_tree-answered.result.reply in
    let shows = c.show_tree-answered.result.shows.items in
    let reported = reply_line c.loop-text.n (response_of reply) ++ shows in
    let cut = c.split_line.ensures.lines (filled c.loop-text.text.now _ c.is_empty.ensures c.loop-text-test.true) in
    let is = more_print c.loop-text.text.now c.split_line.result.0.now c.split_line.result.1.now cut c.loop-text.invariant.prints in
    record {
      prints = is.1;
      count = (let h = c.split_line.ensures.shorter (filled c.loop-text.text.now _ c.is_empty.ensures c.loop-text-test.true) in omega arith);
      preceding = preceding ++ reported;
      wrote = grows_join _ _ _ preceding reported c.loop-text.invariant.wrote c.in-Ok.ensures;
      whole = λ setting start next panel unend later rest h.
          let step = print_step setting unend c.loop-text.n (opening start (record { held = record { tree = meaning c.args.ctx.now c.args.tree.now; next = next }; marks = []; panel = panel })) c.loop-text.text.now c.split_line.result.0.now c.split_line.result.1.now reply shows cut is.0 (rw c.read_line-line.ensures at c.if-is_nothing.ensures) c.show_tree-answered.ensures later rest h in
          rw (append_assoc, c.both-accepted.ensures, ← worse_both, c.is_accepted.ensures) (c.loop-text.invariant.whole setting start next panel unend _ (reported ++ rest) step);
    }

pub returns-then-accepted : goal.returns-then-accepted
returns-then-accepted g c setting start next panel unend =
    let s : Sitting = opening start (record { held = record { tree = meaning c.args.ctx.now c.args.tree.now; next = next }; marks = []; panel = panel }) in
    (c.loop-text.invariant.preceding, rw (append-nil, c.if-accepted.true) at (c.loop-text.invariant.whole setting start next panel unend 0 [] (runs_end setting c.loop-text.n s c.loop-text.text.now (emptied c.loop-text.text.now _ c.is_empty.ensures c.loop-text-test.false))), c.loop-text.invariant.wrote)

pub returns-else-accepted : goal.returns-else-accepted
returns-else-accepted g c setting start next panel unend =
    let s : Sitting = opening start (record { held = record { tree = meaning c.args.ctx.now c.args.tree.now; next = next }; marks = []; panel = panel }) in
    (c.loop-text.invariant.preceding, rw (append-nil, c.if-accepted.false) at (c.loop-text.invariant.whole setting start next panel unend 0 [] (runs_end setting c.loop-text.n s c.loop-text.text.now (emptied c.loop-text.text.now _ c.is_empty.ensures c.loop-text-test.false))), c.loop-text.invariant.wrote)
