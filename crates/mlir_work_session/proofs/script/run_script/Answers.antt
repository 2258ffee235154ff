use Rattle.std.proofs.Common.{◌++◌, [], refl, append-nil, append_assoc, arith, ◌∙◌}
use Rattle.mlir_work_script_base.specs.Lines.{lines_of}
use Rattle.mlir_work_session.specs.Output.{SessionSetting, number_after, session_setting, worse}
use Rattle.mlir_work_session.specs.Sittings.{sitting_of}
use Rattle.mlir_work_script_base.proofs.Joins.{grows_join, preceding_within}
use Rattle.mlir_work_session.proofs.Runs.{one_number, run_answered, some_runs, status_before, worse_after, runs_end, filled, emptied}
use Rattle.mlir_work_session.proofs.script.run_script.Goals as goal

pub returns-in-Err : goal.returns-in-Err
returns-in-Err g c =
    let meaning = g.L.Analysis.meaning in
    let setting : SessionSetting = session_setting g.L.AnalysisSource.supply c.args.session_options.now in
    let preceding = c.loop-text.invariant.preceding in
    let reported = c.in-Err.ensures.answered.0 in
    let out = c.in-Err.ensures.answered.1 in
    let rest = some_runs setting (lines_of c.split_line.result.1.now) (number_after c.loop-text.n reported) (sitting_of meaning c.answer_line.new.bench c.answer_line.new.registry) in
    let step = run_answered setting c.loop-text.n (sitting_of meaning c.loop-text.bench c.loop-text.registry) c.loop-text.text.now c.split_line.result.0.now c.split_line.result.1.now (sitting_of meaning c.answer_line.new.bench c.answer_line.new.registry) reported out
    (c.split_line.ensures.lines (filled c.loop-text.text.now _ c.is_empty.ensures c.loop-text-test.true)) c.in-Err.ensures.answered.2 rest.0 rest.1 rest.2 in
    (worse c.loop-text.accepted (status_before reported rest.0), preceding ++ (out ++ rest.1), c.loop-text.invariant.whole _ (out ++ rest.1) step, preceding_within _ _ _ _ preceding out rest.1 refl c.loop-text.invariant.wrote c.in-Err.ensures.answered.3)

pub loop-text-preserved : goal.loop-text-preserved
loop-text-preserved g c =
    let meaning = g.L.Analysis.meaning in
    let setting : SessionSetting = session_setting g.L.AnalysisSource.supply c.args.session_options.now in
    let preceding = c.loop-text.invariant.preceding in
    let out = c.in-Ok.ensures.answered.0 in
    let step = run_answered setting c.loop-text.n (sitting_of meaning c.loop-text.bench c.loop-text.registry) c.loop-text.text.now c.split_line.result.0.now c.split_line.result.1.now (sitting_of meaning c.answer_line.new.bench c.answer_line.new.registry) c.in-Ok.reported out
    (c.split_line.ensures.lines (filled c.loop-text.text.now _ c.is_empty.ensures c.loop-text-test.true)) c.in-Ok.ensures.answered.1 in
    record {
      kept = c.answer_line.ensures.kept;
      mode = c.answer_line.ensures.mode ∙ c.loop-text.invariant.mode;
      count = (let h = c.split_line.ensures.shorter (filled c.loop-text.text.now _ c.is_empty.ensures c.loop-text-test.true) in let had = c.loop-text.invariant.count in let next = c.next_number-n.ensures in let one = one_number c.loop-text.n c.in-Ok.reported in omega (arith, h, had, next, one));
      preceding = preceding ++ out;
      wrote = grows_join _ _ _ preceding out c.loop-text.invariant.wrote c.in-Ok.ensures.answered.2;
      whole = λ later rest h. rw (append_assoc, c.accepted_so_far-accepted.ensures, ← worse_after) (c.loop-text.invariant.whole _ (out ++ rest) (step later rest (rw c.next_number-n.ensures at h)));
    }

pub returns-then-accepted : goal.returns-then-accepted
returns-then-accepted g c =
    let preceding = c.loop-text.invariant.preceding in
    (preceding, rw (append-nil, c.if-accepted.true) at (c.loop-text.invariant.whole 0 [] (runs_end (session_setting g.L.AnalysisSource.supply c.args.session_options.now) c.loop-text.n (sitting_of g.L.Analysis.meaning c.loop-text.bench c.loop-text.registry) c.loop-text.text.now (emptied c.loop-text.text.now _ c.is_empty.ensures c.loop-text-test.false))), c.loop-text.invariant.wrote)

pub returns-else-accepted : goal.returns-else-accepted
returns-else-accepted g c =
    let preceding = c.loop-text.invariant.preceding in
    (preceding, rw (append-nil, c.if-accepted.false) at (c.loop-text.invariant.whole 0 [] (runs_end (session_setting g.L.AnalysisSource.supply c.args.session_options.now) c.loop-text.n (sitting_of g.L.Analysis.meaning c.loop-text.bench c.loop-text.registry) c.loop-text.text.now (emptied c.loop-text.text.now _ c.is_empty.ensures c.loop-text-test.false))), c.loop-text.invariant.wrote)
