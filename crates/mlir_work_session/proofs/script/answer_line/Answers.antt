use Rattle.std.proofs.Common.{◌++◌, [], Some, refl, sym}
use Rattle.mlir_work_script.specs.Commands.{line_says, spoken_of}
use Rattle.mlir_work_script.specs.Expecting.{line_expects}
use Rattle.mlir_work_script_base.proofs.Joins.{preceding_join, preceding_more, grows_join, grows_none}
use Rattle.mlir_work_transforms.specs.registry.Notices.{is_right_under, notice_of}
use Rattle.mlir_work_session.specs.Output.{SessionSetting, end_of, session_setting}
use Rattle.mlir_work_session.specs.Sittings.{sitting_of}
use Rattle.mlir_work_session.proofs.Runs.{reported_of}
use Rattle.mlir_work_session.proofs.script.answer_line.Goals as goal

pub returns-then-is_nothing-clause-answered : goal.returns-then-is_nothing-clause-answered
returns-then-is_nothing-clause-answered g c = ([], (sym (rw c.read_line-line.ensures at c.if-is_nothing.ensures), refl, refl), grows_none (g.W.Sink.stream c.args.writer.now))

pub returns-in-Err-clause-answered : goal.returns-in-Err-clause-answered
returns-in-Err-clause-answered g c =
    let meaning = g.L.Analysis.meaning in
    let setting : SessionSetting = session_setting g.L.AnalysisSource.supply c.args.session_options.now in
    let text = c.in-Err.ensures.0 in
    let reply = notice_of c.answer-answered.result.notice in (
      Some (is_right_under c.args.session_options.now.strict (line_expects c.args.line.now) reply c.answer-answered.result.shows.items),
      text ++ end_of setting.session_options.ends,
      reported_of setting c.args.n (sitting_of meaning c.args.bench.now c.args.registry.now) (line_expects c.args.line.now) (spoken_of c.read_line-line.result) (line_says c.args.line.now) reply c.answer-answered.result.shows.items (sitting_of meaning c.answer-answered.new.bench c.answer-answered.new.registry) text (is_right_under c.args.session_options.now.strict (line_expects c.args.line.now) reply c.answer-answered.result.shows.items)
          c.read_line-line.ensures c.if-is_nothing.ensures c.answer-answered.ensures.replies (rw c.expected_of-expected.ensures at c.in-Err.ensures.1) c.answer-answered.ensures.bounded refl,
      preceding_more (g.W.Sink.stream c.args.writer.now) (g.W.Sink.stream c.write_answer.new.writer) text (end_of setting.session_options.ends) c.in-Err.ensures.2,
    )

pub returns-in-Ok-write_end-clause-answered : goal.returns-in-Ok-write_end-clause-answered
returns-in-Ok-write_end-clause-answered g c =
    let meaning = g.L.Analysis.meaning in
    let setting : SessionSetting = session_setting g.L.AnalysisSource.supply c.args.session_options.now in
    let text = c.in-Ok.ensures.0 in
    let reply = notice_of c.answer-answered.result.notice in (
      text ++ end_of setting.session_options.ends,
      reported_of setting c.args.n (sitting_of meaning c.args.bench.now c.args.registry.now) (line_expects c.args.line.now) (spoken_of c.read_line-line.result) (line_says c.args.line.now) reply c.answer-answered.result.shows.items (sitting_of meaning c.answer-answered.new.bench c.answer-answered.new.registry) text _
          c.read_line-line.ensures c.if-is_nothing.ensures c.answer-answered.ensures.replies (rw c.expected_of-expected.ensures at c.in-Ok.ensures.1) c.answer-answered.ensures.bounded (rw c.expected_of-expected.ensures at c.is_right_under.ensures),
      grows_join (g.W.Sink.stream c.args.writer.now) (g.W.Sink.stream c.write_answer.new.writer) (g.W.Sink.stream c.write_end.new.writer) text (end_of setting.session_options.ends) c.in-Ok.ensures.2 c.in-Ok-write_end.ensures,
    )

pub returns-clause-answered : goal.returns-clause-answered
returns-clause-answered g c =
    let meaning = g.L.Analysis.meaning in
    let setting : SessionSetting = session_setting g.L.AnalysisSource.supply c.args.session_options.now in
    let text = c.in-Ok.ensures.0 in
    let reply = notice_of c.answer-answered.result.notice in (
      Some (is_right_under c.args.session_options.now.strict (line_expects c.args.line.now) reply c.answer-answered.result.shows.items),
      text ++ end_of setting.session_options.ends,
      reported_of setting c.args.n (sitting_of meaning c.args.bench.now c.args.registry.now) (line_expects c.args.line.now) (spoken_of c.read_line-line.result) (line_says c.args.line.now) reply c.answer-answered.result.shows.items (sitting_of meaning c.answer-answered.new.bench c.answer-answered.new.registry) text (is_right_under c.args.session_options.now.strict (line_expects c.args.line.now) reply c.answer-answered.result.shows.items)
          c.read_line-line.ensures c.if-is_nothing.ensures c.answer-answered.ensures.replies (rw c.expected_of-expected.ensures at c.in-Ok.ensures.1) c.answer-answered.ensures.bounded refl,
      preceding_join (g.W.Sink.stream c.args.writer.now) (g.W.Sink.stream c.write_answer.new.writer) (g.W.Sink.stream c.write_end.new.writer) text (end_of setting.session_options.ends) c.in-Ok.ensures.2 c.in-Err-write_end.ensures,
    )
