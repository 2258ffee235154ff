use Rattle.std.proofs.Common.{◌++◌, ◌&&◌, not, [], refl, append-nil}
use Rattle.mlir_work_script_base.proofs.Joins.{grows_join, puts_join, preceding_more, preceding_within}
use Rattle.mlir_work_script.specs.Commands.{spoken_of}
use Rattle.mlir_work_transforms.specs.rewriter.RewriterCalls.{state_of}
use Rattle.mlir_work_transforms.specs.registry.Explained.{response_lines}
use Rattle.mlir_work_transforms.specs.registry.Notices.{notice_of}
use Rattle.mlir_work_session.specs.Explained.{about_bytes}
use Rattle.mlir_work_session.specs.Output.{asks}
use Rattle.mlir_work_session.proofs.Listings.{some_listing_if}
use Rattle.mlir_work_session.proofs.script.write_answer.Goals as goal

pub returns-in-Err : goal.returns-in-Err
returns-in-Err g c =
    let about = about_bytes c.about_line-about.result in
    let line = response_lines c.args.n c.args.expected.now (notice_of c.args.answered.now.notice) about in
    let more = some_listing_if (not c.args.session_options.now.brief && not (asks (spoken_of c.args.line.now))) (state_of g.L.Analysis.meaning c.args.bench.now) in
    (line ++ (c.args.answered.now.shows.items ++ more.0), (about, more.0, c.about_line-about.ensures, more.1, refl), preceding_more (g.W.Sink.stream c.args.writer.now) (g.W.Sink.stream c.write_response.new.writer) line (c.args.answered.now.shows.items ++ more.0) (rw c.bytes.ensures at c.in-Err.ensures))

pub returns-in-Err-write : goal.returns-in-Err-write
returns-in-Err-write g c =
    let about = about_bytes c.about_line-about.result in
    let line = response_lines c.args.n c.args.expected.now (notice_of c.args.answered.now.notice) about in
    let more = some_listing_if (not c.args.session_options.now.brief && not (asks (spoken_of c.args.line.now))) (state_of g.L.Analysis.meaning c.args.bench.now) in
    (line ++ (c.args.answered.now.shows.items ++ more.0), (about, more.0, c.about_line-about.ensures, more.1, refl), preceding_within _ _ _ _ line c.args.answered.now.shows.items more.0 refl (rw c.bytes.ensures at c.in-Ok.ensures) (rw c.deref.ensures.value at c.in-Err-write.ensures))

pub returns-then-is_listed : goal.returns-then-is_listed
returns-then-is_listed g c =
    let about = about_bytes c.about_line-about.result in
    let line = response_lines c.args.n c.args.expected.now (notice_of c.args.answered.now.notice) about in
    let more = c.write_listing.ensures in
    (line ++ (c.args.answered.now.shows.items ++ more.0), (about, more.0, c.about_line-about.ensures, rw (← c.is_listed.ensures, c.if-is_listed.true) more.1, refl), puts_join _ _ _ line (c.args.answered.now.shows.items ++ more.0) c.write_listing.result (rw c.bytes.ensures at c.in-Ok.ensures) (puts_join _ _ _ c.args.answered.now.shows.items more.0 c.write_listing.result (rw c.deref.ensures.value at c.in-Ok-write.ensures) more.2))

pub returns : goal.returns
returns g c =
    let about = about_bytes c.about_line-about.result in
    let line = response_lines c.args.n c.args.expected.now (notice_of c.args.answered.now.notice) about in
    (line ++ (c.args.answered.now.shows.items ++ []), (about, [], c.about_line-about.ensures, rw (← c.is_listed.ensures, c.if-is_listed.false) refl, refl), grows_join _ _ _ line (c.args.answered.now.shows.items ++ []) (rw c.bytes.ensures at c.in-Ok.ensures) (rw append-nil (rw c.deref.ensures.value at c.in-Ok-write.ensures)))
