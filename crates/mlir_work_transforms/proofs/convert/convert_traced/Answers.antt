use Rattle.std.proofs.Common.{◌≡◌, true}
use Rattle.mlir_work_script_base.specs.Clauses.{clauses_of, target_of as said_target}
use Rattle.conversion.specs.Benches.{seen}
use Rattle.conversion.specs.Conversion.{has_no_cast}
use Rattle.conversion.specs.Converting.{command_aim}
use Rattle.conversion.specs.rewriter.Held.{module_held}
use Rattle.conversion.specs.rewriter.Moves.{Recorded}
use Rattle.conversion.specs.Runs.{Noted}
use Rattle.std.proofs.Common.{[]}
use Rattle.mlir_work_transforms.proofs.TracedConversion.{Shown, traced_converts, traced_does, traced_journal, traced_lines, traced_on}
use Rattle.mlir_work_transforms.proofs.convert.convert_traced.Goals as goal

pub returns-clause-does : goal.returns-clause-does
returns-clause-does g c =
    let o = command_aim (said_target c.args.full (clauses_of c.args.clauses.now)) in
    let new = c.convert-called.new in
    let r = c.convert-called.result in
    let shown : Shown r c.traced_conversion.result.called new.tracer.text.items c.traced_conversion.result.lines.items new.tracer.failure = record { ok = c.traced_conversion.ensures.ok; fault = c.traced_conversion.ensures.fault } in
    traced_does g.L.Analysis.meaning o c.args.bench.now new.bench r c.traced_conversion.result.called new.tracer.text.items c.traced_conversion.result.lines.items new.tracer.failure shown
    c.led_benches_are_kept.ensures.ages c.convert-called.ensures.led c.convert-called.ensures.converts c.convert-called.ensures.does

pub returns-clause-converts : goal.returns-clause-converts
returns-clause-converts g c =
    let o = command_aim (said_target c.args.full (clauses_of c.args.clauses.now)) in
    let new = c.convert-called.new in
    let r = c.convert-called.result in
    let shown : Shown r c.traced_conversion.result.called new.tracer.text.items c.traced_conversion.result.lines.items new.tracer.failure = record { ok = c.traced_conversion.ensures.ok; fault = c.traced_conversion.ensures.fault } in
    traced_converts g.L.Analysis.meaning o c.args.bench.now new.bench r c.traced_conversion.result.called new.tracer.text.items c.traced_conversion.result.lines.items new.tracer.failure shown c.convert-called.ensures.converts

pub returns-clause-lines : goal.returns-clause-lines
returns-clause-lines g c =
    let o = command_aim (said_target c.args.full (clauses_of c.args.clauses.now)) in
    let new = c.convert-called.new in
    let r = c.convert-called.result in
    let shown : Shown r c.traced_conversion.result.called new.tracer.text.items c.traced_conversion.result.lines.items new.tracer.failure = record { ok = c.traced_conversion.ensures.ok; fault = c.traced_conversion.ensures.fault } in
    let begun = c.new-lines.result in
    traced_lines o (seen c.args.bench.now) (seen new.bench) r c.traced_conversion.result.called begun.text.items new.tracer.text.items c.traced_conversion.result.lines.items begun.failure new.tracer.failure c.convert-called.ensures.converts
    (record { nothing = c.new-lines.ensures.text; unset = c.new-lines.ensures.failure; reported = c.convert-called.ensures.reported; stays = c.convert-called.ensures.stays }) shown

pub returns-clause-none : goal.returns-clause-none
returns-clause-none g c =
    let o = command_aim (said_target c.args.full (clauses_of c.args.clauses.now)) in
    let new = c.convert-called.new in
    let r = c.convert-called.result in
    let shown : Shown r c.traced_conversion.result.called new.tracer.text.items c.traced_conversion.result.lines.items new.tracer.failure = record { ok = c.traced_conversion.ensures.ok; fault = c.traced_conversion.ensures.fault } in
    traced_on g.L.Analysis.meaning o c.args.bench.now new.bench r c.traced_conversion.result.called new.tracer.text.items c.traced_conversion.result.lines.items new.tracer.failure shown (has_no_cast (module_held new.bench.transaction).tree ≡ true) c.convert-called.ensures.none

pub returns-clause-journal : goal.returns-clause-journal
returns-clause-journal g c =
    let o = command_aim (said_target c.args.full (clauses_of c.args.clauses.now)) in
    let new = c.convert-called.new in
    let r = c.convert-called.result in
    let shown : Shown r c.traced_conversion.result.called new.tracer.text.items c.traced_conversion.result.lines.items new.tracer.failure = record { ok = c.traced_conversion.ensures.ok; fault = c.traced_conversion.ensures.fault } in
    traced_journal g.L.Analysis.meaning o c.args.bench.now new.bench r c.traced_conversion.result.called new.tracer.text.items c.traced_conversion.result.lines.items new.tracer.failure shown (Noted c.args.bench.now.transaction new.bench.transaction) (Recorded [] c.args.bench.now.transaction new.bench.transaction) c.convert-called.ensures.journal
