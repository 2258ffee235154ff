use Rattle.std.proofs.Common.{◌≡◌, ◌∙◌, ap, arith, length, refl}
use Rattle.mlir_work_script_base.specs.Lines.{after_line}
use Rattle.mlir_work_run.proofs.Feeds.{long_line, taken}
use Rattle.mlir_work_run.proofs.feed.take_line.Goals as goal

pub returns-clause-line : goal.returns-clause-line
returns-clause-line g c =
    let count : c.len.result ≡ length c.fill.new.kept.items = (let is = c.len.ensures in omega (arith, is)) in
    taken _ c.fill.new.kept.items _ _ _ c.in-Ok.ensures.whole c.in-Ok.ensures.line (c.in-Ok-from_slice.ensures.items ∙ rw (c.deref-2.ensures.value, count, c.in-Ok-from_slice-2.ensures.items) refl) (c.in-Ok-from_slice-2.ensures.items ∙ c.split_line.ensures.rest ∙ ap after_line c.deref.ensures.value)

pub returns-then-most-end-clause-many : goal.returns-then-most-end-clause-many
returns-then-most-end-clause-many g c e =
    let count : c.len.result ≡ length c.fill.new.kept.items = (let is = c.len.ensures in omega (arith, is)) in
    let rest : length c.split_line.result.1.now ≡ length (after_line c.fill.new.kept.items) = ap length (c.split_line.ensures.rest ∙ ap after_line c.deref.ensures.value) in
    long_line c.args.most _ c.fill.new.kept.items (g.R.Source.intake c.fill.new.reader).remaining c.in-Ok.ensures.whole c.in-Ok.ensures.line (let lt = c.if-most-end.true in omega (arith, count, rest, lt))
