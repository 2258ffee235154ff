use Rattle.std.proofs.Common.{◌∙◌, sym, ap}
use Rattle.std.specs.Prelude.{slice_get}
use Rattle.std.specs.Str.{bytes_eq}
use Rattle.mlir_work_c_read.proofs.Found.{found_here, found_later}
use Rattle.mlir_work_c_read.proofs.texts.find_name.Goals as goal

pub returns-then-eq : goal.returns-then-eq
returns-then-eq c =
    found_here (bytes_eq c.args.text.now) c.args.ctx.now.names c.names.number c.name_bytes.result.now _
    (sym (ap (slice_get c.args.ctx.now.names) c.new-in-names.ensures) ∙ c.name_bytes.ensures) c.names.invariant (sym c.eq.ensures ∙ c.if-eq.true)

pub names-preserved : goal.names-preserved
names-preserved c =
    found_later (bytes_eq c.args.text.now) c.args.ctx.now.names c.names.number c.name_bytes.result.now _
    (sym (ap (slice_get c.args.ctx.now.names) c.new-in-names.ensures) ∙ c.name_bytes.ensures) c.names.invariant (sym c.eq.ensures ∙ c.if-eq.false)
