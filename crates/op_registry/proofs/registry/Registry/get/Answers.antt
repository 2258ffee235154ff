use Rattle.std.proofs.Common.{◌∙◌, ap, sym}
use Rattle.std.specs.Prelude.{slice_get}
use Rattle.op_registry.proofs.ByName.{row_is}
use Rattle.op_registry.proofs.registry.Registry.get.Goals as goal

pub returns : goal.returns
returns c things sound =
    c.row_at.ensures
    ∙ ap (slice_get _) c.number.ensures
    ∙ ap (λ list. slice_get list c.args.name) c.args.self.now.whole
    ∙ sym (row_is things c.args.name sound)
