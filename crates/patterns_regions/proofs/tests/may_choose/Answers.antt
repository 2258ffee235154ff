use Rattle.std.proofs.Common.{◌∙◌, sym, ap}
use Rattle.ir_event.specs.Modules.{module_in}
use Rattle.patterns_plans.specs.reads.Looks.{Header}
use Rattle.patterns_plans.proofs.of_reads.Cleaned.{known_not}
use Rattle.patterns_regions.proofs.Needed.{no_open_branch}
use Rattle.patterns_regions.proofs.Slices.{one_item}
use Rattle.patterns_regions.proofs.tests.may_choose.Goals as goal

pub returns : goal.returns
returns c insertion o e f =
    let m = (module_in c.args.world.now).tree in
    let v = c.condition-item.result in
    no_open_branch m insertion o v (ap (λ (h : Header). h.operands) e ∙ sym c.operands.ensures ∙ one_item c.operands.result.now v _ c.in-len1.len_at_least c.in-len1.len_below c.condition-item.is) (known_not m v _ c.is_constant.ensures f)
