use Rattle.std.proofs.Common.{◌∙◌}
use Rattle.std.proofs.lemmas.Result.{IfOk-weaker}
use Rattle.patterns_regions.proofs.Openings.{opening_none}
use Rattle.patterns_regions.proofs.plans.go_never.Goals as goal

pub returns-clause-edits : goal.returns-clause-edits
returns-clause-edits c = IfOk-weaker c.opened.result _ _ (λ es h t. h t ∙ opening_none c.args.op c.args.point.now c.args.inits.now) c.opened.ensures.edits
