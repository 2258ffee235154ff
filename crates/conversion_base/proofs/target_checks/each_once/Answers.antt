use Rattle.std.proofs.Common.{◌∙◌, ◌&&◌, sym, ap}
use Rattle.conversion_base.specs.Numbers.{lists_apart}
use Rattle.conversion_base.specs.Targets.{target_model}
use Rattle.conversion_base.proofs.Named.{all_once}
use Rattle.conversion_base.proofs.target_checks.each_once.Goals as goal

pub returns-then-lists_once : goal.returns-then-lists_once
returns-then-lists_once c =
    let g = target_model c.args.ctx.now c.args.target.now in
    c.lists_apart.ensures ∙ sym (ap (λ b. b && lists_apart g) (sym c.lists_once.ensures ∙ c.if-lists_once.true)) ∙ all_once g

pub returns-else-lists_once : goal.returns-else-lists_once
returns-else-lists_once c =
    let g = target_model c.args.ctx.now c.args.target.now in
    c.if-lists_once.false ∙ sym (ap (λ b. b && lists_apart g) (sym c.lists_once.ensures ∙ c.if-lists_once.false)) ∙ all_once g
