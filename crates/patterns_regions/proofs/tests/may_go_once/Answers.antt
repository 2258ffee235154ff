use Rattle.std.proofs.Common.{◌∙◌, sym, ap, drop, inl, inr}
use Rattle.ir_event.specs.Modules.{module_in}
use Rattle.patterns_plans.specs.reads.Looks.{Header}
use Rattle.patterns_plans.proofs.of_reads.Cleaned.{known_not}
use Rattle.patterns_regions.proofs.Needed.{no_open_loop}
use Rattle.patterns_regions.proofs.Slices.{two_items}
use Rattle.patterns_regions.proofs.tests.may_go_once.Goals as goal

pub returns-then-not-is_constant : goal.returns-then-not-is_constant
returns-then-not-is_constant c insertion o e f =
    let m = (module_in c.args.world.now).tree in
    let v = c.lower-item.result in
    let u = c.upper-item.result in
    no_open_loop m insertion o v u (drop 2 c.operands.result.now) (ap (λ (h : Header). h.operands) e ∙ sym c.operands.ensures ∙ two_items c.operands.result.now v u _ _ c.in-len2-up.len_at_least c.lower-item.is c.upper-item.is)
    (inl (known_not m v _ c.is_constant.ensures c.if-not-is_constant.true))

pub returns : goal.returns
returns c insertion o e f =
    let m = (module_in c.args.world.now).tree in
    let v = c.lower-item.result in
    let u = c.upper-item.result in
    no_open_loop m insertion o v u (drop 2 c.operands.result.now) (ap (λ (h : Header). h.operands) e ∙ sym c.operands.ensures ∙ two_items c.operands.result.now v u _ _ c.in-len2-up.len_at_least c.lower-item.is c.upper-item.is)
    (inr (known_not m u _ c.is_constant-2.ensures f))
