use Rattle.std.proofs.Common.{sym, ap, ◌∙◌, arith}
use Rattle.std.specs.Prelude.{option_map}
use Rattle.ir_event.specs.types.Terms.{name_term}
use Rattle.ir_event.specs.Modules.{module_in}
use Rattle.patterns_matchers.specs.Reads.{header_of_node}
use Rattle.user_patterns_data.specs.Shapes.{pattern_model}
use Rattle.user_patterns_apply.proofs.Rooted.{other_fails, other_is_not_matched}
use Rattle.user_patterns_apply.proofs.match_ops.is_other.Goals as goal

pub returns-clause-matched : goal.returns-clause-matched
returns-clause-matched c =
    let w = c.args.world.now in
    other_is_not_matched (module_in w).tree (pattern_model c.args.pattern.now) c.args.op _ c.as_slice-old.result.now c.as_slice-old.ensures.value
    (omega (arith, c.if-pattern_ops-lt1.false)) (omega (arith, c.old_begins.ensures.place, c.if-pattern-old_begins.false))
    (header_of_node w.ctx c.in-Some.node) (sym c.defining_op.ensures.node ∙ ap (option_map (header_of_node w.ctx)) c.in-Some.is)
    _ (ap (name_term w.ctx) c.name.ensures) c.is_named.result c.is_named.ensures

pub returns-clause-tests : goal.returns-clause-tests
returns-clause-tests c =
    let w = c.args.world.now in
    other_fails (module_in w).tree (pattern_model c.args.pattern.now) c.args.op _ c.as_slice-old.result.now c.as_slice-old.ensures.value
    (omega (arith, c.if-pattern_ops-lt1.false)) (omega (arith, c.old_begins.ensures.place, c.if-pattern-old_begins.false))
    (header_of_node w.ctx c.in-Some.node) (sym c.defining_op.ensures.node ∙ ap (option_map (header_of_node w.ctx)) c.in-Some.is)
    _ (ap (name_term w.ctx) c.name.ensures) c.is_named.result c.is_named.ensures
