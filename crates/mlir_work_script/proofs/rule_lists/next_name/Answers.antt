use Rattle.std.proofs.Common.{◌∙◌, ap, arith, ◌-◌, ◌++◌}
use Rattle.std.specs.Option.{option_copied}
use Rattle.mlir_work_script_base.specs.Items.{items_after, items_of}
use Rattle.mlir_work_script_base.specs.RuleNames.{name_of}
use Rattle.mlir_work_script.specs.RuleLists.{names_after, numbers_from, opened}
use Rattle.mlir_work_script.proofs.RuleLists.{name_left, none_left, numbers_step, range_left}
use Rattle.mlir_work_script.proofs.rule_lists.next_name.Goals as goal

pub returns-then-names : goal.returns-then-names
returns-then-names c =
    let n = c.args.names.now in
    ap (λ ns. ns ++ opened n.has_canon (names_after (option_copied n.rest))) (numbers_step n.next n.end (omega (arith, c.if-names.true)))

pub returns-in_default : goal.returns-in_default
returns-in_default c =
    let n = c.args.names.now in
    ap (λ o. numbers_from n.next (n.end - n.next) ++ opened n.has_canon (names_after (option_copied o))) c.in_default.is
    ∙ none_left n.has_canon n.next n.end (omega (arith, c.if-names.false))

pub returns-in_default-numbers_of : goal.returns-in_default-numbers_of
returns-in_default-numbers_of c =
    let n = c.args.names.now in
    ap (λ o. numbers_from n.next (n.end - n.next) ++ opened n.has_canon (names_after (option_copied o))) c.in-Some.is
    ∙ name_left n.has_canon n.next n.end (items_of c.in-Some.items.now) (items_after (option_copied c.split_item.result.1)) c.split_item.result.0.now (name_of c.name_in.result) (omega (arith, c.if-names.false))
    c.split_item.ensures.items c.in_default-numbers_of.ensures.names c.name_in.ensures

pub returns : goal.returns
returns c =
    let n = c.args.names.now in
    ap (λ o. numbers_from n.next (n.end - n.next) ++ opened n.has_canon (names_after (option_copied o))) c.in-Some.is
    ∙ range_left n.has_canon n.next n.end (items_of c.in-Some.items.now) (items_after (option_copied c.split_item.result.1)) c.split_item.result.0.now c.in-Some-numbers_of.first c.in-Some-numbers_of.last (omega (arith, c.if-names.false))
    c.split_item.ensures.items c.in-Some-numbers_of.ensures.names c.in-Some-numbers_of.ensures.small.0
