use Rattle.std.proofs.Common.{◌∙◌, ap, sym}
use Rattle.std.specs.Str.{bytes_eq}
use Rattle.mlir_work_script.specs.RuleLists.{names_in, opened}
use Rattle.mlir_work_script.proofs.RuleLists.{other_item}
use Rattle.mlir_work_script.proofs.rule_lists.numbers_of.Goals as goal

pub returns-clause-names : goal.returns-clause-names
returns-clause-names c =
    ap (λ has. opened has (names_in c.args.item.now)) c.if-has_canon.false
    ∙ other_item c.parse_range-2.result c.args.item.now (sym (c.eq.ensures ∙ ap (bytes_eq c.args.item.now) c.as_slice.ensures) ∙ c.if-eq.false) c.parse_range-2.ensures.range
