use Rattle.std.proofs.Common.{◌≡◌, ◌+◌, drop, take, length, ◌-◌, ap, ◌∙◌, arith}
use Rattle.std.proofs.lemmas.Grind.{common_steps}
use Rattle.mlir_work_script_base.specs.Cuts.{after}
use Rattle.mlir_work_script_base.specs.Words.{is_blank, skip_blanks}
use Rattle.mlir_work_script_base.proofs.Cutting.{cut_found, cut_missing}
use Rattle.mlir_work_script_base.proofs.words.split_word.Goals as goal

pub returns-in-Some-clause-word : goal.returns-in-Some-clause-word
returns-in-Some-clause-word c = (cut_found is_blank c.args.text.now c.in-Some.end c.in-Some.ensures).0

pub returns-in-Some-clause-rest : goal.returns-in-Some-clause-rest
returns-in-Some-clause-rest c =
    let h = (cut_found is_blank c.args.text.now c.in-Some.end c.in-Some.ensures).1 in
    let whole : take (length c.args.text.now - (c.in-Some.end + 1)) (drop (c.in-Some.end + 1) c.args.text.now) ≡ after is_blank c.args.text.now = grind (arith, common_steps, h) in
    c.skip_blanks.ensures ∙ ap skip_blanks whole

pub returns-in-None-clause-word : goal.returns-in-None-clause-word
returns-in-None-clause-word c = (cut_missing is_blank c.args.text.now c.in-None.ensures).0

pub returns-in-None-clause-rest : goal.returns-in-None-clause-rest
returns-in-None-clause-rest c = ap skip_blanks (cut_missing is_blank c.args.text.now c.in-None.ensures).1
