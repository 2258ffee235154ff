use Rattle.std.proofs.Common.{◌∙◌, sym}
use Rattle.ir_verify.proofs.Verdicts.{obeys, broken_by}
use Rattle.ir_verify.proofs.verdict.verdict_of.Goals as goal

pub returns-then-not-is_kept : goal.returns-then-not-is_kept
returns-then-not-is_kept c s of = obeys c.args.finding.now s of (sym c.is_kept.ensures ∙ c.if-not-is_kept.true)

pub returns : goal.returns
returns c s of =
    broken_by c.args.finding.now s of (sym c.is_kept.ensures ∙ c.if-not-is_kept.false) c.deref.result.now c.verdict_of_reported.result (c.deref.ensures.value ∙ c.in_ok-numbers.ensures) c.verdict_of_reported.ensures
