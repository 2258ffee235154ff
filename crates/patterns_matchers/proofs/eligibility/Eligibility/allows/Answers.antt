use Rattle.std.proofs.Common.{◌∙◌, subst}
use Rattle.patterns_matchers.specs.Suited.{IsEligibilityOf}
use Rattle.patterns_matchers.proofs.Suited.{eligible_any, eligible_erasing, eligible_none}
use Rattle.patterns_matchers.proofs.eligibility.Eligibility.allows.Goals as goal

pub returns-in-Verified : goal.returns-in-Verified
returns-in-Verified c t h is = eligible_any c.args.rule t h (subst (IsEligibilityOf t h) c.in-Verified.is is)

pub returns-in-Erasable : goal.returns-in-Erasable
returns-in-Erasable c t h is = (let w = subst (IsEligibilityOf t h) c.in-Erasable.is is in c.is_erasing.ensures ∙ eligible_erasing c.args.rule t h w.0 w.1)

pub returns-in-Ineligible : goal.returns-in-Ineligible
returns-in-Ineligible c t h is = eligible_none c.args.rule t h (subst (IsEligibilityOf t h) c.in-Ineligible.is is)
