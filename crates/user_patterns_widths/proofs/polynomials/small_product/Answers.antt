use Rattle.std.proofs.Common.{◌<◌, ◌*◌, arith, length}
use Rattle.user_patterns_widths.proofs.Counting.{too_many_terms}
use Rattle.user_patterns_widths.proofs.polynomials.small_product.Goals as goal

pub returns-then-saturating_mul-gt-MOST_TERMS : goal.returns-then-saturating_mul-gt-MOST_TERMS
returns-then-saturating_mul-gt-MOST_TERMS c =
    let much : 256 < length c.args.first.now * length c.args.second.now = omega arith in
    too_many_terms c.args.first.now c.args.second.now much
