use Rattle.user_patterns_widths.specs.Views.{view}
use Rattle.user_patterns_widths.proofs.Counting.{whole_at_first}
use Rattle.user_patterns_widths.proofs.polynomials.coefficient_of.Goals as goal

pub terms-init : goal.terms-init
terms-init c = whole_at_first c.args.places.now (view c.args.terms.now)
