use Rattle.std.proofs.Common.{◌∙◌, ap, take, drop, length, ◌-◌}
use Rattle.user_patterns_widths.proofs.Inserting.{joined_next}
use Rattle.user_patterns_widths.specs.Polynomials as polynomials
use Rattle.user_patterns_widths.proofs.polynomials.joined.Goals as goal

pub places-preserved : goal.places-preserved
places-preserved c =
    let rest = c.places.rest.now in
    ap (polynomials.joined (take (length rest - 1) (drop 1 rest))) c.in_ok-insert_in_order.ensures
    ∙ joined_next rest c.places.places.items c.in-len1-up.len_at_least
    ∙ c.places.invariant
