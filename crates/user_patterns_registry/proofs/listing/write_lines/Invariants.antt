use Rattle.std.proofs.Common.{◌≡◌, ◌++◌, length}
use Rattle.user_patterns_registry.specs.Registry.{kept_views, listing_text}
use Rattle.user_patterns_registry.proofs.listing.write_lines.Given as goal

abbrev pub invariant-held : goal.invariant-held
invariant-held l = l.out.items ++ listing_text (kept_views l.rest) ≡ l.fn.out.items ++ listing_text (kept_views l.fn.held)

abbrev pub decreases-held : goal.decreases-held
decreases-held l = length l.rest
