use Rattle.std.proofs.Common.{◌≡◌, length}
use Rattle.user_patterns_registry.specs.Registry.{found, kept_views}
use Rattle.user_patterns_registry.proofs.registry.find_in.Given as goal

abbrev pub invariant-held : goal.invariant-held
invariant-held l = found l.fn.name (kept_views l.rest) ≡ found l.fn.name (kept_views l.fn.held)

abbrev pub decreases-held : goal.decreases-held
decreases-held l = length l.rest
