use Rattle.std.proofs.Common.{◌≡◌, length}
use Rattle.user_patterns_sema_base.specs.Views.{named_views}
use Rattle.user_patterns_sema_base.specs.Types.{slot_of}
use Rattle.user_patterns_sema_base.proofs.types.slot_of.Given as goal

abbrev pub invariant-names : goal.invariant-names
invariant-names l = slot_of l.fn.name (named_views l.rest) ≡ slot_of l.fn.name (named_views l.fn.named)

abbrev pub decreases-names : goal.decreases-names
decreases-names l = length l.rest
