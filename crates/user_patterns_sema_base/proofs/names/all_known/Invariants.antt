use Rattle.std.proofs.Common.{◌≡◌, length, map}
use Rattle.user_patterns_text.specs.Parts.{part_view}
use Rattle.user_patterns_sema_base.specs.Views.{variable_views}
use Rattle.user_patterns_sema_base.specs.Names.{all_known}
use Rattle.user_patterns_sema_base.proofs.names.all_known.Given as goal

abbrev pub invariant-parts : goal.invariant-parts
invariant-parts l = all_known (variable_views l.fn.variables) (map part_view l.rest) ≡ all_known (variable_views l.fn.variables) (map part_view l.fn.parts)

abbrev pub decreases-parts : goal.decreases-parts
decreases-parts l = length l.rest
