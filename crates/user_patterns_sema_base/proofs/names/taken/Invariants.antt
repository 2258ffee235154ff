use Rattle.std.proofs.Common.{◌≡◌, ◌≤◌, [], length, map}
use Rattle.user_patterns_text.specs.Parts.{part_view}
use Rattle.user_patterns_sema_base.specs.Views.{variable_views}
use Rattle.user_patterns_sema_base.specs.Names.{taken}
use Rattle.user_patterns_sema_base.proofs.names.taken.Given as goal

abbrev pub invariant-parts : goal.invariant-parts
invariant-parts l = record {
  taken : taken (variable_views l.variables.items) (map part_view l.rest) ≡ taken [] (map part_view l.fn.parts);
  few : length l.variables.items ≤ 16;
}

abbrev pub decreases-parts : goal.decreases-parts
decreases-parts l = length l.rest
