use Rattle.std.proofs.Common.{◌≡◌, ◌≤◌, length, map}
use Rattle.user_patterns_text.specs.Parts.{part_view}
use Rattle.user_patterns_sema_base.specs.Names.{counted}
use Rattle.user_patterns_sema_base.proofs.names.counted.Given as goal

abbrev pub invariant-parts : goal.invariant-parts
invariant-parts l = record {
  counted : counted l.fn.count l.found (map part_view l.rest) ≡ counted l.fn.count l.fn.before (map part_view l.fn.parts);
  few : l.found ≤ 256;
}

abbrev pub decreases-parts : goal.decreases-parts
decreases-parts l = length l.rest
