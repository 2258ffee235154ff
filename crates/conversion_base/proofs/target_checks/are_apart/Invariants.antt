use Rattle.std.proofs.Common.{◌≡◌, length, map}
use Rattle.std.specs.List.{All}
use Rattle.ir_event.specs.types.Things.{IsName}
use Rattle.ir_event.specs.types.Terms.{name_term}
use Rattle.conversion_base.specs.Numbers.{are_apart}
use Rattle.conversion_base.proofs.target_checks.are_apart.Given as goal

abbrev pub invariant-names : goal.invariant-names
invariant-names l = record {
  known : All (IsName l.ctx) l.rest;
  left : are_apart (map (name_term l.ctx) l.rest) (map (name_term l.ctx) l.others) ≡ are_apart (map (name_term l.ctx) l.fn.names) (map (name_term l.ctx) l.others);
}

abbrev pub decreases-names : goal.decreases-names
decreases-names l = length l.rest
