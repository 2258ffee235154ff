use Rattle.std.proofs.Common.{length, map, true, ◌+◌, ◌≡◌}
use Rattle.std.specs.List.{list_all}
use Rattle.dialects_int.specs.Folds.{known_of}
use Rattle.user_patterns_data.specs.Planning.{all_made}
use Rattle.user_patterns_apply.specs.Built.{AreMadeOf, made_after, operands_in}
use Rattle.user_patterns_build.specs.CanBuild.{is_named}
use Rattle.user_patterns_apply.specs.Types.{types_in}
use Rattle.user_patterns_apply.proofs.building.make_all.Given as goal

abbrev pub invariant-new : goal.invariant-new
invariant-new l = record {
  names : list_all is_named l.rest ≡ true;
  of : AreMadeOf l.fn.ctx l.made.items;
  left : made_after l.fn.ctx l.fn.next (types_in l.fn.ctx l.fn.types) (map known_of l.fn.env) l.place l.rest l.made.items l.operands
      ≡ all_made (types_in l.fn.ctx l.fn.types) (map known_of l.fn.env) l.fn.next l.fn.begins l.fn.new (operands_in l.fn.next l.fn.operands);
  counted : l.place + length l.rest ≡ l.fn.begins + length l.fn.new;
}

abbrev pub decreases-new : goal.decreases-new
decreases-new l = length l.rest
