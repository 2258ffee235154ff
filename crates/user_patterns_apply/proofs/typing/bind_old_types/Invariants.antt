use Rattle.std.proofs.Common.{length, map, ◌+◌, ◌≡◌}
use Rattle.ir_event.specs.Modules.{module_in}
use Rattle.patterns_base.specs.Looks.{is_verified}
use Rattle.user_patterns_data.specs.Matching.{types_at}
use Rattle.user_patterns_data.specs.declared.pattern.PatternOp.{PatternOp}
use Rattle.user_patterns_apply.specs.Mismatches.{types_tests}
use Rattle.user_patterns_apply.specs.Types.{AreTypesOf, types_in}
use Rattle.user_patterns_apply.proofs.typing.bind_old_types.Given as goal

abbrev pub invariant-old : goal.invariant-old
invariant-old l = record {
  of : AreTypesOf l.fn.world.ctx l.types;
  left : types_at (module_in l.fn.world).tree (is_verified (module_in l.fn.world).tree) l.place (map PatternOp.ty l.rest) l.fn.values (types_in l.fn.world.ctx l.types) ≡ types_at (module_in l.fn.world).tree (is_verified (module_in l.fn.world).tree) l.fn.begins (map PatternOp.ty l.fn.old) l.fn.values (types_in l.fn.world.ctx l.fn.types);
  tests : types_tests (module_in l.fn.world).tree (is_verified (module_in l.fn.world).tree) l.place (map PatternOp.ty l.rest) l.fn.values (types_in l.fn.world.ctx l.types) ≡ types_tests (module_in l.fn.world).tree (is_verified (module_in l.fn.world).tree) l.fn.begins (map PatternOp.ty l.fn.old) l.fn.values (types_in l.fn.world.ctx l.fn.types);
  counted : l.place + length l.rest ≡ l.fn.begins + length l.fn.old;
}

abbrev pub decreases-old : goal.decreases-old
decreases-old l = length l.rest
