use Rattle.std.proofs.Common.{◌∙◌, refl, sym, arith, map}
use Rattle.dialects_int.specs.Folds.{known_of}
use Rattle.user_patterns_apply.specs.Types.{types_in}
use Rattle.user_patterns_apply.proofs.Additions.{goes_on, names_left, stops}
use Rattle.user_patterns_apply.proofs.building.make_all.Goals as goal

pub returns-then-not-branch-clause-made : goal.returns-then-not-branch-clause-made
returns-then-not-branch-clause-made c =
    sym c.new.invariant.left
    ∙ stops c.args.ctx.now c.args.next (types_in c.args.ctx.now c.args.types.now) (map known_of c.args.env.now) c.new.place c.new.rest.now _ _ c.new.made.items _ c.new.operands _ c.in-len1-up.len_at_least refl _ c.in_ok-make_next.ensures.made c.if-not-branch.true

pub new-preserved : goal.new-preserved
new-preserved c = record {
  names = names_left c.new.rest.now c.in-len1-up.len_at_least c.new.invariant.names;
  of = c.in_ok-make_next.ensures.of;
  left =
      goes_on c.args.ctx.now c.args.next (types_in c.args.ctx.now c.args.types.now) (map known_of c.args.env.now) c.new.place c.new.rest.now _ _ c.new.made.items _ c.new.operands _ c.in-len1-up.len_at_least refl _ c.in_ok-make_next.ensures.made c.if-not-branch.false
      ∙ c.new.invariant.left;
  counted = omega (arith, c.new.invariant.counted, c.in-len1-up.len_at_least);
}
