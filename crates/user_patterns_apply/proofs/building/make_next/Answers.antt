use Rattle.std.proofs.Common.{ap, sym, ◌∙◌, ◌+◌, map, length, arith}
use Rattle.std.specs.Prelude.{option_map}
use Rattle.dialects_int.specs.Folds.{known_of}
use Rattle.user_patterns_apply.specs.Built.{made_in, operands_in}
use Rattle.user_patterns_apply.specs.Types.{types_in}
use Rattle.user_patterns_apply.proofs.Additions.{made_next, none_made}
use Rattle.user_patterns_apply.proofs.building.make_next.Goals as goal

pub returns-in_default-clause-made : goal.returns-in_default-clause-made
returns-in_default-clause-made c ws =
    none_made (types_in c.args.ctx.now c.args.types.now) (map known_of c.args.env.now) (map (made_in c.args.ctx.now c.args.next) c.args.made.now.items) (c.args.next + length c.args.made.now.items) c.args.place c.args.new.now ws (operands_in c.args.next c.args.operands.now)
    (sym (c.in_ok-one.ensures.made c.args.next) ∙ ap (option_map (made_in c.args.ctx.now c.args.next)) c.in_default.is)

pub returns-clause-made : goal.returns-clause-made
returns-clause-made c ws =
    made_next c.args.ctx.now c.args.next (types_in c.args.ctx.now c.args.types.now) (map known_of c.args.env.now) c.args.place c.args.new.now ws c.args.made.now.items c.push.new.self.items c.args.operands.now c.bind_made.new.operands
    c.in-Some.one (sym (c.in_ok-one.ensures.made c.args.next) ∙ ap (option_map (made_in c.args.ctx.now c.args.next)) c.in-Some.is) c.in_ok-push.ensures.items c.len.result (omega (arith, c.len.ensures, c.args.made.now.ok.0)) c.bind_made.result c.bind_made.ensures c.if-not-bind_made.false
