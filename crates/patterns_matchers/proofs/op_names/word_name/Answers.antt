use Rattle.std.proofs.Common.{◌∙◌, ap, sym, subst}
use Rattle.ir_event.specs.types.Things.{IsName}
use Rattle.ir_event.specs.types.Terms.{name_term}
use Rattle.patterns_matchers.proofs.Names.{word_named, word_there}
use Rattle.patterns_matchers.proofs.op_names.word_name.Goals as goal

pub returns-clause-name : goal.returns-clause-name
returns-clause-name c = ap (name_term c.args.ctx.now) c.id.ensures ∙ word_named c.args.ctx.now c.args.word c.sound.ensures

pub returns-clause-of : goal.returns-clause-of
returns-clause-of c = subst (IsName c.args.ctx.now) (sym c.id.ensures) (word_there c.args.ctx.now c.args.word c.sound.ensures)
