use Rattle.std.proofs.Common.{ap, subst, sym, ◌∙◌}
use Rattle.std.proofs.lemmas.Option.{none-some}
use Rattle.greedy.specs.LocalContext.{defining_op, is_listed}
use Rattle.greedy.specs.Parts.{Gives}
use Rattle.greedy.proofs.Reached.{gives_one}
use Rattle.greedy.proofs.neighbours.is_listed_last.Goals as goal

pub returns-in-Result : goal.returns-in-Result
returns-in-Result c h x g =
    ap (λ z. is_listed z c.args.ops.now) (gives_one c.in-Result.op c.in-Result.field-1 x (subst (λ v. Gives v x) c.in-Result.is g)) ∙ c.is_last.ensures h

pub returns-in-Arg : goal.returns-in-Arg
returns-in-Arg c h x g = absurd (none-some x (sym (ap defining_op c.in-Arg.is) ∙ g))
