use Rattle.std.proofs.Common.{◌∙◌, sym, ap, refl}
use Rattle.std.specs.Prelude.{is_some}
use Rattle.ir_types.specs.Terms.{name_term}
use Rattle.op_registry.specs.Registry.{row_of}
use Rattle.ir_verify.proofs.Silent.{reports_nothing}
use Rattle.ir_verify.proofs.rules.may_break.Goals as goal

pub returns : goal.returns
returns c = λ f s e. reports_nothing s (row_of s.node.head.name) refl (ap (λ n. is_some (row_of n)) e ∙ sym (c.listed_has_row.ensures (name_term c.args.ctx.now c.args.name)) ∙ sym c.listed.ensures ∙ f)
