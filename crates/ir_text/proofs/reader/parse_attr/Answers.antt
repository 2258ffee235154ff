use Rattle.std.proofs.Common.{◌≡◌, ℕ, length, subst}
use Rattle.ir_text_types.specs.Laws.{IsFull}
use Rattle.ir_text_operations.specs.attributes.Spelling.{SpellsAttr}
use Rattle.ir_text_operations.specs.attributes.Claims.{IsNoAttr}
use Rattle.ir_text.proofs.Errors.{refused_so, full_so}
use Rattle.ir_text.proofs.reader.parse_attr.Goals as goal

pub returns-in-Err-clause-refused : goal.returns-in-Err-clause-refused
returns-in-Err-clause-refused c =
    refused_so (length c.args.bytes.now) c.in-Err.e c.at.result (IsNoAttr (SpellsAttr c.args.ctx.now.opaque c.args.bytes.now))
    (λ f e. subst (λ o. IsNoAttr (SpellsAttr o c.args.bytes.now)) c.is_opaque-opaque.ensures (c.in-Err.ensures.refused f e)) c.at.ensures.is

pub returns-in-Err-clause-full : goal.returns-in-Err-clause-full
returns-in-Err-clause-full c = full_so (length c.args.bytes.now) c.in-Err.e c.at.result (IsFull c.parse_attr.new.ctx) c.in-Err.ensures.full c.at.ensures.is
