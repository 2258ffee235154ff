-- The reasons why a text is refused: the first fourteen refusals.
use Rattle.ir_types.specs.declared.refusal.Refusal.{Refusal}
use Rattle.ir_types.specs.declared.refusal.Refusal.TheVariants as any
use Rattle.ir_text_tokens.specs.declared.refusal.TextRefusal.{TextRefusal}
use Rattle.ir_text_tokens.specs.declared.refusal.TextRefusal.TheVariants as text

-- the workbench's refusal for a reason
abbrev pub refusal_of : TextRefusal → Refusal
refusal_of text.BadToken = any.BadToken
refusal_of text.Unexpected = any.Unexpected
refusal_of text.UnknownValue = any.UnknownValue
refusal_of text.Redefined = any.Redefined
refusal_of text.TypeMismatch = any.TypeMismatch
refusal_of text.BadWidth = any.BadWidth
refusal_of text.BadValue = any.BadValue
refusal_of text.MultipleBlocks = any.MultipleBlocks
refusal_of text.Successors = any.Successors
refusal_of text.TooDeep = any.TooDeep
refusal_of text.TooMany = any.TooMany
refusal_of text.DuplicateKey = any.DuplicateKey
refusal_of text.LeftOut = any.LeftOut
refusal_of text.NotUtf8 = any.NotUtf8

-- the reason for a refusal; `Unexpected` for a refusal that no text has
abbrev pub text_refusal : Refusal → TextRefusal
text_refusal any.BadToken = text.BadToken
text_refusal any.UnknownValue = text.UnknownValue
text_refusal any.Redefined = text.Redefined
text_refusal any.TypeMismatch = text.TypeMismatch
text_refusal any.BadWidth = text.BadWidth
text_refusal any.BadValue = text.BadValue
text_refusal any.MultipleBlocks = text.MultipleBlocks
text_refusal any.Successors = text.Successors
text_refusal any.TooDeep = text.TooDeep
text_refusal any.TooMany = text.TooMany
text_refusal any.DuplicateKey = text.DuplicateKey
text_refusal any.LeftOut = text.LeftOut
text_refusal any.NotUtf8 = text.NotUtf8
text_refusal other = text.Unexpected
