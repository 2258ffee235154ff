-- Which attribute a text denotes. Language Reference, "Attributes".
use Rattle.std.specs.Prelude.{◌≡◌, ℕ, Bool, List, None}
use Rattle.ir_text_tokens.specs.declared.token.Mark.TheVariants.{End}
use Rattle.ir_text_tokens.specs.Limits.{text_reason}
use Rattle.ir_types.specs.Limits.{most_depth}
use Rattle.ir_types.specs.Terms.{AttrTerm}
use Rattle.ir_text_types.specs.Grammars.{IsMark}
use Rattle.ir_text_attributes.specs.AttrGrammar.{IsAttr}

-- the text is one attribute within the depth limit, and the end
unfoldable pub IsSingleAttr : Bool → List ℕ → AttrTerm → Type 0
IsSingleAttr opaque bytes y = (rest end : List ℕ) × IsAttr opaque most_depth y bytes rest × IsMark End rest end

-- the text is one attribute and is within the limits of a text; `opaque` says whether opaque types and attributes are
-- allowed
pub record SpellsAttr (opaque : Bool) (bytes : List ℕ) (y : AttrTerm) : Type 0 where
  pub text : text_reason bytes ≡ None
  pub rendered : IsSingleAttr opaque bytes y
