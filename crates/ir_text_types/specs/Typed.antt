-- The rest of a text, and the context so far.
use Rattle.std.specs.Prelude.{ℕ, List, Option, option_map}
use Rattle.ir_text_tokens.specs.declared.token.Mark.{Mark}
use Rattle.ir_types.specs.declared.node.TypeNode.{TypeNode}
use Rattle.ir_types.specs.declared.node.AttrNode.{AttrNode}
use Rattle.ir_types.specs.Things.{ContextModel}
use Rattle.ir_types.specs.Interning.{with_name, with_type, with_attr}
use Rattle.ir_types.specs.Reasons.{name_reason, type_reason, attr_reason}
use Rattle.ir_text_types.specs.Outcomes.{Outcome, interned}
use Rattle.ir_text_types.specs.Marks.{after}

-- the bytes that are left of a text
abbrev pub Text : Type 0
Text = List ℕ

abbrev pub Typed : Type 0
Typed = Text × ContextModel

abbrev pub after_typed : Mark → Typed → Option Typed
after_typed m s = option_map (λ r. (r, s.1)) (after m s.0)

-- the id of a name, a type or an attribute, and the context with it
unfoldable pub name_step : List ℕ → ContextModel → Outcome (ℕ × ContextModel)
name_step bytes c = interned (name_reason bytes c) (with_name bytes c)

unfoldable pub type_step : TypeNode → ContextModel → Outcome (ℕ × ContextModel)
type_step node c = interned (type_reason node c) (with_type node c)

unfoldable pub attr_step : AttrNode → ContextModel → Outcome (ℕ × ContextModel)
attr_step node c = interned (attr_reason node c) (with_attr node c)
