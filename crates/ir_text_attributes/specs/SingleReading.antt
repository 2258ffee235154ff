-- Parses one attribute up to the end of the text.
use Rattle.std.specs.Prelude.{ℕ, Bool, List}
use Rattle.ir_text_tokens.specs.declared.token.Mark.TheVariants.{End}
use Rattle.ir_types.specs.Limits.{most_depth}
use Rattle.ir_types.specs.Things.{ContextModel}
use Rattle.ir_text_types.specs.Marks.{after}
use Rattle.ir_text_types.specs.Outcomes.{Outcome, Read, ◌>>=◌, of_option}
use Rattle.ir_text_attributes.specs.AttrReading.{attr_at}

unfoldable pub single_attr_at : Bool → List ℕ → ContextModel → Outcome (ℕ × ContextModel)
single_attr_at opaque bytes c = attr_at opaque most_depth (bytes, c) >>= λ x. of_option (after End x.1.0) >>= λ end. Read (x.0, x.1.1)
