-- Parses that fill the context.
use Rattle.std.specs.Prelude.{◌≡◌, ◌⊎◌, ℕ, Bool, List, []}
use Rattle.ir_text_tokens.specs.declared.token.Mark.TheVariants.{End}
use Rattle.ir_types.specs.Things.{ContextModel}
use Rattle.ir_types.specs.Interning.{with_name}
use Rattle.ir_types.specs.Words.{words}
use Rattle.ir_tree.specs.Limits.{most_ops, most_around}
use Rattle.ir_text_types.specs.Outcomes.{Full}
use Rattle.ir_text_types.specs.Typed.{name_step}
use Rattle.ir_text_names.specs.States.{fresh}
use Rattle.ir_text_operations.specs.Free.{free_bound, no_types}
use Rattle.ir_text_operations.specs.Limits.{most_levels}
use Rattle.ir_text_operations.specs.OpReading.{op_at, ops_at}
use Rattle.ir_text_operations.specs.Spelling.{module_word}

-- the contents of a new context: the words of the operation table
abbrev pub new_things : Bool → ContextModel
new_things opaque = record { names = words; types = []; attrs = []; opaque = opaque }

-- parsing the text as one operation with ids from 0 on fills the context
abbrev pub RootFills : List ℕ → ContextModel → Type 0
RootFills bytes c = op_at (free_bound no_types) most_ops most_levels (fresh 0 bytes c) ≡ Full

-- parsing the text as operations up to its end, of at most this depth and with ids from `first` on, fills the context
abbrev pub OpsFill : ℕ → ℕ → List ℕ → ContextModel → Type 0
OpsFill depth first bytes c = ops_at End (op_at (free_bound no_types) most_ops depth) most_ops [] (fresh first bytes c) ≡ Full

-- parsing the text as the operations of a module, after interning the module's name, fills the context
abbrev pub BodyFills : List ℕ → ContextModel → Type 0
BodyFills bytes c = (name_step module_word c ≡ Full) ⊎ OpsFill most_around 1 bytes (with_name module_word c).1

-- one of the ways to parse a text fills a new context
abbrev pub Fills : Bool → List ℕ → Type 0
Fills opaque bytes = RootFills bytes (new_things opaque) ⊎ (BodyFills bytes (new_things opaque) ⊎ OpsFill most_levels 0 bytes (new_things opaque))
