-- The output of an input: the text of a module and a script.
use Rattle.std.specs.Prelude.{◌≡◌, ℕ, ◌++◌, Bool, true, false, ◌<◌, ◌≤◌, List, [], ◌⊎◌, Option, Some, None, length, codes}
use Rattle.std.specs.Fmt.{decimal}
use Rattle.ir_event.specs.types.Refusals.{number_of, text_of}
use Rattle.ir_event.specs.types.declared.refusal.Refusal.{Refusal}
use Rattle.ir_event.specs.types.declared.refusal.Refusal.TheVariants.{LeftOut, TooMany, Memory}
use Rattle.ir_event.specs.trees.Ids.{op_count}
use Rattle.ir_event.specs.trees.Meaning.{Operation}
use Rattle.ir_event.specs.Modules.{Module}
use Rattle.ir_text_modules.specs.Modules.{SpellsModule}
use Rattle.mlir_work_notes.specs.Unsupported.{unsupported_at, construct_word}
use Rattle.mlir_work_notes.specs.declared.unsupported.UnsupportedConstruct.{UnsupportedConstruct}
use Rattle.mlir_work_session.specs.Parts.{module_text, script_text}
use Rattle.mlir_work_session.specs.Replies.{module_refused_line}
use Rattle.mlir_work_session.specs.Limits.{most_input_bytes}
use Rattle.mlir_work_session.specs.Panels.{Shown}
use Rattle.mlir_work_session.specs.Registry.{RegistryModel}
use Rattle.mlir_work_session.specs.Output.{IsSession, SessionSetting, session_setting}
use Rattle.mlir_work_session.specs.declared.options.SessionOptions.{SessionOptions}
use Rattle.mlir_work_run.specs.declared.run.Options.{Options}

-- the unsupported MLIR construct at the byte at which a module's text was refused, if that is the reason
abbrev pub module_construct : List ℕ → Refusal → Option ℕ → Option UnsupportedConstruct
module_construct text LeftOut None = None
module_construct text LeftOut (Some offset) = Some (unsupported_at text offset)
module_construct text _ offset = None

-- the construct, if `explain` is set
abbrev pub construct_if : Bool → Option UnsupportedConstruct → Option UnsupportedConstruct
construct_if explain None = None
construct_if true (Some unsupported) = Some unsupported
construct_if false (Some unsupported) = None

-- the line for a refused module, with a note on the unsupported construct if there is one
abbrev pub module_refused_text : Refusal → Option ℕ → Option UnsupportedConstruct → List ℕ
module_refused_text refusal offset None = module_refused_line refusal offset
module_refused_text refusal None (Some unsupported) = module_refused_line refusal None
module_refused_text refusal (Some offset) (Some unsupported) =
    codes "module refused " ++ (text_of refusal ++ (codes " at " ++ (decimal offset
    ++ (codes " about " ++ (construct_word unsupported ++ codes "\n")))))

-- the module is refused
abbrev pub IsRefusal : Refusal → Option ℕ → Option UnsupportedConstruct → ℕ → List ℕ → Type 0
IsRefusal refusal offset unsupported status out = (status ≡ 3) × (out ≡ module_refused_text refusal offset unsupported)

-- why a text can't be parsed: memory ran out, or the text spells no tree and is refused at an offset with one of
-- fourteen refusals. The context is new, and no text fills it. With `opaque`, here and below, unregistered types and
-- attributes are stored as their texts, and aliases and locations are allowed
abbrev pub WhyNot : Bool → List ℕ → Refusal → Option ℕ → Type 0
WhyNot opaque text refusal None = refusal ≡ Memory
WhyNot opaque text refusal (Some offset) = (number_of refusal ≤ 14) × ((y : Operation) → SpellsModule opaque text y → ⊥)

-- the text is refused so, with a note if `explain` is set; the refusal among the fourteen, and the offset, are not
-- specified
abbrev pub IsUnparsed : Bool → Bool → List ℕ → ℕ → List ℕ → Type 0
IsUnparsed explain opaque text status out =
    (refusal : Refusal) × (offset : Option ℕ) × WhyNot opaque text refusal offset
    × IsRefusal refusal offset (construct_if explain (module_construct text refusal offset)) status out

-- the module of the tree that a text spells
abbrev pub IsWorldOf : Bool → List ℕ → Module → Type 0
IsWorldOf opaque text m = (t : Operation) × SpellsModule opaque text t × (m ≡ record { tree = t; next = op_count t })

-- the input has too many bytes
abbrev pub IsTooMany : List ℕ → ℕ → List ℕ → Type 0
IsTooMany input status out = (most_input_bytes < length input) × IsRefusal TooMany (Some most_input_bytes) None status out

-- the session options for an input of so many bytes
abbrev pub session_options_of : Options → ℕ → SessionOptions
session_options_of options bytes = record {
  brief = options.brief;
  bytes = bytes;
  limit = options.limit;
  ends = options.ends;
  opaque = options.opaque;
  explain = options.explain;
  strict = options.strict;
}

-- the options of a run, the observable state of a new analysis of each kind, and the initial user patterns
pub record Setting : Type 0 where
  pub options : Options
  pub supply : Bool → ℕ → Option Shown
  pub start : RegistryModel

abbrev pub setting_with : (Bool → ℕ → Option Shown) → Options → RegistryModel → Setting
setting_with supply options start = record { options = options; supply = supply; start = start }

-- the same without user patterns
abbrev pub setting_of : (Bool → ℕ → Option Shown) → Options → Setting
setting_of supply options = setting_with supply options []

abbrev pub session_setting_at : Setting → ℕ → SessionSetting
session_setting_at setting bytes = session_setting setting.supply (session_options_of setting.options bytes)

-- the text spells a tree; listeners are attached to its module, and the script runs on it
abbrev pub IsRead : Setting → List Shown → List ℕ → ℕ → List ℕ → Type 0
IsRead setting boxes input status out =
    (m : Module) × IsWorldOf setting.options.opaque (module_text input) m
    × IsSession (session_setting_at setting (length input)) setting.start boxes m (script_text input) status out

-- this status and these bytes are an output of the input, with these listeners; an oversized input has only one
-- output
abbrev pub IsOutput : Setting → List Shown → List ℕ → ℕ → List ℕ → Type 0
IsOutput setting boxes input status out =
    IsTooMany input status out
    ⊎ ((length input ≤ most_input_bytes)
    × (IsUnparsed setting.options.explain setting.options.opaque (module_text input) status out
    ⊎ IsRead setting boxes input status out))
