-- The state of a newly opened session.
use Rattle.std.specs.Prelude.{◌≡◌, ℕ, ◌<◌, Bool, List, [], ◌∷◌, length, ◌⊎◌, Option, Some, map, true}
use Rattle.ir_event.specs.types.declared.refusal.Refusal.{Refusal}
use Rattle.ir_event.specs.types.declared.refusal.Refusal.TheVariants.{TooMany}
use Rattle.ir_event.specs.Modules.{Module}
use Rattle.rewriter.specs.Panels.{Shown, all_shown}
use Rattle.mlir_work_analyses.specs.Listeners.{AreSeven, any_analysis}
use Rattle.mlir_work_analyses.specs.declared.any_analysis.AnyAnalysis.{AnyAnalysis}
use Rattle.mlir_work_run.specs.session.Limits.{most_input_bytes}
use Rattle.mlir_work_run.specs.session.Output.{Attaches}
use Rattle.mlir_work_run.specs.session.Registry.{registry_model}
use Rattle.mlir_work_run.specs.Whole.{IsWorldOf, WhyNot}
use Rattle.mlir_work_c.specs.declared.session.Session.{Session}
use Rattle.mlir_work_c.specs.Stepped.{is_opaque, state}

-- the seven analyses were attached in the order of their kinds to an empty list, and none was refused
abbrev pub AllAttached : Bool → List Shown → Type 0
AllAttached opaque panel =
    (boxes : List AnyAnalysis) × (lines : List ℕ) × AreSeven opaque boxes
    × Attaches (all_shown any_analysis boxes) [] panel true lines

-- the module is that of the text, no mark is open, all seven analyses are attached, the pattern registry is empty,
-- and nothing was shown
pub record Opened (opaque : Bool) (text : List ℕ) (limit : ℕ) (s : Session) : Type 0 where
  pub world : IsWorldOf opaque text (state s).held
  pub mode : is_opaque s ≡ opaque
  pub unmarked : (state s).marks ≡ []
  pub attached : AllAttached opaque (state s).panel
  pub empty : registry_model s.registry ≡ []
  pub limit_is : s.limit ≡ limit
  pub counted : s.bytes ≡ length text
  pub shows : s.shows.items ≡ []

-- why no session was opened: the text is too long or malformed, or memory ran out
abbrev pub WhyNotOpened : Bool → List ℕ → Refusal → Option ℕ → Type 0
WhyNotOpened opaque text refusal offset =
    ((most_input_bytes < length text) × (refusal ≡ TooMany) × (offset ≡ Some most_input_bytes))
    ⊎ WhyNot opaque text refusal offset
