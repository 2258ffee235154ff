-- The meaning of each of the seven analyses, and the analysis of each kind.
use Rattle.std.specs.Prelude.{◌≡◌, ℕ, List, [], ◌∷◌, map, filter, ◌==◌, Bool, false, true, Option, Some, None, if◌then◌else◌}
use Rattle.std.specs.List.{list_any}
use Rattle.ir_event.specs.trees.Meaning.{Operation}
use Rattle.ir_event.specs.Rows.{RowTerm}
use Rattle.ir_event.specs.Listener.{Listener}
use Rattle.listeners.specs.Listeners.{uses_listener}
use Rattle.listeners_symbols.specs.Listeners.{symbols_listener}
use Rattle.ir_verify.specs.Listeners.{diagnostics_listener}
use Rattle.effects.specs.Listeners.{effects_listener}
use Rattle.effects.specs.Listeners.{dead_listener}
use Rattle.constants.specs.Listeners.{constants_listener}
use Rattle.listeners.specs.UnreachedListener.{unreached_listener}
use Rattle.listeners.specs.Uses.{uses_rows}
use Rattle.listeners_symbols.specs.Symbols.{symbol_rows}
use Rattle.listeners_symbols.specs.declared.definers.Definers.{Definers}
use Rattle.listeners_symbols.specs.declared.definers.Definers.TheVariants as definers
use Rattle.ir_verify.specs.Diagnostics.{diagnostics_of}
use Rattle.effects.specs.Reports.{effects_rows, dead_rows}
use Rattle.constants.specs.Rows.{constants_rows}
use Rattle.listeners.specs.Unreached.{unreached_rows}
use Rattle.mlir_work_script_base.specs.Kinds.{all_kinds}
use Rattle.rewriter_machine.specs.Panels.{Shown, all_shown}
use Rattle.mlir_work_analyses.specs.declared.any_analysis.AnyAnalysis.{AnyAnalysis}
use Rattle.mlir_work_analyses.specs.declared.any_analysis.AnyAnalysis.TheVariants as code

abbrev pub any_analysis : AnyAnalysis → Listener
any_analysis (code.Uses it) = uses_listener it
any_analysis (code.Symbols it) = symbols_listener it
any_analysis (code.Diagnostics it) = diagnostics_listener it
any_analysis (code.Effects it) = effects_listener it
any_analysis (code.Dead it) = dead_listener it
any_analysis (code.Constants it) = constants_listener it
any_analysis (code.Unreached it) = unreached_listener it

-- which operations may define symbols: the listed ones, or any operation with a symbol name if unregistered types and
-- attributes are accepted, since the module may then have operations of any dialect
abbrev pub definers_of : Bool → Definers
definers_of false = definers.Listed
definers_of true = definers.AnyNamed

-- the observable state of an analysis that hasn't begun
abbrev pub unbegun : ℕ → (Operation → List RowTerm) → Option Shown
unbegun kind analysis = Some (record { kind = kind; analysis = analysis; stale = true })

-- the observable state of a new analysis of each kind
abbrev pub seven_supply : Bool → ℕ → Option Shown
seven_supply opaque kind =
    if kind == 1 then unbegun 1 uses_rows
    else if kind == 2 then unbegun 2 (symbol_rows (definers_of opaque))
    else if kind == 3 then unbegun 3 diagnostics_of
    else if kind == 4 then unbegun 4 effects_rows
    else if kind == 5 then unbegun 5 dead_rows
    else if kind == 6 then unbegun 6 constants_rows
    else if kind == 7 then unbegun 7 unreached_rows
    else None

-- all seven analyses in the order of their kinds; none has begun
abbrev pub AreSeven : Bool → List AnyAnalysis → Type 0
AreSeven opaque all = map Some (all_shown any_analysis all) ≡ map (seven_supply opaque) all_kinds

-- whether a kind is listed
abbrev pub is_listed : List ℕ → ℕ → Bool
is_listed listed kind = list_any (λ k. k == kind) listed

-- the ones of the seven analyses whose kinds are listed, in the order of their kinds; none has begun
abbrev pub AreListed : Bool → List ℕ → List AnyAnalysis → Type 0
AreListed opaque listed all =
    map Some (all_shown any_analysis all) ≡ map (seven_supply opaque) (filter (is_listed listed) all_kinds)

-- one analysis, if it is wanted and there is one
abbrev pub shown_if : Bool → Option Shown → List Shown
shown_if true (Some new) = new ∷ []
shown_if true None = []
shown_if false found = []
