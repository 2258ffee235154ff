-- The output of a script, as a relation: any command may be refused because memory ran out, and a listener may become
-- stale when it is notified of an edit. Everything else is determined.
use Rattle.std.specs.Prelude.{◌≡◌, ℕ, ◌+◌, ◌<◌, ◌≤◌, List, [], ◌∷◌, ◌++◌, length, Bool, true, false, not, ◌&&◌, ◌⊎◌, Option, Some, None, is_none, if◌then◌else◌, codes}
use Rattle.ir_event.specs.types.declared.refusal.Refusal.{Refusal}
use Rattle.ir_event.specs.types.declared.refusal.Refusal.TheVariants.{BadCommand, KindTaken, Memory}
use Rattle.ir_event.specs.Modules.{Module}
use Rattle.ir_event.specs.Rows.{RowTerm}
use Rattle.ir_event.specs.trees.Meaning.{Operation}
use Rattle.ir_text.specs.Printing.{text_of}
use Rattle.mlir_work_transforms.specs.rewriter.Commands.{Command, Report, Print}
use Rattle.mlir_work_transforms.specs.rewriter.Commands.{Replied as Says}
use Rattle.mlir_work_transforms.specs.rewriter.Machine.{State, Refused}
use Rattle.mlir_work_transforms.specs.rewriter.Panels.{Shown, Attached, has_kind}
use Rattle.mlir_work_script.specs.Commands.{Spoken, Nothing, Bad, Obey, Ordered, Registered, line_says}
use Rattle.mlir_work_script.specs.Expecting.{line_expects}
use Rattle.mlir_work_script_base.specs.Limits.{most_script_bytes}
use Rattle.mlir_work_script_base.specs.Lines.{lines_of}
use Rattle.mlir_work_script.specs.SessionCommands.{SessionCommand, PrintIds, ReportOf, ShowAll, ShowFrom, Why}
use Rattle.mlir_work_script.specs.Replies.{refused_line, attach_refused_line, kind_line, stale_line, kind_memory_line, module_memory_line}
use Rattle.mlir_work_transforms.specs.registry.Notices.{IsWithin, Notice, Simple, is_right_under}
use Rattle.mlir_work_transforms.specs.registry.Registry.{RegistryModel}
use Rattle.mlir_work_transforms.specs.registry.Registries.{Registries}
use Rattle.mlir_work_session_base.specs.RowText.{rows_text}
use Rattle.mlir_work_session.specs.Explained.{IsAbout}
use Rattle.mlir_work_session.specs.WhyPatterns.{RunsNamedCommand, asked_pattern}
use Rattle.mlir_work_session.specs.Sittings.{ByRewriter, RunsPatternCommand, registered_pattern_of}
pub use Rattle.mlir_work_transforms.specs.registry.Notices.{is_right}
pub use Rattle.mlir_work_transforms.specs.registry.Explained.{response_lines}
pub use Rattle.mlir_work_transforms.specs.registry.ReplyLines.{reply_text}
pub use Rattle.mlir_work_session.specs.Machine.{SessionSetting, session_setting}
pub use Rattle.mlir_work_session.specs.Sittings.{Sitting, opening}
pub use Rattle.mlir_work_session.specs.declared.options.SessionOptions.{SessionOptions}

-- the status is 1 if some line wasn't right
abbrev pub worse : Bool → ℕ → ℕ
worse accepted status = if accepted then status else 1

-- ---- listings

-- the text of a module, or the line that memory ran out
abbrev pub IsModule : Operation → List ℕ → Type 0
IsModule t out = (out ≡ text_of t) ⊎ (out ≡ module_memory_line)

-- report rows below the heading of their kind, or the line that memory ran out
abbrev pub AreRows : ℕ → List RowTerm → List ℕ → Type 0
AreRows kind rows out = (out ≡ kind_memory_line kind) ⊎ (out ≡ kind_line kind ++ rows_text rows)

-- the report of an analysis: a line that says that it is stale, its rows, or the line that memory ran out
abbrev pub IsKind : Operation → Shown → List ℕ → Type 0
IsKind t k out = ((k.stale ≡ true) × (out ≡ stale_line k.kind)) ⊎ ((k.stale ≡ false) × AreRows k.kind (k.analysis t) out)

-- the reports of all attached analyses, in order
abbrev pub AreKinds : Operation → List Shown → List ℕ → Type 0
AreKinds t [] out = out ≡ []
AreKinds t (k ∷ ks) out = (first : List ℕ) × (rest : List ℕ) × IsKind t k first × AreKinds t ks rest × (out ≡ first ++ rest)

-- a listing: the module and the reports
abbrev pub IsListing : State → List ℕ → Type 0
IsListing s out = (first : List ℕ) × (rest : List ℕ) × IsModule s.held.tree first × AreKinds s.held.tree s.panel rest × (out ≡ first ++ rest)

-- a listing, if the line gets one
abbrev pub IsListingIf : Bool → State → List ℕ → Type 0
IsListingIf true s out = IsListing s out
IsListingIf false s out = out ≡ []

-- ---- lines of a script

abbrev pub says_nothing : Spoken → Bool
says_nothing Nothing = true
says_nothing Bad = false
says_nothing (Obey command) = false
says_nothing (Ordered session_command) = false
says_nothing (Registered session_command) = false

-- whether a command only shows something, so that no listing follows
abbrev pub shows_alone : Command → Bool
shows_alone (Report kind) = true
shows_alone Print = true
shows_alone _ = false

-- the same for session commands; registry commands don't change the module and get no listing either
abbrev pub only_shows : SessionCommand → Bool
only_shows PrintIds = true
only_shows (Why x name) = true
only_shows (ReportOf kind subject) = true
only_shows ShowAll = true
only_shows (ShowFrom x count) = true
only_shows _ = false

abbrev pub asks : Spoken → Bool
asks Nothing = false
asks Bad = false
asks (Obey command) = shows_alone command
asks (Ordered session_command) = only_shows session_command
asks (Registered session_command) = true

-- the response to a line that isn't empty
abbrev pub Replies : SessionSetting → Sitting → Spoken → Notice → List ℕ → Sitting → Type 0
Replies setting s Nothing notice shows t = ⊥
Replies setting s Bad notice shows t = (notice ≡ Simple (Says (Refused BadCommand))) × (shows ≡ []) × (t ≡ s)
Replies setting s (Obey command) notice shows t =
    ByRewriter (λ response u. RunsPatternCommand setting.session_options (registered_pattern_of command s.registry) s.state command response shows u) s notice t
Replies setting s (Ordered session_command) notice shows t =
    ByRewriter (λ response u. RunsNamedCommand setting s.registry (asked_pattern session_command s.registry) s.state session_command response shows u) s notice t
Replies setting s (Registered session_command) notice shows t = Registries session_command s.registry notice shows t.registry × (t.state ≡ s.state)

-- the written answer: the numbered reply with its note, the bytes that it shows, and a listing if the line gets one
abbrev pub IsReplied : Bool → Spoken → Bool → State → ℕ → Option Refusal → Notice → List ℕ → List ℕ → Type 0
IsReplied explain spoken listed t n expected notice shows out =
    (about : List ℕ) × (more : List ℕ) × IsAbout explain notice spoken t.held about × IsListingIf listed t more
    × (out ≡ response_lines n expected notice about ++ (shows ++ more))

-- the empty line after an answer, if `ends` is set
abbrev pub end_of : Bool → List ℕ
end_of true = codes "\n"
end_of false = []

-- an answer that satisfies `P`, followed by its empty line
abbrev pub IsEnded : Bool → (List ℕ → Type 0) → List ℕ → Type 0
IsEnded ends P out = (text : List ℕ) × P text × (out ≡ text ++ end_of ends)

-- a line is answered, and the other lines follow; `expected` is the refusal that the line expects
pub record Replied (Rest : ℕ → Sitting → ℕ → List ℕ → Type 0) (setting : SessionSetting) (n : ℕ) (s : Sitting) (expected : Option Refusal) (spoken : Spoken) (status : ℕ) (out : List ℕ) : Type 0 where
  pub notice : Notice
  pub shows : List ℕ
  pub after : Sitting
  pub text : List ℕ
  pub later : ℕ
  pub rest : List ℕ
  pub replies : Replies setting s spoken notice shows after
  pub replied : IsEnded setting.session_options.ends (IsReplied setting.session_options.explain spoken (not setting.session_options.brief && not (asks spoken)) after.state n expected notice shows) text
  pub full : IsWithin setting.session_options.bytes notice
  pub goes_on : Rest (n + 1) after later rest
  pub status_is : status ≡ worse (is_right_under setting.session_options.strict expected notice shows) later
  pub out_is : out ≡ text ++ rest

abbrev pub Line : (ℕ → Sitting → ℕ → List ℕ → Type 0) → SessionSetting → ℕ → Sitting → Option Refusal → Spoken → ℕ → List ℕ → Type 0
Line Rest setting n s expected Nothing status out = Rest n s status out
Line Rest setting n s expected Bad status out = Replied Rest setting n s expected Bad status out
Line Rest setting n s expected (Obey command) status out = Replied Rest setting n s expected (Obey command) status out
Line Rest setting n s expected (Ordered session_command) status out = Replied Rest setting n s expected (Ordered session_command) status out
Line Rest setting n s expected (Registered session_command) status out = Replied Rest setting n s expected (Registered session_command) status out

-- from state `s`, with `n` as the next number, these lines may give this status and this output
abbrev pub Runs : SessionSetting → ℕ → Sitting → List (List ℕ) → ℕ → List ℕ → Type 0
Runs setting n s [] status out = (status ≡ 0) × (out ≡ [])
Runs setting n s (line ∷ lines) status out = Line (λ m t st o. Runs setting m t lines st o) setting n s (line_expects line) (line_says line) status out

-- ---- the answer to a line

-- a line is answered under the number `n`: `right` says whether the outcome was right, `out` is written, and `t` is
-- the next state
pub record IsLineAnswered (setting : SessionSetting) (n : ℕ) (s : Sitting) (expected : Option Refusal) (spoken : Spoken) (t : Sitting) (right : Bool) (out : List ℕ) : Type 0 where
  pub notice : Notice
  pub shows : List ℕ
  pub something : says_nothing spoken ≡ false
  pub replies : Replies setting s spoken notice shows t
  pub replied : IsEnded setting.session_options.ends (IsReplied setting.session_options.explain spoken (not setting.session_options.brief && not (asks spoken)) t.state n expected notice shows) out
  pub full : IsWithin setting.session_options.bytes notice
  pub right_is : right ≡ is_right_under setting.session_options.strict expected notice shows

-- one step of the machine: an empty line writes nothing, and any other line is answered
abbrev pub IsAnswered : SessionSetting → ℕ → Sitting → Option Refusal → Spoken → Sitting → Option Bool → List ℕ → Type 0
IsAnswered setting n s expected spoken t None out = (says_nothing spoken ≡ true) × (t ≡ s) × (out ≡ [])
IsAnswered setting n s expected spoken t (Some right) out = IsLineAnswered setting n s expected spoken t right out

-- the number of the next reply after a line
abbrev pub number_after : ℕ → Option Bool → ℕ
number_after n None = n
number_after n (Some accepted) = n + 1

-- whether all lines were right, after this line
abbrev pub accepted_after : Bool → Option Bool → Bool
accepted_after accepted None = accepted
accepted_after accepted (Some more) = accepted && more

-- ---- attaching listeners

-- a new listener is attached as the last one, or refused because its kind is attached already or memory ran out
abbrev pub AttachedOrRefused : Shown → List Shown → List Shown → Option Refusal → Type 0
AttachedOrRefused b old new None = (has_kind b.kind old ≡ false) × Attached b old new
AttachedOrRefused b old new (Some KindTaken) = (has_kind b.kind old ≡ true) × (new ≡ old)
AttachedOrRefused b old new (Some Memory) = (has_kind b.kind old ≡ false) × (new ≡ old)
AttachedOrRefused b old new (Some _) = ⊥

-- the error line of a refused listener; an attached listener has none
abbrev pub box_line : ℕ → Option Refusal → List ℕ
box_line kind None = []
box_line kind (Some refusal) = attach_refused_line kind refusal

-- listeners are attached in order: the resulting listeners, whether all were accepted, and the error lines
abbrev pub Attaches : List Shown → List Shown → List Shown → Bool → List ℕ → Type 0
Attaches [] old new accepted out = (new ≡ old) × (accepted ≡ true) × (out ≡ [])
Attaches (b ∷ bs) old new accepted out =
    (mid : List Shown) × (candidates : Option Refusal) × (there : Bool) × (rest : List ℕ)
    × AttachedOrRefused b old mid candidates × Attaches bs mid new there rest × (accepted ≡ (is_none candidates && there)) × (out ≡ box_line b.kind candidates ++ rest)

-- ---- sessions on a parsed module

-- the answer to a module: listeners are attached to an empty list; gives the state at which the script starts,
-- whether all were accepted, and the bytes written
pub record Begun (ends : Bool) (boxes : List Shown) (m : Module) (s : State) (accepted : Bool) (out : List ℕ) : Type 0 where
  pub panel : List Shown
  pub preceding : List ℕ
  pub attached : Attaches boxes [] panel accepted preceding
  pub state_is : s ≡ record { held = m; marks = []; panel = panel }
  pub out_is : out ≡ preceding ++ end_of ends

-- listeners are attached to an empty list, and then the lines of a script run with the user patterns of `start`
pub record Session (setting : SessionSetting) (start : RegistryModel) (boxes : List Shown) (m : Module) (script : List ℕ) (status : ℕ) (out : List ℕ) : Type 0 where
  pub panel : List Shown
  pub accepted : Bool
  pub preceding : List ℕ
  pub later : ℕ
  pub rest : List ℕ
  pub attached : Attaches boxes [] panel accepted preceding
  pub runs : Runs setting 1 (opening start (record { held = m; marks = []; panel = panel })) (lines_of script) later rest
  pub status_is : status ≡ worse accepted later
  pub out_is : out ≡ (preceding ++ end_of setting.session_options.ends) ++ rest

-- a script over the size limit is answered like one bad command
abbrev pub IsBadScript : ℕ → List ℕ → Type 0
IsBadScript status out = (status ≡ 1) × (out ≡ refused_line 1 BadCommand)

-- this status and these bytes are an output of a script on a module, with these user patterns and listeners
abbrev pub IsSession : SessionSetting → RegistryModel → List Shown → Module → List ℕ → ℕ → List ℕ → Type 0
IsSession setting start boxes m script status out =
    ((most_script_bytes < length script) × IsBadScript status out) ⊎ ((length script ≤ most_script_bytes) × Session setting start boxes m script status out)
