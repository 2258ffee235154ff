-- The effect of a command or a session command on the rewriter, by the machine, and the bytes that it shows.
use Rattle.std.specs.Prelude.{◌≡◌, ℕ, List, [], Bool, true, false, Option, Some, None, ⊤}
use Rattle.ir_event.specs.types.declared.refusal.Refusal.TheVariants.{NoSuchKey, NoSuchKind, NoSuchOp}
use Rattle.ir_event.specs.Modules.{Module}
use Rattle.ir_text.specs.Printing.{text_of}
use Rattle.ir_text.specs.Public.{SpellsAttr}
use Rattle.mlir_work_transforms.specs.rewriter.Texts.{SpellsNextTo}
use Rattle.mlir_work_transforms.specs.rewriter.Commands.{AppliesRule, Apply, Canon, Command, Convert, Requested, Target}
use Rattle.mlir_work_transforms.specs.rewriter.Commands.{Ask, Asks, Misplaced, Response, Replied, Follows}
use Rattle.mlir_work_transforms.specs.rewriter.Machine.{IsFullSo}
use Rattle.mlir_work_transforms.specs.rewriter.Machine.{Reply as Answered, Shows, Nothing, Rows, Transformation, Tree}
use Rattle.mlir_work_transforms.specs.rewriter.Machine as call
use Rattle.mlir_work_transforms.specs.rewriter.Panels.{Shown}
pub use Rattle.mlir_work_transforms.specs.rewriter.Machine.{State}
pub use Rattle.mlir_work_transforms.specs.registry.Replies.{response_of}
use Rattle.mlir_work_transforms.specs.registry.Replies.{is_accepted}
use Rattle.mlir_work_script.specs.SessionCommands.{Attach, CanonAt, Fired, SessionCommand, PrintIds, Rewrite, ShowAll, ShowFrom, Trace, TraceConvert, Why, ReportOf}
use Rattle.ir_event.specs.declared.subject.Subject.{Subject}
use Rattle.mlir_work_transforms.specs.greedy.Changes.{canonicalizing}
use Rattle.mlir_work_transforms.specs.ConvertText.{conversion_text}
use Rattle.mlir_work_transforms.specs.Converting.{command_aim, conversion}
use Rattle.mlir_work_transforms.specs.Applying.{application}
use Rattle.mlir_work_transforms.specs.Rewriting.{rewriting_named}
use Rattle.mlir_work_transforms.specs.Sweep.{sweeping}
use Rattle.mlir_work_transforms.specs.TraceText.{trace_by, traced_rules, tracing}
use Rattle.mlir_work_transforms.specs.FiredText.{fired_by}
use Rattle.mlir_work_transforms.specs.At.{canonicalizing_at}
use Rattle.mlir_work_transforms.specs.WhyText.{requested_rules, why_text}
use Rattle.mlir_work_transforms.specs.Rule.{Rule}
use Rattle.ir_event.specs.trees.Ids.{has_id}
use Rattle.ir_event.specs.trees.Meaning.{Operation}
use Rattle.mlir_work_session_base.specs.IdsText.{ids_text}
use Rattle.mlir_work_session_base.specs.OperationObjects.{all_objects_text, page_text}
use Rattle.mlir_work_session_base.specs.RowText.{rows_text}
use Rattle.ir_event.specs.Subjects.{absent, is_there, rows_about}
use Rattle.mlir_work_session.specs.declared.options.SessionOptions.{SessionOptions}

-- the bytes that are shown below a reply
abbrev pub shows_text : Shows → List ℕ
shows_text Nothing = []
shows_text (Rows rows) = rows_text rows
shows_text (Tree t) = text_of t

-- the rewrite limit of a command: its own, or the default
abbrev pub limit_or : ℕ → Option ℕ → ℕ
limit_or default None = default
limit_or default (Some limit) = limit

-- the machine call that a command makes in a module under these options
abbrev pub AsksIn : SessionOptions → Command → Module → Requested → Type 0
AsksIn options = Asks options.bytes (SpellsNextTo options.opaque) (SpellsAttr options.opaque)
    (λ limit. canonicalizing (limit_or options.limit limit)) conversion sweeping
    application

-- from state `s` a command may get this response, with these bytes below the reply, and lead to state `t`
pub record RunsCommand (options : SessionOptions) (s : State) (command : Command) (response : Response) (bytes : List ℕ) (t : State) : Type 0 where
  pub requested : Requested
  pub shows : Shows
  pub asks : AsksIn options command s.held requested
  pub follows : Follows s requested response shows t
  pub text : bytes ≡ shows_text shows

-- ---- session commands

-- the options of a session, and the observable state of a new analysis of each kind, if the kind has one
pub record SessionSetting : Type 0 where
  pub session_options : SessionOptions
  pub supply : ℕ → Option Shown

abbrev pub session_setting : (Bool → ℕ → Option Shown) → SessionOptions → SessionSetting
session_setting supply options = record { session_options = options; supply = supply options.opaque }

-- `attach` attaches the analysis of the kind; a kind without an analysis is refused with `NoSuchKind`
abbrev pub AttachesKind : Option Shown → Requested → Type 0
AttachesKind None requested = requested ≡ Misplaced NoSuchKind
AttachesKind (Some a) requested = requested ≡ Ask (call.Attach a)

-- `why` asks why rules don't match at an operation; a name that isn't a rule's is refused with `NoSuchKey`, and a
-- missing operation with `NoSuchOp`
abbrev pub AsksWhy : Option (List Rule) → Bool → Requested → Type 0
AsksWhy None there requested = requested ≡ Misplaced NoSuchKey
AsksWhy (Some rules) false requested = requested ≡ Misplaced NoSuchOp
AsksWhy (Some rules) true requested = requested ≡ Ask call.Print

-- `report` of a kind about a subject; a missing subject is refused
abbrev pub AsksAbout : Bool → ℕ → Subject → Requested → Type 0
AsksAbout true kind subject requested = requested ≡ Ask (call.Report kind)
AsksAbout false kind subject requested = requested ≡ Misplaced (absent subject)

-- `show` of an operation; a missing operation is refused with `NoSuchOp`
abbrev pub AsksFrom : Bool → Requested → Type 0
AsksFrom true requested = requested ≡ Ask call.Print
AsksFrom false requested = requested ≡ Misplaced NoSuchOp

-- the machine call that a session command makes in a module
abbrev pub SessionCommandAsks : SessionSetting → SessionCommand → Module → Requested → Type 0
SessionCommandAsks setting (Attach kind) m requested = AttachesKind (setting.supply kind) requested
SessionCommandAsks setting PrintIds m requested = requested ≡ Ask call.Print
SessionCommandAsks setting (Rewrite names proved limit) m requested = AppliesRule (rewriting_named names (limit_or setting.session_options.limit limit)) requested
SessionCommandAsks setting (Trace names proved limit) m requested = AppliesRule (tracing names (limit_or setting.session_options.limit limit)) requested
SessionCommandAsks setting (Fired names proved limit) m requested = AppliesRule (tracing names (limit_or setting.session_options.limit limit)) requested
SessionCommandAsks setting (TraceConvert target) m requested = requested ≡ Ask (call.Change (conversion target))
SessionCommandAsks setting (CanonAt x limit) m requested =
    requested ≡ Ask (call.Change (canonicalizing_at (limit_or setting.session_options.limit limit) x))
SessionCommandAsks setting (Why x name) m requested = AsksWhy (requested_rules name x m) (has_id x m.tree) requested
SessionCommandAsks setting ShowAll m requested = requested ≡ Ask call.Print
SessionCommandAsks setting (ShowFrom x count) m requested = AsksFrom (has_id x m.tree) requested
SessionCommandAsks setting (ReportOf kind subject) m requested = AsksAbout (is_there subject m.tree) kind subject requested

-- the bytes of what the machine shows; a module is shown with the ids of its operations
abbrev pub session_command_shows : Shows → List ℕ
session_command_shows Nothing = []
session_command_shows (Rows rows) = rows_text rows
session_command_shows (Tree t) = ids_text t

-- the report rows about an operation or a value
abbrev pub shows_about : Subject → Shows → Shows
shows_about subject Nothing = Nothing
shows_about subject (Rows rows) = Rows (rows_about subject rows)
shows_about subject (Tree t) = Tree t

-- the bytes of what the machine shows; `text` is that of a module
abbrev pub shows_by : (Operation → List ℕ) → Shows → List ℕ
shows_by text Nothing = []
shows_by text (Rows rows) = rows_text rows
shows_by text (Tree t) = text t

-- the bytes if the condition holds, and none otherwise
abbrev pub bytes_if : Bool → List ℕ → List ℕ
bytes_if true bytes = bytes
bytes_if false bytes = []

-- the trace of a conversion below its response
abbrev pub converted_bytes : Target → Module → Response → List ℕ
converted_bytes target m (Replied reply) = conversion_text (command_aim target) m reply
converted_bytes target m _ = []

-- the bytes below the reply to a session command: what the machine shows, the trace of an accepted rewrite, the counts
-- of a rewrite that stopped by its limit, or the reasons why rules don't match
abbrev pub session_command_bytes : SessionSetting → SessionCommand → Module → Response → Shows → List ℕ
session_command_bytes setting (Attach kind) m response shows = session_command_shows shows
session_command_bytes setting PrintIds m response shows = session_command_shows shows
session_command_bytes setting (ReportOf kind subject) m response shows = session_command_shows (shows_about subject shows)
session_command_bytes setting (Rewrite names proved limit) m response shows = session_command_shows shows
session_command_bytes setting (Trace names proved limit) m response shows =
    bytes_if (is_accepted response) (trace_by (traced_rules names) (limit_or setting.session_options.limit limit) m)
session_command_bytes setting (Fired names proved limit) m response shows =
    fired_by (traced_rules names) (limit_or setting.session_options.limit limit) m response
session_command_bytes setting (TraceConvert target) m response shows = converted_bytes target m response
session_command_bytes setting (CanonAt x limit) m response shows = session_command_shows shows
session_command_bytes setting ShowAll m response shows = shows_by all_objects_text shows
session_command_bytes setting (ShowFrom x count) m response shows = shows_by (page_text x count) shows
session_command_bytes setting (Why x name) m response shows = bytes_if (is_accepted response) (why_text (requested_rules name x m) x m)

-- from state `s` a session command may get this response, with these bytes below the reply, and lead to state `t`
pub record RunsSessionCommand (setting : SessionSetting) (s : State) (session_command : SessionCommand) (response : Response) (bytes : List ℕ) (t : State) : Type 0 where
  pub requested : Requested
  pub shows : Shows
  pub asks : SessionCommandAsks setting session_command s.held requested
  pub follows : Follows s requested response shows t
  pub text : bytes ≡ session_command_bytes setting session_command s.held response shows

-- ---- refusals because the context is full

-- if a rewriting command is refused with 31, then the module requires it, or `full` holds (the context is full);
-- other commands are refused with 31 only if the module requires it
abbrev pub IsContextFull : Type 0 → State → Transformation → Response → Type 0
IsContextFull full s f response = (reply : Answered) → response ≡ Replied reply → IsFullSo full s f reply

abbrev pub AsksHeadroom : Type 0 → SessionOptions → State → Command → Response → Type 0
AsksHeadroom full options s (Canon limit) response = IsContextFull full s (canonicalizing (limit_or options.limit limit)) response
AsksHeadroom full options s (Convert target) response = IsContextFull full s (conversion target) response
AsksHeadroom full options s (Apply name x) response =
    (f : Transformation) → application name x ≡ Some f → IsContextFull full s f response
AsksHeadroom full options s _ response = ⊤

-- the same for session commands
abbrev pub SessionCommandHeadroom : Type 0 → SessionSetting → State → SessionCommand → Response → Type 0
SessionCommandHeadroom full setting s (Rewrite names proved limit) response =
    (f : Transformation) → rewriting_named names (limit_or setting.session_options.limit limit) ≡ Some f → IsContextFull full s f response
SessionCommandHeadroom full setting s (Trace names proved limit) response =
    (f : Transformation) → tracing names (limit_or setting.session_options.limit limit) ≡ Some f → IsContextFull full s f response
SessionCommandHeadroom full setting s (Fired names proved limit) response =
    (f : Transformation) → tracing names (limit_or setting.session_options.limit limit) ≡ Some f → IsContextFull full s f response
SessionCommandHeadroom full setting s (TraceConvert target) response = IsContextFull full s (conversion target) response
SessionCommandHeadroom full setting s (CanonAt x limit) response =
    IsContextFull full s (canonicalizing_at (limit_or setting.session_options.limit limit) x) response
SessionCommandHeadroom full setting s _ response = ⊤
