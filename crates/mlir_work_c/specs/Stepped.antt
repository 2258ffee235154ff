-- The effect of a line on a session that lives between calls.
use Rattle.std.specs.Prelude.{◌≡◌, ℕ, ◌+◌, Bool, List, [], ◌∷◌, length, true, false, min}
use Rattle.ir_event.specs.types.declared.refusal.Refusal.TheVariants.{BadCommand}
use Rattle.rewriter.specs.RewriterCalls.{state_of}
use Rattle.rewriter.specs.Machine.{State}
use Rattle.mlir_work_analyses.specs.Listeners.{any_analysis, seven_supply}
use Rattle.mlir_work_script.specs.Commands.{Spoken, Nothing, Bad, Obey, Ordered, Registered, line_says}
use Rattle.mlir_work_script_base.specs.Lines.{line_of, after_line}
use Rattle.mlir_work_run.specs.session.Notices.{IsWithin, Notice}
use Rattle.mlir_work_run.specs.session.Output.{Replies, Sitting, session_setting}
use Rattle.mlir_work_run.specs.session.Sittings.{sitting_of}
use Rattle.mlir_work_run.specs.session.declared.options.SessionOptions.{SessionOptions}
use Rattle.mlir_work_c.specs.declared.answer.Answer.{Answer}
use Rattle.mlir_work_c.specs.declared.session.Session.{Session}
use Rattle.mlir_work_c.specs.Answers.{answer_of, nothing, refused}

-- the machine state of a session, and its state with the pattern registry
abbrev pub state : Session → State
state s = state_of any_analysis s.bench

abbrev pub sitting : Session → Sitting
sitting s = sitting_of any_analysis s.bench s.registry

-- the maximum byte count
abbrev pub most_counted : ℕ
most_counted = 18446744073709551615

-- whether unregistered types and attributes are accepted as opaque ones; this doesn't change after the opening
abbrev pub is_opaque : Session → Bool
is_opaque s = s.bench.transaction.ctx.opaque

-- the options for a line: no listings, and the count of the input bytes so far
abbrev pub setting : Session → List ℕ → SessionOptions
setting s line = record {
  brief = true;
  bytes = min (s.bytes + length line) most_counted;
  limit = s.limit;
  ends = false;
  opaque = is_opaque s;
  explain = false;
  strict = false;
}

-- the response is that of the machine, and the answer encodes it
pub record Answered (session_options : SessionOptions) (s : Session) (spoken : Spoken) (a : Answer) (t : Session) : Type 0 where
  pub notice : Notice
  pub replies : Replies (session_setting seven_supply session_options) (sitting s) spoken notice t.shows.items (sitting t)
  pub bounded : IsWithin session_options.bytes notice
  pub reported : a ≡ answer_of notice (length t.shows.items)
  pub counted : t.bytes ≡ session_options.bytes
  pub limit : t.limit ≡ s.limit
  pub mode : is_opaque t ≡ is_opaque s

-- nothing is shown, and nothing else changes
pub record IsLeft (s t : Session) : Type 0 where
  pub sitting : sitting t ≡ sitting s
  pub shows : t.shows.items ≡ []
  pub counted : t.bytes ≡ s.bytes
  pub limit : t.limit ≡ s.limit
  pub mode : is_opaque t ≡ is_opaque s

-- an empty line changes nothing; any other line is answered
abbrev pub Said : SessionOptions → Session → Spoken → Answer → Session → Type 0
Said session_options s Nothing a t = (a ≡ nothing) × IsLeft s t
Said session_options s Bad a t = Answered session_options s Bad a t
Said session_options s (Obey command) a t = Answered session_options s (Obey command) a t
Said session_options s (Ordered session_command) a t = Answered session_options s (Ordered session_command) a t
Said session_options s (Registered session_command) a t = Answered session_options s (Registered session_command) a t

-- the step of a text; the first argument is the text after its first line. A text with more than one line is refused as
-- a bad command
abbrev pub SteppedBefore : List ℕ → Session → List ℕ → Answer → Session → Type 0
SteppedBefore [] s text a t = Said (setting s text) s (line_says (line_of text)) a t
SteppedBefore (b ∷ bs) s text a t = (a ≡ refused BadCommand) × IsLeft s t

abbrev pub Stepped : Session → List ℕ → Answer → Session → Type 0
Stepped s text a t = SteppedBefore (after_line text) s text a t
