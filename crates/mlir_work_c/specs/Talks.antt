-- Lines that run one after another in a session, and the output of a whole run for them.
use Rattle.std.specs.Prelude.{◌≡◌, ℕ, ◌+◌, Bool, List, [], ◌∷◌, ◌++◌, length, ◌⊎◌, true, false, Option}
use Rattle.ir_event.specs.types.declared.refusal.Refusal.{Refusal}
use Rattle.rewriter.specs.Panels.{all_shown}
use Rattle.mlir_work_analyses.specs.Listeners.{AreSeven, any_analysis, seven_supply}
use Rattle.mlir_work_analyses.specs.declared.any_analysis.AnyAnalysis.{AnyAnalysis}
use Rattle.mlir_work_script.specs.Expecting.{line_expects}
use Rattle.mlir_work_script_base.specs.Lines.{line_of}
use Rattle.mlir_work_run.specs.session.Notices.{Notice}
use Rattle.mlir_work_run.specs.session.Output.{is_right, reply_text, worse}
use Rattle.mlir_work_run.specs.Whole.{IsOutput, setting_of}
use Rattle.mlir_work_run.specs.declared.run.Options.{Options}
use Rattle.mlir_work_c.specs.Answers.{answer_of, nothing}
use Rattle.mlir_work_c.specs.Stepped.{Stepped}
use Rattle.mlir_work_c.specs.declared.answer.Answer.{Answer}
use Rattle.mlir_work_c.specs.declared.session.Session.{Session}

-- the refusal that a line expects, its answer, and the bytes that it shows
pub record AnsweredLine : Type 0 where
  pub expected : Option Refusal
  pub answer : Answer
  pub shows : List ℕ

-- the record of a line that was answered in a session which is then `t`
abbrev pub reported_of : List ℕ → Answer → Session → AnsweredLine
reported_of line a t = record { expected = line_expects (line_of line); answer = a; shows = t.shows.items }

-- these lines run one after another in session `s` and get these answers
abbrev pub Talks : Session → List (List ℕ) → List AnsweredLine → Type 0
Talks s [] reported = reported ≡ []
Talks s (line ∷ lines) reported =
    (a : Answer) × (t : Session) × (rest : List AnsweredLine)
    × Stepped s line a t × Talks t lines rest × (reported ≡ reported_of line a t ∷ rest)

-- an answer with the number `n` is written so, and the rest follows; the answer to an empty line isn't written or
-- counted, and any other answer is the line of its reply and the bytes that it shows
pub record IsWritten (Rest : ℕ → ℕ → List ℕ → Type 0) (n : ℕ) (reported : AnsweredLine) (status : ℕ) (out : List ℕ) : Type 0 where
  pub notice : Notice
  pub later : ℕ
  pub rest : List ℕ
  pub answered : reported.answer ≡ answer_of notice (length reported.shows)
  pub goes_on : Rest (n + 1) later rest
  pub status_is : status ≡ worse (is_right reported.expected notice) later
  pub out_is : out ≡ (reply_text n reported.expected notice ++ reported.shows) ++ rest

-- these answers, the first with the number `n`, are written so and give this status
abbrev pub AreWritten : ℕ → List AnsweredLine → ℕ → List ℕ → Type 0
AreWritten n [] status out = (status ≡ 0) × (out ≡ [])
AreWritten n (reported ∷ more) status out =
    ((reported.answer ≡ nothing) × AreWritten n more status out)
    ⊎ IsWritten (λ m st o. AreWritten m more st o) n reported status out

-- the options of a whole run on the same input: no listings, and no empty line after an answer
abbrev pub briefly : Bool → ℕ → Options
briefly opaque limit = record { brief = true; limit = limit; ends = false; opaque = opaque; explain = false; strict = false }

-- the text of these answers is an output of the input, with the seven analyses
abbrev pub IsOutputOf : Bool → ℕ → List ℕ → List AnsweredLine → Type 0
IsOutputOf opaque limit input reported =
    (boxes : List AnyAnalysis) × (status : ℕ) × (out : List ℕ)
    × AreSeven opaque boxes
    × AreWritten 1 reported status out
    × IsOutput (setting_of seven_supply (briefly opaque limit)) (all_shown any_analysis boxes) input status out
