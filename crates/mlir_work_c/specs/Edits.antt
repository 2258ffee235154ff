-- The effect of edits by number, and of marks, on a session and on a handle.
use Rattle.std.specs.Prelude.{◌≡◌, ℕ, [], Option, Some, None}
use Rattle.ir_event.specs.types.declared.refusal.Refusal.TheVariants.{BadCommand}
use Rattle.rewriter.specs.Points.{Point}
use Rattle.rewriter.specs.Commands.{Command, Move, Response}
use Rattle.mlir_work_script.specs.Commands.{Obey}
use Rattle.mlir_work_c.specs.Answers.{refused, replied_of}
use Rattle.mlir_work_c.specs.Stepped.{Answered, setting}
use Rattle.mlir_work_c.specs.declared.answer.Answer.{Answer}
use Rattle.mlir_work_c.specs.declared.session.Session.{Session}
use Rattle.mlir_work_c.specs.Calls.{Goes}

-- an edit got this response: it is answered, nothing is shown, and nothing else changes
pub record IsReplied (response : Response) (s : Session) (a : Answer) (t : Session) : Type 0 where
  pub reported : a ≡ replied_of response 0
  pub bench : t.bench ≡ s.bench
  pub registry : t.registry ≡ s.registry
  pub shows : t.shows.items ≡ []
  pub counted : t.bytes ≡ (setting s []).bytes
  pub limit : t.limit ≡ s.limit

-- a command has the effect that the machine gives it; it has no input bytes
abbrev pub EditGoes : Option Session → Command → Answer → Option Session → Type 0
EditGoes old command a new = Goes (λ s b t. Answered (setting s []) s (Obey command) b t) old a new

-- an operation is moved to an insertion point; an unknown insertion point changes nothing
abbrev pub Moves : ℕ → Option Point → Session → Answer → Session → Type 0
Moves op None s a t = (a ≡ refused BadCommand) × (t ≡ s)
Moves op (Some point) s a t = Answered (setting s []) s (Obey (Move op point)) a t

abbrev pub MoveGoes : Option Session → ℕ → Option Point → Answer → Option Session → Type 0
MoveGoes old op point a new = Goes (λ s b t. Moves op point s b t) old a new
