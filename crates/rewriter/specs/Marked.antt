-- Opening and closing marks.
use Rattle.std.specs.Prelude.{◌≡◌, ℕ, ◌≤◌, nat_lt, List, [], ◌∷◌, ◌++◌, length, filter, Bool, true, false, Option, Some}
use Rattle.std.specs.Prelude.{None, if◌then◌else◌}
use Rattle.ir_event.specs.types.declared.refusal.Refusal.{Refusal}
use Rattle.ir_event.specs.types.declared.refusal.Refusal.TheVariants.{TooManyMarks}
use Rattle.ir_event.specs.declared.event.Event.{Event}
use Rattle.rewriter_machine.specs.Machine.{most_marks}
use Rattle.rewriter.specs.declared.mark.JournalMark.{JournalMark}
use Rattle.rewriter.specs.Held.{TransactionModel, Within, open_mark, open_marks}

-- how many of these marks count
abbrev pub counted_among : List JournalMark → ℕ
counted_among marks = length (filter (λ k. k.counted) marks)

-- the reason that no mark can be opened: it counts, and the limit of counted marks is reached
abbrev pub mark_reason : Bool → List JournalMark → Option Refusal
mark_reason true marks = if nat_lt (counted_among marks) most_marks then None else Some TooManyMarks
mark_reason false marks = None

-- the transaction with one more mark
abbrev pub with_mark : Bool → TransactionModel → TransactionModel
with_mark counted h = record h { marks = h.marks ++ record { length = length h.journal; counted = counted } ∷ [] }

-- the newest mark
pub record IsNewest (mark : ℕ) (h : TransactionModel) : Type 0 where
  pub rest : List JournalMark
  pub counted : Bool
  pub marks : h.marks ≡ rest ++ record { length = mark; counted = counted } ∷ []
  pub above : Within mark h.marks
  pub within : mark ≤ length h.journal

-- the journal that is kept under these marks
abbrev pub kept : List JournalMark → List Event → List Event
kept [] es = []
kept (k ∷ ks) es = es

-- the newest mark was closed
pub record Closed (old new : TransactionModel) : Type 0 where
  pub mark : JournalMark
  pub held : new ≡ record { ctx = old.ctx; store = old.store; journal = kept new.marks old.journal; marks = new.marks }
  pub marks : old.marks ≡ new.marks ++ mark ∷ []
  pub marked : open_marks old ≡ open_mark old mark ∷ open_marks new
