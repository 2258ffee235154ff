-- The machine: the states of a rewriter, and the effect of each call, as a relation. Memory may be refused, and an
-- analysis may become stale when it is notified of an edit. Everything else is determined.
use Rattle.std.specs.Prelude.{◌≡◌, ℕ, nat_lt, length, List, [], ◌∷◌, Bool, true, false, ◌⊎◌, Option, Some, None, Result}
use Rattle.std.specs.Prelude.{Ok, Err, if◌then◌else◌, filter, IsTrue}
use Rattle.std.specs.List.{find}
use Rattle.ir_event.specs.types.declared.refusal.Refusal.{Refusal}
use Rattle.ir_event.specs.types.declared.refusal.Refusal.TheVariants.{Full, Memory, Stale, NoSuchKind, KindTaken}
use Rattle.ir_event.specs.types.declared.refusal.Refusal.TheVariants.{TooManyMarks, NoMark}
use Rattle.ir_event.specs.trees.Tree.{head}
use Rattle.ir_event.specs.trees.Meaning.{Operation}
use Rattle.ir_event.specs.Modules.{Module}
use Rattle.ir_event.specs.Rows.{RowTerm}
use Rattle.rewriter_machine.specs.Edits.{Insert, Make, Erase, Move, SetOperand, Replace, SetAttr, DropAttr}
use Rattle.rewriter_machine.specs.Contents.{Edit, edited, edit_reason}
use Rattle.rewriter_machine.specs.Panels.{Shown, AllAge, has_kind, is_kind, Attached, Detached, BegunAgain}

-- ---- states

-- an open mark: the module when the mark was opened, and whether the mark counts towards the limit
pub record OpenMark : Type 0 where
  pub marked : Module
  pub counted : Bool

-- the module, with names, types and attributes instead of ids; the open marks, newest first; the attached analyses in
-- order
pub record State : Type 0 where
  pub held : Module
  pub marks : List OpenMark
  pub panel : List Shown

-- the limit of counted marks
abbrev pub most_marks : ℕ
most_marks = 16

abbrev pub counted_marks : List OpenMark → ℕ
counted_marks marks = length (filter (λ k. k.counted) marks)

-- ---- transformations: atomic changes of several edits

-- the outcome of a transformation
pub data Outcome : Type 0 where
  -- this many operations were swept
  Swept : ℕ → Outcome
  -- this many rewrites were made, and no rule applies any more
  Converged : ℕ → Outcome
  -- this many rewrites were made, which is the limit
  Limited : ℕ → Outcome
  -- this many rules of a conversion were kept
  Converted : ℕ → Outcome
  -- the number of times that a rule was applied: one or zero
  Applied : ℕ → Outcome

-- the reason that a transformation is refused, and the operation concerned, if there is one
pub record Fault : Type 0 where
  pub refusal : Refusal
  pub op : Option ℕ

-- a transformation
pub record Transformation : Type 0 where
  -- the outcome and the module after it; or the reason for a refusal
  pub transformed : Module → Result (Outcome × Module) Fault
  -- whether it interns names, types or attributes, and so may be refused because the context is full, which the module
  -- doesn't show
  pub interns : Bool

-- ---- calls and answers

-- a call
pub data Call : Type 0 where
  -- an edit
  Do : Edit → Call
  -- a transformation
  Change : Transformation → Call
  -- opens a mark of the current module, counted or not
  Mark : Call
  Step : Call
  -- closes the newest mark, and keeps the module or restores the marked one
  Commit : Call
  Rollback : Call
  -- attaches an analysis; detaches the one of a kind, restarts it, or reads its rows
  Attach : Shown → Call
  Detach : ℕ → Call
  Resync : ℕ → Call
  Report : ℕ → Call
  -- prints the module
  Print : Call

-- a reply: accepted, accepted with the id of a new operation or with the outcome of a transformation, refused, or
-- refused because of an operation
pub data Reply : Type 0 where
  Done : Reply
  DoneAs : ℕ → Reply
  DoneWith : Outcome → Reply
  Refused : Refusal → Reply
  RefusedOn : Refusal → ℕ → Reply

-- the output of a call: nothing, rows, or the module's tree
pub data Shows : Type 0 where
  Nothing : Shows
  Rows : List RowTerm → Shows
  Tree : Operation → Shows

-- a reply, the output, and the module and the marks after the call
pub record Answer : Type 0 where
  pub reply : Reply
  pub shows : Shows
  pub held : Module
  pub marks : List OpenMark

-- a refusal leaves the module and the marks unchanged
abbrev pub refused : Refusal → State → Answer
refused refusal s = record { reply = Refused refusal; shows = Nothing; held = s.held; marks = s.marks }

-- accepted, with this module and these marks after it
abbrev pub done : Module → List OpenMark → Answer
done m marks = record { reply = Done; shows = Nothing; held = m; marks = marks }

-- accepted, with output, and nothing changed
abbrev pub showing : Shows → State → Answer
showing shows s = record { reply = Done; shows = shows; held = s.held; marks = s.marks }

-- ---- the specified answer

-- the reply to an accepted edit: with the new id, if it inserts an operation
abbrev pub accepted : Edit → Module → Reply
accepted (Insert place o) m = DoneAs (head o).id
accepted (Make place o) m = DoneAs m.next
accepted (Erase x) m = Done
accepted (Move x place) m = Done
accepted (SetOperand x k v) m = Done
accepted (Replace old new) m = Done
accepted (SetAttr x k a) m = Done
accepted (DropAttr x k) m = Done

-- an edit is refused for its reason, if there is one
abbrev pub due_edit : Option Refusal → Edit → State → Answer
due_edit None e s = record { reply = accepted e s.held; shows = Nothing; held = edited e s.held; marks = s.marks }
due_edit (Some refusal) e s = refused refusal s

-- the reply to a fault
abbrev pub fault_reply : Refusal → Option ℕ → Reply
fault_reply refusal None = Refused refusal
fault_reply refusal (Some x) = RefusedOn refusal x

-- a transformation is made, or refused
abbrev pub due_change : Result (Outcome × Module) Fault → State → Answer
due_change (Ok made) s = record { reply = DoneWith made.0; shows = Nothing; held = made.1; marks = s.marks }
due_change (Err fault) s =
    record { reply = fault_reply fault.refusal fault.op; shows = Nothing; held = s.held; marks = s.marks }

-- the module unchanged, with one more mark
abbrev pub marked : Bool → State → Answer
marked counted s = done s.held (record { marked = s.held; counted = counted } ∷ s.marks)

abbrev pub due_commit : List OpenMark → State → Answer
due_commit [] s = refused NoMark s
due_commit (k ∷ ks) s = done s.held ks

abbrev pub due_rollback : List OpenMark → State → Answer
due_rollback [] s = refused NoMark s
due_rollback (k ∷ ks) s = done k.marked ks

-- the rows of an analysis, if it is attached and isn't stale
abbrev pub due_report : Option Shown → State → Answer
due_report None s = refused NoSuchKind s
due_report (Some a) s = if a.stale then refused Stale s else showing (Rows (a.analysis s.held.tree)) s

-- the answer to a call if memory is never refused
abbrev pub due : State → Call → Answer
due s (Do e) = due_edit (edit_reason e s.held) e s
due s (Change f) = due_change (f.transformed s.held) s
due s Mark = if nat_lt (counted_marks s.marks) most_marks then marked true s else refused TooManyMarks s
due s Step = marked false s
due s Commit = due_commit s.marks s
due s Rollback = due_rollback s.marks s
due s (Attach a) = if has_kind a.kind s.panel then refused KindTaken s else showing Nothing s
due s (Detach kind) = if has_kind kind s.panel then showing Nothing s else refused NoSuchKind s
due s (Resync kind) = if has_kind kind s.panel then showing Nothing s else refused NoSuchKind s
due s (Report kind) = due_report (find (is_kind kind) s.panel) s
due s Print = showing (Tree s.held.tree) s

-- ---- memory

-- whether an edit needs memory even if no mark is open
abbrev pub grows : Edit → Bool
grows (Insert place o) = true
grows (Make place o) = true
grows (Erase x) = false
grows (Move x place) = false
grows (SetOperand x k v) = false
grows (Replace old new) = false
grows (SetAttr x k a) = true
grows (DropAttr x k) = true

-- the same with these marks open: if there is one, every edit is recorded
abbrev pub grows_under : List OpenMark → Edit → Bool
grows_under [] e = grows e
grows_under (k ∷ ks) e = true

-- whether a call may be refused because memory ran out
abbrev pub takes_memory : State → Call → Bool
takes_memory s (Do e) = grows_under s.marks e
takes_memory s (Change f) = true
takes_memory s Mark = true
takes_memory s Step = true
takes_memory s Commit = false
takes_memory s Rollback = false
takes_memory s (Attach a) = true
takes_memory s (Detach kind) = false
takes_memory s (Resync kind) = true
takes_memory s (Report kind) = true
takes_memory s Print = true

-- a call is refused because memory ran out, or, if it interns names, types or attributes, because the context is full
abbrev pub IsUnmade : State → Call → Answer → Type 0
IsUnmade s (Change f) a = (a ≡ refused Memory s) ⊎ (IsTrue f.interns × (a ≡ refused Full s))
IsUnmade s _ a = a ≡ refused Memory s

-- if a transformation is refused with 31, that is the specified answer, or `full` holds, which says that the context is
-- full
abbrev pub IsFullSo : Type 0 → State → Transformation → Reply → Type 0
IsFullSo full s f reply = reply ≡ Refused Full → (reply ≡ (due s (Change f)).reply) ⊎ full

-- the specified answer, or a refusal because memory ran out or the context is full
abbrev pub IsAnswer : State → Call → Answer → Type 0
IsAnswer s call a = (a ≡ due s call) ⊎ (IsTrue (takes_memory s call) × IsUnmade s call a)

-- ---- the analyses

-- the analyses after a refused resync: if memory ran out, the analysis may be stale
abbrev pub NotResynced : ℕ → Refusal → List Shown → List Shown → Type 0
NotResynced kind refusal old new = (new ≡ old) ⊎ ((refusal ≡ Memory) × BegunAgain kind true old new)

-- the analyses after a call and its reply: an edit or a transformation, accepted or not, and a rollback may make some
-- stale
abbrev pub PanelGoes : Call → Reply → List Shown → List Shown → Type 0
PanelGoes (Do e) reply old new = AllAge old new
PanelGoes (Change f) reply old new = AllAge old new
PanelGoes Mark reply old new = new ≡ old
PanelGoes Step reply old new = new ≡ old
PanelGoes Commit reply old new = new ≡ old
PanelGoes Rollback (Refused refusal) old new = new ≡ old
PanelGoes Rollback Done old new = AllAge old new
PanelGoes Rollback _ old new = ⊥
PanelGoes (Attach a) (Refused refusal) old new = new ≡ old
PanelGoes (Attach a) Done old new = Attached a old new
PanelGoes (Attach a) _ old new = ⊥
PanelGoes (Detach kind) (Refused refusal) old new = new ≡ old
PanelGoes (Detach kind) Done old new = Detached kind old new
PanelGoes (Detach kind) _ old new = ⊥
PanelGoes (Resync kind) (Refused refusal) old new = NotResynced kind refusal old new
PanelGoes (Resync kind) Done old new = BegunAgain kind false old new
PanelGoes (Resync kind) _ old new = ⊥
PanelGoes (Report kind) reply old new = new ≡ old
PanelGoes Print reply old new = new ≡ old

-- ---- the machine

-- the machine may answer a call in this way, and get from s to t
pub record Goes (s : State) (call : Call) (reply : Reply) (shows : Shows) (t : State) : Type 0 where
  pub answer : IsAnswer s call (record { reply = reply; shows = shows; held = t.held; marks = t.marks })
  pub panel : PanelGoes call reply s.panel t.panel
