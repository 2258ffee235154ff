-- Lists of calls, with their replies.
use Rattle.std.specs.Prelude.{◌≡◌, ℕ, zero, suc, List, [], ◌∷◌, Bool, true, false, Option, Some, None, Ok}
use Rattle.std.specs.Prelude.{option_and_then}
use Rattle.ir_event.specs.Modules.{Module}
use Rattle.rewriter_machine.specs.Contents.{edited, edit_reason}
use Rattle.rewriter_machine.specs.Machine.{OpenMark, State, Outcome, Call, Do, Change, Mark, Step, Commit, Rollback}
use Rattle.rewriter_machine.specs.Machine.{Attach, Detach, Resync, Report, Print, Reply, Done, DoneAs, DoneWith}
use Rattle.rewriter_machine.specs.Machine.{Refused, RefusedOn, Shows, Goes}

-- a call and its answer
pub record Answered : Type 0 where
  pub call : Call
  pub reply : Reply
  pub shows : Shows

-- the machine may answer these calls in this way, one after another, and get from s to t
abbrev pub Runs : State → List Answered → State → Type 0
Runs s [] t = t ≡ s
Runs s (a ∷ more) t = (u : State) × Goes s a.call a.reply a.shows u × Runs u more t

-- the module and the marks after an accepted call
abbrev pub Gives : Call → Module → List OpenMark → Module → List OpenMark → Type 0
Gives (Do e) m marks n after = (edit_reason e m ≡ None) × (n ≡ edited e m) × (after ≡ marks)
Gives (Change f) m marks n after = ((o : Outcome) × (f.transformed m ≡ Ok (o, n))) × (after ≡ marks)
Gives Mark m marks n after = (n ≡ m) × (after ≡ record { marked = m; counted = true } ∷ marks)
Gives Step m marks n after = (n ≡ m) × (after ≡ record { marked = m; counted = false } ∷ marks)
Gives Commit m marks n after = (n ≡ m) × ((k : OpenMark) × (marks ≡ k ∷ after))
Gives Rollback m marks n after = (k : OpenMark) × (marks ≡ k ∷ after) × (n ≡ k.marked)
Gives (Attach a) m marks n after = (n ≡ m) × (after ≡ marks)
Gives (Detach kind) m marks n after = (n ≡ m) × (after ≡ marks)
Gives (Resync kind) m marks n after = (n ≡ m) × (after ≡ marks)
Gives (Report kind) m marks n after = (n ≡ m) × (after ≡ marks)
Gives Print m marks n after = (n ≡ m) × (after ≡ marks)

abbrev pub is_refused : Reply → Bool
is_refused Done = false
is_refused (DoneAs x) = false
is_refused (DoneWith o) = false
is_refused (Refused refusal) = true
is_refused (RefusedOn refusal x) = true

-- one mark fewer, if there is one
abbrev pub lower : ℕ → Option ℕ
lower zero = None
lower (suc n) = Some n

-- the number of open marks after an accepted call with n of these marks before it; none if the call closes another mark
abbrev pub level_after : Call → ℕ → Option ℕ
level_after (Do e) n = Some n
level_after (Change f) n = Some n
level_after Mark n = Some (suc n)
level_after Step n = Some (suc n)
level_after Commit n = lower n
level_after Rollback n = lower n
level_after (Attach a) n = Some n
level_after (Detach kind) n = Some n
level_after (Resync kind) n = Some n
level_after (Report kind) n = Some n
level_after Print n = Some n

abbrev pub level_answered : Call → Reply → ℕ → Option ℕ
level_answered call Done n = level_after call n
level_answered call (DoneAs x) n = level_after call n
level_answered call (DoneWith o) n = level_after call n
level_answered call (Refused refusal) n = Some n
level_answered call (RefusedOn refusal x) n = Some n

-- the same after a list of calls; none if a mark from before the list was closed
abbrev pub level : List Answered → ℕ → Option ℕ
level [] n = Some n
level (a ∷ more) n = option_and_then (level more) (level_answered a.call a.reply n)

-- the calls close exactly the marks that they open
abbrev pub IsNested : List Answered → Type 0
IsNested answered = level answered 0 ≡ Some 0

-- a call that opens a mark
abbrev pub IsMarking : Call → Type 0
IsMarking (Do e) = ⊥
IsMarking (Change f) = ⊥
IsMarking Mark = Unit {0}
IsMarking Step = Unit {0}
IsMarking Commit = ⊥
IsMarking Rollback = ⊥
IsMarking (Attach a) = ⊥
IsMarking (Detach kind) = ⊥
IsMarking (Resync kind) = ⊥
IsMarking (Report kind) = ⊥
IsMarking Print = ⊥
