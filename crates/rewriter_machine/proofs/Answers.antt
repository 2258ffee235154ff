-- A refusal leaves the module and the marks unchanged; the module and the marks after an accepted call.
use Rattle.std.proofs.Common.{◌≡◌, refl, ap, sym, ◌∙◌, subst, ℕ, zero, suc, Bool, true, false, cond, List, [], ◌∷◌, Option, Some, None, Result, Ok, Err, ◌⊎◌, inl, inr, slice_get}
use Rattle.std.specs.Prelude.{nat_lt, slice_set}
use Rattle.std.specs.List.{find}
use Rattle.ir_event.specs.types.declared.refusal.Refusal.{Refusal}
use Rattle.ir_event.specs.types.declared.refusal.Refusal.TheVariants.{Full, Memory, Stale, NoSuchKind, KindTaken, TooManyMarks}
use Rattle.ir_event.specs.Modules.{Module}
use Rattle.ir_event.proofs.Follows.{zip_self}
use Rattle.rewriter_machine.specs.Edits.{Insert, Make, Erase, Move, SetOperand, Replace, SetAttr, DropAttr}
use Rattle.rewriter_machine.specs.Contents.{Edit, edit_reason}
use Rattle.rewriter_machine.specs.Machine.{OpenMark, State, Outcome, Fault, Transformation, Call, Do, Change, Mark, Step, Commit, Rollback, Attach, Detach, Resync, Report, Print, Reply, Done, DoneAs, DoneWith, Refused, RefusedOn, Shows, Nothing, Rows, Answer, due, refused, showing, marked, due_edit, due_change, due_commit, due_rollback, due_report, fault_reply, most_marks, counted_marks, IsUnmade, Goes, accepted}
use Rattle.rewriter_machine.specs.Panels.{Shown, Ages, AllAge, BegunAgain, has_kind, is_kind}
use Rattle.rewriter_machine.specs.Runs.{Gives, is_refused}

-- the reply to an accepted edit isn't a refusal
accepted_is : (e : Edit) (m : Module) → is_refused (accepted e m) ≡ false
accepted_is (Insert place o) m = refl
accepted_is (Make place o) m = refl
accepted_is (Erase x) m = refl
accepted_is (Move x place) m = refl
accepted_is (SetOperand x k v) m = refl
accepted_is (Replace old new) m = refl
accepted_is (SetAttr x k a) m = refl
accepted_is (DropAttr x k) m = refl

-- a fault is a refusal
fault_is : (refusal : Refusal) (op : Option ℕ) → is_refused (fault_reply refusal op) ≡ true
fault_is refusal None = refl
fault_is refusal (Some x) = refl

-- the answer is a refusal, and leaves the module and the marks unchanged
record IsLeft (s : State) (a : Answer) : Type 0 where
  reply : is_refused a.reply ≡ true
  held : a.held ≡ s.held
  marks : a.marks ≡ s.marks

left_by : (s : State) (refusal : Refusal) (a : Answer) → a ≡ refused refusal s → IsLeft s a
left_by s refusal a e = record { reply = ap (λ (a : Answer). is_refused a.reply) e; held = ap (λ (a : Answer). a.held) e; marks = ap (λ (a : Answer). a.marks) e }

unmade_left : (s : State) (call : Call) (a : Answer) → IsUnmade s call a → IsLeft s a
unmade_left s (Do e) a h = left_by s Memory a h
unmade_left s (Change f) a (inl h) = left_by s Memory a h
unmade_left s (Change f) a (inr h) = left_by s Full a h.1
unmade_left s Mark a h = left_by s Memory a h
unmade_left s Step a h = left_by s Memory a h
unmade_left s Commit a h = left_by s Memory a h
unmade_left s Rollback a h = left_by s Memory a h
unmade_left s (Attach b) a h = left_by s Memory a h
unmade_left s (Detach kind) a h = left_by s Memory a h
unmade_left s (Resync kind) a h = left_by s Memory a h
unmade_left s (Report kind) a h = left_by s Memory a h
unmade_left s Print a h = left_by s Memory a h

-- if the answer is a refusal, it leaves the module and the marks unchanged
abbrev Leaves : State → Answer → Type 0
Leaves s a = is_refused a.reply ≡ true → (a.held ≡ s.held) × (a.marks ≡ s.marks)

due_leaves : (s : State) (call : Call) → Leaves s (due s call)
due_leaves s (Do e) = go (edit_reason e s.held)
  where
    go : (r : Option Refusal) → Leaves s (due_edit r e s)
    go None h = (let bad : true ≡ false = sym h ∙ accepted_is e s.held in absurd cc)
    go (Some r) h = (refl, refl)
due_leaves s (Change f) = go (f.transformed s.held)
  where
    go : (r : Result (Outcome × Module) Fault) → Leaves s (due_change r s)
    go (Ok made) h = absurd cc
    go (Err fault) h = (refl, refl)
due_leaves s Mark = go (nat_lt (counted_marks s.marks) most_marks)
  where
    go : (b : Bool) → Leaves s (cond b (marked true s) (refused TooManyMarks s))
    go true h = absurd cc
    go false h = (refl, refl)
due_leaves s Step = λ h. absurd cc
due_leaves s Commit = go s.marks
  where
    go : (ks : List OpenMark) → Leaves s (due_commit ks s)
    go [] h = (refl, refl)
    go (k ∷ ks) h = absurd cc
due_leaves s Rollback = go s.marks
  where
    go : (ks : List OpenMark) → Leaves s (due_rollback ks s)
    go [] h = (refl, refl)
    go (k ∷ ks) h = absurd cc
due_leaves s (Attach a) = go (has_kind a.kind s.panel)
  where
    go : (b : Bool) → Leaves s (cond b (refused KindTaken s) (showing Nothing s))
    go true h = (refl, refl)
    go false h = (refl, refl)
due_leaves s (Detach kind) = go (has_kind kind s.panel)
  where
    go : (b : Bool) → Leaves s (cond b (showing Nothing s) (refused NoSuchKind s))
    go true h = (refl, refl)
    go false h = (refl, refl)
due_leaves s (Resync kind) = go (has_kind kind s.panel)
  where
    go : (b : Bool) → Leaves s (cond b (showing Nothing s) (refused NoSuchKind s))
    go true h = (refl, refl)
    go false h = (refl, refl)
due_leaves s (Report kind) = go (find (is_kind kind) s.panel)
  where
    stale : (a : Shown) (b : Bool) → Leaves s (cond b (refused Stale s) (showing (Rows (a.analysis s.held.tree)) s))
    stale a true h = (refl, refl)
    stale a false h = (refl, refl)

    go : (o : Option Shown) → Leaves s (due_report o s)
    go None h = (refl, refl)
    go (Some a) h = stale a a.stale h
due_leaves s Print = λ h. (refl, refl)

-- a refused call leaves the module and the marks unchanged
pub refused_leaves : (s t : State) (call : Call) (reply : Reply) (shows : Shows) → Goes s call reply shows t → is_refused reply ≡ true → (t.held ≡ s.held) × (t.marks ≡ s.marks)
refused_leaves s t call reply shows g h = elim g.answer [
  | inl e ↦ (let k = due_leaves s call (ap (λ (a : Answer). is_refused a.reply) (sym e) ∙ h) in (ap (λ (a : Answer). a.held) e ∙ k.0, ap (λ (a : Answer). a.marks) e ∙ k.1))
  | inr e ↦ (let k = unmade_left s call _ e.1 in (k.held, k.marks))
]

-- the module and the marks after an accepted answer
abbrev Gave : State → Call → Answer → Type 0
Gave s call a = is_refused a.reply ≡ false → Gives call s.held s.marks a.held a.marks

due_gives : (s : State) (call : Call) → Gave s call (due s call)
due_gives s (Do e) = go (edit_reason e s.held) refl
  where
    go : (r : Option Refusal) → edit_reason e s.held ≡ r → Gave s (Do e) (due_edit r e s)
    go None is h = (is, refl, refl)
    go (Some r) is h = absurd cc
due_gives s (Change f) = go (f.transformed s.held) refl
  where
    go : (r : Result (Outcome × Module) Fault) → f.transformed s.held ≡ r → Gave s (Change f) (due_change r s)
    go (Ok made) is h = ((made.0, is), refl)
    go (Err fault) is h = (let bad : true ≡ false = sym (fault_is fault.refusal fault.op) ∙ h in absurd cc)
due_gives s Mark = go (nat_lt (counted_marks s.marks) most_marks)
  where
    go : (b : Bool) → Gave s Mark (cond b (marked true s) (refused TooManyMarks s))
    go true h = (refl, refl)
    go false h = absurd cc
due_gives s Step = λ h. (refl, refl)
due_gives s Commit = go s.marks refl
  where
    go : (ks : List OpenMark) → s.marks ≡ ks → Gave s Commit (due_commit ks s)
    go [] is h = absurd cc
    go (k ∷ ks) is h = (refl, (k, is))
due_gives s Rollback = go s.marks refl
  where
    go : (ks : List OpenMark) → s.marks ≡ ks → Gave s Rollback (due_rollback ks s)
    go [] is h = absurd cc
    go (k ∷ ks) is h = (k, is, refl)
due_gives s (Attach a) = go (has_kind a.kind s.panel)
  where
    go : (b : Bool) → Gave s (Attach a) (cond b (refused KindTaken s) (showing Nothing s))
    go true h = (refl, refl)
    go false h = (refl, refl)
due_gives s (Detach kind) = go (has_kind kind s.panel)
  where
    go : (b : Bool) → Gave s (Detach kind) (cond b (showing Nothing s) (refused NoSuchKind s))
    go true h = (refl, refl)
    go false h = (refl, refl)
due_gives s (Resync kind) = go (has_kind kind s.panel)
  where
    go : (b : Bool) → Gave s (Resync kind) (cond b (showing Nothing s) (refused NoSuchKind s))
    go true h = (refl, refl)
    go false h = (refl, refl)
due_gives s (Report kind) = go (find (is_kind kind) s.panel)
  where
    stale : (a : Shown) (b : Bool) → Gave s (Report kind) (cond b (refused Stale s) (showing (Rows (a.analysis s.held.tree)) s))
    stale a true h = (refl, refl)
    stale a false h = (refl, refl)

    go : (o : Option Shown) → Gave s (Report kind) (due_report o s)
    go None h = (refl, refl)
    go (Some a) h = stale a a.stale h
due_gives s Print = λ h. (refl, refl)

-- an accepted call
pub accepted_gives : (s t : State) (call : Call) (reply : Reply) (shows : Shows) → Goes s call reply shows t → is_refused reply ≡ false → Gives call s.held s.marks t.held t.marks
accepted_gives s t call reply shows g h = elim g.answer [
  | inl e ↦ subst (λ (a : Answer). Gives call s.held s.marks a.held a.marks) (sym e) (due_gives s call (ap (λ (a : Answer). is_refused a.reply) (sym e) ∙ h))
  | inr e ↦ (let bad : true ≡ false = sym (unmade_left s call _ e.1).reply ∙ h in absurd cc)
]

-- ---- the analyses

same_self : (a : Shown) → Ages a a
same_self a = record { same = record { kind = refl; analysis = λ t. refl }; stale = λ h. h }

all_self : (old new : List Shown) → new ≡ old → AllAge old new
all_self old new e = subst (AllAge old) (sym e) (zip_self Ages same_self old)

set_ages : (xs : List Shown) (i : ℕ) (a b : Shown) → slice_get xs i ≡ Some a → Ages a b → AllAge xs (slice_set xs i b)
set_ages [] zero a b h g = tt
set_ages [] (suc i) a b h g = tt
set_ages (x ∷ xs) zero a b h g = (let e : x ≡ a = cc in (subst (λ z. Ages z b) (sym e) g, zip_self Ages same_self xs))
set_ages (x ∷ xs) (suc i) a b h g = (same_self x, set_ages xs i a b h g)

again_ages : (kind : ℕ) (old new : List Shown) → BegunAgain kind true old new → AllAge old new
again_ages kind old new h =
    subst (AllAge old) (sym h.rest) (set_ages old h.place h.before h.after h.was (record { same = h.same; stale = λ e. h.gives }))

-- a refused call adds, removes and moves no analysis, and makes none fresh
pub refused_ages : (s t : State) (call : Call) (reply : Reply) (shows : Shows) → Goes s call reply shows t → is_refused reply ≡ true → AllAge s.panel t.panel
refused_ages s t (Do e) reply shows g h = g.panel
refused_ages s t (Change f) reply shows g h = g.panel
refused_ages s t Mark reply shows g h = all_self s.panel t.panel g.panel
refused_ages s t Step reply shows g h = all_self s.panel t.panel g.panel
refused_ages s t Commit reply shows g h = all_self s.panel t.panel g.panel
refused_ages s t Rollback (Refused refusal) shows g h = all_self s.panel t.panel g.panel
refused_ages s t Rollback Done shows g h = g.panel
refused_ages s t Rollback (DoneAs x) shows g h = absurd g.panel
refused_ages s t Rollback (DoneWith o) shows g h = absurd g.panel
refused_ages s t Rollback (RefusedOn refusal x) shows g h = absurd g.panel
refused_ages s t (Attach a) (Refused refusal) shows g h = all_self s.panel t.panel g.panel
refused_ages s t (Attach a) Done shows g h = (let bad : false ≡ true = h in absurd cc)
refused_ages s t (Attach a) (DoneAs x) shows g h = absurd g.panel
refused_ages s t (Attach a) (DoneWith o) shows g h = absurd g.panel
refused_ages s t (Attach a) (RefusedOn refusal x) shows g h = absurd g.panel
refused_ages s t (Detach kind) (Refused refusal) shows g h = all_self s.panel t.panel g.panel
refused_ages s t (Detach kind) Done shows g h = (let bad : false ≡ true = h in absurd cc)
refused_ages s t (Detach kind) (DoneAs x) shows g h = absurd g.panel
refused_ages s t (Detach kind) (DoneWith o) shows g h = absurd g.panel
refused_ages s t (Detach kind) (RefusedOn refusal x) shows g h = absurd g.panel
refused_ages s t (Resync kind) (Refused refusal) shows g h = elim g.panel [ inl e ↦ all_self s.panel t.panel e | inr h ↦ again_ages kind s.panel t.panel h.1 ]
refused_ages s t (Resync kind) Done shows g h = (let bad : false ≡ true = h in absurd cc)
refused_ages s t (Resync kind) (DoneAs x) shows g h = absurd g.panel
refused_ages s t (Resync kind) (DoneWith o) shows g h = absurd g.panel
refused_ages s t (Resync kind) (RefusedOn refusal x) shows g h = absurd g.panel
refused_ages s t (Report kind) reply shows g h = all_self s.panel t.panel g.panel
refused_ages s t Print reply shows g h = all_self s.panel t.panel g.panel
