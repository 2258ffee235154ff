-- Proofs about sessions: listeners are attached, and then a script runs.
use Rattle.std.proofs.Common.{◌≡◌, ◌≤◌, ◌<◌, ◌++◌, ◌↔◌, IsTrue, refl, ap, subst, ℕ, List, Bool, false, arith, Result, Ok, Err}
use Rattle.ir_event.specs.Modules.{Module}
use Rattle.mlir_work_script_base.specs.Lines.{lines_of}
use Rattle.mlir_work_script_base.specs.Writes.{Grows, GrowsPreceding, Stream}
use Rattle.mlir_work_script_base.specs.Limits.{most_script_bytes}
use Rattle.mlir_work_script_base.proofs.Joins.{grows_join, preceding_join, preceding_more}
use Rattle.mlir_work_transforms.specs.rewriter.Machine.{State}
use Rattle.mlir_work_transforms.specs.rewriter.Panels.{Shown}
use Rattle.mlir_work_transforms.specs.registry.Registry.{RegistryModel}
use Rattle.mlir_work_session.specs.Output.{Begun, Runs, Session, SessionSetting, opening, worse}
use Rattle.mlir_work_session.specs.Ran.{RanOut}
use Rattle.mlir_work_session.proofs.Runs.{some_runs}

module _ (setting : SessionSetting) (start : RegistryModel) (boxes : List Shown) (m : Module) (script : List ℕ) where
  session_of : (s : State) (accepted : Bool) (preceding : List ℕ) (later : ℕ) (rest : List ℕ) → Begun setting.session_options.ends boxes m s accepted preceding → Runs setting 1 (opening start s) (lines_of script) later rest → Session setting start boxes m script (worse accepted later) (preceding ++ rest)
  session_of s accepted preceding later rest h k = record {
    panel = h.panel;
    accepted = accepted;
    preceding = h.preceding;
    later = later;
    rest = rest;
    attached = h.attached;
    runs = subst (λ (x : State). Runs setting 1 (opening start x) (lines_of script) later rest) h.state_is k;
    status_is = refl;
    out_is = ap (λ (xs : List ℕ). xs ++ rest) h.out_is;
  }

  -- the listeners were attached and the script ran to its end
  pub session_ran : (a b c : Stream) (s : State) (accepted : Bool) (preceding : List ℕ) (later : ℕ) (rest : List ℕ) → Begun setting.session_options.ends boxes m s accepted preceding → Grows a b preceding → Runs setting 1 (opening start s) (lines_of script) later rest → Grows b c rest →
      (out : List ℕ) × Session setting start boxes m script (worse accepted later) out × Grows a c out
  session_ran a b c s accepted preceding later rest h wrote k more = (preceding ++ rest, session_of s accepted preceding later rest h k, grows_join a b c preceding rest wrote more)

  -- the listeners were attached and a write failed while the script ran
  pub session_cut : (a b c : Stream) (s : State) (accepted : Bool) (preceding : List ℕ) (later : ℕ) (rest : List ℕ) → Begun setting.session_options.ends boxes m s accepted preceding → Grows a b preceding → Runs setting 1 (opening start s) (lines_of script) later rest → GrowsPreceding b c rest →
      (status : ℕ) × (out : List ℕ) × Session setting start boxes m script status out × GrowsPreceding a c out
  session_cut a b c s accepted preceding later rest h wrote k more = (worse accepted later, preceding ++ rest, session_of s accepted preceding later rest h k, preceding_join a b c preceding rest wrote more)

  -- a write failed while the listeners were attached
  pub session_begun : (a b : Stream) (s : State) (accepted : Bool) (preceding : List ℕ) → Begun setting.session_options.ends boxes m s accepted preceding → GrowsPreceding a b preceding →
      (status : ℕ) × (out : List ℕ) × Session setting start boxes m script status out × GrowsPreceding a b out
  session_begun a b s accepted preceding h wrote =
      let some = some_runs setting (lines_of script) 1 (opening start s) in
      (worse accepted some.0, preceding ++ some.1, session_of s accepted preceding some.0 some.1 h some.2, preceding_more a b preceding some.1 wrote)

pub short : (n : ℕ) (long : Bool) → (IsTrue long ↔ (most_script_bytes < n)) → long ≡ false → n ≤ most_script_bytes
short n long h e = grind (arith, h.1, e)

pub ran_weaker : {E : Type 0} (P Q : ℕ → List ℕ → Type 0) (a b : Stream) (r : Result ℕ E) → ((st : ℕ) (o : List ℕ) → P st o → Q st o) → RanOut P a b r → RanOut Q a b r
ran_weaker P Q a b (Ok st) f (o, p, h) = (o, f st o p, h)
ran_weaker P Q a b (Err e) f (st, o, p, h) = (st, o, f st o p, h)
