-- Proofs about the ends of runs.
use Rattle.std.proofs.Common.{◌≡◌, refl, sym, subst, Bool, true, false, true≢false, ◌&&◌, ℕ, List, [], append-nil, Option, Some, None, Result, Ok, Err, IfOk}
use Rattle.std.specs.Prelude.{IfErr, IfSome, IsTrue}
use Rattle.std.specs.Io.KnownBytes.{Keeps}
use Rattle.mlir_work_session.specs.Reads.{Intake, IsReadWhole}
use Rattle.mlir_work_session.specs.WriteFault.{WriteFault}
use Rattle.mlir_work_session.specs.Writes.{Grows, HandsOn, Stream}
use Rattle.mlir_work_session.proofs.Joins.{grows_fails, grows_stays}
use Rattle.mlir_work_run.specs.declared.run.Fault.{Fault}
use Rattle.mlir_work_run.specs.declared.run.Fault.TheVariants.{Read as ReadFailed, Write as WriteFailed}
use Rattle.mlir_work_run.specs.Ends.{EndedSo, HandedOut, IsFinal, Leaves, ended_of}

-- a flush after the writes
pub finished : {E : Type 0} (P : ℕ → List ℕ → Type 0) (a b c : Stream) (handed : Bool) (status : ℕ) (o : List ℕ) (r : Result ℕ E) → P status o → Grows a b o → HandsOn b c r → IfOk r (λ _. handed ≡ true) → IfOk r (λ s. s ≡ status) → HandedOut P a c handed r
finished P a b c handed status o (Ok s) p h k all e = (o, subst (λ (n : ℕ). P n o) (sym e) p, grows_stays a b c o h k, all)
finished P a b c handed status o (Err x) p h k all e = (status, o, p, grows_fails a b c o o [] (sym (append-nil o)) h k)

pub ran_so : {E : Type 0} (P Q : ℕ → List ℕ → Type 0) (a b : Stream) (handed : Bool) (r : Result ℕ E) → ((st : ℕ) (o : List ℕ) → P st o → Q st o) → HandedOut P a b handed r → HandedOut Q a b handed r
ran_so P Q a b handed (Ok st) f (o, p, h, k) = (o, f st o p, h, k)
ran_so P Q a b handed (Err e) f (st, o, p, h) = (st, o, f st o p, h)

pub ended_so : (P Q : ℕ → List ℕ → Type 0) (a b : Stream) (handed : Bool) (r : Result ℕ WriteFault) (q : Result ℕ Fault) → q ≡ ended_of r → ((st : ℕ) (o : List ℕ) → P st o → Q st o) → HandedOut P a b handed r → EndedSo Q a.contents b.contents q
ended_so P Q a b handed (Ok st) q e f (o, p, h, k) = rw e (o, f st o p, h.0)
ended_so P Q a b handed (Err w) q e f (st, o, p, h) = rw e (st, o, f st o p, h.0)

-- the whole input was read, and then an output or a prefix of one was written
pub leaves : (P : ℕ → List ℕ → Type 0) (taken left : Intake) (a b : Stream) (handed : Bool) (r : Result ℕ WriteFault) (q : Result ℕ Fault) → q ≡ ended_of r → ((st : ℕ) (o : List ℕ) → P st o → IsFinal st) → IsReadWhole taken left → HandedOut P a b handed r → Leaves taken left a b handed q
leaves P taken left a b handed (Ok st) q e f whole (o, p, h, k) = rw e (f st o p, whole, h.1, k)
leaves P taken left a b handed (Err w) q e f whole (st, o, p, h) = rw e (whole, h.1)

-- nothing was written after a read fault
pub unparsed : (taken left : Intake) (a b : Stream) (handed : Bool) (r : Result ℕ Fault) → Leaves taken left a b handed r → IfErr r (λ e. e ≡ ReadFailed → Keeps a.contents b.contents)
unparsed taken left a b handed (Ok st) h = tt
unparsed taken left a b handed (Err ReadFailed) h = λ e. h.1.0
unparsed taken left a b handed (Err WriteFailed) h = λ e. absurd (let f : WriteFailed ≡ ReadFailed = e in cc)

pub if_some : (o : Option (List ℕ)) (A B : List ℕ → Type 0) → ((x : List ℕ) → A x → B x) → IfSome o A → IfSome o B
if_some None A B f h = tt
if_some (Some x) A B f h = f x h

pub both_true : (a b : Bool) → IsTrue (a && b) → (a ≡ true) × (b ≡ true)
both_true true true h = (refl, refl)
both_true true false h = absurd (true≢false (sym h))
both_true false b h = absurd (true≢false (sym h))
