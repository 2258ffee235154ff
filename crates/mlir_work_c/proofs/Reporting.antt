-- Reports of kinds, which are numbers below 256.
use Rattle.std.proofs.Common.{◌≡◌, ℕ, ◌<◌, ◌≤◌, Bool, true, false, List, refl, subst, sym, arith}
use Rattle.std.proofs.lemmas.Bool.{lt-ltb, ltb-true}
use Rattle.std.specs.Prelude.{nat_lt}
use Rattle.ir_event.specs.types.declared.refusal.Refusal.TheVariants.{NoSuchKind}
use Rattle.mlir_work_c_read.specs.declared.numbers.CellNumbers.{CellNumbers}
use Rattle.mlir_work_c.specs.Answers.{refused}
use Rattle.mlir_work_c.specs.Bulk.{ReportsIn, ReportsOf}
use Rattle.mlir_work_c.specs.declared.answer.Answer.{Answer}
use Rattle.mlir_work_c.specs.declared.session.Session.{Session}

module _ (kind : ℕ) (s : Session) (old : List CellNumbers) (a : Answer) where
  pub other_kind : 256 ≤ kind → a ≡ refused NoSuchKind → ReportsOf (nat_lt kind 256) kind s old old a
  other_kind l is = by_test (nat_lt kind 256) refl
    where
      by_test : (b : Bool) → nat_lt kind 256 ≡ b → ReportsOf b kind s old old a
      by_test true e = absurd (let less = ltb-true kind 256 e in omega (arith, l, less))
      by_test false e = (refl, is)

  pub known_kind : (new : List CellNumbers) → kind < 256 → ReportsIn kind s old new a → ReportsOf (nat_lt kind 256) kind s old new a
  known_kind new l h = subst (λ (b : Bool). ReportsOf b kind s old new a) (sym (lt-ltb kind 256 l)) h
