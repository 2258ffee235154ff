-- The rows about an operation or a value are those of one entry.
use Rattle.std.proofs.Common.{◌≡◌, ◌∙◌, refl, sym, ap, subst, ℕ, Bool, true, false, true≢false, ◌&&◌, cond, eqb, eq-eqb, eqb-true, List, [], ◌∷◌, ◌++◌, map, Option, Some, None}
use Rattle.std.proofs.lemmas.Bool.{ne_eqb}
use Rattle.listeners_support.specs.Map.{IdMap}
use Rattle.listeners_support.specs.Map as idmap
use Rattle.ir_event.specs.types.declared.bits.Bits.{Bits}
use Rattle.ir_event.specs.trees.declared.value.Value.{Value}
use Rattle.ir_event.specs.trees.declared.value.Value.TheVariants.{Result, Arg}
use Rattle.ir_event.specs.declared.subject.Subject.{Subject}
use Rattle.ir_event.specs.declared.subject.Subject.TheVariants as subject
use Rattle.ir_event.specs.Rows.{RowTerm}
use Rattle.ir_event.specs.Subjects.{rows_about}
use Rattle.ir_event.proofs.Abouts.{all_rows, rows_at, about_none, about_entry}
use Rattle.ir_event.proofs.ById.{look, Rising}
use Rattle.dialects_int.specs.Folds.{Known, known_of}
use Rattle.constants.specs.Rows.{constant_row}
use Rattle.constants.specs.Tables.{entries_about, entry_at, entry_if, entry_of, known_in}

-- the known values of a table's entries
abbrev pub said : List (ℕ × Bits) → List (ℕ × Known)
said es = map (λ (e : ℕ × Bits). (e.0, (e.1.kind, e.1.value))) es

abbrev rows : ℕ × Known → List RowTerm
rows p = constant_row p ∷ []

gathered : (ps : List (ℕ × Known)) → map constant_row ps ≡ all_rows rows ps
gathered [] = refl
gathered (p ∷ ps) = ap (λ l. constant_row p ∷ l) (gathered ps)

-- a list that has the entry of x by a table
module _ (ps : List (ℕ × Known)) (rising : Rising ps) (table : IdMap Bits) where
  -- only the entry of x is about a subject, and its row is
  module _ (s : Subject) (x : ℕ) (found : look x ps ≡ known_in table x) (others : (p : ℕ × Known) → (x ≡ p.0 → ⊥) → rows_about s (rows p) ≡ []) (own : (k : Known) → rows_about s (rows (x, k)) ≡ rows (x, k)) where
    entry_rows : (b : Option Bits) → rows_at s rows x (known_of b) ≡ map constant_row (said (entry_if x b))
    entry_rows None = refl
    entry_rows (Some b) = own (b.kind, b.value)

    about_one : rows_about s (map constant_row ps) ≡ map constant_row (said (entry_of x table))
    about_one = ap (rows_about s) (gathered ps) ∙ about_entry s rows x others ps rising ∙ ap (rows_at s rows x) found ∙ entry_rows (idmap.get table x)

  -- an operation
  about_op : (x : ℕ) → look x ps ≡ known_in table x → rows_about (subject.Op x) (map constant_row ps) ≡ map constant_row (said (entry_of x table))
  about_op x found =
      about_one (subject.Op x) x found
      (λ p ne. ap (λ b. cond b (constant_row p ∷ []) []) (ne_eqb p.0 x (λ e. ne (sym e))))
      (λ k. ap (λ b. cond b (constant_row (x, k) ∷ []) []) (eq-eqb x x refl))

  -- the first result of an operation
  about_result : (x : ℕ) → look x ps ≡ known_in table x → rows_about (subject.Val (Result x 0)) (map constant_row ps) ≡ map constant_row (said (entry_of x table))
  about_result x found =
      about_one (subject.Val (Result x 0)) x found
      (λ p ne. ap (λ b. cond (b && true) (constant_row p ∷ []) []) (ne_eqb p.0 x (λ e. ne (sym e))))
      (λ k. ap (λ b. cond (b && true) (constant_row (x, k) ∷ []) []) (eq-eqb x x refl))

  -- another result
  other_result : (x k : ℕ) → eqb k 0 ≡ false → rows_about (subject.Val (Result x k)) (map constant_row ps) ≡ []
  other_result x k ne =
      ap (rows_about (subject.Val (Result x k))) (gathered ps)
      ∙ about_none (subject.Val (Result x k)) rows (λ p. ap (λ b. cond (eqb p.0 x && b) (constant_row p ∷ []) []) apart ∙ neither (eqb p.0 x) (constant_row p)) ps
    where
      apart : eqb 0 k ≡ false
      apart = ne_eqb 0 k (λ e. true≢false (sym (eq-eqb k 0 (sym e)) ∙ ne))

      neither : (b : Bool) (r : RowTerm) → cond (b && false) (r ∷ []) [] ≡ []
      neither true r = refl
      neither false r = refl

  about_results : (x k : ℕ) → look x ps ≡ known_in table x → (b : Bool) → eqb k 0 ≡ b → rows_about (subject.Val (Result x k)) (map constant_row ps) ≡ map constant_row (said (cond b (entry_of x table) []))
  about_results x k found true e = subst (λ n. rows_about (subject.Val (Result x n)) (map constant_row ps) ≡ map constant_row (said (entry_of x table))) (sym (eqb-true k 0 e)) (about_result x found)
  about_results x k found false e = other_result x k e

  pub about_constants : (s : Subject) → ((x : ℕ) → look x ps ≡ known_in table x) → rows_about s (map constant_row ps) ≡ map constant_row (said (entries_about s table))
  about_constants (subject.Op x) found = about_op x (found x)
  about_constants (subject.Val (Result x k)) found = about_results x k (found x) (eqb k 0) refl
  about_constants (subject.Val (Arg x r k)) found = ap (rows_about (subject.Val (Arg x r k))) (gathered ps) ∙ about_none (subject.Val (Arg x r k)) rows (λ p. refl) ps
