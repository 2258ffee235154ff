-- The rows of the report.
use Rattle.std.proofs.Common.{◌≡◌, ℕ, List, [], ◌∷◌, true, false, Some, refl, sym, ap, ◌∙◌, subst, arith, cond, eqb, map}
use Rattle.std.specs.List.{AllByRecursion, All}
use Rattle.std.specs.List.Sorted.{IsStrictlySortedBy}
use Rattle.std.specs.Ordering.{nat_cmp, is_eq}
use Rattle.std.specs.declared.cmp.Ordering.TheVariants.{Less}
use Rattle.std.specs.Map.{lookup, keys_of}
use Rattle.std.specs.BTreeMap.{is_at}
use Rattle.listeners_support.specs.Map.{IdMap}
use Rattle.listeners_support.specs.Map as idmap
use Rattle.std.proofs.lemmas.Bool.Decides.{nat_tests}
use Rattle.std.proofs.lemmas.List.Elements.{All-cons, All-nil}
use Rattle.ir_event.specs.types.declared.bits.Bits.{Bits}
use Rattle.ir_event.specs.types.Things.{ContextModel}
use Rattle.ir_event.specs.trees.Ids.{HasDistinctIds}
use Rattle.ir_event.specs.trees.Meaning.{Operation}
use Rattle.ir_event.specs.declared.row.Cell.TheVariants as cell
use Rattle.ir_event.specs.trees.declared.value.Value.TheVariants.{Result}
use Rattle.ir_event.specs.declared.row.Row.{Row as Line}
use Rattle.ir_event.specs.declared.subject.Subject.{Subject}
use Rattle.ir_event.specs.Subjects.{rows_about}
use Rattle.ir_event.specs.Rows.{cell_meaning, rows_meaning, CellIsOf, RowIsOf, Shows}
use Rattle.dialects_int.specs.Folds.{Known, known_of}
use Rattle.constants.specs.Walk.{facts_of}
use Rattle.constants.specs.Rows.{constants_of, constant_row, constants_rows}
use Rattle.ir_event.proofs.ById.{look, Above, Rising, rising_same}
use Rattle.constants.proofs.Sorted.{constants_rising, constants_look}
use Rattle.constants.specs.Tables.{known_in, cells_of, entries_about}
use Rattle.constants.proofs.Abouts.{said, about_constants}
use Rattle.constants.proofs.Tables.{same_test}
use Rattle.ir_event.proofs.of_types.Sorting.{flips_eq}
use Rattle.ir_event.proofs.of_types.Truths.{less_than}

above_said : (x : ℕ) (es : List (ℕ × Bits)) → AllByRecursion (λ y. nat_cmp x y ≡ Less) (keys_of es) → Above x (said es)
above_said x [] a = tt
above_said x (e ∷ es) a = (less_than x e.0 a.0, above_said x es a.1)

said_rising : (es : List (ℕ × Bits)) → IsStrictlySortedBy nat_cmp (keys_of es) → Rising (said es)
unfolding IsStrictlySortedBy
said_rising [] s = tt
said_rising (e ∷ es) s = (above_said e.0 es s.0, said_rising es s.1)

look_said : (x : ℕ) (es : List (ℕ × Bits)) → look x (said es) ≡ known_of (lookup (is_at (nat_cmp x)) es)
look_said x [] = refl
look_said x (e ∷ es) =
    ap (λ b. cond b (Some (e.1.kind, e.1.value)) (look x (said es))) (flips_eq x e.0 ∙ sym (same_test x e.0))
    ∙ ap (cond (is_eq (nat_cmp x e.0)) (Some (e.1.kind, e.1.value))) (look_said x es)
    ∙ elim (is_eq (nat_cmp x e.0)) as (λ b. cond b (Some (e.1.kind, e.1.value)) (known_of (lookup (is_at (nat_cmp x)) es)) ≡ known_of (cond b (Some e.1) (lookup (is_at (nat_cmp x)) es)))
    [ true ↦ refl | false ↦ refl ]

said_constants : (m : IdMap Bits) (t : Operation) → idmap.IsOrdered m → HasDistinctIds t → ((x : ℕ) → known_in m x ≡ facts_of t x) → said m.entries ≡ constants_of t
said_constants m t ordered d h = rising_same (said m.entries) (constants_of t) (said_rising m.entries ordered) (constants_rising t d) (λ x. look_said x m.entries ∙ h x ∙ sym (constants_look t d x))

module _ (c : ContextModel) where
  rows_say : (rows : List Line) (es : List (ℕ × Bits)) → map (λ (r : Line). r.cells.items) rows ≡ map cells_of es → rows_meaning c rows ≡ map constant_row (said es)
  rows_say [] [] e = refl
  rows_say [] (x ∷ es) e = absurd cc
  rows_say (r ∷ rows) [] e = absurd cc
  rows_say (r ∷ rows) (x ∷ es) e =
      let one : r.cells.items ≡ cells_of x = cc in
      let rest : map (λ (r : Line). r.cells.items) rows ≡ map cells_of es = cc in
      λ i. map (cell_meaning c) (one i) ∷ rows_say rows es rest i

  row_known : (x : ℕ × Bits) → All (CellIsOf c) (cells_of x)
  row_known x = All-cons (CellIsOf c) (cell.Val (Result x.0 0)) (cell.Bits x.1 ∷ []) tt (All-cons (CellIsOf c) (cell.Bits x.1) [] tt (All-nil (CellIsOf c)))

  rows_known : (rows : List Line) (es : List (ℕ × Bits)) → map (λ (r : Line). r.cells.items) rows ≡ map cells_of es → All (RowIsOf c) rows
  rows_known [] es e = All-nil (RowIsOf c)
  rows_known (r ∷ rows) [] e = absurd cc
  rows_known (r ∷ rows) (x ∷ es) e =
      let one : r.cells.items ≡ cells_of x = cc in
      let rest : map (λ (r : Line). r.cells.items) rows ≡ map cells_of es = cc in
      All-cons (RowIsOf c) r rows (subst (All (CellIsOf c)) (sym one) (row_known x)) (rows_known rows es rest)

  pub shows_constants : (m : IdMap Bits) (rows : List Line) (t : Operation) → idmap.IsOrdered m → map (λ (r : Line). r.cells.items) rows ≡ map cells_of m.entries → HasDistinctIds t → ((x : ℕ) → known_in m x ≡ facts_of t x)
      → Shows c rows (constants_rows t)
  shows_constants m rows t ordered is d h = record { says = rows_say rows m.entries is ∙ ap (map constant_row) (said_constants m t ordered d h); known = rows_known rows m.entries is }

  -- the rows about a subject
  pub shows_constants_about : (s : Subject) (m : IdMap Bits) (rows : List Line) (t : Operation) → map (λ (r : Line). r.cells.items) rows ≡ map cells_of (entries_about s m) → HasDistinctIds t → ((x : ℕ) → known_in m x ≡ facts_of t x)
      → Shows c rows (rows_about s (constants_rows t))
  shows_constants_about s m rows t is d h = record {
    says = rows_say rows (entries_about s m) is ∙ sym (about_constants (constants_of t) (constants_rising t d) m s (λ x. constants_look t d x ∙ sym (h x)));
    known = rows_known rows (entries_about s m) is;
  }
