-- The rows of a report.
use Rattle.std.proofs.Common.{◌≡◌, ℕ, ◌<◌, List, [], ◌∷◌, ◌++◌, Bool, true, false, Some, None, refl, sym, ap, ◌∙◌, subst, arith, cond, eqb, map}
use Rattle.std.specs.Prelude.{option_map}
use Rattle.std.specs.List.{AllByRecursion, All}
use Rattle.std.specs.List.Sorted.{IsStrictlySortedBy}
use Rattle.std.specs.Ordering.{nat_cmp, is_eq, MatchOrdering}
use Rattle.std.specs.Cmp.{ranks}
use Rattle.std.specs.declared.cmp.Ordering.{Ordering}
use Rattle.std.specs.declared.cmp.Ordering.TheVariants.{Less, Equal, Greater}
use Rattle.std.specs.Map.{lookup, keys_of}
use Rattle.std.specs.BTreeMap.{is_at}
use Rattle.listeners_support.specs.Map.{IdMap}
use Rattle.listeners_support.specs.Map as idmap
use Rattle.std.proofs.lemmas.Bool.{eq-eqb, ne_eqb}
use Rattle.std.proofs.lemmas.List.{map-append}
use Rattle.std.proofs.lemmas.List.Elements.{All-cons, All-nil, All-append}
use Rattle.ir_event.specs.types.Things.{ContextModel}
use Rattle.ir_event.specs.trees.Ids.{HasDistinctIds}
use Rattle.ir_event.specs.trees.Meaning.{Operation}
use Rattle.ir_event.specs.declared.row.Cell.{Cell}
use Rattle.ir_event.specs.declared.row.Cell.TheVariants as cell
use Rattle.ir_event.specs.declared.row.Row.{Row as Line}
use Rattle.ir_event.specs.Rows.{CellTerm, Op, Tag, cell_meaning, rows_meaning, CellIsOf, RowIsOf, Shows}
use Rattle.effects.specs.declared.effect_kinds.EffectKinds.{EffectKinds}
use Rattle.effects.specs.declared.row.Row.{Row}
use Rattle.effects.specs.Effects.{effects}
use Rattle.effects.specs.Points.{Rows, points}
use Rattle.effects.specs.Walks.{rows_at}
use Rattle.op_registry.specs.Registry.{own_of}
use Rattle.effects.specs.Following.{Whole}
use Rattle.ir_event.specs.Rows.{by_id}
use Rattle.ir_event.specs.Subjects.{rows_about}
use Rattle.ir_event.specs.declared.subject.Subject.{Subject}
use Rattle.ir_event.specs.declared.subject.Subject.TheVariants as subject
use Rattle.effects.specs.Reports.{of_each, having, tag_if, cells_of, effects_of, effects_rows}
use Rattle.effects.specs.Listed.{said, said_about}
use Rattle.ir_event.proofs.ById.{look, Above, Rising, rising_same}
use Rattle.effects.proofs.Abouts.{about_effects, no_effects}
use Rattle.effects.proofs.Shown.{each_look, each_rising, shown_found}
use Rattle.ir_event.proofs.of_types.Truths.{less_than, same_test}

-- ---- the entries of a map

above_said : (x : ℕ) (es : List (ℕ × Row)) → AllByRecursion (λ y. nat_cmp x y ≡ Less) (keys_of es) → Above x (said es)
above_said x [] a = tt
above_said x (e ∷ es) a = (less_than x e.0 a.0, above_said x es a.1)

pub said_rising : (es : List (ℕ × Row)) → IsStrictlySortedBy nat_cmp (keys_of es) → Rising (said es)
unfolding IsStrictlySortedBy
said_rising [] s = tt
said_rising (e ∷ es) s = (above_said e.0 es s.0, said_rising es s.1)

pub look_said : (x : ℕ) (es : List (ℕ × Row)) → look x (said es) ≡ option_map (λ (r : Row). r.has) (lookup (is_at (nat_cmp x)) es)
look_said x [] = refl
look_said x (e ∷ es) =
    ap (λ b. cond b (Some e.1.has) (look x (said es))) (sym (same_test x e.0))
    ∙ ap (cond (is_eq (nat_cmp x e.0)) (Some e.1.has)) (look_said x es)
    ∙ elim (is_eq (nat_cmp x e.0)) as (λ b. cond b (Some e.1.has) (option_map (λ (r : Row). r.has) (lookup (is_at (nat_cmp x)) es)) ≡ option_map (λ (r : Row). r.has) (cond b (Some e.1) (lookup (is_at (nat_cmp x)) es)))
    [ true ↦ refl | false ↦ refl ]

pub said_listed : (m : IdMap Row) (t : Operation) → idmap.IsOrdered m → HasDistinctIds t → Whole (rows_at m) (points own_of None t) → said m.entries ≡ by_id (of_each (effects own_of) t)
said_listed m t ordered d h =
    rising_same (said m.entries) (by_id (of_each (effects own_of) t)) (said_rising m.entries ordered) (each_rising (effects own_of) t d)
    (λ x. look_said x m.entries ∙ sym (each_look (effects own_of) t d x ∙ shown_found own_of t (rows_at m) d h x))

-- ---- rows

module _ (c : ContextModel) where
  term_tag : (b : Bool) (n : ℕ) → map (cell_meaning c) (tag_if cell.Tag b n) ≡ tag_if Tag b n
  term_tag true n = refl
  term_tag false n = refl

  term_more : (xs : List Cell) (ys : List CellTerm) (b : Bool) (n : ℕ) → map (cell_meaning c) xs ≡ ys → map (cell_meaning c) (xs ++ tag_if cell.Tag b n) ≡ ys ++ tag_if Tag b n
  term_more xs ys b n e = map-append (cell_meaning c) xs (tag_if cell.Tag b n) ∙ λ i. e i ++ term_tag b n i

  row_says : (p : ℕ × EffectKinds) → map (cell_meaning c) (cells_of cell.Op cell.Tag p) ≡ cells_of Op Tag p
  row_says p =
      let x0 : List Cell = cell.Op p.0 ∷ [] in
      let x1 : List Cell = x0 ++ tag_if cell.Tag p.1.unknown 5 in
      let x2 : List Cell = x1 ++ tag_if cell.Tag p.1.allocate 6 in
      let x3 : List Cell = x2 ++ tag_if cell.Tag p.1.free 7 in
      let x4 : List Cell = x3 ++ tag_if cell.Tag p.1.read 8 in
      let y0 : List CellTerm = Op p.0 ∷ [] in
      let y1 : List CellTerm = y0 ++ tag_if Tag p.1.unknown 5 in
      let y2 : List CellTerm = y1 ++ tag_if Tag p.1.allocate 6 in
      let y3 : List CellTerm = y2 ++ tag_if Tag p.1.free 7 in
      let y4 : List CellTerm = y3 ++ tag_if Tag p.1.read 8 in
      term_more x4 y4 p.1.write 9 (term_more x3 y3 p.1.read 8 (term_more x2 y2 p.1.free 7 (term_more x1 y1 p.1.allocate 6 (term_more x0 y0 p.1.unknown 5 refl))))

  known_more : (xs : List Cell) (b : Bool) (n : ℕ) → n < 10 → All (CellIsOf c) xs → All (CellIsOf c) (xs ++ tag_if cell.Tag b n)
  known_more xs b n l a =
      All-append (CellIsOf c) xs (tag_if cell.Tag b n) a
      (elim b as (λ b. All (CellIsOf c) (tag_if cell.Tag b n)) [ true ↦ All-cons (CellIsOf c) (cell.Tag n) [] l (All-nil (CellIsOf c)) | false ↦ All-nil (CellIsOf c) ])

  row_known : (p : ℕ × EffectKinds) → All (CellIsOf c) (cells_of cell.Op cell.Tag p)
  row_known p =
      let x0 : List Cell = cell.Op p.0 ∷ [] in
      let x1 : List Cell = x0 ++ tag_if cell.Tag p.1.unknown 5 in
      let x2 : List Cell = x1 ++ tag_if cell.Tag p.1.allocate 6 in
      let x3 : List Cell = x2 ++ tag_if cell.Tag p.1.free 7 in
      let x4 : List Cell = x3 ++ tag_if cell.Tag p.1.read 8 in
      known_more x4 p.1.write 9 (omega arith) (known_more x3 p.1.read 8 (omega arith) (known_more x2 p.1.free 7 (omega arith) (known_more x1 p.1.allocate 6 (omega arith)
      (known_more x0 p.1.unknown 5 (omega arith) (All-cons (CellIsOf c) (cell.Op p.0) [] (tt {0}) (All-nil (CellIsOf c)))))))

  rows_say : (rows : List Line) (ps : List (ℕ × EffectKinds)) → map (λ (r : Line). r.cells.items) rows ≡ map (cells_of cell.Op cell.Tag) ps → rows_meaning c rows ≡ map (cells_of Op Tag) ps
  rows_say [] [] e = refl
  rows_say [] (p ∷ ps) e = absurd cc
  rows_say (r ∷ rs) [] e = absurd cc
  rows_say (r ∷ rs) (p ∷ ps) e =
      let one : r.cells.items ≡ cells_of cell.Op cell.Tag p = cc in
      let rest : map (λ (r : Line). r.cells.items) rs ≡ map (cells_of cell.Op cell.Tag) ps = cc in
      λ i. (ap (map (cell_meaning c)) one ∙ row_says p) i ∷ rows_say rs ps rest i

  rows_known : (rows : List Line) (ps : List (ℕ × EffectKinds)) → map (λ (r : Line). r.cells.items) rows ≡ map (cells_of cell.Op cell.Tag) ps → All (RowIsOf c) rows
  rows_known [] ps e = All-nil (RowIsOf c)
  rows_known (r ∷ rs) [] e = absurd cc
  rows_known (r ∷ rs) (p ∷ ps) e =
      let one : r.cells.items ≡ cells_of cell.Op cell.Tag p = cc in
      let rest : map (λ (r : Line). r.cells.items) rs ≡ map (cells_of cell.Op cell.Tag) ps = cc in
      All-cons (RowIsOf c) r rs (subst (All (CellIsOf c)) (sym one) (row_known p)) (rows_known rs ps rest)

  pub shows_effects : (m : IdMap Row) (rows : List Line) (t : Operation) → idmap.IsOrdered m → map (λ (r : Line). r.cells.items) rows ≡ map (cells_of cell.Op cell.Tag) (having (said m.entries))
      → HasDistinctIds t → Whole (rows_at m) (points own_of None t) → Shows c rows (effects_rows t)
  shows_effects m rows t ordered is d h =
      let e = is ∙ ap (λ l. map (cells_of cell.Op cell.Tag) (having l)) (said_listed m t ordered d h) in
      record { says = rows_say rows (effects_of t) e; known = rows_known rows (effects_of t) e }

  -- the rows about a subject
  pub shows_effects_about : (s : Subject) (rows : Rows) (out : List Line) (t : Operation) → map (λ (r : Line). r.cells.items) out ≡ map (cells_of cell.Op cell.Tag) (said_about s rows)
      → HasDistinctIds t → Whole rows (points own_of None t) → Shows c out (rows_about s (effects_rows t))
  shows_effects_about (subject.Op x) rows out t is d h =
      let found = each_look (effects own_of) t d x ∙ shown_found own_of t rows d h x in
      record {
        says = rows_say out _ is ∙ sym (about_effects x (by_id (of_each (effects own_of) t)) (rows x) (each_rising (effects own_of) t d) found);
        known = rows_known out _ is;
      }
  shows_effects_about (subject.Val v) rows out t is d h =
      record { says = rows_say out [] is ∙ sym (no_effects v (by_id (of_each (effects own_of) t))); known = rows_known out [] is }
