-- The report rows about an operation or a value.
use Rattle.std.proofs.Common.{◌≡◌, ◌∙◌, refl, sym, ap, subst, ℕ, ◌<◌, Bool, true, false, cond, List, [], ◌∷◌, ◌++◌, map, filter, append-nil, Option, Some, None, slice_get, inl, inr, arith}
use Rattle.std.specs.Prelude.{option_map, All}
use Rattle.std.proofs.lemmas.Bool.{cases_eq}
use Rattle.std.proofs.lemmas.List.Elements.{All-filter, All-nil, filter-append}
use Rattle.std.proofs.lemmas.Option.{slice_get-map}
use Rattle.op_registry.specs.types.Things.{ContextModel}
use Rattle.op_registry.specs.types.Terms.{name_term, type_term, attr_term}
use Rattle.ir_store.specs.trees.Tree.{Op}
use Rattle.ir_store.specs.trees.Ids.{has_id}
use Rattle.ir_store.specs.trees.Meaning.{meaning}
use Rattle.ir_store.specs.trees.declared.value.Value.{Value}
use Rattle.ir_store.specs.tree_laws.Values.{has_value}
use Rattle.ir_store.proofs.of_tree_laws.Contents.{map_has_id, map_has_value}
use Rattle.ir_event.specs.declared.row.Cell.{Cell}
use Rattle.ir_event.specs.declared.row.Row.{Row}
use Rattle.ir_event.specs.declared.subject.Subject.{Subject}
use Rattle.ir_event.specs.declared.subject.Subject.TheVariants as subject
use Rattle.ir_event.specs.Rows.{RowTerm, RowIsOf, Shows, cell_meaning, row_meaning, rows_meaning}
use Rattle.ir_event.specs.Subjects.{is_about, is_there, names_there, place_about, rows_about}
use Rattle.ir_event.proofs.ById.{look, Above, Rising, look_here, look_past}

-- an operation or a value is in a tree of ids iff it is in the tree that the ids mean
pub op_means : (c : ContextModel) (x : ℕ) (t : Op) → is_there (subject.Op x) (meaning c t) ≡ has_id x t
op_means c x t = map_has_id (name_term c) (type_term c) (attr_term c) x t

pub value_means : (c : ContextModel) (v : Value) (t : Op) → is_there (subject.Val v) (meaning c t) ≡ has_value v t
value_means c v t = map_has_value (name_term c) (type_term c) (attr_term c) v t

-- the cell that names the subject of a row, by ids
pub about_cell : (d : ContextModel) (s : Subject) (cells : List Cell) (place : ℕ) (o : Option Cell) → place ≡ place_about (map (cell_meaning d) cells) → slice_get cells place ≡ o → names_there s (option_map (cell_meaning d) o) ≡ is_about s (map (cell_meaning d) cells)
about_cell d s cells place o at is =
    ap (λ z. names_there s (option_map (cell_meaning d) z)) (sym is)
    ∙ ap (names_there s) (sym (slice_get-map (cell_meaning d) cells place))
    ∙ ap (λ i. names_there s (slice_get (map (cell_meaning d) cells) i)) at

-- rows that are kept
module _ (d : ContextModel) (s : Subject) where
  abbrev pub is_row_about : Row → Bool
  is_row_about row = is_about s (row_meaning d row)

  kept_say : (rows : List Row) → rows_meaning d (filter is_row_about rows) ≡ rows_about s (rows_meaning d rows)
  kept_say [] = refl
  kept_say (r ∷ rows) = elim (is_row_about r) as (λ b. rows_meaning d (cond b (r ∷ filter is_row_about rows) (filter is_row_about rows)) ≡ cond b (row_meaning d r ∷ rows_about s (rows_meaning d rows)) (rows_about s (rows_meaning d rows))) [
    | true ↦ ap (λ l. row_meaning d r ∷ l) (kept_say rows)
    | false ↦ kept_say rows
  ]

  pub shows_kept : (rows kept : List Row) (terms : List RowTerm) → kept ≡ filter is_row_about rows → Shows d rows terms → Shows d kept (rows_about s terms)
  shows_kept rows kept terms is shows = record {
    says = ap (rows_meaning d) is ∙ kept_say rows ∙ ap (rows_about s) shows.says;
    known = subst (All (RowIsOf d)) (sym is) (All-filter is_row_about (RowIsOf d) rows shows.known);
  }

-- no rows
pub shows_none : (d : ContextModel) (rows : List Row) (terms : List RowTerm) → rows ≡ [] → terms ≡ [] → Shows d rows terms
shows_none d rows terms e f = record { says = ap (rows_meaning d) e ∙ sym f; known = subst (All (RowIsOf d)) (sym e) (All-nil (RowIsOf d)) }

-- rows by entries of a table
abbrev pub all_rows : {V : Type 0} → (ℕ × V → List RowTerm) → List (ℕ × V) → List RowTerm
all_rows rows [] = []
all_rows rows (p ∷ ps) = rows p ++ all_rows rows ps

module _ {V : Type 0} (s : Subject) (rows : ℕ × V → List RowTerm) where
  -- no entry has rows about the subject
  pub about_none : ((p : ℕ × V) → rows_about s (rows p) ≡ []) → (ps : List (ℕ × V)) → rows_about s (all_rows rows ps) ≡ []
  about_none none [] = refl
  about_none none (p ∷ ps) = filter-append (is_about s) (rows p) (all_rows rows ps) ∙ λ i. none p i ++ about_none none ps i

  -- the rows about the subject, by the entry of x
  abbrev pub rows_at : ℕ → Option V → List RowTerm
  rows_at x None = []
  rows_at x (Some v) = rows_about s (rows (x, v))

  -- only the entry of x has rows about the subject
  module _ (x : ℕ) (others : (p : ℕ × V) → (x ≡ p.0 → ⊥) → rows_about s (rows p) ≡ []) where
    none_above : (ps : List (ℕ × V)) → Above x ps → rows_about s (all_rows rows ps) ≡ []
    none_above [] a = refl
    none_above (p ∷ ps) a =
        let apart : x ≡ p.0 → ⊥ = λ e. (let l = a.0 in omega (arith, e, l)) in
        filter-append (is_about s) (rows p) (all_rows rows ps) ∙ λ i. others p apart i ++ none_above ps a.1 i

    pub about_entry : (ps : List (ℕ × V)) → Rising ps → rows_about s (all_rows rows ps) ≡ rows_at x (look x ps)
    about_entry [] r = refl
    about_entry (p ∷ ps) r =
        filter-append (is_about s) (rows p) (all_rows rows ps)
        ∙ elim (cases_eq x p.0) [
          | inl e ↦ ap (λ l. rows_about s (rows p) ++ l) (none_above ps (subst (λ k. Above k ps) (sym e) r.0))
              ∙ append-nil (rows_about s (rows p))
              ∙ ap (λ k. rows_about s (rows (k, p.1))) (sym e)
              ∙ sym (ap (rows_at x) (ap (λ k. look k (p ∷ ps)) e ∙ look_here p ps))
          | inr ne ↦ ap (λ l. l ++ rows_about s (all_rows rows ps)) (others p ne) ∙ about_entry ps r.1 ∙ sym (ap (rows_at x) (look_past x p ps ne))
        ]
