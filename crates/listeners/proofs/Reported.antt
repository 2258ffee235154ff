-- The rows of a report.
use Rattle.std.proofs.Common.{◌≡◌, refl, ap, sym, ◌∙◌, subst, ℕ, ◌++◌, Bool, true, false, true≢false, not, cond, ◌&&◌, List, [], ◌∷◌, map, filter, Option, Some, None, inl, inr}
use Rattle.std.specs.Prelude.{option_map, is_some, is_none, IfSome}
use Rattle.std.specs.List.{All}
use Rattle.std.specs.Ordering.{nat_cmp}
use Rattle.listeners_support.specs.Map as idmap
use Rattle.std.proofs.lemmas.List.{map-append}
use Rattle.std.proofs.lemmas.List.Elements.{All-cons, All-nil}
use Rattle.ir_event.specs.types.Things.{ContextModel, IsExtendedBy, IsName}
use Rattle.ir_event.specs.types.Sound.{Holds, IsSound}
use Rattle.ir_event.specs.types.Terms.{TypeTerm, AttrTerm, name_term}
use Rattle.ir_event.proofs.of_types.Terms.{name_stays}
use Rattle.ir_event.specs.trees.Ids.{HasDistinctIds, ids}
use Rattle.ir_event.specs.trees.Meaning.{Operation}
use Rattle.ir_event.proofs.of_tree_laws.Listed.{bool_cases}
use Rattle.ir_event.specs.declared.row.Cell.TheVariants as cell
use Rattle.ir_event.specs.declared.row.Row.{Row}
use Rattle.ir_event.specs.Rows.{Op, Name, cell_meaning, rows_meaning, CellIsOf, RowIsOf, Shows}
use Rattle.listeners_symbols.specs.declared.role.Role.{Role as Numbers}
use Rattle.listeners_symbols.specs.declared.roles.Roles.{Roles}
use Rattle.listeners_symbols.specs.Roles.{Role, role_of}
use Rattle.listeners_symbols.specs.Symbols.{RolesOf, definitions, roles_by_id}
use Rattle.listeners_symbols.specs.Table.{role_numbers, RoleIsOf, IsPlain, Keeps, IsKept}
use Rattle.listeners_symbols.specs.Lines.{cells_of, numbered, numbers_at}
use Rattle.listeners_symbols.specs.Listeners.{kept_at}
use Rattle.listeners_symbols.proofs.Agreed.{name_more}
use Rattle.listeners_symbols.proofs.Omitted.{entry_known}
use Rattle.listeners_symbols.proofs.Reported.{Each, each_append, meant, contributed, contributed_all}
use Rattle.listeners.specs.Reached.{among}
use Rattle.listeners.specs.Unreached.{private_name, says_definition, is_definition, reached_in, unreached_of, line_of, lines_with, line_cells, unreached_rows}
use Rattle.listeners.specs.Marking.{Left}
use Rattle.listeners.specs.Marks.{IsMarked}
use Rattle.listeners.specs.Lines.{lines_cells, is_out}
use Rattle.listeners.proofs.Least.{in_among, among_in}
use Rattle.listeners.proofs.Sets.{in_reached, reached_is_in}
use Rattle.listeners.proofs.Numbers.{not_private, private_meant, definition_meant, to_tree, from_tree}
use Rattle.listeners_symbols.proofs.Entries.{each_entry}
use Rattle.ir_event.proofs.of_types.Truths.{same_bool}
use Rattle.ir_event.proofs.of_tree_laws.Reasoned.{some_there}

none_true : {X : Type 0} (o : Option X) → is_none o ≡ true → o ≡ None
none_true None e = refl
none_true (Some x) e = absurd (true≢false (sym e))

module _ (b : ContextModel) (sound : IsSound b) (t : Operation) (d : HasDistinctIds t) (m : Roles) (ordered : idmap.IsOrdered m.all) (keeps : Keeps b t (kept_at m)) (left : Left) (marked : IsMarked (numbers_at m) (definitions (numbered m.all.entries)) left) where
  -- a definition is marked exactly if it is reached
  pub out_where_reached : (x : ℕ) → is_definition t x ≡ true → is_out left x ≡ among x (reached_in t)
  out_where_reached x e = same_bool (is_out left x) (among x (reached_in t))
      (λ o. in_among x (reached_in t) (reached_is_in t x (to_tree b sound t m keeps d ordered x (marked.sound x (sym (definition_meant b sound t m keeps x) ∙ e) (none_true (left x) o)))))
      (λ o. ap is_none (marked.complete x (from_tree b sound t m keeps d ordered x (in_reached t x (among_in x (reached_in t) o)))))

  -- ---- the unmarked operations, in pre-order
  pub left_filtered : (xs : List ℕ) → filter (λ x. is_some (left x)) xs ≡ filter (λ x. not (among x (reached_in t))) (filter (is_definition t) xs)
  left_filtered [] = refl
  left_filtered (x ∷ xs) = elim (bool_cases (is_definition t x)) [
    | inl e ↦ (λ i. cond ((test x ∙ ap not (out_where_reached x e)) i) (x ∷ left_filtered xs i) (left_filtered xs i)) ∙ sym (ap (λ c. filter (λ z. not (among z (reached_in t))) (cond c (x ∷ filter (is_definition t) xs) (filter (is_definition t) xs))) e)
    | inr e ↦ (λ i. cond (absent x e i) (x ∷ left_filtered xs i) (left_filtered xs i)) ∙ sym (ap (λ c. filter (λ z. not (among z (reached_in t))) (cond c (x ∷ filter (is_definition t) xs) (filter (is_definition t) xs))) e)
  ]
    where
      test : (x : ℕ) → is_some (left x) ≡ not (is_out left x)
      test x = go (left x)
        where
          go : (o : Option (List ℕ)) → is_some o ≡ not (is_none o)
          go None = refl
          go (Some w) = refl

      absent : (x : ℕ) → is_definition t x ≡ false → is_some (left x) ≡ false
      absent x e = elim (bool_cases (is_some (left x))) [
        | inr k ↦ k
        | inl k ↦ (let w = some_there (left x) k in absurd (true≢false (sym (definition_meant b sound t m keeps x ∙ marked.only x w.0 w.1) ∙ e)))
      ]

  pub left_unreached : filter (λ x. is_some (left x)) (ids t) ≡ unreached_of t
  left_unreached = left_filtered (ids t)

  -- ---- rows
  abbrev named : ℕ × ℕ → ℕ × List ℕ
  named l = (l.0, name_term b l.1)

  line_meant : (x : ℕ) (p q : Bool) (name : Option ℕ) → (is_some name ≡ true → p ≡ q) → line_of q x (option_map (name_term b) name) ≡ map named (line_of p x name)
  line_meant x true true name e = refl
  line_meant x false true None e = refl
  line_meant x true false None e = refl
  line_meant x false false None e = refl
  line_meant x true false (Some n) e = absurd (true≢false (e refl))
  line_meant x false true (Some n) e = absurd (true≢false (sym (e refl)))
  line_meant x false false (Some n) e = refl

  lines_meant : (es : List (ℕ × Numbers)) → Each (λ (e : ℕ × Numbers). kept_at m e.0 ≡ Some e.1) es → lines_with (λ x. among x (reached_in t)) (meant b es) ≡ map named (lines_with (is_out left) (numbered es))
  lines_meant [] k = refl
  lines_meant (e ∷ es) k =
      (λ i. line_of (among e.0 (reached_in t)) e.0 (private_meant b e.1 i) ++ lines_meant es k.1 i)
      ∙ ap (λ l. l ++ map named (lines_with (is_out left) (numbered es)))
      (line_meant e.0 (is_out left e.0) (among e.0 (reached_in t)) (private_name (role_numbers e.1))
      (λ s. out_where_reached e.0 (definition_meant b sound t m keeps e.0 ∙ ap (λ (o : Option Numbers). says_definition (option_map role_numbers o)) k.0 ∙ s)))
      ∙ sym (map-append named (line_of (is_out left e.0) e.0 (private_name (role_numbers e.1))) (lines_with (is_out left) (numbered es)))

  abbrev LineIs : ℕ × ℕ → Type 0
  LineIs l = IsName b l.1

  line_known : (x : ℕ) (p : Bool) (name : Option ℕ) → IfSome name (IsName b) → Each LineIs (line_of p x name)
  line_known x true name k = tt
  line_known x false None k = tt
  line_known x false (Some n) k = (k, tt)

  private_known : (r : Numbers) → RoleIsOf b r → IfSome (private_name (role_numbers r)) (IsName b)
  private_known r k = elim (is_some r.home && r.is_private) as (λ c. IfSome (cond c r.symbol None) (IsName b)) [ true ↦ k.symbol | false ↦ tt ]

  lines_known : (es : List (ℕ × Numbers)) → Each (λ (e : ℕ × Numbers). RoleIsOf b e.1) es → Each LineIs (lines_with (is_out left) (numbered es))
  lines_known [] k = tt
  lines_known (e ∷ es) k = each_append LineIs (line_of (is_out left e.0) e.0 (private_name (role_numbers e.1))) (lines_with (is_out left) (numbered es)) (line_known e.0 (is_out left e.0) (private_name (role_numbers e.1)) (private_known e.1 k.0)) (lines_known es k.1)

-- ---- the rows of a table that omits plain roles
module _ (b : ContextModel) (t : Operation) (m : Roles) (ordered : idmap.IsOrdered m.all) (keeps : Keeps b t (kept_at m)) where
  pub lines_all : lines_with (λ x. among x (reached_in t)) (meant b m.all.entries) ≡ lines_with (λ x. among x (reached_in t)) (roles_by_id t)
  lines_all = sym (each (meant b m.all.entries)) ∙ contributed_all t f reports_nothing b m ordered keeps ∙ each (roles_by_id t)
    where
      f : ℕ → Role → List (ℕ × List ℕ)
      f x r = line_of (among x (reached_in t)) x (private_name r)

      none : (x : ℕ) (p : Bool) (name : Option (List ℕ)) → is_some name ≡ false → line_of p x name ≡ []
      none x true name e = refl
      none x false None e = refl
      none x false (Some n) e = absurd (true≢false e)

      reports_nothing : (x : ℕ) (r : Role) → IsPlain r → f x r ≡ []
      reports_nothing x r p = none x (among x (reached_in t)) (private_name r) (not_private r p)

      each : (es : RolesOf (List ℕ) TypeTerm AttrTerm) → contributed t f reports_nothing es ≡ lines_with (λ x. among x (reached_in t)) es
      each [] = refl
      each (e ∷ es) = ap (λ l. f e.0 e.1 ++ l) (each es)

-- ---- rows in a context that has grown
module _ (b c : ContextModel) (holds : Holds b) (g : IsExtendedBy b c) where
  cells_known : (l : ℕ × ℕ) → IsName b l.1 → All (CellIsOf c) (line_cells cell.Op cell.Name l)
  cells_known l k = All-cons (CellIsOf c) (cell.Op l.0) (cell.Name l.1 ∷ []) (tt {0}) (All-cons (CellIsOf c) (cell.Name l.1) [] (name_more b c holds g l.1 k) (All-nil (CellIsOf c)))

  rows_say : (rows : List Row) (ls : List (ℕ × ℕ)) → cells_of rows ≡ lines_cells ls → Each (λ (l : ℕ × ℕ). IsName b l.1) ls → rows_meaning c rows ≡ map (line_cells Op Name) (map (λ (l : ℕ × ℕ). (l.0, name_term b l.1)) ls)
  rows_say [] [] e k = refl
  rows_say [] (l ∷ ls) e k = absurd cc
  rows_say (r ∷ rs) [] e k = absurd cc
  rows_say (r ∷ rs) (l ∷ ls) e k =
      let one : r.cells.items ≡ line_cells cell.Op cell.Name l = cc in
      let rest : cells_of rs ≡ lines_cells ls = cc in
      λ i. (ap (map (cell_meaning c)) one ∙ ap (λ z. Op l.0 ∷ Name z ∷ []) (name_stays b c l.1 g k.0)) i ∷ rows_say rs ls rest k.1 i

  rows_known : (rows : List Row) (ls : List (ℕ × ℕ)) → cells_of rows ≡ lines_cells ls → Each (λ (l : ℕ × ℕ). IsName b l.1) ls → All (RowIsOf c) rows
  rows_known [] ls e k = All-nil (RowIsOf c)
  rows_known (r ∷ rs) [] e k = absurd cc
  rows_known (r ∷ rs) (l ∷ ls) e k =
      let one : r.cells.items ≡ line_cells cell.Op cell.Name l = cc in
      let rest : cells_of rs ≡ lines_cells ls = cc in
      All-cons (RowIsOf c) r rs (subst (All (CellIsOf c)) (sym one) (cells_known l k.0)) (rows_known rs ls rest k.1)

pub shows_unreached : (c : ContextModel) (t : Operation) (m : Roles) (rows : List Row) → idmap.IsOrdered m.all → HasDistinctIds t → IsKept c t (kept_at m)
    → (left : Left) → IsMarked (numbers_at m) (definitions (numbered m.all.entries)) left → cells_of rows ≡ lines_cells (lines_with (is_out left) (numbered m.all.entries)) → Shows c rows (unreached_rows t)
shows_unreached c t m rows ordered d kept left marked is =
    let b = kept.from in
    let keeps = kept.keeps in
    let es = m.all.entries in
    let at = each_entry (λ q r. kept_at m q ≡ Some r) es ordered (λ q r i. i) in
    let known = each_entry (λ q r. RoleIsOf b r) es ordered (λ q r i. subst (λ (o : Option Numbers). IfSome o (RoleIsOf b)) i (entry_known b (role_of t q) (kept_at m q) (keeps.says q))) in
    let lk = lines_known b kept.sound t d m ordered keeps left marked es known in
    let same = sym (lines_meant b kept.sound t d m ordered keeps left marked es at) ∙ lines_all b t m ordered keeps in
    record {
      says = rows_say b c kept.sound.holds kept.grown rows _ is lk ∙ ap (map (line_cells Op Name)) same;
      known = rows_known b c kept.sound.holds kept.grown rows _ is lk;
    }
