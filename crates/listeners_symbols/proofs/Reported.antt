-- The rows of a report.
use Rattle.std.proofs.Common.{◌≡◌, refl, ap, sym, ◌∙◌, subst, ℕ, ◌++◌, Bool, true, false, true≢false, cond, not, ◌&&◌, ◌||◌, eqb, eq-eqb, eqb-true, List, [], ◌∷◌, map, Option, Some, None, inl, inr, ◌⊎◌, arith}
use Rattle.std.specs.Prelude.{option_map, IfSome, is_some}
use Rattle.std.specs.List.{AllByRecursion, All, list_any}
use Rattle.std.specs.List.Sorted.{IsStrictlySortedBy}
use Rattle.std.specs.Option.{option_eq}
use Rattle.std.specs.Str.{bytes_eq}
use Rattle.std.specs.Ordering.{nat_cmp, is_eq, is_lt}
use Rattle.std.specs.Cmp.Lexicographic.{pointwise}
use Rattle.std.specs.declared.cmp.Ordering.{Ordering}
use Rattle.std.specs.declared.cmp.Ordering.TheVariants.{Less, Equal, Greater}
use Rattle.std.specs.Map.{lookup, keys_of}
use Rattle.std.specs.BTreeMap.{is_at}
use Rattle.listeners_support.specs.Map as idmap
use Rattle.std.specs.FinMap.{nat_cmp-IsAntisymmetric}
use Rattle.std.specs.FinMap.Entries.{find, is_sorted, below_all, where_key, find-put, find-where_key, is_sorted-put, is_sorted-where_key, same_entries}
use Rattle.std.proofs.lemmas.Cmp.{nat_cmp_total}
use Rattle.std.proofs.lemmas.List.{map-append}
use Rattle.std.proofs.lemmas.List.Elements.{All-head, All-tail, All-cons, All-nil}
use lib.Dec.{T}
use Rattle.ir_event.specs.types.Things.{ContextModel, IsExtendedBy, IsName, IsType, IsAttr}
use Rattle.ir_event.specs.types.Sound.{Holds, IsSound}
use Rattle.ir_event.specs.types.Terms.{TypeTerm, AttrTerm, name_term, type_term, attr_term}
use Rattle.ir_event.proofs.of_types.Growth.{name_is, name_refl}
use Rattle.ir_event.proofs.of_types.Terms.{name_stays, attr_stays, name_term_one, type_term_one}
use Rattle.ir_event.specs.trees.Meaning.{Operation}
use Rattle.ir_event.specs.tree_laws.Stands.{op_with_path_id, stands, find_op_with_path}
use Rattle.ir_event.proofs.of_tree_laws.Listed.{bool_cases}
use Rattle.ir_event.specs.declared.row.Cell.{Cell}
use Rattle.ir_event.specs.declared.row.Cell.TheVariants as cell
use Rattle.ir_event.specs.declared.row.Row.{Row}
use Rattle.ir_event.specs.Rows.{Op, Name, Path, Tag, IsSymbol, cell_meaning, rows_meaning, CellIsOf, RowIsOf, Shows}
use Rattle.listeners_symbols.specs.declared.definers.Definers.{Definers}
use Rattle.listeners_symbols.specs.declared.definers.Definers.TheVariants.{Listed, AnyNamed}
use Rattle.listeners_symbols.specs.declared.role.Role.{Role as Numbers}
use Rattle.listeners_symbols.specs.declared.roles.Roles.{Roles}
use Rattle.listeners_symbols.specs.declared.role.Reference.{Reference}
use Rattle.listeners_symbols.specs.declared.role.Call.{Call}
use Rattle.listeners_symbols.specs.declared.role.Signature.{Signature}
use Rattle.ir_event.specs.types.SameTypes.{same_type}
use Rattle.listeners_symbols.specs.Roles.{OpWithPath, Role, role, role_of}
use Rattle.listeners_symbols.specs.Symbols.{RolesOf, roles_in, roles_by_id, DefinitionOf, defined, definitions, says_table, function_at, LineOf, Definition, Duplicate, Use, Unresolved, Unknown, Mismatch, first_defined, is_duplicate, look_in, resolve, fits, definition_lines, duplicate_lines, is_among, name_unless, undefined, undefined_names, possible_names, reference_line, reference_lines, all_reference_lines, mismatch_line, call_line, mismatch_lines, lines_with, symbol_lines, line_cells, symbol_rows}
use Rattle.listeners_symbols.specs.Table.{reference_of, call_numbers, signature_numbers, role_numbers, map_reference, map_call, map_signature, role_meaning, call_meaning, RoleIsOf, ReferenceIsOf, CallIsOf, SignatureIsOf, IsPlain, MaySay, Keeps, IsKept}
use Rattle.listeners_symbols.specs.Listeners.{kept_at}
use Rattle.listeners_symbols.specs.Lines.{numbered, numbers_at, cells_of, lines_cells}
use Rattle.ir_event.proofs.of_types.SameTerms.{type_is, type_refl}
use Rattle.listeners_symbols.proofs.Agreed.{name_more, attr_more}
use Rattle.listeners_symbols.proofs.Omitted.{said, entry_known}
use Rattle.ir_event.proofs.of_types.Truths.{same_test}
use Rattle.ir_event.proofs.of_types.Sorting.{flips_eq}

abbrev pub Each : {X : Type 0} → (X → Type 0) → List X → Type 0
Each P [] = Unit {0}
Each P (x ∷ xs) = P x × Each P xs

pub each_append : {X : Type 0} (P : X → Type 0) (xs ys : List X) → Each P xs → Each P ys → Each P (xs ++ ys)
each_append P [] ys a b = b
each_append P (x ∷ xs) ys a b = (a.0, each_append P xs ys a.1 b)

-- a test that holds exactly if two numbers are equal
pub decided : (test : Bool) (m n : ℕ) → (test ≡ true → m ≡ n) → (m ≡ n → test ≡ true) → test ≡ eqb m n
decided test m n f g = elim (bool_cases test) [
  | inl e ↦ e ∙ sym (eq-eqb m n (f e))
  | inr e ↦ elim (bool_cases (eqb m n)) [ inl k ↦ absurd (true≢false (sym (g (eqb-true m n k)) ∙ e)) | inr k ↦ e ∙ sym k ]
]

-- a definition, and a row, in terms of contents
abbrev pub map_definition : {N M : Type 0} → (N → M) → DefinitionOf N → DefinitionOf M
map_definition f d = ((d.0.0, f d.0.1), d.1)

abbrev map_line : {N A M B : Type 0} → (N → M) → (A → B) → LineOf N A → LineOf M B
map_line f h (Definition t n x) = Definition t (f n) x
map_line f h (Duplicate t n x) = Duplicate t (f n) x
map_line f h (Use y p x) = Use y (h p) x
map_line f h (Unresolved y p) = Unresolved y (h p)
map_line f h (Unknown y p) = Unknown y (h p)
map_line f h (Mismatch y x) = Mismatch y x

module _ (b : ContextModel) where
  abbrev pub DefinitionIs : DefinitionOf ℕ → Type 0
  DefinitionIs d = IsName b d.0.1

  abbrev LineIs : LineOf ℕ ℕ → Type 0
  LineIs (Definition t n x) = IsName b n
  LineIs (Duplicate t n x) = IsName b n
  LineIs (Use y p x) = IsAttr b p × IsSymbol (attr_term b p)
  LineIs (Unresolved y p) = IsAttr b p × IsSymbol (attr_term b p)
  LineIs (Unknown y p) = IsAttr b p × IsSymbol (attr_term b p)
  LineIs (Mismatch y x) = Unit {0}

  abbrev pub EntryIs : ℕ × Numbers → Type 0
  EntryIs e = RoleIsOf b e.1

  abbrev pub meant : List (ℕ × Numbers) → RolesOf (List ℕ) TypeTerm AttrTerm
  meant es = map (λ (e : ℕ × Numbers). (e.0, role_meaning b e.1)) es

  abbrev in_line : LineOf ℕ ℕ → LineOf (List ℕ) AttrTerm
  in_line l = map_line (name_term b) (attr_term b) l

  abbrev pub defs_in : List (DefinitionOf ℕ) → List (DefinitionOf (List ℕ))
  defs_in ds = map (map_definition (name_term b)) ds

  one_defined : (home symbol : Option ℕ) (x : ℕ) → defined home (option_map (name_term b) symbol) x ≡ defs_in (defined home symbol x)
  one_defined None None x = refl
  one_defined None (Some n) x = refl
  one_defined (Some t) None x = refl
  one_defined (Some t) (Some n) x = refl

  pub definitions_meant : (es : List (ℕ × Numbers)) → definitions (meant es) ≡ defs_in (definitions (numbered es))
  definitions_meant [] = refl
  definitions_meant (e ∷ es) = (λ i. one_defined e.1.home e.1.symbol e.0 i ++ definitions_meant es i) ∙ sym (map-append (map_definition (name_term b)) (defined e.1.home e.1.symbol e.0) (definitions (numbered es)))

  one_known : (home symbol : Option ℕ) (x : ℕ) → IfSome symbol (IsName b) → Each DefinitionIs (defined home symbol x)
  one_known None None x k = tt
  one_known None (Some n) x k = tt
  one_known (Some t) None x k = tt
  one_known (Some t) (Some n) x k = (k, tt)

  pub definitions_known : (es : List (ℕ × Numbers)) → Each EntryIs es → Each DefinitionIs (definitions (numbered es))
  definitions_known [] k = tt
  definitions_known (e ∷ es) k = each_append DefinitionIs (defined e.1.home e.1.symbol e.0) (definitions (numbered es)) (one_known e.1.home e.1.symbol e.0 k.0.symbol) (definitions_known es k.1)

  definition_lines_meant : (ds : List (DefinitionOf ℕ)) → definition_lines (defs_in ds) ≡ map in_line (definition_lines ds)
  definition_lines_meant [] = refl
  definition_lines_meant (d ∷ ds) = ap (λ l. Definition d.0.0 (name_term b d.0.1) d.1 ∷ l) (definition_lines_meant ds)

  definition_lines_known : (ds : List (DefinitionOf ℕ)) → Each DefinitionIs ds → Each LineIs (definition_lines ds)
  definition_lines_known [] k = tt
  definition_lines_known (d ∷ ds) k = (k.0, definition_lines_known ds k.1)

  -- the names of operations that aren't definitions
  one_undefined : (defines : Bool) (name : Option ℕ) → name_unless defines (option_map (name_term b) name) ≡ map (name_term b) (name_unless defines name)
  one_undefined defines None = refl
  one_undefined true (Some n) = refl
  one_undefined false (Some n) = refl

  same_defines : (home symbol : Option ℕ) → (is_some home && is_some (option_map (name_term b) symbol)) ≡ (is_some home && is_some symbol)
  same_defines home None = refl
  same_defines home (Some n) = refl

  undefined_meant : (es : List (ℕ × Numbers)) → undefined_names (meant es) ≡ map (name_term b) (undefined_names (numbered es))
  undefined_meant [] = refl
  undefined_meant (e ∷ es) =
      (λ i. (ap (λ d. name_unless d (option_map (name_term b) e.1.name)) (same_defines e.1.home e.1.symbol) ∙ one_undefined (is_some e.1.home && is_some e.1.symbol) e.1.name) i ++ undefined_meant es i)
      ∙ sym (map-append (name_term b) (undefined e.1.home e.1.symbol e.1.name) (undefined_names (numbered es)))

  name_known : (defines : Bool) (name : Option ℕ) → IfSome name (IsName b) → Each (IsName b) (name_unless defines name)
  name_known defines None k = tt
  name_known true (Some n) k = tt
  name_known false (Some n) k = (k, tt)

  undefined_known : (es : List (ℕ × Numbers)) → Each EntryIs es → Each (IsName b) (undefined_names (numbered es))
  undefined_known [] k = tt
  undefined_known (e ∷ es) k = each_append (IsName b) (undefined e.1.home e.1.symbol e.1.name) (undefined_names (numbered es)) (name_known (is_some e.1.home && is_some e.1.symbol) e.1.name k.0.name) (undefined_known es k.1)

  possible_meant : (which : Definers) (es : List (ℕ × Numbers)) → possible_names which (meant es) ≡ map (name_term b) (possible_names which (numbered es))
  possible_meant Listed es = refl
  possible_meant AnyNamed es = undefined_meant es

  possible_known : (which : Definers) (es : List (ℕ × Numbers)) → Each EntryIs es → Each (IsName b) (possible_names which (numbered es))
  possible_known Listed es k = tt
  possible_known AnyNamed es k = undefined_known es k

  line_meant : (resolved may : Bool) (y p : ℕ) (found : Option ℕ) → reference_line resolved may y (attr_term b p) found ≡ map in_line (reference_line resolved may y p found)
  line_meant true may y p None = refl
  line_meant true may y p (Some x) = refl
  line_meant false true y p None = refl
  line_meant false false y p None = refl
  line_meant false may y p (Some x) = refl

  line_known : (resolved may : Bool) (y p : ℕ) (found : Option ℕ) → IsAttr b p × IsSymbol (attr_term b p) → Each LineIs (reference_line resolved may y p found)
  line_known true may y p None k = tt
  line_known true may y p (Some x) k = (k, tt)
  line_known false true y p None k = (k, tt)
  line_known false false y p None k = (k, tt)
  line_known false may y p (Some x) k = tt

  module _ (sound : IsSound b) where
    one_name : (m n : ℕ) → IsName b m → IsName b n → bytes_eq (name_term b m) (name_term b n) ≡ eqb m n
    one_name m n h k = decided (bytes_eq (name_term b m) (name_term b n)) m n (λ e. name_term_one b m n sound h k (name_is (name_term b m) (name_term b n) e)) (λ e. ap (λ z. bytes_eq (name_term b m) (name_term b z)) (sym e) ∙ name_refl (name_term b m))

    one_type : (m n : ℕ) → IsType b m → IsType b n → same_type (type_term b m) (type_term b n) ≡ eqb m n
    one_type m n h k = decided (same_type (type_term b m) (type_term b n)) m n (λ e. type_term_one b m n sound h k (type_is (type_term b m) (type_term b n) e)) (λ e. ap (λ z. same_type (type_term b m) (type_term b z)) (sym e) ∙ type_refl (type_term b m))

    among_meant : (names : List ℕ) → Each (IsName b) names → (n : ℕ) → IsName b n → is_among bytes_eq (map (name_term b) names) (name_term b n) ≡ is_among eqb names n
    among_meant [] k n h = refl
    among_meant (m ∷ names) k n h = λ i. one_name n m h k.0 i || among_meant names k.1 n h i

    may_meant : (names : List ℕ) → Each (IsName b) names → (ns : List ℕ) → All (IsName b) ns → list_any (is_among bytes_eq (map (name_term b) names)) (map (name_term b) ns) ≡ list_any (is_among eqb names) ns
    may_meant names k [] h = refl
    may_meant names k (n ∷ ns) h = λ i. among_meant names k n (All-head (IsName b) n ns h) i || may_meant names k ns (All-tail (IsName b) n ns h) i

    first_meant : (table n : ℕ) → IsName b n → (ds : List (DefinitionOf ℕ)) → Each DefinitionIs ds → first_defined bytes_eq table (name_term b n) (defs_in ds) ≡ first_defined eqb table n ds
    first_meant table n h [] k = refl
    first_meant table n h (d ∷ ds) k = λ i. cond (eqb d.0.0 table && one_name d.0.1 n k.0 h i) (Some d.1) (first_meant table n h ds k.1 i)

    duplicates_meant : (all : List (DefinitionOf ℕ)) → Each DefinitionIs all → (ds : List (DefinitionOf ℕ)) → Each DefinitionIs ds → duplicate_lines bytes_eq (defs_in all) (defs_in ds) ≡ map in_line (duplicate_lines eqb all ds)
    duplicates_meant all known [] k = refl
    duplicates_meant all known (d ∷ ds) k =
        let line : LineOf (List ℕ) AttrTerm = Duplicate d.0.0 (name_term b d.0.1) d.1 in
        (λ i. cond (not (option_eq eqb (first_meant d.0.0 d.0.1 k.0 all known i) (Some d.1))) (line ∷ duplicates_meant all known ds k.1 i) (duplicates_meant all known ds k.1 i))
        ∙ elim (is_duplicate eqb all d) as (λ z. cond z (line ∷ map in_line (duplicate_lines eqb all ds)) (map in_line (duplicate_lines eqb all ds)) ≡ map in_line (cond z (Duplicate d.0.0 d.0.1 d.1 ∷ duplicate_lines eqb all ds) (duplicate_lines eqb all ds)))
        [ true ↦ refl | false ↦ refl ]

    duplicates_known : (all : List (DefinitionOf ℕ)) (ds : List (DefinitionOf ℕ)) → Each DefinitionIs ds → Each LineIs (duplicate_lines eqb all ds)
    duplicates_known all [] k = tt
    duplicates_known all (d ∷ ds) k = let rest = duplicates_known all ds k.1 in elim (is_duplicate eqb all d) as (λ z. Each LineIs (cond z (Duplicate d.0.0 d.0.1 d.1 ∷ duplicate_lines eqb all ds) (duplicate_lines eqb all ds))) [ true ↦ (k.0, rest) | false ↦ rest ]

    types_meant : (xs ys : List ℕ) → All (IsType b) xs → All (IsType b) ys → pointwise same_type (map (type_term b) xs) (map (type_term b) ys) ≡ pointwise eqb xs ys
    types_meant [] [] h k = refl
    types_meant [] (y ∷ ys) h k = refl
    types_meant (x ∷ xs) [] h k = refl
    types_meant (x ∷ xs) (y ∷ ys) h k = λ i. one_type x y (All-head (IsType b) x xs h) (All-head (IsType b) y ys k) i && types_meant xs ys (All-tail (IsType b) x xs h) (All-tail (IsType b) y ys k) i

    inputs_meant : (xs ys : List ℕ) → All (IsType b) xs → All (IsType b) ys → pointwise (option_eq same_type) (map Some (map (type_term b) xs)) (map (option_map (type_term b)) (map Some ys)) ≡ pointwise (option_eq eqb) (map Some xs) (map Some ys)
    inputs_meant [] [] h k = refl
    inputs_meant [] (y ∷ ys) h k = refl
    inputs_meant (x ∷ xs) [] h k = refl
    inputs_meant (x ∷ xs) (y ∷ ys) h k = λ i. one_type x y (All-head (IsType b) x xs h) (All-head (IsType b) y ys k) i && inputs_meant xs ys (All-tail (IsType b) x xs h) (All-tail (IsType b) y ys k) i

    module _ (t : Operation) (m : Roles) (keeps : Keeps b t (kept_at m)) (ds : List (DefinitionOf ℕ)) (known : Each DefinitionIs ds) where
      table_meant : (x : ℕ) → says_table (role_of t x) ≡ says_table (numbers_at m x)
      table_meant x = said_table (keeps.says x)
        where
          go : (k : Option Numbers) → says_table (option_map (role_meaning b) k) ≡ says_table (option_map role_numbers k)
          go None = refl
          go (Some k) = refl

          said_table : MaySay b (role_of t x) (kept_at m x) → says_table (role_of t x) ≡ says_table (numbers_at m x)
          said_table (inl s) = ap says_table (sym s.is) ∙ go (kept_at m x)
          said_table (inr e) = ap says_table e.is ∙ e.simple.is_table ∙ sym (ap (λ o. says_table (option_map role_numbers o)) e.none)

      pub look_meant : (found : Option ℕ) (n : ℕ) → IsName b n → look_in bytes_eq (role_of t) (defs_in ds) found (name_term b n) ≡ look_in eqb (numbers_at m) ds found n
      look_meant None n h = refl
      look_meant (Some x) n h = λ i. cond (table_meant x i) (first_meant x n h ds known i) None

      resolve_meant : (found : Option ℕ) (ns : List ℕ) → All (IsName b) ns → resolve bytes_eq (role_of t) (defs_in ds) found (map (name_term b) ns) ≡ resolve eqb (numbers_at m) ds found ns
      resolve_meant found [] h = refl
      resolve_meant found (n ∷ ns) h =
          ap (λ z. resolve bytes_eq (role_of t) (defs_in ds) z (map (name_term b) ns)) (look_meant found n (All-head (IsName b) n ns h))
          ∙ resolve_meant (look_in eqb (numbers_at m) ds found n) ns (All-tail (IsName b) n ns h)

      fits_meant : (k : Call) → CallIsOf b k → (x : ℕ) → fits same_type (call_meaning b k) (function_at (role_of t x)) ≡ fits eqb (call_numbers k) (function_at (numbers_at m x))
      fits_meant k h x = said_fits (keeps.says x)
        where
          one : (s : Option Signature) → IfSome s (SignatureIsOf b) → fits same_type (call_meaning b k) (option_map (map_signature (type_term b)) (option_map signature_numbers s)) ≡ fits eqb (call_numbers k) (option_map signature_numbers s)
          one None l = refl
          one (Some s) l = λ i. inputs_meant s.inputs.items k.inputs.items l.inputs h.inputs i && types_meant s.outputs.items k.outputs.items l.outputs h.outputs i

          go : (r : Option Numbers) → IfSome r (RoleIsOf b) → fits same_type (call_meaning b k) (function_at (option_map (role_meaning b) r)) ≡ fits eqb (call_numbers k) (function_at (option_map role_numbers r))
          go None l = refl
          go (Some r) l = one r.function l.function

          said_fits : MaySay b (role_of t x) (kept_at m x) → fits same_type (call_meaning b k) (function_at (role_of t x)) ≡ fits eqb (call_numbers k) (function_at (numbers_at m x))
          said_fits (inl s) = ap (λ z. fits same_type (call_meaning b k) (function_at z)) (sym s.is) ∙ go (kept_at m x) s.known
          said_fits (inr e) =
              ap (λ z. fits same_type (call_meaning b k) (function_at z)) e.is
              ∙ ap (fits same_type (call_meaning b k)) e.simple.function
              ∙ sym (ap (λ o. fits eqb (call_numbers k) (function_at (option_map role_numbers o))) e.none)

      module _ (names : List ℕ) (are : Each (IsName b) names) where
        abbrev in_terms : List ℕ → Bool
        in_terms n = is_among bytes_eq (map (name_term b) names) n

        abbrev in_numbers : ℕ → Bool
        in_numbers n = is_among eqb names n

        references_meant : (resolved : Bool) (y : ℕ) (table : Option ℕ) (ps : List Reference) → All (ReferenceIsOf b) ps
            → reference_lines bytes_eq (role_of t) (defs_in ds) in_terms resolved y table (map (map_reference (name_term b) (attr_term b)) (map reference_of ps)) ≡ map in_line (reference_lines eqb (numbers_at m) ds in_numbers resolved y table (map reference_of ps))
        references_meant resolved y table [] h = refl
        references_meant resolved y table (p ∷ ps) h =
            let k = All-head (ReferenceIsOf b) p ps h in
            let found = resolve eqb (numbers_at m) ds table p.parts.items in
            let may = list_any in_numbers p.parts.items in
            (λ i. ((λ j. reference_line resolved (may_meant names are p.parts.items k.parts j) y (attr_term b p.path) (resolve_meant table p.parts.items k.parts j)) ∙ line_meant resolved may y p.path found) i ++ references_meant resolved y table ps (All-tail (ReferenceIsOf b) p ps h) i)
            ∙ sym (map-append in_line (reference_line resolved may y p.path found) (reference_lines eqb (numbers_at m) ds in_numbers resolved y table (map reference_of ps)))

        references_known : (resolved : Bool) (y : ℕ) (table : Option ℕ) (ps : List Reference) → All (ReferenceIsOf b) ps → Each LineIs (reference_lines eqb (numbers_at m) ds in_numbers resolved y table (map reference_of ps))
        references_known resolved y table [] h = tt
        references_known resolved y table (p ∷ ps) h =
            let k = All-head (ReferenceIsOf b) p ps h in
            let found = resolve eqb (numbers_at m) ds table p.parts.items in
            let may = list_any in_numbers p.parts.items in
            each_append LineIs (reference_line resolved may y p.path found) (reference_lines eqb (numbers_at m) ds in_numbers resolved y table (map reference_of ps)) (line_known resolved may y p.path found (k.path, k.is)) (references_known resolved y table ps (All-tail (ReferenceIsOf b) p ps h))

        all_meant : (resolved : Bool) (es : List (ℕ × Numbers)) → Each EntryIs es → all_reference_lines bytes_eq (role_of t) (defs_in ds) in_terms resolved (meant es) ≡ map in_line (all_reference_lines eqb (numbers_at m) ds in_numbers resolved (numbered es))
        all_meant resolved [] k = refl
        all_meant resolved (e ∷ es) k =
            (λ i. references_meant resolved e.0 e.1.table e.1.references.items k.0.references i ++ all_meant resolved es k.1 i)
            ∙ sym (map-append in_line (reference_lines eqb (numbers_at m) ds in_numbers resolved e.0 e.1.table (map reference_of e.1.references.items)) (all_reference_lines eqb (numbers_at m) ds in_numbers resolved (numbered es)))

        all_known : (resolved : Bool) (es : List (ℕ × Numbers)) → Each EntryIs es → Each LineIs (all_reference_lines eqb (numbers_at m) ds in_numbers resolved (numbered es))
        all_known resolved [] k = tt
        all_known resolved (e ∷ es) k =
            each_append LineIs (reference_lines eqb (numbers_at m) ds in_numbers resolved e.0 e.1.table (map reference_of e.1.references.items)) (all_reference_lines eqb (numbers_at m) ds in_numbers resolved (numbered es)) (references_known resolved e.0 e.1.table e.1.references.items k.0.references) (all_known resolved es k.1)

      mismatch_meant : (y : ℕ) (k : Call) → CallIsOf b k → (found : Option ℕ) → mismatch_line same_type (role_of t) y (call_meaning b k) found ≡ map in_line (mismatch_line eqb (numbers_at m) y (call_numbers k) found)
      mismatch_meant y k h None = refl
      mismatch_meant y k h (Some x) =
          (λ i. cond (fits_meant k h x i) [] (Mismatch y x ∷ []))
          ∙ elim (fits eqb (call_numbers k) (function_at (numbers_at m x))) as (λ z. cond z [] (Mismatch y x ∷ []) ≡ map in_line (cond z [] (Mismatch y x ∷ []))) [ true ↦ refl | false ↦ refl ]

      mismatch_known : (y : ℕ) (k : Call) (found : Option ℕ) → Each LineIs (mismatch_line eqb (numbers_at m) y (call_numbers k) found)
      mismatch_known y k None = tt
      mismatch_known y k (Some x) = elim (fits eqb (call_numbers k) (function_at (numbers_at m x))) as (λ z. Each LineIs (cond z [] (Mismatch y x ∷ []))) [ true ↦ tt | false ↦ (tt, tt) ]

      call_meant : (y : ℕ) (table : Option ℕ) (k : Option Call) → IfSome k (CallIsOf b)
          → call_line bytes_eq same_type (role_of t) (defs_in ds) y table (option_map (map_call (name_term b) (type_term b)) (option_map call_numbers k)) ≡ map in_line (call_line eqb eqb (numbers_at m) ds y table (option_map call_numbers k))
      call_meant y table None h = refl
      call_meant y table (Some k) h =
          ap (mismatch_line same_type (role_of t) y (call_meaning b k)) (resolve_meant table k.callee.items h.callee) ∙ mismatch_meant y k h (resolve eqb (numbers_at m) ds table k.callee.items)

      call_known : (y : ℕ) (table : Option ℕ) (k : Option Call) → Each LineIs (call_line eqb eqb (numbers_at m) ds y table (option_map call_numbers k))
      call_known y table None = tt
      call_known y table (Some k) = mismatch_known y k (resolve eqb (numbers_at m) ds table k.callee.items)

      mismatches_meant : (es : List (ℕ × Numbers)) → Each EntryIs es → mismatch_lines bytes_eq same_type (role_of t) (defs_in ds) (meant es) ≡ map in_line (mismatch_lines eqb eqb (numbers_at m) ds (numbered es))
      mismatches_meant [] k = refl
      mismatches_meant (e ∷ es) k =
          (λ i. call_meant e.0 e.1.table e.1.call k.0.call i ++ mismatches_meant es k.1 i)
          ∙ sym (map-append in_line (call_line eqb eqb (numbers_at m) ds e.0 e.1.table (option_map call_numbers e.1.call)) (mismatch_lines eqb eqb (numbers_at m) ds (numbered es)))

      mismatches_known : (es : List (ℕ × Numbers)) → Each LineIs (mismatch_lines eqb eqb (numbers_at m) ds (numbered es))
      mismatches_known [] = tt
      mismatches_known (e ∷ es) = each_append LineIs (call_line eqb eqb (numbers_at m) ds e.0 e.1.table (option_map call_numbers e.1.call)) (mismatch_lines eqb eqb (numbers_at m) ds (numbered es)) (call_known e.0 e.1.table e.1.call) (mismatches_known es)

      lines_meant : (names : List ℕ) → Each (IsName b) names → (es : List (ℕ × Numbers)) → Each EntryIs es → lines_with bytes_eq same_type (role_of t) (defs_in ds) (is_among bytes_eq (map (name_term b) names)) (meant es) ≡ map in_line (lines_with eqb eqb (numbers_at m) ds (is_among eqb names) (numbered es))
      lines_meant names are es k =
          let d0 : List (LineOf ℕ ℕ) = definition_lines ds in
          let d1 : List (LineOf ℕ ℕ) = duplicate_lines eqb ds ds in
          let d2 : List (LineOf ℕ ℕ) = all_reference_lines eqb (numbers_at m) ds (is_among eqb names) true (numbered es) in
          let d3 : List (LineOf ℕ ℕ) = all_reference_lines eqb (numbers_at m) ds (is_among eqb names) false (numbered es) in
          let d4 : List (LineOf ℕ ℕ) = mismatch_lines eqb eqb (numbers_at m) ds (numbered es) in
          (λ i. definition_lines_meant ds i ++ (duplicates_meant ds known ds known i ++ (all_meant names are true es k i ++ (all_meant names are false es k i ++ mismatches_meant es k i))))
          ∙ sym (map-append in_line d0 (d1 ++ (d2 ++ (d3 ++ d4))) ∙ (λ i. map in_line d0 ++ (map-append in_line d1 (d2 ++ (d3 ++ d4)) ∙ (λ j. map in_line d1 ++ (map-append in_line d2 (d3 ++ d4) ∙ (λ k. map in_line d2 ++ map-append in_line d3 d4 k)) j)) i))

      lines_known : (names : List ℕ) → Each (IsName b) names → (es : List (ℕ × Numbers)) → Each EntryIs es → Each LineIs (lines_with eqb eqb (numbers_at m) ds (is_among eqb names) (numbered es))
      lines_known names are es k =
          let d0 : List (LineOf ℕ ℕ) = definition_lines ds in
          let d1 : List (LineOf ℕ ℕ) = duplicate_lines eqb ds ds in
          let d2 : List (LineOf ℕ ℕ) = all_reference_lines eqb (numbers_at m) ds (is_among eqb names) true (numbered es) in
          let d3 : List (LineOf ℕ ℕ) = all_reference_lines eqb (numbers_at m) ds (is_among eqb names) false (numbered es) in
          let d4 : List (LineOf ℕ ℕ) = mismatch_lines eqb eqb (numbers_at m) ds (numbered es) in
          each_append LineIs d0 (d1 ++ (d2 ++ (d3 ++ d4))) (definition_lines_known ds known)
          (each_append LineIs d1 (d2 ++ (d3 ++ d4)) (duplicates_known ds ds known) (each_append LineIs d2 (d3 ++ d4) (all_known names are true es k) (each_append LineIs d3 d4 (all_known names are false es k) (mismatches_known es))))

-- ---- the entries of a map
both_hold : (a c : Bool) → T a → T c → T (a && c)
both_hold true c p q = q
both_hold false c p q = p

pub look_above : (x : ℕ) (es : List (ℕ × Numbers)) → AllByRecursion (λ y. nat_cmp x y ≡ Less) (keys_of es) → lookup (is_at (nat_cmp x)) es ≡ None
look_above x [] a = refl
look_above x (e ∷ es) a = ap (λ o. cond (is_eq o) (Some e.1) (lookup (is_at (nat_cmp x)) es)) a.0 ∙ look_above x es a.1

module _ (b : ContextModel) where
  below_meant : (x : ℕ) (es : List (ℕ × Numbers)) → AllByRecursion (λ y. nat_cmp x y ≡ Less) (keys_of es) → T (below_all nat_cmp x (meant b es))
  below_meant x [] a = tt
  below_meant x (e ∷ es) a = both_hold (is_lt (nat_cmp x e.0)) (below_all nat_cmp x (meant b es)) (subst (λ o. T (is_lt o)) (sym a.0) tt) (below_meant x es a.1)

  meant_sorted : (es : List (ℕ × Numbers)) → IsStrictlySortedBy nat_cmp (keys_of es) → T (is_sorted nat_cmp (meant b es))
  unfolding IsStrictlySortedBy
  meant_sorted [] s = tt
  meant_sorted (e ∷ es) s = both_hold (below_all nat_cmp e.0 (meant b es)) (is_sorted nat_cmp (meant b es)) (below_meant e.0 es s.0) (meant_sorted es s.1)

  find_meant : (q : ℕ) (es : List (ℕ × Numbers)) → find nat_cmp q (meant b es) ≡ option_map (role_meaning b) (lookup (is_at (nat_cmp q)) es)
  find_meant q [] = refl
  find_meant q (e ∷ es) =
      ap (cond (is_eq (nat_cmp q e.0)) (Some (role_meaning b e.1))) (find_meant q es)
      ∙ elim (is_eq (nat_cmp q e.0)) as (λ z. cond z (Some (role_meaning b e.1)) (option_map (role_meaning b) (lookup (is_at (nat_cmp q)) es)) ≡ option_map (role_meaning b) (cond z (Some e.1) (lookup (is_at (nat_cmp q)) es))) [ true ↦ refl | false ↦ refl ]

  pub entries_known : (es : List (ℕ × Numbers)) → IsStrictlySortedBy nat_cmp (keys_of es) → ((q : ℕ) (r : Numbers) → lookup (is_at (nat_cmp q)) es ≡ Some r → RoleIsOf b r) → Each (EntryIs b) es
  unfolding IsStrictlySortedBy
  entries_known [] s h = tt
  entries_known (e ∷ es) s h = (h e.0 e.1 (ap (λ z. cond z (Some e.1) (lookup (is_at (nat_cmp e.0)) es)) (same_test e.0 e.0 ∙ eq-eqb e.0 e.0 refl)), entries_known es s.1 (λ q r i. later q r i))
    where
      later : (q : ℕ) (r : Numbers) → lookup (is_at (nat_cmp q)) es ≡ Some r → RoleIsOf b r
      later q r i = elim (bool_cases (is_eq (nat_cmp q e.0))) [
        | inr k ↦ h q r (ap (λ z. cond z (Some e.1) (lookup (is_at (nat_cmp q)) es)) k ∙ i)
        | inl k ↦ (let same = eqb-true q e.0 (sym (same_test q e.0) ∙ k) in
            let no : None ≡ Some r = sym (look_above e.0 es s.0) ∙ ap (λ z. lookup (is_at (nat_cmp z)) es) (sym same) ∙ i in
            absurd cc)
      ]

-- a property of what each key finds is a property of each entry
left_holds : (a c : Bool) → T (a && c) → T a
left_holds true c p = tt
left_holds false c p = p

right_holds : (a c : Bool) → T (a && c) → T c
right_holds true c p = p
right_holds false c p = absurd p

module _ {X : Type 0} where
  none_below : (q : ℕ) (es : List (ℕ × X)) → T (below_all nat_cmp q es) → find nat_cmp q es ≡ None
  none_below q [] h = refl
  none_below q (e ∷ es) h = go (nat_cmp q e.0) (left_holds (is_lt (nat_cmp q e.0)) (below_all nat_cmp q es) h) (none_below q es (right_holds (is_lt (nat_cmp q e.0)) (below_all nat_cmp q es) h))
    where
      go : (o : Ordering) → T (is_lt o) → find nat_cmp q es ≡ None → cond (is_eq o) (Some e.1) (find nat_cmp q es) ≡ None
      go Less p rest = rest
      go Equal p rest = absurd p
      go Greater p rest = absurd p

  each_found : (P : ℕ → X → Type 0) (es : List (ℕ × X)) → T (is_sorted nat_cmp es) → ((q : ℕ) (r : X) → find nat_cmp q es ≡ Some r → P q r) → Each (λ (e : ℕ × X). P e.0 e.1) es
  each_found P [] s h = tt
  each_found P (e ∷ es) s h = (h e.0 e.1 (ap (λ z. cond z (Some e.1) (find nat_cmp e.0 es)) (same_test e.0 e.0 ∙ eq-eqb e.0 e.0 refl)), each_found P es (right_holds (below_all nat_cmp e.0 es) (is_sorted nat_cmp es) s) later)
    where
      below : T (below_all nat_cmp e.0 es)
      below = left_holds (below_all nat_cmp e.0 es) (is_sorted nat_cmp es) s

      later : (q : ℕ) (r : X) → find nat_cmp q es ≡ Some r → P q r
      later q r i = elim (bool_cases (is_eq (nat_cmp q e.0))) [
        | inr k ↦ h q r (ap (λ z. cond z (Some e.1) (find nat_cmp q es)) k ∙ i)
        | inl k ↦ (let same = eqb-true q e.0 (sym (same_test q e.0) ∙ k) in
            let no : None ≡ Some r = sym (none_below e.0 es below) ∙ ap (λ z. find nat_cmp z es) (sym same) ∙ i in
            absurd cc)
      ]

module _ (t : Operation) where
  found_role : (q : ℕ) (ss : List OpWithPath) → find nat_cmp q (roles_in t ss) ≡ option_map (role t) (find_op_with_path q ss)
  found_role q [] = refl
  found_role q (s ∷ ss) =
      find-put nat_cmp nat_cmp_total q (op_with_path_id s) (role t s) (roles_in t ss)
      ∙ (λ i. cond ((same_test q (op_with_path_id s) ∙ flips_eq q (op_with_path_id s)) i) (Some (role t s)) (found_role q ss i))
      ∙ elim (eqb (op_with_path_id s) q) as (λ z. cond z (Some (role t s)) (option_map (role t) (find_op_with_path q ss)) ≡ option_map (role t) (cond z (Some s) (find_op_with_path q ss))) [ true ↦ refl | false ↦ refl ]

  roles_sorted : (ss : List OpWithPath) → T (is_sorted nat_cmp (roles_in t ss))
  roles_sorted [] = tt
  roles_sorted (s ∷ ss) = is_sorted-put nat_cmp nat_cmp_total (op_with_path_id s) (role t s) (roles_in t ss) (roles_sorted ss)

  -- ---- plain roles that are omitted
  abbrev has : Roles → ℕ → Bool
  has m q = is_some (kept_at m q)

  -- the entries of the roles of a tree that a table keeps
  pub entries_meant : (b : ContextModel) (m : Roles) → idmap.IsOrdered m.all → Keeps b t (kept_at m) → meant b m.all.entries ≡ where_key nat_cmp (has m) (roles_by_id t)
  entries_meant b m ordered keeps =
      same_entries nat_cmp nat_cmp_total nat_cmp-IsAntisymmetric (meant b m.all.entries) (where_key nat_cmp (has m) (roles_by_id t)) (meant_sorted b m.all.entries ordered)
      (is_sorted-where_key nat_cmp (has m) (roles_by_id t) (roles_sorted (stands [] t)))
      (λ q. find_meant b q m.all.entries ∙ one q (kept_at m q) (keeps.says q) ∙ ap (λ o. cond (has m q) o None) (sym (found_role q (stands [] t))) ∙ sym (find-where_key nat_cmp (has m) q (λ x e. ap (has m) (sym (tied q x e))) (roles_by_id t)))
    where
      tied : (q x : ℕ) → nat_cmp q x ≡ Equal → q ≡ x
      tied q x e = eqb-true q x (sym (same_test q x) ∙ ap is_eq e)

      one : (q : ℕ) (k : Option Numbers) → MaySay b (role_of t q) k → option_map (role_meaning b) k ≡ cond (is_some k) (role_of t q) None
      one q None s = refl
      one q (Some k) s = (said b (role_of t q) k s).is

  -- an entry of a tree is kept, or its role is plain
  abbrev IsKeptOrPlain : Roles → ℕ → Role → Type 0
  IsKeptOrPlain m q r = (has m q ≡ true) ⊎ IsPlain r

  kept_or_plain : (b : ContextModel) (m : Roles) → Keeps b t (kept_at m) → (q : ℕ) (r : Role) → role_of t q ≡ Some r → IsKeptOrPlain m q r
  kept_or_plain b m keeps q r is = go (kept_at m q) (keeps.says q)
    where
      go : (k : Option Numbers) → MaySay b (role_of t q) k → (is_some k ≡ true) ⊎ IsPlain r
      go (Some k) s = inl refl
      go None (inl s) = (let no : None ≡ Some r = s.is ∙ is in absurd cc)
      go None (inr e) =
          let two : Some e.role ≡ Some r = sym e.is ∙ is in
          let one : e.role ≡ r = cc in
          inr (subst (λ (z : Role). IsPlain z) one e.simple)

  -- what roles contribute in order
  module _ {X : Type 0} (f : ℕ → Role → List X) (reports_nothing : (x : ℕ) (r : Role) → IsPlain r → f x r ≡ []) where
    abbrev pub contributed : RolesOf (List ℕ) TypeTerm AttrTerm → List X
    contributed [] = []
    contributed (e ∷ es) = f e.0 e.1 ++ contributed es

    without_plain : (m : Roles) (es : RolesOf (List ℕ) TypeTerm AttrTerm) → Each (λ (e : ℕ × Role). IsKeptOrPlain m e.0 e.1) es → contributed (where_key nat_cmp (has m) es) ≡ contributed es
    without_plain m [] k = refl
    without_plain m (e ∷ es) k = go (has m e.0) refl k.0 (without_plain m es k.1)
      where
        go : (h : Bool) → has m e.0 ≡ h → IsKeptOrPlain m e.0 e.1 → contributed (where_key nat_cmp (has m) es) ≡ contributed es → contributed (cond h (e ∷ where_key nat_cmp (has m) es) (where_key nat_cmp (has m) es)) ≡ f e.0 e.1 ++ contributed es
        go true i s rest = ap (λ l. f e.0 e.1 ++ l) rest
        go false i (inl s) rest = absurd (true≢false (sym s ∙ i))
        go false i (inr p) rest = rest ∙ sym (ap (λ l. l ++ contributed es) (reports_nothing e.0 e.1 p))

    pub contributed_all : (b : ContextModel) (m : Roles) → idmap.IsOrdered m.all → Keeps b t (kept_at m) → contributed (meant b m.all.entries) ≡ contributed (roles_by_id t)
    contributed_all b m ordered keeps =
        ap contributed (entries_meant b m ordered keeps)
        ∙ without_plain m (roles_by_id t) (each_found (IsKeptOrPlain m) (roles_by_id t) (roles_sorted (stands [] t)) (λ q r i. kept_or_plain b m keeps q r (sym (found_role q (stands [] t)) ∙ i)))

-- ---- rows
module _ (b c : ContextModel) (holds : Holds b) (g : IsExtendedBy b c) where
  cells_say : (l : LineOf ℕ ℕ) → LineIs b l → map (cell_meaning c) (line_cells cell.Tag cell.Op cell.Name cell.Path l) ≡ line_cells Tag Op Name Path (in_line b l)
  cells_say (Definition t n x) k = ap (λ z. Tag 0 ∷ Op t ∷ Name z ∷ Op x ∷ []) (name_stays b c n g k)
  cells_say (Duplicate t n x) k = ap (λ z. Tag 1 ∷ Op t ∷ Name z ∷ Op x ∷ []) (name_stays b c n g k)
  cells_say (Use y p x) k = ap (λ z. Tag 2 ∷ Op y ∷ Path z ∷ Op x ∷ []) (attr_stays b c p holds g k.0)
  cells_say (Unresolved y p) k = ap (λ z. Tag 3 ∷ Op y ∷ Path z ∷ []) (attr_stays b c p holds g k.0)
  cells_say (Unknown y p) k = ap (λ z. Tag 5 ∷ Op y ∷ Path z ∷ []) (attr_stays b c p holds g k.0)
  cells_say (Mismatch y x) k = refl

  all_three : (P : Cell → Type 0) (x y z : Cell) → P x → P y → P z → All P (x ∷ y ∷ z ∷ [])
  all_three P x y z p q r = All-cons P x (y ∷ z ∷ []) p (All-cons P y (z ∷ []) q (All-cons P z [] r (All-nil P)))

  all_four : (P : Cell → Type 0) (w x y z : Cell) → P w → P x → P y → P z → All P (w ∷ x ∷ y ∷ z ∷ [])
  all_four P w x y z o p q r = All-cons P w (x ∷ y ∷ z ∷ []) o (all_three P x y z p q r)

  path_known : (p : ℕ) → IsAttr b p × IsSymbol (attr_term b p) → CellIsOf c (cell.Path p)
  path_known p k = (attr_more b c holds g p k.0, subst IsSymbol (sym (attr_stays b c p holds g k.0)) k.1)

  cells_known : (l : LineOf ℕ ℕ) → LineIs b l → All (CellIsOf c) (line_cells cell.Tag cell.Op cell.Name cell.Path l)
  cells_known (Definition t n x) k = all_four (CellIsOf c) (cell.Tag 0) (cell.Op t) (cell.Name n) (cell.Op x) (omega arith) (tt {0}) (name_more b c holds g n k) (tt {0})
  cells_known (Duplicate t n x) k = all_four (CellIsOf c) (cell.Tag 1) (cell.Op t) (cell.Name n) (cell.Op x) (omega arith) (tt {0}) (name_more b c holds g n k) (tt {0})
  cells_known (Use y p x) k = all_four (CellIsOf c) (cell.Tag 2) (cell.Op y) (cell.Path p) (cell.Op x) (omega arith) (tt {0}) (path_known p k) (tt {0})
  cells_known (Unresolved y p) k = all_three (CellIsOf c) (cell.Tag 3) (cell.Op y) (cell.Path p) (omega arith) (tt {0}) (path_known p k)
  cells_known (Unknown y p) k = all_three (CellIsOf c) (cell.Tag 5) (cell.Op y) (cell.Path p) (omega arith) (tt {0}) (path_known p k)
  cells_known (Mismatch y x) k = all_three (CellIsOf c) (cell.Tag 4) (cell.Op y) (cell.Op x) (omega arith) (tt {0}) (tt {0})

  rows_say : (rows : List Row) (ls : List (LineOf ℕ ℕ)) → cells_of rows ≡ lines_cells ls → Each (LineIs b) ls → rows_meaning c rows ≡ map (line_cells Tag Op Name Path) (map (in_line b) ls)
  rows_say [] [] e k = refl
  rows_say [] (l ∷ ls) e k = absurd cc
  rows_say (r ∷ rs) [] e k = absurd cc
  rows_say (r ∷ rs) (l ∷ ls) e k =
      let one : r.cells.items ≡ line_cells cell.Tag cell.Op cell.Name cell.Path l = cc in
      let rest : cells_of rs ≡ lines_cells ls = cc in
      λ i. (ap (map (cell_meaning c)) one ∙ cells_say l k.0) i ∷ rows_say rs ls rest k.1 i

  rows_known : (rows : List Row) (ls : List (LineOf ℕ ℕ)) → cells_of rows ≡ lines_cells ls → Each (LineIs b) ls → All (RowIsOf c) rows
  rows_known [] ls e k = All-nil (RowIsOf c)
  rows_known (r ∷ rs) [] e k = absurd cc
  rows_known (r ∷ rs) (l ∷ ls) e k =
      let one : r.cells.items ≡ line_cells cell.Tag cell.Op cell.Name cell.Path l = cc in
      let rest : cells_of rs ≡ lines_cells ls = cc in
      All-cons (RowIsOf c) r rs (subst (All (CellIsOf c)) (sym one) (cells_known l k.0)) (rows_known rs ls rest k.1)

-- ---- the rows of a table that omits plain roles
module _ (t : Operation) (b : ContextModel) (m : Roles) (ordered : idmap.IsOrdered m.all) (keeps : Keeps b t (kept_at m)) where
  abbrev its : RolesOf (List ℕ) TypeTerm AttrTerm
  its = meant b m.all.entries

  not_defined : (home : Option ℕ) (x : ℕ) → defined {N = List ℕ} home None x ≡ []
  not_defined None x = refl
  not_defined (Some h) x = refl

  pub definitions_all : definitions its ≡ definitions (roles_by_id t)
  definitions_all = sym (each its) ∙ contributed_all t f reports_nothing b m ordered keeps ∙ each (roles_by_id t)
    where
      f : ℕ → Role → List (DefinitionOf (List ℕ))
      f x r = defined r.home r.symbol x

      reports_nothing : (x : ℕ) (r : Role) → IsPlain r → f x r ≡ []
      reports_nothing x r p = ap (λ s. defined r.home s x) p.symbol ∙ not_defined r.home x

      each : (es : RolesOf (List ℕ) TypeTerm AttrTerm) → contributed t f reports_nothing es ≡ definitions es
      each [] = refl
      each (e ∷ es) = ap (λ l. f e.0 e.1 ++ l) (each es)

  undefined_all : undefined_names its ≡ undefined_names (roles_by_id t)
  undefined_all = sym (each its) ∙ contributed_all t f reports_nothing b m ordered keeps ∙ each (roles_by_id t)
    where
      f : ℕ → Role → List (List ℕ)
      f x r = undefined r.home r.symbol r.name

      reports_nothing : (x : ℕ) (r : Role) → IsPlain r → f x r ≡ []
      reports_nothing x r p = ap (undefined r.home r.symbol) p.name

      each : (es : RolesOf (List ℕ) TypeTerm AttrTerm) → contributed t f reports_nothing es ≡ undefined_names es
      each [] = refl
      each (e ∷ es) = ap (λ l. f e.0 e.1 ++ l) (each es)

  possible_all : (which : Definers) → possible_names which its ≡ possible_names which (roles_by_id t)
  possible_all Listed = refl
  possible_all AnyNamed = undefined_all

  module _ (ds : List (DefinitionOf (List ℕ))) where
    references_all : (possible : List ℕ → Bool) (resolved : Bool) → all_reference_lines bytes_eq (role_of t) ds possible resolved its ≡ all_reference_lines bytes_eq (role_of t) ds possible resolved (roles_by_id t)
    references_all possible resolved = sym (each its) ∙ contributed_all t f reports_nothing b m ordered keeps ∙ each (roles_by_id t)
      where
        f : ℕ → Role → List (LineOf (List ℕ) AttrTerm)
        f x r = reference_lines bytes_eq (role_of t) ds possible resolved x r.table r.references

        reports_nothing : (x : ℕ) (r : Role) → IsPlain r → f x r ≡ []
        reports_nothing x r p = ap (reference_lines bytes_eq (role_of t) ds possible resolved x r.table) p.references

        each : (es : RolesOf (List ℕ) TypeTerm AttrTerm) → contributed t f reports_nothing es ≡ all_reference_lines bytes_eq (role_of t) ds possible resolved es
        each [] = refl
        each (e ∷ es) = ap (λ l. f e.0 e.1 ++ l) (each es)

    mismatches_all : mismatch_lines bytes_eq same_type (role_of t) ds its ≡ mismatch_lines bytes_eq same_type (role_of t) ds (roles_by_id t)
    mismatches_all = sym (each its) ∙ contributed_all t f reports_nothing b m ordered keeps ∙ each (roles_by_id t)
      where
        f : ℕ → Role → List (LineOf (List ℕ) AttrTerm)
        f x r = call_line bytes_eq same_type (role_of t) ds x r.table r.call

        reports_nothing : (x : ℕ) (r : Role) → IsPlain r → f x r ≡ []
        reports_nothing x r p = ap (call_line bytes_eq same_type (role_of t) ds x r.table) p.call

        each : (es : RolesOf (List ℕ) TypeTerm AttrTerm) → contributed t f reports_nothing es ≡ mismatch_lines bytes_eq same_type (role_of t) ds es
        each [] = refl
        each (e ∷ es) = ap (λ l. f e.0 e.1 ++ l) (each es)

    pub lines_all : (possible : List ℕ → Bool) → lines_with bytes_eq same_type (role_of t) ds possible its ≡ lines_with bytes_eq same_type (role_of t) ds possible (roles_by_id t)
    lines_all possible = λ i. definition_lines ds ++ (duplicate_lines bytes_eq ds ds ++ (references_all possible true i ++ (references_all possible false i ++ mismatches_all i)))

pub shows_symbols : (c : ContextModel) (t : Operation) (which : Definers) (m : Roles) (rows : List Row) → idmap.IsOrdered m.all → IsKept c t (kept_at m)
    → cells_of rows ≡ lines_cells (symbol_lines eqb eqb which (numbers_at m) (numbered m.all.entries)) → Shows c rows (symbol_rows which t)
shows_symbols c t which m rows ordered kept is =
    let b = kept.from in
    let keeps = kept.keeps in
    let es = m.all.entries in
    let ds = definitions (numbered es) in
    let names = possible_names which (numbered es) in
    let ek = entries_known b es ordered (λ q r i. subst (λ (o : Option Numbers). IfSome o (RoleIsOf b)) i (entry_known b (role_of t q) (kept_at m q) (keeps.says q))) in
    let dk = definitions_known b es ek in
    let nk = possible_known b which es ek in
    let same =
    sym (lines_meant b kept.sound t m keeps ds dk names nk es ek)
    ∙ (λ i. lines_with bytes_eq same_type (role_of t) ((sym (definitions_meant b es) ∙ definitions_all t b m ordered keeps) i) (is_among bytes_eq ((sym (possible_meant b which es) ∙ possible_all t b m ordered keeps which) i)) (meant b es))
    ∙ lines_all t b m ordered keeps (definitions (roles_by_id t)) (is_among bytes_eq (possible_names which (roles_by_id t))) in
    let lk = lines_known b kept.sound t m keeps ds dk names nk es ek in
    record {
      says = rows_say b c kept.sound.holds kept.grown rows _ is lk ∙ ap (map (line_cells Tag Op Name Path)) same;
      known = rows_known b c kept.sound.holds kept.grown rows _ is lk;
    }
