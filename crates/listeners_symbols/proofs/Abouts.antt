-- A report of symbols has no rows about an operation that defines, references and calls no symbol, nor about a value.
use Rattle.std.proofs.Common.{◌≡◌, ◌∙◌, refl, sym, ap, subst, ℕ, Bool, true, false, true≢false, ◌&&◌, ◌||◌, cond, eqb, eqb-true, List, [], ◌∷◌, ◌++◌, map, Option, Some, None, inl, inr}
use Rattle.std.specs.Prelude.{option_map, is_some}
use Rattle.std.proofs.lemmas.Bool.{or_parts}
use Rattle.listeners_support.specs.Map as idmap
use Rattle.ir_event.specs.types.Things.{ContextModel}
use Rattle.ir_event.specs.types.Terms.{TypeTerm, AttrTerm, name_term, type_term, attr_term}
use Rattle.ir_event.specs.types.SameTypes.{same_type}
use Rattle.std.specs.Str.{bytes_eq}
use Rattle.ir_event.specs.trees.Meaning.{Operation}
use Rattle.ir_event.specs.trees.declared.value.Value.{Value}
use Rattle.ir_event.specs.declared.subject.Subject.{Subject}
use Rattle.ir_event.specs.declared.subject.Subject.TheVariants as subject
use Rattle.ir_event.specs.Rows.{Op, Name, Path, Tag, RowTerm}
use Rattle.ir_event.specs.Subjects.{is_about, rows_about}
use Rattle.ir_event.proofs.of_tree_laws.Listed.{bool_cases}
use Rattle.listeners_symbols.specs.declared.definers.Definers.{Definers}
use Rattle.listeners_symbols.specs.declared.role.Role.{Role as Numbers}
use Rattle.listeners_symbols.specs.declared.role.Reference.{Reference}
use Rattle.listeners_symbols.specs.declared.role.Call.{Call}
use Rattle.listeners_symbols.specs.declared.roles.Roles.{Roles}
use Rattle.listeners_symbols.specs.Roles.{ReferenceOf, CallOf, RoleOf, role_of}
use Rattle.listeners_symbols.specs.Symbols.{RolesOf, RoleAt, DefinitionOf, LineOf, Definition, Duplicate, Use, Unresolved, Unknown, Mismatch, defined, definitions, roles_by_id, is_duplicate, is_among, possible_names, resolve, fits, function_at}
use Rattle.listeners_symbols.specs.Symbols.{definition_lines, duplicate_lines, reference_line, reference_lines, all_reference_lines, mismatch_line, call_line, mismatch_lines, lines_with, symbols_of, line_cells, symbol_rows}
use Rattle.listeners_symbols.specs.Table.{reference_of, call_numbers, map_reference, map_call, role_meaning, Keeps}
use Rattle.listeners_symbols.specs.Listeners.{kept_at}
use Rattle.listeners_symbols.specs.Telling.{concerns_symbols, has_some, said_about, said_at}
use Rattle.listeners_symbols.proofs.Reported.{Each, definitions_all, lines_all, meant}
use Rattle.listeners_symbols.proofs.Entries.{each_entry}

-- ---- rows about other operations

-- the operation that a row is about
abbrev line_op : {N A : Type 0} → LineOf N A → ℕ
line_op (Definition t n y) = y
line_op (Duplicate t n y) = y
line_op (Use y p z) = y
line_op (Unresolved y p) = y
line_op (Unknown y p) = y
line_op (Mismatch y z) = y

named : (x : ℕ) (l : LineOf (List ℕ) AttrTerm) → is_about (subject.Op x) (line_cells Tag Op Name Path l) ≡ eqb (line_op l) x
named x (Definition t n y) = refl
named x (Duplicate t n y) = refl
named x (Use y p z) = refl
named x (Unresolved y p) = refl
named x (Unknown y p) = refl
named x (Mismatch y z) = refl

unnamed : (v : Value) (l : LineOf (List ℕ) AttrTerm) → is_about (subject.Val v) (line_cells Tag Op Name Path l) ≡ false
unnamed v (Definition t n y) = refl
unnamed v (Duplicate t n y) = refl
unnamed v (Use y p z) = refl
unnamed v (Unresolved y p) = refl
unnamed v (Unknown y p) = refl
unnamed v (Mismatch y z) = refl

hidden : (s : Subject) (row : RowTerm) (rows : List RowTerm) → is_about s row ≡ false → rows_about s rows ≡ [] → rows_about s (row ∷ rows) ≡ []
hidden s row rows e rest = ap (λ b. cond b (row ∷ rows_about s rows) (rows_about s rows)) e ∙ rest

no_value : (v : Value) (ls : List (LineOf (List ℕ) AttrTerm)) → rows_about (subject.Val v) (map (line_cells Tag Op Name Path) ls) ≡ []
no_value v [] = refl
no_value v (l ∷ ls) = hidden (subject.Val v) (line_cells Tag Op Name Path l) (map (line_cells Tag Op Name Path) ls) (unnamed v l) (no_value v ls)

-- all rows are about other operations
abbrev Others : {N A : Type 0} → ℕ → List (LineOf N A) → Type 0
Others x [] = Unit {0}
Others x (l ∷ ls) = (eqb (line_op l) x ≡ false) × Others x ls

no_rows : (x : ℕ) (ls : List (LineOf (List ℕ) AttrTerm)) → Others x ls → rows_about (subject.Op x) (map (line_cells Tag Op Name Path) ls) ≡ []
no_rows x [] o = refl
no_rows x (l ∷ ls) o = hidden (subject.Op x) (line_cells Tag Op Name Path l) (map (line_cells Tag Op Name Path) ls) (named x l ∙ o.0) (no_rows x ls o.1)

module _ {N A : Type 0} (x : ℕ) where
  joined : (a b : List (LineOf N A)) → Others x a → Others x b → Others x (a ++ b)
  joined [] b o p = p
  joined (l ∷ a) b o p = (o.0, joined a b o.1 p)

module _ {N : Type 0} (x : ℕ) where
  -- definitions of other operations
  abbrev Apart : List (DefinitionOf N) → Type 0
  Apart [] = Unit {0}
  Apart (d ∷ ds) = (eqb d.1 x ≡ false) × Apart ds

  apart_joined : (a b : List (DefinitionOf N)) → Apart a → Apart b → Apart (a ++ b)
  apart_joined [] b o p = p
  apart_joined (d ∷ a) b o p = (o.0, apart_joined a b o.1 p)

  one_apart : (home : Option ℕ) (symbol : Option N) (y : ℕ) → (eqb y x ≡ true → (is_some home && is_some symbol) ≡ false) → Apart (defined home symbol y)
  one_apart None symbol y q = tt
  one_apart (Some t) None y q = tt
  one_apart (Some t) (Some n) y q = (elim (bool_cases (eqb y x)) [ inl e ↦ absurd (true≢false (q e)) | inr e ↦ e ], tt)

module _ {N : Type 0} (A : Type 0) (x : ℕ) where
  other_definitions : (ds : List (DefinitionOf N)) → Apart x ds → Others x (definition_lines {N = N} {A = A} ds)
  other_definitions [] a = tt
  other_definitions (d ∷ ds) a = (a.0, other_definitions ds a.1)

  other_duplicates : (same : N → N → Bool) (all ds : List (DefinitionOf N)) → Apart x ds → Others x (duplicate_lines {N = N} {A = A} same all ds)
  other_duplicates same all [] a = tt
  other_duplicates same all (d ∷ ds) a =
      let rest = other_duplicates same all ds a.1 in
      elim (is_duplicate same all d) as (λ b. Others {N = N} {A = A} x (cond b (Duplicate d.0.0 d.0.1 d.1 ∷ duplicate_lines {N = N} {A = A} same all ds) (duplicate_lines {N = N} {A = A} same all ds))) [ true ↦ (a.0, rest) | false ↦ rest ]

module _ {N T A : Type 0} (x : ℕ) where
  -- an operation that defines, references and calls no symbol
  abbrev IsQuiet : RoleOf N T A → Type 0
  IsQuiet r = ((is_some r.home && is_some r.symbol) ≡ false) × (r.references ≡ []) × (r.call ≡ None)

  -- x is such an operation
  abbrev Quiet : RolesOf N T A → Type 0
  Quiet [] = Unit {0}
  Quiet (e ∷ es) = (eqb e.0 x ≡ true → IsQuiet e.1) × Quiet es

  all_apart : (es : RolesOf N T A) → Quiet es → Apart x (definitions es)
  all_apart [] q = tt
  all_apart (e ∷ es) q = apart_joined x (defined e.1.home e.1.symbol e.0) (definitions es) (one_apart x e.1.home e.1.symbol e.0 (λ i. (q.0 i).0)) (all_apart es q.1)

  module _ (same : N → N → Bool) (roles : RoleAt N T A) (ds : List (DefinitionOf N)) where
    -- the references and the call of another operation
    module _ (y : ℕ) (ne : eqb y x ≡ false) where
      other_reference : (resolved may : Bool) (p : A) (found : Option ℕ) → Others x (reference_line {N = N} {A = A} resolved may y p found)
      other_reference true may p (Some z) = (ne, tt)
      other_reference true may p None = tt
      other_reference false may p (Some z) = tt
      other_reference false true p None = (ne, tt)
      other_reference false false p None = (ne, tt)

      other_references : (possible : N → Bool) (resolved : Bool) (table : Option ℕ) (ps : List (ReferenceOf N A)) → Others x (reference_lines same roles ds possible resolved y table ps)
      other_references possible resolved table [] = tt
      other_references possible resolved table (p ∷ ps) =
          joined x _ (reference_lines same roles ds possible resolved y table ps) (other_reference resolved _ p.0 (resolve same roles ds table p.1)) (other_references possible resolved table ps)

      other_mismatch : (same_types : T → T → Bool) (call : CallOf N T) (found : Option ℕ) → Others x (mismatch_line {N = N} {T = T} {A = A} same_types roles y call found)
      other_mismatch same_types call None = tt
      other_mismatch same_types call (Some z) = elim (fits same_types call (function_at (roles z))) as (λ b. Others {N = N} {A = A} x (cond b [] (Mismatch y z ∷ []))) [ true ↦ tt | false ↦ (ne, tt) ]

      other_call : (same_types : T → T → Bool) (table : Option ℕ) (call : Option (CallOf N T)) → Others x (call_line {N = N} {T = T} {A = A} same same_types roles ds y table call)
      other_call same_types table None = tt
      other_call same_types table (Some call) = other_mismatch same_types call (resolve same roles ds table call.callee)

    all_references : (possible : N → Bool) (resolved : Bool) (es : RolesOf N T A) → Quiet es → Others x (all_reference_lines same roles ds possible resolved es)
    all_references possible resolved [] q = tt
    all_references possible resolved (e ∷ es) q =
        joined x (reference_lines same roles ds possible resolved e.0 e.1.table e.1.references) (all_reference_lines same roles ds possible resolved es)
        (elim (bool_cases (eqb e.0 x)) [
          | inl i ↦ subst (λ ps. Others x (reference_lines same roles ds possible resolved e.0 e.1.table ps)) (sym (q.0 i).1) tt
          | inr i ↦ other_references e.0 i possible resolved e.1.table e.1.references
        ])
        (all_references possible resolved es q.1)

    all_mismatches : (same_types : T → T → Bool) (es : RolesOf N T A) → Quiet es → Others x (mismatch_lines {N = N} {T = T} {A = A} same same_types roles ds es)
    all_mismatches same_types [] q = tt
    all_mismatches same_types (e ∷ es) q =
        joined x (call_line {N = N} {T = T} {A = A} same same_types roles ds e.0 e.1.table e.1.call) (mismatch_lines {N = N} {T = T} {A = A} same same_types roles ds es)
        (elim (bool_cases (eqb e.0 x)) [
          | inl i ↦ subst (λ k. Others x (call_line {N = N} {T = T} {A = A} same same_types roles ds e.0 e.1.table k)) (sym (q.0 i).2) tt
          | inr i ↦ other_call e.0 i same_types e.1.table e.1.call
        ])
        (all_mismatches same_types es q.1)

    all_others : (same_types : T → T → Bool) (possible : N → Bool) (es : RolesOf N T A) → Quiet es → Apart x ds → Others x (lines_with same same_types roles ds possible es)
    all_others same_types possible es q a =
        joined x (definition_lines ds) _ (other_definitions A x ds a)
        (joined x (duplicate_lines same ds ds) _ (other_duplicates A x same ds ds a)
        (joined x (all_reference_lines same roles ds possible true es) _ (all_references possible true es q)
        (joined x (all_reference_lines same roles ds possible false es) _ (all_references possible false es q) (all_mismatches same_types es q))))

-- ---- an operation whose entry concerns no symbols

module _ (b : ContextModel) where
  no_definition : (home symbol : Option ℕ) → (is_some home && is_some symbol) ≡ false → (is_some home && is_some (option_map (name_term b) symbol)) ≡ false
  no_definition None symbol e = refl
  no_definition (Some t) None e = refl
  no_definition (Some t) (Some n) e = e

  no_references : (ps : List Reference) → has_some ps ≡ false → map (map_reference (name_term b) (attr_term b)) (map reference_of ps) ≡ []
  no_references [] e = refl
  no_references (p ∷ ps) e = absurd (true≢false e)

  no_call : (k : Option Call) → is_some k ≡ false → option_map (map_call (name_term b) (type_term b)) (option_map call_numbers k) ≡ None
  no_call None e = refl
  no_call (Some k) e = absurd (true≢false e)

  quiet_role : (x : ℕ) (r : Numbers) → concerns_symbols r ≡ false → IsQuiet x (role_meaning b r)
  quiet_role x r e =
      let one = or_parts (is_some r.home && is_some r.symbol) (has_some r.references.items || is_some r.call) e in
      let two = or_parts (has_some r.references.items) (is_some r.call) one.1 in
      (no_definition r.home r.symbol one.0, no_references r.references.items two.0, no_call r.call two.1)

  quiet_entries : (x : ℕ) (es : List (ℕ × Numbers)) → Each (λ (e : ℕ × Numbers). eqb e.0 x ≡ true → concerns_symbols e.1 ≡ false) es → Quiet x (meant b es)
  quiet_entries x [] k = tt
  quiet_entries x (e ∷ es) k = ((λ i. quiet_role x e.1 (k.0 i)), quiet_entries x es k.1)

-- ---- rows

pub no_symbols : (s : Subject) (b : ContextModel) (t : Operation) (which : Definers) (m : Roles) → idmap.IsOrdered m.all → Keeps b t (kept_at m) → said_about concerns_symbols s (kept_at m) ≡ false → rows_about s (symbol_rows which t) ≡ []
no_symbols (subject.Val v) b t which m ordered keeps e = no_value v (symbols_of which t)
no_symbols (subject.Op x) b t which m ordered keeps e =
    let es = m.all.entries in
    let own : (q : ℕ) (r : Numbers) → kept_at m q ≡ Some r → eqb q x ≡ true → concerns_symbols r ≡ false = λ q r i k. sym (ap (said_at concerns_symbols) i) ∙ ap (λ z. said_at concerns_symbols (kept_at m z)) (eqb-true q x k) ∙ e in
    let quiet : Quiet x (meant b es) = quiet_entries b x es (each_entry (λ q r. eqb q x ≡ true → concerns_symbols r ≡ false) es ordered own) in
    let all = definitions (roles_by_id t) in
    let possible = is_among bytes_eq (possible_names which (roles_by_id t)) in
    let apart = subst (λ (ds : List (DefinitionOf (List ℕ))). Apart {N = List ℕ} x ds) (definitions_all t b m ordered keeps) (all_apart x (meant b es) quiet) in
    ap (λ (ls : List (LineOf (List ℕ) AttrTerm)). rows_about (subject.Op x) (map (line_cells Tag Op Name Path) ls)) (sym (lines_all t b m ordered keeps all possible))
    ∙ no_rows x (lines_with bytes_eq same_type (role_of t) all possible (meant b es)) (all_others x bytes_eq (role_of t) all same_type possible (meant b es) quiet apart)
