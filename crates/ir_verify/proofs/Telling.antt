-- The set of an operation has the rules that it breaks, and the rows of a table of such sets are those of the tree.
use Rattle.std.proofs.Common.{◌≡◌, refl, sym, ap, ◌∙◌, subst, ℕ, ◌≤◌, Bool, List, [], ◌∷◌, ◌++◌, length, map, cond, false, true≢false, eqb-true, inl, inr, not, Option, Some, None, arith}
use Rattle.std.specs.Prelude.{option_map, codes, ◌==◌, ◌&&◌}
use Rattle.std.specs.List.{All, filter}
use Rattle.std.specs.Ordering.{nat_cmp}
use Rattle.std.specs.BTreeMap.{BTreeMap, IsOrdered, get}
use Rattle.std.specs.declared.cmp.Ordering.TheVariants.{Less, Equal, Greater}
use Rattle.std.specs.FinMap.Entries.{put, by_order}
use Rattle.std.proofs.lemmas.List.{map-append}
use Rattle.std.proofs.lemmas.List.Elements.{All-nil, All-cons, All-head, All-tail, All-append}
use Rattle.ir_types.specs.Things.{ContextModel}
use Rattle.ir_tree.specs.Meaning.{Operation}
use Rattle.ir_tree_laws.specs.Stands.{OpWithPathOf, op_with_path_id, stands}
use Rattle.ir_tree_laws.proofs.Listed.{bool_cases}
use Rattle.op_registry.specs.Rows.{Row}
use Rattle.op_registry.specs.Registry.{row_of}
use Rattle.ir_verify_base.specs.events.declared.row.Cell.{Cell}
use Rattle.ir_verify_base.specs.events.declared.row.Cell.TheVariants.{Op, Rule}
use Rattle.ir_verify_base.specs.events.declared.row.Row.{Row as Line}
use Rattle.ir_verify_base.specs.events.declared.subject.Subject.{Subject}
use Rattle.ir_verify_base.specs.events.declared.subject.Subject.TheVariants as subject
use Rattle.ir_verify_base.specs.events.Subjects.{rows_about}
use Rattle.ir_verify_base.specs.events.Rows.{cell_meaning, rows_meaning, CellIsOf, RowIsOf, Shows}
use Rattle.ir_verify_base.specs.Surroundings.{surround, surroundings}
use Rattle.ir_verify_base.specs.Facts.{fact_of, sorted_in, sorted_facts, kept_facts}
use Rattle.ir_verify_base.specs.Fits.{Surroundings, is_named}
use Rattle.ir_verify.specs.declared.rules.RuleSet.{RuleSet}
use Rattle.ir_verify.specs.declared.finding.Finding.{Finding}
use Rattle.ir_verify.specs.Breaks.{broken_rules_in, broken, numbers_from}
use Rattle.ir_verify.specs.Beyond.{is_beyond, is_on_types, reported}
use Rattle.ir_verify.specs.Sets.{bits_of, rules_in, has_any, set_of, finding_of, breaks_any, is_reported, reported_rules}
use Rattle.ir_verify.specs.Diagnostics.{broken_at, rule_rows, rows_of, diagnostics_of}
use Rattle.ir_verify.specs.Reports.{rule_cells, rules_cells, all_cells, cells_about, found_cells}
use Rattle.ir_verify.proofs.Abouts.{about_findings, no_findings, read, rules_found}
use Rattle.ir_verify.proofs.Sets.{unpacked, none}

few : (row : Option Row) (s : Surroundings) → length (broken_rules_in row s) ≤ 24
few None s = omega arith
few (Some row) s = omega arith

pub rules_broken : (s : Surroundings) → rules_in (set_of s) ≡ broken s
unfolding rules_in
rules_broken s = unpacked 24 1 (broken_rules_in (row_of s.node.head.name) s) (few (row_of s.node.head.name) s)

-- the set of an operation gives its broken rules
pub set_read : (x : ℕ) (t : Operation) (o : Option RuleSet) → o ≡ fact_of set_of t x → option_map rules_in o ≡ broken_at x t
set_read x t o e = ap (option_map rules_in) e ∙ go (surroundings x t)
  where
    go : (s : Option Surroundings) → option_map rules_in (option_map set_of s) ≡ option_map broken s
    go None = refl
    go (Some s) = ap Some (rules_broken s)

-- an operation that breaks no rule has no row
no_bits : (n : ℕ) → not (n == 0) ≡ false → n ≡ 0
no_bits n e = elim (bool_cases (n == 0)) [ inl k ↦ eqb-true n 0 k | inr k ↦ absurd (true≢false (sym (ap not k) ∙ e)) ]

pub no_rules : (set : RuleSet) → has_any set ≡ false → rules_in set ≡ []
unfolding rules_in
no_rules set e = ap (λ n. numbers_from 1 (bits_of 24 n)) (no_bits set.bits e) ∙ none 24 1

-- the finding about an operation gives its reported rules
abbrev pub is_reported_of : Surroundings → ℕ → Bool
is_reported_of s r = not (is_beyond s && is_on_types (is_named s.node (codes "arith.constant")) r)

pub finding_read : (s : Surroundings) → reported_rules (finding_of s) ≡ reported s
unfolding reported_rules
finding_read s = elim (bool_cases (has_any (set_of s))) [
  | inl k ↦ ap (λ b. filter (λ r. not ((b && is_beyond s) && is_on_types (is_named s.node (codes "arith.constant")) r)) (rules_in (set_of s))) k ∙ ap (filter (is_reported_of s)) (rules_broken s)
  | inr k ↦ ap (filter (is_reported (finding_of s))) (no_rules (set_of s) k) ∙ sym (ap (filter (is_reported_of s)) (sym (rules_broken s) ∙ no_rules (set_of s) k))
]

none_reported : (f : Finding) → breaks_any f ≡ false → reported_rules f ≡ []
unfolding reported_rules
none_reported f e = ap (filter (is_reported f)) (no_rules f.broken e)

-- ---- tables of findings
put_read : (x : ℕ) (r : Finding) (es : List (ℕ × Finding)) → map read (put nat_cmp x r es) ≡ put nat_cmp x (reported_rules r) (map read es)
put_read x r [] = refl
put_read x r (e ∷ es) = elim (nat_cmp x e.0) as (λ o. map read (by_order o ((x, r) ∷ e ∷ es) ((e.0, r) ∷ es) (e ∷ put nat_cmp x r es)) ≡ by_order o ((x, reported_rules r) ∷ read e ∷ map read es) ((e.0, reported_rules r) ∷ map read es) (read e ∷ put nat_cmp x (reported_rules r) (map read es))) [
  | Less ↦ refl
  | Equal ↦ refl
  | Greater ↦ ap (λ l. read e ∷ l) (put_read x r es)
]

facts_read : (t : Operation) (ss : List (OpWithPathOf (List ℕ) _ _)) → map read (sorted_in finding_of t ss) ≡ sorted_in reported t ss
facts_read t [] = refl
facts_read t (s ∷ ss) = put_read (op_with_path_id s) (finding_of (surround t s)) (sorted_in finding_of t ss) ∙ λ i. put nat_cmp (op_with_path_id s) (finding_read (surround t s) i) (facts_read t ss i)

all_rows : (es : List (ℕ × Finding)) → rows_of (map read (filter (λ (e : ℕ × Finding). breaks_any e.1) es)) ≡ rows_of (map read es)
all_rows [] = refl
all_rows (e ∷ es) =
    let rest = filter (λ (e : ℕ × Finding). breaks_any e.1) es in
    elim (bool_cases (breaks_any e.1)) [
      | inl k ↦ ap (λ b. rows_of (map read (cond b (e ∷ rest) rest))) k ∙ ap (λ l. rule_rows e.0 (reported_rules e.1) ++ l) (all_rows es)
      | inr k ↦ ap (λ b. rows_of (map read (cond b (e ∷ rest) rest))) k ∙ all_rows es ∙ sym (ap (λ l. rule_rows e.0 l ++ rows_of (map read es)) (none_reported e.1 k))
    ]

-- ---- rows
module _ (c : ContextModel) where
  cells_say : (x : ℕ) (rs : List ℕ) → map (map (cell_meaning c)) (rules_cells x rs) ≡ rule_rows x rs
  cells_say x [] = refl
  cells_say x (r ∷ rs) = ap (λ l. map (cell_meaning c) (rule_cells x r) ∷ l) (cells_say x rs)

  all_say : (es : List (ℕ × Finding)) → map (map (cell_meaning c)) (all_cells es) ≡ rows_of (map read es)
  all_say [] = refl
  all_say (e ∷ es) = map-append (map (cell_meaning c)) (rules_cells e.0 (reported_rules e.1)) (all_cells es) ∙ λ i. cells_say e.0 (reported_rules e.1) i ++ all_say es i

  lines_say : (rows : List Line) → rows_meaning c rows ≡ map (map (cell_meaning c)) (map (λ (r : Line). r.cells.items) rows)
  lines_say [] = refl
  lines_say (r ∷ rows) = ap (λ l. map (cell_meaning c) r.cells.items ∷ l) (lines_say rows)

  abbrev AreOf : List (List Cell) → Type 0
  AreOf = All (λ cells. All (CellIsOf c) cells)

  cells_known : (x : ℕ) (rs : List ℕ) → AreOf (rules_cells x rs)
  cells_known x [] = All-nil (λ cells. All (CellIsOf c) cells)
  cells_known x (r ∷ rs) =
      All-cons (λ cells. All (CellIsOf c) cells) (rule_cells x r) (rules_cells x rs)
      (All-cons (CellIsOf c) (Op x) (Rule r ∷ []) (tt {0}) (All-cons (CellIsOf c) (Rule r) [] (tt {0}) (All-nil (CellIsOf c)))) (cells_known x rs)

  all_known : (es : List (ℕ × Finding)) → AreOf (all_cells es)
  all_known [] = All-nil (λ cells. All (CellIsOf c) cells)
  all_known (e ∷ es) = All-append (λ cells. All (CellIsOf c) cells) (rules_cells e.0 (reported_rules e.1)) (all_cells es) (cells_known e.0 (reported_rules e.1)) (all_known es)

  lines_known : (rows : List Line) → AreOf (map (λ (r : Line). r.cells.items) rows) → All (RowIsOf c) rows
  lines_known [] a = All-nil (RowIsOf c)
  lines_known (r ∷ rows) a = All-cons (RowIsOf c) r rows (All-head (λ cells. All (CellIsOf c) cells) r.cells.items _ a) (lines_known rows (All-tail (λ cells. All (CellIsOf c) cells) r.cells.items _ a))

  pub shows_diagnostics : (t : Operation) (es : List (ℕ × Finding)) (rows : List Line) → es ≡ kept_facts finding_of breaks_any t → map (λ (r : Line). r.cells.items) rows ≡ all_cells es → Shows c rows (diagnostics_of t)
  shows_diagnostics t es rows e is = record {
    says = lines_say rows ∙ ap (map (map (cell_meaning c))) is ∙ all_say es ∙ ap (λ l. rows_of (map read l)) e ∙ all_rows (sorted_facts finding_of t) ∙ ap rows_of (facts_read t (stands [] t));
    known = lines_known rows (subst AreOf (sym is) (all_known es));
  }

  -- the rows of a table's findings are those of the tree
  diagnostics_read : (t : Operation) (es : List (ℕ × Finding)) → es ≡ kept_facts finding_of breaks_any t → rows_of (map read es) ≡ diagnostics_of t
  diagnostics_read t es e = ap (λ l. rows_of (map read l)) e ∙ all_rows (sorted_facts finding_of t) ∙ ap rows_of (facts_read t (stands [] t))

  found_say : (x : ℕ) (f : Option Finding) → map (map (cell_meaning c)) (found_cells x f) ≡ rule_rows x (rules_found f)
  found_say x None = refl
  found_say x (Some f) = cells_say x (reported_rules f)

  found_known : (x : ℕ) (f : Option Finding) → AreOf (found_cells x f)
  found_known x None = All-nil (λ cells. All (CellIsOf c) cells)
  found_known x (Some f) = cells_known x (reported_rules f)

  -- the rows about a subject
  pub shows_diagnostics_about : (s : Subject) (t : Operation) (table : BTreeMap ℕ Finding) (rows : List Line) → IsOrdered nat_cmp table → table.entries ≡ kept_facts finding_of breaks_any t → map (λ (r : Line). r.cells.items) rows ≡ cells_about s table → Shows c rows (rows_about s (diagnostics_of t))
  shows_diagnostics_about (subject.Op x) t table rows ordered e is = record {
    says = lines_say rows ∙ ap (map (map (cell_meaning c))) is ∙ found_say x (get nat_cmp table x) ∙ sym (about_findings x table ordered) ∙ ap (rows_about (subject.Op x)) (diagnostics_read t table.entries e);
    known = lines_known rows (subst AreOf (sym is) (found_known x (get nat_cmp table x)));
  }
  shows_diagnostics_about (subject.Val v) t table rows ordered e is = record {
    says = lines_say rows ∙ ap (map (map (cell_meaning c))) is ∙ sym (no_findings v table.entries) ∙ ap (rows_about (subject.Val v)) (diagnostics_read t table.entries e);
    known = lines_known rows (subst AreOf (sym is) (All-nil (λ cells. All (CellIsOf c) cells)));
  }
