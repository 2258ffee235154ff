-- The rows about an operation are those of its finding, and no row is about a value.
use Rattle.std.proofs.Common.{◌≡◌, ◌∙◌, refl, sym, ap, ℕ, Bool, true, false, cond, eqb, eq-eqb, List, [], ◌∷◌, ◌++◌, map, Option, Some, None}
use Rattle.std.specs.Prelude.{option_map}
use Rattle.std.specs.List.{AllByRecursion}
use Rattle.std.specs.List.Sorted.{IsStrictlySortedBy}
use Rattle.std.specs.Map.{lookup, keys_of}
use Rattle.std.specs.Ordering.{nat_cmp, is_eq}
use Rattle.std.specs.declared.cmp.Ordering.TheVariants.{Less}
use Rattle.std.specs.BTreeMap.{BTreeMap, IsOrdered, get, is_at}
use Rattle.std.proofs.lemmas.Bool.{ne_eqb}
use Rattle.ir_verify_base.specs.events.trees.declared.value.Value.{Value}
use Rattle.ir_verify_base.specs.events.declared.subject.Subject.TheVariants as subject
use Rattle.ir_verify_base.specs.events.Rows.{RowTerm, Op, Rule}
use Rattle.ir_verify_base.specs.events.Subjects.{rows_about}
use Rattle.ir_verify_base.proofs.of_events.Abouts.{all_rows, rows_at, about_none, about_entry}
use Rattle.ir_verify_base.proofs.of_events.ById.{look, Above, Rising}
use Rattle.ir_types.proofs.Truths.{less_than, same_test}
use Rattle.ir_verify.specs.declared.finding.Finding.{Finding}
use Rattle.ir_verify.specs.Diagnostics.{rule_rows, rows_of}
use Rattle.ir_verify.specs.Sets.{reported_rules}

-- an entry with the reported rules
abbrev pub read : ℕ × Finding → ℕ × List ℕ
read e = (e.0, reported_rules e.1)

-- the reported rules of a finding, if there is one
abbrev pub rules_found : Option Finding → List ℕ
rules_found None = []
rules_found (Some f) = reported_rules f

-- ---- the entries of a map

above_read : (x : ℕ) (es : List (ℕ × Finding)) → AllByRecursion (λ y. nat_cmp x y ≡ Less) (keys_of es) → Above x (map read es)
above_read x [] a = tt
above_read x (e ∷ es) a = (less_than x e.0 a.0, above_read x es a.1)

read_rising : (es : List (ℕ × Finding)) → IsStrictlySortedBy nat_cmp (keys_of es) → Rising (map read es)
unfolding IsStrictlySortedBy
read_rising [] s = tt
read_rising (e ∷ es) s = (above_read e.0 es s.0, read_rising es s.1)

look_read : (x : ℕ) (es : List (ℕ × Finding)) → look x (map read es) ≡ option_map reported_rules (lookup (is_at (nat_cmp x)) es)
look_read x [] = refl
look_read x (e ∷ es) =
    ap (λ b. cond b (Some (reported_rules e.1)) (look x (map read es))) (sym (same_test x e.0))
    ∙ ap (cond (is_eq (nat_cmp x e.0)) (Some (reported_rules e.1))) (look_read x es)
    ∙ elim (is_eq (nat_cmp x e.0)) as (λ b. cond b (Some (reported_rules e.1)) (option_map reported_rules (lookup (is_at (nat_cmp x)) es)) ≡ option_map reported_rules (cond b (Some e.1) (lookup (is_at (nat_cmp x)) es)))
    [ true ↦ refl | false ↦ refl ]

-- ---- rows

abbrev entry_rows : ℕ × List ℕ → List RowTerm
entry_rows p = rule_rows p.0 p.1

gathered : (ps : List (ℕ × List ℕ)) → rows_of ps ≡ all_rows entry_rows ps
gathered [] = refl
gathered (p ∷ ps) = ap (λ l. rule_rows p.0 p.1 ++ l) (gathered ps)

others : (x y : ℕ) → (x ≡ y → ⊥) → (rs : List ℕ) → rows_about (subject.Op x) (rule_rows y rs) ≡ []
others x y ne [] = refl
others x y ne (r ∷ rs) =
    ap (λ b. cond b ((Op y ∷ Rule r ∷ []) ∷ rows_about (subject.Op x) (rule_rows y rs)) (rows_about (subject.Op x) (rule_rows y rs))) (ne_eqb y x (λ e. ne (sym e)))
    ∙ others x y ne rs

own : (x : ℕ) (rs : List ℕ) → rows_about (subject.Op x) (rule_rows x rs) ≡ rule_rows x rs
own x [] = refl
own x (r ∷ rs) =
    ap (λ b. cond b ((Op x ∷ Rule r ∷ []) ∷ rows_about (subject.Op x) (rule_rows x rs)) (rows_about (subject.Op x) (rule_rows x rs))) (eq-eqb x x refl)
    ∙ ap (λ l. (Op x ∷ Rule r ∷ []) ∷ l) (own x rs)

found_rows : (x : ℕ) (f : Option Finding) → rows_at (subject.Op x) entry_rows x (option_map reported_rules f) ≡ rule_rows x (rules_found f)
found_rows x None = refl
found_rows x (Some f) = own x (reported_rules f)

pub about_findings : (x : ℕ) (table : BTreeMap ℕ Finding) → IsOrdered nat_cmp table → rows_about (subject.Op x) (rows_of (map read table.entries)) ≡ rule_rows x (rules_found (get nat_cmp table x))
about_findings x table ordered =
    ap (rows_about (subject.Op x)) (gathered (map read table.entries))
    ∙ about_entry (subject.Op x) entry_rows x (λ p ne. others x p.0 ne p.1) (map read table.entries) (read_rising table.entries ordered)
    ∙ ap (rows_at (subject.Op x) entry_rows x) (look_read x table.entries)
    ∙ found_rows x (get nat_cmp table x)

none : (v : Value) (y : ℕ) (rs : List ℕ) → rows_about (subject.Val v) (rule_rows y rs) ≡ []
none v y [] = refl
none v y (r ∷ rs) = none v y rs

pub no_findings : (v : Value) (es : List (ℕ × Finding)) → rows_about (subject.Val v) (rows_of (map read es)) ≡ []
no_findings v es = ap (rows_about (subject.Val v)) (gathered (map read es)) ∙ about_none (subject.Val v) entry_rows (λ p. none v p.0 p.1) (map read es)
