-- The rules of arithmetic apply only at arithmetic operations.
use Rattle.std.proofs.Common.{◌≡◌, ℕ, refl, ap, sym, ◌∙◌, List, [], ◌∷◌, Bool, true, false, true≢false, ◌&&◌, ◌||◌, not, eqb-true, Some, ◌⊎◌, inl, inr}
use Rattle.std.specs.Prelude.{nat_le, unwrap_or}
use Rattle.std.specs.List.{list_all, list_any}
use Rattle.std.proofs.lemmas.Bool.{and_parts, or_cases}
use Rattle.std.proofs.lemmas.Option.{none-some}
use Rattle.ir_tree.specs.declared.place.Place.{Place}
use Rattle.ir_tree.specs.Tree.{head}
use Rattle.ir_tree.specs.Meaning.{Operation}
use Rattle.ir_tree_laws.proofs.Listed.{bool_cases}
use Rattle.dialects_int.specs.Folds.{rule_of, rules}
use Rattle.patterns_laws.specs.Keeps.{Each}
use Rattle.rewriter_machine.specs.Contents.{Edit}
use Rattle.patterns_base.specs.declared.rule.Rule.{Rule}
use Rattle.patterns_base.specs.RuleNames.{number_of, same_rule}
use Rattle.patterns_base.specs.Rules.{has_rule, rule, rules_for, table}
use Rattle.patterns_refinement.specs.Choices.{is_select}
use Rattle.patterns_refinement.proofs.Verified.{asks_kind}
use Rattle.patterns_base.proofs.Dispatch.{next_to_or, only_listed}

-- the rules of arithmetic, by their numbers: all except those that erase dead operations, replace a `select` of any type,
-- remove casts back, simplify loops and conditionals, and lower operations
abbrev is_numeric_number : ℕ → Bool
is_numeric_number n = ((nat_le 2 n && nat_le n 14) || (nat_le 17 n && nat_le n 17)) || ((nat_le 19 n && nat_le n 20) || (nat_le 25 n && nat_le n 27))

abbrev pub is_numeric : Rule → Bool
is_numeric r = is_numeric_number (number_of r)

abbrev has_numeric : List ℕ → Bool
has_numeric name = list_any is_numeric (rules_for name)

any_numeric : (r : Rule) → is_numeric r ≡ true → (rs : List Rule) → list_any (same_rule r) rs ≡ true → list_any is_numeric rs ≡ true
any_numeric r n [] e = absurd (true≢false (sym e))
any_numeric r n (s ∷ rs) e = go (or_cases (same_rule r s) (list_any (same_rule r) rs) e) (any_numeric r n rs)
  where
    or_true : (b : Bool) → list_any is_numeric rs ≡ true → (b || list_any is_numeric rs) ≡ true
    or_true true e = refl
    or_true false e = e

    go : (same_rule r s ≡ true) ⊎ (list_any (same_rule r) rs ≡ true) → (list_any (same_rule r) rs ≡ true → list_any is_numeric rs ≡ true) → (is_numeric s || list_any is_numeric rs) ≡ true
    go (inl i) more = ap (λ b. b || list_any is_numeric rs) (ap is_numeric_number (sym (eqb-true (number_of r) (number_of s) i)) ∙ n)
    go (inr i) more = or_true (is_numeric s) (more i)

abbrev IsOfArithmetic : List ℕ → Type 0
IsOfArithmetic name = has_numeric name ≡ true → asks_kind (rule_of name) ≡ true

-- each row of the table
abbrev row_passes : List ℕ × List Rule → Bool
row_passes row = not (has_numeric row.0) || asks_kind (rule_of row.0)

all_pass : (rows : List (List ℕ × List Rule)) → list_all row_passes rows ≡ true → Each (λ (row : List ℕ × List Rule). IsOfArithmetic row.0) rows
all_pass [] e = tt
all_pass (row ∷ rows) e =
    let p = and_parts (row_passes row) (list_all row_passes rows) e in
    ((λ i. go (has_numeric row.0) (asks_kind (rule_of row.0)) i p.0), all_pass rows p.1)
  where
    go : (b c : Bool) → b ≡ true → (not b || c) ≡ true → c ≡ true
    go true c i e = e
    go false c i e = absurd (true≢false (sym i))

table_passes : list_all row_passes table ≡ true
unfolding rules_for table rule_of rules
table_passes = refl

of_arithmetic : (name : List ℕ) → IsOfArithmetic name
unfolding rules_for
of_arithmetic name = next_to_or IsOfArithmetic table name (all_pass table table_passes) (λ none e. absurd (true≢false (sym (sym (ap (λ rs. list_any is_numeric (unwrap_or rs [])) none) ∙ e))))

-- if such a rule applies at an operation, the operation has the name of an arithmetic operation
pub numeric_named : (r : Rule) (t : Operation) (n : ℕ) (insertion : Place) (o : Operation) (es : List Edit) → is_numeric r ≡ true → rule r t n insertion o ≡ Some es → asks_kind (rule_of (head o).name) ≡ true
numeric_named r t n insertion o es i e = go (bool_cases (has_rule r (head o).name))
  where
    go : (has_rule r (head o).name ≡ true) ⊎ (has_rule r (head o).name ≡ false) → asks_kind (rule_of (head o).name) ≡ true
    go (inl h) = of_arithmetic (head o).name (any_numeric r i (rules_for (head o).name) h)
    go (inr h) = absurd (none-some es (sym (only_listed r t n insertion o h) ∙ e))

-- ---- the rules of a `select`
abbrev is_select_number : ℕ → Bool
is_select_number n = (nat_le 1 n && nat_le n 2) || ((nat_le 15 n && nat_le n 18) || (nat_le 28 n && nat_le n 28))

-- Returns whether a rule may apply to a `select`.
abbrev pub may_select : Rule → Bool
may_select r = is_select_number (number_of r)

abbrev are_of_select : List ℕ → Bool
are_of_select name = list_all may_select (rules_for name)

all_of_select : (r : Rule) → may_select r ≡ false → (rs : List Rule) → list_all may_select rs ≡ true → list_any (same_rule r) rs ≡ false
all_of_select r n [] e = refl
all_of_select r n (s ∷ rs) e =
    let p = and_parts (may_select s) (list_all may_select rs) e in
    (λ i. go (bool_cases (same_rule r s)) p.0 i || all_of_select r n rs p.1 i)
  where
    go : (same_rule r s ≡ true) ⊎ (same_rule r s ≡ false) → may_select s ≡ true → same_rule r s ≡ false
    go (inl i) m = absurd (true≢false (sym m ∙ ap is_select_number (sym (eqb-true (number_of r) (number_of s) i)) ∙ n))
    go (inr i) m = i

abbrev row_selects : List ℕ × List Rule → Bool
row_selects row = not (is_select (rule_of row.0)) || are_of_select row.0

abbrev IsOfSelect : List ℕ → Type 0
IsOfSelect name = is_select (rule_of name) ≡ true → are_of_select name ≡ true

all_select : (rows : List (List ℕ × List Rule)) → list_all row_selects rows ≡ true → Each (λ (row : List ℕ × List Rule). IsOfSelect row.0) rows
all_select [] e = tt
all_select (row ∷ rows) e =
    let p = and_parts (row_selects row) (list_all row_selects rows) e in
    ((λ i. go (is_select (rule_of row.0)) (are_of_select row.0) i p.0), all_select rows p.1)
  where
    go : (b c : Bool) → b ≡ true → (not b || c) ≡ true → c ≡ true
    go true c i e = e
    go false c i e = absurd (true≢false (sym i))

table_selects : list_all row_selects table ≡ true
unfolding rules_for table rule_of rules
table_selects = refl

of_select : (name : List ℕ) → IsOfSelect name
unfolding rules_for
of_select name = next_to_or IsOfSelect table name (all_select table table_selects) (λ none e. ap (λ rs. list_all may_select (unwrap_or rs [])) none)

-- another rule doesn't apply to a `select`
pub others_select_not : (r : Rule) (t : Operation) (n : ℕ) (insertion : Place) (o : Operation) (es : List Edit) → may_select r ≡ false → rule r t n insertion o ≡ Some es → is_select (rule_of (head o).name) ≡ false
others_select_not r t n insertion o es i e = go (bool_cases (is_select (rule_of (head o).name)))
  where
    go : (is_select (rule_of (head o).name) ≡ true) ⊎ (is_select (rule_of (head o).name) ≡ false) → is_select (rule_of (head o).name) ≡ false
    go (inl s) = absurd (none-some es (sym (only_listed r t n insertion o (all_of_select r i (rules_for (head o).name) (of_select (head o).name s))) ∙ e))
    go (inr s) = s
