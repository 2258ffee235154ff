-- If a step has a value, the fold of its operation over known operands gives that value.
use Rattle.std.specs.Prelude.{◌≡◌, ℕ, List, [], ◌∷◌, ◌<◌, ◌^◌, true, Some, None, ◌⊎◌, codes}
use Rattle.ir_types.specs.declared.bits.BitsKind.{BitsKind}
use Rattle.ir_types.specs.declared.bits.BitsKind.TheVariants as kind
use Rattle.ir_types.specs.Terms.{TypeTerm, AttrTerm}
use Rattle.ir_types.specs.Bits.{width_of}
use Rattle.dialects_int.specs.declared.operations.Arithmetic.{Arithmetic}
use Rattle.dialects_int.specs.declared.operations.Predicate.{Predicate}
use Rattle.dialects_int.specs.declared.operations.Cast.{Cast}
use Rattle.dialects_int.specs.declared.operations.Rule.TheVariants as rule
use Rattle.dialects_int.specs.Arithmetic.{value_of}
use Rattle.dialects_int.specs.FoldLaws.{Folds}
use Rattle.dialects_int.specs.Folds.{Known, requested, fold_of, property_of}
use Rattle.user_patterns_check.specs.Outcomes.{compare_outcome, is_signed_remainder, pair_outcome, resize_outcome, select_outcome}

-- a remainder whose quotient overflows, which is 0 and folds to nothing
abbrev pub IsOverflow : Arithmetic → BitsKind → ℕ → ℕ → Known → Type 0
IsOverflow o k a b v = (is_signed_remainder o ≡ true) × (value_of o (width_of k) a b ≡ None) × (v ≡ (k, 0))

-- binary operations
abbrev pub FoldsGive : Type 0
FoldsGive =
    (name : List ℕ) (o : Arithmetic) (props : List (List ℕ × AttrTerm)) (ty : TypeTerm) (k : BitsKind) → Folds name (rule.Binary o) props ty k
    → (a b : ℕ) (v : Known) → a < 2 ^ width_of k → b < 2 ^ width_of k → pair_outcome o (Some (k, a)) (Some (k, b)) ≡ Some (Some v)
    → (fold_of name props (Some (k, a) ∷ Some (k, b) ∷ []) (ty ∷ []) ≡ Some v) ⊎ IsOverflow o k a b v

-- comparisons
abbrev pub ComparisonsGive : Type 0
ComparisonsGive =
    (name : List ℕ) (p : Predicate) (props : List (List ℕ × AttrTerm)) (ty : TypeTerm) → Folds name rule.Compare props ty (kind.Int 1)
    → requested (property_of (codes "predicate") props) ≡ Some p
    → (k : BitsKind) (a b : ℕ) (v : Known) → compare_outcome p (Some (k, a)) (Some (k, b)) ≡ Some (Some v)
    → fold_of name props (Some (k, a) ∷ Some (k, b) ∷ []) (ty ∷ []) ≡ Some v

-- `select`
abbrev pub ChoicesGive : Type 0
ChoicesGive =
    (name : List ℕ) (props : List (List ℕ × AttrTerm)) (ty : TypeTerm) (k : BitsKind) → Folds name rule.Select props ty k
    → (c a b : ℕ) (v : Known) → select_outcome (Some (kind.Int 1, c)) (Some (k, a)) (Some (k, b)) ≡ Some (Some v)
    → fold_of name props (Some (kind.Int 1, c) ∷ Some (k, a) ∷ Some (k, b) ∷ []) (ty ∷ []) ≡ Some v

-- casts between integer types, and index casts
abbrev pub CastsGive : Type 0
CastsGive =
    (name : List ℕ) (c : Cast) (props : List (List ℕ × AttrTerm)) (ty : TypeTerm) (w : ℕ) → Folds name (rule.IntegerCast c) props ty (kind.Int w)
    → (u a : ℕ) (v : Known) → resize_outcome c (kind.Int w) (Some (kind.Int u, a)) ≡ Some (Some v)
    → fold_of name props (Some (kind.Int u, a) ∷ []) (ty ∷ []) ≡ Some v

abbrev pub IndexCastsGive : Type 0
IndexCastsGive =
    (name : List ℕ) (c : Cast) (props : List (List ℕ × AttrTerm)) (ty : TypeTerm) (k : BitsKind) → Folds name (rule.IndexCast c) props ty k
    → (j : BitsKind) (a : ℕ) (v : Known) → resize_outcome c k (Some (j, a)) ≡ Some (Some v)
    → fold_of name props (Some (j, a) ∷ []) (ty ∷ []) ≡ Some v
