-- Definitions for the theorems about folds.
use Rattle.std.specs.Prelude.{◌≡◌, ℕ, ◌<◌, ◌^◌, List, [], ◌∷◌, codes, true, map, Option, Some}
use Rattle.std.specs.List.{All, list_all}
use Rattle.std.specs.Option.{option_map}
use Rattle.ir_types.specs.declared.bits.BitsKind.{BitsKind}
use Rattle.ir_types.specs.declared.bits.BitsKind.TheVariants as kind
use Rattle.ir_types.specs.Things.{ContextModel, IsName, IsType, IsAttr}
use Rattle.ir_types.specs.Terms.{TypeTerm, AttrTerm, type_term}
use Rattle.ir_types.specs.Bits.{width_of}
use Rattle.dialects_int.specs.declared.operations.Arithmetic.{Arithmetic}
use Rattle.dialects_int.specs.declared.operations.Predicate.{Predicate}
use Rattle.dialects_int.specs.declared.operations.Cast.{Cast}
use Rattle.dialects_int.specs.declared.operations.Rule.{Rule}
use Rattle.dialects_int.specs.Arithmetic.{value_of, cast_of, comparison_of, truth, choice_of}
use Rattle.dialects_int.specs.Folds.{Known, rule_of, kind_of, is_property, fold_of, entries_of, property_of, requested}

-- an operation that folds by a rule to constants of a kind, with allowed properties
pub record Folds (name : List ℕ) (r : Rule) (props : List (List ℕ × AttrTerm)) (ty : TypeTerm) (k : BitsKind) : Type 0 where
  pub by : rule_of name ≡ Some r
  pub fine : list_all (is_property name) props ≡ true
  pub kind : kind_of ty ≡ Some k

-- two constants of the kind fold to the result of the arithmetic, also if one is absorbing
abbrev pub PairFolds : List ℕ → Arithmetic → List (List ℕ × AttrTerm) → TypeTerm → BitsKind → Type 0
PairFolds name o props ty k = (a b : ℕ) → a < 2 ^ width_of k → b < 2 ^ width_of k → fold_of name props (Some (k, a) ∷ Some (k, b) ∷ []) (ty ∷ []) ≡ option_map (λ v. (k, v)) (value_of o (width_of k) a b)

abbrev pub CompareFolds : List ℕ → Predicate → List (List ℕ × AttrTerm) → TypeTerm → Type 0
CompareFolds name p props ty = (k : BitsKind) (a b : ℕ) → requested (property_of (codes "predicate") props) ≡ Some p → fold_of name props (Some (k, a) ∷ Some (k, b) ∷ []) (ty ∷ []) ≡ Some (kind.Int 1, truth (comparison_of (width_of k) p a b))

-- a select folds to the selected operand
abbrev pub SelectFolds : List ℕ → List (List ℕ × AttrTerm) → TypeTerm → BitsKind → Type 0
SelectFolds name props ty k = (c a b : ℕ) → fold_of name props (Some (kind.Int 1, c) ∷ Some (k, a) ∷ Some (k, b) ∷ []) (ty ∷ []) ≡ Some (k, choice_of c a b)

abbrev pub ResizeFolds : List ℕ → Cast → List (List ℕ × AttrTerm) → TypeTerm → ℕ → Type 0
ResizeFolds name c props ty w = (v a : ℕ) → fold_of name props (Some (kind.Int v, a) ∷ []) (ty ∷ []) ≡ option_map (λ bits. (kind.Int w, bits)) (cast_of c v w a)

abbrev pub IndexCastFolds : List ℕ → Cast → List (List ℕ × AttrTerm) → TypeTerm → BitsKind → Type 0
IndexCastFolds name c props ty k = (j : BitsKind) (a : ℕ) → fold_of name props (Some (j, a) ∷ []) (ty ∷ []) ≡ option_map (λ bits. (k, bits)) (cast_of c (width_of j) (width_of k) a)

-- a constant folds to its value
abbrev pub ConstantFolds : List ℕ → List (List ℕ × AttrTerm) → TypeTerm → BitsKind → Type 0
ConstantFolds name props ty k = (bits : ℕ) → property_of (codes "value") props ≡ Some (ty, bits) → fold_of name props [] (ty ∷ []) ≡ Some (k, bits)

-- a fold is the same in an extended context
abbrev pub FoldStays : ContextModel → ContextModel → Type 0
FoldStays c d = (name : List ℕ) (props : List (ℕ × ℕ)) (operands : List (Option Known)) (results : List ℕ)
    → All (λ (e : ℕ × ℕ). IsName c e.0 × IsAttr c e.1) props
    → All (λ t. IsType c t) results
    → fold_of name (entries_of d props) operands (map (type_term d) results) ≡ fold_of name (entries_of c props) operands (map (type_term c) results)
